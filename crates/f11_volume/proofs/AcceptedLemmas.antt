-- An image is accepted exactly where it is sound.
use Rattle.std.proofs.Common.{◌≡◌, ◌≤◌, ◌<◌, ◌+◌, ◌⊎◌, inl, inr, ℕ, zero, suc, refl, sym, subst, ◌∙◌, arith, List, length, Option, Some}
use Rattle.std.proofs.Common.{None, ◌↔◌}
use Rattle.std.specs.Prelude.{All, Contains, slice_range, codes}
use Rattle.std.proofs.lemmas.Bool.{cases_eq}
use Rattle.std.proofs.lemmas.Option.{none-some}
use Rattle.f11_bytes.specs.Words.{word, word_sum}
use Rattle.f11_dev.specs.Image.{Image, IsImage, image_block}
use Rattle.f11_chain.specs.header.Header.{holds_header}
use Rattle.f11_chain.specs.header.Fields.{file_number, check_word}
use Rattle.f11_chain.specs.home.Home.{HomeFields, candidate, candidates, IsCandidate, fields_of, IsHomeOf, HasNoHome}
use Rattle.f11_chain.specs.home.HomeBlock.{index_blocks, index_lbn, HasHomeFields, IsHomeBlock}
use Rattle.f11_chain.proofs.home.HomeLemmas.{home-unique, HasNoHome-all}
use Rattle.f11_chain.specs.map.HeaderBlock.{segment_number, link_of, blocks_named}
use Rattle.f11_chain.specs.index.IndexFile.{Index, index_of, slots, slot_bit, header_lbn, IsPastSlots, IsFirstPast, HasNonePast}
use Rattle.f11_chain.specs.index.Sound.{IsPlaced, IsIndexFile}
use Rattle.f11_chain.specs.index.Table.{Table, table_in, table_of, IsFile, IsNext, IsHeaderOf, IsWholeFile, first, next}
use Rattle.f11_chain.proofs.index.ChainLemmas.{file_of-header, Links, same-segment, links-before}
use Rattle.f11_chain.specs.FileHeaders.{file_blocks}
use Rattle.f11_chain.proofs.index.SegmentLemmas.{segment_number-byte}
use Rattle.f11_chain.specs.index.Headers.{next_of}
use Rattle.f11_volume.specs.Earlier.{IsNamedIn}
use Rattle.f11_volume.specs.Faults.{EarlierAreNamed, IsOwnFile, IsBitmapFile, HasIndexFile, HasOwnFiles, HasBitmapFile, HasControlBlock}
use Rattle.f11_volume.specs.Faults.{IsFramed, IsFaultBehindHome, index_misplaced, own_file_bad, bitmap_file_bad, control_block_wrong}
use Rattle.f11_volume.specs.Faults.{bit_past_slots, no_home, behind_home}
use Rattle.f11_volume.specs.Sound.{IsSoundVolume, HasSoundVolume, IsSoundImage}
use Rattle.f11_volume.specs.Space.{IsControlBlock}
use Rattle.f11_volume.specs.Verdict.{of_frame, of_volume, IsAccepted}
use Rattle.f11_volume.specs.Volume.{volume_of}
use Rattle.f11_volume.proofs.DecideLemmas.{Decided, stable, like, both, either, less, at-most, truth, same-list, is-some, member, least}
use Rattle.f11_volume.proofs.FrameLemmas.{frame-none}
use Rattle.f11_chain.proofs.index.NextLemmas.{next-found}
use Rattle.f11_volume.proofs.SoundLemmas.{same-stable, less-stable, live-stable, next-stable, no-fault-sound}

-- whether a block is a home block
home-fields : (b : List ℕ) (blocks : ℕ) → Decided (HasHomeFields b blocks)
home-fields b blocks = like
    (λ is. record {
      some_bitmap = is.0;
      small_bitmap = is.1.0;
      index_placed = is.1.1.0;
      index_within = is.1.1.1.0;
      cluster = is.1.1.1.1.0;
      level = is.1.1.1.1.1.0;
      format = is.1.1.1.1.1.1;
    })
    (λ is. (is.some_bitmap, (is.small_bitmap, (is.index_placed, (is.index_within, (is.cluster, (is.level, is.format)))))))
    (both (less 0 (index_blocks b))
    (both (at-most (index_blocks b) 16) (both (less 0 (index_lbn b)) (both (at-most (index_lbn b + index_blocks b + 16) blocks)
    (both (cases_eq (word b 8) 1)
    (both (either (cases_eq (word b 12) 257) (cases_eq (word b 12) 258))
    (same-list (slice_range b 496 508) (codes "DECFILE11A  "))))))))

home-block : (b : List ℕ) (blocks : ℕ) → Decided (IsHomeBlock b blocks)
home-block b blocks = like
    (λ is. record { fields = is.0; sums = record { first = is.1.0; second = is.1.1 } })
    (λ is. (is.fields, (is.sums.first, is.sums.second)))
    (both (home-fields b blocks) (both (cases_eq (word b 58) (word_sum b 29)) (cases_eq (word b 510) (word_sum b 255))))

home-candidate : (image : Image) (k : ℕ) → Decided (IsCandidate image k)
home-candidate image k = like
    (λ is. record { within = is.0; valid = is.1 })
    (λ is. (is.within, is.valid))
    (both (less (candidate k) (length image)) (home-block (image_block image (candidate k)) (length image)))

-- the home block of an image, or that it has none
home-found : (image : Image) → ¬ HasNoHome image → (home : HomeFields) × IsHomeOf image home
home-found image some = elim (least (IsCandidate image) (home-candidate image) (candidates (length image))) [
  | inl found ↦ (
    fields_of (candidate found.0) (image_block image (candidate found.0)),
    record { place = found.0; found = found.2.at; first = found.2.first; fields = refl },
  )
  | inr none ↦ absurd (some (HasNoHome-all image none))
]

-- what can't fail of a file
file-stable : (t : Table) (n : ℕ) → ¬ (¬ IsFile t n) → IsFile t n
file-stable t n q = record {
  live = live-stable t n (λ not. q (λ is. not is.live));
  first = same-stable _ _ (λ not. q (λ is. not is.first));
}

whole-stable : (t : Table) (f : ℕ) → ¬ (¬ IsWholeFile t f) → IsWholeFile t f
whole-stable t f q = record {
  file = file-stable t f (λ not. q (λ is. not is.file));
  links = λ n of. elim (cases_eq (link_of (t.header n)).number 0) [
    | inl none ↦ inl none
    | inr some ↦ inr (next-stable t n _ (λ not. q (λ is. elim (is.links n of) [ inl none ↦ some none | inr goes ↦ not goes ])))
  ];
}

within-stable : (n : ℕ) (xs : List ℕ) → ¬ (¬ All (λ x. x < n) xs) → All (λ x. x < n) xs
within-stable n xs q = λ k d below. less-stable _ _ (λ not. q (λ all. not (all k d below)))

placed-stable : (home : HomeFields) (blocks : List ℕ) → ¬ (¬ IsPlaced home blocks) → IsPlaced home blocks
placed-stable home blocks q = record {
  boot = stable (is-some _ _) (λ not. q (λ is. not is.boot));
  home_block = stable (is-some _ _) (λ not. q (λ is. not is.home_block));
  bitmap_and_headers = λ i below. stable (is-some _ _) (λ not. q (λ is. not (is.bitmap_and_headers i below)));
}

index-stable : (image : Image) (home : HomeFields) → ¬ (¬ IsIndexFile image home) → IsIndexFile image home
index-stable image home q = record {
  whole = whole-stable _ 1 (λ not. q (λ is. not is.whole));
  sequence = same-stable _ _ (λ not. q (λ is. not is.sequence));
  within = within-stable _ _ (λ not. q (λ is. not is.within));
  placed = placed-stable home _ (λ not. q (λ is. not is.placed));
}

module _ (t : Table) (f lbn : ℕ) where
  -- no header of the file names it, of this segment on and before another
  abbrev NotFrom : ℕ → ℕ → Type 0
  NotFrom from most =
      (m : ℕ) → IsHeaderOf t f m → from ≤ segment_number (t.header m) → segment_number (t.header m) < from + most
      → ¬ Contains (blocks_named (t.header m)) lbn

  not-last : (n most : ℕ) → IsHeaderOf t f n → ((m : ℕ) → ¬ IsNext t n m) → ¬ Contains (blocks_named (t.header n)) lbn
      → NotFrom (segment_number (t.header n)) (suc most)
  not-last n most of last not m also from below names = elim (cases_eq (segment_number (t.header m)) (segment_number (t.header n))) [
    | inl same ↦ not (subst (λ (k : ℕ). Contains (blocks_named (t.header k)) lbn) (same-segment also of same) names)
    | inr differ ↦
        let before : Links t f (segment_number (t.header n)) = links-before (segment_number (t.header n)) also (omega (arith, from, differ))
        in
        last before.to (subst (λ (k : ℕ). IsNext t k before.to) (same-segment before.of of before.number) before.goes)
  ]

  not-before : (n to most : ℕ) → IsHeaderOf t f n → IsNext t n to → ¬ Contains (blocks_named (t.header n)) lbn
      → NotFrom (segment_number (t.header to)) most → NotFrom (segment_number (t.header n)) (suc most)
  not-before n to most of goes not rest m also from below names =
      elim (cases_eq (segment_number (t.header m)) (segment_number (t.header n))) [
        | inl same ↦ not (subst (λ (k : ℕ). Contains (blocks_named (t.header k)) lbn) (same-segment also of same) names)
        | inr differ ↦ rest m also (omega (arith, from, differ, goes.segment)) (omega (arith, below, goes.segment)) names
      ]

  search-from : (most n : ℕ) → IsHeaderOf t f n → IsNamedIn t f lbn ⊎ NotFrom (segment_number (t.header n)) most
  search-from zero n of = inr (λ m also from below. absurd (omega (arith, from, below)))
  search-from (suc most) n of = go (next_of t n) refl (λ m goes. search-from most m (next of goes)) (member (blocks_named (t.header n)) lbn)
    where
      go : (o : Option ℕ) → next_of t n ≡ o → ((m : ℕ) → IsNext t n m → IsNamedIn t f lbn ⊎ NotFrom (segment_number (t.header m)) most)
          → Decided (Contains (blocks_named (t.header n)) lbn) → IsNamedIn t f lbn ⊎ NotFrom (segment_number (t.header n)) (suc most)
      go o is later (inl names) = inl (n, of, names)
      go None is later (inr not) = inr (not-last n most of (λ m goes. none-some m (sym is ∙ (next-found t n m).1 goes)) not)
      go (Some m) is later (inr not) =
          let goes : IsNext t n m = (next-found t n m).0 is in
          elim (later m goes) [ inl found ↦ inl found | inr rest ↦ inr (not-before n m most of goes not rest) ]

  named-decided : ((n : ℕ) → segment_number (t.header n) < 256) → Decided (IsFile t f) → Decided (IsNamedIn t f lbn)
  named-decided small (inr not) = inr (λ is. not (file_of-header is.1))
  named-decided small (inl file) = elim (search-from 256 f (first file)) [
    | inl found ↦ inl found
    | inr none ↦ inr (λ is. none is.0 is.1 (omega (arith, file.first)) (let few = small is.0 in omega (arith, few, file.first)) is.2)
  ]

is-file : (t : Table) (n : ℕ) → Decided (IsFile t n)
is-file t n = like
    (λ is. record {
      live = record { in_use = is.0; valid = record { number = is.1.0; holds = is.1.1.0; sum = is.1.1.1.0 } };
      first = is.1.1.1.1;
    })
    (λ is. (is.live.in_use, (is.live.valid.number, (is.live.valid.holds, (is.live.valid.sum, is.first)))))
    (both (truth (t.in_use n)) (both (cases_eq (file_number (t.header n)) n) (both (truth (holds_header (t.header n)))
    (both (cases_eq (check_word (t.header n)) (word_sum (t.header n) 255)) (cases_eq (segment_number (t.header n)) 0)))))

small-segments : (image : Image) (index : Index) → IsImage image → (n : ℕ) → segment_number ((table_in image index).header n) < 256
unfolding table_in
small-segments image index is n = segment_number-byte image (header_lbn index n) is

earlier-stable : (image : Image) (home : HomeFields) → IsImage image → ¬ (¬ EarlierAreNamed image home) → EarlierAreNamed image home
earlier-stable image home is q = λ k below.
    stable (named-decided (table_of image home) 3 (candidate k) (small-segments image (index_of image home) is) (is-file _ 3))
    (λ not. q (λ earlier. not (earlier k below)))

-- what can't fail of a frame
own-stable : (t : Table) (n : ℕ) → ¬ (¬ IsOwnFile t n) → IsOwnFile t n
own-stable t n q = record {
  file = file-stable t n (λ not. q (λ is. not is.file));
  sequence = same-stable _ _ (λ not. q (λ is. not is.sequence));
}

bitmap-stable : (t : Table) (blocks : ℕ) → ¬ (¬ IsBitmapFile t blocks) → IsBitmapFile t blocks
bitmap-stable t blocks q = record {
  sound = record {
    whole = whole-stable t 2 (λ not. q (λ is. not is.sound.whole));
    within = within-stable blocks (file_blocks t 2) (λ not. q (λ is. not is.sound.within));
  };
  some = λ none. q (λ is. is.some none);
}

control-stable : (control : List ℕ) (file device : ℕ) → ¬ (¬ IsControlBlock control file device) → IsControlBlock control file device
control-stable control file device q = record {
  some_bitmap = less-stable _ _ (λ not. q (λ is. not is.some_bitmap));
  few_bitmap = stable (at-most _ _) (λ not. q (λ is. not is.few_bitmap));
  in_file = stable (at-most _ _) (λ not. q (λ is. not is.in_file));
  some_blocks = less-stable _ _ (λ not. q (λ is. not is.some_blocks));
  covered = stable (at-most _ _) (λ not. q (λ is. not is.covered));
  on_device = stable (at-most _ _) (λ not. q (λ is. not is.on_device));
}

past-decided : (index : Index) (n : ℕ) → Decided (IsPastSlots index n)
past-decided index n =
    like (λ is. record { past = is.0; bit = is.1 }) (λ is. (is.past, is.bit)) (both (less (slots index) n) (truth (slot_bit index n)))

-- where no bit past the slots is the first, there is none
none-past : (index : Index) → ((n : ℕ) → ¬ IsFirstPast index n) → HasNonePast index
none-past index none n past = elim (least (IsPastSlots index) (past-decided index) (suc n)) [
  | inl found ↦ none found.0 (record { past = found.2.at; first = found.2.first })
  | inr not ↦ not n (omega arith) past
]

module _ (image : Image) (home : HomeFields) (is : IsImage image) (none : (code a : ℕ) → ¬ IsFaultBehindHome image home code a) where
  indexed : HasIndexFile image home
  indexed = record {
    file = index-stable image home (λ not. none 2 0 (index_misplaced (λ has. not has.file)));
    earlier = earlier-stable image home is (λ not. none 2 0 (index_misplaced (λ has. not has.earlier)));
  }

  own : (n : ℕ) → 2 ≤ n → n ≤ 4 → ((m : ℕ) → 2 ≤ m → m < n → IsOwnFile (table_of image home) m) → IsOwnFile (table_of image home) n
  own n low high before =
      own-stable _ n (λ not. none 3 n (own_file_bad n indexed (record { low = low; high = high; no_file = not; first = before })))

  own-below : (k n : ℕ) → n ≤ k → 2 ≤ n → n ≤ 4 → IsOwnFile (table_of image home) n
  own-below zero n few low high = absurd (omega (arith, few, low))
  own-below (suc k) n few low high =
      own n low high (λ m least less. own-below k m (omega (arith, few, less)) least (omega (arith, less, high)))

  own-files : HasOwnFiles image home
  own-files n low high = own-below 4 n high low high

  has-bitmap : HasBitmapFile image home
  has-bitmap = bitmap-stable _ _ (λ not. none 4 0 (bitmap_file_bad indexed own-files not))

  has-control : HasControlBlock image home
  has-control = control-stable _ _ _ (λ not. none 5 0 (control_block_wrong indexed own-files has-bitmap not))

  pub framed-from : IsHomeOf image home → IsFramed image home
  framed-from is_home = record {
    home_is = is_home;
    indexed = indexed;
    own_files = own-files;
    bitmap = has-bitmap;
    control = has-control;
    none_past = none-past _ (λ n first. none 6 n (bit_past_slots n indexed own-files has-bitmap has-control first));
  }

sound-from : (image : Image) → IsImage image → IsAccepted image → IsSoundImage image
sound-from image is accepted =
    let found = home-found image (λ none. accepted 1 0 0 (of_frame 1 0 (no_home none))) in
    let framed : IsFramed image found.0 =
    framed-from image found.0 is (λ code a fault. accepted code a 0 (of_frame code a (behind_home found.0 code a found.1 fault)))
    found.1 in
    record {
      home = found.0;
      volume = record {
        framed = framed;
        sound = (no-fault-sound (volume_of image found.0)).0
            (λ code a b fault. accepted code a b (of_volume found.0 code a b framed fault));
      };
    }

pub accepted-from : (image : Image) → IsSoundImage image → IsAccepted image
accepted-from image sound code a b (of_frame c d fault) = frame-none image sound.home c d sound.framed fault
accepted-from image sound code a b (of_volume home c d e framed fault) =
    (no-fault-sound (volume_of image home)).1
    (subst (λ (h : HomeFields). IsSoundVolume (volume_of image h))
    (home-unique image sound.home home sound.framed.home_is framed.home_is) sound.sound) c d e fault

pub accepted-sound : (image : Image) → IsImage image → IsAccepted image ↔ IsSoundImage image
accepted-sound image is = (sound-from image is, accepted-from image)

pub accepted-volume : (image : Image) (home : HomeFields) → IsImage image → IsHomeOf image home
    → IsAccepted image ↔ HasSoundVolume image home
accepted-volume image home is is_home = (
  λ accepted.
      let sound = sound-from image is accepted in
      subst (HasSoundVolume image) (home-unique image sound.home home sound.framed.home_is is_home) sound.volume,
  λ volume. accepted-from image (record { home = home; volume = volume }),
)
