-- Lost blocks stay so where files have the headers that they had, and these name what they named, or free blocks more, or less.
use Rattle.std.proofs.Common.{◌≡◌, ◌≢◌, ◌<◌, ◌==◌, ◌&&◌, ◌||◌, ℕ, zero, suc, Bool, true, false, not, cond, List, [], ◌∷◌, None, Some}
use Rattle.std.proofs.Common.{length, take, drop}
use Rattle.std.proofs.Common.{inl, inr, refl, sym, ap, subst, ◌∙◌, arith}
use Rattle.std.specs.Prelude.{Contains}
use Rattle.std.specs.List.{flat_map, range_with_len}
use Rattle.std.proofs.lemmas.Bool.{cases_Bool, cases_eq, false≢true}
use Rattle.std.proofs.lemmas.List.{append-nil, take-append-drop}
use Rattle.std.proofs.lemmas.List.Elements.{filter_passes}
use Rattle.std.proofs.lemmas.Option.{same_Some}
use Rattle.f11_chain.specs.FileHeaders.{file_blocks}
use Rattle.f11_dev.specs.Image.{Image}
use Rattle.f11_home.specs.Home.{HomeFields}
use Rattle.f11_index.specs.Headers.{headers_of}
use Rattle.f11_index.specs.Table.{Table, table_of, IsFile, IsHeaderOf}
use Rattle.f11_index.proofs.HeadersLemmas.{chained-apart, listed-are}
use Rattle.f11_store.specs.Changes.{after_create, GrowsIndex, is_in}
use Rattle.f11_store.specs.Store.{Store, free_slots, least_free}
use Rattle.f11_store.specs.declared.callers.Uic.{Uic}
use Rattle.f11_store.proofs.TakenSlotLemmas.{used-none}
use Rattle.f11_volume.specs.Notes.{IsLost}
use Rattle.f11_volume.specs.Sound.{HasSoundVolume}
use Rattle.f11_volume.specs.Volume.{Volume, volume_of, IsNamed}
use Rattle.f11_volume.proofs.FileLemmas.{image-files}
use Rattle.f11_volume.proofs.MemberLemmas.{all-each, at-place, contained, in-either, in-front, in-range}
use Rattle.f11_writes.specs.Lost.{IsUsedInNoFile, StayLost}
use Rattle.f11_writes.proofs.LostLemmas.{noted-lost}
use Rattle.f11_image_store.specs.Allocation.{free_list, named_by, FreesBlocks, GainsBlocksAs, GainsSlots, KeepsBlocks, LosesBlocks}
use Rattle.f11_image_store.specs.Allocation.{LosesHeaders, NamesMore}
use Rattle.f11_image_store.specs.StoreOf.{store_of}
use Rattle.f11_image_store.proofs.AllocationLawLemmas.{files-named}
use Rattle.f11_image_store.proofs.AllocationLemmas.{named-dead}
use Rattle.f11_image_store.proofs.KeptBlocksLemmas.{file-keeps-blocks, held-stored, is-stored}
use Rattle.f11_files.specs.GrowingIndex.Headroom.{HasGotSlots}
use Rattle.f11_files.specs.LayingOut.Whole.{GainsRunAs}
use Rattle.f11_files.proofs.Confining.Parts.{at-in, fewer-free}
use Rattle.f11_files.proofs.LayingOut.Parts.{free-listed}
use Rattle.f11_files.proofs.LayingOut.Unnamed.{fewer-named, unnamed-still}
use Rattle.f11_files.proofs.Removing.Loss.{in-at}
use Rattle.f11_files.proofs.Rows.{HeldStays, header-still, held-grown, held-here, held-other, held_of, none-in, not-least, small-segment}

-- a block that isn't free isn't listed
pub not-listed : (v : Volume) (lbn : ℕ) → v.free lbn ≡ false → is_in (free_list v) lbn ≡ false
unfolding free_list
not-listed v lbn used =
    none-in (free_list v) lbn (λ m has same.
    false≢true (sym used ∙ ap v.free (sym same)
    ∙ all-each (λ x. v.free x ≡ true) (free_list v) (filter_passes v.free (range_with_len 0 v.size)) m has))

-- what isn't among some isn't in their list
pub not-in : (xs : List ℕ) (n : ℕ) → ¬ Contains xs n → is_in xs n ≡ false
not-in xs n out = elim (cases_Bool (is_in xs n)) [
  | inl is ↦ let at = in-at xs n is in absurd (out (contained xs at.0 n at.1))
  | inr none ↦ none
]

not-among : (xs : List ℕ) (n : ℕ) → is_in xs n ≡ false → ¬ Contains xs n
not-among xs n out has = false≢true (sym out ∙ at-in xs has.0 n (at-place xs n has))

in-whole : (n lbn : ℕ) (xs : List ℕ) → Contains (take n xs) lbn → Contains xs lbn
in-whole n lbn xs has = subst (λ (l : List ℕ). Contains l lbn) (take-append-drop n xs) (in-front (take n xs) (drop n xs) lbn has)

-- where other blocks are freed, it is used still
used-still : (v w : Volume) (lbns : List ℕ) (lbn : ℕ) → FreesBlocks lbns v w → v.free lbn ≡ false → is_in lbns lbn ≡ false
    → w.free lbn ≡ false
used-still v w lbns lbn frees used out =
    frees.free lbn ∙ ap (λ (b : Bool). b || is_in lbns lbn) used ∙ out

module _ (home : HomeFields) (old new : Image) (sound : HasSoundVolume old home) (sound' : HasSoundVolume new home) where
  abbrev v : Volume
  v = volume_of old home

  abbrev w : Volume
  w = volume_of new home

  abbrev t : Table
  t = table_of old home

  abbrev u : Table
  u = table_of new home

  -- each file but f has the headers that it had
  abbrev OthersStay : ℕ → Type 0
  OthersStay f = (g : ℕ) → g ≢ f → HeldStays home old new g

  -- file f contains none of the blocks that no file contained
  abbrev IsApart : ℕ → ℕ → Type 0
  IsApart lbn f = IsFile u f → ¬ Contains (file_blocks u f) lbn

  -- a file that has the headers which it had was there
  there-before : (f : ℕ) → IsFile u f → HeldStays home old new f → IsFile t f
  there-before f file held = is-stored old home f (headers_of u f) (sym held ∙ held-stored new home f sound' file)

  -- where they name what they named
  apart-still : (f lbn : ℕ) → IsUsedInNoFile v lbn → HeldStays home old new f → ((n : ℕ) → IsHeaderOf t f n → named_by u n ≡ named_by t n)
      → IsApart lbn f
  unfolding volume_of
  apart-still f lbn lost held names file has =
      let was : IsFile t f = there-before f file held in
      lost.of_none f was (subst (λ (l : List ℕ). Contains l lbn) (file-keeps-blocks home old new f sound sound' was held names) has)

  -- by all but the headers of another file
  apart-besides : (f g lbn : ℕ) → IsUsedInNoFile v lbn → HeldStays home old new g → g ≢ f
      → ((n : ℕ) → ¬ IsHeaderOf t f n → named_by u n ≡ named_by t n) → IsApart lbn g
  apart-besides f g lbn lost held away names =
      apart-still g lbn lost held (λ n of. names n (λ its. away (chained-apart (image-files old home sound).chained of its)))

  inside-still : (lbn : ℕ) → w.size ≡ v.size → lbn < v.size → lbn < w.size
  inside-still lbn size inside = omega (arith, size, inside)

  -- each block that is used in no file is so still
  abbrev StayInNone : Type 0
  StayInNone = (lbn : ℕ) → IsUsedInNoFile v lbn → IsUsedInNoFile w lbn

  -- each block that no header names, none names
  abbrev StayUnnamed : Type 0
  StayUnnamed = (lbn : ℕ) → IsLost v lbn → ¬ IsNamed w.table lbn

  both : StayInNone → StayUnnamed → StayLost home old new
  both stays unnamed = record {
    in_no_file = stays;
    unnamed = λ lbn lost.
        let still = stays lbn (noted-lost v lbn sound.sound lost) in
        record { inside = still.inside; used = still.used; unnamed = unnamed lbn lost };
  }

  -- headers name what they named, and each file that hasn't the headers which it had is empty
  kept-in-none : (n : ℕ) → OthersStay n → ((lbn : ℕ) → IsUsedInNoFile v lbn → IsApart lbn n) → KeepsBlocks v w → StayInNone
  unfolding volume_of
  kept-in-none n held own keeps lbn lost = record {
    inside = inside-still lbn keeps.size lost.inside;
    used = ap (λ g. g lbn) keeps.free ∙ lost.used;
    of_none = λ f file. elim (cases_eq f n) [
      | inl same ↦ subst (IsApart lbn) (sym same) (own lbn lost) file
      | inr away ↦ apart-still f lbn lost (held f away) (λ m _. keeps.names m) file
    ];
  }

  kept-stay : (n : ℕ) → OthersStay n → ((lbn : ℕ) → IsUsedInNoFile v lbn → IsApart lbn n) → KeepsBlocks v w → StayLost home old new
  kept-stay n held own keeps =
      both (kept-in-none n held own keeps)
      (λ lbn lost. fewer-named v.table w.table lbn (λ m. subst (λ (l : List ℕ). Contains l lbn) (keeps.names m)) lost.unnamed)

  pub all-kept-stay : ((f : ℕ) → HeldStays home old new f) → KeepsBlocks v w → StayLost home old new
  unfolding volume_of
  all-kept-stay held keeps =
      kept-stay 0 (λ g away. held g) (λ lbn lost. apart-still 0 lbn lost (held 0) (λ m _. keeps.names m)) keeps

  -- a file is made, which has no block
  pub entered-stay : (owner : Uic) (protection : ℕ) (ident attr : List ℕ) → (length (free_slots (store_of old home)) == 0) ≡ false
      → store_of new home ≡ after_create (store_of old home) owner protection ident attr → KeepsBlocks v w → StayLost home old new
  unfolding store_of volume_of
  entered-stay owner protection ident attr some made keeps =
      kept-stay n (λ g away. ap (λ (x : Store). held_of (x.file g)) made ∙ held-other s n g _ away)
      (λ lbn lost file has. none-in-it file lbn has)
      keeps
    where
      s : Store
      s = store_of old home

      n : ℕ
      n = least_free s

      -- its header alone, which wasn't in use
      alone : IsFile u n → headers_of u n ≡ n ∷ []
      alone file =
          same_Some (headers_of u n) (n ∷ [])
          (sym (held-stored new home n sound' file) ∙ ap (λ (x : Store). held_of (x.file n)) made ∙ held-here s n _)

      unnamed : named_by t n ≡ []
      unnamed = named-dead t n (λ live. not-least (free_slots s) n some (used-none s 1 n live.in_use) refl)

      empty : IsFile u n → file_blocks u n ≡ []
      empty file =
          files-named u n ((image-files new home sound').each n file).whole ∙ ap (flat_map (named_by u)) (alone file)
          ∙ append-nil (named_by u n) ∙ keeps.names n ∙ unnamed

      none-in-it : IsFile u n → (lbn : ℕ) → ¬ Contains (file_blocks u n) lbn
      none-in-it file lbn has =
          let no = subst (λ (l : List ℕ). Contains l lbn) (empty file) has in let below = no.1 in absurd (omega (arith, below))

  -- a file goes
  gone-in-none : (f : ℕ) → IsFile t f → OthersStay f → held_of ((store_of new home).file f) ≡ None → LosesHeaders (headers_of t f) v w
      → StayInNone
  unfolding file_blocks volume_of
  gone-in-none f file held gone loses lbn lost = record {
    inside = inside-still lbn loses.free.size lost.inside;
    used = used-still v w _ lbn loses.free lost.used (not-in (file_blocks t f) lbn (lost.of_none f file));
    of_none = λ g there. elim (cases_eq g f) [
      | inl same ↦ absurd (not-there (subst (IsFile u) same there))
      | inr away ↦ apart-besides f g lbn lost (held g away) away names there
    ];
  }
    where
      not-there : ¬ IsFile u f
      not-there file' = let no : None ≡ Some (headers_of u f) = sym gone ∙ held-stored new home f sound' file' in absurd cc

      names : (n : ℕ) → ¬ IsHeaderOf t f n → named_by u n ≡ named_by t n
      names n none =
          loses.names n
          ∙ ap (λ (b : Bool). cond b [] (named_by t n))
          (none-in (headers_of t f) n (λ m has same.
          none (subst (IsHeaderOf t f) same (listed-are t f m ((image-files old home sound).each f file).whole has))))

  gone-unnamed : (f : ℕ) → LosesHeaders (headers_of t f) v w → StayUnnamed
  gone-unnamed f loses lbn lost =
      fewer-named v.table w.table lbn
      (λ n has. fewer n (is_in (headers_of t f) n) (subst (λ (l : List ℕ). Contains l lbn) (loses.names n) has)) lost.unnamed
    where
      fewer : (n : ℕ) (b : Bool) → Contains (cond b [] (named_by v.table n)) lbn → Contains (named_by v.table n) lbn
      fewer n true has = let none = has.1 in absurd (omega (arith, none))
      fewer n false has = has

  pub gone-stay : (f : ℕ) → IsFile t f → OthersStay f → held_of ((store_of new home).file f) ≡ None → LosesHeaders (headers_of t f) v w
      → StayLost home old new
  gone-stay f file held gone loses = both (gone-in-none f file held gone loses) (gone-unnamed f loses)

  -- or some of its blocks
  cut-in-none : (f to : ℕ) → IsFile t f → OthersStay f → LosesBlocks f to v w → StayInNone
  unfolding volume_of
  cut-in-none f to file held loses lbn lost = record {
    inside = inside-still lbn loses.free.size lost.inside;
    used = used-still v w _ lbn loses.free lost.used
        (fewer-free (file_blocks t f) (drop to (file_blocks t f)) to refl lbn (not-in (file_blocks t f) lbn (lost.of_none f file)));
    of_none = λ g there. elim (cases_eq g f) [
      | inl same ↦ λ has.
          lost.of_none f file (in-whole to lbn (file_blocks t f)
          (subst (λ (l : List ℕ). Contains l lbn) (ap (file_blocks u) same ∙ loses.blocks) has))
      | inr away ↦ apart-besides f g lbn lost (held g away) away loses.others there
    ];
  }

  pub cut-stay : (f to : ℕ) → IsFile t f → OthersStay f → LosesBlocks f to v w → StayLost home old new
  cut-stay f to file held loses =
      both (cut-in-none f to file held loses)
      (λ lbn lost. fewer-named v.table w.table lbn
      (λ n has. subst (λ (l : List ℕ). Contains l lbn) (sym (loses.own n).1) (in-front (named_by w.table n) (loses.own n).0 lbn has))
      lost.unnamed)

  -- file f has these blocks more, which were free
  more-apart : (f lbn : ℕ) (ownership : Uic × ℕ) (lbns : List ℕ) → OthersStay f → NamesMore f ownership lbns t u → IsUsedInNoFile v lbn
      → ¬ Contains lbns lbn → (g : ℕ) → IsApart lbn g
  unfolding volume_of
  more-apart f lbn ownership lbns held names lost out g file = elim (cases_eq g f) [
    | inl same ↦ λ has.
        elim (in-either (file_blocks t f) lbns lbn (subst (λ (l : List ℕ). Contains l lbn) (ap (file_blocks u) same ∙ names.blocks) has)) [
          | inl was ↦ lost.of_none f names.says.file was
          | inr more ↦ out more
        ]
    | inr away ↦
        let was : IsFile t g = there-before g file (held g away) in
        apart-still g lbn lost (held g away) (λ n of.
        names.others n (λ its. away (chained-apart (image-files new home sound').chained
        (header-still home old new sound sound' g n was (held g away) of) its))) file
  ]

  gained-in-none : (f n : ℕ) (ownership : Uic × ℕ) → OthersStay f → GainsBlocksAs f ownership n v w → StayInNone
  unfolding volume_of
  gained-in-none f n ownership held gains lbn lost =
      let out = not-listed v lbn lost.used in
      let inside = inside-still lbn gains.size lost.inside in
      record {
        inside = inside;
        used = elim (cases_Bool (w.free lbn)) [
          | inl free ↦
              absurd (false≢true (sym (fewer-free (free_list v) (free_list w) n gains.free lbn out) ∙ free-listed w lbn inside free))
          | inr used ↦ used
        ];
        of_none =
            more-apart f lbn ownership (take n (free_list v)) held gains.names lost
            (λ has. not-among (free_list v) lbn out (in-whole n lbn (free_list v) has));
      }

  -- none of them is one that no header named
  more-unnamed : (f : ℕ) (ownership : Uic × ℕ) (lbns : List ℕ) → NamesMore f ownership lbns t u
      → ((lbn : ℕ) → v.free lbn ≡ false → ¬ Contains lbns lbn) → StayUnnamed
  unfolding volume_of
  more-unnamed f ownership lbns names out lbn lost =
      unnamed-still f ownership lbns v w sound.sound (small-segment new home sound' f) names lbn (out lbn lost.used) lost.unnamed

  pub gained-stay : (f n : ℕ) (ownership : Uic × ℕ) → OthersStay f → GainsBlocksAs f ownership n v w → StayLost home old new
  unfolding volume_of
  gained-stay f n ownership held gains =
      both (gained-in-none f n ownership held gains) (more-unnamed f ownership (take n (free_list v)) gains.names
      (λ lbn used has. not-among (free_list v) lbn (not-listed v lbn used) (in-whole n lbn (free_list v) has)))

  -- in one run
  run-in-none : (f n : ℕ) (ownership : Uic × ℕ) → OthersStay f → GainsRunAs f ownership n v w → StayInNone
  unfolding volume_of
  run-in-none f n ownership held gains lbn lost = record {
    inside = inside-still lbn gains.uses.size lost.inside;
    used = gains.uses.free lbn ∙ ap (λ (b : Bool). b && not (is_in (range_with_len gains.lbn n) lbn)) lost.used;
    of_none =
        more-apart f lbn ownership (range_with_len gains.lbn n) held gains.names lost
        (λ has. let at = in-range gains.lbn n lbn has in false≢true (sym lost.used ∙ gains.first.each lbn at.0 at.1));
  }

  pub run-stay : (f n : ℕ) (ownership : Uic × ℕ) → OthersStay f → GainsRunAs f ownership n v w → StayLost home old new
  unfolding volume_of
  run-stay f n ownership held gains =
      both (run-in-none f n ownership held gains) (more-unnamed f ownership (range_with_len gains.lbn n) gains.names
      (λ lbn used has. let at = in-range gains.lbn n lbn has in false≢true (sym used ∙ gains.first.each lbn at.0 at.1)))

-- the index file has slots more,
pub index-stay : (n : ℕ) (home : HomeFields) (old new : Image) → HasSoundVolume old home → HasSoundVolume new home
    → GrowsIndex (store_of old home) n (store_of new home) → GainsSlots n (volume_of old home) (volume_of new home) → StayLost home old new
index-stay n home old new sound sound' grew gains =
    gained-stay home old new sound sound' 1 n _
    (λ g away. ap (λ (s : Store). held_of (s.file g)) grew.store_is ∙ held-grown (store_of old home) grew.grown 1 n [] grew.grows g away)
    gains.blocks

-- or none
pub slots-stay : (n : ℕ) (home : HomeFields) (old new : Image) → HasSoundVolume old home → HasSoundVolume new home
    → HasGotSlots n home old new → StayLost home old new
slots-stay zero home old new sound sound' got = record {
  in_no_file = λ lbn lost. subst (λ (x : Volume). IsUsedInNoFile x lbn) (sym got.allots) lost;
  unnamed = λ lbn lost. subst (λ (x : Volume). IsLost x lbn) (sym got.allots) lost;
}
slots-stay (suc n) home old new sound sound' got = index-stay (suc n) home old new sound sound' got.makes got.allots
