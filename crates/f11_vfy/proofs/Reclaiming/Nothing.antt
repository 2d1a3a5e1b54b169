-- A volume of which nothing is noted that reclaiming gives back is reclaimed as it is.
use Rattle.std.proofs.Common.{◌≡◌, ◌⊎◌, ◌<◌, ◌≤◌, ℕ, suc, true, false, IsTrue, inl, inr, arith}
use Rattle.std.specs.Prelude.{Contains}
use Rattle.std.proofs.lemmas.Bool.{cases_Bool, cases_eq}
use Rattle.f11_bits.specs.Bitmap.{is_free}
use Rattle.f11_dev.specs.Disk.{Disk}
use Rattle.f11_dev.specs.Image.{Image, IsImage}
use Rattle.f11_dev.proofs.WentLemmas.{went_looked}
use Rattle.f11_dev.proofs.LookedLemmas.{looked_none}
use Rattle.f11_home.specs.Home.{HomeFields}
use Rattle.f11_map.specs.HeaderBlock.{segment_number}
use Rattle.f11_index.specs.Headers.{IsInFile, headers_of}
use Rattle.f11_index.specs.IndexFile.{header_lbn, index_of}
use Rattle.f11_index.specs.Table.{Table, table_in, table_of, IsFile, IsHeaderOf, IsLive, first}
use Rattle.f11_index.proofs.ChainLemmas.{file_of-header, live_of-header}
use Rattle.f11_index.proofs.HeadersLemmas.{header-listed, listed-are}
use Rattle.f11_index.proofs.InUseLemmas.{in_use-slot}
use Rattle.f11_index.proofs.SegmentLemmas.{segment_number-byte}
use Rattle.f11_volume.specs.Notes.{IsLost, IsVolumeNote, header_dead, orphan}
use Rattle.f11_volume.specs.Sound.{HasSoundVolume}
use Rattle.f11_volume.specs.Space.{storage_bitmap}
use Rattle.f11_volume.specs.Verdict.{IsNote}
use Rattle.f11_volume.specs.Volume.{volume_of, IsNamed}
use Rattle.f11_volume.proofs.DecideLemmas.{Decided, both, least, like, member, truth}
use Rattle.f11_volume.proofs.FileLemmas.{image-files}
use Rattle.f11_volume.proofs.NoteLemmas.{runs-have}
use Rattle.f11_image_store.specs.StoreOf.{is_first}
use Rattle.f11_image_store.proofs.StoreLemmas.{first-is-tested}
use Rattle.f11_vfy.specs.Laws.{NoneIsIdle}
use Rattle.f11_vfy.specs.Reclaiming.Moments.{Moment}
use Rattle.f11_vfy.specs.Reclaiming.Slots.{UsedAreOfFiles, none}
use Rattle.f11_vfy.specs.Reclaiming.Whole.{Costs, HasReclaimed, IsSoundWith, UnnamedAreFree}
use Rattle.f11_vfy.proofs.Reclaiming.Places.{reclaiming-none}
use Rattle.f11_vfy.proofs.Reclaiming.Space.{free-unnamed}

module _ (image : Image) (home : HomeFields) (is : IsImage image) (sound : HasSoundVolume image home) where
  abbrev t : Table
  t = table_of image home

  -- file f has header n
  abbrev Has : ℕ → ℕ → Type 0
  Has n f = IsFile t f × Contains (headers_of t f) n

  small : (n : ℕ) → segment_number (t.header n) < 256
  unfolding table_in
  small n = segment_number-byte image (header_lbn (index_of image home) n) is

  has-decided : (n f : ℕ) → Decided (Has n f)
  has-decided n f =
      both (like (first-is-tested t f).0 (first-is-tested t f).1 (truth (is_first t f))) (member (headers_of t f) n)

  slot-there : (n : ℕ) → IsFile t n → n < suc t.slots
  unfolding table_in
  slot-there n file = let high = in_use-slot (index_of image home) n file.live.in_use in omega (arith, high)

  -- whether a header is one of a file is found out
  in-file : (n : ℕ) → Decided (IsInFile t n)
  in-file n = elim (least (Has n) (has-decided n) (suc t.slots)) [
    | inl found ↦
        let at = found.2.at in
        inl (record { file = found.0; of = listed-are t found.0 n ((image-files image home sound).each found.0 at.0).whole at.1 })
    | inr out ↦ inr (λ within.
        out within.file (slot-there within.file (file_of-header within.of))
        (file_of-header within.of, header-listed t within.file n within.of (small n)))
  ]

  module _ (no_note : (code a b : ℕ) → code ≤ 3 → ¬ IsNote image code a b) where
    none-noted : (code a b : ℕ) → code ≤ 3 → ¬ IsVolumeNote image (volume_of image home) code a b
    none-noted code a b few note = no_note code a b few (record { home = home; framed = sound.framed; note = note })

    not-lost : (lbn : ℕ) → ¬ IsLost (volume_of image home) lbn
    not-lost lbn =
        (runs-have image (volume_of image home) lbn).0 (λ low high note under over. none-noted 1 low high (omega arith) note)

    unnamed-free : UnnamedAreFree home image
    unfolding volume_of
    unnamed-free lbn inside = (
      λ free. free-unnamed image home lbn sound free,
      λ unnamed. elim (cases_Bool (is_free image (storage_bitmap image home) lbn)) [
        | inl free ↦ free
        | inr used ↦ absurd (not-lost lbn (record { inside = inside; used = used; unnamed = unnamed }))
      ],
    )

    no-orphan : (n : ℕ) → IsLive t n → IsInFile t n ⊎ (IsInFile t n → ⊥) → IsInFile t n
    unfolding volume_of
    no-orphan n live (inl within) = within
    no-orphan n live (inr out) = elim (cases_eq (segment_number (t.header n)) 0) [
      | inl zero ↦ record { file = n; of = first (record { live = live; first = zero }) }
      | inr later ↦ absurd (none-noted 3 n 0 (omega arith) (orphan n live (omega (arith, later)) out))
    ]

    used-in : (n : ℕ) → t.in_use n ≡ true → IsInFile t n
    unfolding volume_of
    used-in n used = elim (sound.sound.headers n used) [
      | inl dead ↦ absurd (none-noted 2 n 0 (omega arith) (header_dead n (record { in_use = used; dead = dead })))
      | inr valid ↦ no-orphan n (record { in_use = used; valid = valid }) (in-file n)
    ]

    used-are : UsedAreOfFiles t
    used-are n = (used-in n, λ within. (live_of-header within.of).in_use)

    reclaimed-already : HasReclaimed home image image
    reclaimed-already = record {
      reclaiming = reclaiming-none home image sound;
      blocks = unnamed-free;
      slots = used-are;
      no_note = no_note;
    }

-- for nothing
costs-nothing : (home : HomeFields) (image : Image) (reads : ℕ) → Costs home image image reads 0 0
costs-nothing home image reads = record {
  orphan_slots = 0;
  orphans = 0;
  orphans_are = none;
  orphans_within = omega arith;
  idle_slots = 0;
  idle = 0;
  idle_are = none;
  idle_within = omega arith;
  bitmap_blocks = 0;
  changed = 0;
  changed_are = none;
  changed_within = omega arith;
  few = omega arith;
}

pub none-idle : NoneIsIdle
none-idle disk is no_note = record {
  reclaimed = λ honest home sound. reclaimed-already disk.image home is sound (no_note honest);
  goes = record {
    most = 0;
    few = λ honest home sound. costs-nothing home disk.image _;
    went = went_looked (Moment IsSoundWith disk) (looked_none disk);
  };
}
