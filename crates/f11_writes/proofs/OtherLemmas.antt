-- A write of a block that the volume isn't read from.
use Rattle.std.proofs.Common.{◌≡◌, ◌≢◌, ℕ, ◌+◌, ◌-◌, ◌<◌, ◌≤◌, List, length, slice_index, Some, sym, ap, subst, ◌∙◌, inl, inr, arith}
use Rattle.std.proofs.Math.ListN.{set}
use Rattle.std.specs.List.{slice_get}
use Rattle.std.proofs.lemmas.Bool.{cases_eq}
use Rattle.std.proofs.lemmas.List.{length-set}
use Rattle.std.proofs.lemmas.Option.{slice_get-get_or}
use Rattle.f11_bits.specs.Bitmap.{KeepsBitmap}
use Rattle.f11_bits.proofs.LawLemmas.{KeepsBitmap-write}
use Rattle.f11_dev.specs.Image.{Image, image_block}
use Rattle.f11_dev.proofs.ImageLemmas.{image_block-other}
use Rattle.f11_volume.specs.home.Home.{HomeFields, candidate}
use Rattle.f11_index.specs.Laws.{BlocksStay, KeepsIndexFile}
use Rattle.f11_index.specs.Table.{Table, table_of, IsFile}
use Rattle.f11_index.proofs.LawLemmas.{other_write}
use Rattle.f11_volume.specs.chain.FileHeaders.{file_blocks}
use Rattle.f11_volume.specs.Earlier.{IsNamedIn}
use Rattle.f11_volume.specs.Contents.{file_of}
use Rattle.f11_volume.specs.Sound.{IsSoundVolume, HasSoundVolume}
use Rattle.f11_volume.specs.Space.{bitmap_file, storage_bitmap}
use Rattle.f11_volume.specs.Volume.{IsNamed}
use Rattle.f11_volume.proofs.FileLemmas.{image-files, place-at}
use Rattle.f11_volume.proofs.MemberLemmas.{all-each, contained}
use Rattle.f11_writes.specs.Kept.{file_in, KeepsVolume, KeepsFiles, WritesBlock}
use Rattle.f11_writes.specs.Laws.{IsUnread}
use Rattle.f11_writes.proofs.OwnerLemmas.{in-file, owned-once, named-of, unread}
use Rattle.f11_writes.proofs.FrameLemmas.{CandidatesStay, ControlStays, framed-kept, bitmap-kept, volume-kept}
use Rattle.f11_writes.proofs.ContentLemmas.{file-stays-in, file-written}

-- the control block is the first of its file
pub control-at : (image : Image) (home : HomeFields) → HasSoundVolume image home
    → slice_get (bitmap_file (table_of image home)) 0 ≡ Some (slice_index (bitmap_file (table_of image home)) 0)
control-at image home is = slice_get-get_or (bitmap_file (table_of image home)) 0 0 (omega (arith, is.framed.control.in_file))

module _ (image : Image) (home : HomeFields) (is : HasSoundVolume image home) (lbn : ℕ) (block : List ℕ) where
  abbrev t : Table
  t = table_of image home

  abbrev new : Image
  new = set image lbn block

  size : length new ≡ length image
  size = length-set image lbn block

  -- other blocks stay
  other : (l : ℕ) → l ≢ lbn → image_block new l ≡ image_block image l
  other l apart = image_block-other image lbn l block apart

  -- a file of the table that stays
  file-kept-in : (f : ℕ) → table_of new home ≡ t → IsFile t f → BlocksStay (file_blocks t f) image new
      → file_in home f new ≡ file_in home f image
  file-kept-in f same file stay =
      let sound = (image-files image home is).each f file in
      ap (λ (u : Table). file_of new u f) same ∙ file-stays-in image new t f sound.whole size sound stay

  module _ (away : IsUnread image home lbn) where
    candidates : CandidatesStay home image new
    candidates k low = elim (cases_eq (candidate k) home.lbn) [
      | inl here ↦ other (candidate k) (λ same. away.index_file 1 (is.framed.indexed.file.placed.home_block ∙ ap Some (sym here ∙ same)))
      | inr before ↦ other (candidate k) (away.candidates k (omega (arith, low, before)))
    ]

    control : ControlStays home image new
    control = other _ (λ same. away.bitmap_file 0 (control-at image home is ∙ ap Some same))

    keeps : KeepsIndexFile home image new
    keeps = other_write image home is.framed.indexed.file lbn block away.index_file

    blocks : KeepsBitmap (storage_bitmap image home) image new
    blocks =
        KeepsBitmap-write (storage_bitmap image home) image lbn block
        (λ i within same. away.bitmap_file (1 + i) (place-at image home i within ∙ ap Some same))

    pub unread-keeps : KeepsVolume home image new
    unread-keeps =
        let volume = volume-kept image new home is size control keeps blocks in
        record {
          sound = record {
            framed = framed-kept image new home is size control keeps candidates;
            sound = subst IsSoundVolume (sym volume) is.sound;
          };
          index_file = keeps;
          bitmap = bitmap-kept image new home is size control keeps;
          bitmap_blocks = blocks;
          volume = volume;
        }

  -- a block that no header names
  pub unnamed-keeps : ¬ IsNamed t lbn → KeepsFiles home image new
  unnamed-keeps none =
      let volume = unread-keeps (unread image home is lbn (λ f low named. none (named-of t f lbn named))) in
      record {
        keeps = volume;
        files = λ f file. file-kept-in f volume.index_file.table file (λ i l at.
            other l (λ same. none (subst (IsNamed t) same (named-of t f l (in-file image home is f i l file at)))));
      }

  -- a block of a file
  pub file-keeps : (f vbn : ℕ) → IsFile t f → 4 ≤ f → slice_get (file_blocks t f) (vbn - 1) ≡ Some lbn
      → WritesBlock f vbn block home image new
  file-keeps f vbn file late at =
      let owned : IsNamedIn t f lbn = in-file image home is f (vbn - 1) lbn file at in
      let volume = unread-keeps
      (unread image home is lbn (λ g low named. let same = owned-once image home is f g lbn owned named in
      omega (arith, same, late, low))) in
      let files = image-files image home is in
      let sound = files.each f file in
      let within = all-each (λ l. l < length image) (file_blocks t f) sound.within lbn (contained (file_blocks t f) (vbn - 1) lbn at) in
      record {
        keeps = volume;
        file = ap (λ (u : Table). file_of new u f) volume.index_file.table
            ∙ file-written image t f (vbn - 1) lbn block sound.whole within at
            (λ j there. (files.one_owner f f j (vbn - 1) lbn file file there at).1);
        others = λ g also apart. file-kept-in g volume.index_file.table also (λ i l there.
            other l (λ same. apart (files.one_owner g f i (vbn - 1) lbn also file (there ∙ ap Some same) at).0));
      }
