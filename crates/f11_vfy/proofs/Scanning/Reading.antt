-- A volume that was read.
use Rattle.std.proofs.Common.{ℕ, ◌≡◌, IsTrue, List, refl, sym, ap, subst, ◌∙◌, inl, inr, arith}
use Rattle.std.proofs.lemmas.Bool.{cases_lt, both_ways}
use Rattle.f11_bits.specs.Bitmap.{Bitmap}
use Rattle.f11_bits.proofs.BitmapLemmas.{is_free-past}
use Rattle.f11_index.proofs.SegmentLemmas.{segment_number-byte}
use Rattle.f11_dev.specs.Disk.{Disk}
use Rattle.f11_dev.specs.Image.{Image, IsImage}
use Rattle.f11_dev.proofs.LookedLemmas.{looked_more}
use Rattle.f11_home.specs.Home.{HomeFields}
use Rattle.f11_index.specs.IndexFile.{Index, IsIndex, index_of, slots, header_lbn}
use Rattle.f11_index.specs.Table.{Table, table_in}
use Rattle.f11_index.proofs.InUseLemmas.{in_use-some, in_use-slot}
use Rattle.f11_vfy.specs.Chain.{IsFit, KeepsTable, ShowsChains}
use Rattle.f11_store.specs.Directory.{is_directory}
use Rattle.f11_volume.specs.Contents.{file_of}
use Rattle.f11_vfy.specs.Surveying.Extensions.{HasExtensions, KeepsExtensions}
use Rattle.f11_vfy.specs.Surveying.Free.{ReadsFree}
use Rattle.f11_vfy.specs.Scanning.Kept.{KeepsBlocks}
use Rattle.f11_vfy.specs.Scanning.Reading.{ReadsVolume, ShowsVolume, volume_in}
use Rattle.f11_vfy.specs.Surveying.Slot.{says_directory}
use Rattle.f11_volume.specs.Space.{storage_bitmap}
use Rattle.f11_vfy.specs.Surveying.Headers.{SurveysDisk, Surveys}
use Rattle.f11_volume.specs.Volume.{volume_of}
use Rattle.f11_vfy.specs.declared.findings.kept.Kept.{Kept}
use Rattle.f11_vfy.specs.declared.findings.reading.Reading.{Reading}
use Rattle.f11_vfy.specs.declared.survey.bits.Bits.{Bits}

-- the headers of an image are as the format has them
pub table-fit : (image : Image) (index : Index) → IsImage image → IsIndex index → IsFit (table_in image index)
unfolding table_in
table-fit image index is valid = record {
  few = omega (arith, valid.few_slots);
  low = in_use-some index;
  high = in_use-slot index;
  segments = λ n. segment_number-byte image (header_lbn index n) is;
}

pub table-slots : (image : Image) (index : Index) → (table_in image index).slots ≡ slots index
unfolding table_in
table-slots image index = refl

-- the bitmap was read, then the headers, and then their chains were found
pub reads-volume : (index : Index) (bitmap : Bitmap) (r : Reading) (old now new : Disk) → IsImage old.image → IsIndex index
    → (last : List ℕ) → ReadsFree bitmap r.free last old now → SurveysDisk index bitmap.size r.survey now new
    → ((t : Table) → KeepsTable t r.survey.slots.items → ShowsChains t r.chains) → ReadsVolume index bitmap r old new
reads-volume index bitmap r old now new image valid last free surveys chains = record {
  slots = surveys.is_survey.count;
  size = free.limit;
  shows = λ honest. shows honest;
  looked = looked_more free.looked surveys.looked;
}
  where
    same : table_in now.image index ≡ table_in old.image index
    same = ap (λ (i : Image). table_in i index) free.looked.image

    surveyed : IsTrue old.honest → Surveys (table_in old.image index) bitmap.size (table_in old.image index).slots r.survey
    surveyed honest = subst (λ n. Surveys (table_in old.image index) bitmap.size n r.survey) (sym (table-slots old.image index))
        (subst (λ (t : Table). Surveys t bitmap.size (slots index) r.survey) same (surveys.surveys (free.looked.honest ∙ honest)))

    shows : IsTrue old.honest → ShowsVolume (volume_in old.image index bitmap) r
    shows honest =
        let fit = table-fit old.image index image valid in
        let here = surveyed honest in
        record {
          fit = fit;
          surveys = here;
          chains = chains (table_in old.image index) (record { fit = fit; keeps = here.slots });
          free = record {
            limit = free.limit;
            each = free.each honest;
            within = λ lbn is. elim (cases_lt lbn bitmap.size)
                [ inl inside ↦ inside | inr past ↦ absurd (both_ways _ (is_free-past old.image bitmap lbn past) is) ];
          };
        }

-- and what is to be written of it was kept
pub keeps-blocks : (index : Index) (bitmap : Bitmap) (free : Bits) (old now : Disk) (before after : Kept)
    → ReadsFree bitmap free after.last old now → KeepsExtensions index now before.extensions after.extensions
    → KeepsBlocks index bitmap old before after
keeps-blocks index bitmap free old now before after reads extensions honest sized keep = record {
  extensions = subst (λ (t : Table). HasExtensions t after.extensions) (ap (λ (i : Image). table_in i index) reads.looked.image)
      (extensions (reads.looked.honest ∙ honest) keep);
  last = reads.last honest sized;
}

-- a file is a directory where its first header says so
pub directory-said : (image : Image) (t : Table) (n : ℕ) → is_directory (file_of image t n) ≡ says_directory (t.header n)
unfolding file_of is_directory says_directory
directory-said image t n = refl

-- the volume of an image is the one that its index file and its storage bitmap tell
pub volume-read : (image : Image) (home : HomeFields)
    → volume_of image home ≡ volume_in image (index_of image home) (storage_bitmap image home)
unfolding volume_of
volume-read image home = refl
