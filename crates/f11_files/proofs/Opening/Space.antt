-- The counts of an open volume.
use Rattle.std.proofs.Common.{◌≡◌, ℕ, IsTrue, List, length, refl, sym, ap, ◌∙◌}
use Rattle.f11_bits.specs.Bitmap.{free_blocks}
use Rattle.f11_bits.specs.Storage as storage
use Rattle.f11_dev.specs.Disk.{Disk}
use Rattle.f11_dev.specs.Image.{Image}
use Rattle.f11_home.specs.Home.{HomeFields}
use Rattle.f11_index.specs.IndexFile.{Index, index_of, slots, free_slots_in}
use Rattle.f11_index.specs.Table.{table_in}
use Rattle.f11_volume.specs.Space.{storage_bitmap}
use Rattle.f11_files.specs.Operations.{IsSpaceOf}
use Rattle.f11_image_store.specs.StoreOf.{store_of}
use Rattle.f11_files.specs.Structure.{index_in, bitmap_in, home_of, store_on, IsStructureFor}
use Rattle.f11_files.specs.declared.structure.Structure.{Structure}
use Rattle.f11_image_store.proofs.NewFileLemmas.{free-stored}

pub free-of : (image : Image) (home : HomeFields) → (store_of image home).free ≡ free_blocks image (storage_bitmap image home)
unfolding store_of
free-of image home = refl

pub slots-of : (image : Image) (home : HomeFields) → (store_of image home).slots ≡ slots (index_of image home)
unfolding store_of table_in
slots-of image home = refl

-- they are those of the store
pub space-is : (s : Structure) (disk : Disk) → IsStructureFor s disk → IsTrue disk.honest → (free headers count : ℕ)
    → ((image : Image) → storage.Keeps s.storage image → free ≡ free_blocks image (bitmap_in s))
    → headers ≡ length (free_slots_in (index_in s)) → count ≡ slots (index_in s) → IsSpaceOf (store_on s disk) free headers count
space-is s disk for honest free headers count free_is headers_are count_is =
    let keeps = for.keeps honest in
    record {
      blocks_are = free_is disk.image keeps.storage ∙ ap (free_blocks disk.image) keeps.bitmap_is ∙ sym (free-of disk.image (home_of s));
      headers_are = headers_are ∙ ap (λ (x : Index). length (free_slots_in x)) keeps.index_is
          ∙ ap (λ (l : List ℕ). length l) (sym (free-stored disk.image (home_of s)));
      slots_are = count_is ∙ ap slots keeps.index_is ∙ sym (slots-of disk.image (home_of s));
    }
