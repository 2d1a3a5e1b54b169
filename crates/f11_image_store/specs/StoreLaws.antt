-- What each kind of write makes of the store of an image, in the words of the plain store (profile).
use Rattle.std.specs.Prelude.{◌≡◌, ℕ, ◌+◌, ◌-◌, ◌<◌, ◌≤◌, true, false, List}
use Rattle.f11_bits.specs.Bitmap.{is_free, Marks}
use Rattle.f11_dev.specs.Image.{Image}
use Rattle.f11_volume.specs.home.Home.{HomeFields}
use Rattle.f11_index.specs.Table.{Table, IsFile}
use Rattle.f11_store.specs.Accesses.{FreeIsEmpty}
use Rattle.f11_store.specs.Changes.{with_block, with_change}
use Rattle.f11_volume.specs.Space.{storage_bitmap}
use Rattle.f11_writes.specs.Kept.{KeepsFiles, WritesBlock, KeepsButFree}
use Rattle.f11_image_store.specs.StoreOf.{is_first, store_of}

-- the test of a file's first header is right
abbrev pub FirstIsTested : Type 0
FirstIsTested = (t : Table) (n : ℕ) → (is_first t n ≡ true → IsFile t n) × (IsFile t n → is_first t n ≡ true)

-- where a write keeps all files, the store stays
abbrev pub StoreStays : Type 0
StoreStays = (old new : Image) (home : HomeFields) → KeepsFiles home old new → store_of new home ≡ store_of old home

-- where a block of file f from 4 on was written, that file has it
abbrev pub BlockIsStored : Type 0
BlockIsStored =
    (old new : Image) (home : HomeFields) (f vbn : ℕ) (block : List ℕ) → 4 ≤ f → WritesBlock f vbn block home old new →
    store_of new home ≡ with_change (store_of old home) f (with_block vbn block)

-- where free blocks were marked used, so many fewer are free
abbrev pub FewerAreFree : Type 0
FewerAreFree =
    (old new : Image) (home : HomeFields) (lbn count : ℕ) → KeepsButFree home old new →
    Marks false (storage_bitmap old home) lbn count old new →
    lbn + count ≤ (storage_bitmap old home).size → ((k : ℕ) → lbn ≤ k → k < lbn + count → is_free old (storage_bitmap old home) k ≡ true) →
    store_of new home ≡ record (store_of old home) { free = (store_of old home).free - count }

-- where used blocks were marked free, so many more are
abbrev pub MoreAreFree : Type 0
MoreAreFree =
    (old new : Image) (home : HomeFields) (lbn count : ℕ) → KeepsButFree home old new →
    Marks true (storage_bitmap old home) lbn count old new →
    lbn + count ≤ (storage_bitmap old home).size → ((k : ℕ) → lbn ≤ k → k < lbn + count → is_free old (storage_bitmap old home) k ≡ false) →
    store_of new home ≡ record (store_of old home) { free = (store_of old home).free + count }

-- no file is in a slot that isn't in use
abbrev pub UnusedIsEmpty : Type 0
UnusedIsEmpty = (image : Image) (home : HomeFields) → FreeIsEmpty (store_of image home)
