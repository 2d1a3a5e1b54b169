-- The index file of a sound volume, by its identification 1,1.
use Rattle.std.proofs.Common.{◌≡◌, ℕ, false, IsTrue, Option, Some, unwrap_or, refl, sym, ap, subst, ◌∙◌}
use Rattle.f11_dev.specs.Disk.{Disk}
use Rattle.f11_dev.specs.Image.{Image}
use Rattle.f11_home.specs.Home.{HomeFields}
use Rattle.f11_index.specs.Table.{Table, table_of, IsFile, last_sequence}
use Rattle.f11_store.specs.Causes.{is_missing}
use Rattle.f11_store.specs.File.{File, no_file}
use Rattle.f11_store.specs.Store.{Store, file_named, index_file}
use Rattle.f11_store.specs.declared.files.FileId.{FileId}
use Rattle.f11_volume.specs.Sound.{HasSoundVolume}
use Rattle.f11_writes.specs.Kept.{file_in}
use Rattle.f11_image_store.specs.StoreOf.{as_seen, store_of}
use Rattle.f11_files.specs.Structure.{home_of, store_on, IsStructureFor}
use Rattle.f11_files.specs.declared.structure.Structure.{Structure}
use Rattle.f11_files.proofs.Finding.Named.{file-stored, named-is}
use Rattle.f11_image_store.proofs.StoreLemmas.{file-at}

-- the index file is file 1,1
pub index-named : (image : Image) (home : HomeFields) → HasSoundVolume image home
    → IsFile (table_of image home) 1 × (last_sequence (table_of image home) 1 ≡ 1)
index-named image home is = let index = is.framed.indexed.file in (index.whole.file, index.sequence)

-- the store has it, as it is seen
index-stored : (image : Image) (home : HomeFields) → HasSoundVolume image home
    → (store_of image home).file 1 ≡ Some (as_seen 1 (file_in home 1 image))
index-stored image home is =
    file-stored image home 1
    ∙ file-at image (table_of image home) 1 (Some (as_seen 1 (file_in home 1 image))) (λ _. refl)
    (λ none. absurd (none (index-named image home is).0))

-- and by that identification it is found
pub index-is : (s : Structure) (disk : Disk) → IsStructureFor s disk → IsTrue disk.honest → (f : FileId) → f.number ≡ 1 → f.sequence ≡ 1
    → (is_missing (store_on s disk) f ≡ false) × (file_named (store_on s disk) f ≡ index_file (store_on s disk))
    × ((store_on s disk).file 1 ≡ Some (index_file (store_on s disk)))
index-is s disk for honest f number sequence =
    let home : HomeFields = home_of s in
    let t : Table = table_of disk.image home in
    let st : Store = store_on s disk in
    let named = index-named disk.image home (for.sound honest) in
    let file : IsFile t f.number = subst (IsFile t) (sym number) named.0 in
    let last : last_sequence t f.number ≡ f.sequence = ap (last_sequence t) number ∙ named.1 ∙ sym sequence in
    let found = named-is disk.image home f file last in
    let stored : st.file 1 ≡ Some (as_seen 1 (file_in home 1 disk.image)) = index-stored disk.image home (for.sound honest) in
    let here : index_file st ≡ as_seen 1 (file_in home 1 disk.image) = ap (λ (o : Option File). unwrap_or o no_file) stored in
    (found.0, found.1 ∙ ap (λ (n : ℕ). as_seen n (file_in home n disk.image)) number ∙ sym here, stored ∙ ap Some (sym here))
