-- Which files have the blocks that they had, over calls on files.
use Rattle.std.proofs.Common.{◌≡◌, ℕ, List, refl, ◌∙◌, subst}
use Rattle.f11_dev.specs.Disk.{Disk}
use Rattle.f11_dev.specs.Image.{Image, IsImage}
use Rattle.f11_dev.specs.declared.device.Device.{Ghosts}
use Rattle.f11_home.specs.Home.{HomeFields}
use Rattle.f11_store.specs.Changes.{with_delete_mark, with_replacement}
use Rattle.f11_store.specs.declared.callers.Uic.{Uic}
use Rattle.f11_store.specs.declared.files.Change.{Change}
use Rattle.f11_store.specs.declared.files.FileId.{FileId}
use Rattle.f11_files.specs.volume.Sound.{HasSoundVolume}
use Rattle.f11_files.proofs.Rows.{altered-rows, created-rows, cut-rows, deleted-rows, extended-rows, grown-rows, laid-rows, replaced-rows}
use Rattle.f11_files.proofs.Rows.{stored-rows}
use Rattle.f11_files.specs.Changing.Fields.{Alters}
use Rattle.f11_files.specs.Create.{Creates}
use Rattle.f11_files.specs.Extending.Runs.{ExtendsFile}
use Rattle.f11_files.specs.Finding.Blocks.{StoresBlock}
use Rattle.f11_files.specs.GrowingIndex.Runs.{GrowsIndexFile}
use Rattle.f11_files.specs.LayingOut.Whole.{LaysOutFile}
use Rattle.f11_files.specs.Open.{disk_in, home_in, is_honest}
use Rattle.f11_files.specs.Removing.Delete.{Deletes}
use Rattle.f11_files.specs.Removing.Truncate.{Cuts}
use Rattle.f11_files.specs.Rows.{KeepsRows, no_number, this_number}
use Rattle.f11_files.specs.declared.files.Files.{Files}
use Rattle.f11_fcp.specs.Windows.{LeavesRows}
use Rattle.f11_fcp.proofs.WindowLemmas.{rows-then, sound-in}

-- a device stays honest, or isn't, where headers were readied first
created-honest : {home : HomeFields} {owner : Uic} {protection : ℕ} {ident attr : List ℕ} {f : FileId} {old new : Disk}
    → Creates home owner protection ident attr f old new → new.honest ≡ old.honest
created-honest creates = creates.enters.does.writes.went.honest ∙ creates.readies.does.writes.went.honest

pub extended-honest : {home : HomeFields} {f : FileId} {n : ℕ} {old new : Disk} → ExtendsFile home f n old new → new.honest ≡ old.honest
extended-honest does = does.extends.writes.went.honest ∙ does.readies.does.writes.went.honest ∙ does.reads.looked.honest

module _ {D : Type 0} {met : Ghosts D} (old new : Files D met) (image : IsImage (disk_in old).image) (image' : IsImage (disk_in new).image)
    (home : home_in new ≡ home_in old) where
  before : is_honest old → HasSoundVolume (disk_in old).image (home_in old)
  before = sound-in old image

  after : (disk_in new).honest ≡ (disk_in old).honest → is_honest old → HasSoundVolume (disk_in new).image (home_in old)
  after same honest = subst (HasSoundVolume (disk_in new).image) home (sound-in new image' (same ∙ honest))

  pub stored-leaves : (f : FileId) (vbn : ℕ) (block : List ℕ) → StoresBlock (home_in old) f vbn block (disk_in old) (disk_in new)
      → LeavesRows old new
  stored-leaves f vbn block does honest =
      stored-rows (home_in old) f vbn block (disk_in old) (disk_in new) (before honest) (after does.writes.went.honest honest) honest does

  pub replaced-leaves : (f : FileId) (change : Change) → Alters (with_replacement change) (home_in old) f (disk_in old) (disk_in new)
      → LeavesRows old new
  replaced-leaves f change does honest =
      replaced-rows (home_in old) f change (disk_in old) (disk_in new) (before honest) (after does.writes.went.honest honest) honest does

  pub marked-leaves : (f : FileId) → Alters with_delete_mark (home_in old) f (disk_in old) (disk_in new) → LeavesRows old new
  marked-leaves f does honest =
      altered-rows (home_in old) f with_delete_mark (disk_in old) (disk_in new) (before honest) (after does.writes.went.honest honest)
      honest (λ g. refl) does

  pub created-leaves : (owner : Uic) (protection : ℕ) (ident attr : List ℕ) (f : FileId)
      → Creates (home_in old) owner protection ident attr f (disk_in old) (disk_in new) → LeavesRows old new
  created-leaves owner protection ident attr f creates honest =
      created-rows (home_in old) owner protection ident attr f (disk_in old) (disk_in new) (before honest)
      (after (created-honest creates) honest) honest creates

  pub extended-leaves : (f : FileId) (n : ℕ) → ExtendsFile (home_in old) f n (disk_in old) (disk_in new) → LeavesRows old new
  extended-leaves f n does honest =
      extended-rows (home_in old) f n (disk_in old) (disk_in new) (before honest) (after (extended-honest does) honest) honest does

  pub laid-leaves : (f : FileId) (n : ℕ) → LaysOutFile (home_in old) f n (disk_in old) (disk_in new) → LeavesRows old new
  laid-leaves f n does honest =
      laid-rows (home_in old) f n (disk_in old) (disk_in new) (before honest) (after does.writes.went.honest honest) honest does

  pub grown-leaves : (n : ℕ) → GrowsIndexFile (home_in old) n (disk_in old) (disk_in new) → LeavesRows old new
  grown-leaves n does honest =
      grown-rows (home_in old) n (disk_in old) (disk_in new) (before honest) (after does.writes.went.honest honest) honest does

  pub cut-leaves : (f : FileId) (to : ℕ) → Cuts (home_in old) f to (disk_in old) (disk_in new) → is_honest old
      → KeepsRows (this_number f.number) (home_in old) (disk_in old).image (disk_in new).image
  cut-leaves f to does honest =
      cut-rows (home_in old) f to (disk_in old) (disk_in new) (before honest) (after does.writes.went.honest honest) honest does

  pub deleted-leaves : (f : FileId) → Deletes (home_in old) f (disk_in old) (disk_in new) → is_honest old
      → KeepsRows (this_number f.number) (home_in old) (disk_in old).image (disk_in new).image
  deleted-leaves f does honest =
      deleted-rows (home_in old) f (disk_in old) (disk_in new) (before honest) (after does.writes.went.honest honest) honest does

-- one call after another
pub leaves-then : {D : Type 0} {met : Ghosts D} (old mid new : Files D met) → home_in mid ≡ home_in old
    → (disk_in mid).honest ≡ (disk_in old).honest → LeavesRows old mid → LeavesRows mid new → LeavesRows old new
leaves-then old mid new home same one two honest =
    rows-then (one honest) (subst (λ (h : HomeFields). KeepsRows no_number h (disk_in mid).image (disk_in new).image) home
    (two (same ∙ honest)))

-- behind a look
pub leaves-behind : {D : Type 0} {met : Ghosts D} (old mid new : Files D met) → home_in mid ≡ home_in old
    → (disk_in mid).honest ≡ (disk_in old).honest → (disk_in mid).image ≡ (disk_in old).image → LeavesRows mid new → LeavesRows old new
leaves-behind old mid new home same image two honest =
    subst (λ (i : Image). KeepsRows no_number (home_in old) i (disk_in new).image) image
    (subst (λ (h : HomeFields). KeepsRows no_number h (disk_in mid).image (disk_in new).image) home (two (same ∙ honest)))

pub cut-behind : {D : Type 0} {met : Ghosts D} (old mid new : Files D met) (f : FileId) → home_in mid ≡ home_in old
    → (disk_in mid).honest ≡ (disk_in old).honest → (disk_in mid).image ≡ (disk_in old).image
    → (is_honest mid → KeepsRows (this_number f.number) (home_in mid) (disk_in mid).image (disk_in new).image) → is_honest old
    → KeepsRows (this_number f.number) (home_in old) (disk_in old).image (disk_in new).image
cut-behind old mid new f home same image two honest =
    subst (λ (i : Image). KeepsRows (this_number f.number) (home_in old) i (disk_in new).image) image
    (subst (λ (h : HomeFields). KeepsRows (this_number f.number) h (disk_in mid).image (disk_in new).image) home (two (same ∙ honest)))
