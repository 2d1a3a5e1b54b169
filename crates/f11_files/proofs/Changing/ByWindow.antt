-- A block of a file that is written by a window.
use Rattle.std.proofs.Common.{◌≡◌, ◌⊎◌, ◌<◌, ℕ, Bool, true, false, IsTrue, List, length, inl, inr, refl, arith}
use Rattle.f11_chain.specs.Windows.{HoldsAt}
use Rattle.f11_chain.specs.declared.windows.Window.{Window}
use Rattle.f11_dev.specs.Disk.{Disk, with_block_at, with_transfer}
use Rattle.f11_home.specs.Home.{HomeFields}
use Rattle.f11_index.specs.IndexFile.{index_of}
use Rattle.f11_index.specs.Table.{table_of}
use Rattle.f11_store.specs.declared.files.FileId.{FileId}
use Rattle.f11_store.specs.declared.refusals.Refusal.TheVariants.{DeviceFault, VolumeFailed}
use Rattle.f11_volume.specs.Space.{storage_bitmap}
use Rattle.f11_image_store.specs.Confines.{no_header}
use Rattle.f11_files.specs.Answers.{blocks_of}
use Rattle.f11_files.specs.Finding.Blocks.{FindsBlock}
use Rattle.f11_files.specs.Finding.Windows.{FailsToStoreBy, IsOfFile, IsWindowOn, StoresBy}
use Rattle.f11_files.specs.Structure.{home_of, IsStructureFor, StaysFor}
use Rattle.f11_files.specs.declared.structure.Structure.{Structure}
use Rattle.f11_files.proofs.Bounded.{one-failed}
use Rattle.f11_files.proofs.Changing.Block.{fails-stays, fails-store, in-blocks, stored-order, stored-stays, stored-table, stores-block}
use Rattle.f11_files.proofs.Changing.Block.{unstored-order}
use Rattle.f11_files.proofs.Confining.Confines.{confines-none}
use Rattle.f11_files.proofs.Confining.Parts.{other-failed, other-wrote, to-only}
use Rattle.f11_files.proofs.Finding.Windows.{finds-in-window, in-place}
use Rattle.f11_files.proofs.WriteLemmas.{had-failed}

module _ (s : Structure) (w : Window) (vbn lbn : ℕ) (block : List ℕ) (old new : Disk) (for : IsStructureFor s old) (some : 0 < w.first)
    (held : HoldsAt w vbn lbn) (within : lbn < length old.image) where
  finds : (f : FileId) → IsWindowOn (home_of s) f w old → FindsBlock (home_of s) f vbn lbn old old
  finds f is = finds-in-window s f w old for is some vbn lbn held within

  abbrev blocks : FileId → List ℕ
  blocks f = blocks_of (home_of s) f old.image

  -- it was written
  module _ (is : new ≡ with_transfer true (with_block_at lbn block old)) where
    pub stores-by : StoresBy (home_of s) w vbn block old new
    stores-by = record {
      lbn = lbn;
      held = held;
      once = is;
      of_file = λ f on. stores-block s f vbn lbn block old old for on.id.number (finds f on) new is;
      confined = λ f on. to-only s no_header (blocks f) old new for (λ honest.
          other-wrote s no_header (blocks f) lbn block old new
          (in-blocks (home_of s) f old.image vbn lbn (on.has honest).there (in-place s f w old for on some vbn lbn held honest)) is
          (stored-order s f vbn lbn block old old for on.id.number (finds f on) new is));
    }

    pub stored-by-stays : IsOfFile (home_of s) w old → StaysFor false s s new
    stored-by-stays of = stored-stays s of.file vbn lbn block old old for of.is.id.number (finds of.file of.is) new is

    pub stored-by-table : IsOfFile (home_of s) w old → IsTrue old.honest → table_of new.image (home_of s) ≡ table_of old.image (home_of s)
    stored-by-table of = stored-table s of.file vbn lbn block old old for of.is.id.number (finds of.file of.is) new is

  -- the transfer failed
  module _ (is : (new ≡ with_transfer false old) ⊎ (new ≡ with_transfer false (with_block_at lbn block old))) where
    pub fails-by : FailsToStoreBy false (home_of s) w vbn block DeviceFault old new
    fails-by = record {
      why = record { only = inr refl; volume = λ no. absurd cc };
      few = one-failed lbn block old new is;
      of_file = λ f on. fails-store s f vbn lbn block old old for on.id.number (finds f on) new is;
      confined = λ f on. to-only s no_header (blocks f) old new for (λ honest.
          other-failed s no_header (blocks f) lbn block old new
          (in-blocks (home_of s) f old.image vbn lbn (on.has honest).there (in-place s f w old for on some vbn lbn held honest)) is
          (unstored-order s f vbn lbn block old old for on.id.number (finds f on) new is));
    }

    pub failed-by-stays : IsOfFile (home_of s) w old → StaysFor true s s new
    failed-by-stays of = fails-stays s of.file vbn lbn block old old for of.is.id.number (finds of.file of.is) new is

-- the volume had failed, and nothing is done
pub had-failed-by : {failed : Bool} {home : HomeFields} {w : Window} {vbn : ℕ} {block : List ℕ} (old : Disk) → failed ≡ true
    → FailsToStoreBy failed home w vbn block VolumeFailed old old
had-failed-by {home = home} old is = record {
  why = record { only = inl refl; volume = λ _. is };
  few = omega arith;
  of_file = λ f on. had-failed old is;
  confined = λ f on honest. confines-none no_header (index_of old.image home) (storage_bitmap old.image home)
      (blocks_of home f old.image) old;
}
