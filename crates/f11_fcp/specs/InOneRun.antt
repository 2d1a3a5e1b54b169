-- Files that are laid out in one run: what is said of the image, since the plain store knows no LBN (profile).
use Rattle.std.specs.Prelude.{◌≡◌, ℕ, Bool, Option, Some, None, false, IsTrue, OnOk, Result, Err}
use Rattle.std.specs.List.{range_with_len}
use Rattle.f11_bits.specs.Bitmap.{is_free}
use Rattle.f11_bits.specs.Run.{IsFirstRunOf, NoRunOf}
use Rattle.f11_chain.specs.FileHeaders.{file_blocks}
use Rattle.f11_files.specs.Answers.{is_fatal, is_refused}
use Rattle.f11_files.specs.index.Table.{table_of}
use Rattle.f11_store.specs.Causes.{first_refusal}
use Rattle.f11_store.specs.Store.{id_held}
use Rattle.f11_store.specs.declared.callers.Uic.{Uic}
use Rattle.f11_store.specs.declared.refusals.Refusal.{Refusal}
use Rattle.f11_store.specs.declared.refusals.Refusal.TheVariants.{NoRun}
use Rattle.f11_store.specs.declared.requests.Reply.{Reply}
use Rattle.f11_store.specs.declared.requests.Request.{Request}
use Rattle.f11_store.specs.declared.requests.Request.TheVariants as request
use Rattle.f11_files.specs.volume.Space.{storage_bitmap}
use Rattle.f11_fcp.specs.Handles.{State, store_at}

-- a block of a state's volume is free
abbrev pub free_in : State → ℕ → Bool
free_in v = is_free v.disk.image (storage_bitmap v.disk.image v.home)

-- A request for n blocks in one run: where `NoRun` is answered, no cause that the store knows stands against it and nowhere n free blocks
-- follow one another; where that is so, and the volume doesn't fail, `NoRun` is answered; where it is served, the file's blocks are the
-- lowest n free ones that followed one another.
pub record LiesInRun (task : ℕ) (caller : Uic) (lun n : ℕ) (result : Result Reply Refusal) (old new : State) : Type 0 where
  pub refused :
      result ≡ Err NoRun → (first_refusal (store_at old) task caller (request.Contiguous lun n) ≡ None) × NoRunOf (free_in old) n
  pub no_run :
      first_refusal (store_at old) task caller (request.Contiguous lun n) ≡ None → NoRunOf (free_in old) n →
      is_refused is_fatal result ≡ false → result ≡ Err NoRun
  pub lies :
      OnOk result ((lbn : ℕ) × IsFirstRunOf (free_in old) n lbn
      × (file_blocks (table_of new.disk.image old.home) (id_held (store_at old) task lun).number ≡ range_with_len lbn n))

-- what a request asks in one run: so many blocks for what a lun holds
abbrev pub run_of : Request → Option (ℕ × ℕ)
run_of (request.Contiguous lun n) = Some (lun, n)
run_of _ = None

-- that of an honest disk, where the request asks for a run; of any other nothing more is said
abbrev pub InOneRun : ℕ → Uic → Request → Result Reply Refusal → State → State → Type 0
InOneRun task caller r result old new =
    (lun n : ℕ) → run_of r ≡ Some (lun, n) → IsTrue old.disk.honest → LiesInRun task caller lun n result old new
