-- What asking for the length of a file that is accessed tells (profile).
use Rattle.std.specs.Prelude.{◌≡◌, ℕ, ◌≤◌, ◌||◌, true, false, IsTrue, List, [], ◌∷◌, Result, IsErrOf, MatchResult}
use Rattle.f11_dev.specs.declared.device.Device.{Ghosts}
use Rattle.f11_store.specs.Causes.{Cause, ◌⇐◌, holds_none}
use Rattle.f11_store.specs.Cost.{header_count}
use Rattle.f11_store.specs.File.{length_of, most_blocks}
use Rattle.f11_store.specs.Store.{file_held}
use Rattle.f11_store.specs.declared.refusals.Refusal.{Refusal}
use Rattle.f11_store.specs.declared.refusals.Refusal.TheVariants.{NoSuchAccess, VolumeFailed}
use Rattle.f11_files.specs.Answers.{FailsToRead, ReadsAtMost, is_fatal, is_refused}
use Rattle.f11_fcp.specs.Handles.{State, store_at}
use Rattle.f11_fcp.specs.Serving.{is_spent, state_in}
use Rattle.f11_fcp.specs.declared.volume.Volume.{Volume}

-- each header of the file that is accessed is read once
abbrev pub length_cost : State → ℕ → ℕ → ℕ
length_cost v task lun = header_count (file_held (store_at v) task lun)

-- the only cause against it
abbrev pub length_causes : State → ℕ → ℕ → List Cause
length_causes v task lun = (NoSuchAccess ⇐ holds_none (store_at v) task lun) ∷ []

-- The lun holds an access, and its file has so many blocks.
pub record IsLength (task lun blocks : ℕ) (old new : State) : Type 0 where
  pub accessed : holds_none (store_at old) task lun ≡ false
  pub length_is : IsTrue old.disk.honest → blocks ≡ length_of (file_held (store_at old) task lun)
  pub few : blocks ≤ most_blocks
  pub reads : ReadsAtMost (length_cost old task lun) old.disk new.disk 0

-- The blocks were counted, or that was refused; what tasks hold and the counts stay, whatever is answered.
pub record Measures (task lun : ℕ) (result : Result ℕ Refusal) (old new : State) : Type 0 where
  pub outcome : MatchResult result (λ blocks. IsLength task lun blocks old new)
      (λ refusal. FailsToRead false (length_causes old task lun) (length_cost old task lun) refusal old.disk new.disk)
  pub table : new.table ≡ old.table
  pub counts : new.counts ≡ old.counts
  pub home : new.home ≡ old.home

-- A volume was asked. Once a request has failed it the answer is VolumeFailed, and nothing is done; else the blocks are counted. It
-- fails the volume where it is answered DeviceFault or Damaged, and no other way.
pub record AnswersLength {D : Type 0} {met : Ghosts D} (task lun : ℕ) (result : Result ℕ Refusal) (old new : Volume D met) : Type 0 where
  pub refused : is_spent old ≡ true → IsErrOf result VolumeFailed
  pub untouched : is_spent old ≡ true → state_in new ≡ state_in old
  pub measures : is_spent old ≡ false → Measures task lun result (state_in old) (state_in new)
  pub next : is_spent new ≡ (is_spent old || is_refused is_fatal result)
