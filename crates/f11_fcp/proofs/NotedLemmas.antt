-- An answer is noted: what is kept of a volume stays, but whether it has failed.
use Rattle.std.proofs.Common.{◌≡◌, ◌∙◌, ℕ, ◌||◌, Bool, true, false, Result, refl, sym, ap, subst}
use Rattle.std.proofs.lemmas.Bool.{or_from, or_parts, or_right}
use Rattle.f11_dev.specs.Disk.{Disk}
use Rattle.f11_dev.specs.declared.device.Device.{Ghosts}
use Rattle.f11_home.specs.Home.{HomeFields}
use Rattle.f11_store.specs.declared.refusals.Refusal.{Refusal}
use Rattle.f11_files.specs.Answers.{ReadsAtMost, is_fatal, is_refused}
use Rattle.f11_files.specs.Open.{NotesAnswer, counts_in, disk_in, has_failed, home_in}
use Rattle.f11_files.specs.declared.files.Files.{Files}
use Rattle.f11_fcp.specs.Accesses.{AccessTable}
use Rattle.f11_fcp.specs.Handles.{State, IsOpen, state_of}
use Rattle.f11_fcp.proofs.HandleLemmas.{reads-none}
use Rattle.f11_fcp.proofs.LengthLemmas.{measured-open}

-- a volume that no call has failed but by a fatal answer has failed where the answer is fatal
pub noted-flag : (was fatal : Bool) → (fatal ≡ false → was ≡ false) → (was || fatal) ≡ fatal
noted-flag was true clean = or_right was true refl
noted-flag was false clean = or_from was false (clean refl) refl

abbrev state : AccessTable → Disk → HomeFields → ℕ × ℕ × ℕ → State
state t disk home counts = record { disk = disk; home = home; table = t; counts = counts }

module _ {D T : Type 0} {met : Ghosts D} (t : AccessTable) (result : Result T Refusal) (mid new : Files D met)
    (noted : NotesAnswer result mid new) where
  pub noted-disk : disk_in new ≡ disk_in mid
  noted-disk = ap met.disk noted.device

  pub noted-state : state_of t mid ≡ state_of t new
  noted-state =
      sym
      (ap (λ (d : Disk). state t d (home_in new) (counts_in new)) noted-disk
      ∙ (ap (λ (h : HomeFields). state t (disk_in mid) h (counts_in new)) noted.home
      ∙ ap (λ (n : ℕ × ℕ × ℕ). state t (disk_in mid) (home_in mid) n) noted.counts))

  pub noted-clean : has_failed new ≡ false → (has_failed mid ≡ false) × (is_refused is_fatal result ≡ false)
  noted-clean alive = or_parts (has_failed mid) (is_refused is_fatal result) (sym noted.next ∙ alive)

  pub noted-open : (is_refused is_fatal result ≡ false → IsOpen t mid) → has_failed new ≡ false → IsOpen t new
  noted-open kept alive =
      measured-open t mid new (kept (noted-clean alive).1)
      (subst (λ (d : Disk). ReadsAtMost 0 (disk_in mid) d 0) (sym noted-disk) (reads-none (disk_in mid))) noted.home alive
