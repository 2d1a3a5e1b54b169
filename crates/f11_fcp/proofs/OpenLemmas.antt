-- Files stay open, and what is kept of accesses right.
use Rattle.std.proofs.Common.{◌≡◌, ℕ, true, false, IsTrue, List, [], Option, Some, None, Result, Ok, Err, refl, sym, ◌∙◌, ap, subst}
use Rattle.std.proofs.Common.{option_map, ◌<◌}
use Rattle.f11_dev.specs.declared.device.Device.{Ghosts}
use Rattle.f11_store.specs.Store.{Store, is_same}
use Rattle.f11_store.specs.Step.{Step, block_after}
use Rattle.f11_store.specs.declared.callers.Uic.{Uic}
use Rattle.f11_store.specs.declared.files.FileId.{FileId}
use Rattle.f11_store.specs.declared.refusals.Refusal.{Refusal}
use Rattle.f11_store.specs.declared.requests.Reply.{Reply}
use Rattle.f11_store.specs.declared.requests.Request.{Request}
use Rattle.f11_files.specs.Answers.{is_fatal, is_refused, ReadsAtMost}
use Rattle.f11_files.specs.Open.{has_failed, disk_in, home_in, is_honest, store_in}
use Rattle.f11_files.proofs.image_store.StoreLemmas.{unused-is-empty}
use Rattle.f11_files.specs.image_store.StoreOf.{store_of}
use Rattle.f11_files.specs.declared.files.Files.{Files}
use Rattle.f11_fcp.specs.Accesses.{AccessTable, Entry, accesses, held_in, mark_there, mark_kept, HasAccessed, access_of, with_table_entry}
use Rattle.f11_fcp.specs.Accesses.{with_window}
use Rattle.f11_dev.proofs.WentLemmas.{went_weaker}
use Rattle.f11_store.specs.Causes.{first_refusal, is_missing}
use Rattle.f11_store.specs.Changes.{Changes}
use Rattle.f11_store.specs.Lags.{Work, LagsBy, work_if, served_work}
use Rattle.f11_store.specs.declared.requests.Request.TheVariants as request
use Rattle.f11_store.specs.Accesses.{is_blockless}
use Rattle.f11_fcp.specs.Handles.{State, WhileServing, state_of, store_at, Handles, IsOpen, StaysOpen}
use Rattle.f11_fcp.specs.Places.{access_table_of}
use Rattle.f11_fcp.specs.Serving.{is_spent}
use Rattle.f11_fcp.specs.Windows.{HasWindows, KeepsWindow, LeavesRows}
use Rattle.f11_fcp.specs.declared.volume.Volume.{Volume}
use Rattle.std.specs.Prelude.{OnOk}
use Rattle.f11_fcp.proofs.AccessedLemmas.{there-held}
use Rattle.f11_fcp.proofs.RowLemmas.{leaves-behind}
use Rattle.f11_fcp.proofs.WindowLemmas.{accesses-with, clean-of, handled-on, kept-with, rows-same, windows-on, windows-with}
use Rattle.f11_store.proofs.FateLaws.{Fate, mark-stays, held-at}
use Rattle.f11_store.proofs.StepFates.{SimpleIf, fate-step}
use Rattle.std.proofs.lemmas.Bool.{eq-eqb, and_from}
use Rattle.std.proofs.lemmas.Option.{same_Some}
use Rattle.f11_chain.specs.declared.windows.Window.{Window}

-- an identification is the same as itself
pub same-self : (id : FileId) → is_same id id ≡ true
same-self id = and_from _ _ (eq-eqb id.number id.number refl) (eq-eqb id.sequence id.sequence refl)

-- a file that is accessed is there
pub there-open : {D : Type 0} {met : Ghosts D} {t : AccessTable} {files : Files D met} (task lun : ℕ) (e : Entry) → IsOpen t files
    → (task < 8) × (lun < 4) → t task lun ≡ Some e → is_honest files → is_missing (store_in files) e.file ≡ false
there-open {t = t} {files = files} task lun e is within held honest =
    there-held t (store_in files) task lun e (is.kept honest) within.0 within.1 held

-- what is kept of accesses is right after a step that leaves the table
pub kept-by-step : (t : AccessTable) (s s' : Store) → ((n : ℕ) → Fate (held_in t s) (held_in t s') n) → HasAccessed t s → HasAccessed t s'
kept-by-step t s s' fate kept task lun low small = by_entry (t task lun) refl (kept task lun low small)
  where
    by_entry : (o : Option Entry) → t task lun ≡ o → mark_there s o ≡ mark_kept o → mark_there s' o ≡ mark_kept o
    by_entry None is h = refl
    by_entry (Some e) is h =
        mark-stays (held_in t s) (held_in t s') e.file e.marked (fate e.file.number) h
        (held-at (λ _. true) (held_in t s') task lun (access_of e) e.file low small (ap (option_map access_of) is) (same-self e.file) refl)

-- so after a request that left the table as it was
pub kept-after : {D : Type 0} {met : Ghosts D} (t : AccessTable) (old new : Files D met) (task : ℕ) (caller : Uic) (r : Request)
    (result : Result Reply Refusal) (block block' : List ℕ)
    → IsOpen t old → (IsTrue (disk_in old).honest → SimpleIf result (store_at (state_of t old)) r)
    → Handles task caller r result (state_of t old) block (state_of t new) block' → is_refused is_fatal result ≡ false
    → is_honest new → HasAccessed t (store_in new)
kept-after t old new task caller r result block block' is simple handles clean honest =
    let was : IsTrue (disk_in old).honest = sym handles.writes.went.honest ∙ honest in
    kept-by-step t (store_of (disk_in old).image (home_in old)) (store_of (disk_in new).image (home_in new))
    (fate-step (store_at (state_of t old)) task caller r block result (store_at (state_of t new)) block'
    (unused-is-empty (disk_in old).image (home_in old)) (simple was) (handles.step was clean)) (is.kept was)

-- windows are kept where they are by a request that was served, and by one that was refused
pub windows-after : {D : Type 0} {met : Ghosts D} (t : AccessTable) (old new : Files D met) (task : ℕ) (caller : Uic) (r : Request)
    (result : Result Reply Refusal) (block block' : List ℕ)
    → IsOpen t old → Handles task caller r result (state_of t old) block (state_of t new) block' → is_refused is_fatal result ≡ false
    → OnOk result (HasWindows t new) → HasWindows t new
windows-after t old new task caller r (Ok reply) block block' is handles clean windows = windows
windows-after t old new task caller r (Err e) block block' is handles clean windows =
    windows-on t old new is handles.writes handles.home
    (λ _. rows-same (home_in old) (disk_in old).image (disk_in new).image (handles.left (clean-of e clean)).unwritten.image)

-- so all stays open where a request left the table as it was
pub stays-open : {D : Type 0} {met : Ghosts D} (t : AccessTable) (old new : Files D met) (task : ℕ) (caller : Uic) (r : Request)
    (result : Result Reply Refusal) (block block' : List ℕ)
    → IsOpen t old → (IsTrue (disk_in old).honest → SimpleIf result (store_at (state_of t old)) r)
    → Handles task caller r result (state_of t old) block (state_of t new) block'
    → (is_refused is_fatal result ≡ false → has_failed new ≡ false)
    → OnOk result (HasWindows t new) → StaysOpen result t new
stays-open t old new task caller r result block block' is simple handles alive windows clean = record {
  alive = alive clean;
  windows = windows-after t old new task caller r result block block' is handles clean windows;
  kept = kept-after t old new task caller r result block block' is simple handles clean;
}

-- so where it was served by a call behind a look that leaves the rows
pub served-open : {D : Type 0} {met : Ghosts D} (t : AccessTable) (old mid new : Files D met) (task : ℕ) (caller : Uic) (r : Request)
    (reply : Reply) {m : ℕ} → IsOpen t old → (IsTrue (disk_in old).honest → SimpleIf (Ok reply) (store_at (state_of t old)) r)
    → Handles task caller r (Ok reply) (state_of t old) [] (state_of t new) [] → ReadsAtMost m (disk_in old) (disk_in mid) 0
    → home_in mid ≡ home_in old → has_failed new ≡ false → LeavesRows mid new → StaysOpen (Ok reply) t new
served-open t old mid new task caller r reply is simple handles reads home alive rows =
    stays-open t old new task caller r (Ok reply) [] [] is simple handles (λ _. alive)
    (windows-on t old new is handles.writes handles.home
    (leaves-behind old mid new home reads.looked.honest reads.looked.image rows))

-- and where one access keeps another window
pub open-with : {D : Type 0} {met : Ghosts D} (t t' : AccessTable) (old new : Files D met) (task lun : ℕ) (caller : Uic) (r : Request)
    (reply : Reply) (block block' : List ℕ) (e : Entry) (w : Window)
    → IsOpen t old → (IsTrue (disk_in old).honest → SimpleIf (Ok reply) (store_at (state_of t old)) r)
    → Handles task caller r (Ok reply) (state_of t old) block (state_of t' new) block' → t task lun ≡ Some e
    → t' ≡ with_table_entry t task lun (Some (with_window w e)) → KeepsWindow (with_window w e) new → has_failed new ≡ false
    → HasWindows t new → IsOpen t' new
open-with t t' old new task lun caller r reply block block' e w is simple handles held value keeps alive windows = record {
  alive = alive;
  kept = λ honest. subst (λ (u : AccessTable). HasAccessed u (store_in new)) (sym value) (kept-with t (store_in new) task lun e w held
      (kept-after t old new task caller r (Ok reply) block block' is simple
      (handled-on t (sym (ap (λ (u : AccessTable). accesses u) value ∙ accesses-with t task lun e w held)) handles) refl honest));
  windows = windows-with t t' new task lun (Some (with_window w e)) value
      (λ x same. subst (λ (y : Entry). KeepsWindow y new) (same_Some (with_window w e) x same) keeps) windows;
}

-- a request that doesn't touch the block
changes-block : (s : Store) (task : ℕ) (caller : Uic) (r : Request) (block : List ℕ) (s' : Store) → is_blockless r ≡ true
    → Changes s task caller r [] s' → Changes s task caller r block s'
changes-block s task caller (request.ReadBlock lun vbn) block s' is h = absurd (cc)
changes-block s task caller (request.WriteBlock lun vbn) block s' is h = absurd (cc)
changes-block s task caller _ block s' is h = h

block-same : (s : Store) (task : ℕ) (r : Request) (block : List ℕ) → is_blockless r ≡ true → block ≡ block_after s task r block
block-same s task (request.ReadBlock lun vbn) block is = absurd (cc)
block-same s task (request.WriteBlock lun vbn) block is = absurd (cc)
block-same s task _ block is = refl

work-same : (s : Store) (task : ℕ) (caller : Uic) (r : Request) (block : List ℕ) → is_blockless r ≡ true
    → served_work s task caller r [] ≡ served_work s task caller r block
work-same s task caller (request.ReadBlock lun vbn) block is = absurd (cc)
work-same s task caller (request.WriteBlock lun vbn) block is = absurd (cc)
work-same s task caller _ block is = refl

step-block : (s : Store) (task : ℕ) (caller : Uic) (r : Request) (block : List ℕ) (result : Result Reply Refusal) (s' : Store)
    → is_blockless r ≡ true → Step s task caller r [] result s' []
    → Step s task caller r block result s' block
step-block s task caller r block (Ok a) s' is h =
    record {
      no_cause = h.no_cause;
      reply_is = h.reply_is;
      changes = changes-block s task caller r block s' is h.changes;
      block_is = block-same s task r block is;
    }
step-block s task caller r block (Err e) s' is h = record { may_refuse = h.may_refuse; store_stays = h.store_stays; block_stays = refl }

pub handles-block : (task : ℕ) (caller : Uic) (r : Request) (result : Result Reply Refusal) (old new : State) (block : List ℕ)
    → is_blockless r ≡ true → Handles task caller r result old [] new []
    → Handles task caller r result old block new block
handles-block task caller r result old new block is h = record {
  step = λ honest clean. step-block (store_at old) task caller r block result (store_at new) is (h.step honest clean);
  undamaged = h.undamaged;
  writes = record {
    transfers = h.writes.transfers;
    went = went_weaker (WhileServing task caller r [] old) (WhileServing task caller r block old)
        (λ image stands honest. let u = stands honest in record {
          sound = u.sound;
          lags = subst (λ (w : Work). LagsBy (work_if (first_refusal (store_at old) task caller r) w) (store_of image old.home)
              (store_at old)) (work-same (store_at old) task caller r block is) u.lags;
        }) h.writes.went;
    few = h.writes.few;
  };
  left = λ clean. let u = h.left clean in record { unwritten = u.unwritten; table = u.table; counts = u.counts; lent = refl };
  among = h.among;
  unfailed = h.unfailed;
  home = h.home;
}

-- a volume that no request has failed is open
pub volume-open : {D : Type 0} {met : Ghosts D} (v : Volume D met) → is_spent v ≡ false → IsOpen (access_table_of v.accesses) v.files
volume-open v fresh = record { alive = fresh; kept = v.kept fresh; windows = v.windows fresh }
