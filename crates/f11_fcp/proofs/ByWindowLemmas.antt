-- What requests make of windows.
use Rattle.std.proofs.Common.{◌≡◌, ℕ, ◌+◌, ◌≤◌, ◌==◌, ◌&&◌, Bool, true, false, Option, Some, None, Result, Ok, Err, refl, sym, ◌∙◌, ap}
use Rattle.std.proofs.Common.{subst, arith, option_map, if◌then◌else◌}
use Rattle.std.specs.Prelude.{OnOk}
use Rattle.std.proofs.lemmas.Option.{same_Some}
use Rattle.f11_chain.specs.Windows.{HoldsBlock}
use Rattle.f11_store.specs.Store.{is_same}
use Rattle.f11_store.specs.declared.files.FileId.{FileId}
use Rattle.f11_store.specs.declared.requests.Request.{Request}
use Rattle.f11_fcp.specs.Accesses.{Entry, AccessTable, marked_if, with_table_entry, with_marks}
use Rattle.f11_fcp.specs.ByWindow.{KeepsWindows, TakesOneTransfer, WasHeld, block_of}
use Rattle.f11_fcp.specs.Handles.{State}

-- what holds of an answer holds where it was served
pub on-ok : {T E A : Type 0} (result : Result T E) → A → OnOk result A
on-ok (Ok x) a = a
on-ok (Err e) a = tt

-- windows are kept by what leaves the table
pub keeps-same : (t : AccessTable) → KeepsWindows t t
keeps-same t task lun e held = record { was = e; held = held; file_is = refl; window_is = refl }

pub keeps-then : (t u v : AccessTable) → KeepsWindows t u → KeepsWindows u v → KeepsWindows t v
keeps-then t u v one two task lun e held =
    let here = two task lun e held in
    let before = one task lun here.was here.held in
    record { was = before.was; held = before.held; file_is = here.file_is ∙ before.file_is; window_is = here.window_is ∙ before.window_is }

-- by marks
pub keeps-marked : (f : FileId) (t t' : AccessTable) → t' ≡ with_marks f t → KeepsWindows t t'
keeps-marked f t t' is task lun e held = by_entry (t task lun) refl (ap (λ (u : AccessTable). u task lun) (sym is) ∙ held)
  where
    by_test : (was : Entry) → t task lun ≡ Some was → (b : Bool) → (if b then record was { marked = true } else was) ≡ e
        → WasHeld t task lun e
    by_test was at true to =
        record { was = was; held = at; file_is = ap (λ (x : Entry). x.file) (sym to); window_is = ap (λ (x : Entry). x.window) (sym to) }
    by_test was at false to =
        record { was = was; held = at; file_is = ap (λ (x : Entry). x.file) (sym to); window_is = ap (λ (x : Entry). x.window) (sym to) }

    by_entry : (o : Option Entry) → t task lun ≡ o → option_map (marked_if f) o ≡ Some e → WasHeld t task lun e
    by_entry None at none = absurd (cc)
    by_entry (Some was) at some = by_test was at (is_same was.file f) (same_Some _ _ some)

-- and where an access is given up
pub keeps-given : (t t' : AccessTable) (k l : ℕ) → t' ≡ with_table_entry t k l None → KeepsWindows t t'
keeps-given t t' k l is task lun e held = go ((task == k) && (lun == l)) (ap (λ (u : AccessTable). u task lun) (sym is) ∙ held)
  where
    go : (b : Bool) → (if b then None else t task lun) ≡ Some e → WasHeld t task lun e
    go true none = absurd (cc)
    go false some = keeps-same t task lun e some

-- a request for a block takes one transfer, where its block stands in the window of what its lun holds
pub one-transfer : (task lun vbn : ℕ) (r : Request) (old new : State) (e : Entry) → block_of r ≡ Some (lun, vbn)
    → old.table task lun ≡ Some e → (HoldsBlock e.window vbn → new.disk.transfers ≤ old.disk.transfers + 1)
    → TakesOneTransfer task r old new
one-transfer task lun vbn r old new e of held once l v is stands =
    let same : (lun, vbn) ≡ (l, v) = same_Some (lun, vbn) (l, v) (sym of ∙ is) in
    let entry : stands.entry ≡ e = same_Some _ _ (sym stands.held ∙ ap (λ (p : ℕ × ℕ). old.table task p.0) (sym same) ∙ held) in
    once (subst (λ (n : ℕ). HoldsBlock e.window n) (ap (λ (p : ℕ × ℕ). p.1) (sym same))
    (subst (λ (x : Entry). HoldsBlock x.window v) entry stands.holds))

-- or none, where nothing was done
pub none-made : (task : ℕ) (r : Request) (old : State) → TakesOneTransfer task r old old
none-made task r old lun vbn some stands = omega arith
