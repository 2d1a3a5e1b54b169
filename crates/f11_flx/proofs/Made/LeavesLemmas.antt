-- A making that is refused leaves all as it was before.
use Rattle.std.proofs.Common.{◌≡◌, inl, inr, ℕ, ◌++◌, length, sym, ◌∙◌, subst}
use Rattle.f11_runs.specs.Standing.{AccessesStand}
use Rattle.f11_store.specs.Accesses.{FreeIsEmpty}
use Rattle.f11_store.specs.Store.{Store}
use Rattle.f11_store.specs.declared.files.FileId.{FileId}
use Rattle.f11_store.specs.declared.refusals.Refusal.{Refusal}
use Rattle.f11_making.specs.Asking.{BreaksOffAsking, Granted, Who, plain}
use Rattle.f11_making.specs.AsBefore.{IsAsBefore}
use Rattle.f11_making.specs.Making.{Making, as_file, creation, deletion, filling, giving_up, new_id, opening}
use Rattle.f11_flx.specs.MakingLaws.{RefusedCopyLeaves, RefusedMakingLeaves}
use Rattle.f11_flx.specs.declared.refusal.FlxRefusal.TheVariants.{BadRecord, Files, LineTooLong, Rt, Unread}
use Rattle.f11_making.proofs.AskingLemmas.{granted-parts}
use Rattle.f11_flx.proofs.Made.EnteredLemmas.{entry-refused}
use Rattle.f11_flx.proofs.Made.NewLemmas.{IsNewIn, IsOpenIn, closed, deleted, lun-was-free, new-made, opened}
use Rattle.f11_flx.proofs.FromRt.UndoneLemmas.{as-before, filled-closed, filling-breaks}

module _ (who : Who) (lun : ℕ) (s : Store) (tidy : FreeIsEmpty s) (stand : AccessesStand s) where
  -- it is deleted
  gone : (id : FileId) (t u : Store) → IsNewIn who.caller id s.access s t → Granted plain who (deletion id) t u → IsAsBefore s u
  gone id t u h g = subst (λ x. IsAsBefore s x) (sym g.2) (deleted who.caller id s who t g.0 tidy stand h g.1)

  -- it is given up, and deleted
  given-up : (id : FileId) (t u : Store) → s.access who.task lun ≡ Rattle.std.specs.Prelude.None → IsOpenIn who.caller id s who lun t
      → Granted plain who (giving_up lun ++ deletion id) t u → IsAsBefore s u
  given-up id t u free h g = gone id g.0 u (closed who.caller id s who lun t g.0 free h g.1) g.2

  pub now-open : (id : FileId) (t u : Store) → IsNewIn who.caller id s.access s t → Granted plain who (opening lun id) t u
      → IsOpenIn who.caller id s who lun u × (s.access who.task lun ≡ Rattle.std.specs.Prelude.None)
  now-open id t u h g = (
    subst (λ x. IsOpenIn who.caller id s who lun x) (sym g.2) (opened who.caller id s who lun t g.0 h g.1),
    lun-was-free who.caller id s who lun t g.0 h g.1,
  )

-- what was refused alone changed nothing
one-refused : (who : Who) (making : Making) (id : FileId) (e : Refusal) (t u : Store) → BreaksOffAsking plain who (creation making id) e t u
    → u ≡ t
one-refused who making id e t u (inl d) = d.2.store_stays
one-refused who making id e t u (inr b) = absurd b.2

access-refused : (who : Who) (lun : ℕ) (id : FileId) (e : Refusal) (t u : Store) → BreaksOffAsking plain who (opening lun id) e t u → u ≡ t
access-refused who lun id e t u (inl d) = d.2.store_stays
access-refused who lun id e t u (inr b) = absurd b.2

pub refused-making-leaves : RefusedMakingLeaves
refused-making-leaves making who lun e s s' tidy stand (inl h) =
    subst (λ x. IsAsBefore s x) (sym (h.undoes ∙ one-refused who making (new_id s) e h.reached h.left h.breaks ∙ h.granted)) (as-before s)
refused-making-leaves making who lun e s s' tidy stand (inr (inl h)) =
    let made = new-made making (new_id s) who s h.reached h.granted in
    let here = subst (λ x. IsNewIn who.caller (new_id s) s.access s x) (sym (access-refused who lun (new_id s) e h.reached h.left h.breaks))
    made in
    gone who lun s tidy stand (new_id s) h.left s' here h.undoes
refused-making-leaves making who lun e s s' tidy stand (inr (inr (inl h))) =
    let parts = granted-parts plain who (creation making (new_id s)) (opening lun (new_id s)) s h.reached h.granted in
    let made = new-made making (new_id s) who s parts.0 parts.1 in
    let o = now-open who lun s tidy stand (new_id s) parts.0 h.reached made parts.2 in
    let at = filling-breaks who lun (new_id s) s (length making.blocks) making.blocks e h.reached h.left o.0 h.breaks in
    given-up who lun s tidy stand (new_id s) h.left s' o.1 at h.undoes
refused-making-leaves making who lun e s s' tidy stand (inr (inr (inr h))) =
    let parts = granted-parts plain who (creation making (new_id s)) (opening lun (new_id s) ++ filling lun making.blocks) s h.reached
    h.granted in
    let rest = granted-parts plain who (opening lun (new_id s)) (filling lun making.blocks) parts.0 h.reached parts.2 in
    let made = new-made making (new_id s) who s parts.0 parts.1 in
    let o = now-open who lun s tidy stand (new_id s) parts.0 rest.0 made rest.1 in
    let c = filled-closed who lun (new_id s) s (length making.blocks) making.blocks rest.0 h.reached o.1 o.0 rest.2 in
    let here = entry-refused making who (new_id s) e s h.reached h.left c h.breaks in
    gone who lun s tidy stand (new_id s) h.left s' here h.undoes

pub refused-copy-leaves : RefusedCopyLeaves
refused-copy-leaves (Files e) m name who lun dir to protection disk s s' tidy stand h =
    refused-making-leaves (as_file to dir protection h.attr h.pieces) who lun e s s' tidy stand h.fails
refused-copy-leaves (Rt e) m name who lun dir to protection disk s s' tidy stand h = subst (λ x. IsAsBefore s x) (sym h.1) (as-before s)
refused-copy-leaves BadRecord m name who lun dir to protection disk s s' tidy stand h = absurd h
refused-copy-leaves LineTooLong m name who lun dir to protection disk s s' tidy stand h =
    subst (λ x. IsAsBefore s x) (sym h.1) (as-before s)
refused-copy-leaves Unread m name who lun dir to protection disk s s' tidy stand h = absurd h
