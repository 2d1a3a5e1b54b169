use Rattle.std.proofs.Common.{◌≡◌, ℕ, ◌+◌, ◌++◌, ◌∷◌, [], List, take, get_or, Option, sym, ◌∙◌, ap, subst}
use Rattle.std.proofs.lemmas.List.{append-nil}
use Rattle.std.specs.List.{cons_option}
use Rattle.f11_making.specs.declared.action.Action.{Action}
use Rattle.f11_actions.specs.Changes.{AreActions, IsAction}
use Rattle.f11_actions.proofs.ChangeLemmas.{actions-next}
use Rattle.f11_actions.proofs.change.Change.actions.Goals.{in-Some+in_ok-push, in_default}
use Rattle.f11_actions.proofs.change.Change.actions.Goals as goal

pub loop-name-preserved : goal.loop-name-preserved
loop-name-preserved c =
    let change = c.args.self in
    let directory = c.args.directory in
    let names = c.args.names.now in
    let those = c.args.those.now in
    let l = c.loop-name in
    let item = c.name-item in
    let are = AreActions change directory names (take (l.name-index + 1) those) in
    let is = subst (λ (x : List ℕ). IsAction change directory names x c.action.result) item.is c.action.ensures in
    let all = actions-next change directory names those l.actions.items l.name-index item.result c.action.result c.loop-name-test.true
    l.invariant is in
    elim c.match-action.branch [
      | in-Some+in_ok-push w ↦
          subst are
          (ap (λ (o : Option Action). l.actions.items ++ cons_option o []) w.in-Some.is ∙ sym w.in_ok-push.ensures.items
          ∙ ap (λ v. v.items) (sym w.actions-is)) all
      | in_default w ↦
          subst are
          (ap (λ (o : Option Action). l.actions.items ++ cons_option o []) w.in_default.is ∙ append-nil l.actions.items
          ∙ ap (λ v. v.items) (sym w.actions-is)) all
    ]
