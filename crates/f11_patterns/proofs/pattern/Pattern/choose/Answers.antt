use Rattle.std.proofs.Common.{◌++◌, ◌∷◌, [], List, ℕ, ◌+◌, take, sym, ◌∙◌, ap, subst}
use Rattle.std.proofs.lemmas.Bool.{false≢true}
use Rattle.f11_patterns.specs.Chosen.{AreThoseBehind, IsChosen, IsFirst}
use Rattle.f11_patterns.specs.Lent.{parts_of}
use Rattle.f11_patterns.proofs.ChosenLemmas.{chosen-more, left-out}
use Rattle.f11_patterns.proofs.pattern.Pattern.choose.Goals.{then-is_chosen_first+in_ok-push, else-is_chosen_first}
use Rattle.f11_patterns.proofs.pattern.Pattern.choose.Goals as goal

pub loop-at-preserved : goal.loop-at-preserved
loop-at-preserved c =
    let names = c.args.names.now in
    let l = c.loop-at in
    let item = c.index-names-at in
    let C = IsChosen c.args.choice (parts_of c.args.self.now) names in
    let P = IsFirst C (take l.at names) in
    elim c.if-is_chosen_first.branch [
      | then-is_chosen_first+in_ok-push w ↦
          let is = subst P item.is (c.is_chosen_first.ensures.0 w.if-is_chosen_first.true) in
          let all = chosen-more C names l.those.items l.at item.result c.loop-at-test.true l.invariant is in
          subst (AreThoseBehind C [] (take (l.at + 1) names))
          (ap (λ (x : List ℕ). l.those.items ++ x ∷ []) (sym item.is) ∙ sym w.in_ok-push.ensures.items ∙ ap (λ v. v.items) (sym w.those-is))
          all
      | else-is_chosen_first w ↦
          let isnt : ¬ P item.result = λ is. false≢true (sym w.if-is_chosen_first.false ∙ c.is_chosen_first.ensures.1 is) in
          let all = left-out C names l.those.items l.at item.result c.loop-at-test.true l.invariant
          (λ is. isnt (subst P (sym item.is) is)) in
          subst (AreThoseBehind C [] (take (l.at + 1) names)) (ap (λ v. v.items) (sym w.those-is)) all
    ]
