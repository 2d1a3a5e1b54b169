-- The actions of some names, one after another.
use Rattle.std.proofs.Common.{◌≡◌, ℕ, ◌+◌, suc, ◌<◌, List, [], ◌∷◌, ◌++◌, length, take, get_or, refl, ap, ◌∙◌, sym, subst, arith, Option}
use Rattle.std.proofs.Common.{Some, None}
use Rattle.std.proofs.Math.Seq.{take-suc}
use Rattle.std.specs.List.{cons_option}
use Rattle.f11_making.specs.declared.action.Action.{Action}
use Rattle.f11_actions.specs.Changes.{AreActions, IsAction}
use Rattle.f11_actions.specs.declared.change.Change.{Change}

-- one more, behind an action that may be none
behind : (o : Option Action) (rest : List Action) (more : List Action) → cons_option o rest ++ more ≡ cons_option o (rest ++ more)
behind None rest more = refl
behind (Some a) rest more = refl

module _ (change : Change) (directory : List ℕ) (names : List (List ℕ)) where
  -- and of one more name
  actions-with : (those : List (List ℕ)) (actions : List Action) (name : List ℕ) (a : Option Action)
      → AreActions change directory names those actions → IsAction change directory names name a
      → AreActions change directory names (those ++ name ∷ []) (actions ++ cons_option a [])
  actions-with [] actions name a are is = record {
    first = a;
    is = is;
    rest = [];
    others = refl;
    all = ap (λ (xs : List Action). xs ++ cons_option a []) are;
  }
  actions-with (n ∷ those) actions name a are is = record {
    first = are.first;
    is = are.is;
    rest = are.rest ++ cons_option a [];
    others = actions-with those are.rest name a are.others is;
    all = ap (λ (xs : List Action). xs ++ cons_option a []) are.all ∙ behind are.first are.rest (cons_option a []);
  }

  pub actions-next : (those : List (List ℕ)) (actions : List Action) (i : ℕ) (d : List ℕ) (a : Option Action) → i < length those
      → AreActions change directory names (take i those) actions → IsAction change directory names (get_or those i d) a
      → AreActions change directory names (take (i + 1) those) (actions ++ cons_option a [])
  actions-next those actions i d a some are is =
      let next : i + 1 ≡ suc i = omega arith in
      subst (λ (xs : List (List ℕ)). AreActions change directory names xs (actions ++ cons_option a []))
      (sym (ap (λ (n : ℕ). take n those) next ∙ take-suc those i d some))
      (actions-with (take i those) actions (get_or those i d) a are is)
