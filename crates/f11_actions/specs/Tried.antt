-- Which actions are tried where one is refused (profile).
use Rattle.std.specs.Prelude.{◌≡◌, ℕ, Bool, false, not, ◌==◌, ◌++◌, List, [], ◌∷◌}
use Rattle.f11_making.specs.declared.action.Action.{Action}
use Rattle.f11_actions.specs.Lines.{refused_in, refused_one}
use Rattle.f11_actions.specs.Plans.{Acted, actions_in}
use Rattle.f11_actions.specs.declared.behind.Behind.{Behind}
use Rattle.f11_actions.specs.declared.behind.Behind.TheVariants.{GoesOn, Stops}

-- behind so many that were refused none is tried
abbrev pub is_stopped : Behind → ℕ → Bool
is_stopped GoesOn refused = false
is_stopped Stops refused = not (refused == 0)

-- behind one that was refused there is none
abbrev pub EndAtRefused : List Acted → Type 0
EndAtRefused [] = Unit {0}
EndAtRefused (a ∷ more) = (refused_one a.result ≡ 1 → more ≡ []) × EndAtRefused more

-- The actions were tried up to the first that was refused, and with it: all of them, where none was.
pub record TriedUpToRefused (actions : List Action) (acted : List Acted) : Type 0 where
  pub left : List Action
  pub parts : actions ≡ actions_in acted ++ left
  pub ends : EndAtRefused acted
  pub all : refused_in acted ≡ 0 → left ≡ []

-- these of the actions were tried, of which this came
abbrev pub AreTried : Behind → List Action → List Acted → Type 0
AreTried GoesOn actions acted = actions_in acted ≡ actions
AreTried Stops actions acted = TriedUpToRefused actions acted

-- so many of them so far
abbrev pub AreTriedSoFar : Behind → List Acted → Type 0
AreTriedSoFar GoesOn acted = Unit {0}
AreTriedSoFar Stops acted = EndAtRefused acted
