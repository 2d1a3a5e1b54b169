-- Which actions are tried.
use Rattle.std.proofs.Common.{◌≡◌, ◌≤◌, ℕ, ◌+◌, suc, Bool, true, false, not, ◌==◌, List, [], ◌∷◌, ◌++◌, length, take, refl, sym, ap, ◌∙◌}
use Rattle.std.proofs.Common.{arith}
use Rattle.std.proofs.lemmas.Bool.Decides.{nat_tests}
use Rattle.std.proofs.lemmas.List.{append-nil, length-append}
use Rattle.f11_making.specs.declared.action.Action.{Action}
use Rattle.f11_actions.specs.Lines.{refused_in, refused_one}
use Rattle.f11_actions.specs.Plans.{Acted, actions_in}
use Rattle.f11_actions.specs.Tried.{AreTried, AreTriedSoFar, EndAtRefused, is_stopped}
use Rattle.f11_actions.specs.declared.behind.Behind.{Behind}
use Rattle.f11_actions.specs.declared.behind.Behind.TheVariants.{GoesOn, Stops}

-- none is stopped before one is refused
pub on-none : (how : Behind) → is_stopped how 0 ≡ false
on-none GoesOn = refl
on-none Stops = refl

zero-of : (n : ℕ) → (n == 0) ≡ true → n ≡ 0
zero-of n h = grind (arith, nat_tests)

none-refused : (n : ℕ) → not (n == 0) ≡ false → n ≡ 0
none-refused n is = by (n == 0) refl is
  where
    by : (b : Bool) → (n == 0) ≡ b → not b ≡ false → n ≡ 0
    by true test h = zero-of n test
    by false test h = absurd (let never : true ≡ false = h in cc)

-- where none was refused, one more may be
end-more : (acted : List Acted) (a : Acted) → refused_in acted ≡ 0 → EndAtRefused (acted ++ a ∷ [])
end-more [] a none = (λ one. refl, tt)
end-more (d ∷ acted) a none =
    let sum : refused_one d.result + refused_in acted ≡ 0 = none in
    (λ one. absurd (omega (arith, sum, one)), end-more acted a (omega (arith, sum)))

end-none : (acted : List Acted) → refused_in acted ≡ 0 → EndAtRefused acted
end-none [] none = tt
end-none (d ∷ acted) none =
    let sum : refused_one d.result + refused_in acted ≡ 0 = none in
    (λ one. absurd (omega (arith, sum, one)), end-none acted (omega (arith, sum)))

-- all were tried, and none stopped the others
pub all-tried : (how : Behind) (actions : List Action) (acted : List Acted) → actions_in acted ≡ actions
    → is_stopped how (refused_in acted) ≡ false → AreTried how actions acted
all-tried GoesOn actions acted are on = are
all-tried Stops actions acted are on = record {
  left = [];
  parts = sym are ∙ sym (append-nil (actions_in acted));
  ends = end-none acted (none-refused (refused_in acted) on);
  all = λ none. refl;
}

-- or the last one did
pub tried-stopped : (how : Behind) (actions left : List Action) (acted : List Acted) (a : Acted)
    → is_stopped how (refused_in acted) ≡ false → is_stopped how (refused_in (acted ++ a ∷ [])) ≡ true
    → actions ≡ actions_in (acted ++ a ∷ []) ++ left → AreTried how actions (acted ++ a ∷ [])
tried-stopped GoesOn actions left acted a on stopped parts = absurd (let never : false ≡ true = stopped in cc)
tried-stopped Stops actions left acted a on stopped parts = record {
  left = left;
  parts = parts;
  ends = end-more acted a (none-refused (refused_in acted) on);
  all = λ none. absurd (let never : false ≡ true = sym (ap (λ (n : ℕ). not (n == 0)) none) ∙ stopped in cc);
}

-- so they are tried so far
pub so-far-more : (how : Behind) (acted : List Acted) (a : Acted) → is_stopped how (refused_in acted) ≡ false
    → AreTriedSoFar how (acted ++ a ∷ [])
so-far-more GoesOn acted a on = tt
so-far-more Stops acted a on = end-more acted a (none-refused (refused_in acted) on)

pub so-far : (how : Behind) (actions : List Action) (acted : List Acted) → AreTried how actions acted → AreTriedSoFar how acted
so-far GoesOn actions acted tried = tt
so-far Stops actions acted tried = tried.ends

-- those that were tried are the first of the actions
tried-parts : (how : Behind) (actions : List Action) (acted : List Acted) → AreTried how actions acted
    → (left : List Action) × (actions ≡ actions_in acted ++ left)
tried-parts GoesOn actions acted tried = ([], sym tried ∙ sym (append-nil (actions_in acted)))
tried-parts Stops actions acted tried = (tried.left, tried.parts)

take-front : (xs ys : List Action) → take (length xs) (xs ++ ys) ≡ xs
take-front [] ys = refl
take-front (x ∷ xs) ys = ap (λ (l : List Action). x ∷ l) (take-front xs ys)

pub tried-first : (how : Behind) (actions : List Action) (acted : List Acted) → AreTried how actions acted
    → (length (actions_in acted) ≤ length actions) × (take (length (actions_in acted)) actions ≡ actions_in acted)
tried-first how actions acted tried =
    let p = tried-parts how actions acted tried in
    let whole = ap length p.1 in
    let size = length-append (actions_in acted) p.0 in
    (omega (arith, whole, size), ap (take (length (actions_in acted))) p.1 ∙ take-front (actions_in acted) p.0)

-- each has its result
pub length-acted : (acted : List Acted) → length acted ≡ length (actions_in acted)
length-acted [] = refl
length-acted (a ∷ acted) = ap suc (length-acted acted)
