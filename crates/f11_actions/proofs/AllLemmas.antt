-- Actions that are done one after another.
use Rattle.std.proofs.Common.{◌≡◌, ℕ, ◌+◌, Bool, true, false, not, if◌then◌else◌, List, [], ◌∷◌, ◌++◌, Result, Ok, Err, refl}
use Rattle.std.proofs.Common.{sym}
use Rattle.std.proofs.Common.{ap, subst, ◌∙◌, arith}
use Rattle.std.proofs.lemmas.List.{append-nil, append_assoc}
use Rattle.f11_fcp.specs.files.Answers.{is_fatal}
use Rattle.f11_store.specs.declared.files.FileId.{FileId}
use Rattle.f11_store.specs.declared.refusals.Refusal.{Refusal}
use Rattle.f11_store.specs.declared.refusals.Refusal.TheVariants as refusal
use Rattle.f11_making.specs.Actions.{plan_of}
use Rattle.f11_making.specs.Asking.{FilesService, Who}
use Rattle.f11_making.specs.Carrying.{IsFitting}
use Rattle.f11_making.specs.FilesPlan.{Carried, FilesPlan}
use Rattle.f11_making.specs.Plan.{gives}
use Rattle.f11_making.specs.Telling.{IsTidy, is_whole}
use Rattle.f11_making.specs.declared.action.Action.{Action}
use Rattle.f11_making.proofs.PlanLemmas.{clean-then, goes-parts, goes-then}
use Rattle.f11_making.proofs.PlansLemmas.{clean-action}
use Rattle.f11_actions.specs.Lines.{action_line, lines_of, refused_in, refused_one}
use Rattle.f11_actions.specs.Plans.{Acted, actions_in, all_of, before, behind, goes_on, is_last, then_others}

-- what came of an action
abbrev pub acted : Action → Result (Unit {0}) Refusal → Acted
acted a r = record { action = a; result = r }

not-last : (e : Refusal) → not (is_last e) ≡ true → is_last e ≡ false
not-last e h = by (is_last e) h
  where
    by : (b : Bool) → not b ≡ true → b ≡ false
    by true h = absurd (let never : false ≡ true = h in cc)
    by false h = refl

fatal-last : (e : Refusal) → is_fatal e ≡ true → is_last e ≡ true
fatal-last refusal.DeviceFault h = refl
fatal-last refusal.Damaged h = refl
fatal-last refusal.NoMemory h = refl
fatal-last _ h = absurd (let never : false ≡ true = h in cc)

-- the plan is tidy
tidy-others : (a : Acted) (rest : FilesPlan (Result (List Acted) Refusal)) → IsTidy IsFitting rest
    → IsTidy IsFitting (then_others a rest)
tidy-others a rest tidy = clean-then IsFitting rest (λ r. gives (before a r)) tidy (λ e fatal. refl) by
  where
    by : (r : Result (List Acted) Refusal) → is_whole r ≡ true → is_whole (before a r) ≡ true
    by (Ok more) calm = refl
    by (Err e) calm = calm

tidy-behind : (a : Action) (rest : FilesPlan (Result (List Acted) Refusal)) → IsTidy IsFitting rest
    → (r : Result (Unit {0}) Refusal) → is_whole r ≡ true → IsTidy IsFitting (behind a rest r)
tidy-behind a rest tidy (Ok x) calm = tidy-others (acted a (Ok x)) rest tidy
tidy-behind a rest tidy (Err e) calm = by (is_last e)
  where
    by : (b : Bool) → IsTidy IsFitting (if b then gives (Err e) else then_others (acted a (Err e)) rest)
    by true = calm
    by false = tidy-others (acted a (Err e)) rest tidy

pub tidy-all : (lun : ℕ) (master : FileId) (actions : List Action) → IsTidy IsFitting (all_of lun master actions)
tidy-all lun master [] = refl
tidy-all lun master (a ∷ more) =
    clean-then IsFitting (plan_of lun master a) (behind a (all_of lun master more)) (clean-action lun master a)
    (λ e fatal. ap (λ b. if b then gives (Err e) else then_others (acted a (Err e)) (all_of lun master more)) (fatal-last e fatal))
    (tidy-behind a (all_of lun master more) (tidy-all lun master more))

module _ {V : Type 0} (S : FilesService V) (who : Who) (lun : ℕ) (master : FileId) where
  -- the others are done behind one that was done, or refused without ending them
  behind-others : (a : Action) (rest : FilesPlan (Result (List Acted) Refusal)) (r : Result (Unit {0}) Refusal)
      (x : Result (List Acted) Refusal) (v w : V) → goes_on r ≡ true → Carried S who (then_others (acted a r) rest) x v w
      → Carried S who (behind a rest r) x v w
  behind-others a rest (Ok y) x v w on h = h
  behind-others a rest (Err e) x v w on h =
      subst (λ b. Carried S who (if b then gives (Err e) else then_others (acted a (Err e)) rest) x v w) (sym (not-last e on)) h

  cons-then : (a : Action) (more : List Action) (r : Result (Unit {0}) Refusal) (x : Result (List Acted) Refusal) (v u w : V)
      → goes_on r ≡ true → Carried S who (plan_of lun master a) r v u → Carried S who (all_of lun master more) x u w
      → Carried S who (all_of lun master (a ∷ more)) (before (acted a r) x) v w
  cons-then a more r x v u w on h k =
      goes-then S who (plan_of lun master a) (behind a (all_of lun master more)) r (before (acted a r) x) v u w h
      (behind-others a (all_of lun master more) r (before (acted a r) x) u w on
      (goes-then S who (all_of lun master more) (λ y. gives (before (acted a r) y)) x (before (acted a r) x) u w w k (refl, refl)))

  -- what came of the first, and of the others
  record IsFirst (a : Action) (more : List Action) (done : List Acted) (v w : V) : Type 0 where
    pub result : Result (Unit {0}) Refusal
    pub on : goes_on result ≡ true
    pub rest : List Acted
    pub is : done ≡ acted a result ∷ rest
    pub between : V
    pub first : Carried S who (plan_of lun master a) result v between
    pub others : Carried S who (all_of lun master more) (Ok rest) between w

  cons-parts : (a : Action) (more : List Action) (done : List Acted) (v w : V) → Carried S who (all_of lun master (a ∷ more)) (Ok done) v w
      → IsFirst a more done v w
  cons-parts a more done v w h =
      let p = goes-parts S who (plan_of lun master a) (behind a (all_of lun master more)) (Ok done) v w h in by p.0 p.1 p.2 p.3
    where
      rest-of : (r : Result (Unit {0}) Refusal) (u : V) → goes_on r ≡ true → Carried S who (plan_of lun master a) r v u
          → (x : Result (List Acted) Refusal) (t : V) → Carried S who (all_of lun master more) x u t → Ok done ≡ before (acted a r) x
          → w ≡ t
          → IsFirst a more done v w
      rest-of r u on h (Ok rest) t k is same = record {
        result = r;
        on = on;
        rest = rest;
        is = cc;
        between = u;
        first = h;
        others = subst (λ (t : V). Carried S who (all_of lun master more) (Ok rest) u t) (sym same) k;
      }
      rest-of r u on h (Err e) t k is same = absurd (cc)

      others : (r : Result (Unit {0}) Refusal) (u : V) → goes_on r ≡ true → Carried S who (plan_of lun master a) r v u
          → Carried S who (then_others (acted a r) (all_of lun master more)) (Ok done) u w → IsFirst a more done v w
      others r u on h k =
          let p = goes-parts S who (all_of lun master more) (λ x. gives (before (acted a r) x)) (Ok done) u w k in
          rest-of r u on h p.0 p.1 p.2 p.3.0 p.3.1

      by : (r : Result (Unit {0}) Refusal) (u : V) → Carried S who (plan_of lun master a) r v u
          → Carried S who (behind a (all_of lun master more) r) (Ok done) u w → IsFirst a more done v w
      by (Ok x) u h k = others (Ok x) u refl h k
      by (Err e) u h k = last (is_last e) refl k
        where
          last : (b : Bool) → is_last e ≡ b
              → Carried S who (if b then gives (Err e) else then_others (acted a (Err e)) (all_of lun master more)) (Ok done) u w
              → IsFirst a more done v w
          last true is k = absurd (let never : Ok done ≡ Err e = k.0 in cc)
          last false is k = others (Err e) u (ap not is) h k

  -- one more is done
  pub one-more : (actions : List Action) (a : Action) (done : List Acted) (r : Result (Unit {0}) Refusal) (v u w : V)
      → Carried S who (all_of lun master actions) (Ok done) v u → Carried S who (plan_of lun master a) r u w → goes_on r ≡ true
      → Carried S who (all_of lun master (actions ++ a ∷ [])) (Ok (done ++ acted a r ∷ [])) v w
  one-more [] a done r v u w h k on =
      let none : done ≡ [] = (let is : Ok done ≡ Ok [] = h.0 in cc) in
      subst (λ (ds : List Acted). Carried S who (all_of lun master (a ∷ [])) (Ok (ds ++ acted a r ∷ [])) v w) (sym none)
      (cons-then a [] r (Ok []) v w w on (subst (λ (t : V). Carried S who (plan_of lun master a) r t w) h.1 k) (refl, refl))
  one-more (b ∷ actions) a done r v u w h k on =
      let f = cons-parts b actions done v u h in
      subst (λ (ds : List Acted). Carried S who (all_of lun master (b ∷ (actions ++ a ∷ []))) (Ok (ds ++ acted a r ∷ [])) v w) (sym f.is)
      (cons-then b (actions ++ a ∷ []) f.result (Ok (f.rest ++ acted a r ∷ [])) v f.between w f.on f.first
      (one-more actions a f.rest r f.between u w f.others k on))

  -- each has its result
  pub acted-are : (actions : List Action) (done : List Acted) (v w : V) → Carried S who (all_of lun master actions) (Ok done) v w
      → actions_in done ≡ actions
  acted-are [] done v w h = let none : done ≡ [] = (let is : Ok done ≡ Ok [] = h.0 in cc) in ap actions_in none
  acted-are (a ∷ actions) done v w h =
      let f = cons-parts a actions done v w h in
      ap actions_in f.is ∙ ap (λ (xs : List Action). a ∷ xs) (acted-are actions f.rest f.between w f.others)

  -- or one ends them
  pub one-ends : (actions : List Action) (a : Action) (more : List Action) (done : List Acted) (e : Refusal) (v u w : V)
      → Carried S who (all_of lun master actions) (Ok done) v u → Carried S who (plan_of lun master a) (Err e) u w → is_last e ≡ true
      → Carried S who (all_of lun master (actions ++ a ∷ more)) (Err e) v w
  one-ends [] a more done e v u w h k last =
      goes-then S who (plan_of lun master a) (behind a (all_of lun master more)) (Err e) (Err e) v w w
      (subst (λ (t : V). Carried S who (plan_of lun master a) (Err e) t w) h.1 k)
      (subst (λ b. Carried S who (if b then gives (Err e) else then_others (acted a (Err e)) (all_of lun master more)) (Err e) w w)
      (sym last)
      (refl, refl))
  one-ends (b ∷ actions) a more done e v u w h k last =
      let f = cons-parts b actions done v u h in
      cons-then b (actions ++ a ∷ more) f.result (Err e) v f.between w f.on f.first
      (one-ends actions a more f.rest e f.between u w f.others k last)

-- the lines and the count of one more
pub lines-more : (done : List Acted) (a : Action) (r : Result (Unit {0}) Refusal)
    → lines_of (done ++ acted a r ∷ []) ≡ lines_of done ++ action_line a r
lines-more [] a r = append-nil (action_line a r)
lines-more (d ∷ done) a r =
    ap (λ (t : List ℕ). action_line d.action d.result ++ t) (lines-more done a r)
    ∙ sym (append_assoc (action_line d.action d.result) (lines_of done) (action_line a r))

pub refused-more : (done : List Acted) (a : Action) (r : Result (Unit {0}) Refusal)
    → refused_in (done ++ acted a r ∷ []) ≡ refused_in done + refused_one r
refused-more [] a r = omega arith
refused-more (d ∷ done) a r = let more = refused-more done a r in omega (arith, more)
