use Rattle.std.proofs.Common.{◌∙◌, arith, ◌≡◌, ℕ, false, IsTrue, ap, refl}
use Rattle.f11_files.proofs.AnswerLemmas.{handed}
use Rattle.f11_files.proofs.Extending.GrowBy.{growing-none, sound-moment, next-gets, next-may, next-reserved, next-below, fails-run}
use Rattle.f11_files.proofs.Extending.GrowBy.{growing-more, growing-done}
use Rattle.f11_files.proofs.Removing.Freeing.{handed-stays, stays-for}
use Rattle.f11_files.proofs.Extending.Growing.{breaks-stays}
use Rattle.f11_home.specs.Home.{HomeFields}
use Rattle.f11_store.specs.Changes.{is_in}
use Rattle.f11_volume.specs.Volume.{volume_of}
use Rattle.f11_image_store.specs.Allocation.{free_list}
use Rattle.f11_files.specs.Structure.{home_of}
use Rattle.f11_files.proofs.Confining.Parts.{fewer-free, parts-none, to-parts}
use Rattle.f11_files.proofs.Extending.Parts.{grows-same, grows-then, growth-then}
use Rattle.f11_files.specs.Extending.Tail.{growth_headers}
use Rattle.f11_files.proofs.structure.Structure.grow_by.Goals as goal

pub loop-left-init : goal.loop-left-init
loop-left-init g c = record {
  growing = growing-none c.args.self.now c.args.tail.now c.args.n _ c.requires.is_for c.requires.last c.requires.reserved c.requires.may;
  confined = λ _. to-parts c.args.self.now _ (growth_headers c.args.self.now c.args.tail.now) _ (λ n is. is)
      (parts-none c.args.self.now (growth_headers c.args.self.now c.args.tail.now) _);
  places = λ _. grows-same c.args.self.now c.args.self.now c.args.tail.now c.args.tail.now _ refl refl;
}

pub add_run-requires-clause-is_for : goal.add_run-requires-clause-is_for
add_run-requires-clause-is_for g c = stays-for c.loop-left.invariant.growing.stays

pub add_run-requires-clause-last : goal.add_run-requires-clause-last
add_run-requires-clause-last g c = c.loop-left.invariant.growing.last

pub add_run-requires-clause-gets : goal.add_run-requires-clause-gets
add_run-requires-clause-gets g c =
    next-gets c.args.self.now c.args.tail.now c.args.n _ c.requires.is_for c.requires.last c.requires.reserved c.requires.may _ _ _ _ _
    c.loop-left.invariant.growing c.requires.gets

pub add_run-requires-clause-reserved : goal.add_run-requires-clause-reserved
add_run-requires-clause-reserved g c =
    next-reserved c.args.self.now c.args.tail.now c.args.n _ c.requires.is_for c.requires.last c.requires.reserved c.requires.may _ _ _ _ _
    c.loop-left.invariant.growing

pub add_run-requires-clause-may : goal.add_run-requires-clause-may
add_run-requires-clause-may g c =
    next-may c.args.self.now c.args.tail.now c.args.n _ c.requires.is_for c.requires.last c.requires.reserved c.requires.may _ _ _ _ _
    c.loop-left.invariant.growing

pub add_run-requires-clause-none_below : goal.add_run-requires-clause-none_below
add_run-requires-clause-none_below g c =
    next-below c.args.self.now c.args.tail.now c.args.n _ c.requires.is_for c.requires.last c.requires.reserved c.requires.may _ _ _ _ _
    c.loop-left.invariant.growing

pub returns-in_err-end-clause-refused : goal.returns-in_err-end-clause-refused
returns-in_err-end-clause-refused g c =
    handed _ c.from_residual.result _ c.from_residual.ensures.1
    (fails-run c.args.self.now c.args.tail.now c.args.n _ c.requires.is_for c.requires.last c.requires.reserved c.requires.may _ _ _ _ _
    c.loop-left.invariant.growing _ _ c.in_err-end.ensures.refused)

pub returns-in_err-end-clause-stays : goal.returns-in_err-end-clause-stays
returns-in_err-end-clause-stays g c =
    let breaks = fails-run c.args.self.now c.args.tail.now c.args.n _ c.requires.is_for c.requires.last c.requires.reserved c.requires.may _
    _ _ _ _ c.loop-left.invariant.growing _ _ c.in_err-end.ensures.refused in
    handed-stays c.from_residual.result _ _ _ _ c.from_residual.ensures.1 breaks.fatal
    (breaks-stays (sound-moment c.args.self.now c.args.tail.now c.args.n _ c.requires.is_for c.requires.last c.requires.reserved
    c.requires.may) (c.in_err-end.ensures.stays.home ∙ c.loop-left.invariant.growing.stays.home) c.requires.is_for breaks)

pub loop-left-preserved : goal.loop-left-preserved
loop-left-preserved g c = record {
  growing = growing-more c.args.self.now c.args.tail.now c.args.n _ c.requires.is_for c.requires.last c.requires.reserved c.requires.may _ _
      _ _ _ c.loop-left.invariant.growing _ _ _ _ _ c.in_ok-end.ensures.added (rw c.in_ok-end.was at c.add_run.ensures.stays);
  confined = λ honest.
      let s = c.args.self.now in
      let t = c.loop-left.self in
      let now = g.D.Device.disk c.loop-left.device in
      let all = free_list (volume_of (g.D.Device.disk c.args.device.now).image (home_of s)) in
      let left = free_list (volume_of now.image (home_of t)) in
      let same : left ≡ free_list (volume_of now.image (home_of s)) = ap (λ (h : HomeFields). free_list (volume_of now.image h))
      c.loop-left.invariant.growing.stays.home in
      let fewer : (l : ℕ) → is_in all l ≡ false
      → is_in left l ≡ false = fewer-free all left c.loop-left.invariant.growing.done
      (same ∙ (c.loop-left.invariant.growing.gains honest).free) in
      let is : IsTrue now.honest = c.loop-left.invariant.growing.grew.went.honest ∙ honest in
      growth-then s t c.args.tail.now c.loop-left.tail all left (c.loop-left.invariant.places honest) fewer
      (c.loop-left.invariant.confined honest) (c.add_run.ensures.confined is);
  places = λ honest.
      let s = c.args.self.now in
      let t = c.loop-left.self in
      let now = g.D.Device.disk c.loop-left.device in
      let all = free_list (volume_of (g.D.Device.disk c.args.device.now).image (home_of s)) in
      let left = free_list (volume_of now.image (home_of t)) in
      let same : left ≡ free_list (volume_of now.image (home_of s)) = ap (λ (h : HomeFields). free_list (volume_of now.image h))
      c.loop-left.invariant.growing.stays.home in
      let fewer : (l : ℕ) → is_in all l ≡ false
      → is_in left l ≡ false = fewer-free all left c.loop-left.invariant.growing.done
      (same ∙ (c.loop-left.invariant.growing.gains honest).free) in
      let is : IsTrue now.honest = c.loop-left.invariant.growing.grew.went.honest ∙ honest in
      grows-then s t c.add_run.new.self c.args.tail.now c.loop-left.tail c.add_run.new.tail all left fewer
      (c.loop-left.invariant.places honest) (c.in_ok-end.ensures.places is);
}

pub returns-clause-grown : goal.returns-clause-grown
returns-clause-grown g c =
    growing-done c.args.self.now c.args.tail.now c.args.n _ c.requires.is_for c.requires.last c.requires.reserved c.requires.may _ _ _ _ _
    c.loop-left.invariant.growing (let none = c.loop-left-test.false in omega (arith, none))

pub returns-clause-stays : goal.returns-clause-stays
returns-clause-stays g c = c.loop-left.invariant.growing.stays

pub returns-in_err-end-clause-confined : goal.returns-in_err-end-clause-confined
returns-in_err-end-clause-confined g c = λ honest.
    let s = c.args.self.now in
    let t = c.loop-left.self in
    let now = g.D.Device.disk c.loop-left.device in
    let all = free_list (volume_of (g.D.Device.disk c.args.device.now).image (home_of s)) in
    let left = free_list (volume_of now.image (home_of t)) in
    let same : left ≡ free_list (volume_of now.image (home_of s)) = ap (λ (h : HomeFields). free_list (volume_of now.image h))
    c.loop-left.invariant.growing.stays.home in
    let fewer : (l : ℕ) → is_in all l ≡ false
    → is_in left l ≡ false = fewer-free all left c.loop-left.invariant.growing.done
    (same ∙ (c.loop-left.invariant.growing.gains honest).free) in
    let is : IsTrue now.honest = c.loop-left.invariant.growing.grew.went.honest ∙ honest in
    growth-then s t c.args.tail.now c.loop-left.tail all left (c.loop-left.invariant.places honest) fewer
    (c.loop-left.invariant.confined honest) (c.add_run.ensures.confined is)

pub returns-clause-confined : goal.returns-clause-confined
returns-clause-confined g c = c.loop-left.invariant.confined
