use Rattle.std.proofs.Common.{ℕ, ◌∙◌, ◌-◌, ◌+◌, arith, refl, subst}
use Rattle.std.specs.List.{range_with_len}
use Rattle.f11_files.proofs.AnswerLemmas.{handed}
use Rattle.f11_files.proofs.Confining.Parts.{parts-none, to-parts}
use Rattle.f11_files.proofs.Extending.Growing.{breaks-stays}
use Rattle.f11_files.proofs.Extending.Parts.{grows-same, grows-then, growth-then}
use Rattle.f11_files.proofs.LayingOut.Lay.{fails-run, laid-done, laid-more, laid-none, next-few, next-fits, next-for, next-gets, next-may}
use Rattle.f11_files.proofs.LayingOut.Lay.{next-reserved, next-some, next-unreferenced, next-within, part-in, sound-moment, LaidUpTo}
use Rattle.f11_files.proofs.Removing.Freeing.{handed-stays}
use Rattle.f11_files.specs.Extending.Tail.{growth_headers}
use Rattle.f11_files.proofs.structure.Structure.lay_run.Goals as goal

pub loop-left-init : goal.loop-left-init
loop-left-init g c = record {
  laid =
      subst (λ (m : ℕ). LaidUpTo c.args.self.now c.args.self.now c.args.tail.now c.args.tail.now c.args.lbn c.args.n m c.args.n
      (g.D.Device.disk c.args.device.now) (g.D.Device.disk c.args.device.now)) (omega arith)
      (laid-none c.args.self.now c.args.tail.now c.args.lbn c.args.n _ c.requires.is_for c.requires.last c.requires.own c.requires.within
      c.requires.unreferenced c.requires.empty c.requires.may);
  confined = to-parts c.args.self.now _ (growth_headers c.args.self.now c.args.tail.now) _ (λ n is. is)
      (parts-none c.args.self.now (growth_headers c.args.self.now c.args.tail.now) _);
  places = grows-same c.args.self.now c.args.self.now c.args.tail.now c.args.tail.now (range_with_len c.args.lbn c.args.n) refl refl;
}

pub append_run-requires-clause-is_for : goal.append_run-requires-clause-is_for
append_run-requires-clause-is_for g c =
    next-for c.args.self.now c.args.tail.now c.args.lbn c.args.n _ c.requires.is_for c.requires.last c.requires.own c.requires.within
    c.requires.unreferenced c.requires.empty c.requires.may _ _ _ _ _ _ c.loop-left-test.true c.loop-left.invariant.laid
    c.next_blocks-count.ensures

pub append_run-requires-clause-gets : goal.append_run-requires-clause-gets
append_run-requires-clause-gets g c =
    next-gets c.args.self.now c.args.tail.now c.args.lbn c.args.n _ c.requires.is_for c.requires.last c.requires.own c.requires.within
    c.requires.unreferenced c.requires.empty c.requires.may _ _ _ _ _ _ c.loop-left-test.true c.loop-left.invariant.laid
    c.next_blocks-count.ensures

pub append_run-requires-clause-within : goal.append_run-requires-clause-within
append_run-requires-clause-within g c =
    next-within c.args.self.now c.args.tail.now c.args.lbn c.args.n _ c.requires.is_for c.requires.last c.requires.own c.requires.within
    c.requires.unreferenced c.requires.empty c.requires.may _ _ _ _ _ _ c.loop-left-test.true c.loop-left.invariant.laid
    c.next_blocks-count.ensures

pub append_run-requires-clause-some : goal.append_run-requires-clause-some
append_run-requires-clause-some g c =
    next-some c.args.self.now c.args.tail.now c.args.lbn c.args.n _ c.requires.is_for c.requires.last c.requires.own c.requires.within
    c.requires.unreferenced c.requires.empty c.requires.may _ _ _ _ _ _ c.loop-left-test.true c.loop-left.invariant.laid
    c.next_blocks-count.ensures

pub append_run-requires-clause-fits : goal.append_run-requires-clause-fits
append_run-requires-clause-fits g c =
    next-fits c.args.self.now c.args.tail.now c.args.lbn c.args.n _ c.requires.is_for c.requires.last c.requires.own c.requires.within
    c.requires.unreferenced c.requires.empty c.requires.may _ _ _ _ _ _ c.loop-left-test.true c.loop-left.invariant.laid
    c.next_blocks-count.ensures

pub append_run-requires-clause-unreferenced : goal.append_run-requires-clause-unreferenced
append_run-requires-clause-unreferenced g c =
    next-unreferenced c.args.self.now c.args.tail.now c.args.lbn c.args.n _ c.requires.is_for c.requires.last c.requires.own
    c.requires.within c.requires.unreferenced c.requires.empty c.requires.may _ _ _ _ _ _ c.loop-left-test.true c.loop-left.invariant.laid
    c.next_blocks-count.ensures

pub append_run-requires-clause-reserved : goal.append_run-requires-clause-reserved
append_run-requires-clause-reserved g c =
    next-reserved c.args.self.now c.args.tail.now c.args.lbn c.args.n _ c.requires.is_for c.requires.last c.requires.own c.requires.within
    c.requires.unreferenced c.requires.empty c.requires.may _ _ _ _ _ _ c.loop-left-test.true c.loop-left.invariant.laid
    c.next_blocks-count.ensures

pub append_run-requires-clause-may : goal.append_run-requires-clause-may
append_run-requires-clause-may g c =
    next-may c.args.self.now c.args.tail.now c.args.lbn c.args.n _ c.requires.is_for c.requires.last c.requires.own c.requires.within
    c.requires.unreferenced c.requires.empty c.requires.may _ _ _ _ _ _ c.loop-left-test.true c.loop-left.invariant.laid
    c.next_blocks-count.ensures

pub append_run-requires-clause-last : goal.append_run-requires-clause-last
append_run-requires-clause-last g c = c.loop-left.invariant.laid.last

pub returns-in_err-append_run-clause-refused : goal.returns-in_err-append_run-clause-refused
returns-in_err-append_run-clause-refused g c =
    handed _ c.from_residual.result _ c.from_residual.ensures.1
    (fails-run c.args.self.now c.args.tail.now c.args.lbn c.args.n _ c.requires.is_for c.requires.last c.requires.own c.requires.within
    c.requires.unreferenced c.requires.empty c.requires.may _ _ _ _ _ _ c.loop-left-test.true c.loop-left.invariant.laid
    c.next_blocks-count.ensures _ _ c.in_err-append_run.ensures.refused)

pub returns-in_err-append_run-clause-stays : goal.returns-in_err-append_run-clause-stays
returns-in_err-append_run-clause-stays g c =
    let breaks = fails-run c.args.self.now c.args.tail.now c.args.lbn c.args.n _ c.requires.is_for c.requires.last c.requires.own
    c.requires.within c.requires.unreferenced c.requires.empty c.requires.may _ _ _ _ _ _ c.loop-left-test.true
    c.loop-left.invariant.laid c.next_blocks-count.ensures _ _ c.in_err-append_run.ensures.refused in
    handed-stays c.from_residual.result _ _ _ _ c.from_residual.ensures.1 breaks.fatal
    (breaks-stays (sound-moment c.args.self.now c.args.tail.now c.args.lbn c.args.n _ c.requires.is_for c.requires.last c.requires.own
    c.requires.within c.requires.unreferenced c.requires.empty c.requires.may) (c.in_err-append_run.ensures.stays.home
    ∙ c.loop-left.invariant.laid.stays.home) c.requires.is_for breaks)

pub returns-in_err-append_run-clause-confined : goal.returns-in_err-append_run-clause-confined
returns-in_err-append_run-clause-confined g c =
    growth-then c.args.self.now c.loop-left.self c.args.tail.now c.loop-left.tail (range_with_len c.args.lbn c.args.n)
    (range_with_len (c.args.lbn + (c.args.n - c.loop-left.left)) c.next_blocks-count.result) c.loop-left.invariant.places
    (part-in c.args.self.now c.args.tail.now c.args.lbn c.args.n _ c.requires.is_for c.requires.last c.requires.own c.requires.within
    c.requires.unreferenced c.requires.empty c.requires.may _ _ _ _ _ _ c.loop-left-test.true c.loop-left.invariant.laid
    c.next_blocks-count.ensures) c.loop-left.invariant.confined c.append_run.ensures.confined

pub loop-left-preserved : goal.loop-left-preserved
loop-left-preserved g c =
    let few = next-few c.args.self.now c.args.tail.now c.args.lbn c.args.n _ c.requires.is_for c.requires.last c.requires.own
    c.requires.within c.requires.unreferenced c.requires.empty c.requires.may _ _ _ _ _ _ c.loop-left-test.true
    c.loop-left.invariant.laid c.next_blocks-count.ensures in
    let most = c.loop-left.invariant.laid.sum in
    record {
      laid =
          subst (λ (m : ℕ). LaidUpTo c.args.self.now c.append_run.new.self c.args.tail.now c.append_run.new.tail c.args.lbn c.args.n m
          (c.loop-left.left - c.next_blocks-count.result) (g.D.Device.disk c.args.device.now) (g.D.Device.disk c.append_run.new.device))
          (omega (arith, few, most))
          (laid-more c.args.self.now c.args.tail.now c.args.lbn c.args.n _ c.requires.is_for c.requires.last c.requires.own
          c.requires.within c.requires.unreferenced c.requires.empty c.requires.may _ _ _ _ _ _ c.loop-left-test.true
          c.loop-left.invariant.laid c.next_blocks-count.ensures _ _ _ (g.met.D.Device.is_image c.loop-left.device)
          (g.met.D.Device.is_image c.append_run.new.device) c.in_ok-append_run.ensures.appended
          (rw c.in_ok-append_run.was at c.append_run.ensures.stays));
      confined =
          growth-then c.args.self.now c.loop-left.self c.args.tail.now c.loop-left.tail (range_with_len c.args.lbn c.args.n)
          (range_with_len (c.args.lbn + (c.args.n - c.loop-left.left)) c.next_blocks-count.result) c.loop-left.invariant.places
          (part-in c.args.self.now c.args.tail.now c.args.lbn c.args.n _ c.requires.is_for c.requires.last c.requires.own c.requires.within
          c.requires.unreferenced c.requires.empty c.requires.may _ _ _ _ _ _ c.loop-left-test.true c.loop-left.invariant.laid
          c.next_blocks-count.ensures) c.loop-left.invariant.confined c.append_run.ensures.confined;
      places =
          grows-then c.args.self.now c.loop-left.self c.append_run.new.self c.args.tail.now c.loop-left.tail c.append_run.new.tail
          (range_with_len c.args.lbn c.args.n) (range_with_len (c.args.lbn + (c.args.n - c.loop-left.left)) c.next_blocks-count.result)
          (part-in c.args.self.now c.args.tail.now c.args.lbn c.args.n _ c.requires.is_for c.requires.last c.requires.own c.requires.within
          c.requires.unreferenced c.requires.empty c.requires.may _ _ _ _ _ _ c.loop-left-test.true c.loop-left.invariant.laid
          c.next_blocks-count.ensures) c.loop-left.invariant.places c.in_ok-append_run.ensures.places;
    }

pub returns-clause-laid : goal.returns-clause-laid
returns-clause-laid g c =
    let none = c.loop-left-test.false in
    laid-done c.args.self.now c.args.tail.now c.args.lbn c.args.n _ c.requires.is_for c.requires.last c.requires.own c.requires.within
    c.requires.unreferenced c.requires.empty c.requires.may _ _ _ _
    (subst (λ (m : ℕ). LaidUpTo c.args.self.now c.loop-left.self c.args.tail.now c.loop-left.tail c.args.lbn c.args.n
    (c.args.n - c.loop-left.left) m (g.D.Device.disk c.args.device.now) (g.D.Device.disk c.loop-left.device)) (omega (arith, none))
    c.loop-left.invariant.laid)

pub returns-clause-stays : goal.returns-clause-stays
returns-clause-stays g c = c.loop-left.invariant.laid.stays

pub returns-clause-confined : goal.returns-clause-confined
returns-clause-confined g c = c.loop-left.invariant.confined

pub returns-clause-places : goal.returns-clause-places
returns-clause-places g c = c.loop-left.invariant.places

pub returns-clause-last : goal.returns-clause-last
returns-clause-last g c = c.loop-left.invariant.laid.last

pub loop-left-smaller : goal.loop-left-smaller
loop-left-smaller g c =
    let some = next-some c.args.self.now c.args.tail.now c.args.lbn c.args.n _ c.requires.is_for c.requires.last c.requires.own
    c.requires.within c.requires.unreferenced c.requires.empty c.requires.may _ _ _ _ _ _ c.loop-left-test.true
    c.loop-left.invariant.laid c.next_blocks-count.ensures in
    omega (arith, some, c.loop-left-test.true)
