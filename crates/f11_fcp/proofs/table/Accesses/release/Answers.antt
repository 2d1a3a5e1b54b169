use Rattle.std.proofs.Common.{◌≡◌, ℕ, [], Ok, Err, refl, sym, ◌∙◌, ap, subst, arith}
use Rattle.f11_files.proofs.writes.LostLemmas.{lost-none, lost-then}
use Rattle.f11_fcp.specs.Handles.{Handles, state_of}
use Rattle.f11_fcp.specs.Places.{access_table_of, entry_of}
use Rattle.f11_store.specs.declared.requests.Request.TheVariants as request
use Rattle.f11_fcp.proofs.ByWindowLemmas.{keeps-same, keeps-then}
use Rattle.f11_fcp.proofs.ReleaseLemmas.{Released, released-none, released-skips, released-more, released-fails, released-all}
use Rattle.f11_fcp.proofs.HandedLemmas.{handles-handed}
use Rattle.f11_fcp.proofs.table.Accesses.release.Goals as goal

pub loop-unit-init : goal.loop-unit-init
loop-unit-init g c =
    record {
      windows = keeps-same (access_table_of c.args.self.now);
      lost = lost-none _ _;
      open_now = c.requires.open;
      so_far = released-none c.args.task c.args.caller (state_of (access_table_of c.args.self.now) c.args.files.now);
    }

pub loop-unit-preserved-in-None : goal.loop-unit-preserved-in-None
loop-unit-preserved-in-None g c = absurd (let no = c.in-None.ensures.valid.1 c.loop-unit-test.true in cc)

pub loop-unit-preserved-in-None-held : goal.loop-unit-preserved-in-None-held
loop-unit-preserved-in-None-held g c = record {
  windows = c.loop-unit.invariant.windows;
  lost = c.loop-unit.invariant.lost;
  open_now = c.loop-unit.invariant.open_now;
  so_far =
      released-skips c.args.task c.args.caller (state_of (access_table_of c.args.self.now) c.args.files.now)
      (state_of (access_table_of c.loop-unit.self) c.loop-unit.files) c.loop-unit.unit c.loop-unit-test.true
      c.loop-unit.invariant.so_far (ap (access_table_of c.loop-unit.self c.args.task) (sym c.in-Some.ensures.value)
      ∙ sym c.in-None-held.ensures.value);
}

pub give_up-requires-clause-open : goal.give_up-requires-clause-open
give_up-requires-clause-open g c = c.loop-unit.invariant.open_now

pub returns-in_err-give_up-clause-handles : goal.returns-in_err-give_up-clause-handles
returns-in_err-give_up-clause-handles g c =
    let t = access_table_of c.loop-unit.self in
    handles-handed c.from_residual.result _ c.from_residual.ensures.1
    (released-fails c.args.task c.args.caller (state_of (access_table_of c.args.self.now) c.args.files.now) (state_of t c.loop-unit.files)
    c.loop-unit.unit c.loop-unit-test.true c.loop-unit.invariant.so_far
    (entry_of c.in-Some-held.held) (ap (t c.args.task) (sym c.in-Some.ensures.value) ∙ sym c.in-Some-held.ensures.value)
    (state_of (access_table_of c.give_up.new.self) c.give_up.new.files) c.in_err-give_up.field-0.0 c.in_err-give_up.ensures.fatal
    (subst (λ (k : ℕ). Handles c.args.task c.args.caller (request.Deaccess k) (Err c.in_err-give_up.field-0.0)
    (state_of t c.loop-unit.files) []
    (state_of (access_table_of c.give_up.new.self) c.give_up.new.files) []) c.in-Some.ensures.value c.in_err-give_up.ensures.handles))

pub loop-unit-preserved : goal.loop-unit-preserved
loop-unit-preserved g c =
    let t = access_table_of c.loop-unit.self in
    record {
      windows = keeps-then (access_table_of c.args.self.now) t (access_table_of c.give_up.new.self) c.loop-unit.invariant.windows
          c.in_ok-give_up.ensures.windows;
      lost = lost-then _ _ _ _ _ _ c.loop-unit.invariant.lost c.give_up.ensures.lost;
      open_now = c.in_ok-give_up.ensures.open refl;
      so_far =
          released-more c.args.task c.args.caller (state_of (access_table_of c.args.self.now) c.args.files.now)
          (state_of t c.loop-unit.files) c.loop-unit.unit c.loop-unit-test.true c.loop-unit.invariant.so_far
          (entry_of c.in-Some-held.held) (ap (t c.args.task) (sym c.in-Some.ensures.value) ∙ sym c.in-Some-held.ensures.value)
          (state_of (access_table_of c.give_up.new.self) c.give_up.new.files) c.in_ok-give_up.field-0
          (subst (λ (k : ℕ). Handles c.args.task c.args.caller (request.Deaccess k) (Ok c.in_ok-give_up.field-0)
          (state_of t c.loop-unit.files) []
          (state_of (access_table_of c.give_up.new.self) c.give_up.new.files) []) c.in-Some.ensures.value c.in_ok-give_up.ensures.handles);
    }

pub returns-clause-handles : goal.returns-clause-handles
returns-clause-handles g c =
    let old = state_of (access_table_of c.args.self.now) c.args.files.now in
    let now = state_of (access_table_of c.loop-unit.self) c.loop-unit.files in
    let last : c.loop-unit.unit ≡ 4 = omega (arith, c.loop-unit-test.false, c.loop-unit.auto.unit-end) in
    released-all c.args.task c.args.caller old now
    (subst (λ (k : ℕ). Released c.args.task c.args.caller old now k) last c.loop-unit.invariant.so_far)

pub returns-clause-open : goal.returns-clause-open
returns-clause-open g c = λ _. c.loop-unit.invariant.open_now

pub returns-clause-windows : goal.returns-clause-windows
returns-clause-windows g c = c.loop-unit.invariant.windows

pub returns-in_err-give_up-clause-lost : goal.returns-in_err-give_up-clause-lost
returns-in_err-give_up-clause-lost g c = lost-then _ _ _ _ _ _ c.loop-unit.invariant.lost c.give_up.ensures.lost

pub returns-clause-lost : goal.returns-clause-lost
returns-clause-lost g c = c.loop-unit.invariant.lost
