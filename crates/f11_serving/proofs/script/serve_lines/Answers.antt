use Rattle.std.proofs.Common.{refl, arith}
use Rattle.std.proofs.lemmas.Result.{err_from_is_err_and}
use Rattle.f11_script.proofs.InputLemmas.{hand_has}
use Rattle.f11_serving.specs.Serving.{place_of}
use Rattle.f11_serving.proofs.ScriptLemmas.{so-far-none, so-far-more, so-far-ends, so-far-fails, so-far-fault}
use Rattle.f11_serving.proofs.script.serve_lines.Goals as goal

pub loop-error-init : goal.loop-error-init
loop-error-init g c = so-far-none _ _ _ _ _ _ refl c.requires.begins

pub returns-then-not-more : goal.returns-then-not-more
returns-then-not-more g c =
    let t = rw c.if-not-more.true at c.in-Ok.ensures in
    record {
      serves = so-far-ends _ _ _ (place_of g.R.Read.remaining c.read_line.new.self) _ _ _ _ _ _ _ _ c.loop-error.invariant t
          c.read_line.new.self.limited;
    }

pub returns-in-Err : goal.returns-in-Err
returns-in-Err g c =
    let s = c.read_line.new.self in
    record {
      serves = so-far-fails _ _ _ (place_of g.R.Read.remaining s) _ _ _ _ _ _ _ c.in-Err.error c.loop-error.invariant c.in-Err.ensures
          (λ more. hand_has s.piece s.at s.end (g.R.Read.remaining s.reader) s.whole more) s.limited;
    }

pub returns-in_err-asked : goal.returns-in_err-asked
returns-in_err-asked g c =
    let t = rw c.if-not-more.false at c.in-Ok.ensures in
    let p = err_from_is_err_and c.from_residual.result c.from_residual.ensures.1 in rw (p.1, p.2)
    (record {
      serves = so-far-fault _ _ _ (place_of g.R.Read.remaining c.read_line.new.self) _ _ _ _ _ _ _ _ _ _ _ _ c.loop-error.invariant t
          (rw c.as_slice.ensures.value at c.in_err-asked.ensures.answers) c.read_line.new.self.limited;
    })

pub loop-error-preserved-then-asked : goal.loop-error-preserved-then-asked
loop-error-preserved-then-asked g c =
    let t = rw c.if-not-more.false at c.in-Ok.ensures in
    let x = rw (c.if-asked.true, c.as_slice.ensures.value) at c.in_ok-asked.ensures.answers in
    so-far-more _ _ _ _ _ _ _ _ _ _ _ _ _ _ _ _ _ _ _ c.loop-error.invariant t x.1 x.2 (omega arith) refl

pub loop-error-preserved : goal.loop-error-preserved
loop-error-preserved g c =
    let t = rw c.if-not-more.false at c.in-Ok.ensures in
    let x = rw (c.if-asked.false, c.as_slice.ensures.value) at c.in_ok-asked.ensures.answers in
    so-far-more _ _ _ _ _ _ _ _ _ _ _ _ _ _ _ _ _ _ _ c.loop-error.invariant t x.1 x.2 (omega arith) (omega arith)
