use Rattle.std.proofs.Common.{◌<◌, Ok, refl, ap, sym, subst, arith}
use Rattle.std.proofs.KnownBytes.{Appends-nil, Appends-trans}
use Rattle.std.proofs.lemmas.List.{length-append}
use Rattle.f11_flx.specs.ToText.{rest_of}
use Rattle.f11_index.specs.Kept.{index_kept}
use Rattle.f11_commands.specs.TakingText.{FailsToPour}
use Rattle.f11_commands.proofs.HandedLemmas.{error-is}
use Rattle.f11_commands.proofs.TakingOutLemmas.{reads-all, reads-ended, reads-one, taken-more, taken-none}
use Rattle.f11_commands.proofs.TakingTextLemmas.{bad-text, begun-text, ended-text, gives-bad, gives-more, gives-none}
use Rattle.f11_commands.proofs.TakingTextLemmas.{reads-broken}
use Rattle.f11_commands.proofs.TakingTextLemmas.{taken-poured, whole-text}
use Rattle.f11_commands.proofs.text.write_lines.Goals as goal

pub loop-reader-init : goal.loop-reader-init
loop-reader-init g c = record {
  k = 0;
  bytes = _;
  given = _;
  taken = taken-none _ _ _ _ c.requires.reading;
  held = gives-none _ c.requires.begins;
  counted = refl;
  takes = Appends-nil _;
}

pub returns-in_err-read-clause-failed : goal.returns-in_err-read-clause-failed
returns-in_err-read-clause-failed g c =
    let l = c.loop-reader.invariant in
    let fails = c.in_err-read.ensures.failed in
    error-is _ _ _ c.from_residual.ensures.1 (record {
      takes = record {
        text = l.given;
        is = begun-text _ _ _ _ _ _ _ l.given _ _ l.taken c.loop-reader.text l.held;
        takes = l.takes;
      };
      reads = reads-broken _ _ _ c.args.text _ _ _ l.given _ _ l.taken _ _ fails;
    })

pub returns-then-not-branch-clause-writes : goal.returns-then-not-branch-clause-writes
returns-then-not-branch-clause-writes g c =
    let l = c.loop-reader.invariant in
    let ends = c.in_ok-read.ensures.ended (ap Ok c.if-not-branch.true) in
    record {
      takes = record {
        text = _;
        is = ended-text _ _ _ _ _ _ _ _ _ _ l.taken _ l.held _ _ ends (omega arith) _ l.counted;
        takes = l.takes;
      };
      reads = reads-ended _ _ _ _ _ _ _ _ _ l.taken _ _ ends;
    }

pub loop-reader-preserved : goal.loop-reader-preserved
loop-reader-preserved g c =
    let l = c.loop-reader.invariant in
    let some : 0 < rest_of c.loop-reader.text = omega (arith, c.rest.ensures, c.loop-reader-test.true) in
    let reads = c.in_ok-read.ensures.reads (ap Ok c.if-not-branch.false) in
    let gives = rw c.in-Ok.is at c.in_ok-given.ensures.gives in
    record {
      k = _;
      bytes = _;
      given = _;
      taken =
          taken-poured _ _ _ c.args.text c.loop-reader.text c.pour.new.text _ _ _ _ l.taken _ _ _ reads some _ _ _ c.read.array_long
          (omega (arith, c.min-size.ensures, c.rest-in-loop-reader.ensures)) refl
          c.in_ok-read.ensures.reading gives.is.gives;
      held = gives-more _ _ _ _ l.held _ _ _ gives.is.gives;
      counted = omega (arith, l.counted, gives.is.counted, length-append l.given gives.text);
      takes = Appends-trans _ _ _ _ _ l.takes gives.takes;
    }

pub returns-in-Err-clause-bad : goal.returns-in-Err-clause-bad
returns-in-Err-clause-bad g c =
    let l = c.loop-reader.invariant in
    let some : 0 < rest_of c.loop-reader.text = omega (arith, c.rest.ensures, c.loop-reader-test.true) in
    let reads = c.in_ok-read.ensures.reads (ap Ok c.if-not-branch.false) in
    let bad = rw c.in-Err.is at c.in_ok-given.ensures.bad in
    let taken = taken-more _ _ _ _ _ _ _ _ _ l.taken _ _ _ reads some _ _ c.read.array_long
    (omega (arith, c.min-size.ensures, c.rest-in-loop-reader.ensures)) refl
    c.in_ok-read.ensures.reading in
    record {
      takes = record {
        text = _;
        is = bad-text _ _ _ c.args.text _ _ _ _ _ _ taken (gives-bad _ _ _ _ l.held _ _ bad.is);
        takes = Appends-trans _ _ _ _ _ l.takes bad.takes;
      };
      reads = reads-one _ _ _ _ _ _ _ _ _ l.taken _ _ _ reads some;
    }

pub returns-in_err-given-clause-failed : goal.returns-in_err-given-clause-failed
returns-in_err-given-clause-failed g c =
    let l = c.loop-reader.invariant in
    let some : 0 < rest_of c.loop-reader.text = omega (arith, c.rest.ensures, c.loop-reader-test.true) in
    let reads = c.in_ok-read.ensures.reads (ap Ok c.if-not-branch.false) in
    error-is _ _ _ c.from_residual-in_err-given.ensures.1
    (subst (λ failure. FailsToPour failure (index_kept c.args.index.now) c.args.file c.args.text (g.D.Device.disk c.args.device.now)
    (g.D.Device.disk c.read.new.device) g.W.Write.contents c.args.writer.now c.pour.new.writer) (sym c.in_err-given.ensures.failed)
    (reads-one _ _ _ _ _ _ _ _ _ l.taken _ _ _ reads some))

pub returns-clause-writes : goal.returns-clause-writes
returns-clause-writes g c =
    let l = c.loop-reader.invariant in
    record {
      takes = record {
        text = _;
        is = whole-text _ _ _ _ _ _ _ _ _ _ l.taken _ l.held (omega (arith, c.rest.ensures, c.loop-reader-test.false)) _ l.counted;
        takes = l.takes;
      };
      reads = reads-all _ _ _ _ _ _ _ _ _ l.taken;
    }
