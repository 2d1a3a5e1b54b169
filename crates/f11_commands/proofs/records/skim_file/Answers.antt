use Rattle.std.proofs.Common.{◌<◌, Ok, refl, ap, arith}
use Rattle.f11_bytes.proofs.ResultLemmas.{OnErr-given}
use Rattle.f11_flx.specs.ToText.{rest_of}
use Rattle.f11_commands.proofs.TakingOutLemmas.{reads-all, reads-ended, reads-one, taken-more, taken-none}
use Rattle.f11_commands.proofs.TakingTextLemmas.{bad-text, ended-text, gives-bad, gives-more, gives-none}
use Rattle.f11_commands.proofs.TakingTextLemmas.{reads-broken, skims-bad, skims-whole, taken-poured, whole-text}
use Rattle.f11_commands.proofs.records.skim_file.Goals as goal

pub loop-reader-init : goal.loop-reader-init
loop-reader-init g c = record {
  k = 0;
  bytes = _;
  given = _;
  taken = taken-none _ _ _ _ c.requires.reading;
  held = gives-none _ c.requires.begins;
}

pub returns-in_err-read-clause-failed : goal.returns-in_err-read-clause-failed
returns-in_err-read-clause-failed g c =
    let l = c.loop-reader.invariant in
    OnErr-given _ (reads-broken _ _ _ c.args.text _ _ _ l.given _ _ l.taken _ _ c.in_err-read.ensures.failed)

pub returns-then-not-branch-clause-skims : goal.returns-then-not-branch-clause-skims
returns-then-not-branch-clause-skims g c =
    let l = c.loop-reader.invariant in
    let ends = c.in_ok-read.ensures.ended (ap Ok c.if-not-branch.true) in
    skims-whole _ _ _ _ _ _ _ (ended-text _ _ _ _ _ _ _ _ _ _ l.taken _ l.held _ _ ends (omega arith) _ refl)
    (reads-ended _ _ _ _ _ _ _ _ _ l.taken _ _ ends)

pub loop-reader-preserved : goal.loop-reader-preserved
loop-reader-preserved g c =
    let l = c.loop-reader.invariant in
    let some : 0 < rest_of c.loop-reader.text = omega (arith, c.rest.ensures, c.loop-reader-test.true) in
    let reads = c.in_ok-read.ensures.reads (ap Ok c.if-not-branch.false) in
    let gives = c.skim.ensures.good c.if-not-skim.false in
    record {
      k = _;
      bytes = _;
      given = _;
      taken =
          taken-poured _ _ _ c.args.text c.loop-reader.text c.skim.new.text _ _ _ _ l.taken _ _ _ reads some _ _ _ c.read.array_long
          (omega (arith, c.min-size.ensures, c.rest-in-loop-reader.ensures)) refl
          c.in_ok-read.ensures.reading gives.1;
      held = gives-more _ _ _ _ l.held _ _ _ gives.1;
    }

pub returns-then-not-skim-clause-skims : goal.returns-then-not-skim-clause-skims
returns-then-not-skim-clause-skims g c =
    let l = c.loop-reader.invariant in
    let some : 0 < rest_of c.loop-reader.text = omega (arith, c.rest.ensures, c.loop-reader-test.true) in
    let reads = c.in_ok-read.ensures.reads (ap Ok c.if-not-branch.false) in
    let bad = c.skim.ensures.bad c.if-not-skim.true in
    let taken = taken-more _ _ _ _ _ _ _ _ _ l.taken _ _ _ reads some _ _ c.read.array_long
    (omega (arith, c.min-size.ensures, c.rest-in-loop-reader.ensures)) refl
    c.in_ok-read.ensures.reading in
    skims-bad _ _ _ _ _ _ (bad-text _ _ _ c.args.text _ _ _ _ _ _ taken (gives-bad _ _ _ _ l.held _ _ bad.1))
    (reads-one _ _ _ _ _ _ _ _ _ l.taken _ _ _ reads some)

pub returns-clause-skims : goal.returns-clause-skims
returns-clause-skims g c =
    let l = c.loop-reader.invariant in
    skims-whole _ _ _ _ _ _ _
    (whole-text _ _ _ _ _ _ _ _ _ _ l.taken _ l.held (omega (arith, c.rest.ensures, c.loop-reader-test.false)) _ refl)
    (reads-all _ _ _ _ _ _ _ _ _ l.taken)
