use Rattle.std.proofs.Common.{refl, arith}
use Rattle.std.proofs.lemmas.List.{length-take-le, take_rest}
use Rattle.f11_commands.proofs.TakingTextLemmas.{giving-bad, giving-ends, giving-more, giving-none}
use Rattle.f11_commands.proofs.records.skim.Goals as goal

pub loop-piece-init : goal.loop-piece-init
loop-piece-init c = record { given = _; held = giving-none _ _ }

pub returns-then-bad-clause-bad : goal.returns-then-bad-clause-bad
returns-then-bad-clause-bad c =
    let l = c.loop-piece in
    let e = rw (take_rest c.args.source.now l.used) at c.convert_good-read.ensures in
    let size = length-take-le c.convert_good-read.result.1 c.convert_good-read.new.target
    (omega (arith, e.room, c.convert_good-read.array_long)) in
    λ _. (
      _,
      giving-bad c.args.text.now l.text _ c.args.source.now l.used _ l.invariant.held _ _ _ e.converts _ refl size
          (e.bad c.if-bad.true),
    )

pub returns-then-to-lt-BLOCK_SIZE-clause-good : goal.returns-then-to-lt-BLOCK_SIZE-clause-good
returns-then-to-lt-BLOCK_SIZE-clause-good c =
    let l = c.loop-piece in
    let e = rw (take_rest c.args.source.now l.used) at c.convert_good-read.ensures in
    let size = length-take-le c.convert_good-read.result.1 c.convert_good-read.new.target
    (omega (arith, e.room, c.convert_good-read.array_long)) in
    λ _. (
      _,
      giving-ends c.args.text.now l.text _ c.args.source.now l.used _ l.invariant.held _ _ _ e.converts _ refl size
          c.requires.few c.if-to-lt-BLOCK_SIZE.true (e.stops c.if-bad.false),
    )

pub loop-piece-preserved : goal.loop-piece-preserved
loop-piece-preserved c =
    let l = c.loop-piece in
    let e = rw (take_rest c.args.source.now l.used) at c.convert_good-read.ensures in
    let size = length-take-le c.convert_good-read.result.1 c.convert_good-read.new.target
    (omega (arith, e.room, c.convert_good-read.array_long)) in
    record {
      given = _;
      held = giving-more c.args.text.now l.text _ c.args.source.now l.used _ l.invariant.held _ _ _ e.converts _ refl size;
    }
