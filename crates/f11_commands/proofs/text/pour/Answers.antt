use Rattle.std.proofs.Common.{ℕ, take, refl, arith, length-append}
use Rattle.std.proofs.KnownBytes.{Appends-nil, Appends-trans}
use Rattle.std.proofs.lemmas.List.{length-take-le, take_rest}
use Rattle.f11_flx.proofs.Texts.TextLemmas.{ending_at-few}
use Rattle.f11_commands.proofs.TakingTextLemmas.{giving-bad, giving-ends, giving-more, giving-none}
use Rattle.f11_commands.proofs.text.pour.Goals as goal

pub loop-used-init : goal.loop-used-init
loop-used-init g c = record { given = _; counted = refl; held = giving-none _ _; takes = Appends-nil _ }

pub returns-then-bad-clause-bad : goal.returns-then-bad-clause-bad
returns-then-bad-clause-bad g c =
    let l = c.loop-used in
    let e = rw (take_rest c.args.source.now l.used) at c.convert_good-read.ensures in
    let size = length-take-le c.convert_good-read.result.1 c.convert_good-read.new.target
    (omega (arith, e.room, c.convert_good-read.array_long)) in
    record {
      text = _;
      is = giving-bad c.args.text.now l.text _ c.args.source.now l.used _ l.invariant.held _ _ _ e.converts _ refl size
          (e.bad c.if-bad.true);
      takes = Appends-trans _ _ _ _ _ l.invariant.takes c.in_ok-write_all.ensures.bytes;
    }

pub overflow_add-count : goal.overflow_add-count
overflow_add-count g c =
    let l = c.loop-used in
    omega (
      arith,
      l.invariant.held.few,
      l.invariant.held.within,
      l.invariant.counted,
      ending_at-few c.args.text.now.place,
      c.requires.size,
      c.convert_good-read.ensures.room,
    )

pub returns-then-to-lt-BLOCK_SIZE-clause-gives : goal.returns-then-to-lt-BLOCK_SIZE-clause-gives
returns-then-to-lt-BLOCK_SIZE-clause-gives g c =
    let l = c.loop-used in
    let e = rw (take_rest c.args.source.now l.used) at c.convert_good-read.ensures in
    let size = length-take-le c.convert_good-read.result.1 c.convert_good-read.new.target
    (omega (arith, e.room, c.convert_good-read.array_long)) in
    record {
      text = _;
      is = record {
        counted = omega (
          arith,
          size,
          l.invariant.counted,
          length-append {A = ℕ} l.invariant.given (take c.convert_good-read.result.1 c.convert_good-read.new.target),
        );
        gives = giving-ends c.args.text.now l.text _ c.args.source.now l.used _ l.invariant.held _ _ _ e.converts _ refl size
            c.requires.few c.if-to-lt-BLOCK_SIZE.true (e.stops c.if-bad.false);
      };
      takes = Appends-trans _ _ _ _ _ l.invariant.takes c.in_ok-write_all.ensures.bytes;
    }

pub loop-used-preserved : goal.loop-used-preserved
loop-used-preserved g c =
    let l = c.loop-used in
    let e = rw (take_rest c.args.source.now l.used) at c.convert_good-read.ensures in
    let size = length-take-le c.convert_good-read.result.1 c.convert_good-read.new.target
    (omega (arith, e.room, c.convert_good-read.array_long)) in
    record {
      given = _;
      counted = omega (
        arith,
        size,
        l.invariant.counted,
        length-append {A = ℕ} l.invariant.given (take c.convert_good-read.result.1 c.convert_good-read.new.target),
      );
      held = giving-more c.args.text.now l.text _ c.args.source.now l.used _ l.invariant.held _ _ _ e.converts _ refl size;
      takes = Appends-trans _ _ _ _ _ l.invariant.takes c.in_ok-write_all.ensures.bytes;
    }
