use Rattle.std.proofs.Common.{Ok, [], refl, ap, arith}
use Rattle.std.proofs.KnownBytes.{Appends-nil, Appends-trans}
use Rattle.f11_commands.proofs.HandedLemmas.{error-is}
use Rattle.f11_commands.proofs.TakingOutLemmas.{content-part, reads-failed, taken-none, taken-more, reads-one, reads-all, content-all}
use Rattle.f11_commands.proofs.TakingOutLemmas.{reads-ended}
use Rattle.f11_commands.proofs.TakingOutLemmas.{content-ended}
use Rattle.f11_commands.proofs.contents.put_blocks.Goals as goal

pub loop-left-init : goal.loop-left-init
loop-left-init g c = record { k = 0; text = []; taken = taken-none _ _ _ _ c.requires.reading; takes = Appends-nil _ }

pub returns-in-Ok-false-clause-writes : goal.returns-in-Ok-false-clause-writes
returns-in-Ok-false-clause-writes g c =
    let ends = c.in-Ok-false.ensures.ended (ap Ok c.in-Ok-false.field-0-test) in
    let taken = c.loop-left.invariant.taken in
    record {
      takes = record { text = _; is = content-ended _ _ _ _ _ _ _ _ _ taken _ _ ends; takes = c.loop-left.invariant.takes };
      reads = reads-ended _ _ _ _ _ _ _ _ _ taken _ _ ends;
    }

pub returns-in-Err-clause-stops : goal.returns-in-Err-clause-stops
returns-in-Err-clause-stops g c =
    let taken = c.loop-left.invariant.taken in
    record {
      takes = record {
        text = _;
        is = content-part _ _ _ _ _ _ _ _ _ taken _ _ c.in-Err.ensures.failed;
        takes = c.loop-left.invariant.takes;
      };
      reads = reads-failed _ _ _ _ _ _ _ _ _ taken _ _ c.in-Err.ensures.failed;
    }

pub returns-in_err-write_all-clause-stops : goal.returns-in_err-write_all-clause-stops
returns-in_err-write_all-clause-stops g c =
    error-is _ _ _ c.from_residual.ensures.1
    (reads-one _ _ _ _ _ _ _ _ _ c.loop-left.invariant.taken _ _ _ (c.in-Ok-true.ensures.reads (ap Ok c.in-Ok-true.field-0-test))
    (omega arith))

pub loop-left-preserved : goal.loop-left-preserved
loop-left-preserved g c = record {
  k = _;
  text = _;
  taken = taken-more _ _ _ _ _ _ _ _ _ c.loop-left.invariant.taken _ _ _ (c.in-Ok-true.ensures.reads (ap Ok c.in-Ok-true.field-0-test))
      (omega arith) _ _ c.read.array_long c.min-count.ensures refl c.in-Ok-true.ensures.reading;
  takes = Appends-trans _ _ _ _ _ c.loop-left.invariant.takes c.in_ok-write_all.ensures.bytes;
}

pub returns-clause-writes : goal.returns-clause-writes
returns-clause-writes g c =
    let taken = c.loop-left.invariant.taken in
    record {
      takes = record {
        text = _;
        is = content-all _ _ _ _ _ _ _ _ _ taken (omega (arith, c.loop-left-test.false));
        takes = c.loop-left.invariant.takes;
      };
      reads = reads-all _ _ _ _ _ _ _ _ _ taken;
    }
