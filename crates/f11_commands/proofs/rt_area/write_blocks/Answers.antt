use Rattle.std.proofs.Common.{◌≡◌, [], ◌∷◌, ◌++◌, arith}
use Rattle.std.proofs.KnownBytes.{Appends-nil}
use Rattle.f11_commands.proofs.HandedLemmas.{error-is}
use Rattle.f11_commands.proofs.RtTakingLemmas.{reads-more, reads-none, reads-within, stops-reading, takes-out, text-more}
use Rattle.f11_commands.proofs.rt_area.write_blocks.Goals as goal

pub loop-place-init : goal.loop-place-init
loop-place-init g c = record { given = []; reads = reads-none c.args.first _; text = Appends-nil _ }

pub returns-in-Err-clause-failed : goal.returns-in-Err-clause-failed
returns-in-Err-clause-failed g c =
    let l = c.loop-place in
    stops-reading c.args.first _ _ _ _ l.invariant.reads c.args.blocks _ _ _ l.invariant.text _ c.loop-place-test.true
    c.in-Err.ensures.failed

pub returns-in_err-write_all-clause-failed : goal.returns-in_err-write_all-clause-failed
returns-in_err-write_all-clause-failed g c =
    let l = c.loop-place in
    error-is _ _ _ c.from_residual.ensures.1
    (reads-within c.args.first _ _ _ _ l.invariant.reads _ c.args.blocks _ _ c.loop-place-test.true c.in-Ok.ensures.reads)

pub loop-place-preserved : goal.loop-place-preserved
loop-place-preserved g c =
    let l = c.loop-place in
    record {
      given = l.invariant.given ++ c.read_at.new.into ∷ [];
      reads = reads-more c.args.first _ _ _ _ l.invariant.reads _ c.read_at.new.into _ (omega arith) (search) c.in-Ok.ensures.reads;
      text = text-more g.H.Write.contents _ l.host _ l.invariant.given c.read_at.new.into l.invariant.text c.in_ok-write_all.ensures.bytes;
    }

pub returns-clause-takes : goal.returns-clause-takes
returns-clause-takes g c =
    let l = c.loop-place in
    let all : l.place ≡ c.args.blocks = omega (arith, c.loop-place-test.false, l.auto.place-end) in
    takes-out c.args.first _ _ _ _ l.invariant.reads c.args.blocks _ _ _ l.invariant.text all
