use Rattle.std.proofs.Common.{◌+◌, sym, subst, length, arith}
use Rattle.f11_chain.proofs.AlongLemmas.{handed-on}
use Rattle.f11_dev.specs.Image.{Image}
use Rattle.f11_index.specs.Kept.{index_kept, IndexLiesWithin}
use Rattle.f11_vfy.proofs.Directory.Judging.{judged-none, judged-more, looked-on, looked-all}
use Rattle.f11_vfy.proofs.findings.reading.Reading.judge_directories.Goals as goal

pub loop-k-init : goal.loop-k-init
loop-k-init g c =
    judged-none (index_kept c.args.index.now) c.args.self.now _ _ c.in_ok-gathered.ensures.new
    (omega (arith, c.in_ok-gathered.ensures.limit, c.len.ensures, c.args.self.now.survey.slots.ok.0))

pub judge_slot-requires-clause-within : goal.judge_slot-requires-clause-within
judge_slot-requires-clause-within g c =
    subst (λ (i : Image). IndexLiesWithin (index_kept c.args.index.now) (length i)) (sym c.loop-k.invariant.looked.looked.image)
    c.requires.within

pub judge_slot-requires-clause-limit : goal.judge_slot-requires-clause-limit
judge_slot-requires-clause-limit g c = c.loop-k.invariant.limit

pub loop-k-preserved : goal.loop-k-preserved
loop-k-preserved g c =
    judged-more (index_kept c.args.index.now) c.args.self.now c.loop-k.k _ _ _ _ _ c.loop-k.invariant c.in_ok-judge_slot.ensures.judges

pub returns-in_err-judge_slot-clause-failed : goal.returns-in_err-judge_slot-clause-failed
returns-in_err-judge_slot-clause-failed g c = λ is.
    looked-all (index_kept c.args.index.now) c.args.self.now (c.loop-k.k + 1) _ _ 1
    (omega (arith, c.loop-k-test.true, c.len-k-end.ensures, c.args.self.now.survey.slots.ok.0))
    (looked-on (index_kept c.args.index.now) c.args.self.now c.loop-k.k _ _ _ 1 c.loop-k.invariant.looked
    (c.in_err-judge_slot.ensures.failed (handed-on _ _ _ c.from_residual-in_err-judge_slot.ensures.1 is)))

pub returns-in_err-judge_slot-clause-no_memory : goal.returns-in_err-judge_slot-clause-no_memory
returns-in_err-judge_slot-clause-no_memory g c = λ is.
    looked-all (index_kept c.args.index.now) c.args.self.now (c.loop-k.k + 1) _ _ 0
    (omega (arith, c.loop-k-test.true, c.len-k-end.ensures, c.args.self.now.survey.slots.ok.0))
    (looked-on (index_kept c.args.index.now) c.args.self.now c.loop-k.k _ _ _ 0 c.loop-k.invariant.looked
    (c.in_err-judge_slot.ensures.no_memory (handed-on _ _ _ c.from_residual-in_err-judge_slot.ensures.1 is)))
