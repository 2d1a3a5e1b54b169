use Rattle.std.proofs.Common.{◌-◌, ap, get_or}
use Rattle.std.proofs.lemmas.Bool.{both_ways}
use Rattle.std.proofs.lemmas.Result.{on_ok_weaker}
use Rattle.f11_chain.proofs.AlongLemmas.{handed-on}
use Rattle.f11_index.specs.Kept.{index_kept}
use Rattle.f11_vfy.specs.Surveying.Bits.{limit_of}
use Rattle.f11_vfy.proofs.Directory.Course.{dead-directory, directory-fails, slot-looked, first-looks, others-look, directory-taken}
use Rattle.f11_vfy.proofs.directories.gathered.Gathered.take_directory.Goals as goal

pub returns-in_err-state-clause-failed : goal.returns-in_err-state-clause-failed
returns-in_err-state-clause-failed g c =
    λ is. directory-fails (index_kept c.args.index.now) c.args.nexts.now c.args.d _ _ 1
    (slot-looked (index_kept c.args.index.now) c.args.d c.in_err-state.ensures.failed)

pub returns-then-not-is_live-clause-takes : goal.returns-then-not-is_live-clause-takes
returns-then-not-is_live-clause-takes g c =
    dead-directory (index_kept c.args.index.now) c.args.slots.now c.args.nexts.now c.args.d _ _ c.args.self.now _ _
    c.in_ok-state.ensures.reads (λ is. both_ways _ c.if-not-is_live.true (c.is_live.ensures.1 is))

pub returns-in_err-at-clause-failed : goal.returns-in_err-at-clause-failed
returns-in_err-at-clause-failed g c = λ is.
    first-looks (index_kept c.args.index.now) c.args.slots.now c.args.nexts.now
    (record { d = c.args.d; end = c.record_end-end.result; few = c.record_end-end.ensures.few }) _ _ c.args.self.now _ _
    c.in_ok-state.ensures.reads (c.is_live.ensures.0 c.if-not-is_live.false) c.record_end-end.ensures.value _ 1
    (c.in_err-at.ensures.failed (handed-on _ _ _ c.from_residual-in_err-at.ensures.1 is))

pub returns-in_err-at-clause-no_memory : goal.returns-in_err-at-clause-no_memory
returns-in_err-at-clause-no_memory g c = λ is.
    first-looks (index_kept c.args.index.now) c.args.slots.now c.args.nexts.now
    (record { d = c.args.d; end = c.record_end-end.result; few = c.record_end-end.ensures.few }) _ _ c.args.self.now _ _
    c.in_ok-state.ensures.reads (c.is_live.ensures.0 c.if-not-is_live.false) c.record_end-end.ensures.value _ 0
    (c.in_err-at.ensures.no_memory (handed-on _ _ _ c.from_residual-in_err-at.ensures.1 is))

pub returns-clause-failed : goal.returns-clause-failed
returns-clause-failed g c = λ is.
    others-look (index_kept c.args.index.now) c.args.slots.now c.args.nexts.now _ _ _ c.args.self.now _ _ c.in_ok-state.ensures.reads
    (c.is_live.ensures.0 c.if-not-is_live.false) c.record_end-end.ensures.value
    _ _ _ c.in_ok-at.at _ c.begin.ensures c.in_ok-at.ensures.takes c.in_ok-at.ensures.count
    (ap (λ k. get_or c.args.nexts.now (k - 1) 0) c.from.ensures) _ 1 (c.take_headers.ensures.failed is)

pub returns-clause-no_memory : goal.returns-clause-no_memory
returns-clause-no_memory g c = λ is.
    others-look (index_kept c.args.index.now) c.args.slots.now c.args.nexts.now _ _ _ c.args.self.now _ _ c.in_ok-state.ensures.reads
    (c.is_live.ensures.0 c.if-not-is_live.false) c.record_end-end.ensures.value
    _ _ _ c.in_ok-at.at _ c.begin.ensures c.in_ok-at.ensures.takes c.in_ok-at.ensures.count
    (ap (λ k. get_or c.args.nexts.now (k - 1) 0) c.from.ensures) _ 0 (c.take_headers.ensures.no_memory is)

pub returns-clause-takes : goal.returns-clause-takes
returns-clause-takes g c = on_ok_weaker c.take_headers.result (λ takes.
    directory-taken (index_kept c.args.index.now) c.args.slots.now c.args.nexts.now _ _ _ c.args.self.now _ _ c.in_ok-state.ensures.reads
    (c.is_live.ensures.0 c.if-not-is_live.false) c.record_end-end.ensures.value
    _ _ _ c.in_ok-at.at _ c.begin.ensures c.in_ok-at.ensures.takes c.in_ok-at.ensures.count
    (ap (λ k. get_or c.args.nexts.now (k - 1) 0) c.from.ensures) _ _ takes (ap limit_of c.begin.ensures.entered))
    c.take_headers.ensures.takes
