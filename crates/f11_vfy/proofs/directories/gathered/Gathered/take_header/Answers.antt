use Rattle.std.proofs.lemmas.Bool.{both_ways}
use Rattle.f11_chain.proofs.AlongLemmas.{handed-on}
use Rattle.f11_index.specs.Kept.{index_kept}
use Rattle.f11_vfy.proofs.Directory.Course.{header-fails, header-none, header-looks, header-taken}
use Rattle.f11_vfy.proofs.directories.gathered.Gathered.take_header.Goals as goal

pub returns-in_err-state-clause-failed : goal.returns-in_err-state-clause-failed
returns-in_err-state-clause-failed g c =
    λ is. header-fails (index_kept c.args.index.now) c.args.dir.end c.args.at c.args.n _ _ 1 c.in_err-state.ensures.failed

pub returns-then-not-is_live-clause-takes : goal.returns-then-not-is_live-clause-takes
returns-then-not-is_live-clause-takes g c =
    header-none (index_kept c.args.index.now) c.args.slots.now c.args.dir c.args.at c.args.n _ _ c.args.self.now _ _
    c.in_ok-state.ensures.reads (λ is. both_ways _ c.if-not-is_live.true (c.is_live.ensures.1 is))

pub returns-clause-takes : goal.returns-clause-takes
returns-clause-takes g c =
    header-taken (index_kept c.args.index.now) c.args.slots.now c.args.dir c.args.at c.args.n _ _ c.args.self.now _ _
    c.in_ok-state.ensures.reads (c.is_live.ensures.0 c.if-not-is_live.false) c.in_ok-count.count _ _
    c.in_ok-count.ensures.count c.in_ok-count.ensures.few c.in_ok-count.ensures.takes

pub returns-in_err-count-clause-failed : goal.returns-in_err-count-clause-failed
returns-in_err-count-clause-failed g c = λ is.
    header-looks (index_kept c.args.index.now) c.args.slots.now c.args.dir c.args.at c.args.n _ _ c.args.self.now _ _
    c.in_ok-state.ensures.reads (c.is_live.ensures.0 c.if-not-is_live.false) _ 1
    (c.in_err-count.ensures.failed (handed-on _ _ _ c.from_residual-in_err-count.ensures.1 is))

pub returns-in_err-count-clause-no_memory : goal.returns-in_err-count-clause-no_memory
returns-in_err-count-clause-no_memory g c = λ is.
    header-looks (index_kept c.args.index.now) c.args.slots.now c.args.dir c.args.at c.args.n _ _ c.args.self.now _ _
    c.in_ok-state.ensures.reads (c.is_live.ensures.0 c.if-not-is_live.false) _ 0
    (c.in_err-count.ensures.no_memory (handed-on _ _ _ c.from_residual-in_err-count.ensures.1 is))
