use Rattle.std.proofs.Common.{sym, ◌∙◌}
use Rattle.f11_index.proofs.InUseLemmas.{in_use-some, in_use-slot, header-within}
use Rattle.f11_chain.proofs.StepLemmas.{ReadsHeader-none, ReadsHeader-read}
use Rattle.f11_index.specs.Kept.{index_kept}
use Rattle.f11_chain.proofs.step.read_header.Goals as goal

pub returns-then-not-in_use-clause-reads : goal.returns-then-not-in_use-clause-reads
returns-then-not-in_use-clause-reads g c = ReadsHeader-none _ _ _ _ (sym c.in_use.ensures ∙ c.if-not-in_use.true)

pub lbn_of_header-requires-clause-some : goal.lbn_of_header-requires-clause-some
lbn_of_header-requires-clause-some g c = in_use-some (index_kept c.args.index.now) c.args.n (sym c.in_use.ensures ∙ c.if-not-in_use.false)

pub lbn_of_header-requires-clause-slot : goal.lbn_of_header-requires-clause-slot
lbn_of_header-requires-clause-slot g c = in_use-slot (index_kept c.args.index.now) c.args.n (sym c.in_use.ensures ∙ c.if-not-in_use.false)

pub read-requires : goal.read-requires
read-requires g c =
    let index = index_kept c.args.index.now in
    let in_use = sym c.in_use.ensures ∙ c.if-not-in_use.false in
    rw c.lbn_of_header.ensures
    (header-within index c.args.n _ c.requires.within (in_use-some index c.args.n in_use) (in_use-slot index c.args.n in_use))

pub returns-clause-reads : goal.returns-clause-reads
returns-clause-reads g c =
    ReadsHeader-read _ _ _ _ _ _ _ (sym c.in_use.ensures ∙ c.if-not-in_use.false) c.lbn_of_header.ensures c.in_ok-read.ensures.reads.counts
    c.in_ok-read.ensures.reads.gives
    (λ is. c.check.ensures.valid.0 (sym c.is_ok.ensures.value ∙ is), λ is. c.is_ok.ensures.value ∙ c.check.ensures.valid.1 is)
