use Rattle.std.proofs.lemmas.Bool.{both_ways}
use Rattle.f11_index.proofs.InUseLemmas.{header-within}
use Rattle.f11_index.specs.Kept.{index_kept}
use Rattle.f11_catalog.proofs.ContentLemmas.{missing-bad, missing-file, missing-slot}
use Rattle.f11_catalog.proofs.walk.content.why_missing.Goals as goal

pub returns-then-not-is_slot-clause-tells : goal.returns-then-not-is_slot-clause-tells
returns-then-not-is_slot-clause-tells g c =
    missing-slot _ _ _ (λ slot. both_ways c.is_slot.result c.if-not-is_slot.true (c.is_slot.ensures.1 slot))

pub read-requires : goal.read-requires
read-requires g c =
    let slot = c.is_slot.ensures.0 c.if-not-is_slot.false in
    rw c.lbn_of_header.ensures (header-within (index_kept c.args.index.now) c.args.id.number _ c.requires.within slot.1.0 slot.1.1)

pub returns-then-is_bad-clause-tells : goal.returns-then-is_bad-clause-tells
returns-then-is_bad-clause-tells g c =
    missing-bad _ _ (c.is_slot.ensures.0 c.if-not-is_slot.false) _ _ _ _ c.lbn_of_header.ensures c.in_ok-read.ensures.reads.counts
    c.in_ok-read.ensures.reads.gives (c.is_bad.ensures.bad c.if-is_bad.true)

pub returns-else-is_bad-clause-tells : goal.returns-else-is_bad-clause-tells
returns-else-is_bad-clause-tells g c =
    missing-file _ _ (c.is_slot.ensures.0 c.if-not-is_slot.false) _ _ _ _ c.lbn_of_header.ensures c.in_ok-read.ensures.reads.counts
    c.in_ok-read.ensures.reads.gives (c.is_bad.ensures.good c.if-is_bad.false)
