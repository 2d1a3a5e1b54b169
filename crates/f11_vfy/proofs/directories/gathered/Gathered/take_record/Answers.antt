use Rattle.std.proofs.Common.{refl}
use Rattle.std.proofs.lemmas.Bool.{both_ways}
use Rattle.f11_vfy.proofs.Directory.Taking.{record-empty, record-taken}
use Rattle.f11_vfy.proofs.directories.gathered.Gathered.take_record.Goals as goal

pub returns-then-is_empty : goal.returns-then-is_empty
returns-then-is_empty c =
    record-empty c.args.slots.now c.args.d c.args.i c.args.record.now c.args.self.now (c.is_empty.ensures.0 c.if-is_empty.true)

pub returns : goal.returns
returns c =
    record-taken c.args.slots.now c.args.d c.args.i c.args.record.now c.enter-file.result c.in_ok-added.added c.is_name.result
    c.args.self.now _ (λ none. both_ways _ c.if-is_empty.false (c.is_empty.ensures.1 none))
    c.enter-file.ensures.limit refl c.in_ok-added.ensures.updates c.in_ok-added.ensures.added c.enter-file.ensures.told
    c.enter-file.ensures.enters c.is_name.ensures
    (rw c.of.ensures at c.in_ok-add_if.ensures.adds) (rw c.of-2.ensures at c.in_ok-add_if-2.ensures.adds)
    (rw c.of-3.ensures at c.in_ok-add_if-3.ensures.adds)
