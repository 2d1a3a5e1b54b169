use Rattle.std.proofs.Common.{◌∙◌, sym, ◌&&◌}
use Rattle.rt11_volume.specs.Entry.{is_one_kind, has_bit}
use Rattle.rt11_volume.proofs.Verifying.Names.{name-passed, name-taken}
use Rattle.rt11_volume.proofs.verifier.names.take_name.Goals as goal

pub returns-then-not-is_permanent : goal.returns-then-not-is_permanent
returns-then-not-is_permanent c = λ words says.
    name-passed words c.args.names.now ((λ n. is_one_kind (sym says.status n) && has_bit (sym says.status n) 10)
    ∙ sym c.is_permanent.ensures
    ∙ c.if-not-is_permanent.true)

pub returns : goal.returns
returns c = λ words says.
    name-taken words c.args.entry.now.name c.args.names.now _ says.name
    ((λ n. is_one_kind (sym says.status n) && has_bit (sym says.status n) 10) ∙ sym c.is_permanent.ensures ∙ c.if-not-is_permanent.false)
    c.in_ok-added.ensures.updates c.in_ok-added.added c.in_ok-added.ensures.added
