use Rattle.std.proofs.Common.{arith}
use Rattle.f11_layout.proofs.BlockLemmas.{own-header}
use Rattle.f11_layout.proofs.layout.Layout.fill_slot.Goals as goal

pub returns-then-n-le-OWN_FILES : goal.returns-then-n-le-OWN_FILES
returns-then-n-le-OWN_FILES c =
    own-header _ _ _ c.args.self.now.valid.some_slots (omega (arith, c.requires)) (omega (arith, c.if-n-le-OWN_FILES.true))
    c.fill_header.ensures
