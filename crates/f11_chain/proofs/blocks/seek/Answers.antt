use Rattle.f11_index.specs.Kept.{index_kept}
use Rattle.f11_chain.proofs.AlongLemmas.{first-at}
use Rattle.f11_chain.proofs.blocks.seek.Goals as goal

pub go_on-requires-clause-is_at : goal.go_on-requires-clause-is_at
go_on-requires-clause-is_at g c =
    first-at (index_kept c.args.index.now) c.args.n c.args.block.now (g.D.Device.disk c.args.device.now) c.requires.first
