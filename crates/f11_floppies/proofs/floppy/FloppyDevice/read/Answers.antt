use Rattle.std.proofs.Common.{ap, ◌∙◌}
use Rattle.f11_floppies.specs.Arrange.{logical_block}
use Rattle.f11_floppies.proofs.FloppyLemmas.{below, floppy-reads}
use Rattle.f11_floppies.proofs.floppy.FloppyDevice.read.Goals as goal

pub block_of-requires : goal.block_of-requires
block_of-requires c = below c.args.self.now.order c.args.self.now.bytes.items c.args.lbn c.requires

pub returns-clause-reads : goal.returns-clause-reads
returns-clause-reads c = floppy-reads c.args.self.now.order c.args.self.now.bytes.items _ _ _ _ _ c.requires
    (c.block_of.ensures ∙ ap (λ b. logical_block c.args.self.now.order b c.args.lbn) c.deref.ensures.value)
    record { transfers = c.add.ensures.transfers; failures = c.add.ensures.failures; calm = c.add.ensures.calm }
