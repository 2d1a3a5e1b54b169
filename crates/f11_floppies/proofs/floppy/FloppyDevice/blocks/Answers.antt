use Rattle.std.proofs.Common.{◌∙◌, sym}
use Rattle.f11_floppies.proofs.BlockLemmas.{length-logical_image}
use Rattle.f11_floppies.proofs.floppy.FloppyDevice.blocks.Goals as goal

pub returns : goal.returns
returns c = record { count = c.blocks-2.ensures ∙ sym (length-logical_image c.args.self.now.order c.args.self.now.bytes.items) }
