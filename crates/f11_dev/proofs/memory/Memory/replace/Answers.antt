use Rattle.std.proofs.Common.{◌∙◌, ap, reverse}
use Rattle.f11_dev.specs.Memory.{images_back}
use Rattle.f11_dev.proofs.DiskLemmas.{images_back-push}
use Rattle.std.proofs.Math.ListN.{set}
use Rattle.f11_dev.proofs.memory.Memory.replace.Goals as goal

pub returns-clause-images : goal.returns-clause-images
returns-clause-images c =
    let image = set c.args.blocks.now.items c.args.lbn c.args.from.now in
    ap (λ r. images_back image (reverse r)) c.in_ok-push.ensures.items
    ∙ images_back-push c.args.blocks.now.items c.args.replaced.now.items c.args.lbn c.args.from.now c.index.result.now c.index.ensures
