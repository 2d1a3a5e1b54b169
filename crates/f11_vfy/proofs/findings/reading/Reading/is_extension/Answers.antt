use Rattle.f11_vfy.proofs.Reclaiming.Told.{told-extension}
use Rattle.f11_vfy.proofs.findings.reading.Reading.is_extension.Goals as goal

pub returns : goal.returns
returns c = λ v shows.
    told-extension v c.args.self.now c.args.n c.from.result c.index.result.now shows c.requires c.from.ensures c.index.ensures
    c.is_extension.result c.is_extension.ensures
