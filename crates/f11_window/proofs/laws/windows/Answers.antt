use Rattle.std.proofs.Common.{[]}
use Rattle.f11_window.specs.PartLaws.{part-get}
use Rattle.f11_window.proofs.KeptLemmas.{kept-blocks}
use Rattle.f11_window.proofs.PartLemmas.{part-whole}
use Rattle.f11_window.proofs.laws.windows.Goals as goal

pub returns : goal.returns
returns c = record {
  inside = λ first blocks image k below. part-get first blocks image k [] below;
  outside = kept-blocks;
  whole = part-whole;
}
