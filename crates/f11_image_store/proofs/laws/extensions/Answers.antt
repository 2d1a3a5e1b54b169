use Rattle.f11_image_store.proofs.ExtensionLemmas.{enters-extension}
use Rattle.f11_image_store.proofs.NewFileLemmas.{slot-taken}
use Rattle.f11_image_store.proofs.laws.extensions.Goals as goal

pub returns : goal.returns
returns c =
    record {
      taken = slot-taken;
      entered = λ image home n lbn count block after is new unreferenced.
          enters-extension image home n lbn count block after is new unreferenced;
    }
