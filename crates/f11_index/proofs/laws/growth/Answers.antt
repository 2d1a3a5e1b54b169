use Rattle.f11_index.proofs.ForLemmas.{IsFor-grown}
use Rattle.f11_index.proofs.GrowLemmas.{grows-at, grows-by}
use Rattle.f11_index.proofs.laws.growth.Goals as goal

pub returns : goal.returns
returns c = record {
  names = λ image home n block lbn count good apart may within. grows-at image home good n block lbn count apart may within;
  links = λ image home n m block lbn count good apart may within. grows-by image home good n m block lbn count apart may within;
  stays = IsFor-grown;
}
