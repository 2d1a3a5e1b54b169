use Rattle.f11_header.proofs.FieldLemmas.{IsMapArea-in_header, holds-changed, keeps-with_map, valid-with_check_word}
use Rattle.f11_header.proofs.laws.writing.Goals as goal

pub returns : goal.returns
returns c = record { seal = valid-with_check_word; fields = holds-changed; map_area = keeps-with_map; has_map_area = IsMapArea-in_header }
