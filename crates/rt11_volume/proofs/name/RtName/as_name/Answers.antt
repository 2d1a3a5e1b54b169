use Rattle.rt11_volume.proofs.TextLemmas.{IsName-with_version, is_some-name}
use Rattle.rt11_volume.proofs.name.RtName.as_name.Goals as goal

pub unwrap-requires : goal.unwrap-requires
unwrap-requires c = is_some-name _ _ _ c.from_words.ensures.name (IsName-with_version c.self.inside.words c.self.invariant)
