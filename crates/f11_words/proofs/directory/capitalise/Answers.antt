use Rattle.std.proofs.Common.{rules}
use Rattle.std.proofs.lemmas.List.Edits.{map_over_more}
use Rattle.std.specs.Char.{to_ascii_uppercase}
use Rattle.f11_words.proofs.directory.capitalise.Goals as goal

pub loop-c-preserved : goal.loop-c-preserved
loop-c-preserved c = search (rules, map_over_more to_ascii_uppercase)
