use Rattle.f11_header.proofs.FieldLemmas.{map_area-dead_header}
use Rattle.f11_header.proofs.lifecycle.kill.Goals as goal

pub returns-clause-map_area : goal.returns-clause-map_area
returns-clause-map_area c =
    λ holds. rw (c.write_word-2.ensures, c.write_word.ensures) (map_area-dead_header c.args.block.now c.told-block holds)
