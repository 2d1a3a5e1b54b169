use Rattle.f11_map.proofs.PointerLemmas.{WritesLink-with_link, runs_of-with_link}
use Rattle.f11_map.proofs.pointer.put_link.Goals as goal

pub returns-clause-link : goal.returns-clause-link
returns-clause-link c = rw (c.write_word-2.ensures, c.write_word.ensures) (WritesLink-with_link c.args.area.now c.args.id c.requires)

pub returns-clause-pointers : goal.returns-clause-pointers
returns-clause-pointers c = rw (c.write_word-2.ensures, c.write_word.ensures) (runs_of-with_link c.args.area.now _ _ _)
