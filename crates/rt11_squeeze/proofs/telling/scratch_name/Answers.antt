use Rattle.rt11_squeeze.proofs.TellLemmas.{scratch-proper, some-of}
use Rattle.rt11_squeeze.proofs.telling.scratch_name.Goals as goal

pub returns-clause-exact : goal.returns-clause-exact
returns-clause-exact c = λ is. some-of c.from_words.result _ _ c.from_words.ensures.name (scratch-proper c.args.words is)
