use Rattle.f11_words.proofs.ReadingLemmas.{flag-is}
use Rattle.f11_words.proofs.args.is_told.Goals as goal

pub returns : goal.returns
returns c told has = flag-is c.get_flag.result told _ c.get_flag.ensures.value c.get_flag.ensures.other has
