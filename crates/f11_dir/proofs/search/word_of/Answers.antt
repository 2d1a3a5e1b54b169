use Rattle.std.proofs.Common.{sym, ◌∙◌}
use Rattle.f11_dir.proofs.RecordWords.{word-record_in}
use Rattle.f11_dir.proofs.search.word_of.Goals as goal

pub returns : goal.returns
returns c = c.read_word.ensures ∙ sym (word-record_in _ _ _ c.requires.byte)
