use Rattle.std.proofs.Common.{◌∙◌, Some, ap, sym}
use Rattle.f11_rad50.proofs.Words.{words_of-eq}
use Rattle.f11_patterns.proofs.naming.name_of_parts.Goals as goal

pub returns : goal.returns
returns c =
    let same = words_of-eq _ _ c.args.version c.word_at.result c.word_at-2.result c.word_at-3.result c.word_at-4.result
    c.word_at.ensures c.word_at-2.ensures c.word_at-3.ensures c.word_at-4.ensures in
    c.from_words.ensures.every _ _ _ c.requires.proper (sym same) ∙ ap Some same
