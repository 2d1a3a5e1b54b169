use Rattle.std.proofs.Common.{◌∙◌, ap₂}
use Rattle.f11_words.specs.Lines.{is_stopping, is_told, manner_from}
use Rattle.f11_words.proofs.ReadingLemmas.{flag-is, manner-is}
use Rattle.f11_words.proofs.args.manner_of.Goals as goal

pub returns : goal.returns
returns c manner told stops =
    c.manner_by.ensures
    ∙ ap₂ manner_from (flag-is c.get_flag.result (is_told manner) _ c.get_flag.ensures.value c.get_flag.ensures.other told)
    (flag-is c.get_flag-2.result (is_stopping manner) _ c.get_flag-2.ensures.value c.get_flag-2.ensures.other stops)
    ∙ manner-is manner
