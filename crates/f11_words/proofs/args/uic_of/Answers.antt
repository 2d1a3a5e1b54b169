use Rattle.std.proofs.Common.{◌≡◌, ◌∙◌, Some}
use Rattle.f11_numbers.specs.Octal.{SpellsUic}
use Rattle.f11_words.proofs.ReadingLemmas.{spelled-or-none}
use Rattle.f11_words.proofs.args.uic_of.Goals as goal

pub returns : goal.returns
returns c text has =
    let met : Some c.in_ok-get_str.field-0.now ≡ Some text = c.in_ok-get_str.ensures ∙ has in
    spelled-or-none SpellsUic c.read_uic.result _ text (let same = met in cc) c.read_uic.ensures.spelled c.read_uic.ensures.every
