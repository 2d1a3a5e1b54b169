use Rattle.std.proofs.Common.{◌∙◌, ap, sym}
use Rattle.f11_catalog.specs.Users.{user_spelled}
use Rattle.f11_catalog.proofs.FactsLemmas.{spelled-text, user-is}
use Rattle.f11_catalog.proofs.users.user_of.Goals as goal

pub returns : goal.returns
returns c =
    c.user_in.ensures
    ∙ ap user_spelled (spelled-text _ _ _ c.spell-length.ensures.text c.spell-length.ensures.length)
    ∙ sym (user-is c.args.name.now c.spell-length.ensures.reads_back)
