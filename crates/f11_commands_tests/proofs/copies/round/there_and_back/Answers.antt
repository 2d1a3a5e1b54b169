use Rattle.std.proofs.Common.{refl}
use Rattle.f11_commands.proofs.flx.ThereAndBackLemmas.{file-comes-back}
use Rattle.f11_commands_tests.proofs.copies.round.there_and_back.Goals as goal

pub returns : goal.returns
returns g c = record {
  back = λ sound sound' sound''.
      file-comes-back c.args.mode _ _ _ _ _ _ _ _ _ _ _ _ _ _ _ _ _ _ (c.in_ok-there.ensures.copied sound sound')
      (c.in_ok-back.ensures.copied sound'' (c.in_ok-there.ensures.target.sound sound' refl));
}
