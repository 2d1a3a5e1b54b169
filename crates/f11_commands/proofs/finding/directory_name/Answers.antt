use Rattle.std.proofs.Common.{refl, sym, subst}
use Rattle.std.specs.Result.{IsOk}
use Rattle.f11_rad50.specs.Name.{Spells}
use Rattle.f11_commands.specs.Copying.{directory_name}
use Rattle.f11_commands.proofs.DirectoryLemmas.{directory-spells}
use Rattle.f11_commands.proofs.finding.directory_name.Goals as goal

pub unwrap-requires : goal.unwrap-requires
unwrap-requires c =
    let spells = subst (λ t. Spells t (directory_name c.args.uic)) (sym c.directory_text-text.ensures) (directory-spells c.args.uic) in
    subst (λ r. IsOk r) (sym (c.parse.ensures.every (directory_name c.args.uic) spells)) refl

pub returns : goal.returns
returns c =
    let spells = subst (λ t. Spells t (directory_name c.args.uic)) (sym c.directory_text-text.ensures) (directory-spells c.args.uic) in
    let is = c.parse.ensures.every (directory_name c.args.uic) spells in
    let own = c.unwrap.ensures in cc
