use Rattle.std.proofs.Common.{◌∙◌, sym}
use Rattle.std.proofs.lemmas.Bool.{false≢true}
use Rattle.f11_rad50.proofs.Padded.{IsName-from_named, named-from_IsName}
use Rattle.f11_rad50.proofs.file_name.is_name.Goals as goal

pub returns-then-are_named : goal.returns-then-are_named
returns-then-are_named c = (
  λ yes. let v = c.is_version.ensures.0 yes in
      IsName-from_named c.args.first c.args.second c.args.third c.args.kind c.args.version (sym c.are_named.ensures ∙ c.if-are_named.true)
      v.0 v.1,
  λ name. c.is_version.ensures.1 (named-from_IsName c.args.first c.args.second c.args.third c.args.kind c.args.version name).1,
)

pub returns-else-are_named : goal.returns-else-are_named
returns-else-are_named c = (
  λ yes. absurd (false≢true (sym c.if-are_named.false ∙ yes)),
  λ name. c.are_named.ensures ∙ (named-from_IsName c.args.first c.args.second c.args.third c.args.kind c.args.version name).0,
)
