use Rattle.f11_patterns.proofs.VersionLemmas.{read-version}
use Rattle.f11_patterns.proofs.versions.read_number.Goals as goal

pub returns : goal.returns
returns c = read-version _ _ c.if-digits-gt-VERSION_DIGITS.false c.octal_value.ensures
