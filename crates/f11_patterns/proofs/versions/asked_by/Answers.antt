use Rattle.f11_patterns.proofs.VersionLemmas.{numbered-AreVersions}
use Rattle.f11_patterns.proofs.versions.asked_by.Goals as goal

pub returns-in_ok-read_number-in_default-clause-numbers : goal.returns-in_ok-read_number-in_default-clause-numbers
returns-in_ok-read_number-in_default-clause-numbers c =
    let read = c.in_ok-read_number-in_default.ensures in
    numbered-AreVersions c.args.digits.now _ _ read.0 read.1 c.numbered.ensures.zero c.numbered.ensures.other
