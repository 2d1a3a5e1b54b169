-- The parts of a pattern, which stand in the text that it was read from.
use Rattle.f11_patterns.specs.declared.pattern.Pattern.{Pattern}
use Rattle.f11_patterns.specs.Parts.{Parts}

-- The parts of a pattern.
abbrev pub parts_of : Pattern → Parts
parts_of pattern = record { name = pattern.name.now; kind = pattern.kind.now; versions = pattern.versions }
