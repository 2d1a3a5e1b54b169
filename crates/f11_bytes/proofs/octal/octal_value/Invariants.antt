use Rattle.std.proofs.Common.{◌≡◌, ◌≤◌, take}
use Rattle.std.specs.Str.Parse.{AllDigits, digits_value}
use Rattle.f11_bytes.proofs.octal.octal_value.Given as goal

abbrev pub invariant-loop-digit : goal.invariant-loop-digit
invariant-loop-digit l =
    AllDigits 8 (take l.digit-index l.digits) × (l.value ≡ digits_value 8 (take l.digit-index l.digits)) × (l.value ≤ l.most)
