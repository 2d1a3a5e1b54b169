use Rattle.std.proofs.Common.{◌≡◌, ◌≤◌, true, take}
use Rattle.std.specs.Char.{is_digit}
use Rattle.std.specs.List.{list_all}
use Rattle.std.specs.Str.Parse.{digits_value}
use Rattle.f11_script.proofs.fields.value_up_to.Given as goal

abbrev pub invariant-loop-digit : goal.invariant-loop-digit
invariant-loop-digit l = record {
  digits : list_all (λ c. is_digit c l.radix) (take l.digit-index l.text) ≡ true;
  value_is : l.value ≡ digits_value l.radix (take l.digit-index l.text);
  small : l.value ≤ l.most;
}
