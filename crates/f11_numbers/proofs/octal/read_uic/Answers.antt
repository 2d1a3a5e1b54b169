use Rattle.std.proofs.Common.{◌∙◌, ap, arith, None, Some, subst, sym}
use Rattle.std.specs.Str.Parse.{digits_value}
use Rattle.std.proofs.lemmas.Str.Pattern.{split_parts}
use Rattle.f11_bytes.specs.Octal.{IsOctal}
use Rattle.f11_numbers.proofs.OctalLemmas.{same_uic, split_at_comma}
use Rattle.f11_numbers.proofs.octal.read_uic.Goals as goal

pub returns-in_err-group-clause-every : goal.returns-in_err-group-clause-every
returns-in_err-group-clause-every c uic s = absurd (split_at_comma c.args.text.now uic None c.in_err-group.ensures.cases s)

pub returns-in_err-read_byte-clause-every : goal.returns-in_err-read_byte-clause-every
returns-in_err-read_byte-clause-every c uic s =
    let parts = split_at_comma c.args.text.now uic (Some (c.in_ok-group.group, c.in_ok-group.member)) c.in_ok-group.ensures.cases s in
    absurd (c.in_err-read_byte.ensures (subst (λ digits. IsOctal digits 255) (sym parts.0) s.group_digits))

pub returns-in_err-read_byte-2-clause-every : goal.returns-in_err-read_byte-2-clause-every
returns-in_err-read_byte-2-clause-every c uic s =
    let parts = split_at_comma c.args.text.now uic (Some (c.in_ok-group.group, c.in_ok-group.member)) c.in_ok-group.ensures.cases s in
    absurd (c.in_err-read_byte-2.ensures (subst (λ digits. IsOctal digits 255) (sym parts.1) s.member_digits))

pub returns-clause-spelled : goal.returns-clause-spelled
returns-clause-spelled c = record {
  group = c.in_ok-group.group.now;
  member = c.in_ok-group.member.now;
  is_text = (split_parts 44 c.args.text.now (Some (c.in_ok-group.group, c.in_ok-group.member)) c.in_ok-group.ensures.cases (omega arith)).0;
  group_digits = c.in_ok-read_byte.ensures.0;
  member_digits = c.in_ok-read_byte-2.ensures.0;
  group_value = c.in_ok-read_byte.ensures.1;
  member_value = c.in_ok-read_byte-2.ensures.1;
}

pub returns-clause-every : goal.returns-clause-every
returns-clause-every c uic s =
    let parts = split_at_comma c.args.text.now uic (Some (c.in_ok-group.group, c.in_ok-group.member)) c.in_ok-group.ensures.cases s in
    ap Some (same_uic _ uic (c.in_ok-read_byte.ensures.1 ∙ ap (digits_value 8) parts.0 ∙ sym s.group_value)
    (c.in_ok-read_byte-2.ensures.1 ∙ ap (digits_value 8) parts.1 ∙ sym s.member_value))
