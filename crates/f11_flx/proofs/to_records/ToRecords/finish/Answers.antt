use Rattle.std.proofs.Common.{[], List, ℕ, ◌<◌, length, refl, sym, ap, ◌∙◌, arith}
use Rattle.f11_flx.specs.Lines.{has_crlf}
use Rattle.f11_flx.specs.Stage.{given_in, lines_from, with_cr}
use Rattle.f11_flx.specs.declared.stage.Stage.TheVariants.{Giving}
use Rattle.f11_flx.proofs.Texts.ReadLemmas.{GivesBytes-same, is_too_long-end, lines_left-end}
use Rattle.f11_flx.proofs.Texts.TextLemmas.{some-left}
use Rattle.f11_flx.proofs.to_records.ToRecords.finish.Goals as goal

pub returns-then-remaining_capacity-cr_bytes-clause-bad : goal.returns-then-remaining_capacity-cr_bytes-clause-bad
returns-then-remaining_capacity-cr_bytes-clause-bad c =
    is_too_long-end c.args.self.now c.in-Reading.cr c.in-Reading.is
    (omega (arith, c.remaining_capacity.ensures, c.cr_bytes.ensures, c.if-remaining_capacity-cr_bytes.true))

pub invariant_of-self-else-is_empty : goal.invariant_of-self-else-is_empty
unfolding has_crlf
invariant_of-self-else-is_empty c = record { whole = refl; ended = refl; given = omega arith }

pub returns-else-is_empty-clause-ends : goal.returns-else-is_empty-clause-ends
returns-else-is_empty-clause-ends c =
    let some : 0 < length (with_cr c.args.self.now.line.items c.in-Reading.cr) =
    omega (arith, some-left _ (sym c.is_empty.ensures ∙ c.if-is_empty.false), ap length c.keep_cr.ensures) in
    record {
      goes_on = GivesBytes-same c.args.self.now _ [] []
          (lines_left-end c.args.self.now c.in-Reading.cr c.in-Reading.is some ∙ ap (λ (line : List ℕ). lines_from line (Giving 0) [])
          (sym c.keep_cr.ensures)) (ap given_in c.in-Reading.is) refl;
      none_open = refl;
    }
