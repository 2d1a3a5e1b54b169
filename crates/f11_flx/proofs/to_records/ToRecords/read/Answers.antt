use Rattle.std.proofs.Common.{refl, sym, ap, ◌∙◌, ne_eqb, arith}
use Rattle.f11_flx.specs.Lines.{has_crlf}
use Rattle.f11_flx.specs.Stage.{given_in}
use Rattle.f11_flx.proofs.Texts.ReadLemmas.{GivesBytes-same, lines_left-lf, is_too_long-push, whole-push, ended-push}
use Rattle.f11_flx.proofs.to_records.ToRecords.read.Goals as goal

pub invariant_of-self : goal.invariant_of-self
unfolding has_crlf
invariant_of-self c = record { whole = refl; ended = refl; given = omega arith }

pub returns-then-ends_line-clause-reads : goal.returns-then-ends_line-clause-reads
returns-then-ends_line-clause-reads c = record {
  goes_on = λ bytes. GivesBytes-same c.args.self.now _ _ _
      (lines_left-lf c.args.self.now c.args.cr c.args.byte bytes c.requires (sym c.ends_line.ensures ∙ c.if-ends_line.true))
      (ap given_in c.requires) refl;
  unended = omega arith;
}

pub returns-then-remaining_capacity-bytes_with-clause-bad : goal.returns-then-remaining_capacity-bytes_with-clause-bad
returns-then-remaining_capacity-bytes_with-clause-bad c = λ more.
    is_too_long-push c.args.self.now c.args.cr c.args.byte more c.requires (sym c.ends_line.ensures ∙ c.if-ends_line.false)
    (ne_eqb c.args.byte 0 c.if-byte-eq0.false)
    (omega (arith, c.remaining_capacity.ensures, c.bytes_with.ensures, c.if-remaining_capacity-bytes_with.true))

pub invariant_of-self-2 : goal.invariant_of-self-2
invariant_of-self-2 c = record {
  whole = whole-push c.args.self.now c.args.cr c.args.byte _ c.requires (sym c.ends_line.ensures ∙ c.if-ends_line.false) c.extend.ensures;
  ended = ended-push c.args.self.now c.args.cr c.args.byte _ c.extend.ensures;
  given = omega arith;
}
