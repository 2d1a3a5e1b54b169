use Rattle.std.proofs.Common.{false, refl, ap, ◌∙◌, sym, subst}
use Rattle.std.proofs.lemmas.Bool.{both_ways}
use Rattle.f11_header.specs.Fields.{map_area}
use Rattle.f11_header.proofs.HeaderFacts.{HasPointers, IsHeader-from, IsHeader-parts}
use Rattle.f11_header.proofs.validity.check.Goals as goal
use Rattle.f11_header.proofs.validity.check.Goals.{else-is_numbered-via-then-is_numbered+then-is_placed+else-holds_pointers}
use Rattle.f11_header.proofs.validity.check.Goals.{else-is_numbered-via-then-is_numbered+else-is_placed}
use Rattle.f11_header.proofs.validity.check.Goals.{else-is_numbered-via-else-is_numbered}

pub returns-then-read_word-eq0-clause-valid : goal.returns-then-read_word-eq0-clause-valid
returns-then-read_word-eq0-clause-valid c = (
  (λ ok. absurd (both_ways false refl ok)),
  (λ header. absurd ((IsHeader-parts _ _ header).0 (sym c.read_word.ensures ∙ c.if-read_word-eq0.true))),
)

pub returns-then-holds_pointers-clause-valid : goal.returns-then-holds_pointers-clause-valid
returns-then-holds_pointers-clause-valid c =
    let area = c.map.ensures.area ∙ ap map_area c.new.ensures in
    let pointers = subst HasPointers area (c.holds_pointers.ensures.0 c.if-holds_pointers.true) in
    let numbered = c.is_numbered.ensures.0 c.if-is_numbered.true in
    let placed = c.is_placed.ensures.0 c.if-is_placed.true in
    ((λ ok. IsHeader-from _ _ (λ none. c.if-read_word-eq0.false (c.read_word.ensures ∙ none)) numbered placed pointers), (λ header. refl))

pub returns-else-is_numbered-clause-valid : goal.returns-else-is_numbered-clause-valid
returns-else-is_numbered-clause-valid c = (
  (λ ok. absurd (both_ways false refl ok)),
  (λ header.
      let parts = IsHeader-parts _ _ header in
      elim c.else-is_numbered.branch [
        | else-is_numbered-via-then-is_numbered+then-is_placed+else-holds_pointers w ↦
            let area = w.map.ensures.area ∙ ap map_area w.new.ensures in
            absurd (both_ways w.holds_pointers.result w.if-holds_pointers.false
            (w.holds_pointers.ensures.1 (subst HasPointers (sym area) parts.3)))
        | else-is_numbered-via-then-is_numbered+else-is_placed w ↦ absurd
            (both_ways w.is_placed.result w.if-is_placed.false (w.is_placed.ensures.1 parts.2))
        | else-is_numbered-via-else-is_numbered w ↦ absurd
            (both_ways c.is_numbered.result w.if-is_numbered.false (c.is_numbered.ensures.1 parts.1))
      ]),
)
