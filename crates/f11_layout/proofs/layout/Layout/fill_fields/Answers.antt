use Rattle.std.proofs.Common.{rules, ℕ, List, subst, ◌∙◌}
use Rattle.f11_layout.proofs.HeaderLemmas.{bare-made}
use Rattle.f11_layout.specs.FreshHeader.{IsBareHeader}
use Rattle.f11_layout.proofs.layout.Layout.fill_fields.Goals as goal

pub returns : goal.returns
returns c = subst (λ (b : List ℕ). IsBareHeader c.args.self.now c.args.n b) (search rules)
    (bare-made _ _ c.args.file.now _ _ _ _ c.requires.number c.requires.file (c.new-header.ensures.block ∙ c.blank.ensures.block)
    (rw c.new-header.ensures.block c.blank.ensures.empty)
    c.set_ident.ensures.header (rw c.own_ident.ensures at c.set_ident.ensures.fields)
    c.set_attributes.ensures.header (rw c.own_attributes.ensures at c.set_attributes.ensures.fields)
    c.seal.ensures.sealed c.seal.ensures.fields)
