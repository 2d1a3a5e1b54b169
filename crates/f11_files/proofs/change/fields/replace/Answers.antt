use Rattle.f11_image_store.proofs.FieldLemmas.{attributes-replaced, ident-replaced, protection-replaced}
use Rattle.f11_files.proofs.Finding.First.{first-segment}
use Rattle.f11_files.proofs.change.fields.replace.Goals as goal

pub set_ident-requires-clause-first : goal.set_ident-requires-clause-first
set_ident-requires-clause-first c = first-segment c.args.f c.args.block.now c.requires

pub returns-in-Attr : goal.returns-in-Attr
returns-in-Attr c =
    rw c.in-Attr.is (attributes-replaced _ _ _ c.requires.valid.holds c.set_attributes.ensures.says c.set_attributes.ensures.sum)

pub returns-in-Ident : goal.returns-in-Ident
returns-in-Ident c = rw c.in-Ident.is (ident-replaced _ _ _ c.requires.valid.holds c.set_ident.ensures.says c.set_ident.ensures.sum)

pub returns-in-Protect : goal.returns-in-Protect
returns-in-Protect c =
    rw c.in-Protect.is (protection-replaced _ _ _ c.requires.valid.holds c.set_protection.ensures.says c.set_protection.ensures.sum)
