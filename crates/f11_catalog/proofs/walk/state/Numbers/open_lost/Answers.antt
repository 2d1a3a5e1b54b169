use Rattle.std.proofs.Common.{List, ℕ, Option, sym, ap, ◌∙◌, refl}
use Rattle.f11_header.specs.Fields.{ident_area}
use Rattle.f11_store.specs.declared.files.FileId.{FileId}
use Rattle.f11_catalog.specs.AllDirectories.{name_in}
use Rattle.f11_catalog.specs.declared.walk.place.Place.TheVariants.{Lost}
use Rattle.f11_catalog.specs.Steps.{is_met}
use Rattle.f11_catalog.proofs.LostLemmas.{lost-none, lost-one}
use Rattle.f11_catalog.proofs.walk.state.Numbers.open_lost.Goals as goal

pub returns-in-Some-clause-one : goal.returns-in-Some-clause-one
returns-in-Some-clause-one g c =
    lost-one (is_met c.args.self.now) _ _ _ _ _ c.in-Some.file refl (sym c.has_met.ensures ∙ c.if-has_met.false)
    (rw c.in-Some.is at c.in_ok-file.ensures.opens)
    (ap (λ (name : Option (List ℕ)). Lost name c.id.result)
    (c.own_name.ensures ∙ ap (λ (h : List ℕ). name_in (ident_area h)) c.header.ensures.header)
    ∙ ap (λ (id : FileId). Lost (name_in (ident_area c.in-Some.file.header)) id) c.id.ensures)

pub returns-in-None-clause-none : goal.returns-in-None-clause-none
returns-in-None-clause-none g c = lost-none (is_met c.args.self.now) _ _ _ _ (rw c.in-None.is at c.in_ok-file.ensures.none)
