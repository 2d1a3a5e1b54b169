-- The places that records have among all files.
use Rattle.std.proofs.Common.{◌≡◌, ℕ, Bool, false, List, [], ◌∷◌, cond, sym, ap, subst, inl, inr, arith}
use Rattle.std.proofs.lemmas.List.Concat.{flat_map-cons}
use Rattle.std.proofs.lemmas.List.Elements.{Contains-append_cases, Contains-append_left, Contains-append_right, Contains-push}
use Rattle.std.proofs.lemmas.List.Elements.{Contains-push_cases}
use Rattle.std.specs.List.{flat_map}
use Rattle.std.specs.Prelude.{Contains}
use Rattle.f11_dev.specs.Image.{Image}
use Rattle.f11_index.specs.IndexFile.{Index}
use Rattle.f11_index.specs.Table.{Table}
use Rattle.f11_store.specs.Directory.{is_empty, record_id, record_name}
use Rattle.f11_store.specs.declared.files.FileId.{FileId}
use Rattle.f11_catalog.specs.AllDirectories.{DirectoryAt, all_directories}
use Rattle.f11_catalog.specs.AllFiles.{all_files, entered_files, is_among, lost_files, place_entered, places_in}
use Rattle.f11_catalog.specs.Lines.{name_found}
use Rattle.f11_catalog.specs.Records.{records_found}
use Rattle.f11_catalog.specs.declared.walk.place.Place.{Place}
use Rattle.f11_catalog.specs.declared.walk.place.Place.TheVariants.{Entered}

no-element : {X : Type 0} (x : X) → ¬ Contains [] x
no-element x has = absurd (omega (arith, has.1))

only-element : {X : Type 0} (z x : X) → Contains (z ∷ []) x → z ≡ x
only-element z x has = elim (Contains-push_cases [] z x has) [
  | inl none ↦ absurd (no-element x none)
  | inr same ↦ same
]

-- what an element of a list gives is among what all give
contains-given : {X Y : Type 0} (f : X → List Y) (xs : List X) (x : X) (y : Y) → Contains xs x → Contains (f x) y
    → Contains (flat_map f xs) y
contains-given f [] x y has gives = absurd (no-element x has)
contains-given f (z ∷ zs) x y has gives =
    subst (λ l. Contains l y) (sym (flat_map-cons f z zs)) (elim (Contains-append_cases (z ∷ []) zs x has) [
      | inl here ↦ Contains-append_left (f z) (flat_map f zs) y (subst (λ w. Contains (f w) y) (sym (only-element z x here)) gives)
      | inr later ↦ Contains-append_right (f z) (flat_map f zs) y (contains-given f zs x y later gives)
    ])

-- so does a record that isn't empty, of a directory that is gone over
pub record-placed : (wide : Index) (image : Image) (t : Table) (master : FileId) (led : ℕ → Bool) (directory : DirectoryAt) (r : List ℕ)
    → Contains (all_directories wide image t master led) directory → Contains (records_found wide image t directory.id) r
    → is_empty r ≡ false
    → Contains (all_files wide image t master led) (Entered directory.name (name_found (record_name r)) (record_id r))
record-placed wide image t master led directory r over has some =
    let entered : List Place = entered_files wide image t master led in
    let place : Place = Entered directory.name (name_found (record_name r)) (record_id r) in
    Contains-append_left entered (lost_files t (is_among t entered) 1 t.slots) place
    (contains-given (places_in wide image t) (all_directories wide image t master led) directory place over
    (contains-given (place_entered directory.name) (records_found wide image t directory.id) r place has
    (subst (λ ps. Contains ps place) (sym (ap (λ (b : Bool). cond b [] (place ∷ [])) some)) (Contains-push [] place))))
