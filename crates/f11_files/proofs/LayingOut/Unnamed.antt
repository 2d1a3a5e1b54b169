-- Blocks that no header names: none does once a file has others.
use Rattle.std.proofs.Common.{◌≡◌, ◌+◌, ◌<◌, ◌≤◌, ℕ, List, inl, inr, refl, sym, ap, subst, ◌∙◌, arith}
use Rattle.std.specs.Prelude.{Contains}
use Rattle.std.specs.List.{range_with_len}
use Rattle.std.proofs.lemmas.Bool.{both_ways, cases_Bool}
use Rattle.f11_chain.specs.FileHeaders.{file_blocks}
use Rattle.f11_chain.proofs.ChangeLemmas.{header-stands}
use Rattle.f11_index.specs.Headers.{is_live, HasByteSegments}
use Rattle.f11_index.specs.Table.{Table, IsHeaderOf}
use Rattle.f11_index.proofs.NextLemmas.{live-tested}
use Rattle.f11_map.specs.HeaderBlock.{blocks_named, segment_number}
use Rattle.f11_store.specs.declared.callers.Uic.{Uic}
use Rattle.f11_volume.specs.Sound.{IsSoundVolume}
use Rattle.f11_volume.specs.Volume.{Volume, IsNamed}
use Rattle.f11_volume.proofs.MemberLemmas.{at-place, contained, in-back, in-either, in-front, in-range}
use Rattle.f11_writes.specs.NameLaws.{AreUnreferenced}
use Rattle.f11_writes.proofs.OwnerLemmas.{named-in, named-of}
use Rattle.f11_image_store.specs.Allocation.{named_by, NamesMore}
use Rattle.f11_image_store.proofs.AllocationLemmas.{named-dead, named-live}

-- a header that names a block is live
pub was-named : (t : Table) (m x : ℕ) → Contains (named_by t m) x → IsNamed t x
was-named t m x has = elim (cases_Bool (is_live t m)) [
  | inl is ↦
      let live = (live-tested t m).0 is in
      let there = subst (λ (l : List ℕ). Contains l x) (named-live t m live) has in
      record { header = m; place = there.0; cell = record { live = live; names = at-place (blocks_named (t.header m)) x there } }
  | inr not ↦
      let none = subst (λ (l : List ℕ). Contains l x) (named-dead t m (λ live. both_ways _ not ((live-tested t m).1 live))) has in
      let below = none.1 in absurd (omega (arith, below))
]

-- a block is named by none where each header that names it named it before
pub fewer-named : (t u : Table) (x : ℕ) → ((m : ℕ) → Contains (named_by u m) x → Contains (named_by t m) x) → ¬ IsNamed t x → ¬ IsNamed u x
fewer-named t u x fewer none is =
    let m : ℕ = is.header in
    let has : Contains (blocks_named (u.header m)) x = contained (blocks_named (u.header m)) is.place x is.cell.names in
    none (was-named t m x (fewer m (subst (λ (l : List ℕ). Contains l x) (sym (named-live u m is.cell.live)) has)))

-- a file has these blocks more, behind its own
module _ (f : ℕ) (ownership : Uic × ℕ) (lbns : List ℕ) (old new : Volume) (sound : IsSoundVolume old)
    (few : (m : ℕ) → IsHeaderOf new.table f m → segment_number (new.table.header m) < 256)
    (names : NamesMore f ownership lbns old.table new.table) where
  -- a block of the file that isn't one of those was its
  in-old : (x : ℕ) → ¬ Contains lbns x → Contains (file_blocks new.table f) x → IsNamed old.table x
  in-old x out has = elim (in-either (file_blocks old.table f) lbns x (subst (λ (l : List ℕ). Contains l x) names.blocks has)) [
    | inl was ↦ named-of old.table f x (named-in old sound f was.0 x names.says.file (at-place (file_blocks old.table f) x was))
    | inr more ↦ absurd (out more)
  ]

  -- what a header of the file names is the file's
  in-file : (m x : ℕ) → IsHeaderOf new.table f m → Contains (blocks_named (new.table.header m)) x → Contains (file_blocks new.table f) x
  in-file m x of has =
      let stands = header-stands new.table new.table f m of (few m of) (λ k from below. refl) in
      subst (λ (l : List ℕ). Contains l x) (sym stands.whole_is)
      (in-back stands.before _ x (in-front (blocks_named (new.table.header m)) stands.behind x has))

  -- another block that no header named, none names
  pub unnamed-still : (x : ℕ) → ¬ Contains lbns x → ¬ IsNamed old.table x → ¬ IsNamed new.table x
  unnamed-still x out none is =
      let m : ℕ = is.header in
      let has : Contains (blocks_named (new.table.header m)) x = contained (blocks_named (new.table.header m)) is.place x is.cell.names in
      let same : named_by new.table m ≡ named_by old.table m = names.others m (λ of. none (in-old x out (in-file m x of has))) in
      none (was-named old.table m x (subst (λ (l : List ℕ). Contains l x) (sym (named-live new.table m is.cell.live) ∙ same) has))

-- those behind a run that a file has more are unreferenced still
module _ (f lbn count : ℕ) (ownership : Uic × ℕ) (old new : Volume) (sound : IsSoundVolume old) (few : HasByteSegments new.table)
    (names : NamesMore f ownership (range_with_len lbn count) old.table new.table) where
  behind-unnamed : (x : ℕ) → lbn + count ≤ x → ¬ IsNamed old.table x → ¬ IsNamed new.table x
  behind-unnamed x past =
      unnamed-still f ownership (range_with_len lbn count) old new sound (λ m _. few m) names x
      (λ has. let here = in-range lbn count x has in omega (arith, here.1, past))

  pub rest-unreferenced : (from rest : ℕ) → lbn + count ≤ from → new.size ≡ old.size → new.free ≡ old.free → AreUnreferenced old from rest
      → AreUnreferenced new from rest
  rest-unreferenced from rest past size free unreferenced = record {
    inside = let inside = unreferenced.inside in omega (arith, inside, size);
    used = λ k low high. ap (λ g. g k) free ∙ unreferenced.used k low high;
    unnamed = λ k low high. behind-unnamed k (omega (arith, past, low)) (unreferenced.unnamed k low high);
  }
