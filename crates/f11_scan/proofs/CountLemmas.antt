-- What carries a count of headers from one to the next.
use Rattle.std.proofs.Common.{◌≡◌, ◌≢◌, ℕ, ◌+◌, ◌≤◌, IsTrue, List, length, Option, Some, None, [], ◌∷◌, refl, ap, sym, ◌∙◌, arith}
use Rattle.std.specs.Prelude.{false, is_some}
use Rattle.std.proofs.lemmas.Bool.{both_ways}
use Rattle.f11_dev.specs.Disk.{Disk}
use Rattle.f11_dev.specs.Image.{Image, image_block}
use Rattle.f11_dev.specs.Looked.{Looked}
use Rattle.f11_scan.specs.Scan.{headers_from, FindsHeader, FindsNext, FindsNone}
use Rattle.f11_scan.specs.Uses.{use_of_block}
use Rattle.f11_scan.specs.declared.found.FoundHeader.{FoundHeader}
use Rattle.f11_scan.specs.declared.header_use.HeaderUse.{HeaderUse}
use Rattle.f11_scan.proofs.ListLemmas.{from-next, from-none}

-- so many headers were counted up to a place, and on an honest disk the others are those from there on
pub record Counted (start : ℕ) (old now : Disk) (n place : ℕ) : Type 0 where
  pub few : n ≤ place
  pub image : now.image ≡ old.image
  pub honest : now.honest ≡ old.honest
  pub counts : IsTrue old.honest → n + length (headers_from old.image place) ≡ length (headers_from old.image start)

some-not-none : (u : HeaderUse) → Some u ≢ None
some-not-none u is = both_ways false refl (sym (ap (λ (o : Option HeaderUse). is_some o) is))

pub counted-more : (start : ℕ) (old now new : Disk) (n from to most : ℕ) (found : FoundHeader) → Counted start old now n from
    → FindsHeader found now from to → Looked now new most 0 → Counted start old new (n + 1) to
counted-more start old now new n from to most found counted finds looked = record {
  few = omega (arith, counted.few, finds.behind, finds.goes_on);
  image = looked.image ∙ counted.image;
  honest = looked.honest ∙ counted.honest;
  counts = λ honest.
      let same : IsTrue now.honest = counted.honest ∙ honest in
      let block : image_block now.image found.lbn ≡ found.block = finds.is_block same in
      let next : headers_from now.image from ≡ found.lbn ∷ headers_from now.image (found.lbn + 1) =
      from-next now.image from found.lbn finds.behind finds.within (finds.none_before same)
      (λ none. some-not-none found.header_use (sym finds.is_header ∙ sym (ap use_of_block block) ∙ none)) in
      let before : length (headers_from now.image from) ≡ length (headers_from old.image from) =
      ap (λ (i : Image). length (headers_from i from)) counted.image in
      let behind : length (headers_from now.image (found.lbn + 1)) ≡ length (headers_from old.image to) =
      ap (λ (i : Image). length (headers_from i (found.lbn + 1))) counted.image
      ∙ ap (λ (p : ℕ). length (headers_from old.image p)) (sym finds.goes_on) in
      let one : length (headers_from now.image from) ≡ length (headers_from now.image (found.lbn + 1)) + 1 =
      ap (λ (l : List ℕ). length l) next ∙ omega arith in
      omega (arith, one, before, behind, counted.counts honest);
}

-- what is no header is the end
pub finds-none : (o : Option FoundHeader) (d : Disk) (from to : ℕ) → ((x : FoundHeader) → o ≢ Some x) → FindsNext o d from to
    → FindsNone d from to
finds-none (Some found) d from to other finds = absurd (other found refl)
finds-none None d from to other finds = finds

pub counted-all : (start : ℕ) (old now : Disk) (n from to : ℕ) → Counted start old now n from → FindsNone now from to → IsTrue old.honest
    → n ≡ length (headers_from old.image start)
counted-all start old now n from to counted ends honest =
    let same : IsTrue now.honest = counted.honest ∙ honest in
    let none : headers_from now.image from ≡ [] = from-none now.image from
    (λ lbn above below. ends.none same lbn above (omega (arith, below, ends.end))) in
    let left : length (headers_from old.image from) ≡ 0 =
    ap (λ (i : Image). length (headers_from i from)) (sym counted.image) ∙ ap (λ (l : List ℕ). length l) none in
    omega (arith, left, counted.counts honest)
