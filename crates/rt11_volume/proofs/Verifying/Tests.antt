-- What the verifier's tests of segments in hand tell of the image.
use Rattle.std.proofs.Common.{◌≡◌, ◌↔◌, ℕ, ◌+◌, ◌<◌, ◌≤◌, ◌==◌, Bool, true, false, not, nat_lt, IsTrue, List}
use Rattle.std.proofs.Common.{length, take, Some, refl, sym, ◌∙◌, ap, subst, arith}
use Rattle.std.specs.List.{list_any}
use Rattle.std.proofs.lemmas.Bool.{ltb-true, lt-ltb, eqb-true, eq-eqb, not-true, not_from_false, false_from_ne_true}
use Rattle.std.proofs.lemmas.Bool.{both_ways}
use Rattle.std.proofs.lemmas.Option.{slice_get_within, get_or_from_slice_get}
use Rattle.f11_dev.specs.Image.{Image}
use Rattle.f11_findings.specs.Found.{Finds, FoundOfEach}
use Rattle.f11_findings.specs.declared.finding.Finding.{Finding}
use Rattle.rt11_volume.specs.Directory.{visited, next_of, segment_of, is_extra_wrong}
use Rattle.rt11_volume.specs.InHand.{visits, visit_of}
use Rattle.rt11_volume.specs.Segment.{segment_words, segment_with, extra_bytes, entries, highest_segment}
use Rattle.rt11_volume.specs.Verifying.Faults.{LinksBack, IsWrong, IsHighestBelow}
use Rattle.rt11_volume.specs.Verifying.Scans.{number_at, EntryFaults}
use Rattle.rt11_volume.specs.declared.directory.Visited.{Visited}
use Rattle.rt11_volume.proofs.Walking.Places.{AnyVisited, any-visited, any-of-all, as-many}

-- a test that is another, the opposite of one, and one of two numbers
pub same-tells : {b t : Bool} → b ≡ t → IsTrue b ↔ (t ≡ true)
same-tells same = (λ yes. sym same ∙ yes, λ yes. same ∙ yes)

pub fails-tells : {b t : Bool} → b ≡ t → IsTrue (not b) ↔ (t ≡ false)
fails-tells {b = b} same = (λ fails. sym same ∙ not-true b fails, λ fails. not_from_false b (same ∙ fails))

pub not-tells : {b : Bool} {P : Type 0} → IsTrue b ↔ P → IsTrue (not b) ↔ ¬ P
not-tells {b = b} tells = (
  λ fails p. both_ways b (not-true b fails) (tells.1 p),
  λ none. not_from_false b (false_from_ne_true b (λ yes. none (tells.0 yes))),
)

pub less-tells : {a b c d : ℕ} → a ≡ c → b ≡ d → IsTrue (nat_lt a b) ↔ (c < d)
less-tells {a = a} {b = b} one two = (λ yes. omega (arith, ltb-true a b yes), λ less. lt-ltb a b (omega arith))

-- a segment links back
pub back-tells : (image : Image) (vs : List Visited) (j k next : ℕ) (b : Bool) → vs ≡ visits image → next ≡ next_of image k
    → b ≡ list_any (λ (v : Visited). v.number == next) (take (j + 1) vs)
    → IsTrue b ↔ LinksBack image j k
back-tells image vs j k next b is same test =
    let any = any-visited image vs (j + 1) (λ (n : ℕ). n == next) is in (
      λ yes.
          let a : AnyVisited image (j + 1) (λ n. n == next) = any.0 (sym test ∙ yes) in
          record {
            earlier = a.place;
            order = omega (arith, a.before);
            visited_at = a.visited_at ∙ ap Some (eqb-true a.number next a.passes ∙ same);
          },
      λ (back : LinksBack image j k). test ∙ any.1 (record {
        place = back.earlier;
        number = next;
        before = omega (arith, back.order);
        visited_at = back.visited_at ∙ ap Some (sym same);
        passes = eq-eqb next next refl;
      }),
    )

-- what is found of the entries of a segment in hand
pub entries-found : (image : Image) (blocks k : ℕ) (v : Visited) (old new : List Finding) → v ≡ visit_of image k → blocks ≡ length image
    → Finds (FoundOfEach (EntryFaults blocks (segment_with v.number v.segment))
    (length (entries (extra_bytes v.segment) v.segment))) old new
    → Finds (FoundOfEach (EntryFaults (length image) (segment_of image k)) (length (segment_of image k).entries)) old new
entries-found image blocks k v old new is size finds =
    subst (λ n. Finds (FoundOfEach (EntryFaults n (segment_of image k)) (length (segment_of image k).entries)) old new) size
    (subst (λ (w : Visited). Finds (FoundOfEach (EntryFaults blocks (segment_with w.number w.segment))
    (length (entries (extra_bytes w.segment) w.segment))) old new) is finds)

-- no segment that was visited has wrong extra bytes
pub none-wrong : (image : Image) (n : ℕ) → length (visited image) ≤ n → ((k : ℕ) → k < n → is_extra_wrong image (number_at image k) ≡ false)
    → (k : ℕ) → ¬ IsWrong image k
none-wrong image n all none k wrong =
    let inside : wrong.place < length (visited image) = slice_get_within (visited image) wrong.place k wrong.visited_at in
    let same : number_at image wrong.place ≡ k = get_or_from_slice_get (visited image) wrong.place k 0 wrong.visited_at in
    both_ways (is_extra_wrong image k) (ap (is_extra_wrong image) (sym same) ∙ none wrong.place (omega (arith, inside, all))) wrong.wrong

pub none-told : (image : Image) (b : Bool) → IsTrue b ↔ ((k : ℕ) × IsWrong image k) → b ≡ false → (k : ℕ) → ¬ IsWrong image k
none-told image b tells fails k wrong = both_ways b fails (tells.1 (k, wrong))

-- a visited segment is above the highest one in use
pub above-tells : (image : Image) (vs : List Visited) (h : ℕ) → vs ≡ visits image → h ≡ highest_segment (segment_words image 1)
    → IsTrue (list_any (λ (v : Visited). nat_lt h v.number) vs) ↔ IsHighestBelow image
above-tells image vs h is same =
    let any = any-of-all image vs (nat_lt h) is in (
      λ yes.
          let a : AnyVisited image (length vs) (nat_lt h) = any.0 yes in
          record { place = a.place; segment = a.number; visited_at = a.visited_at; below = omega (arith, ltb-true h a.number a.passes) },
      λ (below : IsHighestBelow image).
          let within = slice_get_within (visited image) below.place below.segment below.visited_at in
          any.1 (record {
            place = below.place;
            number = below.segment;
            before = omega (arith, within, as-many image vs is);
            visited_at = below.visited_at;
            passes = lt-ltb h below.segment (omega (arith, below.below));
          }),
    )
