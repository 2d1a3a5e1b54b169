-- The pointers of a header, one after another.
use Rattle.std.proofs.Common.{◌≡◌, ◌≤◌, ◌<◌, ◌+◌, ◌⊎◌, inl, inr, ℕ, refl, ap, sym, ◌∙◌, subst, arith, true, List, [], ◌∷◌, ◌++◌, Some}
use Rattle.std.proofs.Common.{length, take, get_or, ltb}
use Rattle.std.specs.List.{slice_get, range_with_len}
use Rattle.std.proofs.lemmas.Bool.{cases_lt, ltb-true, lt-ltb}
use Rattle.std.proofs.lemmas.List.{take_more, take_all}
use Rattle.std.proofs.lemmas.Option.{slice_get_within, get_or_from_slice_get, same_Some}
use Rattle.f11_findings.specs.Finding.{finding, AddsFindings, if_so}
use Rattle.f11_findings.specs.declared.finding.Finding.{Finding}
use Rattle.f11_header.specs.Fields.{map_area}
use Rattle.f11_map.specs.MapArea.{runs_of, blocks_in}
use Rattle.f11_map.proofs.MapLemmas.{blocks_in-append}
use Rattle.f11_map.specs.HeaderBlock.{blocks_named}
use Rattle.f11_vfy.specs.Surveying.Count.{times_among, within, Shows}
use Rattle.f11_findings.specs.Found.{Finds}
use Rattle.f11_vfy.specs.Surveying.Headers.{IsOutside, OutsideOf}
use Rattle.f11_vfy.specs.declared.survey.tally.Tally.{Tally}
use Rattle.f11_findings.proofs.FoundLemmas.{finds-none, finds-more, finds-same, finds-if}
use Rattle.f11_vfy.proofs.Surveying.Tally.{shows_same}
use Rattle.f11_vfy.proofs.Surveying.Times.{times-nil, times-append, times-range}

-- the blocks that one pointer more names
times-more : (runs : List (ℕ × ℕ)) (i : ℕ) (run : ℕ × ℕ) → slice_get runs i ≡ Some run → (l : ℕ)
    → times_among (blocks_in (take (i + 1) runs)) l ≡ times_among (blocks_in (take i runs)) l + within run.0 (run.0 + run.1) l
times-more runs i run at l =
    let inside : i < length runs = slice_get_within runs i run at in
    let last : get_or runs i run ≡ run = get_or_from_slice_get runs i run run at in
    let more : blocks_in (take (i + 1) runs) ≡ blocks_in (take i runs) ++ (range_with_len run.0 run.1 ++ []) =
    ap blocks_in (take_more runs i run inside ∙ ap (λ (r : ℕ × ℕ). take i runs ++ r ∷ []) last)
    ∙ blocks_in-append (take i runs) (run ∷ []) in
    omega (
      arith,
      ap (λ (bs : List ℕ). times_among bs l) more,
      times-append (blocks_in (take i runs)) (range_with_len run.0 run.1 ++ []) l,
      times-append (range_with_len run.0 run.1) [] l,
      times-nil l,
      times-range run.0 run.1 l,
    )

pub named-none : (runs : List (ℕ × ℕ)) (t : Tally) (c : ℕ → ℕ) → Shows t c → Shows t (λ l. c l + times_among (blocks_in (take 0 runs)) l)
named-none runs t c shows = shows_same t c _ (λ l. omega (arith, times-nil l)) shows

pub named-more : (runs : List (ℕ × ℕ)) (i : ℕ) (run : ℕ × ℕ) (t : Tally) (c : ℕ → ℕ) → slice_get runs i ≡ Some run
    → Shows t (λ l. c l + times_among (blocks_in (take i runs)) l + within run.0 (run.0 + run.1) l)
    → Shows t (λ l. c l + times_among (blocks_in (take (i + 1) runs)) l)
named-more runs i run t c at shows = shows_same t _ _ (λ l. omega (arith, times-more runs i run at l)) shows

pub named-all : (b : List ℕ) (n : ℕ) (t : Tally) (c : ℕ → ℕ) → length (runs_of (map_area b)) ≤ n
    → Shows t (λ l. c l + times_among (blocks_in (take n (runs_of (map_area b)))) l) → Shows t (λ l. c l + times_among (blocks_named b) l)
unfolding blocks_named
named-all b n t c all shows =
    shows_same t _ _ (λ l. ap (λ (rs : List (ℕ × ℕ)). c l + times_among (blocks_in rs) l) (take_all n (runs_of (map_area b)) all)) shows

-- the pointers so far that leave a volume
pub outside-none : (b : List ℕ) (n size : ℕ) (old : List Finding) → Finds (λ code a i. OutsideOf b n size code a i × (i < 0)) old old
outside-none b n size old = finds-none _ old (λ code a i r. omega (arith, r.1))

pub outside-more : (b : List ℕ) (n size k : ℕ) (run : ℕ × ℕ) (old now new : List Finding) → slice_get (runs_of (map_area b)) k ≡ Some run
    → Finds (λ code a i. OutsideOf b n size code a i × (i < k)) old now
    → AddsFindings now new (if_so (ltb size (run.0 + run.1)) (finding 8 n k))
    → Finds (λ code a i. OutsideOf b n size code a i × (i < k + 1)) old new
outside-more b n size k run old now new at finds adds =
    finds-more (λ code a i. OutsideOf b n size code a i × (i < k)) (λ code a i. OutsideOf b n size code a i × (i ≡ k))
    (λ code a i. OutsideOf b n size code a i × (i < k + 1)) old now new finds
    (finds-if (λ code a i. OutsideOf b n size code a i × (i ≡ k)) (ltb size (run.0 + run.1)) (finding 8 n k) now new adds
    (λ holds. ((refl, (refl, record { run = run; pointer = at; outside = ltb-true size (run.0 + run.1) holds })), refl))
    (λ code a i r. (test r.0.1.1 r.1, one code a i r.0.0 r.0.1.0 r.1)))
    (λ code a i r. (r.0, omega (arith, r.1)))
    (λ code a i r. (r.0, omega (arith, r.1)))
    (λ code a i r. go code a i r (cases_lt i k))
  where
    go : (code a i : ℕ) → OutsideOf b n size code a i × (i < k + 1) → (i < k) ⊎ (k ≤ i)
        → (OutsideOf b n size code a i × (i < k)) ⊎ (OutsideOf b n size code a i × (i ≡ k))
    go code a i r (inl h) = inl (r.0, h)
    go code a i r (inr h) = inr (r.0, omega (arith, r.1))

    one : (code a i : ℕ) → code ≡ 8 → a ≡ n → i ≡ k → finding code a i ≡ finding 8 n k
    one code a i c e f = ap (λ z. finding z a i) c ∙ ap (λ z. finding 8 z i) e ∙ ap (finding 8 n) f

    test : {i : ℕ} → IsOutside b size i → i ≡ k → ltb size (run.0 + run.1) ≡ true
    test {i} r e =
        let same : r.run ≡ run = same_Some r.run run (sym r.pointer ∙ ap (slice_get (runs_of (map_area b))) e ∙ at) in
        lt-ltb size (run.0 + run.1) (subst (λ (q : ℕ × ℕ). size < q.0 + q.1) same r.outside)

pub outside-all : (b : List ℕ) (n size k : ℕ) (old new : List Finding) → length (runs_of (map_area b)) ≤ k
    → Finds (λ code a i. OutsideOf b n size code a i × (i < k)) old new → Finds (OutsideOf b n size) old new
outside-all b n size k old new all finds =
    finds-same (λ code a i. OutsideOf b n size code a i × (i < k)) (OutsideOf b n size) old new finds (λ code a i r. r.0)
    (λ code a i r. (r, omega (arith, all, slice_get_within (runs_of (map_area b)) i r.1.1.run r.1.1.pointer)))
