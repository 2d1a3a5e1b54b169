-- The records of blocks, one after another.
use Rattle.std.proofs.Common.{◌≡◌, ◌+◌, ◌*◌, ◌/◌, ◌%◌, ◌<◌, ◌++◌, ℕ, zero, suc, List, [], ◌∷◌, length, map, take, refl, sym, ap, ◌∙◌}
use Rattle.std.proofs.Common.{inl, inr, arith}
use Rattle.std.proofs.lemmas.Bool.{cases_lt}
use Rattle.std.proofs.lemmas.List.{map-append, take_all}
use Rattle.std.proofs.lemmas.List.Concat.{flat_map-cons}
use Rattle.std.proofs.lemmas.List.FromFn.{length-map-range_with_len, take-map-range_with_len}
use Rattle.std.specs.List.{range_with_len}
use Rattle.f11_dir.specs.Records.{records_in}
use Rattle.f11_store.proofs.RangeLemmas.{range_with_len-append}
use Rattle.f11_store.specs.Directory.{entries_of, entry_count, record_at, record_in}
use Rattle.f11_store.specs.File.{File, stated_end}
use Rattle.f11_catalog.specs.Records.{all_records}

-- two functions along two runs
map-along : {X : Type 0} (f g : ℕ → X) (a b n : ℕ) → ((i : ℕ) → i < n → f (a + i) ≡ g (b + i))
    → map f (range_with_len a n) ≡ map g (range_with_len b n)
map-along f g a b zero same = refl
map-along f g a b (suc n) same =
    let first : f a ≡ g b = ap f (omega arith) ∙ same 0 (omega arith) ∙ ap g (omega arith) in
    let rest : (i : ℕ) → i < n → f (a + 1 + i) ≡ g (b + 1 + i) =
    λ i low. ap f (omega arith) ∙ same (i + 1) (omega (arith, low)) ∙ ap g (omega arith) in
    ap (λ x. x ∷ map f (range_with_len (a + 1) n)) first ∙ ap (λ xs. g b ∷ xs) (map-along f g (a + 1) (b + 1) n rest)

-- those of the first block
at-first : (block : List ℕ) (blocks : List (List ℕ)) (i : ℕ) → i < 32 → record_at (block ∷ blocks) i ≡ record_in block i
unfolding record_at
at-first block blocks i low =
    let here : i / 32 ≡ 0 = omega (arith, low) in
    let place : i % 32 ≡ i = omega (arith, low) in
    rw (here, place) refl

-- and of those behind it
at-later : (block : List ℕ) (blocks : List (List ℕ)) (i : ℕ) → record_at (block ∷ blocks) (32 + i) ≡ record_at blocks i
unfolding record_at
at-later block blocks i =
    let there : (32 + i) / 32 ≡ suc (i / 32) = omega arith in
    let place : (32 + i) % 32 ≡ i % 32 = omega arith in
    rw (there, place) refl

-- all of them in order
pub all-are : (blocks : List (List ℕ)) → all_records blocks ≡ map (record_at blocks) (range_with_len 0 (32 * length blocks))
unfolding records_in
all-are [] = refl
all-are (block ∷ blocks) =
    flat_map-cons (λ b. records_in b 32) block blocks
    ∙ ap (λ xs. records_in block 32 ++ xs) (all-are blocks)
    ∙ ap (λ xs. xs ++ map (record_at blocks) (range_with_len 0 (32 * length blocks)))
    (sym (map-along (record_at (block ∷ blocks)) (record_in block) 0 0 32
    (λ i low. ap (record_at (block ∷ blocks)) (omega arith) ∙ at-first block blocks i low ∙ ap (record_in block) (omega arith))))
    ∙ ap (λ xs. map (record_at (block ∷ blocks)) (range_with_len 0 32) ++ xs)
    (sym (map-along (record_at (block ∷ blocks)) (record_at blocks) 32 0 (32 * length blocks)
    (λ i low. at-later block blocks i ∙ ap (record_at blocks) (omega arith))))
    ∙ sym (map-append (record_at (block ∷ blocks)) (range_with_len 0 32) (range_with_len 32 (32 * length blocks)))
    ∙ ap (map (record_at (block ∷ blocks))) (sym (range_with_len-append 0 32 (32 * length blocks)))
    ∙ ap (λ n. map (record_at (block ∷ blocks)) (range_with_len 0 n)) (omega arith)

-- a directory's are the first of them, up to its stated end
pub entries-are : (f : File) → take (stated_end f.attr / 16) (all_records f.blocks) ≡ entries_of f
unfolding entries_of
entries-are f =
    let all = all-are f.blocks in
    let long = 32 * length f.blocks in
    elim (cases_lt long (stated_end f.attr / 16)) [
      | inl past ↦
          let count : long ≡ entry_count f = omega (arith, past) in
          ap (take (stated_end f.attr / 16)) all
          ∙ take_all (stated_end f.attr / 16) (map (record_at f.blocks) (range_with_len 0 long))
          (let n = length-map-range_with_len (record_at f.blocks) 0 long in omega (arith, n, past))
          ∙ ap (λ n. map (record_at f.blocks) (range_with_len 0 n)) count
      | inr within ↦
          let count : stated_end f.attr / 16 ≡ entry_count f = omega (arith, within) in
          ap (take (stated_end f.attr / 16)) all
          ∙ take-map-range_with_len (record_at f.blocks) 0 long (stated_end f.attr / 16) within
          ∙ ap (λ n. map (record_at f.blocks) (range_with_len 0 n)) count
    ]
