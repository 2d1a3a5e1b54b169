-- The first record of a block that passes a test.
use Rattle.std.proofs.Common.{◌≡◌, ℕ, ◌<◌, Bool, true, false, List, [], Some, None, length, get_or, nat_lt, if◌then◌else◌, refl, ◌∙◌, ap}
use Rattle.std.proofs.Common.{arith, map}
use Rattle.std.specs.Prelude.{position}
use Rattle.std.specs.List.{range_with_len, position_or_len}
use Rattle.std.proofs.lemmas.Bool.{lt-ltb}
use Rattle.std.proofs.lemmas.Bool.Decides.{nat_tests}
use Rattle.std.proofs.lemmas.List.Sums.{position_or_len_is}
use Rattle.std.proofs.lemmas.List.FromFn.{length-map-range_with_len, get_or-map-range_with_len}
use Rattle.f11_store.specs.Directory.{record_in}
use Rattle.f11_dir.specs.Records.{records_in}

-- a place within the list, and none
placed : (xs : List (List ℕ)) (p : List ℕ → Bool) (i : ℕ) → position_or_len p xs ≡ i → i < length xs → position p xs ≡ Some i
placed xs p i is within = let inside = lt-ltb i (length xs) within in rw (is, inside) refl

unplaced : (xs : List (List ℕ)) (p : List ℕ → Bool) → position_or_len p xs ≡ length xs → position p xs ≡ None
unplaced xs p is = rw is (by_test (nat_lt (length xs) (length xs)) refl)
  where
    by_test : (b : Bool) → nat_lt (length xs) (length xs) ≡ b → (if b then Some (length xs) else None) ≡ None
    by_test false e = refl
    by_test true e = absurd (grind (arith, nat_tests))

-- the first of the first n records that passes
pub position-records_in :
    (block : List ℕ) (n i : ℕ) (p : List ℕ → Bool) → i < n → p (record_in block i) ≡ true →
    ((k : ℕ) → k < i → p (record_in block k) ≡ false) → position p (records_in block n) ≡ Some i
unfolding records_in
position-records_in block n i p within passes fails = placed records p i is (omega (arith, long, within))
  where
    records : List (List ℕ)
    records = map (record_in block) (range_with_len 0 n)

    long : length records ≡ n
    long = length-map-range_with_len (record_in block) 0 n

    at : (k : ℕ) → k < n → get_or records k [] ≡ record_in block k
    at k h = get_or-map-range_with_len (record_in block) 0 n k k [] h (omega arith)

    is : position_or_len p records ≡ i
    is = position_or_len_is p records i [] (omega (arith, long, within))
        (λ k h. ap p (at k (omega (arith, h, within))) ∙ fails k h)
        (λ h. ap p (at i within) ∙ passes)

-- none of the first n records passes
pub none-records_in :
    (block : List ℕ) (n : ℕ) (p : List ℕ → Bool) → ((k : ℕ) → k < n → p (record_in block k) ≡ false)
    → position p (records_in block n) ≡ None
unfolding records_in
none-records_in block n p fails = unplaced records p is
  where
    records : List (List ℕ)
    records = map (record_in block) (range_with_len 0 n)

    long : length records ≡ n
    long = length-map-range_with_len (record_in block) 0 n

    is : position_or_len p records ≡ length records
    is = position_or_len_is p records (length records) [] (omega arith)
        (λ k h. ap p (get_or-map-range_with_len (record_in block) 0 n k k [] (omega (arith, h, long)) (omega arith))
        ∙ fails k (omega (arith, h, long)))
        (λ h. absurd (omega (arith, h)))
