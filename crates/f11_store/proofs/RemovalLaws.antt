-- What Find answers after a name was removed.
use Rattle.std.proofs.Common.{◌≡◌, ◌≢◌, ℕ, ◌+◌, ◌<◌, ◌||◌, Bool, true, false, not, List, [], ◌∷◌, Some, None, Result, Ok, Err, length}
use Rattle.std.proofs.Common.{get_or, nat_lt, unwrap_or, if◌then◌else◌, refl, sym, ◌∙◌, ap, subst, inl, inr, ◌⊎◌, ◌==◌, arith}
use Rattle.std.specs.Prelude.{position}
use Rattle.std.specs.List.{list_any, position_or_len}
use Rattle.std.proofs.lemmas.Bool.{ltb-true, lt-ltb}
use Rattle.std.proofs.lemmas.Bool.Decides.{eqb_tells, nat_tests}
use Rattle.std.proofs.lemmas.List.Folds.{list_any_at}
use Rattle.std.proofs.lemmas.List.Sums.{fails_before_first, passes_at_first}
use Rattle.std.proofs.lemmas.List.FromFn.{get_or-map-range_with_len}
use Rattle.f11_store.specs.declared.callers.Uic.{Uic}
use Rattle.f11_store.specs.declared.files.FileId.{FileId}
use Rattle.f11_store.specs.declared.refusals.Refusal.{Refusal}
use Rattle.f11_store.specs.declared.refusals.Refusal.TheVariants.{BadArgument, SystemFile, NoSuchFile, Marked, NoPrivilege, NotDirectory}
use Rattle.f11_store.specs.declared.refusals.Refusal.TheVariants.{NoSuchEntry}
use Rattle.f11_store.specs.declared.protection.Right.TheVariants as right
use Rattle.f11_store.specs.declared.requests.Reply.{Reply}
use Rattle.f11_store.specs.declared.requests.Reply.TheVariants as reply
use Rattle.f11_store.specs.declared.requests.Request.TheVariants as request
use Rattle.f11_store.specs.File.{File, is_marked}
use Rattle.f11_store.specs.Store.{Store, file_named}
use Rattle.f11_store.specs.Directory.{is_directory, record_at, entry_count, entries_of, record_id, has_name, index_of_name, record_of}
use Rattle.f11_store.specs.Directory.{is_entered, empty_record}
use Rattle.f11_store.specs.Causes.{◌⇐◌, first_of, is_bad, is_missing, lacks, first_refusal}
use Rattle.f11_store.specs.Step.{Step}
use Rattle.f11_store.specs.Laws.{IsFoundElsewhere, RemovedThenFound}
use Rattle.f11_store.proofs.RecordLemmas.{first_found}
use Rattle.f11_store.proofs.DirectoryLaws.{found_causes, refused_otherwise, placed, length-entries_of, removed_is_empty}

-- where some element passes, the first one that does has a place
any_placed : (p : List ℕ → Bool) (xs : List (List ℕ)) → list_any p xs ≡ true → position_or_len p xs < length xs
any_placed p [] h = absurd (cc)
any_placed p (x ∷ xs) h = by_test (p x) h (λ k. any_placed p xs k)
  where
    by_test : (b : Bool) → (b || list_any p xs) ≡ true → (list_any p xs ≡ true → position_or_len p xs < length xs) →
        (if not b then 1 + position_or_len p xs else 0) < length (x ∷ xs)
    by_test true e rest = omega arith
    by_test false e rest = let k = rest e in omega arith

-- where none passes, there is no place
none_placed : (p : List ℕ → Bool) (xs : List (List ℕ)) → list_any p xs ≡ false → position p xs ≡ None
none_placed p xs h = by_test (nat_lt (position_or_len p xs) (length xs)) refl
  where
    by_test : (b : Bool) → nat_lt (position_or_len p xs) (length xs) ≡ b → (if b then Some (position_or_len p xs) else None) ≡ None
    by_test false e = refl
    by_test true e =
        let none = list_any_at p xs (position_or_len p xs) [] (ltb-true _ _ e) (passes_at_first p xs [] (ltb-true _ _ e)) in absurd (cc)

-- what a served Find tells: the name stands
entered_where_found :
    (a b c d e f i : Bool) →
    first_of ((BadArgument ⇐ a) ∷ (SystemFile ⇐ b) ∷ (NoSuchFile ⇐ c) ∷ (Marked ⇐ d) ∷ (NoPrivilege ⇐ e)
    ∷ (NotDirectory ⇐ f) ∷ (NoSuchEntry ⇐ not i) ∷ []) ≡ None → i ≡ true
entered_where_found a b c d e f true h = refl
entered_where_found true b c d e f false h = absurd (cc)
entered_where_found false true c d e f false h = absurd (cc)
entered_where_found false false true d e f false h = absurd (cc)
entered_where_found false false false true e f false h = absurd (cc)
entered_where_found false false false false true f false h = absurd (cc)
entered_where_found false false false false false true false h = absurd (cc)
entered_where_found false false false false false false false h = absurd (cc)

-- the place of the first that passes is the place before which none does
first_place : (p : List ℕ → Bool) (xs : List (List ℕ)) (i : ℕ) → position p xs ≡ Some i → position_or_len p xs ≡ i
first_place p xs i h = by_test (nat_lt (position_or_len p xs) (length xs)) h
  where
    by_test : (b : Bool) → (if b then Some (position_or_len p xs) else None) ≡ Some i → position_or_len p xs ≡ i
    by_test true e = cc
    by_test false e = absurd (cc)

-- a record among the entries
entry_at : (f : File) (j : ℕ) → j < entry_count f → get_or (entries_of f) j [] ≡ record_at f.blocks j
unfolding entries_of
entry_at f j h = get_or-map-range_with_len (record_at f.blocks) 0 (entry_count f) j j [] h (omega arith)

-- an empty record has no name
has_name-empty_record : (name : List ℕ) → has_name name empty_record ≡ false
unfolding has_name
has_name-empty_record name = refl

-- a record before the first with the name hasn't got it
earlier_lacks : (f : File) (name : List ℕ) (i j : ℕ) → index_of_name name f ≡ Some i → j < i → has_name name (record_at f.blocks j) ≡ false
earlier_lacks f name i j first before =
    ap (has_name name) (sym (entry_at f j within))
    ∙ fails_before_first (has_name name) (entries_of f) j [] (rw (first_place (has_name name) (entries_of f) i first) before)
  where
    inside : i < length (entries_of f)
    inside = placed (has_name name) (entries_of f) i first

    within : j < entry_count f
    within = omega (arith, inside, length-entries_of f, before)

-- the first record with the name, where one stands
pub record IsFirst (name : List ℕ) (f : File) (j : ℕ) : Type 0 where
  pub within : j < entry_count f
  pub has : has_name name (record_at f.blocks j) ≡ true
  pub place : index_of_name name f ≡ Some j
  pub found : record_of name f ≡ record_at f.blocks j

first_of_name : (f : File) (name : List ℕ) → is_entered name f ≡ true → IsFirst name f (position_or_len (has_name name) (entries_of f))
unfolding entries_of
first_of_name f name h = record {
  within = within;
  has = has;
  place = rw (lt-ltb _ _ inside) refl;
  found =
      ap (λ o. unwrap_or o [])
      (first_found (has_name name) (record_at f.blocks) 0 (entry_count f) j (omega arith) (omega (arith, within)) has
      (λ k low below. ap (has_name name) (sym (entry_at f k (omega (arith, below, within))))
      ∙ fails_before_first (has_name name) (entries_of f) k [] below));
}
  where
    j : ℕ
    j = position_or_len (has_name name) (entries_of f)

    inside : j < length (entries_of f)
    inside = any_placed (has_name name) (entries_of f) h

    within : j < entry_count f
    within = subst (λ (n : ℕ). j < n) (length-entries_of f) inside

    has : has_name name (record_at f.blocks j) ≡ true
    has = ap (has_name name) (sym (entry_at f j within)) ∙ passes_at_first (has_name name) (entries_of f) [] inside

-- a directory whose record i was emptied
pub record IsEmptied (f f' : File) (i : ℕ) : Type 0 where
  pub emptied : record_at f'.blocks i ≡ empty_record
  pub others : (j : ℕ) → j ≢ i → record_at f'.blocks j ≡ record_at f.blocks j

-- there the first record with the name stands behind the one that went
stands_behind :
    (f f' : File) (name : List ℕ) (i j : ℕ) → index_of_name name f ≡ Some i → IsEmptied f f' i → IsFirst name f' j → i < j
stands_behind f f' name i j first went now = by_order (eqb_tells j i) (nat_lt j i) refl
  where
    by_order : ((j == i) ≡ true) × (j ≡ i) ⊎ ((j == i) ≡ false) × (j ≢ i) → (b : Bool) → nat_lt j i ≡ b → i < j
    by_order (inl w) b e =
        let gone : has_name name (record_at f'.blocks j) ≡ false =
        ap (λ n. has_name name (record_at f'.blocks n)) w.1 ∙ ap (has_name name) went.emptied ∙ has_name-empty_record name in
        absurd (cc (gone, now.has))
    by_order (inr w) true e =
        let lacks : has_name name (record_at f'.blocks j) ≡ false =
        ap (has_name name) (went.others j w.1) ∙ earlier_lacks f name i j first (ltb-true _ _ e) in absurd (cc (lacks, now.has))
    by_order (inr w) false e = let differs : j ≢ i = w.1 in grind (arith, nat_tests)

-- what Find then answers
found_elsewhere :
    (s : Store) (f : File) (other : ℕ) (reader : Uic) (d : FileId) (name : List ℕ) (i : ℕ) (before : List ℕ) (result : Result Reply Refusal)
    (s' : Store) (after : List ℕ) →
    index_of_name name f ≡ Some i → IsEmptied f (file_named s d) i → Step s other reader (request.Find d name) before result s' after →
    IsFoundElsewhere i name (file_named s d) result
found_elsewhere s f other reader d name i before (Ok a) s' after first went k =
    let now : IsFirst name (file_named s d) (position_or_len (has_name name) (entries_of (file_named s d))) =
    first_of_name (file_named s d) name stands in
    (_, stands_behind f (file_named s d) name i _ first went now, now.place, k.reply_is ∙ ap (λ r. reply.Found (record_id r)) now.found)
  where
    stands : is_entered name (file_named s d) ≡ true
    stands =
        entered_where_found (is_bad d) (nat_lt d.number 4) (is_missing s d) (is_marked (file_named s d))
        (lacks right.Read reader (file_named s d))
        (not (is_directory (file_named s d))) (is_entered name (file_named s d)) k.no_cause
found_elsewhere s f other reader d name i before (Err e) s' after first went k =
    λ missing. by_test (is_entered name (file_named s d)) refl missing
  where
    by_test : (b : Bool) → is_entered name (file_named s d) ≡ b → e ≡ NoSuchEntry → index_of_name name (file_named s d) ≡ None
    by_test false h missing = none_placed (has_name name) (entries_of (file_named s d)) h
    by_test true h missing =
        absurd (refused_otherwise (first_refusal s other reader (request.Find d name)) e
        (λ x refused. found_causes (is_bad d) (nat_lt d.number 4) (is_missing s d) (is_marked (file_named s d))
        (lacks right.Read reader (file_named s d))
        (not (is_directory (file_named s d))) (is_entered name (file_named s d)) x h refused)
        k.may_refuse missing)

pub removed_then_found : RemovedThenFound
removed_then_found s task caller d name block a s' block' i other reader before result s'' after whole after_remove first found =
    let left = removed_is_empty s task caller d name block a s' block' i whole after_remove first in
    found_elsewhere s' (file_named s d) other reader d name i before result s'' after first (record { emptied = left.1; others = left.2 })
    found
