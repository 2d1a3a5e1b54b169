-- Accesses that are given up one after another.
use Rattle.std.proofs.Common.{◌≡◌, ℕ, zero, suc, ◌+◌, ◌≤◌, ◌==◌, Bool, true, false, List, [], ◌∷◌, ◌++◌, Option, Some, None, fold}
use Rattle.std.proofs.Common.{if◌then◌else◌, refl, sym, ◌∙◌, ap, arith, append_assoc}
use Rattle.std.specs.List.{range_with_len}
use Rattle.std.proofs.lemmas.Bool.{or_parts}
use Rattle.std.proofs.lemmas.List.Sums.{fold-append}
use Rattle.f11_store.specs.Store.{Store, Access}
use Rattle.f11_store.specs.Changes.{with_access, is_due, without_file_at, after_giving_up, after_deaccess}
use Rattle.f11_store.specs.Cost.{deaccess_cost, release_cost}
use Rattle.f11_store.specs.Lags.{Part, Work, no_work, go_work, and_then, give_up_work, deaccess_work, release_work, LagsBy}
use Rattle.f11_store.proofs.Frees.{Frees, frees_given_up}
use Rattle.f11_store.proofs.Growth.{alike}
use Rattle.f11_store.specs.Moments.{AreRespectful, Did}
use Rattle.f11_store.proofs.Respects.{both_respectful}
use Rattle.f11_store.specs.Release.{released, DeaccessDid, ReleasedDid, ReleaseLags, ReleaseGoesOn, released_cost}
use Rattle.f11_store.specs.Release.{ReleaseCostGoesOn, ReleaseFits}
use Rattle.f11_store.proofs.ProgressLaws.{frees_did, more_work_lags, lags_after, did_both, nothing_did}

-- what is given up
given_up_did : (s : Store) (task lun : ℕ) (o : Option Access) → Did (give_up_work s task lun o) (after_giving_up s task lun o) s
given_up_did s task lun None = nothing_did s
given_up_did s task lun (Some a) = by_test (is_due (with_access s task lun None) a.file) (frees_given_up s task lun (Some a))
  where
    by_test : (b : Bool) →
        Frees s (if b then go_work a.file.number else no_work).is_meant
        (if b then without_file_at (with_access s task lun None) a.file.number else with_access s task lun None) →
        Did (if b then go_work a.file.number else no_work)
        (if b then without_file_at (with_access s task lun None) a.file.number else with_access s task lun None) s
    by_test true frees =
        frees_did (go_work a.file.number) (without_file_at (with_access s task lun None) a.file.number) s
        (λ n. alike (if n == a.file.number then None else s.file n)) refl frees
    by_test false frees = frees_did no_work (with_access s task lun None) s (λ n. alike (s.file n)) refl frees

pub deaccess_did : DeaccessDid
deaccess_did s task lun = given_up_did s task lun (s.access task lun)

-- its parts do alike to files that are alike, and it takes no header
plain : (s : Store) (task lun : ℕ) (o : Option Access)
    → AreRespectful (give_up_work s task lun o).parts × ((give_up_work s task lun o).headers ≡ 0)
plain s task lun None = (tt, refl)
plain s task lun (Some a) = by_test (is_due (with_access s task lun None) a.file)
  where
    by_test : (b : Bool) → AreRespectful (if b then go_work a.file.number else no_work).parts
        × ((if b then go_work a.file.number else no_work).headers ≡ 0)
    by_test true = ((tt, tt), refl)
    by_test false = (tt, refl)

plain_deaccess : (s : Store) (task lun : ℕ) → AreRespectful (deaccess_work s task lun).parts × ((deaccess_work s task lun).headers ≡ 0)
plain_deaccess s task lun = plain s task lun (s.access task lun)

plain_release : (luns : List ℕ) (s : Store) (task : ℕ)
    → AreRespectful (release_work s task luns).parts × ((release_work s task luns).headers ≡ 0)
plain_release [] s task = (tt, refl)
plain_release (lun ∷ luns) s task = (
  both_respectful (deaccess_work s task lun).parts (release_work (after_deaccess s task lun) task luns).parts (plain_deaccess s task lun).0
      (plain_release luns (after_deaccess s task lun) task).0,
  omega (arith, (plain_deaccess s task lun).1, (plain_release luns (after_deaccess s task lun) task).1),
)

pub released_did : ReleasedDid
released_did s task [] = nothing_did s
released_did s task (lun ∷ luns) =
    did_both (deaccess_work s task lun) (release_work (after_deaccess s task lun) task luns)
    (fold (λ t l. after_deaccess t task l) (after_deaccess s task lun) luns) (after_deaccess s task lun) s
    (deaccess_did s task lun) (plain_release luns (after_deaccess s task lun) task).1
    (plain_release luns (after_deaccess s task lun) task).0
    (released_did (after_deaccess s task lun) task luns)

-- one work is the first of another
record IsFirst (w v : Work) : Type 0 where
  rest : List Part
  parts : v.parts ≡ w.parts ++ rest
  meant : (n : ℕ) → v.is_meant n ≡ false → w.is_meant n ≡ false
  blocks : w.blocks ≤ v.blocks
  headers : w.headers ≤ v.headers

-- and so it is where some work goes before both
first_more : (this more last v : Work) → IsFirst (and_then more last) v → IsFirst (and_then (and_then this more) last) (and_then this v)
first_more this more last v next = record {
  rest = next.rest;
  parts = ap (λ ps. this.parts ++ ps) next.parts
      ∙ sym (append_assoc this.parts (more.parts ++ last.parts) next.rest)
      ∙ ap (λ ps. ps ++ next.rest) (sym (append_assoc this.parts more.parts last.parts));
  meant = λ n out.
      let two = or_parts (this.is_meant n) (v.is_meant n) out in
      let behind = or_parts (more.is_meant n) (last.is_meant n) (next.meant n two.1) in
      rw (two.0, behind.0, behind.1) refl;
  blocks = omega (arith, next.blocks);
  headers = omega (arith, next.headers);
}

-- the luns before one, and that one
first_luns :
    (before : List ℕ) (s : Store) (task lun : ℕ) (rest : List ℕ) →
    IsFirst (and_then (release_work s task before) (deaccess_work (fold (λ t l. after_deaccess t task l) s before) task lun))
    (release_work s task (before ++ lun ∷ rest))
first_luns [] s task lun rest = record {
  rest = (release_work (after_deaccess s task lun) task rest).parts;
  parts = refl;
  meant = λ n out. (or_parts ((deaccess_work s task lun).is_meant n) ((release_work (after_deaccess s task lun) task rest).is_meant n)
      out).0;
  blocks = omega arith;
  headers = omega arith;
}
first_luns (l ∷ ls) s task lun rest =
    first_more (deaccess_work s task l) (release_work (after_deaccess s task l) task ls)
    (deaccess_work (fold (λ t x. after_deaccess t task x) (after_deaccess s task l) ls) task lun)
    (release_work (after_deaccess s task l) task (ls ++ lun ∷ rest)) (first_luns ls (after_deaccess s task l) task lun rest)

-- what lags the store so far by one more
pub lun_lags :
    (before : List ℕ) (t s : Store) (task lun : ℕ) (rest : List ℕ) →
    LagsBy (deaccess_work (fold (λ u l. after_deaccess u task l) s before) task lun) t (fold (λ u l. after_deaccess u task l) s before) →
    LagsBy (release_work s task (before ++ lun ∷ rest)) t s
lun_lags before t s task lun rest lags =
    more_work_lags t s (and_then (release_work s task before) (deaccess_work u task lun)) (release_work s task (before ++ lun ∷ rest))
    first.rest first.parts first.meant first.blocks first.headers
    (lags_after (release_work s task before) (deaccess_work u task lun) t u s (released_did s task before) (plain_deaccess u task lun).1
    (plain_deaccess u task lun).0 lags)
  where
    u : Store
    u = fold (λ x l. after_deaccess x task l) s before

    first : IsFirst (and_then (release_work s task before) (deaccess_work u task lun)) (release_work s task (before ++ lun ∷ rest))
    first = first_luns before s task lun rest

pub release_lags : ReleaseLags
release_lags t s task caller block zero few lags = lun_lags [] t s task 0 (1 ∷ 2 ∷ 3 ∷ []) lags
release_lags t s task caller block (suc zero) few lags = lun_lags (0 ∷ []) t s task 1 (2 ∷ 3 ∷ []) lags
release_lags t s task caller block (suc (suc zero)) few lags = lun_lags (0 ∷ 1 ∷ []) t s task 2 (3 ∷ []) lags
release_lags t s task caller block (suc (suc (suc zero))) few lags = lun_lags (0 ∷ 1 ∷ 2 ∷ []) t s task 3 [] lags
release_lags t s task caller block (suc (suc (suc (suc k)))) few lags = absurd (omega (arith, few))

-- numbers and one more
one_more : (a k : ℕ) → range_with_len a (k + 1) ≡ range_with_len a k ++ (a + k) ∷ []
one_more a zero = ap (λ n. n ∷ []) (let e : a ≡ a + 0 = omega arith in e)
one_more a (suc k) =
    let e : suc k + 1 ≡ suc (k + 1) = omega arith in
    let next : a + 1 + k ≡ a + suc k = omega arith in
    ap (range_with_len a) e ∙ ap (λ ns. a ∷ ns) (one_more (a + 1) k ∙ ap (λ n. range_with_len (a + 1) k ++ n ∷ []) next)

pub release_goes_on : ReleaseGoesOn
release_goes_on s task k =
    let e : 0 + k ≡ k = omega arith in
    ap (fold (λ t lun. after_deaccess t task lun) s) (one_more 0 k ∙ ap (λ n. range_with_len 0 k ++ n ∷ []) e)
    ∙ fold-append (λ t lun. after_deaccess t task lun) s (range_with_len 0 k) (k ∷ [])

-- costs add up
cost_more : (before luns : List ℕ) (s : Store) (task : ℕ) →
    release_cost s task (before ++ luns) ≡ release_cost s task before + release_cost (fold (λ t l. after_deaccess t task l) s before) task
    luns
cost_more [] luns s task = let e : release_cost s task luns ≡ 0 + release_cost s task luns = omega arith in e
cost_more (l ∷ ls) luns s task = omega (arith, cost_more ls luns (after_deaccess s task l) task)

pub release_cost_goes_on : ReleaseCostGoesOn
release_cost_goes_on s task k =
    let e : 0 + k ≡ k = omega arith in
    ap (release_cost s task) (one_more 0 k ∙ ap (λ n. range_with_len 0 k ++ n ∷ []) e)
    ∙ cost_more (range_with_len 0 k) (k ∷ []) s task
    ∙ (let z : deaccess_cost (released s task k) task k + 0 ≡ deaccess_cost (released s task k) task k = omega arith in
    ap (λ n. released_cost s task k + n) z)

pub release_fits : ReleaseFits
release_fits s task zero few = omega arith
release_fits s task (suc zero) few = omega (arith, cost_more (0 ∷ []) (1 ∷ 2 ∷ 3 ∷ []) s task)
release_fits s task (suc (suc zero)) few = omega (arith, cost_more (0 ∷ 1 ∷ []) (2 ∷ 3 ∷ []) s task)
release_fits s task (suc (suc (suc zero))) few = omega (arith, cost_more (0 ∷ 1 ∷ 2 ∷ []) (3 ∷ []) s task)
release_fits s task (suc (suc (suc (suc zero)))) few = omega arith
release_fits s task (suc (suc (suc (suc (suc k))))) few = absurd (omega (arith, few))
