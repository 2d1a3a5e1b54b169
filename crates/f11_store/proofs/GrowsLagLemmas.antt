-- What stands while a file of the plain store grows piece by piece, whether its blocks are slots or not, lags the store before.
use Rattle.std.proofs.Common.{◌≡◌, ℕ, ◌+◌, ◌≤◌, ◌==◌, Bool, true, false, refl, sym, subst, arith}
use Rattle.std.proofs.lemmas.Bool.{eqb-true}
use Rattle.f11_store.specs.Changes.{with_change}
use Rattle.f11_store.specs.File.{need}
use Rattle.f11_store.specs.Lags.{with_no_mark, LagsBy}
use Rattle.f11_store.specs.Store.{Store}
use Rattle.f11_store.specs.Pieces.{file_numbered, grow_work_if, piece_work, ClearedLags, GrownLags, GrowsIf, TakenLags, TakesSome}
use Rattle.f11_store.proofs.GrowsLemmas.{as-adds}
use Rattle.f11_store.proofs.IndexPieceLagLemmas.{cleared-grow-lags, taken-index-lags}
use Rattle.f11_store.proofs.PieceLagLemmas.{cleared-lags, taken-lags, takes-none}

taken-if :
    (slots : Bool) (s t u : Store) (k n most a b p q : ℕ) → (k == 1) ≡ slots → GrowsIf slots s k a p t → a + b ≤ n → p + q ≤ most →
    TakesSome b (need (file_numbered t k).room q) t u → LagsBy (piece_work slots k (file_numbered s k).room n most) u s
taken-if true s t u k n most a b p q is one few fewer takes =
    subst (λ (j : ℕ). GrowsIf true s j a p t → TakesSome b (need (file_numbered t j).room q) t u
    → LagsBy (piece_work true j (file_numbered s j).room n most) u s) (sym (eqb-true k 1 is))
    (λ g w. taken-index-lags s t u n most a p b q g few fewer w) one takes
taken-if false s t u k n most a b p q is one few fewer takes = taken-lags s t u k n most a p b q (as-adds s t k a p one) few fewer takes

pub growth-taken-lags : TakenLags
growth-taken-lags s t u k n most a b p q one few fewer takes = taken-if (k == 1) s t u k n most a b p q refl one few fewer takes

pub growth-lags : GrownLags
growth-lags s t k n most a p one few fewer =
    growth-taken-lags s t t k n most a 0 p 0 one (omega (arith, few)) (omega (arith, fewer))
    (takes-none t (need (file_numbered t k).room 0))

cleared-if : (slots : Bool) (s t : Store) (k room n : ℕ) → (k == 1) ≡ slots
    → LagsBy (piece_work slots k room n n) t (with_change s k with_no_mark) → LagsBy (grow_work_if slots k room n) t s
cleared-if true s t k room n is lags =
    subst (λ (j : ℕ). LagsBy (piece_work true j room n n) t (with_change s j with_no_mark) → LagsBy (grow_work_if true j room n) t s)
    (sym (eqb-true k 1 is)) (cleared-grow-lags s t room n) lags
cleared-if false s t k room n is lags = cleared-lags s t k room n lags

pub growth-cleared-lags : ClearedLags
growth-cleared-lags s t k room n lags = cleared-if (k == 1) s t k room n refl lags
