-- The blocks that a header names, put into a set.
use Rattle.std.proofs.Common.{◌≡◌, ◌≤◌, ◌<◌, ◌+◌, inl, inr, ℕ, sym, subst, arith, List, ◌++◌, Some, length, take}
use Rattle.std.specs.Prelude.{Contains}
use Rattle.std.specs.List.{slice_get, range_with_len}
use Rattle.std.proofs.lemmas.List.{take_all}
use Rattle.f11_header.specs.Fields.{map_area}
use Rattle.f11_map.specs.HeaderBlock.{blocks_named}
use Rattle.f11_map.specs.MapArea.{runs_of, blocks_in}
use Rattle.f11_index.proofs.BlockLemmas.{blocks_in-more}
use Rattle.f11_vfy.specs.Frames.Earlier.{Puts}
use Rattle.f11_vfy.specs.declared.survey.bits.Bits.{Bits}
use Rattle.f11_vfy.proofs.Frames.Earlier.{puts-none, puts-then}
use Rattle.f11_volume.proofs.MemberLemmas.{in-front, in-back, in-either, in-range, range-has}

-- the blocks of the pointers so far
pub blocks-none : (runs : List (ℕ × ℕ)) (b : Bits) → Puts (Contains (blocks_in (take 0 runs))) b b
blocks-none runs b = puts-none (Contains (blocks_in (take 0 runs))) b (λ k has. omega (arith, has.1))

pub blocks-more : (runs : List (ℕ × ℕ)) (i : ℕ) (run : ℕ × ℕ) (a b c : Bits) → slice_get runs i ≡ Some run
    → Puts (Contains (blocks_in (take i runs))) a b
    → Puts (λ k. (run.0 ≤ k) × (k < run.0 + run.1)) b c → Puts (Contains (blocks_in (take (i + 1) runs))) a c
blocks-more runs i run a b c at one two =
    let before : List ℕ = blocks_in (take i runs) in
    let here : List ℕ = range_with_len run.0 run.1 in
    let more : blocks_in (take (i + 1) runs) ≡ before ++ here = blocks_in-more runs i run at in
    subst (λ (xs : List ℕ). Puts (Contains xs) a c) (sym more)
    (puts-then (Contains before) (λ k. (run.0 ≤ k) × (k < run.0 + run.1)) (Contains (before ++ here)) a b c one two
    (λ k has. in-front before here k has) (λ k r. in-back before here k (range-has run.0 run.1 k r.0 r.1))
    (λ k has. elim (in-either before here k has) [ inl front ↦ inl front | inr back ↦ inr (in-range run.0 run.1 k back) ]))

pub blocks-all : (b : List ℕ) (n : ℕ) (old new : Bits) → length (runs_of (map_area b)) ≤ n
    → Puts (Contains (blocks_in (take n (runs_of (map_area b))))) old new
    → Puts (Contains (blocks_named b)) old new
unfolding blocks_named
blocks-all b n old new all puts =
    subst (λ (rs : List (ℕ × ℕ)). Puts (Contains (blocks_in rs)) old new) (take_all n (runs_of (map_area b)) all) puts
