-- What the words of allocation mean beside those of the verifier and of the store.
use Rattle.std.proofs.Common.{◌≡◌, ◌+◌, ℕ, zero, suc, Bool, true, false, cond, List, [], ◌∷◌, ◌++◌, length, length-append, Some, inl, inr}
use Rattle.std.proofs.Common.{refl, sym, ap, subst, ◌∙◌, arith}
use Rattle.std.specs.List.{filter, flat_map, range_with_len, slice_get}
use Rattle.std.proofs.lemmas.Bool.{cases_Bool}
use Rattle.std.proofs.lemmas.List.Elements.{filter-append}
use Rattle.std.proofs.lemmas.Option.{none-some}
use Rattle.f11_bits.specs.Bitmap.{count_below, is_free}
use Rattle.f11_bits.proofs.CountLemmas.{count_below-zero, count_below-suc, one_if}
use Rattle.f11_index.specs.Headers.{is_live, headers_of}
use Rattle.f11_index.proofs.ChainLemmas.{live_of-header}
use Rattle.f11_index.proofs.HeadersLemmas.{place-has}
use Rattle.f11_volume.specs.chain.FileHeaders.{blocks_by, file_blocks}
use Rattle.f11_index.specs.Table.{Table, IsLive}
use Rattle.f11_index.proofs.NextLemmas.{live-tested}
use Rattle.f11_index.proofs.PlaceLemmas.{range_with_len-more}
use Rattle.f11_store.specs.declared.callers.Uic.{Uic}
use Rattle.f11_volume.specs.Space.{storage_bitmap}
use Rattle.f11_volume.specs.Volume.{volume_of, IsCell}
use Rattle.f11_image_store.specs.Allocation.{named_by, free_list, ownership_in, GainsBlocksAs}
use Rattle.f11_image_store.specs.AllocationLaws.{CellsAreNamed, FileBlocksAreNamed, FreeBlocksAreStored, GainsAdd}
use Rattle.f11_image_store.specs.StoreOf.{store_of}
use Rattle.f11_image_store.proofs.AllocationLemmas.{gains-add, named-live, named-dead}

named-cell : (t : Table) (n place lbn : ℕ) → slice_get (named_by t n) place ≡ Some lbn → IsCell t n place lbn
named-cell t n place lbn at = elim (cases_Bool (is_live t n)) [
  | inl is ↦
      let live = (live-tested t n).0 is in
      record { live = live; names = ap (λ (l : List ℕ). slice_get l place) (sym (named-live t n live)) ∙ at }
  | inr not ↦ let dead = named-dead t n (λ live. let is = (live-tested t n).1 live in absurd (no-test (is_live t n) not is)) in
      absurd (none-some lbn (ap (λ (l : List ℕ). slice_get l place) (sym dead) ∙ at))
]
  where
    no-test : (b : Bool) → b ≡ false → b ≡ true → ⊥
    no-test true is _ = absurd cc
    no-test false _ is = absurd cc

pub cells-named : CellsAreNamed
cells-named t n place lbn = (
  named-cell t n place lbn,
  λ cell. ap (λ (l : List ℕ). slice_get l place) (named-live t n cell.live) ∙ cell.names,
)

-- what headers that are live name
blocks-named : (t : Table) (hs : List ℕ) → ((i n : ℕ) → slice_get hs i ≡ Some n → IsLive t n) → blocks_by t hs ≡ flat_map (named_by t) hs
blocks-named t [] live = refl
blocks-named t (h ∷ hs) live =
    (λ i. sym (named-live t h (live 0 h refl)) i ++ blocks_by t hs)
    ∙ ap (λ (l : List ℕ). named_by t h ++ l) (blocks-named t hs (λ i n at. live (suc i) n at))

pub files-named : FileBlocksAreNamed
unfolding file_blocks
files-named t f whole = blocks-named t (headers_of t f) (λ i n at. live_of-header (place-has t f n i whole at).of)

-- a file that gains blocks twice keeps its first header's ownership
pub gains-both : GainsAdd
gains-both f a b v w x one two =
    gains-add f (ownership_in (v.table.header f)) a b v w x one (subst (λ (o : Uic × ℕ). GainsBlocksAs f o b w x) one.names.says.first two)

-- as many pass a test as are counted
one-passes : (p : ℕ → Bool) (k : ℕ) (b : Bool) → p k ≡ b → length (filter p (k ∷ [])) ≡ one_if b
one-passes p k true is = ap (λ (c : Bool). length (cond c (k ∷ []) [])) is
one-passes p k false is = ap (λ (c : Bool). length (cond c (k ∷ []) [])) is

counted : (p : ℕ → Bool) (n : ℕ) → length (filter p (range_with_len 0 n)) ≡ count_below p n
counted p zero = sym (count_below-zero p)
counted p (suc n) =
    let more = range_with_len-more 0 n in
    let here : 0 + n ≡ n = omega arith in
    let next : suc n ≡ n + 1 = omega arith in
    let split = ap (λ (m : ℕ). filter p (range_with_len 0 m)) next ∙ ap (filter p) more
    ∙ filter-append p (range_with_len 0 n) ((0 + n) ∷ []) in
    let sum = ap length split ∙ length-append (filter p (range_with_len 0 n)) (filter p ((0 + n) ∷ [])) in
    let one = ap (λ (k : ℕ). length (filter p (k ∷ []))) here ∙ one-passes p n (p n) refl in
    let rest = counted p n in
    let count = count_below-suc p n in
    omega (arith, sum, one, rest, count)

pub free-counted : FreeBlocksAreStored
unfolding free_list volume_of store_of
free-counted image home = counted (is_free image (storage_bitmap image home)) (storage_bitmap image home).size
