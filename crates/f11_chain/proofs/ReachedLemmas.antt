-- The headers of a file were gone along.
use Rattle.std.proofs.Common.{◌≡◌, ℕ, ◌+◌, ◌-◌, ◌<◌, subst, List, [], ◌∷◌, ◌++◌, length, take, get_or, refl, sym, ap, ◌∙◌, arith}
use Rattle.std.proofs.Common.{append_assoc}
use Rattle.std.specs.List.{slice_get}
use Rattle.std.proofs.Math.Seq.{take-append_seam}
use Rattle.std.proofs.lemmas.List.{append-nil}
use Rattle.std.proofs.lemmas.Option.{slice_get-get_or}
use Rattle.std.proofs.lemmas.Grind.{flat_map-append}
use Rattle.f11_index.proofs.map.MapLemmas.{slice_get-append_back}
use Rattle.f11_index.specs.map.HeaderBlock.{segment_number, blocks_named}
use Rattle.f11_index.specs.Headers.{headers_from, headers_of}
use Rattle.f11_index.specs.Table.{Table, IsFile, IsNext, IsHeaderOf, first, next}
use Rattle.f11_index.proofs.HeadersLemmas.{link_number, Comes, Comes-first, Comes-header, Comes-next, Comes-split, Comes-last}
use Rattle.f11_index.proofs.PlaceLemmas.{slice_get-append_front}
use Rattle.f11_chain.specs.FileHeaders.{blocks_by, file_blocks, blocks_before}

-- Header m is that of segment k of file n, behind these, and each of those links rightly.
pub record Reached (t : Table) (n m k : ℕ) (behind : List ℕ) : Type 0 where
  pub of : IsHeaderOf t n m
  pub segment : segment_number (t.header m) ≡ k
  pub comes : Comes t n m k behind

pub Reached-first : (t : Table) (n : ℕ) → IsFile t n → Reached t n n 0 []
Reached-first t n file = record { of = first file; segment = file.first; comes = Comes-first t n }

-- so is each header of the file, behind as many as its segment number says
pub Reached-at : (t : Table) (n m : ℕ) → IsHeaderOf t n m → segment_number (t.header m) < 256
    → Reached t n m (segment_number (t.header m)) (take (segment_number (t.header m)) (headers_of t n))
Reached-at t n m of few =
    let (behind, comes) = Comes-header of few in
    let k = segment_number (t.header m) in
    let taken : take k (headers_of t n) ≡ behind =
    ap (take k) comes.list ∙ ap (λ (c : ℕ). take c (behind ++ headers_from (256 - k) t m)) (sym comes.count)
    ∙ take-append_seam behind (headers_from (256 - k) t m) in
    record {
      of = of;
      segment = refl;
      comes = subst (Comes t n m k) (sym taken) comes;
    }

module _ (t : Table) (n m k : ℕ) (behind : List ℕ) (at : Reached t n m k behind) (some : 0 < m) (few : k < 256) where
  pub Reached-next : (to : ℕ) → IsNext t m to → Reached t n to (k + 1) (behind ++ m ∷ [])
  Reached-next to is = record {
    of = next at.of is;
    segment = is.segment ∙ ap (λ (s : ℕ). s + 1) at.segment;
    comes = Comes-next t n m k behind at.comes some few to is.number;
  }

  named : ℕ → List ℕ
  named h = blocks_named (t.header h)

  -- the blocks before those of this header, its own, and the others
  pub blocks-split : file_blocks t n ≡ blocks_by t
      behind ++ (blocks_named (t.header m) ++ blocks_by t (headers_from (255 - k) t (link_number t m)))
  unfolding file_blocks named
  blocks-split =
      let rest : List ℕ = headers_from (255 - k) t (link_number t m) in
      let here : blocks_by t (m ∷ []) ≡ blocks_named (t.header m) = append-nil (blocks_named (t.header m)) in
      ap (blocks_by t) (Comes-split t n m k behind at.comes some few) ∙ flat_map-append named (behind ++ m ∷ []) rest
      ∙ ap (λ (front : List ℕ). front ++ blocks_by t rest)
      (flat_map-append named behind (m ∷ []) ∙ ap (λ (b : List ℕ). blocks_by t behind ++ b) here)
      ∙ append_assoc (blocks_by t behind) (blocks_named (t.header m)) (blocks_by t rest)

  -- this header is the last
  pub blocks-last : link_number t m ≡ 0 → file_blocks t n ≡ blocks_by t behind ++ blocks_named (t.header m)
  unfolding file_blocks named
  blocks-last none =
      let here : blocks_by t (m ∷ []) ≡ blocks_named (t.header m) = append-nil (blocks_named (t.header m)) in
      ap (blocks_by t) (Comes-last t n m k behind at.comes some few none)
      ∙ flat_map-append named behind (m ∷ []) ∙ ap (λ (b : List ℕ). blocks_by t behind ++ b) here

  -- the block at a place among its own, among the file's
  pub block-behind : (left : ℕ) → left < length (blocks_named (t.header m))
      → slice_get (file_blocks t n) (length (blocks_by t behind) + left) ≡ slice_get (blocks_named (t.header m)) left
  block-behind left within =
      let front : List ℕ = blocks_by t behind in
      let here : List ℕ = blocks_named (t.header m) in
      let rest : List ℕ = blocks_by t (headers_from (255 - k) t (link_number t m)) in
      let named = slice_get-get_or here left 0 within in
      ap (λ (bs : List ℕ). slice_get bs (length front + left)) blocks-split
      ∙ slice_get-append_back front (here ++ rest) (length front + left) (length front) refl (omega arith)
      ∙ ap (slice_get (here ++ rest)) (omega arith)
      ∙ slice_get-append_front here rest left (get_or here left 0) named ∙ sym named

-- how many blocks the headers before it name
pub blocks-behind : (t : Table) (n m k : ℕ) (behind : List ℕ) → Reached t n m k behind → blocks_before t n m ≡ length (blocks_by t behind)
blocks-behind t n m k behind at =
    let rest : List ℕ = headers_from (256 - k) t m in
    let taken : take (segment_number (t.header m)) (headers_of t n) ≡ behind =
    ap (take (segment_number (t.header m))) at.comes.list ∙ ap (λ (c : ℕ). take c (behind ++ rest)) (at.segment ∙ sym at.comes.count)
    ∙ take-append_seam behind rest in
    ap (λ (hs : List ℕ). length (blocks_by t hs)) taken
