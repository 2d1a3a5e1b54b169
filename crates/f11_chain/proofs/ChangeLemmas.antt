-- The headers and blocks of a file where headers change.
use Rattle.std.proofs.Common.{◌≡◌, ℕ, zero, suc, ◌+◌, ◌-◌, ◌<◌, ◌≤◌, List, [], ◌∷◌, ◌++◌, length, take, refl, sym, ap, subst, ◌∙◌, arith}
use Rattle.std.proofs.Common.{append_assoc}
use Rattle.std.specs.Prelude.{Contains}
use Rattle.std.proofs.Math.Seq.{take-append_seam, take-append-add}
use Rattle.std.proofs.lemmas.Grind.{flat_map-append}
use Rattle.std.proofs.lemmas.List.{append-nil, length-append, take-append-le}
use Rattle.f11_index.specs.map.HeaderBlock.{segment_number, link_of, blocks_named}
use Rattle.f11_index.specs.Headers.{headers_from, headers_of}
use Rattle.f11_index.specs.Table.{Table, IsHeaderOf, first, next}
use Rattle.f11_index.proofs.ChainLemmas.{live_of-header}
use Rattle.f11_index.proofs.HeadersLemmas.{link_number, live-some, Comes, Comes-first, Comes-next, Comes-split, Comes-last}
use Rattle.f11_chain.specs.FileHeaders as files
use Rattle.f11_chain.specs.FileHeaders.{blocks_by, file_blocks}
use Rattle.f11_chain.specs.Windows.{StandsIn}
use Rattle.f11_chain.specs.Laws.{HasMore, HasHeaderMore, EndsWith, StayBefore}

-- the list goes the same way where the headers in it link as they did
from-stays : (most : ℕ) (old new : Table) (n : ℕ) → ((m : ℕ) → Contains (headers_from most old n) m → link_number new m ≡ link_number old m)
    → headers_from most new n ≡ headers_from most old n
unfolding headers_from
from-stays zero old new n stay = refl
from-stays (suc most) old new zero stay = refl
from-stays (suc most) old new (suc n) stay =
    ap (λ (to : ℕ). suc n ∷ headers_from most new to) (stay (suc n) (zero, omega arith, refl))
    ∙ ap (λ (rest : List ℕ). suc n ∷ rest)
    (from-stays most old new (link_number old (suc n)) (λ m (i, within, is). stay m (suc i, omega (arith, within), is)))

blocks-stay : (old new : Table) (hs : List ℕ) → ((m : ℕ) → Contains hs m → blocks_named (new.header m) ≡ blocks_named (old.header m))
    → blocks_by new hs ≡ blocks_by old hs
blocks-stay old new [] stay = refl
blocks-stay old new (h ∷ hs) stay =
    ap (λ (b : List ℕ). b ++ blocks_by new hs) (stay h (zero, omega arith, refl))
    ∙ ap (λ (rest : List ℕ). blocks_named (old.header h) ++ rest)
    (blocks-stay old new hs (λ m (i, within, is). stay m (suc i, omega (arith, within), is)))

-- a file has the headers and the blocks that it had where its headers link as they did and name the same
pub file-alike : (old new : Table) (f : ℕ) → ((n : ℕ) → Contains (headers_of old f) n → link_number new n ≡ link_number old n)
    → ((n : ℕ) → Contains (headers_of old f) n → blocks_named (new.header n) ≡ blocks_named (old.header n))
    → (headers_of new f ≡ headers_of old f) × (file_blocks new f ≡ file_blocks old f)
unfolding file_blocks
file-alike old new f links names =
    let headers = from-stays 256 old new f links in
    (headers, ap (blocks_by new) headers ∙ blocks-stay old new (headers_of old f) names)

pub file-stays : (old new : Table) (f : ℕ) → ((n : ℕ) → Contains (headers_of old f) n → new.header n ≡ old.header n)
    → (headers_of new f ≡ headers_of old f) × (file_blocks new f ≡ file_blocks old f)
file-stays old new f stay =
    file-alike old new f (λ n listed. ap (λ (b : List ℕ). (link_of b).number) (stay n listed)) (λ n listed. ap blocks_named (stay n listed))

-- one header more at the end
blocks-behind : (t : Table) (behind : List ℕ) (n : ℕ) → blocks_by t (behind ++ n ∷ []) ≡ blocks_by t behind ++ blocks_named (t.header n)
blocks-behind t behind n =
    flat_map-append (λ (h : ℕ). blocks_named (t.header h)) behind (n ∷ [])
    ∙ ap (λ (b : List ℕ). blocks_by t behind ++ b) (append-nil (blocks_named (t.header n)))

-- Header n comes at its place in both tables, behind the same headers, which name the same.
record ComesInBoth (old new : Table) (f n : ℕ) : Type 0 where
  pub behind : List ℕ
  pub before : Comes old f n (segment_number (old.header n)) behind
  pub after : Comes new f n (segment_number (old.header n)) behind
  pub blocks : blocks_by new behind ≡ blocks_by old behind

both : (old new : Table) (f : ℕ) {n : ℕ} → IsHeaderOf old f n → segment_number (old.header n) < 256 → StayBefore f n old new
    → ComesInBoth old new f n
both old new f (first file) few stay = record {
  behind = [];
  before = subst (λ (s : ℕ). Comes old f f s []) (sym file.first) (Comes-first old f);
  after = subst (λ (s : ℕ). Comes new f f s []) (sym file.first) (Comes-first new f);
  blocks = refl;
}
both old new f (next {n = p} {m = n} of is) few stay =
    let k = segment_number (old.header p) in
    let early : k < 256 = omega (arith, is.segment, few) in
    let b = both old new f of early (λ m from below. stay m from (omega (arith, below, is.segment))) in
    let same : new.header p ≡ old.header p = stay p of (omega (arith, is.segment)) in
    let some = live-some is.from in
    record {
      behind = b.behind ++ p ∷ [];
      before = subst (λ (s : ℕ). Comes old f n s (b.behind ++ p ∷ [])) (sym is.segment)
          (Comes-next old f p k b.behind b.before some early n is.number);
      after = subst (λ (s : ℕ). Comes new f n s (b.behind ++ p ∷ [])) (sym is.segment)
          (Comes-next new f p k b.behind b.after some early n (ap (λ (h : List ℕ). (link_of h).number) same ∙ is.number));
      blocks = blocks-behind new b.behind p ∙ ap (λ (front : List ℕ). front ++ blocks_named (new.header p)) b.blocks
          ∙ ap (λ (h : List ℕ). blocks_by old b.behind ++ blocks_named h) same ∙ sym (blocks-behind old b.behind p);
    }

module _ (old new : Table) (f n : ℕ) (of : IsHeaderOf old f n) (few : segment_number (old.header n) < 256) (stay : StayBefore f n old new)
  where
    abbrev k : ℕ
    k = segment_number (old.header n)

    b : ComesInBoth old new f n
    b = both old new f of few stay

    some : 0 < n
    some = live-some (live_of-header of)

    -- the new table's list, where the header links to none there
    headers-end : link_number new n ≡ 0 → headers_of new f ≡ b.behind ++ n ∷ []
    headers-end none = Comes-last new f n k b.behind b.after some few none

    blocks-end : link_number new n ≡ 0 → file_blocks new f ≡ blocks_by old b.behind ++ blocks_named (new.header n)
    unfolding file_blocks
    blocks-end none =
        ap (blocks_by new) (headers-end none) ∙ blocks-behind new b.behind n
        ∙ ap (λ (front : List ℕ). front ++ blocks_named (new.header n)) b.blocks

    -- the old table's list up to the header
    before-taken : take k (headers_of old f) ≡ b.behind
    before-taken =
        let rest : List ℕ = headers_from (255 - k) old (link_number old n) in
        ap (take k) (Comes-split old f n k b.behind b.before some few ∙ append_assoc b.behind (n ∷ []) rest)
        ∙ ap (λ (c : ℕ). take c (b.behind ++ n ∷ rest)) (sym b.before.count) ∙ take-append_seam b.behind (n ∷ rest)

    up-taken : take (k + 1) (headers_of old f) ≡ b.behind ++ n ∷ []
    up-taken =
        let rest : List ℕ = headers_from (255 - k) old (link_number old n) in
        let count : length (b.behind ++ n ∷ []) ≡ k + 1 = length-append b.behind (n ∷ []) ∙ ap (λ (c : ℕ). c + 1) b.before.count in
        ap (take (k + 1)) (Comes-split old f n k b.behind b.before some few)
        ∙ ap (λ (c : ℕ). take c ((b.behind ++ n ∷ []) ++ rest)) (sym count) ∙ take-append_seam (b.behind ++ n ∷ []) rest

    pub ends-with : link_number new n ≡ 0 → EndsWith f n (segment_number (old.header n)) old new
    ends-with none = record {
      headers = headers-end none ∙ sym up-taken;
      blocks = blocks-end none ∙ ap (λ (hs : List ℕ). blocks_by old hs ++ blocks_named (new.header n)) (sym before-taken);
    }

    -- the old file's blocks, those before the header's, its own, and the others
    blocks-before : file_blocks old f ≡ blocks_by old
        b.behind ++ (blocks_named (old.header n) ++ blocks_by old (headers_from (255 - k) old (link_number old n)))
    unfolding file_blocks
    blocks-before =
        let rest : List ℕ = headers_from (255 - k) old (link_number old n) in
        ap (blocks_by old) (Comes-split old f n k b.behind b.before some few)
        ∙ flat_map-append (λ (h : ℕ). blocks_named (old.header h)) (b.behind ++ n ∷ []) rest
        ∙ ap (λ (front : List ℕ). front ++ blocks_by old rest) (blocks-behind old b.behind n)
        ∙ append_assoc (blocks_by old b.behind) (blocks_named (old.header n)) (blocks_by old rest)

    -- so its own stand in a row among them
    pub header-stands : StandsIn (file_blocks old f) (files.blocks_before old f n) (blocks_named (old.header n))
    header-stands = record {
      before = blocks_by old b.behind;
      behind = blocks_by old (headers_from (255 - k) old (link_number old n));
      whole_is = blocks-before;
      at_is = ap (λ (hs : List ℕ). length (blocks_by old hs)) (sym before-taken);
    }

    pub is-cut : (left : ℕ) → link_number new n ≡ 0 → blocks_named (new.header n) ≡ take left (blocks_named (old.header n))
        → left ≤ length (blocks_named (old.header n))
        → file_blocks new f ≡ take (length (blocks_by old (take (segment_number (old.header n)) (headers_of old f))) + left)
        (file_blocks old f)
    is-cut left none names within =
        let front : List ℕ = blocks_by old b.behind in
        let here : List ℕ = blocks_named (old.header n) in
        let rest : List ℕ = blocks_by old (headers_from (255 - k) old (link_number old n)) in
        let cut : take (length front + left) (file_blocks old f) ≡ front ++ take left here =
        ap (take (length front + left)) blocks-before ∙ take-append-add front (here ++ rest) left
        ∙ ap (λ (x : List ℕ). front ++ x) (take-append-le left here rest within) in
        blocks-end none ∙ ap (λ (x : List ℕ). front ++ x) names ∙ sym cut
        ∙ ap (λ (hs : List ℕ). take (length (blocks_by old hs) + left) (file_blocks old f)) (sym before-taken)

    -- it was the last
    module _ (end : link_number old n ≡ 0) where
      headers-were : headers_of old f ≡ b.behind ++ n ∷ []
      headers-were = Comes-last old f n k b.behind b.before some few end

      blocks-were : file_blocks old f ≡ blocks_by old b.behind ++ blocks_named (old.header n)
      unfolding file_blocks
      blocks-were = ap (blocks_by old) headers-were ∙ blocks-behind old b.behind n

      pub has-more : (more : List ℕ) → link_number new n ≡ 0 → blocks_named (new.header n) ≡ blocks_named (old.header n) ++ more
          → HasMore f more old new
      has-more more none names = record {
        headers = headers-end none ∙ sym headers-were;
        blocks = blocks-end none ∙ ap (λ (x : List ℕ). blocks_by old b.behind ++ x) names
            ∙ sym (append_assoc (blocks_by old b.behind) (blocks_named (old.header n)) more)
            ∙ ap (λ (x : List ℕ). x ++ more) (sym blocks-were);
      }

      pub has-header : (m : ℕ) → k < 255 → 0 < m → link_number new n ≡ m → blocks_named (new.header n) ≡ blocks_named (old.header n)
          → link_number new m ≡ 0
          → HasHeaderMore f m old new
      unfolding file_blocks
      has-header m early some_m to names none =
          let there = Comes-next new f n k b.behind b.after some few m to in
          let list = Comes-last new f m (k + 1) (b.behind ++ n ∷ []) there some_m (omega (arith, early)) none in
          let headers : headers_of new f ≡ headers_of old f ++ m ∷ [] = list ∙ ap (λ (hs : List ℕ). hs ++ m ∷ []) (sym headers-were) in
          let front : blocks_by new (b.behind ++ n ∷ []) ≡ file_blocks old f =
          blocks-behind new b.behind n ∙ ap (λ (x : List ℕ). x ++ blocks_named (new.header n)) b.blocks
          ∙ ap (λ (x : List ℕ). blocks_by old b.behind ++ x) names ∙ sym blocks-were in
          record {
            headers = headers;
            blocks = ap (blocks_by new) list ∙ blocks-behind new (b.behind ++ n ∷ []) m
                ∙ ap (λ (x : List ℕ). x ++ blocks_named (new.header m)) front;
          }
