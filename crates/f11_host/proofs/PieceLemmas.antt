-- The bytes of a file of the host, block by block.
use Rattle.std.proofs.Common.{◌≡◌, inl, inr, ℕ, ◌+◌, ◌-◌, ◌*◌, ◌<◌, ◌≤◌, List, [], ◌∷◌, ◌++◌, All, length, drop, take, replicate, min}
use Rattle.std.proofs.Common.{Option, Result}
use Rattle.std.proofs.Common.{Ok, Err, OnOk, refl, sym, ap, ◌∙◌, arith, append_assoc}
use Rattle.std.specs.List.{concat}
use Rattle.std.specs.Io.KnownBytes.{Consumes}
use Rattle.std.proofs.KnownBytes.{Consumes-nil, Consumes-trans}
use Rattle.std.proofs.lemmas.Bool.{cases_lt}
use Rattle.std.proofs.lemmas.List.{append-nil, drop-replicate, drop_all, length-append, length-replicate, take-append-drop}
use Rattle.std.proofs.lemmas.List.Elements.{All-append, All-cons, All-nil}
use Rattle.std.proofs.lemmas.List.Folds.{concat-append}
use Rattle.f11_flx.proofs.FromRt.PassedLemmas.{chop}
use Rattle.f11_flx.proofs.Texts.PourLemmas.{whole-length}
use Rattle.f11_host.specs.Pieces.{IsInBlocks, ReadsPiece, blocks_for, filled_up}

-- a block that was zeros, with bytes in its front
pub reads-piece : {E : Type 0} (count : ℕ) (unread unread' : Option (List ℕ)) (piece zeros : List ℕ) (result : Result Unit E) → count ≤ 512
    → length piece ≡ count → zeros ≡ replicate 512 0 → OnOk result (Consumes unread unread' piece)
    → OnOk result (ReadsPiece count unread unread' (piece ++ drop (0 + length piece) zeros))
reads-piece count unread unread' piece zeros (Ok x) few size is takes = record {
  piece = piece;
  size = size;
  takes = takes;
  is =
      let all : 0 + length piece ≡ count = omega (arith, size) in
      ap (λ (l : List ℕ). piece ++ drop (0 + length piece) l) is ∙ ap (λ (n : ℕ). piece ++ drop n (replicate 512 0)) all
      ∙ ap (λ (l : List ℕ). piece ++ l) (drop-replicate count 512 0);
}
reads-piece count unread unread' piece zeros (Err e) few size is takes = tt

abbrev is-whole : List ℕ → Type 0
is-whole block = length block ≡ 512

-- So many blocks were read: they hold the bytes that were taken, of so many, and so many are left.
pub record TakesBlocks (bytes place left : ℕ) (taken : List ℕ) (pieces : List (List ℕ)) (unread unread' : Option (List ℕ)) : Type 0 where
  pub count : length pieces ≡ place
  pub left_is : left ≡ bytes - 512 * place
  pub size : length taken ≡ bytes - left
  pub content : concat pieces ≡ filled_up taken place
  pub whole : All (λ block. length block ≡ 512) pieces
  pub takes : Consumes unread unread' taken

pub takes-none : (bytes : ℕ) (unread : Option (List ℕ)) → TakesBlocks bytes 0 bytes [] [] unread unread
takes-none bytes unread = record {
  count = refl;
  left_is = omega arith;
  size = omega arith;
  content = refl;
  whole = All-nil is-whole;
  takes = Consumes-nil unread;
}

-- bytes that fill their blocks need no zeros
no-zeros : (taken : List ℕ) (place : ℕ) → length taken ≡ 512 * place → filled_up taken place ≡ taken
no-zeros taken place size =
    let none : 512 * place - length taken ≡ 0 = omega (arith, size) in
    ap (λ n. taken ++ replicate n 0) none ∙ append-nil taken

module _ (bytes place left : ℕ) (taken : List ℕ) (pieces : List (List ℕ)) (unread now' : Option (List ℕ))
    (h : TakesBlocks bytes place left taken pieces unread now') where
  -- one block more
  pub takes-more : (count : ℕ) (block : List ℕ) (new' : Option (List ℕ)) → place < blocks_for bytes → count ≡ min left 512
      → (r : ReadsPiece count now' new' block)
      → TakesBlocks bytes (place + 1) (left - count) (taken ++ r.piece) (pieces ++ block ∷ []) unread new'
  takes-more count block new' inside is r = record {
    count = length-append pieces (block ∷ []) ∙ ap (λ n. n + 1) h.count;
    left_is = omega (arith, h.left_is, inside, is);
    size =
        let both = length-append taken r.piece in
        omega (arith, both, r.size, h.size, h.left_is, is);
    content =
        concat-append pieces (block ∷ [])
        ∙ ap (λ (l : List ℕ). concat pieces ++ l) (append-nil block)
        ∙ ap (λ (l : List ℕ). l ++ block) (h.content ∙ no-zeros taken place full)
        ∙ ap (λ (l : List ℕ). taken ++ l) r.is
        ∙ sym (append_assoc taken r.piece (replicate (512 - count) 0))
        ∙ ap (λ n. (taken ++ r.piece) ++ replicate n 0) rest;
    whole = All-append is-whole pieces (block ∷ []) h.whole (All-cons is-whole block [] size-of (All-nil is-whole));
    takes = Consumes-trans unread now' new' taken r.piece h.takes r.takes;
  }
    where
      full : length taken ≡ 512 * place
      full = omega (arith, h.size, h.left_is, inside)

      rest : 512 - count ≡ 512 * (place + 1) - length (taken ++ r.piece)
      rest = let both = length-append taken r.piece in omega (arith, both, r.size, full, is, h.left_is, inside)

      size-of : length block ≡ 512
      size-of =
          ap (λ (l : List ℕ). length l) r.is ∙ (
          let both = length-append r.piece (replicate (512 - count) 0) in
          let zeros = length-replicate {A = ℕ} (512 - count) 0 in
          omega (arith, both, zeros, r.size, is)
          )

  -- all of them
  pub takes-all : place ≡ blocks_for bytes → (length taken ≡ bytes) × IsInBlocks taken pieces
  takes-all all =
      let size : length taken ≡ bytes = omega (arith, h.size, h.left_is, all) in (
        size,
        record {
          content_is = h.content ∙ ap (λ n. filled_up taken n) (all ∙ ap blocks_for (sym size));
          whole = h.whole;
        },
      )

  pub takes-few : length taken ≤ bytes
  takes-few = omega (arith, h.size)

  -- they are the first ones of whatever begins with the bytes that were taken
  pub takes-first : place ≤ blocks_for bytes → (text : List ℕ) → length text ≡ bytes → take (length taken) text ≡ taken
      → (blocks : List (List ℕ)) → IsInBlocks text blocks → (more : List (List ℕ)) × (blocks ≡ pieces ++ more)
  takes-first inside text size front blocks k = elim (cases_lt 0 left) [
    | inl some ↦
        (let whole : length taken ≡ 512 * place = omega (arith, h.size, h.left_is, some) in
        chop pieces blocks (drop (length taken) text ++ replicate (512 * blocks_for bytes - length text) 0) h.whole k.whole
        (all ∙ ap (λ (l : List ℕ). l ++ replicate (512 * blocks_for bytes - length text) 0) parted
        ∙ append_assoc taken (drop (length taken) text) (replicate (512 * blocks_for bytes - length text) 0)
        ∙ ap (λ (l : List ℕ). l ++ (drop (length taken) text ++ replicate (512 * blocks_for bytes - length text) 0))
        (sym (h.content ∙ no-zeros taken place whole))))
    | inr none ↦
        (let last : place ≡ blocks_for bytes = omega (arith, h.left_is, none, inside) in
        let size' : length text ≤ length taken = omega (arith, h.size, none, size) in
        let same : text ≡ taken =
        parted ∙ ap (λ (l : List ℕ). taken ++ l) (drop_all (length taken) text size') ∙ append-nil taken in
        chop pieces blocks [] h.whole k.whole
        (all ∙ ap (λ (l : List ℕ). filled_up l (blocks_for bytes)) same ∙ ap (λ n. filled_up taken n) (sym last) ∙ sym h.content
        ∙ sym (append-nil (concat pieces))))
  ]
    where
      all : concat blocks ≡ filled_up text (blocks_for bytes)
      all = k.content_is ∙ ap (λ n. filled_up text (blocks_for n)) size

      parted : text ≡ taken ++ drop (length taken) text
      parted = sym (take-append-drop (length taken) text) ∙ ap (λ (l : List ℕ). l ++ drop (length taken) text) front

-- how many blocks they are
pub blocks-count : (text : List ℕ) (blocks : List (List ℕ)) → IsInBlocks text blocks → length blocks ≡ blocks_for (length text)
blocks-count text blocks h =
    let sizes : length (concat blocks) ≡ length text + length (replicate (512 * blocks_for (length text) - length text) 0) =
    ap (λ (l : List ℕ). length l) h.content_is ∙ length-append text (replicate (512 * blocks_for (length text) - length text) 0) in
    let zeros = length-replicate {A = ℕ} (512 * blocks_for (length text) - length text) 0 in
    omega (arith, sizes, zeros, whole-length blocks h.whole)
