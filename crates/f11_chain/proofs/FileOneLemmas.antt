-- The blocks of the index file are those of file 1.
use Rattle.std.proofs.Common.{◌≡◌, ◌⊎◌, ℕ, zero, suc, ◌+◌, ◌<◌, List, [], ◌++◌, Option, Some, None, refl, sym, ap, ◌∙◌, inl, inr, arith}
use Rattle.std.proofs.Common.{append_assoc}
use Rattle.std.specs.List.{slice_get}
use Rattle.std.proofs.lemmas.List.{append-nil}
use Rattle.f11_dev.specs.Image.{Image, image_block}
use Rattle.f11_index.specs.Home.{HomeFields}
use Rattle.f11_index.specs.map.HeaderBlock.{blocks_named}
use Rattle.f11_index.specs.Headers.{headers_from}
use Rattle.f11_index.specs.IndexFile.{index_file_blocks, blocks_on, header_place, header_among, first_header_lbn}
use Rattle.f11_index.specs.Sound.{IsIndexFile}
use Rattle.f11_index.specs.Table.{Table, table_of, IsHeaderOf, first}
use Rattle.f11_index.proofs.ChainLemmas.{live_of-header}
use Rattle.f11_index.proofs.HeadersLemmas.{link_number, headers_from-some, headers_from-none}
use Rattle.f11_index.proofs.WalkLemmas.{so_far, ends, goes_on, header_among-some, header_is, in_use-within, few-slots, found-there}
use Rattle.f11_index.proofs.WalkLemmas.{linked-there}
use Rattle.f11_chain.specs.FileHeaders.{blocks_by, file_blocks}

module _ (image : Image) (home : HomeFields) (good : IsIndexFile image home) where
  abbrev t : Table
  t = table_of image home

  abbrev all : List ℕ
  all = index_file_blocks image home

  -- the walk from a header of the file on has the blocks that it and those behind it name
  Names : ℕ → Type 0
  Names most = (known : List ℕ) (m lbn : ℕ) → IsHeaderOf t 1 m → slice_get all (header_place home m) ≡ Some lbn
      → all ≡ blocks_on most image home known (Some lbn)
      → blocks_on most image home known (Some lbn) ≡ known ++ blocks_by t (headers_from most t m)

  -- on along a link
  along : (most : ℕ) → Names most → (known : List ℕ) (m : ℕ) → (m ≡ 0) ⊎ IsHeaderOf t 1 m → (at : Option ℕ) → header_among home known m ≡ at
      → all ≡ blocks_on most image home known at → blocks_on most image home known at ≡ known ++ blocks_by t (headers_from most t m)
  unfolding Names
  along most names known m (inl none) at is so =
      let rest : headers_from most t m ≡ [] = ap (headers_from most t) none ∙ headers_from-none most t in
      let stop : at ≡ None = sym is ∙ ap (header_among home known) none in
      ap (blocks_on most image home known) stop ∙ ends most image home known
      ∙ sym (append-nil known) ∙ ap (λ (hs : List ℕ). known ++ blocks_by t hs) (sym rest)
  along most names known m (inr of) None is so =
      let slot = in_use-within image home m (live_of-header of).in_use in
      absurd (found-there image home good known m slot.0 slot.1 (so ∙ ends most image home known) is)
  along most names known m (inr of) (Some lbn) is so =
      let some : 0 < m = (in_use-within image home m (live_of-header of).in_use).0 in
      let here : slice_get known (header_place home m) ≡ Some lbn = sym (header_among-some home known m some) ∙ is in
      names known m lbn of (ap (λ (xs : List ℕ). slice_get xs (header_place home m)) so
      ∙ so_far most image home known (Some lbn) (header_place home m) lbn here) so

  from-header : (most : ℕ) → Names most
  unfolding Names blocks_on headers_from
  from-header zero known m lbn of at so = sym (append-nil known)
  from-header (suc most) known m lbn of at so =
      let slot = in_use-within image home m (live_of-header of).in_use in
      let is : t.header m ≡ image_block image lbn = header_is image home m lbn slot.0 (omega (arith, slot.1, few-slots image home)) at in
      let more : List ℕ = known ++ blocks_named (t.header m) in
      let on : blocks_on (suc most) image home known (Some lbn) ≡ blocks_on most image home more
      (header_among home more (link_number t m)) =
      goes_on most image home known lbn (t.header m) (sym is) in
      on ∙ along most (from-header most) more (link_number t m) (linked-there image home good m of)
      (header_among home more (link_number t m)) refl (so ∙ on)
      ∙ append_assoc known (blocks_named (t.header m)) (blocks_by t (headers_from most t (link_number t m)))
      ∙ ap (λ (hs : List ℕ). known ++ blocks_by t hs) (sym (headers_from-some most t m slot.0))

  pub file-one : file_blocks t 1 ≡ index_file_blocks image home
  unfolding index_file_blocks Names file_blocks
  file-one =
      let place : header_place home 1 ≡ 2 + home.index_blocks = omega arith in
      sym (from-header 256 [] 1 (first_header_lbn home) (first good.whole.file)
      (ap (slice_get all) place ∙ good.placed.bitmap_and_headers home.index_blocks (omega arith)) refl)
