-- An image in which each header of the index file leads to the same has the same index file.
use Rattle.std.proofs.Common.{◌≡◌, ℕ, zero, suc, ◌+◌, ◌<◌, List, [], ◌++◌, Option, Some, None, ◌⊎◌, refl, sym, ap, subst, ◌∙◌, inl, inr}
use Rattle.std.proofs.Common.{arith}
use Rattle.std.specs.List.{slice_get}
use Rattle.f11_dev.specs.Image.{Image, image_block}
use Rattle.f11_home.specs.Home.{HomeFields}
use Rattle.f11_map.specs.HeaderBlock.{link_of, blocks_named}
use Rattle.f11_index.specs.IndexFile.{index_file_blocks, blocks_on, header_place, header_among, first_header_lbn}
use Rattle.f11_index.specs.Laws.{LeadsAlike}
use Rattle.f11_index.specs.Sound.{IsIndexFile}
use Rattle.f11_index.specs.Table.{table_of, IsHeaderOf, first, next}
use Rattle.f11_map.specs.store.declared.files.FileId.{FileId}
use Rattle.f11_index.proofs.ChainLemmas.{live_of-header}
use Rattle.f11_index.proofs.WalkLemmas.{so_far, ends, header_among-some, header_is, in_use-within, few-slots}

module _ (image new : Image) (home : HomeFields) (good : IsIndexFile image home) where
  abbrev all : List ℕ
  all = index_file_blocks image home

  -- a header of the index file links to another, or to none
  next_of : (m : ℕ) → IsHeaderOf (table_of image home) 1 m → (k : ℕ) → (link_of ((table_of image home).header m)).number ≡ k
      → (k ≡ 0) ⊎ IsHeaderOf (table_of image home) 1 k
  next_of m of k is = elim (good.whole.links m of) [
    | inl none ↦ inl (sym is ∙ none)
    | inr goes ↦ inr (subst (λ (n : ℕ). IsHeaderOf (table_of image home) 1 n) is (next of goes))
  ]

  -- each header of the index file leads to the same in the new image
  abbrev pub AllAlike : Type 0
  AllAlike =
      (m lbn : ℕ) → IsHeaderOf (table_of image home) 1 m → slice_get all (header_place home m) ≡ Some lbn
      → LeadsAlike (image_block image lbn) (image_block new lbn)

  module _ (alike : AllAlike) where
    -- What the walk does from a header of the index file on.
    pub Same : ℕ → Type 0
    Same most = (known : List ℕ) (m lbn : ℕ) → IsHeaderOf (table_of image home) 1 m → slice_get all (header_place home m) ≡ Some lbn
        → all ≡ blocks_on most image home known (Some lbn)
        → blocks_on most new home known (Some lbn) ≡ blocks_on most image home known (Some lbn)

    -- on along a link
    along : (most : ℕ) → Same most → (known : List ℕ) (m : ℕ) → (m ≡ 0) ⊎ IsHeaderOf (table_of image home) 1 m → (at : Option ℕ)
        → header_among home known m ≡ at
        → all ≡ blocks_on most image home known at → blocks_on most new home known at ≡ blocks_on most image home known at
    unfolding Same
    along most same known m is None at so = ends most new home known ∙ sym (ends most image home known)
    along most same known m (inl none) (Some lbn) at so = absurd (never (ap (header_among home known) (sym none) ∙ at))
      where
        never : None ≡ Some lbn → ⊥
        never e = cc
    along most same known m (inr of) (Some lbn) at so =
        let some : 0 < m = (in_use-within image home m (live_of-header of).in_use).0 in
        let here : slice_get known (header_place home m) ≡ Some lbn = sym (header_among-some home known m some) ∙ at in
        same known m lbn of (ap (λ (xs : List ℕ). slice_get xs (header_place home m)) so
        ∙ so_far most image home known (Some lbn) (header_place home m) lbn here) so

    from_header : (most : ℕ) → Same most
    unfolding Same blocks_on
    from_header zero known m lbn of at so = refl
    from_header (suc most) known m lbn of at so =
        let header = image_block image lbn in
        let a = alike m lbn of at in
        let number : (link_of (image_block new lbn)).number ≡ (link_of header).number = ap (λ (i : FileId). i.number) a.link in
        let slot = in_use-within image home m (live_of-header of).in_use in
        let is : (table_of image home).header m ≡ header = header_is image home m lbn slot.0 (omega (arith, slot.1, few-slots image home))
        at in
        let table_number : (link_of ((table_of image home).header m)).number ≡ (link_of header).number =
        ap (λ (b : List ℕ). (link_of b).number) is in
        ap (λ (b : List ℕ). blocks_on most new home (known ++ b) (header_among home (known ++ b) (link_of (image_block new lbn)).number))
        a.blocks
        ∙ ap (λ (k : ℕ). blocks_on most new home (known ++ blocks_named header) (header_among home (known ++ blocks_named header) k)) number
        ∙ along most (from_header most) (known ++ blocks_named header) (link_of header).number
        (next_of m of (link_of header).number table_number) (header_among home (known ++ blocks_named header) (link_of header).number)
        refl so

    pub file_same : index_file_blocks new home ≡ all
    unfolding index_file_blocks Same
    file_same =
        from_header 256 [] 1 (first_header_lbn home) (first good.whole.file)
        (ap (slice_get all) place ∙ good.placed.bitmap_and_headers home.index_blocks (omega arith)) refl
      where
        place : header_place home 1 ≡ 2 + home.index_blocks
        place = omega arith
