-- Which blocks are written as a file is laid out: bits of the bitmap, blocks that were free, and headers of the file and new ones.
use Rattle.std.proofs.Common.{◌≡◌, ◌+◌, ◌<◌, ◌==◌, ◌||◌, ℕ, Bool, true, false, cond, filter, IsTrue, List, [], ◌∷◌, inl, inr, refl, sym, ap}
use Rattle.std.proofs.Common.{◌∙◌, arith}
use Rattle.std.proofs.Math.Bool.{or-true}
use Rattle.std.proofs.lemmas.Bool.{cases_Bool, cases_lt, eqb-true, false≢true}
use Rattle.std.specs.List.{range_with_len}
use Rattle.f11_bits.specs.Bitmap.{Bitmap}
use Rattle.f11_chain.specs.declared.blocks.FileEnd.{FileEnd}
use Rattle.f11_dev.specs.Disk.{Disk}
use Rattle.f11_index.specs.Headers.{headers_of}
use Rattle.f11_index.specs.Table.{table_of}
use Rattle.f11_store.specs.Changes.{is_in}
use Rattle.f11_store.specs.declared.files.FileId.{FileId}
use Rattle.f11_volume.specs.Volume.{Volume, volume_of}
use Rattle.f11_image_store.specs.Allocation.{free_list}
use Rattle.f11_image_store.specs.Confines.{either, new_header, no_header, only_header}
use Rattle.f11_files.specs.Extending.Room.{HoldsEnd}
use Rattle.f11_files.specs.Extending.Runs.{IsTailOf}
use Rattle.f11_files.specs.Extending.Tail.{growth_headers, GrowthStandsWithin, ConfinesGrowth}
use Rattle.f11_files.specs.LayingOut.Take.{TakesWholeRun}
use Rattle.f11_files.specs.Structure.{bitmap_in, home_of, index_in, ConfinesTo, IsStructureFor, StandsAlike, WritesParts}
use Rattle.f11_files.specs.declared.structure.Structure.{Structure}
use Rattle.f11_files.specs.declared.extend.tail.Tail.{Tail}
use Rattle.f11_files.proofs.Removing.Gone.{first-listed}
use Rattle.f11_files.proofs.Confining.Parts.{in-one, of-none, of-only, stands-within, to-parts, to-then}
use Rattle.f11_files.proofs.Extending.Parts.{growth-of, tail-listed}
use Rattle.f11_files.proofs.Removing.Loss.{in-run, out-run}

-- what passes of a list is in what is left of it
in-filter : (p : ℕ → Bool) (xs : List ℕ) (l : ℕ) → p l ≡ true → is_in xs l ≡ true → is_in (filter p xs) l ≡ true
in-filter p [] l pass is = absurd (false≢true is)
in-filter p (x ∷ xs) l pass is = elim (cases_Bool (x == l)) [
  | inl same ↦
      ap (λ (b : Bool). is_in (cond b (x ∷ filter p xs) (filter p xs)) l) (ap p (eqb-true x l same) ∙ pass)
      ∙ ap (λ (b : Bool). b || is_in (filter p xs) l) same
  | inr other ↦
      let rest : is_in (filter p xs) l ≡ true = in-filter p xs l pass (ap (λ (b : Bool). b || is_in xs l) (sym other) ∙ is) in
      elim (cases_Bool (p x)) [
        | inl passes ↦
            ap (λ (b : Bool). is_in (cond b (x ∷ filter p xs) (filter p xs)) l) passes ∙ ap (λ (b : Bool). (x == l) || b) rest
            ∙ or-true (x == l)
        | inr fails ↦ ap (λ (b : Bool). is_in (cond b (x ∷ filter p xs) (filter p xs)) l) fails ∙ rest
      ]
]

-- a free block is listed
pub free-listed : (v : Volume) (l : ℕ) → l < v.size → v.free l ≡ true → is_in (free_list v) l ≡ true
unfolding free_list
free-listed v l within free = in-filter v.free (range_with_len 0 v.size) l free (in-run 0 v.size l (omega arith) (omega (arith, within)))

module _ (s : Structure) (f : FileId) (end : FileEnd) (was last : List ℕ) (old : Disk) (for : IsStructureFor s old)
    (ends : HoldsEnd s f end was last old) (honest : IsTrue old.honest)
    (t : Structure) (n lbn : ℕ) (mid : Disk) (takes : TakesWholeRun s t n lbn old mid) (alike : StandsAlike s t)
    (one : WritesParts s no_header old mid) where
  abbrev listed : ℕ → Bool
  listed = is_in (headers_of (table_of old.image (home_of s)) f.number)

  abbrev all : ℕ → Bool
  all = either listed (new_header (index_in s))

  abbrev free : List ℕ
  free = free_list (volume_of old.image (home_of s))

  size-is : (bitmap_in s).size ≡ (volume_of old.image (home_of s)).size
  unfolding volume_of
  size-is = ap (λ (b : Bitmap). b.size) (for.keeps honest).bitmap_is

  -- the blocks of the run were free
  was-free : (l : ℕ) → is_in free l ≡ false → is_in (range_with_len lbn n) l ≡ false
  was-free l out = elim (cases_lt l lbn) [
    | inl low ↦ out-run lbn n l (inl low)
    | inr high ↦ elim (cases_lt l (lbn + n)) [
      | inl inside ↦
          let within = takes.within in
          let size = size-is in
          absurd (false≢true (sym out ∙ free-listed (volume_of old.image (home_of s)) l (omega (arith, inside, within, size))
          ((takes.first honest).each l high inside)))
      | inr past ↦ out-run lbn n l (inr past)
    ]
  ]

  module _ (tail : Tail) (of : IsTailOf f was end.number last tail) {laid : Disk}
      (two : ConfinesGrowth t tail (range_with_len lbn n) mid laid) where
    -- its blocks came, or not all of them
    pub laying-confined : ConfinesTo s all free old laid
    laying-confined =
        to-then s t all (growth_headers t tail) free (range_with_len lbn n)
        (stands-within s t all (growth_headers t tail) free
        (growth-of s t listed tail (tail-listed s f end was last was old tail for ends of honest) takes.index) alike) was-free
        (to-parts s all no_header free (of-none all) one) two

    -- and then the mark was set, or wasn't
    pub marking-confined : (u : Structure) (later : Tail) {new : Disk} → GrowthStandsWithin t tail (range_with_len lbn n) u later
        → WritesParts u (only_header f.number) laid new → ConfinesTo s all free old new
    marking-confined u later grows three =
        to-then s u all (only_header f.number) free []
        (λ l none out.
        grows.all (only_header f.number) l
        (stands-within s t all (only_header f.number) free
        (of-only all f.number (in-one listed (new_header (index_in s)) f.number (first-listed s f was old for ends.holds honest))) alike
        l none out)
        (was-free l out))
        (λ l _. refl) laying-confined three

-- the run was marked used, or wasn't
pub taking-confined : (s : Structure) (headers : ℕ → Bool) (others : List ℕ) {old mid : Disk} → WritesParts s no_header old mid
    → ConfinesTo s headers others old mid
taking-confined s headers others one = to-parts s headers no_header others (of-none headers) one
