-- Files that are counted.
use Rattle.std.proofs.Common.{◌≡◌, ℕ, ◌+◌, ◌<◌, ◌==◌, Bool, true, false, if◌then◌else◌, List, [], ◌∷◌, ◌++◌, length, take, get_or, Option}
use Rattle.std.proofs.Common.{Some, None, refl, sym, ap, ◌∙◌, subst, arith}
use Rattle.std.specs.List.{last_or, sum_by}
use Rattle.std.proofs.lemmas.List.{append-nil, length-append, take_more}
use Rattle.std.proofs.lemmas.List.Elements.{filter-append}
use Rattle.std.proofs.lemmas.List.Sums.{sum_by_push}
use Rattle.rt11_volume.specs.declared.any_entries.RtEntry.{RtEntry}
use Rattle.rt11_copy.specs.Fitting.{counted, files_to_copy, has_no_block, is_copied}

-- What was counted of files.
pub record AreCounted (entries : List RtEntry) (files blocks : ℕ) (ends_empty : Bool) : Type 0 where
  pub files_are : files ≡ counted (length entries)
  pub blocks_are : blocks ≡ counted (sum_by (λ (e : RtEntry). e.blocks) entries)
  pub ends : ends_empty ≡ has_no_block (last_or None entries)

last-push : (o : Option RtEntry) (entries : List RtEntry) (e : RtEntry) → last_or o (entries ++ e ∷ []) ≡ Some e
last-push o [] e = refl
last-push o (x ∷ entries) e = last-push (Some x) entries e

module _ (entries : List RtEntry) (e : RtEntry) (files blocks : ℕ) (empty : Bool) (are : AreCounted entries files blocks empty) where
  -- with one more
  counted-push : AreCounted (entries ++ e ∷ []) (counted (files + 1)) (counted (blocks + e.blocks)) (e.blocks == 0)
  counted-push = record {
    files_are =
        let size = length-append entries (e ∷ []) in
        let was = are.files_are in omega (arith, size, was);
    blocks_are =
        let sum = sum_by_push (λ (x : RtEntry). x.blocks) entries e in
        let was = are.blocks_are in omega (arith, sum, was);
    ends = sym (ap has_no_block (last-push None entries e));
  }

-- the next of the entries is counted where its file is copied
module _ (size : ℕ) (entries : List RtEntry) (i : ℕ) (e : RtEntry) (inside : i < length entries) (is : e ≡ get_or entries i e) where
  next-of : files_to_copy size (take (i + 1) entries) ≡ files_to_copy size (take i entries) ++ files_to_copy size (e ∷ [])
  next-of =
      ap (files_to_copy size) (take_more entries i e inside ∙ sym (ap (λ (x : RtEntry). take i entries ++ x ∷ []) is))
      ∙ filter-append (is_copied size) (take i entries) (e ∷ [])

  -- what is counted then, by whether it is
  abbrev Then : ℕ → ℕ → Bool → Bool → Type 0
  Then files blocks empty b =
      AreCounted (files_to_copy size (take i entries) ++ (if b then e ∷ [] else [])) (if b then counted (files + 1) else files)
      (if b then counted (blocks + e.blocks) else blocks) (if b then e.blocks == 0 else empty)

  then-by : (files blocks : ℕ) (empty b : Bool) → AreCounted (files_to_copy size (take i entries)) files blocks empty
      → Then files blocks empty b
  then-by files blocks empty true are = counted-push (files_to_copy size (take i entries)) e files blocks empty are
  then-by files blocks empty false are =
      subst (λ (es : List RtEntry). AreCounted es files blocks empty) (sym (append-nil (files_to_copy size (take i entries)))) are

  pub counted-more : (files blocks : ℕ) (empty copied : Bool) (files' blocks' : ℕ) (empty' : Bool)
      → AreCounted (files_to_copy size (take i entries)) files blocks empty → copied ≡ is_copied size e
      → files' ≡ (if copied then counted (files + 1) else files) → blocks' ≡ (if copied then counted (blocks + e.blocks) else blocks)
      → empty' ≡ (if copied then e.blocks == 0 else empty) → AreCounted (files_to_copy size (take (i + 1) entries)) files' blocks' empty'
  counted-more files blocks empty copied files' blocks' empty' are told f b l =
      let all : files_to_copy size (take (i + 1) entries) ≡ files_to_copy size (take i entries) ++ (if copied then e ∷ [] else []) =
      next-of ∙ sym (ap (λ (c : Bool). files_to_copy size (take i entries) ++ (if c then e ∷ [] else [])) told) in
      let t = subst (λ (es : List RtEntry). AreCounted es (if copied then counted (files + 1) else files)
      (if copied then counted (blocks + e.blocks) else blocks) (if copied then e.blocks == 0 else empty)) (sym all)
      (then-by files blocks empty copied are) in
      record { files_are = f ∙ t.files_are; blocks_are = b ∙ t.blocks_are; ends = l ∙ t.ends }
