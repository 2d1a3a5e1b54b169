-- Files that are put one after another, each counted once: as far as a loop has come, and where it stops.
use Rattle.std.proofs.Common.{◌≡◌, ℕ, ◌+◌, ◌<◌, ◌==◌, ◌&&◌, Bool, true, false, not, List, ◌∷◌, length, zero, suc}
use Rattle.std.proofs.Common.{refl, sym, ap, ◌∙◌, inr, add-one}
use Rattle.std.specs.Prelude.{replicate}
use Rattle.std.proofs.lemmas.Bool.{false≢true}
use Rattle.f11_commands.specs.AllCommand.{more_if}
use Rattle.f11_commands.specs.PuttingCounts.{CountsAll, CountsOne, counted, counted_all, has_refused}
use Rattle.f11_commands.specs.declared.put_counts.PutCounts.{PutCounts}

-- So many files were tried, and counted; where it stops behind one that isn't made, each was made.
pub record CountedSoFar (stops : Bool) (files : ℕ) (before now : PutCounts) : Type 0 where
  pub tried : List Bool
  pub size : length tried ≡ files
  pub made : stops ≡ true → tried ≡ replicate files true
  pub counts : now ≡ counted_all tried before

-- none that was made is one that wasn't
none-refused : (files : ℕ) (before : PutCounts) → before.refused ≡ 0 → (counted_all (replicate files true) before).refused ≡ 0
none-refused zero before none = none
none-refused (suc files) before none = none-refused files before none

was-made : (is_made : Bool) (now : PutCounts) → now.refused ≡ 0 → has_refused (counted is_made now) ≡ false → is_made ≡ true
was-made true now none goes = refl
was-made false now none goes = absurd (false≢true (sym goes ∙ ap (λ (n : ℕ). not (more_if true n == 0)) none))

was-refused : (is_made : Bool) (now : PutCounts) → now.refused ≡ 0 → has_refused (counted is_made now) ≡ true → is_made ≡ false
was-refused false now none stops = refl
was-refused true now none stops = absurd (false≢true (sym (ap (λ (n : ℕ). not (n == 0)) none) ∙ stops))

still-none : (stops : Bool) (files : ℕ) (before now : PutCounts) → (stops ≡ true → before.refused ≡ 0) → CountedSoFar stops files before now
    → stops ≡ true
    → now.refused ≡ 0
still-none stops files before now none so is =
    ap (λ (c : PutCounts). c.refused) so.counts
    ∙ ap (λ (tried : List Bool). (counted_all tried before).refused) (so.made is)
    ∙ none-refused files before (none is)

-- one more, behind which it doesn't stop
pub counted-more : (stops : Bool) (files : ℕ) (before now next : PutCounts) → (stops ≡ true → before.refused ≡ 0)
    → CountedSoFar stops files before now
    → CountsOne now next → (stops && has_refused next) ≡ false → CountedSoFar stops (files + 1) before next
counted-more stops files before now next none so one goes =
    let goes-on : stops ≡ true → has_refused (counted one.is_made now) ≡ false =
    λ is. ap has_refused (sym one.counts) ∙ ap (λ (b : Bool). b && has_refused next) (sym is) ∙ goes in
    record {
      tried = one.is_made ∷ so.tried;
      size = ap suc so.size ∙ sym (add-one files);
      made = λ is.
          ap (λ (b : Bool). b ∷ so.tried) (was-made one.is_made now (still-none stops files before now none so is) (goes-on is))
          ∙ ap (λ (tried : List Bool). true ∷ tried) (so.made is)
          ∙ ap (λ (n : ℕ). replicate n true) (sym (add-one files));
      counts = one.counts ∙ ap (counted one.is_made) so.counts;
    }

-- one more, behind which it stops
pub counted-stopped : (stops : Bool) (made files : ℕ) (before now next : PutCounts) → (stops ≡ true → before.refused ≡ 0)
    → CountedSoFar stops made before now
    → CountsOne now next → (stops && has_refused next) ≡ true → made < files → CountsAll stops files before next
counted-stopped false made files before now next none so one stopped below = absurd (false≢true stopped)
counted-stopped true made files before now next none so one stopped below =
    let refused = was-refused one.is_made now (still-none true made before now none so refl) (ap has_refused (sym one.counts) ∙ stopped) in
    record {
      tried = one.is_made ∷ so.tried;
      which = inr (made, below, ap (λ (b : Bool). b ∷ so.tried) refused ∙ ap (λ (tried : List Bool). false ∷ tried) (so.made refl));
      counts = one.counts ∙ ap (counted one.is_made) so.counts;
    }
