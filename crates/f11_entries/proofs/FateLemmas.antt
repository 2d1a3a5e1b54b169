-- What Enter makes of each file: the directory is changed and marked as it was, every other file stays.
use Rattle.std.proofs.Common.{◌≡◌, ℕ, ◌==◌, Bool, true, false, List, Option, Some, None, refl, ◌∙◌, ap, option_map, if◌then◌else◌}
use Rattle.f11_store.specs.declared.files.FileId.{FileId}
use Rattle.f11_store.specs.File.{File, zero_blocks}
use Rattle.f11_store.specs.Store.{Store, file_named}
use Rattle.f11_store.specs.Directory.{index_of_empty, needs_block, entry_count}
use Rattle.f11_store.specs.Changes.{with_entry, with_end_after, with_entry_at_end, grown_file, EntersAtEnd, EntersAt, Enters, Extends}
use Rattle.f11_store.proofs.StoreLemmas.{same_number}
use Rattle.f11_entries.specs.Writing.{EnterKeepsMarks}
use Rattle.f11_store.proofs.FateLaws.{Fate, fate-after, fate-change, gained-keeps, fate-set, mark-of-cleared, mark-stays}

-- after one more block
fate-in-block : (s grown s' : Store) (k i n : ℕ) (r : List ℕ) → Extends s k 1 grown → s' ≡ with_entry_at_end grown k i r → Fate s s' n
fate-in-block s grown s' k i n r grows h =
    fate-set s s' k n grows.before (with_end_after i (with_entry i r g)) grows.was refl
    (ap (λ b. b == 1) (mark-of-cleared grows.before.characteristics))
    (ap (λ (x : Store). x.file n) (h ∙ ap (λ (x : Store). with_entry_at_end x k i r) grows.store_is)
    ∙ rw (same_number k) (by_test (n == k) (s.file n)))
  where
    g : File
    g = grown_file s grows.before (zero_blocks 1) grows.added grows.pointers grows.room

    by_test : (b : Bool) (o : Option File) →
        (if b then option_map (λ f. with_end_after i (with_entry i r f)) (Some g) else if b then Some g else o)
        ≡ (if b then Some (with_end_after i (with_entry i r g)) else o)
    by_test true o = refl
    by_test false o = refl

fate-at-end : (b : Bool) (s s' : Store) (d : FileId) (i n : ℕ) (r : List ℕ) → EntersAtEnd b s d i r s' → Fate s s' n
fate-at-end false s s' d i n r h = fate-change s s' d.number n (λ f. with_end_after i (with_entry i r f)) (λ f. refl) (λ f. refl) h
fate-at-end true s s' d i n r (grown, h, e) =
    fate-after s h.ready s' n (gained-keeps s h.ready _ n h.gains) (fate-in-block h.ready grown s' d.number i n r h.makes e)

fate-at : (o : Option ℕ) (s s' : Store) (d : FileId) (n : ℕ) (r : List ℕ) → EntersAt o s d r s' → Fate s s' n
fate-at (Some i) s s' d n r h = fate-change s s' d.number n (with_entry i r) (λ f. refl) (λ f. refl) h
fate-at None s s' d n r h = fate-at-end (needs_block (file_named s d)) s s' d (entry_count (file_named s d)) n r h

pub fate-enter : (s s' : Store) (d : FileId) (n : ℕ) (r : List ℕ) → Enters s d r s' → Fate s s' n
fate-enter s s' d n r h = fate-at (index_of_empty (file_named s d)) s s' d n r h

pub enter_keeps_marks : EnterKeepsMarks
enter_keeps_marks s s' d id r m h was held = mark-stays s s' id m (fate-enter s s' d id.number r h) was held
