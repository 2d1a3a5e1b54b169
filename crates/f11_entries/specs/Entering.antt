-- What stands while a record is entered: Extend where a block more is needed, then a write of the record, then one of the end (profile).
use Rattle.std.specs.Prelude.{◌≡◌, ℕ, ◌+◌, ◌*◌, ◌/◌, ◌%◌, ◌==◌, true, false, List, [], Option, Some, None, slice_index_or}
use Rattle.f11_store.specs.declared.callers.Uic.{Uic}
use Rattle.f11_store.specs.declared.files.FileId.{FileId}
use Rattle.f11_store.specs.declared.files.Change.TheVariants as change
use Rattle.f11_store.specs.declared.requests.Request.TheVariants as request
use Rattle.f11_store.specs.File.{File, length_of}
use Rattle.f11_store.specs.Store.{Store, file_named}
use Rattle.f11_store.specs.Directory.{index_of_empty, entry_count, needs_block, record_bytes, with_bytes, with_end}
use Rattle.f11_store.specs.Causes.{first_refusal}
use Rattle.f11_store.specs.Changes.{with_change, with_block, with_entry, with_end_after, with_replacement, Lengthens, Enters}
use Rattle.f11_store.specs.Lags.{file_changes, one_part, lengthen_work, enter_work, LagsBy, Lags}

-- in place of an empty record: one write
pub record EnteringIn (s : Store) (d : FileId) (i : ℕ) (r : List ℕ) (o : Option ℕ) : Type 0 where
  pub entry : (t : Store) → LagsBy (one_part d.number (file_changes d.number (with_entry i r))) t s →
      LagsBy (enter_work o s d r) t s
  pub enters : Enters s d r (with_change s d.number (with_entry i r))

abbrev pub EnteringInPlace : Type 0
EnteringInPlace =
    (s : Store) (d : FileId) (i : ℕ) (r : List ℕ) → index_of_empty (file_named s d) ≡ Some i →
    EnteringIn s d i r (index_of_empty (file_named s d))

-- at the end of u, which is s or s with one more block of the directory: a write of a block, then one of a header
pub record EnteringFrom (u s : Store) (d : FileId) (i : ℕ) (r : List ℕ) (o : Option ℕ) : Type 0 where
  pub entry : (t : Store) → LagsBy (one_part d.number (file_changes d.number (with_entry i r))) t u →
      LagsBy (enter_work o s d r) t s
  pub end : (t : Store) → LagsBy (one_part d.number (file_changes d.number (with_end_after i))) t
      (with_change u d.number (with_entry i r)) →
      LagsBy (enter_work o s d r) t s
  pub enters : Enters s d r (with_change (with_change u d.number (with_entry i r)) d.number (with_end_after i))

abbrev pub EnteringAtEnd : Type 0
EnteringAtEnd =
    (s : Store) (d : FileId) (r : List ℕ) → index_of_empty (file_named s d) ≡ None → needs_block (file_named s d) ≡ false →
    EnteringFrom s s d (entry_count (file_named s d)) r (index_of_empty (file_named s d))

-- what lags by Extend lags by Enter, and then as above; the directory is another file than the index file
abbrev pub EnteringInNewBlock : Type 0
EnteringInNewBlock =
    (s : Store) (d : FileId) (r : List ℕ) → (d.number == 1) ≡ false → index_of_empty (file_named s d) ≡ None →
    needs_block (file_named s d) ≡ true →
    ((t : Store) → LagsBy (lengthen_work s d 1) t s → LagsBy (enter_work (index_of_empty (file_named s d)) s d r) t s)
    × ((grown : Store) → Lengthens s d 1 grown →
    EnteringFrom grown s d (entry_count (file_named s d)) r (index_of_empty (file_named s d)))

-- the work of Enter is that of the request
abbrev pub EnterLags : Type 0
EnterLags =
    (t s : Store) (task : ℕ) (caller : Uic) (d : FileId) (name : List ℕ) (id : FileId) (block : List ℕ) →
    first_refusal s task caller (request.Enter d name id) ≡ None →
    LagsBy (enter_work (index_of_empty (file_named s d)) s d (record_bytes id name)) t s →
    Lags t s task caller (request.Enter d name id) block

-- a write of the block with the record put is the entry
abbrev pub EntryIsBlock : Type 0
EntryIsBlock =
    (f : File) (i : ℕ) (r : List ℕ) →
    with_block (i / 32 + 1) (with_bytes (slice_index_or f.blocks (i / 32) []) (16 * (i % 32)) r) f ≡ with_entry i r f

-- a write of the attributes with the end moved is the end moved
abbrev pub EndIsAttr : Type 0
EndIsAttr =
    (f : File) (i : ℕ) → with_replacement (change.Attr (with_end f.attr (length_of f) (16 * (i + 1)))) f ≡ with_end_after i f
