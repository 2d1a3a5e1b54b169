-- Enter by the writes that files offer: a block, then the attributes; and why it is refused.
use Rattle.std.specs.Prelude.{◌≡◌, ℕ, ◌+◌, ◌*◌, ◌<◌, ◌||◌, Bool, true, false, List, Option, Some, None, nat_lt}
use Rattle.std.specs.List.{slice_get}
use Rattle.f11_store.specs.declared.callers.Uic.{Uic}
use Rattle.f11_store.specs.declared.files.FileId.{FileId}
use Rattle.f11_store.specs.declared.refusals.Refusal.{Refusal}
use Rattle.f11_store.specs.declared.files.Change.TheVariants as change
use Rattle.f11_store.specs.declared.protection.Right.TheVariants as right
use Rattle.f11_store.specs.declared.requests.Request.TheVariants as request
use Rattle.f11_store.specs.File.{File, length_of, is_marked}
use Rattle.f11_store.specs.Store.{Store, file_named, is_held, is_accessed, bars_writing}
use Rattle.f11_store.specs.Directory.{empty_record, index_of_name, index_of_empty, entry_count, needs_block}
use Rattle.f11_store.specs.Directory.{is_directory, is_entered, with_bytes, with_end}
use Rattle.f11_store.specs.Causes.{is_bad, is_missing, lacks, first_of, extend_causes_if, first_refusal}
use Rattle.f11_store.specs.Changes.{with_change, with_block, with_replacement, after_remove, Enters}
use Rattle.f11_store.specs.Lags.{Work, one_part, file_changes, enter_work, work_if, LagsBy, Lags}
use Rattle.f11_store.specs.Accesses.{mark_of}
use Rattle.f11_entries.specs.Entering.{EnteringFrom}

-- the block with a record put in it
abbrev pub put_in : ℕ → ℕ → List ℕ → List ℕ → File → File
put_in number place block r = with_block (number + 1) (with_bytes block (16 * place) r)

-- the attributes of a file with the end moved past record i
abbrev pub end_put : File → ℕ → File → File
end_put g i = with_replacement (change.Attr (with_end g.attr (length_of g) (16 * (i + 1))))

-- while the block is written, while the attributes are, and the end
pub record EnteringBy (u s : Store) (d : FileId) (number place : ℕ) (block r : List ℕ) (o : Option ℕ) : Type 0 where
  pub putting : (t : Store) → LagsBy (one_part d.number (file_changes d.number (put_in number place block r))) t u →
      LagsBy (enter_work o s d r) t s
  pub moving : (t : Store) →
      LagsBy (one_part d.number (file_changes d.number (end_put (file_named u d) (32 * number + place)))) t
      (with_change u d.number (put_in number place block r)) →
      LagsBy (enter_work o s d r) t s
  pub enters : Enters s d r
      (with_change (with_change u d.number (put_in number place block r)) d.number (end_put (file_named u d) (32 * number + place)))

abbrev pub EnteringByWrites : Type 0
EnteringByWrites =
    (u s : Store) (d : FileId) (number place : ℕ) (block r : List ℕ) → is_missing u d ≡ false → place < 32 →
    slice_get (file_named u d).blocks number ≡ Some block → entry_count (file_named s d) ≡ 32 * number + place →
    EnteringFrom u s d (entry_count (file_named s d)) r (index_of_empty (file_named s d)) →
    EnteringBy u s d number place block r (index_of_empty (file_named s d))

-- the causes against Enter that are judged before room is asked for don't hold
pub record MayEnter (s : Store) (caller : Uic) (d : FileId) (name : List ℕ) (id : FileId) : Type 0 where
  pub good : (is_bad d || is_bad id) ≡ false
  pub own : nat_lt d.number 4 ≡ false
  pub there : is_missing s d ≡ false
  pub unmarked : is_marked (file_named s d) ≡ false
  pub may_write : lacks right.Write caller (file_named s d) ≡ false
  pub unheld : is_held bars_writing s d ≡ false
  pub directory : is_directory (file_named s d) ≡ true
  pub new_name : is_entered name (file_named s d) ≡ false

-- then only want of room stands against it
abbrev pub RoomIsAsked : Type 0
RoomIsAsked =
    (s : Store) (task : ℕ) (caller : Uic) (d : FileId) (name : List ℕ) (id : FileId) → MayEnter s caller d name id →
    first_refusal s task caller (request.Enter d name id) ≡ first_of (extend_causes_if (needs_block (file_named s d)) s (file_named s d) 1)

-- in place of an empty record: one write of its block
pub record EnteringByWrite (s : Store) (d : FileId) (number place : ℕ) (block r : List ℕ) (o : Option ℕ) : Type 0 where
  pub putting : (t : Store) → LagsBy (one_part d.number (file_changes d.number (put_in number place block r))) t s →
      LagsBy (enter_work o s d r) t s
  pub enters : Enters s d r (with_change s d.number (put_in number place block r))

abbrev pub EnteringInPlaceByWrite : Type 0
EnteringInPlaceByWrite =
    (s : Store) (d : FileId) (number place : ℕ) (block r : List ℕ) → is_missing s d ≡ false → place < 32 →
    slice_get (file_named s d).blocks number ≡ Some block → index_of_empty (file_named s d) ≡ Some (32 * number + place) →
    EnteringByWrite s d number place block r (index_of_empty (file_named s d))

-- Remove: one write of the block
pub record RemovingByWrite (s : Store) (task : ℕ) (caller : Uic) (d : FileId) (name : List ℕ) (number place : ℕ)
    (block unused : List ℕ) : Type 0 where
  pub putting : (t : Store) → LagsBy (one_part d.number (file_changes d.number (put_in number place block empty_record))) t s →
      Lags t s task caller (request.Remove d name) unused
  pub removes : with_change s d.number (put_in number place block empty_record) ≡ after_remove s d name

abbrev pub RemovingIsOneWrite : Type 0
RemovingIsOneWrite =
    (s : Store) (task : ℕ) (caller : Uic) (d : FileId) (name : List ℕ) (number place : ℕ) (block unused : List ℕ) →
    first_refusal s task caller (request.Remove d name) ≡ None → is_missing s d ≡ false → place < 32 →
    slice_get (file_named s d).blocks number ≡ Some block → index_of_name name (file_named s d) ≡ Some (32 * number + place) →
    RemovingByWrite s task caller d name number place block unused

-- what lags by the work of a call that may have been refused lags by that work
abbrev pub RefusedLagsToo : Type 0
RefusedLagsToo = (o : Option Refusal) (work : Work) (t s : Store) → LagsBy (work_if o work) t s → LagsBy work t s

-- Enter keeps the mark of every file
abbrev pub EnterKeepsMarks : Type 0
EnterKeepsMarks = (s s' : Store) (d id : FileId) (r : List ℕ) (m : Bool) → Enters s d r s' → mark_of s id ≡ Some m →
    is_accessed s' id ≡ true → mark_of s' id ≡ Some m
