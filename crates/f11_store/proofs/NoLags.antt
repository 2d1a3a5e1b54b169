-- Laws of what is no lag.
use Rattle.std.proofs.Common.{◌≡◌, ◌≢◌, ℕ, zero, suc, ◌+◌, ◌*◌, ◌/◌, ◌<◌, ◌==◌, ◌||◌, nat_lt, replicate, Bool, true, false, List, [], ◌∷◌}
use Rattle.std.proofs.Common.{◌++◌, Option, Some, None, length, append_assoc, take, map, fold, refl, sym, ◌∙◌, ap, subst, arith, nat_le}
use Rattle.std.proofs.Common.{length-append}
use Rattle.std.specs.Prelude.{All}
use Rattle.std.proofs.lemmas.Bool.Decides.{nat_tests}
use Rattle.std.proofs.lemmas.List.{take-map}
use Rattle.std.proofs.lemmas.List.Elements.{All-get_or, All-append, All-replicate}
use Rattle.f11_store.specs.declared.refusals.Refusal.{Refusal}
use Rattle.f11_store.specs.declared.requests.Request.TheVariants as request
use Rattle.f11_store.specs.File.{File, zero_blocks, zero_block}
use Rattle.f11_store.specs.Store.{Store, file_named}
use Rattle.f11_store.specs.declared.files.FileId.{FileId}
use Rattle.f11_store.specs.Directory.{entry_count, index_of_empty, needs_block, record_at, with_record, record_bytes}
use Rattle.f11_store.specs.Causes.{first_refusal, is_bad}
use Rattle.f11_store.specs.Headroom.{slots_first}
use Rattle.f11_store.specs.File.{need}
use Rattle.f11_store.specs.Changes.{with_change, with_entry, with_end_after}
use Rattle.f11_store.specs.Lags.{file_changes, after_slots, and_then, extend_work, grow_parts, slot_appears, with_part, Part, no_work}
use Rattle.f11_store.specs.Lags.{work_if, served_work, end_work, append_work, enter_work, with_no_mark, with_zero_block, extend_parts}
use Rattle.f11_store.specs.Lags.{with_parts, IsLike, AreLike, LagsBy}
use Rattle.f11_store.specs.Laws.{OthersAreEqual, NoPartsNoChange, RefusedIsStill, EndComesLast, IsStill, IsWhole}
use Rattle.f11_store.proofs.StoreLemmas.{none_first, none_rest, same_number}
use Rattle.f11_store.proofs.SlotsFirst.{no_index}
use Rattle.f11_store.proofs.RecordLemmas.{record_at-same}
use Rattle.f11_store.proofs.DirectoryLaws.{length-record_bytes, length-zero_block}
use Rattle.f11_store.proofs.LagLaws.{last_there}

pub others_are_equal : OthersAreEqual
others_are_equal work t s n lags out = lags.others n out

pub no_parts_no_change : NoPartsNoChange
no_parts_no_change work t s lags none = by_number lags.done (λ n. rw none at (lags.files n)) (rw none at lags.slots)
  where
    by_number : (done : ℕ) → ((n : ℕ) → AreLike (t.file n) ((with_parts s (take done [])).file n))
        → t.slots ≡ (with_parts s (take done [])).slots →
        ((n : ℕ) → AreLike (t.file n) (s.file n)) × (t.slots ≡ s.slots)
    by_number zero files slots = (files, slots)
    by_number (suc done) files slots = (files, slots)

-- nothing done leaves nothing behind
no_work_is_still : (t s : Store) → LagsBy no_work t s → IsStill s t
no_work_is_still t s lags = record {
  files = λ n. lags.others n refl;
  slots = same.1;
  last = λ n h. lags.no_header refl n (omega (arith, h, same.1)) ∙ last_there s n h;
  free_blocks = omega (arith, lags.free_blocks);
  headers = omega (arith, lags.headers);
}
  where
    same : ((n : ℕ) → AreLike (t.file n) (s.file n)) × (t.slots ≡ s.slots)
    same = no_parts_no_change no_work t s lags refl

pub refused_is_still : RefusedIsStill
refused_is_still t s task caller r block e refused lags =
    no_work_is_still t s (subst (λ o. LagsBy (work_if o (served_work s task caller r block)) t s) refused lags)

-- the record that was put at the end of the blocks, where there is room, or in one more block
put_at_end : (blocks : List (List ℕ)) (i : ℕ) (r : List ℕ) → All (λ b. length b ≡ 512) blocks → 16 * i < 512 * length blocks → length r ≡ 16
    →
    record_at (with_record blocks i r) i ≡ r
put_at_end blocks i r whole room sixteen =
    record_at-same blocks i r (omega (arith, room)) (All-get_or (λ b. length b ≡ 512) blocks (i / 32) [] (omega (arith, room)) whole)
    sixteen

-- a file after changes
abbrev after_changes : File → List (File → File) → File
after_changes g changes = fold (λ f change. change f) g changes

-- the file after parts that change it
file_after : (changes : List (File → File)) (s : Store) (k : ℕ) (g : File) → s.file k ≡ Some g →
    (with_parts s (map (file_changes k) changes)).file k ≡ Some (after_changes g changes)
file_after [] s k g there = there
file_after (change ∷ changes) s k g there =
    file_after changes (with_change s k change) k (change g) (rw (same_number k, there) refl)

-- parts that leave file k
Leave : ℕ → List Part → Type 0
Leave k [] = Unit {0}
Leave k (p ∷ ps) = ((u : Store) → (with_part u p).file k ≡ u.file k) × Leave k ps

leaves_none : (k : ℕ) → Leave k []
unfolding Leave
leaves_none k = tt

-- those of an index file that grows leave all others
slots_leave : (k n : ℕ) → Leave k (replicate n slot_appears)
unfolding Leave
slots_leave k zero = tt
slots_leave k (suc n) = (λ u. refl, slots_leave k n)

growth_leaves : (k n : ℕ) → (k == 1) ≡ false → Leave k (grow_parts n)
unfolding Leave grow_parts
growth_leaves k n other = (λ u. rw other refl, slots_leave k n)

-- after some of them, and then some changes of file k, it is the one with the first of these made
changes_behind :
    (front : List Part) (changes : List (File → File)) (done : ℕ) (s : Store) (k : ℕ) (g : File) → Leave k front → s.file k ≡ Some g →
    (m : ℕ) × ((with_parts s (take done (front ++ map (file_changes k) changes))).file k ≡ Some (after_changes g (take m changes)))
unfolding Leave
changes_behind [] changes done s k g leave there = (
  done,
  ap (λ (ps : List Part). (with_parts s ps).file k) (take-map (file_changes k) done changes)
      ∙ file_after (take done changes) s k g there,
)
changes_behind (p ∷ front) changes zero s k g leave there = (0, there)
changes_behind (p ∷ front) changes (suc done) s k g leave there =
    changes_behind front changes done (with_part s p) k g leave.1 (leave.0 s ∙ there)

-- a file of a lag is like the one with some first changes made
some_changes :
    (t s : Store) (k : ℕ) (f g : File) (front : List Part) (changes : List (File → File)) (done : ℕ) → Leave k front → s.file k ≡ Some g →
    t.file k ≡ Some f → AreLike (t.file k) ((with_parts s (take done (front ++ map (file_changes k) changes))).file k) →
    (m : ℕ) × IsLike f (after_changes g (take m changes))
some_changes t s k f g front changes done leave there is like =
    let behind = changes_behind front changes done s k g leave there in (
      behind.0,
      subst (λ (o : Option File). AreLike o (Some (after_changes g (take behind.0 changes)))) is
          (subst (λ (o : Option File). AreLike (t.file k) o) behind.1 like),
    )

-- the changes of a directory that gets a record at its end
abbrev end_changes : ℕ → List ℕ → List (File → File)
end_changes i r = with_entry i r ∷ with_end_after i ∷ []

-- where the attributes changed the record was put before
ends_in_place : (f g : File) (i : ℕ) (r : List ℕ) (done : ℕ) → IsLike f (after_changes g (take done (end_changes i r))) → f.attr ≢ g.attr →
    f.blocks ≡ with_record g.blocks i r
ends_in_place f g i r zero like moved = absurd (moved like.attr)
ends_in_place f g i r (suc zero) like moved = absurd (moved like.attr)
ends_in_place f g i r (suc (suc zero)) like moved = like.blocks
ends_in_place f g i r (suc (suc (suc n))) like moved = like.blocks

ends_in_new_block : (f g : File) (i : ℕ) (r : List ℕ) (done : ℕ) →
    IsLike f (after_changes g (take done (with_no_mark ∷ with_zero_block ∷ end_changes i r))) → f.attr ≢ g.attr →
    f.blocks ≡ with_record (g.blocks ++ zero_blocks 1) i r
ends_in_new_block f g i r zero like moved = absurd (moved like.attr)
ends_in_new_block f g i r (suc zero) like moved = absurd (moved like.attr)
ends_in_new_block f g i r (suc (suc zero)) like moved = absurd (moved like.attr)
ends_in_new_block f g i r (suc (suc (suc zero))) like moved = absurd (moved like.attr)
ends_in_new_block f g i r (suc (suc (suc (suc zero)))) like moved = like.blocks
ends_in_new_block f g i r (suc (suc (suc (suc (suc n))))) like moved = like.blocks

-- the parts of one more block and a record in it
new_block_parts : (k : ℕ) (i : ℕ) (r : List ℕ)
    → extend_parts k 1 ++ (end_work k i r).parts ≡ map (file_changes k) (with_no_mark ∷ with_zero_block ∷ end_changes i r)
unfolding extend_parts
new_block_parts k i r = refl

-- whether a block is needed where no record is empty
needs_block-full : (g : File) → index_of_empty g ≡ None → needs_block g ≡ nat_le (512 * length g.blocks) (16 * entry_count g)
needs_block-full g none = rw none refl

-- blocks of 512 bytes, and one of zeros
whole_and_zeros : (blocks : List (List ℕ)) → All (λ b. length b ≡ 512) blocks → All (λ b. length b ≡ 512) (blocks ++ zero_blocks 1)
unfolding zero_blocks
whole_and_zeros blocks whole =
    All-append (λ b. length b ≡ 512) blocks (zero_block ∷ []) whole (All-replicate (λ b. length b ≡ 512) 1 zero_block length-zero_block)

length-and_zeros : (blocks : List (List ℕ)) → length (blocks ++ zero_blocks 1) ≡ length blocks + 1
unfolding zero_blocks
length-and_zeros blocks = length-append blocks (zero_block ∷ [])

-- the work of a block more and a record in it, after slots or without
in_block_lags :
    (more : ℕ) (t s : Store) (k : ℕ) (f g : File) (r : List ℕ) → IsWhole g → length r ≡ 16 → (k == 1) ≡ false → s.file k ≡ Some g
    → t.file k ≡ Some f →
    f.attr ≢ g.attr → LagsBy (and_then (after_slots more s (extend_work k g.room 1)) (end_work k (entry_count g) r)) t s →
    record_at f.blocks (entry_count g) ≡ r
in_block_lags more t s k f g r whole sixteen other there is moved lags = ap (λ bs. record_at bs (entry_count g)) (put more lags) ∙ at_end
  where
    changes : List (File → File)
    changes = with_no_mark ∷ with_zero_block ∷ end_changes (entry_count g) r

    parts : List Part
    parts = extend_parts k 1 ++ (end_work k (entry_count g) r).parts

    behind : (front : List Part) → Leave k front → (done : ℕ) → AreLike (t.file k) ((with_parts s (take done (front ++ parts))).file k) →
        f.blocks ≡ with_record (g.blocks ++ zero_blocks 1) (entry_count g) r
    behind front leave done like =
        let made = some_changes t s k f g front changes done leave there is
        (subst (λ ps. AreLike (t.file k) ((with_parts s (take done (front ++ ps))).file k)) (new_block_parts k (entry_count g) r) like) in
        ends_in_new_block f g (entry_count g) r made.0 made.1 moved

    put : (more : ℕ) → LagsBy (and_then (after_slots more s (extend_work k g.room 1)) (end_work k (entry_count g) r)) t s →
        f.blocks ≡ with_record (g.blocks ++ zero_blocks 1) (entry_count g) r
    put zero lags = behind [] (leaves_none k) lags.done (lags.files k)
    put (suc n) lags = behind (grow_parts (suc n)) (growth_leaves k (suc n) other) lags.done
        (subst (λ ps. AreLike (t.file k) ((with_parts s (take lags.done ps)).file k))
        (append_assoc (grow_parts (suc n)) (extend_parts k 1) (end_work k (entry_count g) r).parts) (lags.files k))

    at_end : record_at (with_record (g.blocks ++ zero_blocks 1) (entry_count g) r) (entry_count g) ≡ r
    at_end = put_at_end (g.blocks ++ zero_blocks 1) (entry_count g) r (whole_and_zeros g.blocks whole.blocks)
        (rw (length-and_zeros g.blocks) (omega arith)) sixteen

appended_lags :
    (b : Bool) (t s : Store) (d : FileId) (f : File) (r : List ℕ) → needs_block (file_named s d) ≡ b
    → index_of_empty (file_named s d) ≡ None →
    IsWhole (file_named s d) → length r ≡ 16 → (d.number == 1) ≡ false → s.file d.number ≡ Some (file_named s d) → t.file d.number ≡ Some f
    →
    f.attr ≢ (file_named s d).attr → LagsBy (append_work b s d (entry_count (file_named s d)) r) t s →
    record_at f.blocks (entry_count (file_named s d)) ≡ r
appended_lags false t s d f r needs none whole sixteen other there is moved lags =
    let made = some_changes t s d.number f g [] (end_changes (entry_count g) r) lags.done (leaves_none d.number) there is
    (lags.files d.number) in
    ap (λ bs. record_at bs (entry_count g)) (ends_in_place f g (entry_count g) r made.0 made.1 moved)
    ∙ put_at_end g.blocks (entry_count g) r whole.blocks room sixteen
  where
    g : File
    g = file_named s d

    room : 16 * entry_count g < 512 * length g.blocks
    room =
        let past : nat_le (512 * length g.blocks) (16 * entry_count g) ≡ false = sym (needs_block-full g none) ∙ needs in
        grind (arith, nat_tests)
appended_lags true t s d f r needs none whole sixteen other there is moved lags =
    in_block_lags (slots_first s (need (file_named s d).room 1)) t s d.number f (file_named s d) r whole sixteen other there is moved lags

pub end_comes_last : EndComesLast
end_comes_last t s task caller d name id block f whole five there none is moved lags =
    by_refusal (first_refusal s task caller (request.Enter d name id)) refl lags
  where
    served : (d.number == 1) ≡ false → LagsBy (enter_work (index_of_empty (file_named s d)) s d (record_bytes id name)) t s →
        record_at f.blocks (entry_count (file_named s d)) ≡ record_bytes id name
    served other h =
        appended_lags (needs_block (file_named s d)) t s d f (record_bytes id name) refl none whole
        (length-record_bytes id name five) other there is moved
        (subst (λ o. LagsBy (enter_work o s d (record_bytes id name)) t s) none h)

    by_refusal : (o : Option Refusal) → first_refusal s task caller (request.Enter d name id) ≡ o
        → LagsBy (work_if o (served_work s task caller (request.Enter d name id) block)) t s →
        record_at f.blocks (entry_count (file_named s d)) ≡ record_bytes id name
    by_refusal None e h = served (no_index d (none_first (nat_lt d.number 4) _ _ (none_rest (is_bad d || is_bad id) _ _ e))) h
    by_refusal (Some x) e h =
        let same : Some f ≡ Some (file_named s d) = sym is ∙ (no_work_is_still t s h).files d.number ∙ there in
        let equal : f ≡ file_named s d = cc in
        absurd (moved (ap (λ (x : File). x.attr) equal))
