-- Laws of names that are entered, found and removed.
use Rattle.std.proofs.Common.{◌≡◌, ◌≢◌, ℕ, ◌+◌, ◌-◌, ◌*◌, ◌/◌, ◌%◌, ◌<◌, ◌≤◌, ◌==◌, ◌||◌, Bool, true, false, not, List, [], ◌∷◌, ◌++◌}
use Rattle.std.proofs.Common.{Option, Some, None, Result, Ok, Err, length, take, drop, get_or, find, nat_eq, nat_lt, nat_le, is_none}
use Rattle.std.proofs.Common.{unwrap_or, if◌then◌else◌, refl, sym, ◌∙◌, ap, subst, arith, length-append}
use Rattle.std.specs.Prelude.{All, position}
use Rattle.std.specs.List.{range_with_len, position_or_len}
use lib.Pointwise.{pointwise}
use Rattle.std.proofs.lemmas.Bool.{ltb-true}
use Rattle.std.proofs.lemmas.Bool.Decides.{nat_tests}
use Rattle.std.proofs.lemmas.List.{length-take-le, length-set, get_or-append-add, get_or_append_left, length-map, length-replicate}
use Rattle.std.proofs.lemmas.List.Elements.{All-get_or, All-append, All-replicate}
use Rattle.std.proofs.lemmas.List.FromFn.{length-range_with_len}
use Rattle.f11_store.specs.declared.callers.Uic.{Uic}
use Rattle.f11_store.specs.declared.files.FileId.{FileId}
use Rattle.f11_store.specs.declared.refusals.Refusal.{Refusal}
use Rattle.f11_store.specs.declared.refusals.Refusal.TheVariants.{BadArgument, SystemFile, NoSuchFile, Marked, NoPrivilege, Conflict}
use Rattle.f11_store.specs.declared.refusals.Refusal.TheVariants.{NotDirectory, NoSuchEntry, DuplicateName}
use Rattle.f11_store.specs.declared.protection.Right.TheVariants as right
use Rattle.f11_store.specs.declared.requests.Reply.{Reply}
use Rattle.f11_store.specs.declared.requests.Reply.TheVariants as reply
use Rattle.f11_store.specs.declared.requests.Request.TheVariants as request
use Rattle.f11_store.specs.File.{File, no_file, is_marked, stated_end, zero_block, zero_blocks}
use Rattle.f11_store.specs.Store.{Store, file_of, file_named, is_held, bars_writing}
use Rattle.f11_store.specs.Directory.{is_directory, record_in, record_at, entry_count, entries_of, record_id, record_name, is_empty}
use Rattle.f11_store.specs.Directory.{has_name, is_entered, index_of_empty, needs_block, word_bytes, long_bytes, record_bytes, empty_record}
use Rattle.f11_store.specs.Directory.{with_record, with_end}
use Rattle.f11_store.specs.Causes.{Cause, ◌⇐◌, first_of, is_bad, is_missing, lacks, extend_causes_if, first_refusal}
use Rattle.f11_store.specs.Changes.{with_change, with_entry, with_end_after, with_entry_at_end, grown_file, with_grown_file, EntersAtEnd}
use Rattle.f11_store.specs.Changes.{EntersAt, Extends}
use Rattle.f11_store.specs.Step.{Step, MayRefuse}
use Rattle.f11_store.specs.Laws.{IsWhole, IsFiveWords, IsFound, EnteredIsFound, StandingIsDuplicate, RemovedIsEmpty}
use Rattle.f11_store.proofs.SlotsFirst.{gained-is-ready, no_index, of-stays}
use Rattle.f11_store.proofs.StoreLemmas.{same_number, other_number, file_named-changed, file_named-there}
use Rattle.f11_store.proofs.RecordLemmas.{record_at-same, record_at-other, none_passes, first_found, some_passes}

-- where no cause against Remove holds, the first against Enter is that the name stands
duplicate_first :
    (a b c d e f g i bad : Bool) (rest : List Cause) →
    first_of ((BadArgument ⇐ a) ∷ (SystemFile ⇐ b) ∷ (NoSuchFile ⇐ c) ∷ (Marked ⇐ d) ∷ (NoPrivilege ⇐ e) ∷ (Conflict ⇐ f)
    ∷ (NotDirectory ⇐ g) ∷ (NoSuchEntry ⇐ not i) ∷ []) ≡ None → bad ≡ false →
    first_of ((BadArgument ⇐ (a || bad)) ∷ (SystemFile ⇐ b) ∷ (NoSuchFile ⇐ c) ∷ (Marked ⇐ d) ∷ (NoPrivilege ⇐ e) ∷ (Conflict ⇐ f)
    ∷ (NotDirectory ⇐ g) ∷ (DuplicateName ⇐ i) ∷ rest) ≡ Some DuplicateName
duplicate_first false false false false false false false true false rest h k = refl
duplicate_first false false false false false false false true true rest h k = absurd (cc)
duplicate_first false false false false false false false false bad rest h k = absurd (cc)
duplicate_first true b c d e f g i bad rest h k = absurd (cc)
duplicate_first false true c d e f g i bad rest h k = absurd (cc)
duplicate_first false false true d e f g i bad rest h k = absurd (cc)
duplicate_first false false false true e f g i bad rest h k = absurd (cc)
duplicate_first false false false false true f g i bad rest h k = absurd (cc)
duplicate_first false false false false false true g i bad rest h k = absurd (cc)
duplicate_first false false false false false false true i bad rest h k = absurd (cc)

pub standing_is_duplicate : StandingIsDuplicate
standing_is_duplicate s task caller d name id h good =
    duplicate_first (is_bad d) (nat_lt d.number 4) (is_missing s d) (is_marked (file_named s d)) (lacks right.Write caller (file_named s d))
    (is_held bars_writing s d) (not (is_directory (file_named s d))) (is_entered name (file_named s d)) (is_bad id)
    (extend_causes_if (needs_block (file_named s d)) s (file_named s d) 1) h good

-- what a served Enter tells: the identification is good, the directory is no file of the volume's own, and there, the name doesn't stand
entered_causes :
    (a bad b c d e f g i : Bool) (rest : List Cause) →
    first_of ((BadArgument ⇐ (a || bad)) ∷ (SystemFile ⇐ b) ∷ (NoSuchFile ⇐ c) ∷ (Marked ⇐ d) ∷ (NoPrivilege ⇐ e) ∷ (Conflict ⇐ f)
    ∷ (NotDirectory ⇐ g) ∷ (DuplicateName ⇐ i) ∷ rest) ≡ None →
    (bad ≡ false) × (b ≡ false) × (c ≡ false) × (i ≡ false)
entered_causes false false false false false false false false false rest h = (refl, refl, refl, refl)
entered_causes true bad b c d e f g i rest h = absurd (cc)
entered_causes false true b c d e f g i rest h = absurd (cc)
entered_causes false false true c d e f g i rest h = absurd (cc)
entered_causes false false false true d e f g i rest h = absurd (cc)
entered_causes false false false false true e f g i rest h = absurd (cc)
entered_causes false false false false false true f g i rest h = absurd (cc)
entered_causes false false false false false false true g i rest h = absurd (cc)
entered_causes false false false false false false false true i rest h = absurd (cc)
entered_causes false false false false false false false false true rest h = absurd (cc)

-- what a served Remove tells: the directory is there
removed_causes :
    (a b c : Bool) (rest : List Cause) →
    first_of ((BadArgument ⇐ a) ∷ (SystemFile ⇐ b) ∷ (NoSuchFile ⇐ c) ∷ rest) ≡ None → c ≡ false
removed_causes false false false rest h = refl
removed_causes true b c rest h = absurd (cc)
removed_causes false true c rest h = absurd (cc)
removed_causes false false true rest h = absurd (cc)

-- where the name stands, Find isn't refused for want of it
pub found_causes :
    (a b c d e f i : Bool) (x : Refusal) → i ≡ true →
    first_of ((BadArgument ⇐ a) ∷ (SystemFile ⇐ b) ∷ (NoSuchFile ⇐ c) ∷ (Marked ⇐ d) ∷ (NoPrivilege ⇐ e)
    ∷ (NotDirectory ⇐ f) ∷ (NoSuchEntry ⇐ not i) ∷ []) ≡ Some x → x ≢ NoSuchEntry
found_causes a b c d e f false x k h = absurd (cc)
found_causes true b c d e f true x k h = λ n. cc
found_causes false true c d e f true x k h = λ n. cc
found_causes false false true d e f true x k h = λ n. cc
found_causes false false false true e f true x k h = λ n. cc
found_causes false false false false true f true x k h = λ n. cc
found_causes false false false false false true true x k h = λ n. cc
found_causes false false false false false false true x k h = absurd (cc)

pub refused_otherwise :
    (o : Option Refusal) (e : Refusal) → ((x : Refusal) → o ≡ Some x → x ≢ NoSuchEntry) →
    MayRefuse o false false e → e ≢ NoSuchEntry
refused_otherwise None e h k = absurd k
refused_otherwise (Some x) e h k = λ n. h x refl (sym k ∙ n)

-- the words of a record are read back
word_read : (n : ℕ) → n % 256 + 256 * (n / 256) ≡ n
word_read n = omega arith

-- a list of five words
pub five_words : (name : List ℕ) → IsFiveWords name →
    name ≡ get_or name 0 0 ∷ get_or name 1 0 ∷ get_or name 2 0 ∷ get_or name 3 0 ∷ get_or name 4 0 ∷ []
five_words (a ∷ b ∷ c ∷ d ∷ e ∷ []) h = refl
five_words [] h = absurd (omega (arith, h))
five_words (a ∷ []) h = absurd (omega (arith, h))
five_words (a ∷ b ∷ []) h = absurd (omega (arith, h))
five_words (a ∷ b ∷ c ∷ []) h = absurd (omega (arith, h))
five_words (a ∷ b ∷ c ∷ d ∷ []) h = absurd (omega (arith, h))
five_words (a ∷ b ∷ c ∷ d ∷ e ∷ f ∷ rest) h = absurd (omega (arith, h))

-- a list is the same as itself
pointwise_same : (xs : List ℕ) → pointwise nat_eq xs xs ≡ true
pointwise_same [] = refl
pointwise_same (x ∷ xs) = rw (same_number x) (pointwise_same xs)

-- the record of five words under a name
record_of_five : (id : FileId) (a b c d e : ℕ) → is_bad id ≡ false
    → has_name (a ∷ b ∷ c ∷ d ∷ e ∷ []) (record_bytes id (a ∷ b ∷ c ∷ d ∷ e ∷ [])) ≡ true
unfolding has_name record_bytes
record_of_five id a b c d e good =
    rw (word_read id.number, number_of (id.number == 0) _ good, word_read a, word_read b, word_read c, word_read d, word_read e)
    (pointwise_same (a ∷ b ∷ c ∷ d ∷ e ∷ []))
  where
    number_of : (b c : Bool) → (b || c) ≡ false → b ≡ false
    number_of false c h = refl
    number_of true c h = absurd (cc)

-- the record of a file has its name
pub has_name-record_bytes :
    (id : FileId) (name : List ℕ) → is_bad id ≡ false → IsFiveWords name → has_name name (record_bytes id name) ≡ true
has_name-record_bytes id name good five =
    subst (λ (n : List ℕ). has_name n (record_bytes id n) ≡ true) (sym (five_words name five)) (record_of_five id _ _ _ _ _ good)

-- the record of a file has its identification
pub record_id-record_bytes : (id : FileId) (name : List ℕ) → record_id (record_bytes id name) ≡ id
unfolding record_bytes
record_id-record_bytes id name = rw (word_read id.number, word_read id.sequence, word_read id.volume) refl

-- and its words
record_name-five : (id : FileId) (a b c d e : ℕ) → record_name (record_bytes id (a ∷ b ∷ c ∷ d ∷ e ∷ [])) ≡ a ∷ b ∷ c ∷ d ∷ e ∷ []
unfolding record_bytes
record_name-five id a b c d e = rw (word_read a, word_read b, word_read c, word_read d, word_read e) refl

pub record_name-record_bytes : (id : FileId) (name : List ℕ) → IsFiveWords name → record_name (record_bytes id name) ≡ name
record_name-record_bytes id name five =
    subst (λ (n : List ℕ). record_name (record_bytes id n) ≡ n) (sym (five_words name five)) (record_name-five id _ _ _ _ _)

length-five : (id : FileId) (a b c d e : ℕ) → length (record_bytes id (a ∷ b ∷ c ∷ d ∷ e ∷ [])) ≡ 16
unfolding record_bytes
length-five id a b c d e = refl

-- it has 16 bytes
pub length-record_bytes : (id : FileId) (name : List ℕ) → IsFiveWords name → length (record_bytes id name) ≡ 16
length-record_bytes id name five =
    subst (λ (n : List ℕ). length (record_bytes id n) ≡ 16) (sym (five_words name five)) (length-five id _ _ _ _ _)

-- two words are read back
long_read : (n : ℕ) → 65536 * (n / 65536 % 256 + 256 * (n / 65536 / 256)) + (n % 65536 % 256 + 256 * (n % 65536 / 256)) ≡ n
long_read n = omega arith

-- the block that an end is in, and the byte in it
end_read : (n : ℕ) → (if n / 512 + 1 == 0 then 0 else (n / 512 + 1 - 1) * 512 + n % 512) ≡ n
end_read n = by_test (n / 512 + 1 == 0) (other_number (n / 512 + 1) 0 (λ e. absurd (omega (arith, e))))
  where
    by_test : (b : Bool) → b ≡ false → (if b then 0 else (n / 512 + 1 - 1) * 512 + n % 512) ≡ n
    by_test false e = omega arith
    by_test true e = absurd (cc)

-- the end that was written is stated
stated_end-with_end : (attr : List ℕ) (allocation end : ℕ) → length attr ≡ 32 → stated_end (with_end attr allocation end) ≡ end
unfolding stated_end with_end
stated_end-with_end attr allocation end long =
    rw (at 4, at 5, at 6, at 7, at 8, at 9, long_read (end / 512 + 1), word_read (end % 512)) (end_read end)
  where
    front : List ℕ
    front = take 4 attr

    rest : List ℕ
    rest = (long_bytes allocation ++ (long_bytes (end / 512 + 1) ++ word_bytes (end % 512))) ++ drop 14 attr

    at : (k : ℕ) → get_or (front ++ rest) (4 + k) 0 ≡ get_or rest k 0
    at k =
        subst (λ (n : ℕ). get_or (front ++ rest) (n + k) 0 ≡ get_or rest k 0) (length-take-le 4 attr (omega (arith, long)))
        (get_or-append-add front rest k 0)

-- the record that was put is found, where no earlier one has the name
found_at :
    (f f' : File) (blocks : List (List ℕ)) (i : ℕ) (name r : List ℕ) → f'.blocks ≡ with_record blocks i r →
    i < entry_count f' → i ≤ entry_count f → ((j : ℕ) → j < entry_count f → record_at blocks j ≡ record_at f.blocks j) →
    i / 32 < length blocks → length (get_or blocks (i / 32) []) ≡ 512 → length r ≡ 16 →
    is_entered name f ≡ false → has_name name r ≡ true → find (has_name name) (entries_of f') ≡ Some r
unfolding entries_of
found_at f f' blocks i name r put within low same there whole sixteen none has =
    first_found (has_name name) (record_at f'.blocks) 0 (entry_count f') i (omega arith) (omega (arith, within)) (rw here has)
    (λ j zero below. rw (earlier j below)
    (none_passes (has_name name) (record_at f.blocks) 0 (entry_count f) j none zero (omega (arith, low, below))))
    ∙ ap Some here
  where
    here : record_at f'.blocks i ≡ r
    here = ap (λ b. record_at b i) put ∙ record_at-same blocks i r there whole sixteen

    earlier : (j : ℕ) → j < i → record_at f'.blocks j ≡ record_at f.blocks j
    earlier j below =
        ap (λ b. record_at b j) put
        ∙ record_at-other blocks i j r (λ e. absurd (omega (arith, below, e))) there whole sixteen
        ∙ same j (omega (arith, low, below))

-- a record found in the directory, which is the one that was entered
pub record IsThere (name : List ℕ) (f : File) (r : List ℕ) : Type 0 where
  pub found : find (has_name name) (entries_of f) ≡ Some r

-- what Find then answers
found_answers :
    (s : Store) (other : ℕ) (reader : Uic) (d : FileId) (name : List ℕ) (id : FileId) (before : List ℕ) (result : Result Reply Refusal)
    (s' : Store) (after : List ℕ) →
    IsThere name (file_named s d) (record_bytes id name) → Step s other reader (request.Find d name) before result s' after
    → IsFound id result
found_answers s other reader d name id before (Ok a) s' after there k =
    k.reply_is ∙ ap (λ o. reply.Found (record_id (unwrap_or o []))) there.found ∙ ap reply.Found (record_id-record_bytes id name)
found_answers s other reader d name id before (Err e) s' after there k =
    refused_otherwise (first_refusal s other reader (request.Find d name)) e
    (λ x h. found_causes (is_bad d) (nat_lt d.number 4) (is_missing s d) (is_marked (file_named s d))
    (lacks right.Read reader (file_named s d))
    (not (is_directory (file_named s d))) (is_entered name (file_named s d)) x
    (some_passes (has_name name) (entries_of (file_named s d)) (record_bytes id name) there.found) h)
    k.may_refuse

-- a place in the list is within it
pub placed : (p : List ℕ → Bool) (xs : List (List ℕ)) (i : ℕ) → position p xs ≡ Some i → i < length xs
placed p xs i h = by_test (nat_lt (position_or_len p xs) (length xs)) refl h
  where
    by_test : (b : Bool) → nat_lt (position_or_len p xs) (length xs) ≡ b → (if b then Some (position_or_len p xs) else None) ≡ Some i
        → i < length xs
    by_test true t e = let same : position_or_len p xs ≡ i = cc in subst (λ (n : ℕ). n < length xs) same (ltb-true _ _ t)
    by_test false t e = absurd (cc)

pub length-entries_of : (f : File) → length (entries_of f) ≡ entry_count f
unfolding entries_of
length-entries_of f = length-map (range_with_len 0 (entry_count f)) (record_at f.blocks) ∙ length-range_with_len 0 (entry_count f)

length-with_record : (blocks : List (List ℕ)) (i : ℕ) (r : List ℕ) → length (with_record blocks i r) ≡ length blocks
unfolding with_record
length-with_record blocks i r = length-set blocks (i / 32) _

-- a record that is replaced leaves the number of records
count-with_entry : (f : File) (i : ℕ) (r : List ℕ) → entry_count (with_entry i r f) ≡ entry_count f
count-with_entry f i r = rw (length-with_record f.blocks i r) refl

-- a directory's records stand in its blocks
in_blocks : (f : File) (i : ℕ) → i < entry_count f → i / 32 < length f.blocks
in_blocks f i h = omega (arith, h)

pub removed_is_empty : RemovedIsEmpty
removed_is_empty s task caller d name block a s' block' i whole h there =
    subst (λ (f : File). (entry_count f ≡ entry_count (file_named s d)) × (record_at f.blocks i ≡ empty_record)
    × ((j : ℕ) → j ≢ i → record_at f.blocks j ≡ record_at (file_named s d).blocks j)) (sym after) (
      count-with_entry (file_named s d) i empty_record,
      record_at-same (file_named s d).blocks i empty_record in_it full refl,
      λ j differs. record_at-other (file_named s d).blocks i j empty_record differs in_it full refl,
    )
  where
    missing : is_missing s d ≡ false
    missing = removed_causes (is_bad d) (nat_lt d.number 4) (is_missing s d)
        ((Marked ⇐ is_marked (file_named s d)) ∷ (NoPrivilege ⇐ lacks right.Write caller (file_named s d)) ∷
        (Conflict ⇐ is_held bars_writing s d)
        ∷ (NotDirectory ⇐ not (is_directory (file_named s d))) ∷ (NoSuchEntry ⇐ not (is_entered name (file_named s d))) ∷ []) h.no_cause

    after : file_named s' d ≡ with_entry i empty_record (file_named s d)
    after =
        ap (λ t. file_named t d) (h.changes ∙ ap (λ o. with_change s d.number (with_entry (unwrap_or o 0) empty_record)) there)
        ∙ file_named-changed s d (with_entry i empty_record) (λ f. refl) missing

    in_it : i / 32 < length (file_named s d).blocks
    in_it =
        in_blocks (file_named s d) i
        (subst (λ (n : ℕ). i < n) (length-entries_of (file_named s d)) (placed (has_name name) (entries_of (file_named s d)) i there))

    full : length (get_or (file_named s d).blocks (i / 32) []) ≡ 512
    full = All-get_or (λ b. length b ≡ 512) (file_named s d).blocks (i / 32) [] in_it whole.blocks

-- a record put past the others, with the end moved past it, is one of the records
count-with_entry_at_end :
    (g : File) (i : ℕ) (r : List ℕ) → length g.attr ≡ 32 → 16 * (i + 1) ≤ 512 * length g.blocks →
    i < entry_count (with_end_after i (with_entry i r g))
count-with_entry_at_end g i r long within =
    rw (stated_end-with_end g.attr (length (with_record g.blocks i r)) (16 * (i + 1)) long, length-with_record g.blocks i r)
    (omega (arith, within))

-- a block of zeros is as long as any
pub length-zero_block : length zero_block ≡ 512
unfolding zero_block
length-zero_block = length-replicate {A = ℕ} 512 0

-- records below the end of a file that was lengthened are as they were
record_at-grown_file : (f : File) (more : List (List ℕ)) (j : ℕ) → j < entry_count f → record_at (f.blocks ++ more) j ≡ record_at f.blocks j
unfolding record_at
record_at-grown_file f more j h = ap (λ b. record_in b (j % 32)) (get_or_append_left f.blocks more [] (j / 32) (in_blocks f j h))

-- the file that grew, by its identification
file_of-with_grown_file :
    (s : Store) (d : FileId) (f : File) (n : ℕ) (blocks : List (List ℕ)) (added pointers room : ℕ) →
    s.file d.number ≡ Some f → is_none (file_of s d) ≡ false →
    file_of (with_grown_file s d.number f n blocks added pointers room) d ≡ Some (grown_file s f blocks added pointers room)
file_of-with_grown_file s d f n blocks added pointers room was there =
    rw (same_number d.number) (by_test (f.sequence == d.sequence) (rw was at there))
  where
    by_test : (b : Bool) → is_none (if b then Some f else None) ≡ false →
        (if b then Some (grown_file s f blocks added pointers room) else None) ≡ Some (grown_file s f blocks added pointers room)
    by_test true e = refl
    by_test false e = absurd (cc)

-- what is known where a record is entered
pub record Enterable (s : Store) (d : FileId) (name r : List ℕ) : Type 0 where
  pub there : is_none (file_of s d) ≡ false
  pub whole : IsWhole (file_named s d)
  pub none : is_entered name (file_named s d) ≡ false
  pub has : has_name name r ≡ true
  pub sixteen : length r ≡ 16

-- in place of an empty record
entered_in_place :
    (s : Store) (d : FileId) (name r : List ℕ) (i : ℕ) → Enterable s d name r → index_of_empty (file_named s d) ≡ Some i →
    IsThere name (file_named (with_change s d.number (with_entry i r)) d) r
entered_in_place s d name r i can place =
    subst (λ (f : File). IsThere name f r) (sym (file_named-changed s d (with_entry i r) (λ f. refl) can.there)) (record {
      found = found_at (file_named s d) (with_entry i r (file_named s d)) (file_named s d).blocks i name r refl
          (subst (λ (n : ℕ). i < n) (sym (count-with_entry (file_named s d) i r)) within) (omega (arith, within)) (λ j h. refl) in_it
          (All-get_or (λ b. length b ≡ 512) (file_named s d).blocks (i / 32) [] in_it can.whole.blocks) can.sixteen can.none can.has;
    })
  where
    within : i < entry_count (file_named s d)
    within = subst (λ (n : ℕ). i < n) (length-entries_of (file_named s d)) (placed is_empty (entries_of (file_named s d)) i place)

    in_it : i / 32 < length (file_named s d).blocks
    in_it = in_blocks (file_named s d) i within

-- at the end, where the allocation has room
entered_past_end :
    (s : Store) (d : FileId) (name r : List ℕ) → Enterable s d name r
    → 16 * entry_count (file_named s d) < 512 * length (file_named s d).blocks →
    IsThere name (file_named (with_entry_at_end s d.number (entry_count (file_named s d)) r) d) r
entered_past_end s d name r can room =
    subst (λ (f : File). IsThere name f r)
    (sym (file_named-changed s d (λ f. with_end_after (entry_count (file_named s d)) (with_entry (entry_count (file_named s d)) r f))
    (λ f. refl) can.there)) (record {
      found = found_at (file_named s d) (with_end_after i (with_entry i r (file_named s d))) (file_named s d).blocks i name r refl
          (count-with_entry_at_end (file_named s d) i r can.whole.attr (omega (arith, room))) (omega arith) (λ j h. refl) in_it
          (All-get_or (λ b. length b ≡ 512) (file_named s d).blocks (i / 32) [] in_it can.whole.blocks) can.sixteen can.none can.has;
    })
  where
    i : ℕ
    i = entry_count (file_named s d)

    in_it : i / 32 < length (file_named s d).blocks
    in_it = omega (arith, room)

-- at the end, after one more block
entered_in_new_block :
    (s : Store) (d : FileId) (name r : List ℕ) (f : File) (added pointers room : ℕ) → Enterable s d name r → s.file d.number ≡ Some f →
    file_named s d ≡ f → IsThere name
    (file_named (with_entry_at_end (with_grown_file s d.number f 1 (zero_blocks 1) added pointers room) d.number (entry_count f) r) d) r
unfolding zero_blocks
entered_in_new_block s d name r f added pointers room can was is =
    subst (λ (g : File). IsThere name g r) (sym after) (record {
      found = found_at f (with_end_after i (with_entry i r g)) (f.blocks ++ zero_blocks 1) i name r refl
          (count-with_entry_at_end g i r (subst (λ (x : File). length x.attr ≡ 32) is can.whole.attr) (rw longer (omega arith)))
          (omega arith)
          (λ j h. record_at-grown_file f (zero_blocks 1) j h) in_it
          (All-get_or (λ b. length b ≡ 512) (f.blocks ++ zero_blocks 1) (i / 32) [] in_it full) can.sixteen
          (subst (λ (x : File). is_entered name x ≡ false) is can.none) can.has;
    })
  where
    i : ℕ
    i = entry_count f

    g : File
    g = grown_file s f (zero_blocks 1) added pointers room

    grown : Store
    grown = with_grown_file s d.number f 1 (zero_blocks 1) added pointers room

    of_grown : file_of grown d ≡ Some g
    of_grown = file_of-with_grown_file s d f 1 (zero_blocks 1) added pointers room was can.there

    after : file_named (with_entry_at_end grown d.number i r) d ≡ with_end_after i (with_entry i r g)
    after =
        file_named-changed grown d (λ f. with_end_after i (with_entry i r f)) (λ f. refl) (ap is_none of_grown)
        ∙ ap (λ o. with_end_after i (with_entry i r (unwrap_or o no_file))) of_grown

    longer : length (f.blocks ++ zero_block ∷ []) ≡ length f.blocks + 1
    longer = length-append f.blocks (zero_block ∷ [])

    in_it : i / 32 < length (f.blocks ++ zero_block ∷ [])
    in_it = rw longer (omega arith)

    full : All (λ b. length b ≡ 512) (f.blocks ++ zero_block ∷ [])
    full =
        All-append (λ b. length b ≡ 512) f.blocks (zero_block ∷ [])
        (subst (λ (x : File). All (λ b. length b ≡ 512) x.blocks) is can.whole.blocks)
        (All-replicate (λ b. length b ≡ 512) 1 zero_block length-zero_block)

-- a directory that can be entered in can be once the index file grew
enterable_then : (s t : Store) (d : FileId) (name r : List ℕ) → file_of t d ≡ file_of s d → Enterable s d name r → Enterable t d name r
enterable_then s t d name r same can = record {
  there = ap is_none same ∙ can.there;
  whole = subst IsWhole (sym named) can.whole;
  none = ap (is_entered name) named ∙ can.none;
  has = can.has;
  sixteen = can.sixteen;
}
  where
    named : file_named t d ≡ file_named s d
    named = ap (λ (o : Option File). unwrap_or o no_file) same

-- in a block more
entered_with_block :
    (s grown : Store) (d : FileId) (name r : List ℕ) (s' : Store) → Enterable s d name r → Extends s d.number 1 grown →
    s' ≡ with_entry_at_end grown d.number (entry_count (file_named s d)) r → IsThere name (file_named s' d) r
entered_with_block s grown d name r s' can grows k =
    let is : file_named s d ≡ grows.before = file_named-there s d grows.before grows.was can.there in
    subst (λ (x : Store). IsThere name (file_named x d) r)
    (sym (k ∙ ap (λ t. with_entry_at_end t d.number (entry_count (file_named s d)) r) grows.store_is))
    (subst (λ (n : ℕ). IsThere name
    (file_named (with_entry_at_end (with_grown_file s d.number grows.before 1 (zero_blocks 1) grows.added grows.pointers grows.room)
    d.number n r) d) r)
    (ap entry_count (sym is))
    (entered_in_new_block s d name r grows.before grows.added grows.pointers grows.room can grows.was is))

-- wherever the record is entered
entered_there :
    (o : Option ℕ) (s : Store) (d : FileId) (name r : List ℕ) (s' : Store) → Enterable s d name r → (d.number == 1) ≡ false →
    index_of_empty (file_named s d) ≡ o → EntersAt o s d r s' → IsThere name (file_named s' d) r
entered_there (Some i) s d name r s' can other place h =
    subst (λ (x : Store). IsThere name (file_named x d) r) (sym h) (entered_in_place s d name r i can place)
entered_there None s d name r s' can other place h = at_end (needs_block (file_named s d)) refl h
  where
    no_room : needs_block (file_named s d) ≡ false → 16 * entry_count (file_named s d) < 512 * length (file_named s d).blocks
    no_room e =
        let t : nat_le (512 * length (file_named s d).blocks) (16 * entry_count (file_named s d)) ≡ false = (rw place at e) in
        grind (arith, nat_tests)

    at_end : (b : Bool) → needs_block (file_named s d) ≡ b → EntersAtEnd b s d (entry_count (file_named s d)) r s'
        → IsThere name (file_named s' d) r
    at_end false e k = subst (λ (x : Store). IsThere name (file_named x d) r) (sym k) (entered_past_end s d name r can (no_room e))
    at_end true e (grown, h, k) =
        let same : file_of h.ready d ≡ file_of s d = of-stays s h.ready _ d (gained-is-ready s h.ready _ h.gains) other in
        entered_with_block h.ready grown d name r s' (enterable_then s h.ready d name r same can) h.makes
        (k ∙ ap (λ (o : Option File). with_entry_at_end grown d.number (entry_count (unwrap_or o no_file)) r) (sym same))

pub entered_is_found : EnteredIsFound
entered_is_found s task caller d name id block a s' block' other reader before result s'' after whole five h k =
    found_answers s' other reader d name id before result s'' after
    (entered_there (index_of_empty (file_named s d)) s d name (record_bytes id name) s' can (no_index d causes.1) refl h.changes) k
  where
    causes : (is_bad id ≡ false) × (nat_lt d.number 4 ≡ false) × (is_missing s d ≡ false) × (is_entered name (file_named s d) ≡ false)
    causes =
        entered_causes (is_bad d) (is_bad id) (nat_lt d.number 4) (is_missing s d) (is_marked (file_named s d))
        (lacks right.Write caller (file_named s d))
        (is_held bars_writing s d) (not (is_directory (file_named s d))) (is_entered name (file_named s d))
        (extend_causes_if (needs_block (file_named s d)) s (file_named s d) 1) h.no_cause

    can : Enterable s d name (record_bytes id name)
    can = record {
      there = causes.2;
      whole = whole;
      none = causes.3;
      has = has_name-record_bytes id name causes.0 five;
      sixteen = length-record_bytes id name five;
    }
