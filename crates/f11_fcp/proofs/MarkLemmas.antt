-- The accesses to a file that is marked for delete.
use Rattle.std.proofs.Common.{◌≡◌, ◌==◌, Bool, true, false, Option, Some, None, refl, sym, ◌∙◌, ap, arith, option_map, is_none}
use Rattle.std.proofs.Common.{if◌then◌else◌}
use Rattle.std.specs.Int.{bit_at}
use Rattle.std.specs.Option.{option_and_then}
use Rattle.std.proofs.lemmas.Bool.{and_from, and_parts, eq-eqb, eqb-true}
use Rattle.std.proofs.lemmas.Nat.Bits.{bit_at_or}
use Rattle.f11_store.specs.Accesses.{mark_of}
use Rattle.f11_store.specs.Causes.{is_missing}
use Rattle.f11_store.specs.Changes.{with_delete_mark, with_marked_file}
use Rattle.f11_store.specs.File.{File, is_marked, with_mark}
use Rattle.f11_store.specs.Store.{Store, of_sequence, is_same}
use Rattle.f11_store.specs.declared.files.FileId.{FileId}
use Rattle.f11_store.proofs.FateLaws.{seen-some}
use Rattle.f11_fcp.specs.Accesses.{AccessTable, Entry, access_of, held_in, marked_if, mark_there, mark_kept, with_marks, HasAccessed}

-- a mark says nothing of the access
access-same : (id : FileId) (o : Option Entry) → option_map access_of (option_map (marked_if id) o) ≡ option_map access_of o
access-same id None = refl
access-same id (Some e) = by_test (is_same e.file id)
  where
    by_test : (b : Bool) → Some (access_of (if b then record e { marked = true } else e)) ≡ Some (access_of e)
    by_test true = refl
    by_test false = refl

pub marks-leave : (id : FileId) (t : AccessTable) (s : Store) → held_in (with_marks id t) s ≡ held_in t s
marks-leave id t s = λ i. record s { access = λ task lun. access-same id (t task lun) i }

-- a file that is marked is marked
mark-set : (f : File) → is_marked (with_delete_mark f) ≡ true
mark-set f = eq-eqb (bit_at (with_mark f.characteristics) 15) 1 (bit_at_or f.characteristics 32768 15 ∙ omega arith)

-- what is kept of accesses is right where a file was marked, and the accesses to it are
pub marks-kept : (id : FileId) (t : AccessTable) (s : Store) → is_missing s id ≡ false → HasAccessed t s
    → HasAccessed (with_marks id t) (with_marked_file s id.number)
marks-kept id t s there kept task lun low small = by_entry (t task lun) (kept task lun low small)
  where
    s' : Store
    s' = with_marked_file s id.number

    -- the file that is marked
    by_file : (e : Entry) (same : Bool) → is_same e.file id ≡ same → (o : Option File) → s.file id.number ≡ o
        → is_none (option_and_then (of_sequence id.sequence) o) ≡ false
        → mark_of s e.file ≡ Some e.marked → mark_of s' e.file ≡ Some ((if same then record e { marked = true } else e).marked)
    by_file e same is None none h k = absurd (cc)
    by_file e true is (Some f) some h k =
        let parts = and_parts (e.file.number == id.number) (e.file.sequence == id.sequence) is in
        rw (parts.0, some) (at-sequence (f.sequence == e.file.sequence)
        (ap (λ q. f.sequence == q) (eqb-true e.file.sequence id.sequence parts.1) ∙ seq))
      where
        sequence-is : (b : Bool) → is_none (if b then Some f else None) ≡ false → b ≡ true
        sequence-is true h = refl
        sequence-is false h = absurd (cc)

        seq : (f.sequence == id.sequence) ≡ true
        seq = sequence-is (f.sequence == id.sequence) h

        at-sequence : (b : Bool) → b ≡ true → option_map is_marked (if b then Some (with_delete_mark f) else None) ≡ Some true
        at-sequence true h = ap (λ b. Some b) (mark-set f)
        at-sequence false h = absurd (cc)
    by_file e false is (Some f) some h k = by_number (e.file.number == id.number) refl
      where
        here : (b : Bool) → is_none (if b then Some f else None) ≡ false → b ≡ true
        here true g = refl
        here false g = absurd (cc)

        by_number : (b : Bool) → (e.file.number == id.number) ≡ b → mark_of s' e.file ≡ Some e.marked
        by_number true n =
            let at : s.file e.file.number ≡ Some f = ap s.file (eqb-true e.file.number id.number n) ∙ some in
            let one = eqb-true f.sequence e.file.sequence (seen-some e.file.sequence f e.marked (rw at at k)) in
            let two = eqb-true f.sequence id.sequence (here (f.sequence == id.sequence) h) in
            absurd (let no : false ≡ true = sym is ∙ and_from (e.file.number == id.number) (e.file.sequence == id.sequence) n
            (eq-eqb e.file.sequence id.sequence (sym one ∙ two)) in cc)
        by_number false n = rw n k

    by_entry : (o : Option Entry) → mark_there s o ≡ mark_kept o
        → mark_there s' (option_map (marked_if id) o) ≡ mark_kept (option_map (marked_if id) o)
    by_entry None h = refl
    by_entry (Some e) h = by_same (is_same e.file id) refl
      where
        by_same : (b : Bool) → is_same e.file id ≡ b
            → mark_of s' (if b then record e { marked = true } else e).file ≡ Some ((if b then record e { marked = true } else e).marked)
        by_same true is = by_file e true is (s.file id.number) refl there h
        by_same false is = by_file e false is (s.file id.number) refl there h
