-- Files of a store that was changed.
use Rattle.std.proofs.Common.{◌≡◌, ◌≢◌, ℕ, ◌<◌, ◌≤◌, ◌==◌, Bool, true, false, Option, Some, None, length, refl, sym, ◌∙◌, ap, arith}
use Rattle.std.proofs.Common.{is_none, unwrap_or, option_map, if◌then◌else◌}
use Rattle.std.specs.Option.{option_and_then}
use Rattle.std.proofs.lemmas.Bool.{eq-eqb}
use Rattle.std.proofs.lemmas.Bool.Decides.{nat_tests}
use Rattle.f11_store.specs.declared.files.FileId.{FileId}
use Rattle.f11_store.specs.declared.refusals.Refusal.{Refusal}
use Rattle.f11_store.specs.File.{File, no_file}
use Rattle.f11_store.specs.Store.{Store, Access, of_sequence, file_of, file_named}
use Rattle.f11_store.specs.Causes.{is_no_writer}
use Rattle.f11_store.specs.Changes.{with_change}
use Rattle.f11_store.specs.Laws.{AgreeingAreOne}

-- a list of causes of which none holds: the first doesn't, nor do the others
pub none_first : (b : Bool) (e : Refusal) (rest : Option Refusal) → (if b then Some e else rest) ≡ None → b ≡ false
none_first true e rest h = absurd (cc)
none_first false e rest h = refl

pub none_rest : (b : Bool) (e : Refusal) (rest : Option Refusal) → (if b then Some e else rest) ≡ None → rest ≡ None
none_rest true e rest h = absurd (cc)
none_rest false e rest h = h

-- an access to write is one
pub access_of_writer : (o : Option Access) → is_no_writer o ≡ false → is_none o ≡ false
access_of_writer None h = absurd (cc)
access_of_writer (Some a) h = refl

-- a test of the same number
pub same_number : (n : ℕ) → (n == n) ≡ true
same_number n = eq-eqb n n refl

-- a test of another number
pub other_number : (n k : ℕ) → n ≢ k → (n == k) ≡ false
other_number n k h = grind (arith, nat_tests)

-- a change that keeps the sequence number keeps which file it is
of_sequence-change :
    (q : ℕ) (change : File → File) → ((f : File) → (change f).sequence ≡ f.sequence) → (o : Option File) →
    option_and_then (of_sequence q) (option_map change o) ≡ option_map change (option_and_then (of_sequence q) o)
of_sequence-change q change keeps None = refl
of_sequence-change q change keeps (Some f) = at_sequence (change f) (change f).sequence (keeps f) refl
  where
    by_test : (b : Bool) (g : File) → change f ≡ g → (if b then Some g else None) ≡ option_map change (if b then Some f else None)
    by_test true g e = ap Some (sym e)
    by_test false g e = refl

    at_sequence : (g : File) (m : ℕ) → m ≡ f.sequence → change f ≡ g →
        (if m == q then Some g else None) ≡ option_map change (if f.sequence == q then Some f else None)
    at_sequence g m e d = rw e (by_test (f.sequence == q) g d)

-- the file that was changed
pub file_of-with_change :
    (s : Store) (id : FileId) (change : File → File) → ((f : File) → (change f).sequence ≡ f.sequence) →
    file_of (with_change s id.number change) id ≡ option_map change (file_of s id)
file_of-with_change s id change keeps =
    rw (same_number id.number) (of_sequence-change id.sequence change keeps (s.file id.number))

-- a file with a block is one
pub file_of-file_named : (s : Store) (id : FileId) → 0 < length (file_named s id).blocks → file_of s id ≡ Some (file_named s id)
file_of-file_named s id h = by_file (file_of s id) h
  where
    by_file : (o : Option File) → 0 < length (unwrap_or o no_file).blocks → o ≡ Some (unwrap_or o no_file)
    by_file None h = absurd (omega arith)
    by_file (Some f) h = refl

-- the file that was changed, where it has a block
pub file_named-with_change :
    (s : Store) (id : FileId) (change : File → File) → ((f : File) → (change f).sequence ≡ f.sequence) →
    0 < length (file_named s id).blocks → file_named (with_change s id.number change) id ≡ change (file_named s id)
file_named-with_change s id change keeps h =
    ap (λ o. unwrap_or o no_file)
    (file_of-with_change s id change keeps ∙ ap (option_map change) (file_of-file_named s id h))

-- every other file stays
pub other_file : (s : Store) (n k : ℕ) (change : File → File) → n ≢ k → (with_change s k change).file n ≡ s.file n
other_file s n k change differs = rw (other_number n k differs)

-- what a change of the file keeps
pub kept-with_change :
    {X : Type 0} (s : Store) (id : FileId) (change : File → File) → ((f : File) → (change f).sequence ≡ f.sequence) →
    (part : File → X) → ((f : File) → part (change f) ≡ part f) →
    part (file_named (with_change s id.number change) id) ≡ part (file_named s id)
kept-with_change s id change keeps part stays =
    ap (λ o. part (unwrap_or o no_file)) (file_of-with_change s id change keeps) ∙ by_file (file_of s id)
  where
    by_file : (o : Option File) → part (unwrap_or (option_map change o) no_file) ≡ part (unwrap_or o no_file)
    by_file None = refl
    by_file (Some f) = stays f

-- the file that an identification names is no longer than that of its number
pub length-file_named :
    (s : Store) (id : FileId) (f : File) → s.file id.number ≡ Some f → length (file_named s id).blocks ≤ length f.blocks
length-file_named s id f h = rw h (by_test (f.sequence == id.sequence))
  where
    by_test : (b : Bool) → length (unwrap_or (if b then Some f else None) no_file).blocks ≤ length f.blocks
    by_test true = omega arith
    by_test false = omega arith

-- the file that was changed, where there is one
pub file_named-changed :
    (s : Store) (id : FileId) (change : File → File) → ((f : File) → (change f).sequence ≡ f.sequence) → is_none (file_of s id) ≡ false →
    file_named (with_change s id.number change) id ≡ change (file_named s id)
file_named-changed s id change keeps h =
    ap (λ o. unwrap_or o no_file) (file_of-with_change s id change keeps) ∙ by_file (file_of s id) h
  where
    by_file : (o : Option File) → is_none o ≡ false → unwrap_or (option_map change o) no_file ≡ change (unwrap_or o no_file)
    by_file None e = absurd (cc)
    by_file (Some f) e = refl

-- the file that has the number of one that is there is that one
pub file_named-there : (s : Store) (id : FileId) (f : File) → s.file id.number ≡ Some f → is_none (file_of s id) ≡ false
    → file_named s id ≡ f
file_named-there s id f h there = rw h (by_test (f.sequence == id.sequence) (rw h at there))
  where
    by_test : (b : Bool) → is_none (if b then Some f else None) ≡ false → unwrap_or (if b then Some f else None) no_file ≡ f
    by_test true e = refl
    by_test false e = absurd (cc)

-- stores that agree everywhere are one: functions are equal where they agree at each number
pub agreeing_are_one : AgreeingAreOne
agreeing_are_one s t h = λ i. record {
  file = λ n. h.file n i;
  free = h.free i;
  slots = h.slots i;
  in_use = λ n. h.in_use n i;
  last = λ n. h.last n i;
  access = λ task lun. h.access task lun i;
  bitmap_blocks = h.bitmap_blocks i;
  index_bitmap_blocks = h.index_bitmap_blocks i;
  limit = h.limit i;
}

-- two stores with the same in each field are one
pub same-store : (s t : Store) → ((n : ℕ) → s.file n ≡ t.file n) → s.free ≡ t.free → s.slots ≡ t.slots → ((n : ℕ) → s.in_use n ≡ t.in_use n)
    → ((n : ℕ) → s.last n ≡ t.last n)
    → s.access ≡ t.access → s.bitmap_blocks ≡ t.bitmap_blocks → s.index_bitmap_blocks ≡ t.index_bitmap_blocks → s.limit ≡ t.limit → s ≡ t
same-store s t file free slots in_use last access bitmap_blocks index_bitmap_blocks limit = λ i. record {
  file = λ n. file n i;
  free = free i;
  slots = slots i;
  in_use = λ n. in_use n i;
  last = λ n. last n i;
  access = access i;
  bitmap_blocks = bitmap_blocks i;
  index_bitmap_blocks = index_bitmap_blocks i;
  limit = limit i;
}
