-- Accesses to files that are there.
use Rattle.std.proofs.Common.{◌≡◌, ℕ, ◌+◌, ◌<◌, ◌==◌, ◌&&◌, Bool, true, false, Option, Some, None, refl, sym, ◌∙◌, ap, arith, is_none}
use Rattle.std.proofs.Common.{if◌then◌else◌}
use Rattle.std.specs.List.{list_any, range_with_len}
use Rattle.std.specs.Option.{option_and_then}
use Rattle.std.proofs.lemmas.Bool.{eqb-true, eq-eqb, and_parts, and_from}
use Rattle.std.proofs.lemmas.List.Folds.{list_any_none}
use Rattle.std.proofs.lemmas.List.FromFn.{get_or-range_with_len, length-range_with_len}
use Rattle.f11_store.specs.declared.files.FileId.{FileId}
use Rattle.f11_store.specs.declared.files.Mode.{Mode}
use Rattle.f11_store.specs.File.{File}
use Rattle.f11_store.specs.Store.{Store, Access, of_sequence, file_of, is_same, is_to, is_held}
use Rattle.f11_store.specs.Causes.{is_missing}
use Rattle.f11_store.specs.Changes.{with_access}
use Rattle.f11_store.proofs.FateLaws.{held-at}

pub true-false : true ≡ false → ⊥
true-false e = cc

-- the file of an identification that isn't missing
pub record IsThere (s : Store) (id : FileId) : Type 0 where
  pub file : File
  pub is : s.file id.number ≡ Some file
  pub sequence : file.sequence ≡ id.sequence

pub there-is : (s : Store) (id : FileId) → is_missing s id ≡ false → IsThere s id
there-is s id there = by_file (s.file id.number) refl there
  where
    by_test : (f : File) (b : Bool) → (f.sequence == id.sequence) ≡ b → s.file id.number ≡ Some f
        → is_none (if b then Some f else None) ≡ false → IsThere s id
    by_test f true e is h = record { file = f; is = is; sequence = eqb-true f.sequence id.sequence e }
    by_test f false e is h = absurd (cc)

    by_file : (o : Option File) → s.file id.number ≡ o → is_none (option_and_then (of_sequence id.sequence) o) ≡ false → IsThere s id
    by_file None is h = absurd (cc)
    by_file (Some f) is h = by_test f (f.sequence == id.sequence) refl is h

pub there-file : (s : Store) (id : FileId) → (h : IsThere s id) → file_of s id ≡ Some h.file
there-file s id h = rw h.is (rw (eq-eqb h.file.sequence id.sequence h.sequence) refl)

-- two of one number that are there are the same
pub same-there : (s : Store) (a b : FileId) → is_missing s a ≡ false → is_missing s b ≡ false → a.number ≡ b.number → is_same a b ≡ true
same-there s a b here there number =
    let x = there-is s a here in
    let y = there-is s b there in
    let files : Some x.file ≡ Some y.file = sym x.is ∙ ap s.file number ∙ y.is in
    let same : x.file ≡ y.file = cc in
    let sequence : a.sequence ≡ b.sequence = sym x.sequence ∙ ap (λ (f : File). f.sequence) same ∙ y.sequence in
    and_from (a.number == b.number) (a.sequence == b.sequence) (eq-eqb _ _ number) (eq-eqb _ _ sequence)

-- no access at all passes a test, if none at each place does; and each place, if none does at all
none-range : (p : ℕ → Bool) (n : ℕ) → ((i : ℕ) → i < n → p i ≡ false) → list_any p (range_with_len 0 n) ≡ false
none-range p n never =
    list_any_none p (range_with_len 0 n)
    (λ i d within.
    let low : i < n = omega (arith, within, length-range_with_len 0 n) in
    let at : 0 + i ≡ i = omega arith in
    ap p (get_or-range_with_len 0 n i d low ∙ at) ∙ never i low)

pub held-none : (test : Mode → Bool) (s : Store) (id : FileId) → ((t l : ℕ) → t < 8 → l < 4 → is_to test id (s.access t l) ≡ false)
    → is_held test s id ≡ false
unfolding is_held
held-none test s id never =
    none-range (λ t. list_any (λ l. is_to test id (s.access t l)) (range_with_len 0 4)) 8
    (λ t low. none-range (λ l. is_to test id (s.access t l)) 4 (λ l small. never t l low small))

pub held-each : (test : Mode → Bool) (s : Store) (id : FileId) → is_held test s id ≡ false → (t l : ℕ) → t < 8 → l < 4
    → is_to test id (s.access t l) ≡ false
held-each test s id none t l low small = by_access (s.access t l) refl
  where
    by_access : (o : Option Access) → s.access t l ≡ o → is_to test id o ≡ false
    by_access None is = refl
    by_access (Some a) is = by_test (is_same a.file id && test a.mode) refl
      where
        by_test : (b : Bool) → (is_same a.file id && test a.mode) ≡ b → b ≡ false
        by_test false e = refl
        by_test true e =
            let parts = and_parts (is_same a.file id) (test a.mode) e in
            absurd (true-false (sym (held-at test s t l a id low small is parts.0 parts.1) ∙ none))

-- an access that is taken or given up
pub held-with : (test : Mode → Bool) (s : Store) (task lun : ℕ) (o : Option Access) (id : FileId) → is_held test s id ≡ false
    → is_to test id o ≡ false → is_held test (with_access s task lun o) id ≡ false
held-with test s task lun o id none new =
    held-none test (with_access s task lun o) id
    (λ t l low small. by_test ((t == task) && (l == lun)) _ (held-each test s id none t l low small))
  where
    by_test : (b : Bool) (x : Option Access) → is_to test id x ≡ false → is_to test id (if b then o else x) ≡ false
    by_test true x h = new
    by_test false x h = h
