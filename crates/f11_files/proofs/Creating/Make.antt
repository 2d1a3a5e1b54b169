-- A new file, once there is a header for it.
use Rattle.std.proofs.Common.{◌≡◌, ℕ, ◌==◌, ◌&&◌, ◌||◌, Bool, true, false, not, cond, if◌then◌else◌, nat_lt, IsTrue, List, [], Some, None}
use Rattle.std.proofs.Common.{inl, inr, refl, sym, ap, subst, ◌∙◌, arith}
use Rattle.std.proofs.lemmas.Bool.{eqb-true, ne_eqb}
use Rattle.f11_bits.specs.Bitmap.{Bitmap}
use Rattle.f11_dev.specs.Disk.{Disk}
use Rattle.f11_home.specs.Home.{HomeFields}
use Rattle.f11_index.specs.IndexFile.{index_of, Index}
use Rattle.f11_store.specs.Causes.{create_causes, first_of}
use Rattle.f11_store.specs.Headroom.{slots_first}
use Rattle.f11_store.specs.Changes.{with_slots_first}
use Rattle.f11_store.specs.Lags.{new_file_work, work_if}
use Rattle.f11_store.specs.Refusal.{refusal_number}
use Rattle.f11_store.specs.Store.{free_headers, Store}
use Rattle.f11_store.specs.declared.callers.Uic.{Uic}
use Rattle.f11_store.specs.declared.refusals.Refusal.{Refusal}
use Rattle.f11_store.specs.declared.refusals.Refusal.TheVariants.{
  BadArgument,
  Conflict,
  Damaged,
  DeviceFault,
  DeviceFull,
  DuplicateName,
  EndOfFile,
  IndexLimit,
  LunInUse,
  Marked,
  NoHeader,
  NoMemory,
  NoPrivilege,
  NoSuchAccess,
  NoRun,
  NoSuchEntry,
  NoSuchFile,
  NotDirectory,
  NotEmpty,
  SystemFile,
  TooManySegments,
  VolumeFailed,
}
use Rattle.f11_store.proofs.SlotsFirst.{new-file-stays}
use Rattle.f11_volume.specs.Space.{storage_bitmap}
use Rattle.f11_image_store.specs.Confines.{new_header}
use Rattle.f11_files.specs.Confined.{ConfinesInOrder}
use Rattle.f11_image_store.specs.StoreOf.{store_of}
use Rattle.f11_files.specs.Answers.{faults_of, is_cause, is_fatal, IsRight, Meanwhile, WritesAtMost, WritesNewHeaders}
use Rattle.f11_files.specs.Create.{FailsToCreate, FailsToEnter}
use Rattle.f11_files.specs.GrowingIndex.Headroom.{FailsToReady, ReadiesHeaders, WritesAfterSlots, WritesSlots}
use Rattle.f11_files.specs.Operations.{slot_causes}
use Rattle.f11_files.specs.Structure.{bitmap_in, home_of, index_in, StaysFor, WritesParts}
use Rattle.f11_files.specs.declared.structure.Structure.{Structure}
use Rattle.f11_files.proofs.Confining.Confines.{confines-none}
use Rattle.f11_files.proofs.Readied.{fails-first, fails-ready, has-got, honest-ready, is-ready}

-- what fails where a file is entered, but for want of a header, fails the volume
pub fatal-enter : (honest : Bool) (s : Store) (r : Refusal) → IsRight false honest (slot_causes s) r → (refusal_number r == 17) ≡ false
    → is_fatal r ≡ true
fatal-enter honest s VolumeFailed right other = let no : false ≡ true = right.volume refl in absurd cc
fatal-enter honest s BadArgument right other = let no : false ≡ true = right.among refl in absurd cc
fatal-enter honest s NoSuchAccess right other = let no : false ≡ true = right.among refl in absurd cc
fatal-enter honest s LunInUse right other = let no : false ≡ true = right.among refl in absurd cc
fatal-enter honest s SystemFile right other = let no : false ≡ true = right.among refl in absurd cc
fatal-enter honest s NoSuchFile right other = let no : false ≡ true = right.among refl in absurd cc
fatal-enter honest s Marked right other = let no : false ≡ true = right.among refl in absurd cc
fatal-enter honest s NoPrivilege right other = let no : false ≡ true = right.among refl in absurd cc
fatal-enter honest s Conflict right other = let no : false ≡ true = right.among refl in absurd cc
fatal-enter honest s NotDirectory right other = let no : false ≡ true = right.among refl in absurd cc
fatal-enter honest s EndOfFile right other = let no : false ≡ true = right.among refl in absurd cc
fatal-enter honest s NoSuchEntry right other = let no : false ≡ true = right.among refl in absurd cc
fatal-enter honest s DuplicateName right other = let no : false ≡ true = right.among refl in absurd cc
fatal-enter honest s IndexLimit right other = let no : false ≡ true = right.among refl in absurd cc
fatal-enter honest s TooManySegments right other = let no : false ≡ true = right.among refl in absurd cc
fatal-enter honest s DeviceFull right other = let no : false ≡ true = right.among refl in absurd cc
fatal-enter honest s NoHeader right other = absurd cc
fatal-enter honest s NoMemory right other = let no : false ≡ true = right.among refl in absurd cc
fatal-enter honest s NotEmpty right other = let no : false ≡ true = right.among refl in absurd cc
fatal-enter honest s NoRun right other = let no : false ≡ true = right.among refl in absurd cc
fatal-enter honest s DeviceFault right other = refl
fatal-enter honest s Damaged right other = refl

module _ (home : HomeFields) (owner : Uic) (protection : ℕ) (ident attr : List ℕ) (old : Disk) where
  abbrev s : Store
  s = store_of old.image home

  -- headers weren't ready
  pub fails-readying : (r : Refusal) (new : Disk) → FailsToReady false home 1 0 r old new
      → FailsToCreate false home owner protection ident attr r old new
  fails-readying r new fails =
      fails-first (create_causes s) 1 (new_file_work (with_slots_first s 1) owner protection ident attr) r (omega arith) fails

  module _ (mid : Disk) (readies : ReadiesHeaders home 1 0 old mid) where
    abbrev ready : Store
    ready = store_of mid.image home

    -- a header is free then
    some-free : IsTrue mid.honest → first_of (slot_causes ready) ≡ None
    some-free honest =
        let enough = readies.enough (sym (honest-ready readies) ∙ honest) in
        ap (λ (b : Bool). cond b (Some NoHeader) None) (ne_eqb (free_headers ready) 0 (λ none. omega (arith, none, enough)))

    pub fails-entering : (r : Refusal) (new : Disk) → (refusal_number r == 17) ≡ false
        → FailsToEnter home owner protection ident attr r mid new → FailsToCreate false home owner protection ident attr r old new
    fails-entering r new other fails =
        fails-ready readies (new_file_work (with_slots_first s 1) owner protection ident attr)
        (new_file_work ready owner protection ident attr)
        (λ honest. new-file-stays s ready (slots_first s 1) owner protection ident attr (is-ready readies honest)) (tt, tt)
        (create_causes s) (slot_causes ready) 3 r readies.does.no_cause some-free (λ _. omega arith)
        (fatal-enter mid.honest ready r fails.right other)
        (λ honest. fails.right.undamaged (honest-ready readies ∙ honest)) fails.writes

    -- so that none is free is found on no honest disk
    pub fails-none : (r : Refusal) (new : Disk) → (refusal_number r == 17) ≡ true → FailsToEnter home owner protection ident attr r mid new
        → FailsToCreate false home owner protection ident attr Damaged old new
    fails-none r new none fails =
        let number : refusal_number r ≡ 17 = eqb-true (refusal_number r) 17 none in
        let is : is_cause r ≡ true = ap (λ (n : ℕ). nat_lt 1 n && not ((n == 19) || (n == 20))) number in
        let no_fault : faults_of r ≡ 0 = ap (λ (n : ℕ). if n == 19 then 1 else 0) number in
        fails-ready readies (new_file_work (with_slots_first s 1) owner protection ident attr)
        (new_file_work ready owner protection ident attr)
        (λ honest. new-file-stays s ready (slots_first s 1) owner protection ident attr (is-ready readies honest)) (tt, tt)
        (create_causes s) (slot_causes ready) 3 Damaged readies.does.no_cause some-free (λ _. omega arith) refl
        (λ honest. let sure = honest-ready readies ∙ honest in let no : None ≡ Some r = sym (some-free sure) ∙ fails.right.cause sure is in
        absurd cc)
        (subst (WritesAtMost (Meanwhile (work_if (first_of (slot_causes ready)) (new_file_work ready owner protection ident attr)) home mid)
        3 mid new) no_fault fails.writes)

-- which blocks are changed
pub unready-confined : (home : HomeFields) (old new : Disk) → WritesSlots 1 home old new
    → WritesAfterSlots 1 (WritesNewHeaders home) home old new
unready-confined home old new slots = record { ready = new; slots = slots; readied = inl refl; rest = λ _. confines-none _ _ _ _ new }

pub make-confined :
    (s t : Structure) (old mid new : Disk) → StaysFor false s t mid → WritesSlots 1 (home_of s) old mid
    → ReadiesHeaders (home_of s) 1 0 old mid → WritesParts t (new_header (index_in t)) mid new →
    WritesAfterSlots 1 (WritesNewHeaders (home_of s)) (home_of s) old new
make-confined s t old mid new stays slots readies parts =
    record { ready = mid; slots = slots; readied = inr (has-got readies); rest = rest }
  where
    rest : WritesNewHeaders (home_of s) mid new
    rest honest =
        let keeps = stays.keeps refl honest in
        let index : index_in t ≡ index_of mid.image (home_of s) = keeps.index_is ∙ ap (index_of mid.image) stays.home in
        let bitmap : bitmap_in t ≡ storage_bitmap mid.image (home_of s) = keeps.bitmap_is ∙ ap (storage_bitmap mid.image) stays.home in
        subst (λ (x : Index). ConfinesInOrder (new_header x) x (storage_bitmap mid.image (home_of s)) [] mid new) index
        (subst (λ (b : Bitmap). ConfinesInOrder (new_header (index_in t)) (index_in t) b [] mid new) bitmap parts)
