-- A locked file, and what keeps it so.
use Rattle.std.proofs.Common.{◌≡◌, ◌≢◌, ℕ, ◌<◌, ◌==◌, Bool, true, false, List, Some, refl, sym, ◌∙◌, ap, subst, is_none, option_map}
use Rattle.std.proofs.Common.{unwrap_or}
use Rattle.std.proofs.lemmas.Bool.{eqb-true}
use Rattle.f11_store.specs.declared.files.FileId.{FileId}
use Rattle.f11_store.specs.declared.files.Mode.{Mode}
use Rattle.f11_store.specs.declared.files.Mode.TheVariants as mode
use Rattle.f11_store.specs.File.{File, no_file}
use Rattle.f11_store.specs.Store.{Store, Access, is_held, bars}
use Rattle.f11_store.specs.Causes.{is_missing, is_no_writer}
use Rattle.f11_store.specs.Changes.{with_change}
use Rattle.f11_store.proofs.FateLaws.{held-at}
use Rattle.f11_runs.specs.Locked.{IsLocked}
use Rattle.f11_runs.proofs.AccessLemmas.{true-false, there-is, there-file, same-there}

-- an access to write is to another file than one that is locked
pub writer-apart : (s : Store) (task lun : ℕ) (id : FileId) (blocks : List (List ℕ)) (t l : ℕ) (a : Access) → IsLocked s task lun id blocks
    → t < 8 → l < 4
    → s.access t l ≡ Some a → is_no_writer (Some a) ≡ false → is_missing s a.file ≡ false → a.file.number ≢ id.number
writer-apart s task lun id blocks t l a is low small held writes there same =
    true-false (sym (held-at (bars mode.Locked) s t l a id low small held (same-there s a.file id there is.there same)
    (by_mode a.mode writes)) ∙ is.alone)
  where
    by_mode : (m : Mode) → is_no_writer (Some (record { file = a.file; mode = m })) ≡ false → bars mode.Locked m ≡ true
    by_mode mode.Read h = absurd (cc)
    by_mode mode.Locked h = absurd (cc)
    by_mode mode.Write h = refl

-- a file on which nobody stands against writing is another
pub barred-apart : (s : Store) (task lun : ℕ) (id d : FileId) (blocks : List (List ℕ)) (test : Mode → Bool) → test mode.Locked ≡ true
    → IsLocked s task lun id blocks → task < 8 → lun < 4
    → is_missing s d ≡ false → is_held test s d ≡ false → d.number ≢ id.number
barred-apart s task lun id d blocks test passes is low small there none same =
    true-false (sym (held-at test s task lun _ d low small is.holds (same-there s id d is.there there (sym same)) passes) ∙ none)

-- what is kept of the locked file
pub record KeepsFile (s s' : Store) (n : ℕ) : Type 0 where
  pub keeps : (f : File) → s.file n ≡ Some f → (g : File) × (s'.file n ≡ Some g) × (g.sequence ≡ f.sequence) × (g.blocks ≡ f.blocks)

pub keeps-other : (s s' : Store) (n : ℕ) → s'.file n ≡ s.file n → KeepsFile s s' n
keeps-other s s' n same = record { keeps = λ f is. (f, same ∙ is, refl, refl) }

pub keeps-change : (s s' : Store) (k n : ℕ) (change : File → File) → ((f : File) → (change f).sequence ≡ f.sequence)
    → ((f : File) → (change f).blocks ≡ f.blocks) → s' ≡ with_change s k change
    → KeepsFile s s' n
keeps-change s s' k n change sequence blocks is = subst (λ (x : Store). KeepsFile s x n) (sym is) (by_test (n == k) refl)
  where
    by_test : (b : Bool) → (n == k) ≡ b → KeepsFile s (with_change s k change) n
    by_test true e =
        record { keeps = λ f was. (change f, rw e (ap (option_map change) (ap s.file (sym (eqb-true n k e)) ∙ was)), sequence f, blocks f) }
    by_test false e = keeps-other s (with_change s k change) n (rw e refl)

-- so it stays locked where its access stays and nobody gets one to write
pub stays-locked : (s s' : Store) (task lun : ℕ) (id : FileId) (blocks : List (List ℕ)) → IsLocked s task lun id blocks
    → KeepsFile s s' id.number → s'.access task lun ≡ s.access task lun
    → is_held (bars mode.Locked) s' id ≡ false → IsLocked s' task lun id blocks
stays-locked s s' task lun id blocks is kept access alone =
    let here = there-is s id is.there in
    let went = kept.keeps here.file here.is in
    let was = there-file s id here in
    let now = there-file s' id (record { file = went.0; is = went.1; sequence = went.2 ∙ here.sequence }) in
    record {
      holds = access ∙ is.holds;
      own = is.own;
      alone = alone;
      there = ap is_none now;
      blocks_are = ap (λ o. (unwrap_or o no_file).blocks) now ∙ went.3 ∙ sym (ap (λ o. (unwrap_or o no_file).blocks) was) ∙ is.blocks_are;
    }
