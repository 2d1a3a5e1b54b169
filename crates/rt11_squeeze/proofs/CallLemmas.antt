-- What the calls on an RT-11 volume tell, where no call before has failed.
use Rattle.std.proofs.Common.{◌≡◌, ◌≢◌, ℕ, ◌+◌, ◌≤◌, ◌||◌, Bool, true, false, List, [], ◌∷◌, length, slice_index_or, Result}
use Rattle.std.proofs.Common.{Ok, Err, IfErr, OnOk, refl, sym, ◌∙◌, ap, arith}
use Rattle.std.proofs.lemmas.List.{length-map}
use Rattle.std.proofs.lemmas.List.FromFn.{length-range_with_len}
use Rattle.f11_dev.specs.Disk.{Disk}
use Rattle.f11_dev.specs.Image.{Image}
use Rattle.f11_dev.specs.Looked.{Looked}
use Rattle.f11_dev.specs.Went.{Went}
use Rattle.f11_dev.specs.declared.device.Device.{Ghosts}
use Rattle.rt11_volume.specs.Calls.{AnswersRt, has_failed}
use Rattle.rt11_volume.specs.Files.{FailsToDelete, FailsToFindFile, FailsToReach, FailsToRename, file_area, is_device_fault, is_fault}
use Rattle.rt11_volume.specs.Named.{files_named}
use Rattle.rt11_volume.specs.Segment.{Segment}
use Rattle.rt11_volume.specs.Store.{Area, RtStore, area_at, rt_store_of}
use Rattle.rt11_volume.specs.Verifying.Verdict.{IsSoundDisk}
use Rattle.rt11_volume.specs.declared.refusal.RtRefusal.{RtRefusal}
use Rattle.rt11_volume.specs.declared.refusal.RtRefusal.TheVariants as rt
use Rattle.rt11_volume.specs.declared.volume.RtAccepted.{RtAccepted}
use Rattle.rt11_volume.proofs.Named.Laws.{file-first, no-file}

abbrev pub as-err : {T : Type 0} → RtRefusal → Result T RtRefusal
as-err e = Err e

-- the next call fails where this one met a device fault
pub next-of : {D T : Type 0} {met : Ghosts D} (disk : D → Disk) (result : Result T RtRefusal) (old new : RtAccepted D met)
    → AnswersRt disk result old new → has_failed old ≡ false → has_failed new ≡ is_device_fault result
next-of disk result old new a fresh = a.next ∙ ap (λ (b : Bool). b || is_device_fault result) fresh

-- a call isn't refused as one behind a device fault
pub unfailed-of : {D T : Type 0} {met : Ghosts D} (disk : D → Disk) (e : RtRefusal) (old new : RtAccepted D met)
    → AnswersRt {T = T} disk (Err e) old new → has_failed old ≡ false → e ≢ rt.Failed
unfailed-of {T = T} disk e old new a fresh is =
    let h : has_failed old ≡ true = a.failed.0 (ap (as-err {T = T}) is) in absurd (cc)

-- two facts of a call that was granted
pub on-both : {T A B C : Type 0} (result : Result T RtRefusal) → (A → B → C) → OnOk result A → OnOk result B → OnOk result C
on-both (Ok x) f a b = f a b
on-both (Err e) f a b = tt

-- what is told of each refusal of a call
pub on-refusal : {D T : Type 0} {met : Ghosts D} (disk : D → Disk) (P Q : RtRefusal → Type 0) (result : Result T RtRefusal)
    (old new : RtAccepted D met) → ((e : RtRefusal) → AnswersRt {T = T} disk (Err e) old new → P e → Q e) → AnswersRt disk result old new
    → IfErr result P → IfErr result Q
on-refusal disk P Q (Ok x) old new f a p = tt
on-refusal disk P Q (Err e) old new f a p = f e a p

-- no more transfers were made
pub looked-few : {a b : Disk} {m faults : ℕ} (n : ℕ) → Looked a b m faults → b.transfers ≤ a.transfers + n → Looked a b n faults
looked-few n looked few = record {
  image = looked.image;
  history = looked.history;
  honest = looked.honest;
  transfers = few;
  failures = looked.failures;
  quiet = looked.quiet;
}

pub went-few : (P : Image → Type 0) {a b : Disk} {m faults : ℕ} (n : ℕ) → Went P a b m faults → b.transfers ≤ a.transfers + n
    → Went P a b n faults
went-few P n went few = record {
  since = went.since;
  history = went.history;
  image = went.image;
  each = went.each;
  size = went.size;
  honest = went.honest;
  transfers = few;
  failures = went.failures;
  quiet = went.quiet;
}

-- an area has as many blocks as its entry says
pub area-length : (store : RtStore) (seg : Segment) (i : ℕ) → length (area_at store seg i).contents ≡ (area_at store seg i).length
unfolding area_at
area-length store seg i = simp (length-map, length-range_with_len)

module _ (disk : Disk) (s : IsSoundDisk disk) (name : List ℕ) (file : Area) (more : List Area)
    (named : files_named name (rt_store_of disk.image) ≡ file ∷ more) where
  -- each block of a file is reached, unless a transfer fails
  pub past-of : (place : ℕ) (e : RtRefusal) → FailsToReach e name place disk → e ≢ rt.Failed → is_fault e ≡ false
      → length file.contents ≤ place
  past-of place rt.Failed h unfailed none = absurd (unfailed refl)
  past-of place rt.NoSuchFile h unfailed none =
      let empty : file ∷ more ≡ [] = sym named ∙ no-file name (rt_store_of disk.image) (h s) in absurd (cc)
  past-of place rt.EndOfFile h unfailed none =
      let first = file-first name (rt_store_of disk.image) (h s).file in
      let same : file ∷ more ≡ file_area (h s).file ∷ first.more = sym named ∙ first.named in
      let long : length file.contents ≡ (file_area (h s).file).length =
      ap (λ (l : List Area). length (slice_index_or l 0 file).contents) same
      ∙ area-length (rt_store_of disk.image) (h s).file.segment (h s).file.i in
      omega (arith, long, (h s).past)
  past-of place rt.DeviceFault h unfailed none = absurd (cc)
  past-of place rt.Protected h unfailed none = absurd h
  past-of place rt.DuplicateName h unfailed none = absurd h
  past-of place rt.NoSpace h unfailed none = absurd h
  past-of place rt.DirectoryFull h unfailed none = absurd h
  past-of place rt.NoMemory h unfailed none = absurd h

  -- it is found
  pub found-of : (e : RtRefusal) → FailsToFindFile e name disk → e ≢ rt.Failed → is_fault e ≢ false
  found-of rt.Failed h unfailed none = absurd (unfailed refl)
  found-of rt.NoSuchFile h unfailed none =
      let empty : file ∷ more ≡ [] = sym named ∙ no-file name (rt_store_of disk.image) (h s) in absurd (cc)
  found-of rt.DeviceFault h unfailed none = absurd (cc)
  found-of rt.EndOfFile h unfailed none = absurd h
  found-of rt.Protected h unfailed none = absurd h
  found-of rt.DuplicateName h unfailed none = absurd h
  found-of rt.NoSpace h unfailed none = absurd h
  found-of rt.DirectoryFull h unfailed none = absurd h
  found-of rt.NoMemory h unfailed none = absurd h

  -- one that isn't protected is deleted
  pub deleted-of : (e : RtRefusal) → FailsToDelete e name disk → file.protected ≡ false → e ≢ rt.Failed → is_fault e ≢ false
  deleted-of rt.Failed h open-file unfailed none = absurd (unfailed refl)
  deleted-of rt.NoSuchFile h open-file unfailed none =
      let empty : file ∷ more ≡ [] = sym named ∙ no-file name (rt_store_of disk.image) (h s) in absurd (cc)
  deleted-of rt.Protected h open-file unfailed none =
      let first = file-first name (rt_store_of disk.image) (h s).file in
      let same : file ∷ more ≡ file_area (h s).file ∷ first.more = sym named ∙ first.named in
      let on : file.protected ≡ true = ap (λ (l : List Area). (slice_index_or l 0 file).protected) same ∙ (h s).protected in absurd (cc)
  deleted-of rt.DeviceFault h open-file unfailed none = absurd (cc)
  deleted-of rt.EndOfFile h open-file unfailed none = absurd h
  deleted-of rt.DuplicateName h open-file unfailed none = absurd h
  deleted-of rt.NoSpace h open-file unfailed none = absurd h
  deleted-of rt.DirectoryFull h open-file unfailed none = absurd h
  deleted-of rt.NoMemory h open-file unfailed none = absurd h

  -- it is renamed where the other name is free
  pub renamed-of : (other : List ℕ) (e : RtRefusal) → FailsToRename e name other disk → files_named other (rt_store_of disk.image) ≡ []
      → e ≢ rt.Failed → is_fault e ≢ false
  renamed-of other rt.Failed h free unfailed none = absurd (unfailed refl)
  renamed-of other rt.NoSuchFile h free unfailed none =
      let empty : file ∷ more ≡ [] = sym named ∙ no-file name (rt_store_of disk.image) (h s) in absurd (cc)
  renamed-of other rt.DuplicateName h free unfailed none =
      let first = file-first other (rt_store_of disk.image) (h s).other_file in
      let clash : file_area (h s).other_file ∷ first.more ≡ [] = sym first.named ∙ free in absurd (cc)
  renamed-of other rt.DeviceFault h free unfailed none = absurd (cc)
  renamed-of other rt.EndOfFile h free unfailed none = absurd h
  renamed-of other rt.Protected h free unfailed none = absurd h
  renamed-of other rt.NoSpace h free unfailed none = absurd h
  renamed-of other rt.DirectoryFull h free unfailed none = absurd h
  renamed-of other rt.NoMemory h free unfailed none = absurd h
