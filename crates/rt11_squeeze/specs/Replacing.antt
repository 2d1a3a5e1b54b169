-- What deleting a file and giving its name to a copy of it tells (profile).
use Rattle.std.specs.Prelude.{◌≡◌, ◌≢◌, ℕ, Bool, true, false, if◌then◌else◌, List, [], ◌∷◌}
use Rattle.f11_dev.specs.Disk.{Disk}
use Rattle.rt11_volume.specs.Entry.{is_same_name}
use Rattle.rt11_volume.specs.Files.{is_fault}
use Rattle.rt11_volume.specs.Laws.{HasGone}
use Rattle.rt11_volume.specs.Named.{files_named}
use Rattle.rt11_volume.specs.Store.{Area, RtStore, rt_store_of}
use Rattle.rt11_volume.specs.Verifying.Verdict.{IsSoundDisk}
use Rattle.rt11_volume.specs.declared.refusal.RtRefusal.{RtRefusal}
use Rattle.rt11_volume.specs.declared.refusal.RtRefusal.TheVariants.{Failed}

-- so many transfers are made at most: a file is protected no more, and deleted
abbrev pub removal_transfers : ℕ
removal_transfers = 127

-- and so many: one is renamed, and protected
abbrev pub naming_transfers : ℕ
naming_transfers = 189

-- The first file of a name is protected, or isn't.
pub record IsProtectedAs (name : List ℕ) (protected : Bool) (store : RtStore) : Type 0 where
  pub file : Area
  pub more : List Area
  pub named : files_named name store ≡ file ∷ more
  pub protected_is : file.protected ≡ protected

-- The file is gone, and nothing else; the volume is sound still.
pub record Removes (name : List ℕ) (old new : Disk) : Type 0 where
  pub sound : IsSoundDisk old → IsSoundDisk new
  pub gone : IsSoundDisk old → HasGone name (rt_store_of old.image) (rt_store_of new.image)

-- It isn't: on a sound disk, where it was there, since a transfer failed.
pub record FailsToRemove (name : List ℕ) (protected : Bool) (e : RtRefusal) (old : Disk) : Type 0 where
  pub fresh : e ≢ Failed
  pub why : IsSoundDisk old → IsProtectedAs name protected (rt_store_of old.image) → is_fault e ≢ false

-- The file has another name, the only one with it, and is protected where that is asked for; nothing else is another.
pub record HasTaken (name other : List ℕ) (protect : Bool) (old new : RtStore) : Type 0 where
  pub file : Area
  pub was : files_named name old ≡ file ∷ files_named name new
  pub none : files_named other old ≡ []
  pub is : files_named other new ≡ record file { name = other; protected = if protect then true else file.protected } ∷ []
  pub others : (third : List ℕ) → is_same_name name third ≡ false → is_same_name other third ≡ false →
      files_named third new ≡ files_named third old

-- It has, and the volume is sound still.
pub record TakesName (name other : List ℕ) (protect : Bool) (old new : Disk) : Type 0 where
  pub sound : IsSoundDisk old → IsSoundDisk new
  pub taken : IsSoundDisk old → HasTaken name other protect (rt_store_of old.image) (rt_store_of new.image)

-- There is a file of the one name, and none of the other.
pub record MayTake (name other : List ℕ) (store : RtStore) : Type 0 where
  pub file : Area
  pub more : List Area
  pub named : files_named name store ≡ file ∷ more
  pub none : files_named other store ≡ []

-- It hasn't: on a sound disk, where it might, since a transfer failed.
pub record FailsToTake (name other : List ℕ) (e : RtRefusal) (old : Disk) : Type 0 where
  pub fresh : e ≢ Failed
  pub why : IsSoundDisk old → MayTake name other (rt_store_of old.image) → is_fault e ≢ false
