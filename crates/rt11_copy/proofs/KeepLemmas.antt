-- What stays of a volume to which a file is copied.
use Rattle.std.proofs.Common.{◌≡◌, ℕ, Bool, false, List, [], ◌∷◌, Some, Err, refl, sym, ap, ◌∙◌, subst}
use Rattle.std.specs.List.{slice_get}
use Rattle.f11_dev.specs.Disk.{Disk}
use Rattle.f11_dev.specs.Image.{Image}
use Rattle.rt11_volume.specs.Named.{files_named}
use Rattle.rt11_volume.specs.Store.{Area, RtStore, rt_store_of}
use Rattle.rt11_volume.specs.Verifying.Verdict.{IsRtAccepted, IsSoundDisk}
use Rattle.rt11_volume.specs.declared.any_entries.RtEntry.{RtEntry}
use Rattle.rt11_squeeze.specs.Kept.{SparesFiles}
use Rattle.rt11_squeeze.proofs.StandLemmas.{CarriesFiles, IsCarried, carried-stand, names-apart}
use Rattle.rt11_copy.specs.Copies.{IsLeft, KeepsEachFile, KeepsVolume}
use Rattle.rt11_copy.specs.Copying.{CopiesFile, FailsToCopyFile, Makes, is_volume_fault}
use Rattle.rt11_copy.specs.declared.outcome.RtUncopied.{RtUncopied}
use Rattle.rt11_copy.specs.declared.outcome.RtUncopied.TheVariants.{NoFile, StatusWrong, NoName, PastEnd, Unreadable, Refused}

pub keeps-none : (disk : Disk) → KeepsVolume disk disk
keeps-none disk = record { sound = λ s. s; files = λ s name file more at. at }

-- one after another
pub keeps-more : (a b c : Disk) → KeepsVolume a b → KeepsVolume b c → KeepsVolume a c
keeps-more a b c first next = record {
  sound = λ s. next.sound (first.sound s);
  files = λ s name file more at. next.files (first.sound s) name file more (first.files s name file more at);
}

-- where nothing was written
keeps-image : (old new : Disk) → new.honest ≡ old.honest → (IsSoundDisk old → new.image ≡ old.image) → KeepsVolume old new
keeps-image old new honest same = record {
  sound = λ s. record { honest = honest ∙ s.honest; accepted = subst IsRtAccepted (sym (same s)) s.accepted };
  files = λ s name file more at. ap (λ (i : Image). files_named name (rt_store_of i)) (same s) ∙ at;
}

-- where a file was made
keeps-made : (name : List ℕ) (day : ℕ) (protected : Bool) (blocks : List (List ℕ)) (old new : Disk)
    → Makes name day protected blocks old new → KeepsVolume old new
keeps-made name day protected blocks old new makes = record {
  sound = makes.sound;
  files = λ s other file more at.
      let h = makes.made s in
      h.others other (names-apart name other (rt_store_of old.image) file more h.none at) ∙ at;
}

-- or wasn't, and no transfer failed
stays-failed : (why : RtUncopied) (e : RtEntry) (from old new : Disk) → FailsToCopyFile why e from old new
    → is_volume_fault {T = Unit} (Err why) ≡ false → IsSoundDisk old → new.image ≡ old.image
stays-failed NoFile e from old new fails passes s = ap (λ (d : Disk). d.image) fails.untouched
stays-failed StatusWrong e from old new fails passes s = ap (λ (d : Disk). d.image) fails.untouched
stays-failed NoName e from old new fails passes s = ap (λ (d : Disk). d.image) fails.untouched
stays-failed PastEnd e from old new fails passes s = ap (λ (d : Disk). d.image) fails.untouched
stays-failed Unreadable e from old new fails passes s = ap (λ (d : Disk). d.image) fails.untouched
stays-failed (Refused refusal) e from old new fails passes s = fails.stays s passes

pub left-so : (why : RtUncopied) (e : RtEntry) (from old new : Disk) → FailsToCopyFile why e from old new
    → is_volume_fault {T = Unit} (Err why) ≡ false → IsLeft why e from old new
left-so why e from old new fails passes = record { fails = fails; stays = stays-failed why e from old new fails passes }

pub keeps-failed : (why : RtUncopied) (e : RtEntry) (from old new : Disk) → FailsToCopyFile why e from old new
    → is_volume_fault {T = Unit} (Err why) ≡ false → new.honest ≡ old.honest → KeepsVolume old new
keeps-failed why e from old new fails passes honest = keeps-image old new honest (stays-failed why e from old new fails passes)

-- the blocks of each file are those of one still
keeps-carried : (old new : RtStore) → KeepsEachFile old new → CarriesFiles old new
keeps-carried old new keeps name k file is = by (files_named name old) refl
  where
    by : (fs : List Area) → files_named name old ≡ fs → IsCarried file.contents new
    by [] none =
        let clash : slice_get {X = Area} [] k ≡ Some file = sym (ap (λ (fs : List Area). slice_get fs k) none) ∙ is in absurd (cc)
    by (first ∷ more) some = record {
      name = name;
      place = k;
      file = file;
      at = ap (λ (fs : List Area). slice_get fs k) (keeps name first more some ∙ sym some) ∙ is;
      blocks_are = refl;
    }

-- what stands later
pub spares-behind : (old middle : Disk) (image : Image) → KeepsVolume old middle → SparesFiles middle image → SparesFiles old image
spares-behind old middle image keeps spares s =
    carried-stand (rt_store_of old.image) (rt_store_of middle.image) image
    (keeps-carried (rt_store_of old.image) (rt_store_of middle.image) (keeps.files s)) (spares (keeps.sound s))

-- where the file of an entry was copied
pub keeps-copied : (e : RtEntry) (from old new : Disk) → CopiesFile e from old new → KeepsVolume old new
keeps-copied e from old new c = keeps-made c.name c.day e.protected c.blocks old new c.makes
