-- What is kept of an open volume, and the volume itself.
use Rattle.std.proofs.Common.{◌≡◌, Bool, false, IsTrue, ℕ, length, Result, Ok, Err, sym, subst, ◌∙◌}
use Rattle.std.specs.Prelude.{IfOk, IfErr}
use Rattle.f11_dev.specs.Disk.{Disk}
use Rattle.f11_dev.specs.Image.{Image, IsImage}
use Rattle.f11_dev.specs.Looked.{Looked}
use Rattle.f11_home.specs.Home.{HomeFields}
use Rattle.f11_home.proofs.HomeLemmas.{home-unique}
use Rattle.f11_volume.specs.Sound.{HasSoundVolume}
use Rattle.f11_volume.specs.Verdict.{IsAccepted}
use Rattle.f11_volume.proofs.AcceptedLemmas.{accepted-sound, accepted-volume}
use Rattle.f11_files.specs.Structure.{home_of, FitsOn, IsStructureOf, HasNoOtherHome, IsStructureFor, StaysFor}
use Rattle.f11_files.specs.declared.structure.Structure.{Structure}

-- an accepted image has a sound volume, with the only home block that it has
pub accepted-opened : (image : Image) (home : HomeFields) → IsImage image → IsAccepted image → HasNoOtherHome image home
    → HasSoundVolume image home
accepted-opened image home image_is accepted no_other =
    let sound = (accepted-sound image image_is).0 accepted in
    subst (HasSoundVolume image) (no_other sound.home sound.volume.framed.home_is) sound.volume

-- and one with a sound volume is accepted, and has no other home block
pub opened-accepted : (image : Image) (home : HomeFields) → IsImage image → HasSoundVolume image home → IsAccepted image
opened-accepted image home image_is sound = (accepted-volume image home image_is sound.framed.home_is).1 sound

pub opened-home : (image : Image) (home : HomeFields) → HasSoundVolume image home → HasNoOtherHome image home
opened-home image home sound other is = home-unique image other home is sound.framed.home_is

-- so what is kept is for the disk
pub kept-for : (s : Structure) (disk : Disk) → IsImage disk.image → FitsOn s (length disk.image)
    → (IsTrue disk.honest → IsAccepted disk.image) → (IsTrue disk.honest → HasNoOtherHome disk.image (home_of s))
    → (IsTrue disk.honest → IsStructureOf s disk.image) → IsStructureFor s disk
kept-for s disk image_is lies accepted home keeps = record {
  lies = lies;
  sound = λ honest. accepted-opened disk.image (home_of s) image_is (accepted honest) (home honest);
  keeps = keeps;
}

-- a disk that was only read has what it had
pub looked-for : (s : Structure) (old new : Disk) (most faults : ℕ) → IsStructureFor s old → Looked old new most faults
    → IsStructureFor s new
looked-for s old new most faults for looked = record {
  lies = subst (λ (i : Image). FitsOn s (length i)) (sym looked.image) for.lies;
  sound = λ honest. subst (λ (i : Image). HasSoundVolume i (home_of s)) (sym looked.image) (for.sound (sym looked.honest ∙ honest));
  keeps = λ honest. subst (IsStructureOf s) (sym looked.image) (for.keeps (sym looked.honest ∙ honest));
}

-- what a call that was answered leaves, whatever the answer
pub answered : {T E R : Type 0} (r : Result T E) (P : T → Type 0) (Q : E → Type 0) → IfOk r P → IfErr r Q → ((x : T) → P x → R)
    → ((y : E) → Q y → R) → R
answered (Ok x) P Q ok err done refused = done x ok
answered (Err y) P Q ok err done refused = refused y err

-- what every value of the type says, where what is kept is for the disk
pub record IsOpened (s : Structure) (failed : Bool) (disk : Disk) : Type 0 where
  pub lies : failed ≡ false → FitsOn s (length disk.image)
  pub accepted : IsTrue disk.honest → IsAccepted disk.image
  pub home : IsTrue disk.honest → HasNoOtherHome disk.image (home_of s)
  pub keeps : IsTrue disk.honest → failed ≡ false → IsStructureOf s disk.image

pub for-opened : (s : Structure) (failed : Bool) (disk : Disk) → IsImage disk.image → IsStructureFor s disk → IsOpened s failed disk
for-opened s failed disk image_is for = record {
  lies = λ _. for.lies;
  accepted = λ honest. opened-accepted disk.image (home_of s) image_is (for.sound honest);
  home = λ honest. opened-home disk.image (home_of s) (for.sound honest);
  keeps = λ honest _. for.keeps honest;
}

pub stays-opened : (old new : Structure) (failed : Bool) (disk : Disk) → IsImage disk.image → StaysFor failed old new disk
    → IsOpened new failed disk
stays-opened old new failed disk image_is stays = record {
  lies = stays.lies;
  accepted = λ honest. opened-accepted disk.image (home_of new) image_is (stays.sound honest);
  home = λ honest. opened-home disk.image (home_of new) (stays.sound honest);
  keeps = λ honest not. stays.keeps not honest;
}
