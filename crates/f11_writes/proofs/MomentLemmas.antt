-- What stands at each moment where blocks are written in order, and where the disk was looked at before, or afterwards.
use Rattle.std.proofs.Common.{◌≡◌, ◌≤◌, ℕ, Bool, false, IsTrue, List, ◌++◌, All, sym, ap, subst, ◌∙◌, arith}
use Rattle.std.proofs.lemmas.List.{append_cancel_right}
use Rattle.std.specs.List.{slice_get}
use Rattle.f11_dev.specs.Disk.{Disk}
use Rattle.f11_dev.specs.Image.{Image, IsImage}
use Rattle.f11_dev.specs.Looked.{Looked}
use Rattle.f11_volume.specs.home.Home.{HomeFields}
use Rattle.f11_volume.specs.Sound.{HasSoundVolume}
use Rattle.f11_volume.specs.Verdict.{IsAccepted}
use Rattle.f11_volume.proofs.AcceptedLemmas.{accepted-sound}
use Rattle.f11_writes.specs.Fixed.{KeepsFixed}
use Rattle.f11_writes.specs.Lost.{KeepsLost, SparesLost, StayLost}
use Rattle.f11_writes.specs.Moments.{LeavesAlone, StandsAccepted}
use Rattle.f11_writes.proofs.InOrderLemmas.{each-accepted, each-fixed, fixed-still, order-looked, order-then}
use Rattle.f11_writes.proofs.LostLemmas.{made-last}

-- the images that were written are those which a history has more
since-is : (old new : Disk) (made since : List Image) → new.history ≡ made ++ old.history → new.history ≡ since ++ old.history
    → made ≡ since
since-is old new made since first history = append_cancel_right made since old.history (sym first ∙ history)

pub order-accepted : (failed_before failed_after : Bool) (old new : Disk) → IsImage old.image → (IsTrue old.honest → IsAccepted old.image)
    → (IsTrue old.honest → new.failures ≡ old.failures → failed_after ≡ false) → SparesLost failed_before failed_after old new
    → StandsAccepted old new
order-accepted failed_before failed_after old new is_image accepted alive writes = record {
  accepted = λ honest since history.
      let sound = (accepted-sound old.image is_image).0 (accepted honest) in
      let made = writes.ordered.ordered honest in
      subst (λ (images : List Image). All IsAccepted images) (since-is old new made.since since made.history history)
      (each-accepted sound.home old.image made.since sound.volume (made.each sound.home));
  each = λ honest home sound since history.
      let made = writes.ordered.ordered honest in
      let kept = writes.kept honest home sound in
      let fixed = subst (λ (images : List Image). All (KeepsFixed home old.image) images)
      (since-is old new made.since since made.history history)
      (each-fixed home old.image made.since sound (made.each home)) in
      let lost = subst (λ (images : List Image). All (KeepsLost home old.image) images)
      (since-is old new kept.since since kept.history history) kept.each in
      λ k d within. record { fixed = fixed k d within; lost = lost k d within };
  last = λ honest home sound.
      let made = writes.ordered.ordered honest in
      record {
        fixed = λ lbn fixed.
            subst (λ (i : Image). slice_get i lbn ≡ slice_get old.image lbn) (sym made.image)
            (fixed-still home old.image made.since sound (made.each home) lbn fixed).0;
        lost = made-last home old new (writes.kept honest home sound);
      };
  still = λ same honest. writes.stay (alive honest same) honest;
  ordered = writes.ordered;
}

pub stands-behind : (old mid new : Disk) (most : ℕ) → Looked old mid most 0 → StandsAccepted mid new → StandsAccepted old new
stands-behind old mid new most looked s = record {
  accepted = λ is since history. s.accepted (looked.honest ∙ is) since (since-mid since history);
  each = λ is home sound since history.
      subst (λ (i : Image). All (LeavesAlone home i) since) looked.image
      (s.each (looked.honest ∙ is) home (sound-mid home sound) since (since-mid since history));
  last = λ is home sound.
      subst (λ (i : Image). LeavesAlone home i new.image) looked.image (s.last (looked.honest ∙ is) home (sound-mid home sound));
  still = λ same is home sound.
      subst (λ (i : Image). StayLost home i new.image) looked.image
      (s.still (let none = looked.failures in omega (arith, same, none)) (looked.honest ∙ is) home (sound-mid home sound));
  ordered = order-then old mid new (order-looked old mid most 0 looked) s.ordered;
}
  where
    since-mid : (since : List Image) → new.history ≡ since ++ old.history → new.history ≡ since ++ mid.history
    since-mid since history = history ∙ ap (λ (h : List Image). since ++ h) (sym looked.history)

    sound-mid : (home : HomeFields) → HasSoundVolume old.image home → HasSoundVolume mid.image home
    sound-mid home sound = subst (λ (i : Image). HasSoundVolume i home) (sym looked.image) sound

pub stands-before : (old mid new : Disk) (most faults : ℕ) → old.failures ≤ mid.failures → StandsAccepted old mid
    → Looked mid new most faults
    → StandsAccepted old new
stands-before old mid new most faults rises s looked = record {
  accepted = λ is since history. s.accepted is since (sym looked.history ∙ history);
  each = λ is home sound since history. s.each is home sound since (sym looked.history ∙ history);
  last = λ is home sound. subst (λ (i : Image). LeavesAlone home old.image i) (sym looked.image) (s.last is home sound);
  still = λ same is home sound.
      subst (λ (i : Image). StayLost home old.image i) (sym looked.image)
      (s.still (let more = looked.failures in omega (arith, same, more, rises)) is home sound);
  ordered = order-then old mid new s.ordered (order-looked mid new most faults looked);
}
