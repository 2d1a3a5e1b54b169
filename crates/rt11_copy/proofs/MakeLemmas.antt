-- A file that is made, and protected.
use Rattle.std.proofs.Common.{◌≡◌, ◌≢◌, ℕ, Bool, true, false, List, [], ◌∷◌, Err, sym, ◌∙◌, ap}
use Rattle.f11_dev.specs.Disk.{Disk}
use Rattle.f11_dev.specs.Image.{Image}
use Rattle.f11_dev.specs.Went.{Went}
use Rattle.f11_dev.specs.declared.device.Device.{Ghosts}
use Rattle.f11_dev.proofs.WentLemmas.{went_more, went_weaker}
use Rattle.rt11_volume.specs.Calls.{AnswersRt, has_failed}
use Rattle.rt11_volume.specs.Entry.{protected_entry}
use Rattle.rt11_volume.specs.Files.{FailsToFindFile, HasEntryChanged, ProtectsFile, is_fault}
use Rattle.rt11_volume.specs.Store.{Area, rt_store_of}
use Rattle.rt11_volume.specs.Verifying.Verdict.{IsSoundDisk}
use Rattle.rt11_volume.specs.declared.refusal.RtRefusal.{RtRefusal}
use Rattle.rt11_volume.specs.declared.refusal.RtRefusal.TheVariants as rt
use Rattle.rt11_volume.specs.declared.volume.RtAccepted.{RtAccepted}
use Rattle.rt11_volume.proofs.Named.Entry.{protected-protected}
use Rattle.rt11_squeeze.specs.Copying.{Copies, FailsToCopy, copy_transfers}
use Rattle.rt11_squeeze.specs.Kept.{SparesFiles, volume_disk}
use Rattle.rt11_squeeze.proofs.CallLemmas.{found-of, unfailed-of}
use Rattle.rt11_squeeze.proofs.ReplaceLemmas.{entry-spares}
use Rattle.rt11_squeeze.proofs.StandLemmas.{behind-stand, carried-stand, others-carried}
use Rattle.rt11_copy.specs.Copying.{Makes, making_transfers}

module _ (name : List ℕ) (day : ℕ) (blocks : List (List ℕ)) (old middle : Disk) (copies : Copies name day blocks old middle) where
  -- a file that isn't to be protected
  pub makes-open : (protected : Bool) → protected ≡ false → Makes name day protected blocks old middle
  makes-open protected bare = record {
    sound = copies.sound;
    made = λ s.
        let h = copies.copy s in
        record {
          file = h.file;
          none = h.none;
          one = h.one;
          place = h.place;
          blocks_are = h.blocks_are;
          date_is = h.date_is;
          protected_is = h.unprotected ∙ sym bare;
          others = h.others;
        };
  }

  -- what stands while it is protected
  change-spares : (image : Image) → HasEntryChanged (protected_entry true) name middle image → SparesFiles old image
  change-spares image changed s =
      let m = copies.sound s in
      let h = copies.copy s in
      carried-stand (rt_store_of old.image) (rt_store_of middle.image) image
      (others-carried name (rt_store_of old.image) (rt_store_of middle.image) h.none h.others)
      (behind-stand middle.image image m.accepted (entry-spares (protected_entry true) name middle image changed m))

  pub protect-went : (count faults : ℕ) (new : Disk) → Went (SparesFiles old) old middle (copy_transfers count) 0
      → Went (HasEntryChanged (protected_entry true) name middle) middle new 63 faults
      → Went (SparesFiles old) old new (making_transfers count) faults
  protect-went count faults new first next =
      went_more (SparesFiles old) first
      (went_weaker (HasEntryChanged (protected_entry true) name middle) (SparesFiles old) change-spares next)

  -- it was
  pub makes-protected : (protected : Bool) (faults : ℕ) (new : Disk) → protected ≡ true
      → Went (HasEntryChanged (protected_entry true) name middle) middle new 63 faults
      → (IsSoundDisk middle → ProtectsFile true name middle.image new.image) → Makes name day protected blocks old new
  makes-protected protected faults new on went protects = record {
    sound = λ s. let m = copies.sound s in record { honest = went.honest ∙ m.honest; accepted = (protects m).accepted };
    made = λ s.
        let h = copies.copy s in
        let p = protected-protected true name middle.image new.image (protects (copies.sound s)) in
        let same : h.file ∷ [] ≡ p.file ∷ p.more = sym h.one ∙ p.was in
        let same-file : h.file ≡ p.file = cc in
        let same-more : [] ≡ p.more = cc in
        record {
          file = record h.file { protected = true };
          none = h.none;
          one = p.is ∙ ap (λ (f : Area). record f { protected = true } ∷ p.more) (sym same-file)
              ∙ ap (λ (l : List Area). record h.file { protected = true } ∷ l) (sym same-more);
          place = h.place;
          blocks_are = h.blocks_are;
          date_is = h.date_is;
          protected_is = sym on;
          others = λ other apart. p.others other apart ∙ h.others other apart;
        };
  }

-- or couldn't be
module _ {D : Type 0} {met : Ghosts D} (disk : D → Disk) (name : List ℕ) (day : ℕ) (blocks : List (List ℕ)) (old middle : RtAccepted D met)
    (copies : Copies name day blocks (volume_disk disk old) (volume_disk disk middle)) where
  pub unprotected-fails : (count : ℕ) (e : RtRefusal) (new : RtAccepted D met) → has_failed middle ≡ false
      → AnswersRt {T = Unit} disk (Err e) middle new → FailsToFindFile e name (volume_disk disk middle)
      → FailsToCopy name count e (volume_disk disk old) (volume_disk disk new)
  unprotected-fails count e new fresh a why = record {
    fresh = unfailed;
    why = λ s none. absurd (never s none);
    stays = λ s none. absurd (never s none);
  }
    where
      unfailed : e ≢ rt.Failed
      unfailed = unfailed-of {T = Unit} disk e middle new a fresh

      never : IsSoundDisk (volume_disk disk old) → is_fault e ≡ false → ⊥
      never s none =
          let h = copies.copy s in
          found-of (volume_disk disk middle) (copies.sound s) name h.file [] h.one e why unfailed none
