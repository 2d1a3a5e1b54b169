-- A copy from an RT-11 volume to a Files-11 volume.
use Rattle.std.proofs.Common.{◌≡◌, ℕ, Bool, true, false, List, [], Result, Ok, Err, refl, sym, ap, subst}
use Rattle.f11_dev.specs.Disk.{Disk}
use Rattle.f11_dev.specs.declared.device.Device.{Ghosts}
use Rattle.f11_store.specs.declared.files.FileId.{FileId}
use Rattle.f11_fcp.specs.Lists.{is_sound, store_of_volume}
use Rattle.f11_fcp.specs.declared.volume.Volume.{Volume}
use Rattle.rt11_volume.specs.Calls.{has_failed}
use Rattle.rt11_volume.specs.Files.{is_fault as is_rt_fault}
use Rattle.rt11_volume.specs.Verifying.Verdict.{IsSoundDisk}
use Rattle.rt11_volume.specs.declared.refusal.RtRefusal.TheVariants.{Failed}
use Rattle.rt11_volume.specs.declared.volume.RtAccepted.{RtAccepted}
use Rattle.f11_making.specs.Asking.{Who}
use Rattle.f11_flx.specs.Copying.{FaresFiles, KeepsFailed, KeepsSpent, MayMake, MayMakeFile, ReadsRt, is_whole, of_rt}
use Rattle.f11_making.specs.Volume.{of_volume}
use Rattle.f11_making.specs.AsBefore.{IsAsBefore}
use Rattle.f11_making.specs.Making.{Making, as_file}
use Rattle.f11_flx.specs.CopyFromRt.{CopiesFromRt, FailsToCopyFromRt}
use Rattle.f11_flx.specs.FromRt.{CopiesFrom, FailsToCopyFrom}
use Rattle.f11_flx.specs.Refusal.{is_lethal}
use Rattle.f11_flx.specs.RtSource.{Looks}
use Rattle.f11_flx.specs.Target.{rt_disk, rt_store}
use Rattle.f11_flx.specs.declared.mode.CopyMode.{CopyMode}
use Rattle.f11_flx.specs.declared.refusal.FlxRefusal.{FlxRefusal}
use Rattle.f11_flx.specs.declared.refusal.FlxRefusal.TheVariants.{BadRecord, Files, LineTooLong, Rt, Unread}
use Rattle.f11_flx.proofs.FromRt.FaredLemmas.{alike, copies-fares, fails-fares}
use Rattle.f11_flx.proofs.FromRt.FromRtLemmas.{copies-seen}
use Rattle.f11_flx.proofs.FromRt.KeptLemmas.{copies-keep, copies-unfailed, fails-keep, fails-unfailed}
use Rattle.f11_flx.proofs.FromRt.LooksLemmas.{copies-looks, fails-looks, is-rt-fault}
use Rattle.f11_flx.proofs.FromRt.NotMadeLemmas.{copy-refused, copy-undone}
use Rattle.f11_flx.proofs.SmallLemmas.{not-true}
use Rattle.f11_flx.proofs.FromRt.SpentLemmas.{failed-made, failed-unasked, failed-unmade}
use Rattle.f11_flx.proofs.Made.TriedLemmas.{AsksFor, copies-tries, fails-tries}
use Rattle.f11_making.proofs.VolumeLemmas.{standing, unused, volume-seen}

abbrev pub given : ℕ → Result ℕ FlxRefusal
given n = Ok n

abbrev pub refused : FlxRefusal → Result ℕ FlxRefusal
refused f = Err f

fault-is : (f : FlxRefusal) → of_rt is_rt_fault (refused f) ≡ is-rt-fault f
fault-is (Files e) = refl
fault-is (Rt e) = refl
fault-is BadRecord = refl
fault-is LineTooLong = refl
fault-is Unread = refl

module _ {E : Type 0} {met : Ghosts E} (disk : E → Disk) where
  reads-rt : (r : Result ℕ FlxRefusal) (b : Bool) (old new : RtAccepted E met) → of_rt is_rt_fault r ≡ b → Looks disk b old new
      → KeepsFailed disk r old new → (has_failed old ≡ true → r ≡ Err (Rt Failed)) → ReadsRt disk r old new
  reads-rt r b old new is h kept dead =
      let k = subst (λ x. Looks disk x old new) (sym is) h in
      record {
        fares = record {
          failures = k.fares.failures;
          quiet = k.fares.quiet;
          honest = k.fares.honest;
          next = k.fares.next;
          front = k.fares.front;
        };
        keeps = kept;
        failed = dead;
        image = k.image;
        history = k.history;
      }

-- a file that was made from any source, or wasn't
module _ {D : Type 0} {met : Ghosts D} (who : Who) (lun : ℕ) (making : Making) (v w : Volume D met) where
  abbrev May : Result ℕ FlxRefusal → Type 0
  May result = MayMake result who lun making.directory making.name making.protection making.stated v w

  pub may-make : (blocks : ℕ) → FaresFiles {T = Unit} (Ok tt) v w → KeepsSpent (given blocks) v w → AsksFor of_volume who lun making v w
      → May (given blocks)
  may-make blocks k keeps tries = record {
    fares = alike (given blocks) (Ok tt) v w refl refl k;
    keeps = keeps;
    unasked = λ is. absurd (differ (Rt Failed) is);
    asked = tries;
    undone = λ e is sound whole. absurd (differ e is);
  }
    where
      differ : (e : FlxRefusal) → given blocks ≡ refused e → ⊥
      differ e is = cc

  pub may-not-make : (f : FlxRefusal) → FaresFiles {T = Unit} (Err f) v w → KeepsSpent (refused f) v w
      → AsksFor of_volume who lun making v w
      → (refused f ≡ refused (Rt Failed) → w ≡ v)
      → (is_sound v ≡ true → is_lethal f ≡ false → IsAsBefore (store_of_volume v) (store_of_volume w)) → May (refused f)
  may-not-make f k keeps tries unasked undone = record {
    fares = fares f k;
    keeps = keeps;
    unasked = unasked;
    asked = tries;
    undone = λ e is sound whole. undone sound (not-true (is_lethal f) whole);
  }
    where
      fares : (f : FlxRefusal) → FaresFiles {T = Unit} (Err f) v w → FaresFiles (refused f) v w
      fares (Files e) k = alike (refused (Files e)) (Err (Files e)) v w refl refl k
      fares (Rt e) k = alike (refused (Rt e)) (Err (Rt e)) v w refl refl k
      fares BadRecord k = alike (refused BadRecord) (Err BadRecord) v w refl refl k
      fares LineTooLong k = alike (refused LineTooLong) (Err LineTooLong) v w refl refl k
      fares Unread k = alike (refused Unread) (Err Unread) v w refl refl k

module _ {D E : Type 0} {met : Ghosts D} {met' : Ghosts E} (disk : E → Disk) (m : CopyMode) (who : Who) (lun : ℕ) (name : List ℕ)
    (dir : FileId) (to : List ℕ) (protection : ℕ) (a b : RtAccepted E met') (v w : Volume D met) where
  pub source-read : (blocks : ℕ) → CopiesFrom of_volume disk m who lun name dir to protection blocks a b v w
      → ReadsRt disk (given blocks) a b
  source-read blocks h =
      reads-rt disk (given blocks) false a b refl (copies-looks of_volume disk m who lun name dir to protection blocks a b v w h)
      (copies-unfailed of_volume disk m who lun name dir to protection blocks a b v w h)
      (λ dead. absurd (failed-made of_volume disk m who lun name dir to protection a b v w dead blocks h))

  pub source-refused : (f : FlxRefusal) → FailsToCopyFrom of_volume disk m who lun name dir to protection f a b v w
      → ReadsRt disk (refused f) a b
  source-refused f h =
      reads-rt disk (refused f) (is-rt-fault f) a b (fault-is f) (fails-looks of_volume disk m who lun name f dir to protection a b v w h)
      (fails-unfailed of_volume disk m who lun name f dir to protection a b v w h)
      (λ dead. ap refused (failed-unmade of_volume disk m who lun name dir to protection a b v w dead f h))

  pub file-made : (blocks : ℕ) → CopiesFrom of_volume disk m who lun name dir to protection blocks a b v w
      → MayMakeFile (given blocks) who lun dir to protection v w
  file-made blocks h =
      may-make who lun (as_file to dir protection [] []) v w blocks (copies-fares disk m who lun name dir to protection blocks a b v w h)
      (copies-keep disk m who lun name dir to protection blocks a b v w h)
      (copies-tries of_volume disk m who lun name dir to protection a b v w blocks h)

  pub file-not-made : (f : FlxRefusal) → FailsToCopyFrom of_volume disk m who lun name dir to protection f a b v w
      → MayMakeFile (refused f) who lun dir to protection v w
  file-not-made f h =
      may-not-make who lun (as_file to dir protection [] []) v w f (fails-fares disk m who lun name f dir to protection a b v w h)
      (fails-keep disk m who lun name f dir to protection a b v w h)
      (fails-tries of_volume disk m who lun name dir to protection a b v w f h)
      (λ is. failed-unasked of_volume disk m who lun name dir to protection a b v w
      ((fails-unfailed of_volume disk m who lun name f dir to protection a b v w h).only is) f h)
      (λ sound clean. copy-undone of_volume disk m who lun name store_of_volume is_sound volume-seen f dir to protection a b v w clean sound
      (unused v) (standing v sound) h)

  pub copy-made : (blocks : ℕ) → CopiesFrom of_volume disk m who lun name dir to protection blocks a b v w → is_sound v ≡ true
      → IsSoundDisk (rt_disk disk a) →
      CopiesFromRt m name who lun dir to protection blocks (rt_store disk a) (store_of_volume v) (store_of_volume w)
  copy-made blocks h sound s =
      copies-seen disk m name of_volume who lun store_of_volume is_sound volume-seen dir to protection blocks a b v w h sound s

  pub copy-not-made : (f : FlxRefusal) → FailsToCopyFrom of_volume disk m who lun name dir to protection f a b v w
      → is_whole (refused f) ≡ true → is_sound v ≡ true → IsSoundDisk (rt_disk disk a) →
      FailsToCopyFromRt f m name who lun dir to protection (rt_disk disk a) (store_of_volume v) (store_of_volume w)
  copy-not-made f h whole sound s =
      copy-refused of_volume disk m who lun name store_of_volume is_sound volume-seen f dir to protection a b v w
      (not-true (is_lethal f) whole) sound (unused v) (standing v sound) s h
