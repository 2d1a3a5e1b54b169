-- What a copy to an RT-11 volume tells.
use Rattle.std.proofs.Common.{◌≡◌, ℕ, true, false, List, Result, Ok, Err, IfErr, IfOk, refl, sym, ◌∙◌, subst}
use Rattle.f11_dev.specs.Disk.{Disk}
use Rattle.f11_dev.specs.declared.device.Device.{Ghosts}
use Rattle.f11_runs.proofs.AccessLemmas.{true-false}
use Rattle.f11_store.specs.declared.files.FileId.{FileId}
use Rattle.f11_store.specs.declared.refusals.Refusal.TheVariants.{VolumeFailed}
use Rattle.rt11_volume.specs.Calls.{has_failed}
use Rattle.rt11_volume.specs.Files.{is_fault}
use Rattle.rt11_volume.specs.Verifying.Verdict.{IsSoundDisk}
use Rattle.rt11_volume.specs.declared.volume.RtAccepted.{RtAccepted}
use Rattle.f11_fcp.specs.Lists.{is_sound, store_of_volume}
use Rattle.f11_fcp.specs.declared.volume.Volume.{Volume}
use Rattle.f11_making.specs.Asking.{Who}
use Rattle.f11_making.specs.Volume.{of_volume}
use Rattle.f11_flx.specs.Copying.{FaresRt, KeepsFailed, MakesRtFile, MayRefuseFailed, WhereSound, is_whole, of_rt}
use Rattle.f11_flx.specs.CopyToRt.{CopiesToRt, FailsToCopyToRt, RefusesCopyToRt}
use Rattle.f11_flx.specs.EndedToRt.{EndsToRt}
use Rattle.f11_flx.specs.Refusal.{is_lethal}
use Rattle.f11_flx.specs.RtOutcome.{LeavesRt, is_rt_fault}
use Rattle.f11_flx.specs.Target.{Fares, rt_disk, rt_store}
use Rattle.f11_flx.specs.ToRt.{CopiesFileToRt, FailsToCopyFileToRt}
use Rattle.f11_flx.specs.declared.mode.CopyMode.{CopyMode}
use Rattle.f11_flx.specs.declared.refusal.FlxRefusal.{FlxRefusal}
use Rattle.f11_flx.specs.declared.refusal.FlxRefusal.TheVariants.{BadRecord, Files, LineTooLong, Rt, Unread}
use Rattle.f11_flx.proofs.ToRt.CopiedLemmas.{copied}
use Rattle.f11_flx.proofs.ToRt.EndedToRtLemmas.{copy-ends-to-rt}
use Rattle.f11_flx.proofs.ToRt.KeptToRtLemmas.{made-keeps, uncopied-keeps, unmade-keeps}
use Rattle.f11_flx.proofs.ToRt.RefusedLemmas.{refused, refused-same}
use Rattle.f11_flx.proofs.ToRt.RtOutcomeLemmas.{file-leaves, file-made}
use Rattle.f11_flx.proofs.SmallLemmas.{not-true}
use Rattle.f11_flx.proofs.FromRt.SpentLemmas.{failed-refused, failed-uncopied, spent-unasked}
use Rattle.f11_making.proofs.VolumeLemmas.{volume-seen}

abbrev as-result : (T : Type 0) → Type 0
as-result T = Result T FlxRefusal

no-error : (x : ℕ) (e : FlxRefusal) (r : as-result ℕ) → r ≡ Ok x → r ≡ Err e → ⊥
no-error x e r is same = absurd (let both : Ok x ≡ Err e = sym is ∙ same in cc)

fault-is : (e : FlxRefusal) → of_rt {T = ℕ} is_fault (Err e) ≡ is_rt_fault e
fault-is (Files e) = refl
fault-is (Rt e) = refl
fault-is BadRecord = refl
fault-is LineTooLong = refl
fault-is Unread = refl

-- What a copy's answer tells of the RT-11 volume.
module _ {E : Type 0} {met : Ghosts E} (disk : E → Disk) (name : List ℕ) (old new : RtAccepted E met) where
  fares-rt : (r : as-result ℕ) → Fares disk (of_rt is_fault r) old new → FaresRt disk r old new
  fares-rt r f = record { failures = f.failures; quiet = f.quiet; honest = f.honest; next = f.next; front = f.front }

  target-made : (x : ℕ) → Fares disk false old new → (IsSoundDisk (rt_disk disk old) → IsSoundDisk (rt_disk disk new))
      → KeepsFailed disk (let r : as-result ℕ = Ok x in r) old new → (has_failed old ≡ true → ⊥) →
      MakesRtFile disk (let r : as-result ℕ = Ok x in r) name old new
  target-made x f sound kept alive = record {
    fares = fares-rt (Ok x) f;
    keeps = kept;
    failed = λ dead. alive dead;
    unasked = λ same. absurd (no-error x (Files VolumeFailed) (Ok x) refl same);
    undone = λ e same. absurd (no-error x e (Ok x) refl same);
    directory = λ e same. absurd (no-error x e (Ok x) refl same);
    sound = λ s whole. sound s;
  }

  target-left : (e : FlxRefusal) → LeavesRt disk name e old new → KeepsFailed disk (let r : as-result ℕ = Err e in r) old new →
      (has_failed old ≡ true → MayRefuseFailed (let r : as-result ℕ = Err e in r))
      → ((let r : as-result ℕ = Err e in r) ≡ Err (Files VolumeFailed) → new ≡ old) →
      MakesRtFile disk (let r : as-result ℕ = Err e in r) name old new
  target-left e l kept may unasked = record {
    fares = fares-rt (Err e) (subst (λ b. Fares disk b old new) (sym (fault-is e)) l.fares);
    keeps = kept;
    failed = may;
    unasked = λ same. unasked same;
    undone = λ x same s whole. let k = l.same (not-true (is_lethal e) whole) s in record { named = k.named; others = k.others };
    directory = λ x same s whole. l.directory (not-true (is_lethal e) whole) s;
    sound = λ s whole. l.sound (not-true (is_lethal e) whole) s;
  }

-- What the answers of a copy to an RT-11 volume tell.
module _ {D E : Type 0} {met : Ghosts D} {met' : Ghosts E} (disk : E → Disk) (m : CopyMode) (who : Who) (lun : ℕ) (file : FileId)
    (name : List ℕ) (day : ℕ)
    (old new : Volume D met) (rt rt' : RtAccepted E met')
  where
    pub target : (r : as-result ℕ) → IfOk r (λ count. CopiesFileToRt m of_volume disk who lun file name count day old new rt rt') →
        IfErr r (λ e. FailsToCopyFileToRt m of_volume disk who lun file name day e old new rt rt') → MakesRtFile disk r name rt rt'
    target (Ok count) made failed =
        let f = file-made disk name of_volume who lun file day m count old new rt rt' made in
        target-made disk name rt rt' count f.0 f.1 (made-keeps of_volume disk who lun name file day m count old new rt rt' made)
        (λ dead. failed-uncopied of_volume disk m who lun name file day rt rt' dead count old new made)
    target (Err e) made failed =
        target-left disk name rt rt' e (file-leaves disk name of_volume who lun file day m e old new rt rt' failed)
        (unmade-keeps of_volume disk who lun name file day m e old new rt rt' failed)
        (λ dead. failed-refused of_volume disk m who lun name file day rt rt' dead e old new failed)
        (λ same.
        let dead = (uncopied-keeps who disk lun file name day m old new rt rt' e failed).only same in
        spent-unasked disk who lun name file day m old new rt rt' dead e failed)

    pub copies : (r : as-result ℕ) → IfOk r (λ count. CopiesFileToRt m of_volume disk who lun file name count day old new rt rt') →
        IfOk r (λ count. WhereSound disk old rt
        (CopiesToRt m who lun file name day count (store_of_volume old) (store_of_volume new) (rt_store disk rt) (rt_store disk rt')))
    copies (Ok count) made =
        λ sound sound'. copied of_volume store_of_volume is_sound volume-seen disk who lun file name count day old new rt rt' sound sound' m
        made
    copies (Err e) made = tt

    pub refuses : (r : as-result ℕ) → IfErr r (λ e. FailsToCopyFileToRt m of_volume disk who lun file name day e old new rt rt') →
        IfErr r (λ e. is_whole r ≡ true → WhereSound disk old rt
        (RefusesCopyToRt e m who lun file name (store_of_volume old) (store_of_volume new) (rt_disk disk rt) (rt_disk disk rt')))
    refuses (Ok count) failed = tt
    refuses (Err e) failed = λ whole sound sound'.
        let clean = not-true (is_lethal e) whole in
        record {
          why = refused of_volume store_of_volume is_sound volume-seen who lun file name (store_of_volume old) disk day rt (λ alive. sound')
              m e old new rt' refl sound clean failed;
          unwritten = refused-same of_volume store_of_volume is_sound volume-seen who lun file name (store_of_volume old) disk day rt
              (λ alive. sound') m e old new rt' refl sound clean failed;
        }

    -- an RT-11 volume that had failed isn't read, so what its image is doesn't count
    pub refuses-failed : (r : as-result ℕ) → IfErr r (λ e. FailsToCopyFileToRt m of_volume disk who lun file name day e old new rt rt')
        → has_failed rt ≡ true →
        IfErr r (λ e. is_whole r ≡ true → is_sound old ≡ true → FailsToCopyToRt e m who lun file name (store_of_volume old)
        (store_of_volume new) (rt_disk disk rt))
    refuses-failed (Ok count) failed dead = tt
    refuses-failed (Err e) failed dead = λ whole sound.
        refused of_volume store_of_volume is_sound volume-seen who lun file name (store_of_volume old) disk day rt
        (λ alive. absurd (true-false (sym dead ∙ alive)))
        m e old new rt' refl sound (not-true (is_lethal e) whole) failed

    pub ends : (r : as-result ℕ) → IfErr r (λ e. FailsToCopyFileToRt m of_volume disk who lun file name day e old new rt rt') →
        IfErr r (λ e. is_lethal e ≡ true → EndsToRt m of_volume disk who lun file name day e old new rt rt')
    ends (Ok count) failed = tt
    ends (Err e) failed = copy-ends-to-rt of_volume who lun name file disk day m e old new rt rt' failed
