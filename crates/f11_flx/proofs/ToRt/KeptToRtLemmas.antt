-- What a copy to RT-11 answers where one of the volumes had failed before.
use Rattle.std.proofs.Common.{◌≡◌, ◌⊎◌, inl, inr, ℕ, true, false, List, length, sym, ap, ◌∙◌, subst}
use Rattle.f11_dev.specs.Disk.{Disk}
use Rattle.f11_dev.specs.declared.device.Device.{Ghosts}
use Rattle.f11_store.specs.declared.files.FileId.{FileId}
use Rattle.f11_store.specs.declared.files.Mode.TheVariants as access
use Rattle.f11_store.specs.declared.refusals.Refusal.{Refusal}
use Rattle.f11_store.specs.declared.refusals.Refusal.TheVariants.{VolumeFailed}
use Rattle.f11_store.specs.declared.requests.Request.TheVariants as request
use Rattle.f11_fcp.specs.Serving.{is_spent}
use Rattle.f11_fcp.specs.declared.volume.Volume.{Volume}
use Rattle.f11_runs.proofs.AccessLemmas.{true-false}
use Rattle.rt11_volume.specs.Calls.{has_failed, volume_device}
use Rattle.rt11_volume.specs.Files.{is_fault}
use Rattle.rt11_volume.specs.declared.refusal.RtRefusal.{RtRefusal}
use Rattle.rt11_volume.specs.declared.refusal.RtRefusal.TheVariants.{Failed}
use Rattle.rt11_volume.specs.declared.volume.RtAccepted.{RtAccepted}
use Rattle.f11_making.specs.Asking.{Asking, Denies, FilesService, Who, asks}
use Rattle.f11_flx.specs.Copies.{FailsToCopyText}
use Rattle.f11_making.specs.Volume.{of_volume}
use Rattle.f11_flx.specs.Copying.{KeepsFailed, KeepsSpent}
use Rattle.f11_flx.specs.Ended.{IsLast}
use Rattle.f11_flx.specs.EndedToRt.{EndsHeld}
use Rattle.f11_flx.specs.Filling.{Took}
use Rattle.f11_flx.specs.Refusal.{is_lethal}
use Rattle.f11_flx.specs.Source.{FailsAs, up_to_end}
use Rattle.f11_flx.specs.ToRt.{CopiesFileToRt, FailsLocked, FailsToCopyFileToRt, FailsToCountAs, FailsToFillToRt, GaveUp, UndoesToRt}
use Rattle.f11_flx.specs.ToRt.{nowhere_refuses, nowhere_takes, rt_refuses, rt_takes}
use Rattle.f11_flx.specs.declared.mode.CopyMode.{CopyMode}
use Rattle.f11_flx.specs.declared.mode.CopyMode.TheVariants.{Image, Text}
use Rattle.f11_flx.specs.declared.refusal.FlxRefusal.{FlxRefusal}
use Rattle.f11_flx.specs.declared.refusal.FlxRefusal.TheVariants.{BadRecord, Files, LineTooLong, Rt, Unread}
use Rattle.f11_flx.specs.declared.target.Nowhere.{Nowhere}
use Rattle.f11_flx.specs.declared.to_text.ToText.{ToText}
use Rattle.f11_flx.proofs.ToRt.EndedToRtLemmas.{Came, lethal-damaged, locked-came, unclosed-came}
use Rattle.f11_flx.proofs.FromRt.KeptLemmas.{
  IsLive,
  alive-keeps,
  all-unspent,
  denied-live,
  first-keeps,
  given,
  granted-unspent,
  keeps-live,
  no-answer,
  refused,
  refused-keeps,
  rt-apart,
  same-refusal,
  stays-unspent,
}
use Rattle.f11_flx.proofs.RtFiles.RtCopyLemmas.{took-puts}
use Rattle.f11_flx.proofs.SmallLemmas.{or-false}

bad-apart : BadRecord ≡ Rt Failed → ⊥
bad-apart is = cc

-- of the Files-11 volume
module _ {D : Type 0} {met : Ghosts D} (who : Who) where
  held-alive : (v w : Volume D met) → is_spent v ≡ false → EndsHeld of_volume who v w → is_spent w ≡ false
  held-alive v w alive h = by h.last
    where
      before : is_spent h.at ≡ false
      before = all-unspent who h.holds.asked v h.at alive h.holds.granted

      by : (w ≡ h.at) ⊎ ((x : Asking) × (e : Refusal) × (is_lethal (Files e) ≡ false) × Denies of_volume who x e h.at w)
          → is_spent w ≡ false
      by (inl same) = ap is_spent same ∙ before
      by (inr d) = (denied-live who d.0 d.1 h.at w before d.3).alive d.2

  held-live : (f : FlxRefusal) (v w : Volume D met) → (f ≡ Files VolumeFailed → ⊥) → is_spent v ≡ false → EndsHeld of_volume who v w
      → IsLive f w
  held-live f v w other alive h = record { other = other; alive = λ clean. held-alive v w alive h }

  came-live : (f : FlxRefusal) (v w : Volume D met) → is_spent v ≡ false → Came of_volume who f v w → IsLive f w
  came-live (Files e) v w alive h = by h.is_last
    where
      before : is_spent h.at ≡ false
      before = all-unspent who h.holds.asked v h.at alive h.holds.granted

      by : IsLast of_volume who h.last e h.at w → IsLive (Files e) w
      by (inl d) = denied-live who h.last e h.at w before d
      by (inr d) = record {
        other = λ is. lethal-damaged e d.4 (ap is_lethal is);
        alive = λ clean. absurd (lethal-damaged e d.4 clean);
      }
  came-live (Rt e) v w alive h = held-live (Rt e) v w (λ is. absurd (cc)) alive h
  came-live BadRecord v w alive h = held-live BadRecord v w (λ is. absurd (cc)) alive h
  came-live LineTooLong v w alive h = held-live LineTooLong v w (λ is. absurd (cc)) alive h
  came-live Unread v w alive h = absurd h

  gave-other : (lun : ℕ) (f e : FlxRefusal) (v w : Volume D met) → IsLive f v → GaveUp of_volume who lun f e v w → e ≡ Files VolumeFailed
      → ⊥
  gave-other lun f e v w l (inl h) is = l.other (sym h.same ∙ is)
  gave-other lun f e v w l (inr (inl h)) is = l.other (sym h.same ∙ is)
  gave-other lun f e v w l (inr (inr h)) is = by h.answer_is
    where
      by : (((is_lethal (Files h.refusal) ≡ true) × (e ≡ Files h.refusal)) ⊎ ((is_lethal (Files h.refusal) ≡ false) × (e ≡ f))) → ⊥
      by (inl x) = (denied-live who (asks (request.Deaccess lun)) h.refusal v w (l.alive h.clean) h.denied).other (sym x.1 ∙ is)
      by (inr x) = l.other (sym x.1 ∙ is)

  module _ {E : Type 0} {met' : Ghosts E} (disk : E → Disk) (lun : ℕ) (file : FileId) (name : List ℕ) (day : ℕ) (m : CopyMode)
      (v w : Volume D met) (a b : RtAccepted E met')
    where
      pub copied-keeps : (count : ℕ) → CopiesFileToRt m of_volume disk who lun file name count day v w a b → KeepsSpent (given count) v w
      copied-keeps count h =
          let alive = granted-unspent who (asks (request.Access file access.Locked lun)) v h.opened h.opens in
          record {
            only = λ is. absurd (no-answer count (Files VolumeFailed) is);
            untouched = λ dead. absurd (true-false (sym dead ∙ alive));
          }

      pub uncopied-keeps : (e : FlxRefusal) → FailsToCopyFileToRt m of_volume disk who lun file name day e v w a b
          → KeepsSpent (refused e) v w
      uncopied-keeps e (inl k) =
          subst (λ x. KeepsSpent (refused x) v w) (sym k.is)
          (first-keeps who (request.Access file access.Locked lun) k.refusal v w k.denied)
      uncopied-keeps e (inr (inl k)) =
          let x = asks (request.Access file access.Locked lun) in
          let came = locked-came of_volume who lun name file disk day m k.refusal k.opened k.stopped a b k.fails in
          let live = came-live k.refusal k.opened k.stopped (stays-unspent who x v k.opened k.opens) came in
          keeps-live e v w (granted-unspent who x v k.opened k.opens) (gave-other lun k.refusal e k.stopped w live k.gives)
      uncopied-keeps e (inr (inr k)) =
          let alive = granted-unspent who (asks (request.Access file access.Locked lun)) v k.opened k.opens in
          keeps-live e v w alive (came-live e v w alive (unclosed-came of_volume who lun name file disk day m e v w a b k)).other

-- and of the RT-11 volume
module _ {E : Type 0} {met : Ghosts E} (disk : E → Disk) where
  -- nothing was asked of it
  unasked : (f : FlxRefusal) (a b : RtAccepted E met) → (f ≡ Rt Failed → ⊥) → b ≡ a → KeepsFailed disk (refused f) a b
  unasked f a b other left = record {
    only = λ is. absurd (other (same-refusal f (Rt Failed) is));
    untouched = λ dead. ap (λ (x : RtAccepted E met). disk (volume_device x)) left;
  }

  unasked-files : (e : FlxRefusal) (r : Refusal) (a b : RtAccepted E met) → e ≡ Files r → b ≡ a → KeepsFailed disk (refused e) a b
  unasked-files e r a b is left = subst (λ x. KeepsFailed disk (refused x) a b) (sym is) (unasked (Files r) a b (rt-apart r Failed) left)

  unasked-bad : (e : FlxRefusal) (a b : RtAccepted E met) → e ≡ BadRecord → b ≡ a → KeepsFailed disk (refused e) a b
  unasked-bad e a b is left = subst (λ x. KeepsFailed disk (refused x) a b) (sym is) (unasked BadRecord a b bad-apart left)

  -- what is refused by a volume that hadn't failed
  taken-other : (name : List ℕ) (e : FlxRefusal) (place : ℕ) (last : List ℕ) (pieces : List (List ℕ)) (a b c : RtAccepted E met)
      → has_failed a ≡ false →
      Took (rt_takes disk) name 0 pieces a b → rt_refuses disk name place last e b c → e ≡ Rt Failed → ⊥
  taken-other name e place last pieces a b c alive took r is =
      let before : has_failed b ≡ false = (took-puts disk name 0 pieces a b took).fares.next ∙ or-false (has_failed a) ∙ alive in
      r.refused.alive before (same r.refusal (sym r.is ∙ is))
    where
      same : (r : RtRefusal) → Rt r ≡ Rt Failed → r ≡ Failed
      same r is = cc

files-other : (e : FlxRefusal) (r : Refusal) → e ≡ Files r → e ≡ Rt Failed → ⊥
files-other e r same is = rt-apart r Failed (sym same ∙ is)

bad-other : (e : FlxRefusal) → e ≡ BadRecord → e ≡ Rt Failed → ⊥
bad-other e same is = bad-apart (sym same ∙ is)

module _ {V E : Type 0} {met : Ghosts E} (S : FilesService V) (disk : E → Disk) (who : Who) (lun : ℕ) (name : List ℕ) where
  fails-other : (m : CopyMode) (attr : List ℕ) (n : ℕ) (e : FlxRefusal) (v w : V) (a b : RtAccepted E met) → has_failed a ≡ false →
      FailsAs m S (rt_takes disk) (rt_refuses disk) who lun name attr n e v w a b → e ≡ Rt Failed → ⊥
  fails-other Image attr n e v w a b alive (inl d) = files-other e d.refusal d.is
  fails-other Image attr n e v w a b alive (inr d) =
      taken-other disk name e (length d.pieces) d.last d.pieces a d.between b alive d.took d.refused
  fails-other Text attr n e v w a b alive (inl k) = bad-other e k.is
  fails-other Text attr n e v w a b alive (inr k) = by k.2
    where
      by : FailsToCopyText S (rt_takes disk) (rt_refuses disk) who lun name k.0 (up_to_end attr n) e v w a b → e ≡ Rt Failed → ⊥
      by (inl d) = files-other e d.refusal d.is
      by (inr (inl d)) = bad-other e d.is
      by (inr (inr d)) = taken-other disk name e (length d.pieces) d.last d.pieces a d.between b alive d.took d.refused

  undo-other : (x e : FlxRefusal) (a b : RtAccepted E met) → (x ≡ Rt Failed → ⊥) → UndoesToRt disk name x e a b → e ≡ Rt Failed → ⊥
  undo-other x e a b other (inl h) is = other (sym h.same ∙ is)
  undo-other x e a b other (inr (inl h)) is = other (sym h.same ∙ is)
  undo-other x e a b other (inr (inr h)) is = by h.answer_is
    where
      by : (((is_fault h.refusal ≡ true) × (e ≡ Rt h.refusal)) ⊎ ((is_fault h.refusal ≡ false) × (e ≡ x))) → ⊥
      by (inl y) = true-false (sym y.0 ∙ ap is_lethal (sym y.1 ∙ is))
      by (inr y) = other (sym y.1 ∙ is)

  module _ (m : CopyMode) (attr : List ℕ) (n : ℕ) (e : FlxRefusal) (v w : V) (a b : RtAccepted E met) where
    count-keeps : FailsToCountAs m S who lun name attr n e v w → b ≡ a → KeepsFailed disk (refused e) a b
    count-keeps h left = by m h
      where
        text : (t : ToText) (p q : Nowhere) → FailsToCopyText S nowhere_takes nowhere_refuses who lun name t (up_to_end attr n) e v w p q →
            KeepsFailed disk (refused e) a b
        text t p q (inl d) = unasked-files disk e d.refusal a b d.is left
        text t p q (inr (inl d)) = unasked-bad disk e a b d.is left
        text t p q (inr (inr d)) = absurd d.refused

        fails : (p q : Nowhere) → FailsAs Text S nowhere_takes nowhere_refuses who lun name attr n e v w p q
            → KeepsFailed disk (refused e) a b
        fails p q (inl k) = unasked-bad disk e a b k.is left
        fails p q (inr k) = text k.0 p q k.2

        by : (m : CopyMode) → FailsToCountAs m S who lun name attr n e v w → KeepsFailed disk (refused e) a b
        by Image h = absurd h
        by Text h = fails h.0 h.1 h.2

    fill-keeps : (count day : ℕ) → FailsToFillToRt m S disk who lun name attr n count day e v w a b → KeepsFailed disk (refused e) a b
    fill-keeps count day (inl h) =
        subst (λ x. KeepsFailed disk (refused x) a b) (sym h.is) (refused-keeps disk h.refusal a b h.fails.refused.alive h.fails.dead)
    fill-keeps count day (inr h) =
        let made : has_failed h.made ≡ false = h.makes.fares.next ∙ or-false (has_failed a) ∙ h.makes.alive in
        alive-keeps disk (refused e) a b h.makes.alive
        (λ is. undo-other h.refusal e h.stopped b (fails-other m attr n h.refusal v w h.made h.stopped made h.fails) h.undoes
        (same-refusal e (Rt Failed) is))

  gave-keeps : (f e : FlxRefusal) (v w : V) (a b : RtAccepted E met) → KeepsFailed disk (refused f) a b → GaveUp S who lun f e v w →
      KeepsFailed disk (refused e) a b
  gave-keeps f e v w a b k (inl h) = subst (λ x. KeepsFailed disk (refused x) a b) (sym h.same) k
  gave-keeps f e v w a b k (inr (inl h)) = subst (λ x. KeepsFailed disk (refused x) a b) (sym h.same) k
  gave-keeps f e v w a b k (inr (inr h)) = by h.answer_is
    where
      files : KeepsFailed disk (refused (Files h.refusal)) a b
      files = record {
        only = λ is. absurd (rt-apart h.refusal Failed (same-refusal (Files h.refusal) (Rt Failed) is));
        untouched = k.untouched;
      }

      by : (((is_lethal (Files h.refusal) ≡ true) × (e ≡ Files h.refusal)) ⊎ ((is_lethal (Files h.refusal) ≡ false) × (e ≡ f))) →
          KeepsFailed disk (refused e) a b
      by (inl x) = subst (λ y. KeepsFailed disk (refused y) a b) (sym x.1) files
      by (inr x) = subst (λ y. KeepsFailed disk (refused y) a b) (sym x.1) k

  module _ (file : FileId) (day : ℕ) (m : CopyMode) where
    locked-keeps : (e : FlxRefusal) (v w : V) (a b : RtAccepted E met) → FailsLocked m S disk who lun file name day e v w a b
        → KeepsFailed disk (refused e) a b
    locked-keeps e v w a b (inl k) = unasked-files disk e k.refusal a b k.is k.left
    locked-keeps e v w a b (inr (inl k)) = count-keeps m k.attr k.blocks e k.seen w a b k.fails k.left
    locked-keeps e v w a b (inr (inr k)) = fill-keeps m k.attr k.blocks e k.walked w a b k.count day k.fails

    pub made-keeps : (count : ℕ) (v w : V) (a b : RtAccepted E met) → CopiesFileToRt m S disk who lun file name count day v w a b →
        KeepsFailed disk (given count) a b
    made-keeps count v w a b h = alive-keeps disk (given count) a b h.copies.fills.makes.alive (no-answer count (Rt Failed))

    pub unmade-keeps : (e : FlxRefusal) (v w : V) (a b : RtAccepted E met) → FailsToCopyFileToRt m S disk who lun file name day e v w a b →
        KeepsFailed disk (refused e) a b
    unmade-keeps e v w a b (inl k) = unasked-files disk e k.refusal a b k.is k.left
    unmade-keeps e v w a b (inr (inl k)) =
        gave-keeps k.refusal e k.stopped w a b (locked-keeps k.refusal k.opened k.stopped a b k.fails) k.gives
    unmade-keeps e v w a b (inr (inr k)) =
        alive-keeps disk (refused e) a b k.copies.fills.makes.alive
        (λ is. undo-other (Files k.refusal) e k.filled b (rt-apart k.refusal Failed) k.undoes (same-refusal e (Rt Failed) is))
