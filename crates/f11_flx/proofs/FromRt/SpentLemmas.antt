-- How a copy is refused where one of the volumes had failed before.
use Rattle.std.proofs.Common.{◌≡◌, ◌⊎◌, inl, inr, ℕ, true, false, List, [], refl, sym, ap, ◌∙◌, subst}
use Rattle.f11_dev.specs.Disk.{Disk}
use Rattle.f11_dev.specs.declared.device.Device.{Ghosts}
use Rattle.f11_store.specs.declared.files.FileId.{FileId}
use Rattle.f11_store.specs.declared.files.Mode.TheVariants as access
use Rattle.f11_store.specs.declared.refusals.Refusal.TheVariants.{VolumeFailed}
use Rattle.f11_store.specs.declared.requests.Request.TheVariants as request
use Rattle.f11_runs.proofs.AccessLemmas.{true-false}
use Rattle.f11_fcp.specs.Serving.{is_spent}
use Rattle.f11_fcp.specs.declared.volume.Volume.{Volume}
use Rattle.rt11_volume.specs.Calls.{has_failed}
use Rattle.rt11_volume.specs.Files.{file_area}
use Rattle.rt11_volume.specs.declared.refusal.RtRefusal.TheVariants.{Failed}
use Rattle.rt11_volume.specs.declared.volume.RtAccepted.{RtAccepted}
use Rattle.f11_making.specs.Asking.{FilesService, Who, asks}
use Rattle.f11_flx.specs.Copies.{FailsToCopyText}
use Rattle.f11_making.specs.Volume.{of_volume}
use Rattle.f11_flx.specs.Copying.{MayRefuseFailed}
use Rattle.f11_making.specs.Making.{as_file}
use Rattle.f11_flx.specs.CopyFromRt.{FailsToCopySpent}
use Rattle.f11_flx.specs.FromRt.{CopiesFrom, FailsToCopyFrom}
use Rattle.f11_flx.specs.Making.{FailsToFillFromRt, FillsFromRt}
use Rattle.f11_flx.specs.Planning.{FailsToPlan}
use Rattle.f11_flx.specs.Refusal.{is_lethal}
use Rattle.f11_flx.specs.Source.{FailsAs, up_to_end}
use Rattle.f11_flx.specs.Target.{rt_disk}
use Rattle.f11_flx.specs.ToRt.{CopiesFileToRt, FailsLocked, FailsToCopyFileToRt, FailsToCountAs, FailsToFillToRt, GaveUp, nowhere_refuses}
use Rattle.f11_flx.specs.ToRt.{nowhere_takes}
use Rattle.f11_flx.specs.declared.mode.CopyMode.{CopyMode}
use Rattle.f11_flx.specs.declared.mode.CopyMode.TheVariants.{Image, Text}
use Rattle.f11_flx.specs.declared.refusal.FlxRefusal.{FlxRefusal}
use Rattle.f11_flx.specs.declared.refusal.FlxRefusal.TheVariants.{BadRecord, Files, LineTooLong, Rt, Unread}
use Rattle.f11_flx.specs.declared.target.Nowhere.{Nowhere}
use Rattle.f11_flx.specs.declared.to_text.ToText.{ToText}
use Rattle.f11_flx.proofs.FromRt.FromRtLemmas.{has-making, planned}
use Rattle.f11_flx.proofs.FromRt.KeptLemmas.{dead-asks, dead-made, dead-unmade, granted-unspent, refused}
use Rattle.f11_flx.proofs.FromRt.MakingLemmas.{asks-to-fill}

-- a copy of a Files-11 volume that had failed is refused at its first request
module _ {D E : Type 0} {met : Ghosts D} {met' : Ghosts E} (disk : E → Disk) (who : Who) (lun : ℕ) (name : List ℕ) (file : FileId) (day : ℕ)
    (m : CopyMode) (v w : Volume D met) (a b : RtAccepted E met') (dead : is_spent v ≡ true)
  where
    pub spent-uncopied : (count : ℕ) → CopiesFileToRt m of_volume disk who lun file name count day v w a b → ⊥
    spent-uncopied count h = true-false (sym dead ∙ granted-unspent who (asks (request.Access file access.Locked lun)) v h.opened h.opens)

    pub spent-refused : (e : FlxRefusal) → FailsToCopyFileToRt m of_volume disk who lun file name day e v w a b → e ≡ Files VolumeFailed
    spent-refused e (inl k) = k.is ∙ ap Files (dead-asks who (request.Access file access.Locked lun) k.refusal v w dead k.denied).0
    spent-refused e (inr (inl k)) =
        absurd (true-false (sym dead ∙ granted-unspent who (asks (request.Access file access.Locked lun)) v k.opened k.opens))
    spent-refused e (inr (inr k)) =
        absurd (true-false (sym dead ∙ granted-unspent who (asks (request.Access file access.Locked lun)) v k.opened k.opens))

    -- and nothing is asked of the RT-11 volume
    pub spent-unasked : (e : FlxRefusal) → FailsToCopyFileToRt m of_volume disk who lun file name day e v w a b → b ≡ a
    spent-unasked e (inl k) = k.left
    spent-unasked e (inr (inl k)) =
        absurd (true-false (sym dead ∙ granted-unspent who (asks (request.Access file access.Locked lun)) v k.opened k.opens))
    spent-unasked e (inr (inr k)) =
        absurd (true-false (sym dead ∙ granted-unspent who (asks (request.Access file access.Locked lun)) v k.opened k.opens))

-- one to such a volume at its first request there, behind what is read of the RT-11 volume
module _ {D E : Type 0} {met : Ghosts D} {met' : Ghosts E} (disk : E → Disk) (m : CopyMode) (who : Who) (lun : ℕ) (name : List ℕ)
    (dir : FileId)
    (to : List ℕ) (protection : ℕ) (a b : RtAccepted E met') (v w : Volume D met) (dead : is_spent v ≡ true)
  where
    unplanned : (f : FlxRefusal) → FailsToPlan disk m name f a b → FailsToCopySpent f m name (rt_disk disk a)
    unplanned (Files e) h = absurd h
    unplanned (Rt e) h = h.why
    unplanned BadRecord h = absurd h
    unplanned LineTooLong h = λ s. record {
      file = h.file s;
      unconverted = h.none s (file_area (h.file s)).contents (record { file = h.file s; contents = refl });
    }
    unplanned Unread h = absurd h

    pub spent-made : (blocks : ℕ) → CopiesFrom of_volume disk m who lun name dir to protection blocks a b v w → ⊥
    spent-made blocks h =
        dead-made who lun blocks (FillsFromRt {met = met'} of_volume disk m who lun name h.many blocks)
        (FailsToFillFromRt {met = met'} of_volume disk m who lun name h.many blocks)
        (asks-to-fill of_volume who lun {met = met'} disk m name h.many blocks)
        (as_file to dir protection h.attr []) h.between b v w dead (h.makes [])

    pub spent-unmade : (f : FlxRefusal) → FailsToCopyFrom of_volume disk m who lun name dir to protection f a b v w →
        FailsToCopySpent f m name (rt_disk disk a)
    spent-unmade f (inl h) = unplanned f h.fails
    spent-unmade f (inr h) =
        subst (λ x. FailsToCopySpent x m name (rt_disk disk a))
        (sym (dead-unmade who lun h.blocks (FillsFromRt {met = met'} of_volume disk m who lun name h.many h.blocks)
        (FailsToFillFromRt {met = met'} of_volume disk m who lun name h.many h.blocks)
        (asks-to-fill of_volume who lun {met = met'} disk m name h.many h.blocks) f
        (as_file to dir protection h.attr []) h.between b v w dead (h.fails []))) (
          refl,
          λ s.
              let p = planned disk m name h.many h.blocks h.attr a h.between h.plans s in (
                as_file to dir protection h.attr p.plan.pieces,
                has-making disk m name h.many h.blocks h.attr a h.between dir to protection
                    p,
              ),
        )

-- a copy of an RT-11 volume that had failed is refused as its file is looked for
module _ {V E : Type 0} {met : Ghosts E} (S : FilesService V) (disk : E → Disk) (m : CopyMode) (who : Who) (lun : ℕ) (name : List ℕ)
    (dir : FileId)
    (to : List ℕ) (protection : ℕ) (a b : RtAccepted E met) (v w : V) (dead : has_failed a ≡ true)
  where
    unfound : (f : FlxRefusal) → FailsToPlan disk m name f a b → f ≡ Rt Failed
    unfound (Files e) h = absurd h
    unfound (Rt e) h = ap Rt (h.dead dead).0
    unfound BadRecord h = absurd h
    unfound LineTooLong h = absurd (true-false (sym dead ∙ h.alive))
    unfound Unread h = absurd h

    pub failed-made : (blocks : ℕ) → CopiesFrom S disk m who lun name dir to protection blocks a b v w → ⊥
    failed-made blocks h = true-false (sym dead ∙ h.plans.alive)

    pub failed-unmade : (f : FlxRefusal) → FailsToCopyFrom S disk m who lun name dir to protection f a b v w → f ≡ Rt Failed
    failed-unmade f (inl h) = unfound f h.fails
    failed-unmade f (inr h) = absurd (true-false (sym dead ∙ h.plans.alive))

    pub failed-unasked : (f : FlxRefusal) → FailsToCopyFrom S disk m who lun name dir to protection f a b v w → w ≡ v
    failed-unasked f (inl h) = h.unasked
    failed-unasked f (inr h) = absurd (true-false (sym dead ∙ h.plans.alive))

-- one to such a volume as the source is, or where its file is made
module _ {V E : Type 0} {met : Ghosts E} (S : FilesService V) (disk : E → Disk) (m : CopyMode) (who : Who) (lun : ℕ) (name : List ℕ)
    (file : FileId)
    (day : ℕ) (a b : RtAccepted E met) (dead : has_failed a ≡ true)
  where
    abbrev May : FlxRefusal → Type 0
    May e = MayRefuseFailed (refused e)

    same-may : (e x : FlxRefusal) → e ≡ x → May x → May e
    same-may e x is h = subst (λ y. MayRefuseFailed (refused y)) (sym is) h

    uncounted : (n : CopyMode) (attr : List ℕ) (k : ℕ) (e : FlxRefusal) (v w : V) → FailsToCountAs n S who lun name attr k e v w → May e
    uncounted Image attr k e v w h = absurd h
    uncounted Text attr k e v w h = by h.2
      where
        text : (t : ToText) (p q : Nowhere) → FailsToCopyText S nowhere_takes nowhere_refuses who lun name t (up_to_end attr k) e v w p q
            → May e
        text t p q (inl d) = same-may e (Files d.refusal) d.is tt
        text t p q (inr (inl d)) = same-may e BadRecord d.is tt
        text t p q (inr (inr d)) = absurd d.refused

        by : FailsAs Text S nowhere_takes nowhere_refuses who lun name attr k e v w h.0 h.1 → May e
        by (inl x) = same-may e BadRecord x.is tt
        by (inr x) = text x.0 h.0 h.1 x.2

    unfilled : (attr : List ℕ) (k count : ℕ) (e : FlxRefusal) (v w : V) → FailsToFillToRt m S disk who lun name attr k count day e v w a b
        → May e
    unfilled attr k count e v w (inl h) = same-may e (Rt h.refusal) h.is (h.fails.dead dead).0
    unfilled attr k count e v w (inr h) = absurd (true-false (sym dead ∙ h.makes.alive))

    unlocked : (e : FlxRefusal) (v w : V) → FailsLocked m S disk who lun file name day e v w a b → May e
    unlocked e v w (inl k) = same-may e (Files k.refusal) k.is tt
    unlocked e v w (inr (inl k)) = uncounted m k.attr k.blocks e k.seen w k.fails
    unlocked e v w (inr (inr k)) = unfilled k.attr k.blocks k.count e k.walked w k.fails

    gave : (f e : FlxRefusal) (v w : V) → May f → GaveUp S who lun f e v w → May e
    gave f e v w may (inl h) = same-may e f h.same may
    gave f e v w may (inr (inl h)) = same-may e f h.same may
    gave f e v w may (inr (inr h)) = by h.answer_is
      where
        by : (((is_lethal (Files h.refusal) ≡ true) × (e ≡ Files h.refusal)) ⊎ ((is_lethal (Files h.refusal) ≡ false) × (e ≡ f))) → May e
        by (inl x) = same-may e (Files h.refusal) x.1 tt
        by (inr x) = same-may e f x.1 may

    pub failed-uncopied : (count : ℕ) (v w : V) → CopiesFileToRt m S disk who lun file name count day v w a b → ⊥
    failed-uncopied count v w h = true-false (sym dead ∙ h.copies.fills.makes.alive)

    pub failed-refused : (e : FlxRefusal) (v w : V) → FailsToCopyFileToRt m S disk who lun file name day e v w a b
        → MayRefuseFailed (refused e)
    failed-refused e v w (inl k) = same-may e (Files k.refusal) k.is tt
    failed-refused e v w (inr (inl k)) = gave k.refusal e k.stopped w (unlocked k.refusal k.opened k.stopped k.fails) k.gives
    failed-refused e v w (inr (inr k)) = absurd (true-false (sym dead ∙ k.copies.fills.makes.alive))
