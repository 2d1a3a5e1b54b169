-- What a copy from an RT-11 volume tells of that volume.
use Rattle.std.proofs.Common.{◌≡◌, inl, inr, ℕ, Bool, true, false, if◌then◌else◌, List, refl, sym, ap, ◌∙◌, subst}
use Rattle.f11_dev.specs.Disk.{Disk}
use Rattle.f11_dev.specs.declared.device.Device.{Ghosts}
use Rattle.f11_store.specs.declared.files.FileId.{FileId}
use Rattle.f11_store.specs.declared.requests.Request.{Request}
use Rattle.rt11_volume.specs.Files.{is_fault}
use Rattle.rt11_volume.specs.declared.volume.RtAccepted.{RtAccepted}
use Rattle.f11_making.specs.Asking.{FilesService, Who}
use Rattle.f11_making.specs.Making.{Making}
use Rattle.f11_flx.specs.FromRt.{CopiesFrom, FailsToCopyFrom}
use Rattle.f11_flx.specs.Making.{FailsToFillFromRt, FailsToFillFile, FailsToMakeCopy, Undoing, UndoingIf}
use Rattle.f11_flx.specs.Planning.{FailsToPlan}
use Rattle.f11_flx.specs.Refusal.{is_lethal}
use Rattle.f11_flx.specs.RtSource.{Looks}
use Rattle.f11_flx.specs.declared.mode.CopyMode.{CopyMode}
use Rattle.f11_flx.specs.declared.refusal.FlxRefusal.{FlxRefusal}
use Rattle.f11_flx.specs.declared.refusal.FlxRefusal.TheVariants.{BadRecord, Files, LineTooLong, Rt, Unread}
use Rattle.f11_flx.proofs.FromRt.PassLemmas.{looks-none, looks-then}

-- a refusal is that of a transfer on the RT-11 volume that failed
abbrev pub is-rt-fault : FlxRefusal → Bool
is-rt-fault (Files e) = false
is-rt-fault (Rt e) = is_fault e
is-rt-fault BadRecord = false
is-rt-fault LineTooLong = false
is-rt-fault Unread = false

calm-rt : (f : FlxRefusal) → is_lethal f ≡ false → is-rt-fault f ≡ false
calm-rt (Files e) h = refl
calm-rt (Rt e) h = h
calm-rt BadRecord h = refl
calm-rt LineTooLong h = refl
calm-rt Unread h = refl

-- what undoes something doesn't change that
pub undoing-rt : {V : Type 0} (S : FilesService V) (who : Who) (r : Request) (f f' : FlxRefusal) (v w : V) → Undoing S who r f f' v w
    → is-rt-fault f' ≡ is-rt-fault f
undoing-rt S who r f f' v w h = by (is_lethal f) refl h
  where
    chosen : (e : Rattle.f11_store.specs.declared.refusals.Refusal.Refusal) (b : Bool) → is_lethal f ≡ false
        → is-rt-fault (if b then Files e else f) ≡ is-rt-fault f
    chosen e true is = sym (calm-rt f is)
    chosen e false is = refl

    by : (b : Bool) → is_lethal f ≡ b → UndoingIf b S who r f f' v w → is-rt-fault f' ≡ is-rt-fault f
    by true is h = ap is-rt-fault h.0
    by false is (inl h) = ap is-rt-fault h.same
    by false is (inr h) = ap is-rt-fault h.answer ∙ chosen h.e (is_lethal (Files h.e)) is

module _ {V E : Type 0} {met : Ghosts E} (S : FilesService V) (disk : E → Disk) (m : CopyMode) (who : Who) (lun : ℕ) (name : List ℕ) where
  fill-looks : (f : FlxRefusal) (many n : ℕ) (a b : RtAccepted E met) (v w : V) → FailsToFillFromRt S disk m who lun name many n f a b v w
      → Looks disk (is-rt-fault f) a b
  fill-looks (Files e) many n a b v w h = h.reads.looks
  fill-looks (Rt e) many n a b v w h = h.stops.looks
  fill-looks BadRecord many n a b v w h = absurd h
  fill-looks LineTooLong many n a b v w h = h.reads.looks
  fill-looks Unread many n a b v w h = absurd h

  as-other : (f f' : FlxRefusal) (a b : RtAccepted E met) → is-rt-fault f' ≡ is-rt-fault f → Looks disk (is-rt-fault f) a b
      → Looks disk (is-rt-fault f') a b
  as-other f f' a b is h = subst (λ x. Looks disk x a b) (sym is) h

  unread-looks : (f : FlxRefusal) (e : Rattle.f11_store.specs.declared.refusals.Refusal.Refusal) (a b : RtAccepted E met) → f ≡ Files e
      → b ≡ a → Looks disk (is-rt-fault f) a b
  unread-looks f e a b is same =
      subst (λ x. Looks disk x a b) (ap is-rt-fault (sym is)) (subst (λ x. Looks disk false a x) (sym same) (looks-none disk a))

  make-looks : (f : FlxRefusal) (many n : ℕ) (making : Making) (a b : RtAccepted E met) (v w : V)
      → FailsToMakeCopy S disk m who lun name many n making f a b v w → Looks disk (is-rt-fault f) a b
  make-looks f many n making a b v w (inl h) = unread-looks f h.e a b h.is h.unread
  make-looks f many n making a b v w (inr (inl h)) =
      as-other h.f f a b (undoing-rt S who (Rattle.f11_store.specs.declared.requests.Request.TheVariants.Delete h.id) h.f f h.left w
      h.undoes) (by h.fails)
    where
      by : FailsToFillFile S disk m who lun name many n h.id h.f a b h.created h.left → Looks disk (is-rt-fault h.f) a b
      by (inl k) = unread-looks h.f k.e a b k.is k.unread
      by (inr k) =
          as-other k.f h.f a b (undoing-rt S who (Rattle.f11_store.specs.declared.requests.Request.TheVariants.Deaccess lun) k.f h.f k.left
          h.left k.undoes) (fill-looks k.f many n a b k.between k.left k.fails)
  make-looks f many n making a b v w (inr (inr h)) =
      as-other (Files h.e) f a b
      (undoing-rt S who (Rattle.f11_store.specs.declared.requests.Request.TheVariants.Delete h.id) (Files h.e) f h.left w h.undoes)
      h.fills.fills.reads.looks

  pub copies-looks : (dir : FileId) (to : List ℕ) (protection blocks : ℕ) (a b : RtAccepted E met) (v w : V)
      → CopiesFrom S disk m who lun name dir to protection blocks a b v w → Looks disk false a b
  copies-looks dir to protection blocks a b v w h =
      looks-then disk false a h.between b h.plans.looks (h.makes Rattle.std.specs.Prelude.[]).fills.fills.reads.looks

  plan-looks : (f : FlxRefusal) (a b : RtAccepted E met) → FailsToPlan disk m name f a b → Looks disk (is-rt-fault f) a b
  plan-looks (Files e) a b h = absurd h
  plan-looks (Rt e) a b h = h.looks
  plan-looks BadRecord a b h = absurd h
  plan-looks LineTooLong a b h = h.looks
  plan-looks Unread a b h = absurd h

  pub fails-looks : (f : FlxRefusal) (dir : FileId) (to : List ℕ) (protection : ℕ) (a b : RtAccepted E met) (v w : V)
      → FailsToCopyFrom S disk m who lun name dir to protection f a b v w → Looks disk (is-rt-fault f) a b
  fails-looks f dir to protection a b v w (inl h) = plan-looks f a b h.fails
  fails-looks f dir to protection a b v w (inr h) =
      looks-then disk (is-rt-fault f) a h.between b h.plans.looks
      (make-looks f h.many h.blocks (Rattle.f11_making.specs.Making.as_file to dir protection h.attr Rattle.std.specs.Prelude.[])
      h.between b v w (h.fails Rattle.std.specs.Prelude.[]))
