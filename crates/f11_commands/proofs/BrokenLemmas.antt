-- A copy that was broken off: nothing is undone on one volume where a transfer of the other failed.
use Rattle.std.proofs.Common.{◌≡◌, ◌⊎◌, inl, inr, ℕ, true, false, List, [], ◌∷◌, refl, sym, ap, ◌∙◌, subst}
use Rattle.std.proofs.lemmas.List.Elements.{All-cons, All-weaker}
use Rattle.f11_dev.specs.Disk.{Disk}
use Rattle.f11_dev.specs.declared.device.Device.{Ghosts}
use Rattle.f11_serving.specs.fcp.Lists.{is_sound, store_of_volume}
use Rattle.f11_serving.specs.fcp.declared.volume.Volume.{Volume}
use Rattle.f11_flx.proofs.RtFiles.RtCopyLemmas.{has-written, took-puts}
use Rattle.f11_flx.proofs.ToRt.RtOutcomeLemmas.{locked-leaves}
use Rattle.f11_flx.proofs.Made.SeenLemmas.{granted-seen}
use Rattle.f11_making.proofs.VolumeLemmas.{volume-seen}
use Rattle.f11_making.specs.Asking.{Asking, Denies, Granted, Grants, FilesService, Who, asks, counts, plain, reads, told, writes}
use Rattle.f11_making.specs.Volume.{of_volume}
use Rattle.f11_flx.specs.Ended.{EndsUnread, is_building, is_building_request}
use Rattle.f11_flx.specs.EndedToRt.{EndsHeld, EndsOnFiles, IsMadeInPart, WasRefused, is_holding, is_holding_request}
use Rattle.f11_flx.specs.Refusal.{is_lethal}
use Rattle.f11_flx.specs.RtOutcome.{HasSameFiles}
use Rattle.f11_flx.specs.Target.{rt_disk, rt_store}
use Rattle.f11_flx.specs.declared.mode.CopyMode.{CopyMode}
use Rattle.f11_flx.specs.declared.refusal.FlxRefusal.TheVariants.{Files}
use Rattle.f11_store.specs.Store.{Store}
use Rattle.f11_store.specs.declared.files.FileId.{FileId}
use Rattle.f11_store.specs.declared.refusals.Refusal.{Refusal}
use Rattle.f11_store.specs.declared.requests.Request.{Request}
use Rattle.f11_store.specs.declared.requests.Request.TheVariants as request
use Rattle.rt11_volume.specs.Verifying.Verdict.{IsSoundDisk}
use Rattle.rt11_volume.specs.declared.volume.RtAccepted.{RtAccepted}
use Rattle.f11_commands.specs.Copying.{LeavesBegun, StandsAsIs, is_undoing, is_undoing_request, operator}

false-true : false ≡ true → ⊥
false-true h = cc

-- what makes a file undoes nothing, and what reads one neither
building-request : (r : Request) → is_building_request r ≡ true → is_undoing_request r ≡ false
building-request (request.Deaccess lun) h = absurd (false-true h)
building-request (request.Delete id) h = absurd (false-true h)
building-request _ h = refl

building : (x : Asking) → is_building x ≡ true → is_undoing x ≡ false
building (asks r) h = building-request r h
building (told r reply) h = building-request r h
building (reads lun vbn block) h = refl
building (writes lun vbn block) h = refl
building (counts lun blocks) h = refl

holding-request : (r : Request) → is_holding_request r ≡ true → is_undoing_request r ≡ false
holding-request (request.Deaccess lun) h = absurd (false-true h)
holding-request (request.Delete id) h = absurd (false-true h)
holding-request _ h = refl

holding : (x : Asking) → is_holding x ≡ true → is_undoing x ≡ false
holding (asks r) h = holding-request r h
holding (told r reply) h = holding-request r h
holding (reads lun vbn block) h = refl
holding (writes lun vbn block) h = refl
holding (counts lun blocks) h = refl

-- what is denied leaves the plain store
denied-stays : (x : Asking) (e : Refusal) (s s' : Store) → Denies plain operator x e s s' → s' ≡ s
denied-stays (asks r) e s s' h = h.2.store_stays
denied-stays (told r reply) e s s' h = h.2.store_stays
denied-stays (reads lun vbn block) e s s' h = h.2.store_stays
denied-stays (writes lun vbn block) e s s' h = h.1.store_stays
denied-stays (counts lun blocks) e s s' h = h.2

-- something was granted before
pub stands-behind : (x : Asking) (s t u : Store) → is_undoing x ≡ false → Grants plain operator x s t → StandsAsIs t u → StandsAsIs s u
stands-behind x s t u none grants h = record {
  asked = x ∷ h.asked;
  granted = (t, grants, h.granted);
  none_undone = All-cons (λ y. is_undoing y ≡ false) x h.asked none h.none_undone;
}

module _ {D : Type 0} {met : Ghosts D} (v w : Volume D met) (sound : is_sound v ≡ true) where
  pub unread-stands : EndsUnread of_volume operator v w → StandsAsIs (store_of_volume v) (store_of_volume w)
  unread-stands h = record {
    asked = h.asked;
    granted = (granted-seen of_volume store_of_volume is_sound volume-seen operator h.asked v w h.granted sound).0;
    none_undone = All-weaker (λ x. is_building x ≡ true) (λ x. is_undoing x ≡ false) building h.asked h.building;
  }

  pub held-stands : EndsHeld of_volume operator v w → StandsAsIs (store_of_volume v) (store_of_volume w)
  held-stands h = subst (λ s. StandsAsIs (store_of_volume v) s) (sym (same h.last)) (record {
    asked = h.holds.asked;
    granted = seen.0;
    none_undone = All-weaker (λ x. is_holding x ≡ true) (λ x. is_undoing x ≡ false) holding h.holds.asked h.holds.holding;
  })
    where
      seen : Granted plain operator h.holds.asked (store_of_volume v) (store_of_volume h.at) × (is_sound h.at ≡ true)
      seen = granted-seen of_volume store_of_volume is_sound volume-seen operator h.holds.asked v h.at h.holds.granted sound

      same : (w ≡ h.at) ⊎ ((x : Asking) × (e : Refusal) × (is_lethal (Files e) ≡ false) × Denies of_volume operator x e h.at w) →
          store_of_volume w ≡ store_of_volume h.at
      same (inl is) = ap store_of_volume is
      same (inr d) =
          denied-stays d.0 d.1 (store_of_volume h.at) (store_of_volume w) (volume-seen.denied operator d.0 d.1 h.at w d.3 seen.1 d.2).0

-- an RT-11 volume that is copied to has the files that it had, or its new one besides, where the other volume broke the copy off
pub begun-left : {V E : Type 0} {met : Ghosts E} (S : FilesService V) (disk : E → Disk) (who : Who) (lun : ℕ) (file : FileId)
    (name : List ℕ) (day : ℕ) (m : CopyMode) (e : Refusal)
    (v w : V) (rt rt' : RtAccepted E met) → EndsOnFiles m S disk who lun file name day e v w rt rt' → IsSoundDisk (rt_disk disk rt) →
    IsSoundDisk (rt_disk disk rt') × LeavesBegun name (rt_store disk rt) (rt_store disk rt')
begun-left {E = E} {met = met} S disk who lun file name day m e v w rt rt' h sound = by h.target
  where
    by : ((rt' ≡ rt) ⊎ (IsMadeInPart disk name day rt rt')) ⊎ (WasRefused m S disk who lun file name day e v w rt rt') →
        IsSoundDisk (rt_disk disk rt') × LeavesBegun name (rt_store disk rt) (rt_store disk rt')
    by (inl (inl same)) = (
      subst (λ (x : RtAccepted E met). IsSoundDisk (rt_disk disk x)) (sym same) sound,
      inl (subst (λ (x : RtAccepted E met). HasSameFiles name (rt_store disk rt) (rt_store disk x)) (sym same)
          (record { named = refl; others = λ other apart. refl })),
    )
    by (inl (inr p)) =
        let puts = took-puts disk name 0 p.pieces p.made rt' p.took in
        let made = p.makes.made sound in
        let put = p.makes.sound sound in
        let written = has-written name 0 p.pieces made.file [] (rt_store disk p.made) (rt_store disk rt') made.one (puts.replaced put) in (
          puts.sound put,
          inr (record {
            file = record made.file { contents = written.contents };
            none = made.none;
            one = written.is;
            others = λ other apart. written.others other apart ∙ made.others other apart;
          }),
        )
    by (inr r) =
        let left = locked-leaves disk name S who lun file day m r.before r.opened r.stopped rt rt' r.fails in
        (left.sound r.clean sound, inl (left.same r.clean sound))
