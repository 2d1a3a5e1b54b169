-- Which headers are extension headers, by what was read of a volume.
use Rattle.std.proofs.Common.{◌≡◌, ◌≢◌, ◌↔◌, ◌-◌, ◌+◌, ◌<◌, ◌≤◌, ℕ, Bool, IsTrue, length, get_or, sym, subst, ◌∙◌, arith}
use Rattle.f11_vfy.specs.Scanning.Reading.{ShowsVolume}
use Rattle.f11_vfy.specs.Surveying.Extensions.{IsExtension}
use Rattle.f11_vfy.specs.Surveying.Slot.{KeepsSlot}
use Rattle.f11_vfy.specs.declared.findings.reading.Reading.{Reading}
use Rattle.f11_vfy.specs.declared.survey.slot.Slot.{Slot}
use Rattle.f11_vfy.specs.declared.survey.slot.State.TheVariants.{Live}
use Rattle.f11_vfy.proofs.Surveying.Slots.{live-from, live-to}
use Rattle.f11_volume.specs.Volume.{Volume}

module _ (v : Volume) (r : Reading) (n at : ℕ) (s : Slot) (shows : ShowsVolume v r) (slot : (0 < n) × (n ≤ length r.survey.slots.items))
    (at_is : at ≡ n) (is : s ≡ get_or r.survey.slots.items (at - 1) s) where
  kept : KeepsSlot v.table n s
  kept =
      let below : at - 1 < v.table.slots = omega (arith, at_is, slot.0, slot.1, shows.surveys.slots.count) in
      let number : at - 1 + 1 ≡ n = omega (arith, at_is, slot.0) in
      subst (λ m. KeepsSlot v.table m s) number
      (subst (KeepsSlot v.table (at - 1 + 1)) (sym is) (shows.surveys.slots.each (at - 1) s below))

  pub told-extension : (told : Bool) → IsTrue told ↔ ((s.state ≡ Live) × (s.segment ≢ 0)) → IsTrue told ↔ IsExtension v.table n
  told-extension told tells = (
    λ holds.
        let alive = (tells.0 holds).0 in
        let later = (tells.0 holds).1 in
        record {
          live = live-from v.table n s.state kept.state alive;
          later = λ none. later ((kept.header alive).segment ∙ none);
        },
    λ is_one.
        let alive = live-to v.table n s.state kept.state is_one.live in
        tells.1 (alive, λ none. is_one.later (sym (kept.header alive).segment ∙ none)),
  )
