-- Slots that the index file gets before a file is made: no other file is changed, whether they are granted, refused or stopped.
use Rattle.std.proofs.Common.{◌≡◌, inl, inr, ℕ, zero, suc, false, refl, sym, ap, ◌∙◌}
use Rattle.f11_serving.specs.files.Answers.{is_fatal, is_fault}
use Rattle.f11_making.specs.Asking.{Denies, FilesService, asks, plain}
use Rattle.f11_store.specs.Causes.{first_refusal}
use Rattle.f11_store.specs.Lags.{served_work}
use Rattle.f11_store.specs.Store.{Store}
use Rattle.f11_store.specs.declared.refusals.Refusal.{Refusal}
use Rattle.f11_store.specs.declared.refusals.Refusal.TheVariants.{DeviceFault}
use Rattle.f11_store.specs.declared.requests.Request.TheVariants as request
use Rattle.f11_making.proofs.AskedLemmas.{never}
use Rattle.f11_commands.proofs.OthersLemmas.{if-served}
use Rattle.f11_commands.specs.Copying.{operator}
use Rattle.f11_commands.specs.PutSlots.{AsksForSlots}
use Rattle.f11_commands.specs.Stopping.{IsStopped, IsUnheld, KeepsButIndex, in_part, not_begun}

-- what is no device fault or Damaged is no device fault
pub no-fault : (e : Refusal) → is_fatal e ≡ false → is_fault e ≡ false
no-fault DeviceFault calm = never refl calm
no-fault _ calm = refl

-- that they are asked for is stopped
pub growth-keeps : (n : ℕ) (s t : Store) → IsStopped (asks (request.GrowIndex n)) s t → KeepsButIndex s t
growth-keeps n s t (not_begun held same) k apart = sym (ap (λ (x : Store). x.file k) same)
growth-keeps n s t (in_part h) k apart =
    h.1.others k (if-served k (first_refusal s operator.task operator.caller (request.GrowIndex n))
    (served_work s operator.task operator.caller (request.GrowIndex n) h.0) (λ none. apart))

-- what tasks hold stays
pub growth-unheld : (n : ℕ) (s t : Store) → AsksForSlots plain (suc n) s t → IsUnheld s → IsUnheld t
growth-unheld n s t (inl granted) unheld task lun =
    ap (λ (x : Store). x.access task lun) granted.3.changes.store_is
    ∙ (ap (λ (x : Store). x.access task lun) granted.3.changes.grows.store_is ∙ unheld task lun)
growth-unheld n s t (inr denied) unheld task lun =
    ap (λ (x : Store). x.access task lun) denied.2.2.store_stays ∙ unheld task lun

-- so many slots were asked for, and refused
pub asked-refused : {V : Type 0} (S : FilesService V) (n : ℕ) (e : Refusal) (v w : V) → (n ≡ 0 → ⊥) → is_fatal e ≡ false
    → Denies S operator (asks (request.GrowIndex n)) e v w → AsksForSlots S n v w
asked-refused S zero e v w some calm denied = absurd (some refl)
asked-refused S (suc n) e v w some calm denied = inr (e, calm, denied)
