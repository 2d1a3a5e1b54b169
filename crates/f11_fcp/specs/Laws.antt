-- Laws of what stands while requests are served.
use Rattle.std.specs.Prelude.{◌≡◌, ℕ, false, IsTrue, List, Result}
use Rattle.f11_dev.specs.Image.{Image}
use Rattle.f11_store.specs.declared.callers.Uic.{Uic}
use Rattle.f11_store.specs.declared.refusals.Refusal.{Refusal}
use Rattle.f11_store.specs.declared.requests.Reply.{Reply}
use Rattle.f11_store.specs.declared.requests.Request.{Request}
use Rattle.f11_files.specs.Answers.{is_refused}
use Rattle.f11_files.specs.volume.Verdict.{IsAccepted}
use Rattle.f11_fcp.specs.Handles.{State, Stands, Handles, is_damage}

-- an image that stands while a request is handled has no fault
abbrev pub StandingIsAccepted : Type 0
StandingIsAccepted =
    (task : ℕ) (caller : Uic) (r : Request) (block : List ℕ) (old : State) (image : Image) →
    Stands task caller r block old image → IsAccepted image

-- no request is answered Damaged while the disk is honest
abbrev pub HandledIsUndamaged : Type 0
HandledIsUndamaged =
    (task : ℕ) (caller : Uic) (r : Request) (result : Result Reply Refusal) (old new : State) (block block' : List ℕ) →
    Handles task caller r result old block new block' → IsTrue old.disk.honest → is_refused is_damage result ≡ false
