-- How an answer tells whether a transfer failed.
use Rattle.std.proofs.Common.{◌≡◌, if◌then◌else◌, Result, Ok, Err, IfErr, IsErrAnd, ap, subst, sym}
use Rattle.rt11_volume.specs.Files.{is_fault, faults_in}
use Rattle.rt11_volume.specs.declared.refusal.RtRefusal.{RtRefusal}

-- an error that is handed on
pub faults-handed_on : {T : Type 0} (r : Result T RtRefusal) (x : RtRefusal) → IsErrAnd r (λ y. y ≡ x)
    → faults_in r ≡ (if is_fault x then 1 else 0)
faults-handed_on (Err y) x is = ap (λ z. if is_fault z then 1 else 0) is
faults-handed_on (Ok y) x is = absurd is

-- and what is known of it
pub if-handed_on : {T : Type 0} (P : RtRefusal → Type 0) (r : Result T RtRefusal) (x : RtRefusal) → IsErrAnd r (λ y. y ≡ x) → P x
    → IfErr r P
if-handed_on P (Err y) x is holds = subst P (sym is) holds
if-handed_on P (Ok y) x is holds = absurd is
