-- What commands tell that serve any RT-11 volume, faulty or not.
use Rattle.std.proofs.Common.{◌≡◌, inl, inr, ℕ, List, Option, Result, Ok, Err, IfOk, refl}
use Rattle.f11_dev.specs.Disk.{Disk}
use Rattle.rt11_volume.specs.declared.any_state.RtState.TheVariants.{Faulty}
use Rattle.f11_commands.specs.RtAny.{EndsUnserved, look_failure, served_so}
use Rattle.f11_commands.specs.RtLs.{ListsRt}
use Rattle.f11_commands.specs.declared.outcome.FileAnswer.{FileAnswer}
use Rattle.f11_commands.specs.declared.outcome.Failure.{Failure}
use Rattle.f11_commands.specs.declared.rt_any.RtServed.{RtServed}

-- nothing was listed, which was told
pub unserved-lists : {W : Type 0} (old new : Disk) (contents : W → Option (List ℕ)) (before after : W) (told : Result FileAnswer Failure)
    → EndsUnserved told old new contents before after
    → IfOk (served_so Faulty told) (λ (served : RtServed). ListsRt served old new contents before after)
unserved-lists old new contents before after (Ok answer) (inl unread) = inr (record { state_is = refl; ends = unread })
unserved-lists old new contents before after (Ok answer) (inr lacks) =
    let clash : Ok answer ≡ Err (look_failure lacks.fault) = lacks.told_is in absurd (cc)
unserved-lists old new contents before after (Err failure) ends = tt
