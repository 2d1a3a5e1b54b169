-- What is done to the image of a volume on which a directory is made, and what is written (profile).
use Rattle.std.specs.Prelude.{◌≡◌, ℕ, List, [], ◌∷◌, Option, Result, Err}
use Rattle.f11_dev.specs.Disk.{Disk}
use Rattle.f11_home.specs.declared.home.HomeFault.TheVariants.{NoHome}
use Rattle.f11_home.specs.declared.home.HomeFault.TheVariants.{DeviceFault as Fault}
use Rattle.f11_commands.specs.declared.outcome.Failure.{Failure}
use Rattle.f11_commands.specs.declared.outcome.Failure.TheVariants.{DeviceFault}
use Rattle.f11_commands.specs.declared.outcome.FileAnswer.{FileAnswer}
use Rattle.f11_making.specs.declared.action.Action.TheVariants as action
use Rattle.f11_store.specs.declared.callers.Uic.{Uic}
use Rattle.f11_actions.specs.Command.{EndsActions}
use Rattle.f11_actions.specs.declared.behind.Behind.TheVariants.{GoesOn}
use Rattle.f11_actions.specs.Protection.{LooksInVain, TellsProtection}

-- The volume's own protection was read, and the directory was made with it, as one action; or there is no home block, and none was done; or
-- it couldn't be read, and it is told so.
pub data EndsMaking {W : Type 0} (name : List ℕ) (owner : Uic) (told : Result FileAnswer Failure) (old new : Disk)
    (contents : W → Option (List ℕ)) (before after : W) : Type 0 where
  protected : (read : Disk) (word : ℕ) → TellsProtection old read word
      → EndsActions GoesOn (action.MakeDirectory name owner word ∷ []) told read new contents before after
      → EndsMaking name owner told old new contents before after
  homeless : (read : Disk) → LooksInVain NoHome old read → EndsActions GoesOn [] told read new contents before after
      → EndsMaking name owner told old new contents before after
  unread : LooksInVain Fault old new → told ≡ Err DeviceFault → after ≡ before → EndsMaking name owner told old new contents before after
