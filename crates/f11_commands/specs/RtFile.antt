-- Commands on one file of an RT-11 volume (profile).
use Rattle.std.specs.Prelude.{ℕ, List, Option, Result, Ok, Err}
use Rattle.f11_flx.specs.declared.refusal.FlxRefusal.TheVariants.{Rt}
use Rattle.rt11_volume.specs.declared.refusal.RtRefusal.{RtRefusal}
use Rattle.f11_commands.specs.CopyCommand.{TellsCopy}
use Rattle.f11_commands.specs.declared.outcome.FileAnswer.{FileAnswer}
use Rattle.f11_commands.specs.declared.outcome.Failure.{Failure}

-- how the answer of a call is told: how many blocks were copied, or why not
abbrev pub TellsRt : {W : Type 0} → Result ℕ RtRefusal → Result FileAnswer Failure → (W → Option (List ℕ)) → W → W → Type 0
TellsRt (Ok blocks) told contents before after = TellsCopy (Ok blocks) told contents before after
TellsRt (Err e) told contents before after = TellsCopy (Err (Rt e)) told contents before after

-- so many transfers are made for a block at most: the directory is read for each
abbrev pub block_transfers : ℕ
block_transfers = 63
