-- How the program ends (profile).
use Rattle.std.specs.Prelude.{ℕ, List, codes, Result, Ok, Err}
use Rattle.f11_commands.specs.declared.outcome.Answer.{Answer}
use Rattle.f11_commands.specs.declared.outcome.Answer.TheVariants.{Done, Fault}
use Rattle.f11_commands.specs.declared.outcome.Failure.{Failure as CommandFailure}
use Rattle.f11_commands.specs.declared.outcome.Failure.TheVariants as commands
use Rattle.f11_commands.specs.declared.rt_put.PutFailure.{PutFailure}
use Rattle.f11_commands.specs.declared.rt_put.PutFailure.TheVariants as put
use Rattle.f11_commands.specs.declared.run.RunFailure.{RunFailure}
use Rattle.f11_commands.specs.declared.run.RunFailure.TheVariants.{Command, Script}
use Rattle.f11_words.specs.declared.reading.Failure.{Failure as WordsFailure}
use Rattle.f11_words.specs.declared.reading.Failure.TheVariants as words
use Rattle.f11_pip.specs.declared.outcome.Failure.{Failure}
use Rattle.f11_pip.specs.declared.outcome.Failure.TheVariants.{Usage, CannotOpen, DeviceFault, ScriptFault, CannotWrite, NoMemory}

-- the exit status
abbrev pub status_of : Result Answer Failure → ℕ
status_of (Ok Done) = 0
status_of (Ok Fault) = 1
status_of (Err Usage) = 2
status_of (Err CannotOpen) = 3
status_of (Err DeviceFault) = 3
status_of (Err ScriptFault) = 3
status_of (Err CannotWrite) = 3
status_of (Err NoMemory) = 4

-- the line on standard error
abbrev pub failure_line : Failure → List ℕ
failure_line Usage = codes "f11_pip: usage"
failure_line CannotOpen = codes "f11_pip: cannot open"
failure_line DeviceFault = codes "f11_pip: device fault"
failure_line ScriptFault = codes "f11_pip: script fault"
failure_line CannotWrite = codes "f11_pip: cannot write"
failure_line NoMemory = codes "f11_pip: no memory"

-- words that aren't taken fail as they do
abbrev pub failure_of_words : WordsFailure → Failure
failure_of_words words.Usage = Usage
failure_of_words words.NoMemory = NoMemory

-- a command's failure is the program's of that name
abbrev pub failure_of_command : CommandFailure → Failure
failure_of_command commands.DeviceFault = DeviceFault
failure_of_command commands.CannotWrite = CannotWrite
failure_of_command commands.NoMemory = NoMemory

-- and one of `run` is that of the command, or the script's
abbrev pub failure_of_run : RunFailure → Failure
failure_of_run (Command failure) = failure_of_command failure
failure_of_run (Script error) = ScriptFault

-- and one of `rt-put` is that of the command, or the host's file can't be read to its length
abbrev pub failure_of_put : PutFailure → Failure
failure_of_put (put.Command failure) = failure_of_command failure
failure_of_put put.Unread = CannotOpen
