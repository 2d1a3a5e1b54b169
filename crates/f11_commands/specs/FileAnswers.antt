-- What a command on a file answers, as any other does (profile).
use Rattle.f11_commands.specs.declared.outcome.FileAnswer.{FileAnswer}
use Rattle.f11_commands.specs.declared.outcome.FileAnswer.TheVariants as file
use Rattle.f11_commands.specs.declared.outcome.Answer.{Answer}
use Rattle.f11_commands.specs.declared.outcome.Answer.TheVariants.{Done, Fault}

-- a refusal and a faulty volume are a fault
abbrev pub plain_answer : FileAnswer → Answer
plain_answer file.Done = Done
plain_answer file.Refused = Fault
plain_answer (file.Faulty system) = Fault
plain_answer file.BothFaulty = Fault
