-- Why words aren't taken (profile).
use Rattle.clap.specs.declared.error.kind.ErrorKind.{ErrorKind}
use Rattle.clap.specs.declared.error.kind.ErrorKind.TheVariants.{OutOfMemory}
use Rattle.f11_words.specs.declared.reading.Failure.{Failure}
use Rattle.f11_words.specs.declared.reading.Failure.TheVariants.{NoMemory, Usage}

-- they are wrong, unless memory ran out
abbrev pub failure_of_kind : ErrorKind → Failure
failure_of_kind OutOfMemory = NoMemory
failure_of_kind _ = Usage
