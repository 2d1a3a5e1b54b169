-- What a file tells of its transfers that failed.
use Rattle.std.specs.Prelude.{◌≡◌, ℕ, nat_lt, Option, is_some}
use Rattle.f11_dev.specs.declared.file_image.Fault.{Fault}

-- Of so many transfers that failed one is told, where there were any, and none else.
abbrev pub TellsFault : Option Fault → ℕ → Type 0
TellsFault fault failures = is_some fault ≡ nat_lt 0 failures
