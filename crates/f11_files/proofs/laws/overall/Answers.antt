use Rattle.f11_files.proofs.Overall.{creates-is, extends-is}
use Rattle.f11_files.proofs.laws.overall.Goals as goal

pub returns : goal.returns
returns c = record { creates = creates-is; extends = extends-is }
