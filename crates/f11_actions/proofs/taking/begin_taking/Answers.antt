use Rattle.std.proofs.Common.{refl, rules}
use Rattle.f11_commands.specs.declared.outcome.Failure.TheVariants.{DeviceFault, NoMemory}
use Rattle.f11_actions.specs.Taking.TakesNoneMeant.{unverified, verified}
use Rattle.f11_actions.proofs.taking.begin_taking.Goals as goal

pub returns-in-Err-clause-ends : goal.returns-in-Err-clause-ends
returns-in-Err-clause-ends g c = verified c.in-Ok.faulty _ c.in-Ok.ensures.told c.in-Err.ensures.none

pub returns-in-Err-DeviceFault-clause-ends : goal.returns-in-Err-DeviceFault-clause-ends
returns-in-Err-DeviceFault-clause-ends g c = unverified DeviceFault (search rules) refl refl

pub returns-in-Err-NoMemory-clause-ends : goal.returns-in-Err-NoMemory-clause-ends
returns-in-Err-NoMemory-clause-ends g c = unverified NoMemory (search rules) refl refl
