use Rattle.std.proofs.Common.{sym}
use Rattle.f11_fcp.specs.Handles.{state_of}
use Rattle.f11_fcp.specs.Places.{access_table_of}
use Rattle.f11_fcp.proofs.DeaccessLemmas.{deaccess-none}
use Rattle.f11_fcp.proofs.table.Accesses.deaccess.Goals as goal

pub returns-in-None-clause-handles : goal.returns-in-None-clause-handles
returns-in-None-clause-handles g c =
    deaccess-none c.args.task c.args.lun c.args.caller (state_of (access_table_of c.args.self.now) c.args.files.now)
    (sym c.in-None.ensures.value)
