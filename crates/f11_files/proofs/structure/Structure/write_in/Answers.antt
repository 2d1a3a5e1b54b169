use Rattle.f11_files.proofs.Changing.ByWindow.{failed-by-stays, fails-by, stored-by-stays, stored-by-table, stores-by}
use Rattle.std.proofs.Common.{ap, sym, ◌∙◌}
use Rattle.f11_dev.specs.Disk.{Disk}
use Rattle.f11_files.specs.Structure.{home_of}
use Rattle.f11_files.proofs.Finding.Reached.{seen-as}
use Rattle.f11_files.proofs.structure.Structure.write_in.Goals as goal

pub returns-in-Ok-clause-stored : goal.returns-in-Ok-clause-stored
returns-in-Ok-clause-stored g c =
    let writes = c.in-Ok.ensures.writes in
    stores-by c.args.self.now _ _ writes.lbn _ _ _ c.requires.is_for c.requires.on.first writes.held writes.within writes.writes.ok

pub returns-in-Ok-clause-stays : goal.returns-in-Ok-clause-stays
returns-in-Ok-clause-stays g c =
    let writes = c.in-Ok.ensures.writes in
    stored-by-stays c.args.self.now _ _ writes.lbn _ _ _ c.requires.is_for c.requires.on.first writes.held writes.within writes.writes.ok
    c.requires.of_file

pub returns-in-Err-clause-refused : goal.returns-in-Err-clause-refused
returns-in-Err-clause-refused g c =
    let writes = c.in-Err.ensures.writes in
    fails-by c.args.self.now _ _ writes.lbn _ _ _ c.requires.is_for c.requires.on.first writes.held writes.within writes.writes.err

pub returns-in-Err-clause-stays : goal.returns-in-Err-clause-stays
returns-in-Err-clause-stays g c =
    let writes = c.in-Err.ensures.writes in
    failed-by-stays c.args.self.now _ _ writes.lbn _ _ _ c.requires.is_for c.requires.on.first writes.held writes.within writes.writes.err
    c.requires.of_file

pub returns-in-Ok-clause-seen : goal.returns-in-Ok-clause-seen
returns-in-Ok-clause-seen g c = λ _ seen.
    let writes = c.in-Ok.ensures.writes in
    seen-as seen (home_of c.args.self.now) (g.D.Device.disk c.args.device.now) (g.D.Device.disk c.write_in.new.device)
    (λ honest. sym (ap (λ (d : Disk). d.honest) writes.writes.ok) ∙ honest)
    (stored-by-table c.args.self.now _ _ writes.lbn _ _ _ c.requires.is_for c.requires.on.first writes.held writes.within
    writes.writes.ok c.requires.of_file)
