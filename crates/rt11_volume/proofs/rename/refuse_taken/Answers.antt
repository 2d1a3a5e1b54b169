use Rattle.std.proofs.Common.{subst}
use Rattle.rt11_volume.specs.Entry.{is_file_named}
use Rattle.rt11_volume.specs.Searching.Looking.{FindsFirst, FindsNone, Searches}
use Rattle.rt11_volume.specs.declared.lookup.entry.Wanted.TheVariants.{File}
use Rattle.rt11_volume.proofs.Searching.File.{file-found, no-file-found}
use Rattle.rt11_volume.proofs.rename.refuse_taken.Goals as goal

pub returns-in-Some-clause-refused : goal.returns-in-Some-clause-refused
returns-in-Some-clause-refused g c = λ sound.
    let old = g.D.Device.disk c.args.device.now in
    let new = g.D.Device.disk c.find_first.new.device in
    let finds : FindsFirst (File c.args.name) c.in-Some.field-0 old new = subst (λ o. Searches (File c.args.name) o old new) c.in-Some.is
    c.in_ok-find_first.ensures.searches in
    file-found c.args.name old.image c.in-Some.field-0 (finds.is_first sound)

pub returns-in-None-clause-free : goal.returns-in-None-clause-free
returns-in-None-clause-free g c = λ sound.
    let old = g.D.Device.disk c.args.device.now in
    let new = g.D.Device.disk c.find_first.new.device in
    let none : FindsNone (File c.args.name) old new = subst (λ o. Searches (File c.args.name) o old new) c.in-None.is
    c.in_ok-find_first.ensures.searches in
    no-file-found (is_file_named c.args.name) old.image (none.none sound)
