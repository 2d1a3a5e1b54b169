use Rattle.std.proofs.Common.{List, ℕ, Option, Some, None, IfErr, sym, subst}
use Rattle.std.specs.Option.{ok_or}
use Rattle.f11_dev.specs.Disk.{Disk}
use Rattle.rt11_volume.specs.Files.{FailsToFindFile}
use Rattle.rt11_volume.specs.Searching.Looking.{Searches}
use Rattle.rt11_volume.specs.declared.lookup.entry.Found.{Found}
use Rattle.rt11_volume.specs.declared.lookup.entry.Wanted.TheVariants.{File}
use Rattle.rt11_volume.specs.declared.refusal.RtRefusal.{RtRefusal}
use Rattle.rt11_volume.specs.declared.refusal.RtRefusal.TheVariants.{NoSuchFile}
use Rattle.rt11_volume.proofs.Searching.File.{no-file-found}
use Rattle.rt11_volume.specs.Entry.{is_file_named}
use Rattle.rt11_volume.proofs.lookup.file.find_file.Goals as goal

none_found : (name : List ℕ) (old new : Disk) (o : Option Found) → Searches (File name) o old new
    → IfErr (ok_or o NoSuchFile) (λ (r : RtRefusal). FailsToFindFile r name old)
none_found name old new (Some found) finds = tt
none_found name old new None finds = λ sound. no-file-found (is_file_named name) old.image (finds.none sound)

pub returns-clause-refused : goal.returns-clause-refused
returns-clause-refused g c =
    let old = g.D.Device.disk c.args.device.now in
    let new = g.D.Device.disk c.find_first.new.device in
    subst (λ r. IfErr r (λ (refusal : RtRefusal). FailsToFindFile refusal c.args.name old)) (sym c.ok_or.ensures.value)
    (none_found c.args.name old new c.in_ok-find_first.field-0 c.in_ok-find_first.ensures.searches)
