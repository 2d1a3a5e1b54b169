use Rattle.std.proofs.Common.{List, ℕ, Option, Some, None, IfErr, sym, subst}
use Rattle.std.specs.Option.{ok_or}
use Rattle.f11_dev.specs.Disk.{Disk}
use Rattle.rt11_volume.specs.Entry.{is_file_named}
use Rattle.rt11_volume.specs.Files.{FailsToCreate}
use Rattle.rt11_volume.specs.Searching.Looking.{Surveys}
use Rattle.rt11_volume.specs.Searching.Search.{is_empty_for}
use Rattle.rt11_volume.specs.declared.lookup.entry.Found.{Found}
use Rattle.rt11_volume.specs.declared.refusal.RtRefusal.{RtRefusal}
use Rattle.rt11_volume.specs.declared.refusal.RtRefusal.TheVariants.{NoSpace}
use Rattle.rt11_volume.proofs.Searching.File.{no-file-found}
use Rattle.rt11_volume.proofs.create.room.find_room.Goals as goal

none_found : (name : List ℕ) (blocks : ℕ) (disk : Disk) (o : Option Found) → Surveys name blocks o disk
    → IfErr (ok_or o NoSpace) (λ (r : RtRefusal). FailsToCreate r name blocks disk)
none_found name blocks disk (Some found) finds = tt
none_found name blocks disk None finds = λ sound. record {
  no_file = no-file-found (is_file_named name) disk.image (finds.no_file sound);
  no_area = no-file-found (is_empty_for blocks) disk.image (finds.no_area sound);
}

pub returns-clause-refused : goal.returns-clause-refused
returns-clause-refused g c =
    let old = g.D.Device.disk c.args.device.now in
    subst (λ r. IfErr r (λ (refusal : RtRefusal). FailsToCreate refusal c.args.name c.args.blocks old)) (sym c.ok_or.ensures.value)
    (none_found c.args.name c.args.blocks old c.in_ok-survey.field-0 c.in_ok-survey.ensures.surveys)
