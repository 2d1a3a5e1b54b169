use Rattle.std.proofs.Common.{length, arith}
use Rattle.f11_index.specs.Kept.{index_kept}
use Rattle.f11_vfy.specs.Scanning.Reading.{volume_in}
use Rattle.f11_vfy.proofs.Directory.Judging.{gathered-found, looked-all}
use Rattle.f11_vfy.proofs.findings.reading.Reading.add_directory_notes.Goals as goal

pub returns-clause-adds : goal.returns-clause-adds
returns-clause-adds g c =
    let index = index_kept c.args.index.now in
    let old = g.D.Device.disk c.args.device.now in
    let judged = c.in_ok-gathered.ensures.judges in
    record {
      finds = λ honest bitmap is.
          gathered-found old.image (volume_in old.image index bitmap) c.args.self.now is c.in_ok-gathered.gathered
          (judged.shows honest bitmap is) _
          _ _ _ _
          (rw c.deref.ensures.value at c.in_ok-add_unentered.ensures) c.in_ok-add_all.ensures c.in_ok-add_all-2.ensures
          c.in_ok-add_all-3.ensures;
      looked = looked-all index c.args.self.now (length c.args.self.now.survey.slots.items) _ _ 0 (omega arith) judged.looked;
    }
