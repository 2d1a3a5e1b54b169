use Rattle.std.proofs.Common.{Err, sym, ◌∙◌, subst}
use Rattle.f11_dev.specs.Went.{Went}
use Rattle.rt11_squeeze.specs.Kept.{SparesFiles, volume_disk}
use Rattle.rt11_copy.specs.Copying.{making_transfers, volume_faults}
use Rattle.rt11_copy.specs.declared.outcome.RtUncopied.{RtUncopied}
use Rattle.rt11_copy.proofs.CopyLemmas.{unread-went}
use Rattle.rt11_copy.proofs.EntryLemmas.{placed-file}
use Rattle.rt11_copy.proofs.copying.copy_file.Goals as goal

pub read_file-requires : goal.read_file-requires
read_file-requires g c =
    let p = placed-file c.args.entry.now c.blocks-2.result c.in-Ok.name (g.D.Device.disk c.args.from.now) c.blocks-2.ensures.count
    (sym c.name_to_copy.ensures ∙ c.in-Ok.is) in
    record { fits = p.fitting; there = p.there }

pub returns-in-Err-read_file-clause-went : goal.returns-in-Err-read_file-clause-went
returns-in-Err-read_file-clause-went g c =
    let old = volume_disk g.E.Device.disk c.args.volume.now in
    let n = making_transfers c.args.entry.now.blocks in
    subst (λ (why : RtUncopied). Went (SparesFiles old) old old n (volume_faults {T = Unit} (Err why))) (sym c.unread.ensures)
    (unread-went (SparesFiles old) old n c.in-Err-read_file.fault)
