use Rattle.std.proofs.Common.{ℕ, List, sym, subst, arith}
use Rattle.std.proofs.lemmas.Result.{IfErr-weaker, on_ok_weaker}
use Rattle.f11_dev.proofs.WentLemmas.{went_looked, went_within}
use Rattle.rt11_squeeze.specs.Blocks.{ReadsBlocks}
use Rattle.rt11_squeeze.specs.Kept.{volume_disk}
use Rattle.rt11_squeeze.proofs.MoveLemmas.{Spares, copied-went, move-unnamed, move-unremoved, moved-went}
use Rattle.rt11_squeeze.proofs.MoveLemmas.{moves, removed-went}
use Rattle.rt11_squeeze.proofs.moving.move_file.Goals as goal

pub returns-in-Err-clause-went : goal.returns-in-Err-clause-went
returns-in-Err-clause-went g c =
    let f = c.args.file.now in
    let P = Spares g.D.Device.disk f.name f.scratch f.blocks f.date f.protected c.args.volume.now in
    went_within P (went_looked P c.in-Err.ensures.looked) (omega arith)

pub returns-in-Ok-remove-clause-went : goal.returns-in-Ok-remove-clause-went
returns-in-Ok-remove-clause-went g c =
    let disk = g.D.Device.disk in
    let f = c.args.file.now in
    let reads = subst (λ (blocks : List (List ℕ)). ReadsBlocks f.name f.blocks blocks (volume_disk disk c.args.volume.now))
    (sym c.deref.ensures.value) c.in-Ok.ensures.read in
    let went = copied-went disk f.name f.scratch f.blocks f.date f.protected c.args.volume.now c.deref.result.now
    c.read_blocks.new.volume c.in-Ok.ensures.looked reads _ c.make_copy.new.volume c.in-Ok-make_copy.ensures.went in
    moved-went disk f.name f.scratch f.blocks f.date f.protected c.args.volume.now c.deref.result.now
    c.read_blocks.new.volume c.in-Ok.ensures.looked reads c.make_copy.new.volume c.in-Ok-make_copy.ensures.copied went
    c.remove.new.volume c.in-Ok-remove.ensures.removed _ c.take_name.new.volume
    (removed-went disk f.name f.scratch f.blocks f.date f.protected c.args.volume.now c.deref.result.now
    c.read_blocks.new.volume c.in-Ok.ensures.looked reads c.make_copy.new.volume c.in-Ok-make_copy.ensures.copied went
    _ c.remove.new.volume c.in-Ok-remove.ensures.went)
    c.take_name.ensures.went

pub returns-in-Ok-remove-clause-moved : goal.returns-in-Ok-remove-clause-moved
returns-in-Ok-remove-clause-moved g c =
    let disk = g.D.Device.disk in
    let f = c.args.file.now in
    let reads = subst (λ (blocks : List (List ℕ)). ReadsBlocks f.name f.blocks blocks (volume_disk disk c.args.volume.now))
    (sym c.deref.ensures.value) c.in-Ok.ensures.read in
    let went = copied-went disk f.name f.scratch f.blocks f.date f.protected c.args.volume.now c.deref.result.now
    c.read_blocks.new.volume c.in-Ok.ensures.looked reads _ c.make_copy.new.volume c.in-Ok-make_copy.ensures.went in
    on_ok_weaker c.take_name.result
    (moves disk f.name f.scratch f.blocks f.date f.protected c.args.volume.now c.deref.result.now
    c.read_blocks.new.volume c.in-Ok.ensures.looked reads c.make_copy.new.volume c.in-Ok-make_copy.ensures.copied went
    c.remove.new.volume c.in-Ok-remove.ensures.removed _ c.take_name.new.volume c.in-Ok-remove.ensures.went c.take_name.ensures.went)
    c.take_name.ensures.taken

pub returns-in-Ok-remove-clause-refused : goal.returns-in-Ok-remove-clause-refused
returns-in-Ok-remove-clause-refused g c =
    let disk = g.D.Device.disk in
    let f = c.args.file.now in
    let reads = subst (λ (blocks : List (List ℕ)). ReadsBlocks f.name f.blocks blocks (volume_disk disk c.args.volume.now))
    (sym c.deref.ensures.value) c.in-Ok.ensures.read in
    let went = copied-went disk f.name f.scratch f.blocks f.date f.protected c.args.volume.now c.deref.result.now
    c.read_blocks.new.volume c.in-Ok.ensures.looked reads _ c.make_copy.new.volume c.in-Ok-make_copy.ensures.went in
    IfErr-weaker c.take_name.result _ _
    (λ e. move-unnamed disk f.name f.scratch f.blocks f.date f.protected c.args.volume.now c.deref.result.now
    c.read_blocks.new.volume c.in-Ok.ensures.looked reads c.make_copy.new.volume c.in-Ok-make_copy.ensures.copied went
    c.remove.new.volume c.in-Ok-remove.ensures.removed e c.take_name.new.volume)
    c.take_name.ensures.refused

pub returns-clause-went : goal.returns-clause-went
returns-clause-went g c =
    let disk = g.D.Device.disk in
    let f = c.args.file.now in
    let reads = subst (λ (blocks : List (List ℕ)). ReadsBlocks f.name f.blocks blocks (volume_disk disk c.args.volume.now))
    (sym c.deref.ensures.value) c.in-Ok.ensures.read in
    let P = Spares disk f.name f.scratch f.blocks f.date f.protected c.args.volume.now in
    let went = copied-went disk f.name f.scratch f.blocks f.date f.protected c.args.volume.now c.deref.result.now
    c.read_blocks.new.volume c.in-Ok.ensures.looked reads _ c.make_copy.new.volume c.in-Ok-make_copy.ensures.went in
    went_within P
    (removed-went disk f.name f.scratch f.blocks f.date f.protected c.args.volume.now c.deref.result.now
    c.read_blocks.new.volume c.in-Ok.ensures.looked reads c.make_copy.new.volume c.in-Ok-make_copy.ensures.copied went
    _ c.remove.new.volume c.in-Err-remove.ensures.went) (omega arith)

pub returns-clause-refused : goal.returns-clause-refused
returns-clause-refused g c =
    let disk = g.D.Device.disk in
    let f = c.args.file.now in
    let reads = subst (λ (blocks : List (List ℕ)). ReadsBlocks f.name f.blocks blocks (volume_disk disk c.args.volume.now))
    (sym c.deref.ensures.value) c.in-Ok.ensures.read in
    move-unremoved disk f.name f.scratch f.blocks f.date f.protected c.args.volume.now c.deref.result.now
    c.read_blocks.new.volume c.in-Ok.ensures.looked reads c.make_copy.new.volume c.in-Ok-make_copy.ensures.copied
    c.in-Err-remove.refusal c.remove.new.volume c.in-Err-remove.ensures.refused
