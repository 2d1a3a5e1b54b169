use Rattle.std.proofs.Common.{length}
use Rattle.rt11_volume.specs.Entry.{area_length}
use Rattle.rt11_volume.specs.Operations.{entry_at}
use Rattle.rt11_volume.specs.Segment.{entries, extra_bytes}
use Rattle.rt11_volume.proofs.CreateLemmas.{room-here}
use Rattle.rt11_volume.proofs.Rewriting.Edit.{ends-room}
use Rattle.rt11_volume.proofs.create.file.create_here.Goals as goal

pub with_file-requires-clause-room : goal.with_file-requires-clause-room
with_file-requires-clause-room g c =
    let s = c.args.found.now.segment in
    let x = extra_bytes s in
    let es = entries x s in
    room-here x (length es) c.entry_count.result c.args.file.blocks (area_length (entry_at es c.args.found.now.i))
    c.entry_count.ensures.count c.requires.room (ends-room x s c.requires.ends)
