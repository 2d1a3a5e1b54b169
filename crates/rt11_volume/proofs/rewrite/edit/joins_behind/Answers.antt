use Rattle.std.proofs.Common.{arith}
use Rattle.rt11_volume.specs.Segment.{extra_bytes}
use Rattle.rt11_volume.proofs.Rewriting.Entries.{entries-few, entry_room-few}
use Rattle.rt11_volume.proofs.rewrite.edit.joins_behind.Goals as goal

pub overflow_add-i : goal.overflow_add-i
overflow_add-i c =
    omega (
      arith,
      c.requires,
      entries-few (extra_bytes c.args.segment.now) c.args.segment.now,
      entry_room-few (extra_bytes c.args.segment.now),
    )
