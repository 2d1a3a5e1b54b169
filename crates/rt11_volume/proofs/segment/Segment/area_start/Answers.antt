use Rattle.std.proofs.Common.{arith}
use Rattle.rt11_volume.specs.Segment.{extra_bytes}
use Rattle.rt11_volume.proofs.Rewriting.Entries.{entries-few, entry_room-few}
use Rattle.rt11_volume.proofs.segment.Segment.area_start.Goals as goal

pub overflow_add-start : goal.overflow_add-start
overflow_add-start c =
    omega (
      arith,
      c.requires,
      c.loop-j-test.true,
      c.loop-j.invariant.low,
      c.from-start-in-loop-j.ensures,
      entries-few (extra_bytes c.args.self.now) c.args.self.now,
      entry_room-few (extra_bytes c.args.self.now),
    )

pub returns-clause-low : goal.returns-clause-low
returns-clause-low c =
    omega (
      arith,
      c.requires,
      c.loop-j.auto.j-end,
      c.loop-j.invariant.low,
      entries-few (extra_bytes c.args.self.now) c.args.self.now,
      entry_room-few (extra_bytes c.args.self.now),
    )
