use Rattle.std.proofs.Common.{slice_index, sym, ap, ◌∙◌, arith}
use Rattle.rt11_volume.specs.Entry.{is_end}
use Rattle.rt11_volume.specs.Segment.{extra_bytes}
use Rattle.rt11_volume.proofs.Rewriting.Entries.{entries-count}
use Rattle.rt11_volume.proofs.segment.Segment.entry_count.Goals as goal

pub returns-then-has_bit-clause-count : goal.returns-then-has_bit-clause-count
returns-then-has_bit-clause-count c =
    let s = c.args.self.now in
    let mark = sym (ap is_end (c.word.ensures ∙ ap (slice_index s) c.entry_place.ensures.place)) ∙ sym c.has_bit.ensures
    ∙ c.if-has_bit.true in
    sym (entries-count (extra_bytes s) s c.loop-i.i (omega (arith, c.entry_room-room.ensures.room)) c.loop-i.invariant (λ less. mark))

pub returns-clause-count : goal.returns-clause-count
returns-clause-count c =
    let s = c.args.self.now in
    sym (entries-count (extra_bytes s) s c.entry_room-room.result (omega (arith, c.entry_room-room.ensures.room))
    (λ k before. c.loop-i.invariant k (omega arith)) (λ less. absurd (omega (arith, c.entry_room-room.ensures.room))))
