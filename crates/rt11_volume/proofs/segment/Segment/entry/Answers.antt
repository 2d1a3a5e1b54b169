use Rattle.std.proofs.Common.{◌≡◌, ◌+◌, [], ◌∷◌, slice_index, ap, ◌∙◌, arith}
use Rattle.rt11_volume.specs.Segment.{extra_bytes}
use Rattle.rt11_volume.proofs.Rewriting.Entries.{entries-few, entry-read, entry_room-few}
use Rattle.rt11_volume.proofs.segment.Segment.entry.Goals as goal

pub entry_place-at-requires : goal.entry_place-at-requires
entry_place-at-requires c =
    omega (arith, c.requires, entries-few (extra_bytes c.args.self.now) c.args.self.now, entry_room-few (extra_bytes c.args.self.now))

pub returns : goal.returns
returns c =
    let s = c.args.self.now in
    let x = extra_bytes s in
    let i = c.args.i in
    let at = c.entry_place-at.result in
    let place = c.entry_place-at.ensures.place in
    let first = entry-read x s i 1 at c.word-2.result (omega arith) c.requires place c.word-2.ensures in
    let second = entry-read x s i 2 at c.word-3.result (omega arith) c.requires place c.word-3.ensures in
    let third = entry-read x s i 3 at c.word-4.result (omega arith) c.requires place c.word-4.ensures in
    record {
      status = entry-read x s i 0 at c.word.result (omega arith) c.requires place
          (c.word.ensures ∙ ap (slice_index s) (let same : at ≡ at + 0 = omega arith in same));
      name = λ j. first j ∷ second j ∷ third j ∷ [];
      length = entry-read x s i 4 at c.word-5.result (omega arith) c.requires place c.word-5.ensures;
      date = entry-read x s i 6 at c.word-6.result (omega arith) c.requires place c.word-6.ensures;
    }
