use Rattle.std.proofs.Common.{◌≡◌, ◌∙◌, ◌+◌, ◌-◌, if◌then◌else◌, List, ℕ, length, ap, arith}
use Rattle.rt11_volume.specs.Entry.{area_length}
use Rattle.rt11_volume.specs.Operations.{entry_at, joined_length, joins_before, joins_behind}
use Rattle.rt11_volume.specs.Segment.{entries, extra_bytes}
use Rattle.rt11_volume.proofs.Rewriting.Edit.{ends-room, room-fewer, before-some, behind-some, joined-sum, joined-fewer, without-assembled}
use Rattle.rt11_volume.proofs.rewrite.edit.without_file.Goals as goal

pub assemble-requires-clause-room : goal.assemble-requires-clause-room
assemble-requires-clause-room c =
    let s = c.args.segment.now in
    let x = extra_bytes s in
    let es = entries x s in
    let inside = c.requires.entry in
    room-fewer x _ (length es)
    (omega (
      arith,
      c.entry_count-count.ensures.count,
      joined-fewer c.args.i c.entry_count-count.result c.first_joined-first.result
          c.end_joined-end.result c.joins_before-before.result c.joins_behind-behind.result
          (omega (arith, inside, c.entry_count-count.ensures.count)) c.first_joined-first.ensures c.end_joined-end.ensures,
    ))
    (ends-room x s c.requires.ends)

pub returns : goal.returns
returns c low =
    let s = c.args.segment.now in
    let x : ℕ = extra_bytes s in
    let es : List (List ℕ) = entries x s in
    let i : ℕ = c.args.i in
    let before = c.joins_before-before.ensures in
    let behind = c.joins_behind-behind.ensures in
    let sum = joined-sum es i (joins_before es i) (joins_behind es i) (before-some es i) (behind-some es i) c.requires.entry in
    let one : c.joined_length.result ≡ joined_length (joins_before es i) es (i - 1) = c.joined_length.ensures.length
    ∙ (λ t. joined_length (before t) es (c.saturating_sub.ensures t)) in
    let two : c.from.result ≡ area_length (entry_at es i) = c.from.ensures ∙ c.entry.ensures.length in
    let three : c.joined_length-2.result ≡ joined_length (joins_behind es i) es (i + 1) = c.joined_length-2.ensures.length
    ∙ ap (λ b. joined_length b es (i + 1)) behind in
    let blocks : c.min.result ≡ joined_length (joins_before es i) es (i - 1) + area_length (entry_at es i) + joined_length
    (joins_behind es i) es (i + 1) =
    omega (arith, c.min.ensures, one, two, three, sum, low) in
    let same = without-assembled x es i c.first_joined-first.result c.end_joined-end.result c.entry_count-count.result c.min.result
    c.entry_count-count.ensures.count
    (c.first_joined-first.ensures ∙ ap (λ b. if b then i - 1 else i) before)
    (c.end_joined-end.ensures ∙ ap (λ b. if b then i + 2 else i + 1) behind) blocks in
    record {
      header_is = c.assemble.ensures.header_is ∙ c.header_of.ensures;
      entries_are = c.assemble.ensures.entries_are ∙ same;
      ends = c.assemble.ensures.ends;
    }
