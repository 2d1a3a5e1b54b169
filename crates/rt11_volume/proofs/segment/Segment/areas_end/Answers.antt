use Rattle.std.proofs.Common.{◌+◌, ◌∙◌, ap, sum_by, take}
use Rattle.std.proofs.Math.Seq.{take-length}
use Rattle.rt11_volume.specs.Entry.{area_length}
use Rattle.rt11_volume.specs.Segment.{extra_bytes, first_block, entries}
use Rattle.rt11_volume.proofs.segment.Segment.areas_end.Goals as goal

pub returns-clause-end : goal.returns-clause-end
returns-clause-end c =
    let s = c.args.self.now in
    let es = entries (extra_bytes s) s in
    c.area_start.ensures.start ∙ ap (λ n. first_block s + sum_by area_length (take n es)) c.entry_count.ensures.count
    ∙ ap (λ xs. first_block s + sum_by area_length xs) (take-length es)
