use Rattle.std.proofs.Common.{◌≡◌, ◌≤◌, ◌+◌, ◌*◌, min, max, length, ap, arith}
use Rattle.std.proofs.lemmas.List.{length-append}
use Rattle.f11_index.specs.IndexFile.{slots}
use Rattle.f11_index.specs.Kept.{index_kept}
use Rattle.f11_index.specs.Slots.{free_between}
use Rattle.f11_index.proofs.FreeLemmas.{between-few, between-next}
use Rattle.f11_index.proofs.index_file.IndexFile.free_headers.Goals as goal

pub overflow_add-free : goal.overflow_add-free
overflow_add-free c =
    let index = index_kept c.args.self.now in
    let so_far : c.loop-word.free ≡ length (free_between index 6 (min (slots index + 1) (16 * c.loop-word.word + 1))) =
    c.loop-word.invariant in
    let more : c.free_in-free.result ≤ 65536 =
    omega (
      arith,
      c.free_in-free.ensures,
      between-few index (max 6 (16 * c.loop-word.word + 1))
          (min (slots index + 1) (16 * c.loop-word.word + 17)),
      c.args.self.now.valid.few_slots,
    ) in
    let few : c.loop-word.free ≤ 65536 =
    omega (arith, so_far, between-few index 6 (min (slots index + 1) (16 * c.loop-word.word + 1)), c.args.self.now.valid.few_slots) in
    omega (arith, more, few)

pub loop-word-preserved : goal.loop-word-preserved
loop-word-preserved c =
    let index = index_kept c.args.self.now in
    let so_far : c.loop-word.free ≡ length (free_between index 6 (min (slots index + 1) (16 * c.loop-word.word + 1))) =
    c.loop-word.invariant in
    let next = between-next index c.loop-word.word c.args.self.now.valid.first_slots (omega arith) in
    let new : c.loop-word.free + c.free_in-free.result ≡ length
    (free_between index 6 (min (slots index + 1) (16 * (c.loop-word.word + 1) + 1))) =
    omega (
      arith,
      so_far,
      c.free_in-free.ensures,
      ap length next,
      length-append (free_between index 6 (min (slots index + 1) (16 * c.loop-word.word + 1)))
          (free_between index (max 6 (16 * c.loop-word.word + 1)) (min (slots index + 1) (16 * c.loop-word.word + 17))),
    ) in
    new
