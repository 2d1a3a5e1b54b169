use Rattle.std.proofs.Common.{◌+◌, ◌*◌, Some, sym, ◌∙◌, arith}
use Rattle.f11_map.specs.Map.{area_of}
use Rattle.f11_map.proofs.MapLemmas.{pointer_within, slice_get-runs_of}
use Rattle.f11_map.proofs.map.Map.run.Goals as goal

pub overflow_mul-at : goal.overflow_mul-at
overflow_mul-at c =
    omega (arith, pointer_within (area_of c.args.self.now) c.args.i c.args.self.now.is_map c.requires, c.args.self.now.is_map.in_block)

pub overflow_add-at : goal.overflow_add-at
overflow_add-at c =
    omega (arith, pointer_within (area_of c.args.self.now) c.args.i c.args.self.now.is_map c.requires, c.args.self.now.is_map.in_block)

pub bounds-self-at : goal.bounds-self-at
bounds-self-at c = omega (arith, pointer_within (area_of c.args.self.now) c.args.i c.args.self.now.is_map c.requires)

pub overflow_add-at-2 : goal.overflow_add-at-2
overflow_add-at-2 c =
    omega (arith, pointer_within (area_of c.args.self.now) c.args.i c.args.self.now.is_map c.requires, c.args.self.now.is_map.in_block)

pub read_word-requires : goal.read_word-requires
read_word-requires c = omega (arith, pointer_within (area_of c.args.self.now) c.args.i c.args.self.now.is_map c.requires)

pub overflow_add-at-3 : goal.overflow_add-at-3
overflow_add-at-3 c =
    omega (arith, pointer_within (area_of c.args.self.now) c.args.i c.args.self.now.is_map c.requires, c.args.self.now.is_map.in_block)

pub bounds-self-at-2 : goal.bounds-self-at-2
bounds-self-at-2 c = omega (arith, pointer_within (area_of c.args.self.now) c.args.i c.args.self.now.is_map c.requires)

pub returns-clause-run : goal.returns-clause-run
returns-clause-run c =
    let high = sym c.from.ensures in
    let low = sym (c.from-2.ensures ∙ c.read_word.ensures) in
    let count = sym c.from-3.ensures in
    slice_get-runs_of (area_of c.args.self.now) c.args.i c.requires ∙ (λ k. Some (high k * 65536 + low k, count k + 1))
