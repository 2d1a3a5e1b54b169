use Rattle.std.proofs.Common.{List, ℕ, ◌+◌, ◌++◌, ap, ◌∙◌, arith}
use Rattle.std.specs.List.{range_with_len}
use Rattle.f11_index.proofs.BlockLemmas.{Adds-run}
use Rattle.f11_index.proofs.blocks.Blocks.keep.Goals as goal

pub returns : goal.returns
returns c =
    let kept = c.in_ok-make_room.ensures.kept in
    Adds-run c.args.home.now c.args.lbn c.args.count c.args.self.now.places _ _ c.min-skipped.result c.min-more.result c.requires.few
    (omega arith) (omega arith)
    (c.push_run.ensures.pushed ∙ ap (λ (xs : List ℕ). xs ++ range_with_len (c.args.lbn + c.min-skipped.result) c.min-more.result) kept)
