use Rattle.std.proofs.Common.{rules}
use Rattle.std.specs.Prelude.{OnOk}
use Rattle.std.proofs.lemmas.Result.{on_ok_weaker}
use Rattle.f11_files.specs.Extending.Tail.{NamesAll}
use Rattle.f11_files.proofs.Extending.Pieces.{one-more}
use Rattle.f11_files.proofs.extend.pieces.append_all.Goals as goal

pub returns-then-count-le-POINTER_BLOCKS-clause-named : goal.returns-then-count-le-POINTER_BLOCKS-clause-named
returns-then-count-le-POINTER_BLOCKS-clause-named c =
    let named : OnOk c.append.result (NamesAll c.args.block.now c.append.new.block c.args.lbn c.args.count) =
    on_ok_weaker c.append.result (one-more c.args.block.now c.append.new.block c.args.lbn c.args.count c.requires.some) c.append.ensures.ok
    in
    search rules
