use Rattle.f11_map.proofs.InHandLemmas.{appended}
use Rattle.f11_layout.proofs.NamesLemmas.{has-places, names-blocks}
use Rattle.f11_layout.proofs.header.name_blocks.Goals as goal

pub returns : goal.returns
returns c =
    let fits = has-places c.args.block.now c.args.count c.requires.count c.requires.none in
    names-blocks c.args.first c.args.count c.args.block.now _ c.requires.none
    (appended c.append_runs.result c.args.block.now _ c.args.first c.args.count fits c.append_runs.ensures.ok c.append_runs.ensures.full.0)
