use Rattle.std.proofs.Common.{◌<◌, ◌∙◌, length, arith}
use Rattle.std.proofs.lemmas.List.{length-set}
use Rattle.f11_index.specs.map.Map.{area_of}
use Rattle.f11_index.specs.map.MapArea.{runs_of}
use Rattle.f11_chain.proofs.WindowLemmas.{held-more, within-more, fills}
use Rattle.f11_chain.proofs.windows.window_at.Goals as goal

pub loop-i-preserved : goal.loop-i-preserved
loop-i-preserved c =
    let below : c.loop-i.i < length c.loop-i.runs = omega (arith, c.loop-i.invariant.size, c.loop-i-test.true, c.min-used.ensures) in
    record {
      size = length-set c.loop-i.runs c.loop-i.i c.run-run.result ∙ c.loop-i.invariant.size;
      held = held-more c.loop-i.runs (runs_of (area_of c.map-map.result)) c.in_ok-pointer.pointer c.loop-i.i c.run-run.result
          c.loop-i.invariant.held c.run-run.ensures.run below;
      within = within-more c.loop-i.runs c.loop-i.i c.args.blocks c.run-run.result below c.loop-i.invariant.within
          (omega (arith, c.if-blocks-run.false));
    }

pub returns : goal.returns
returns c =
    fills c.args.block.now _ c.args.left c.args.vbn c.args.blocks c.in_ok-pointer.pointer c.in_ok-pointer.within _ c.loop-i.i c.loop-i.runs
    c.map-map.ensures c.requires.behind c.in_ok-pointer.ensures.found
    (omega (arith, c.min-used.ensures, c.runs.ensures.count)) (omega (arith, c.loop-i-test.false)) c.loop-i.invariant.held
    c.loop-i.invariant.within
