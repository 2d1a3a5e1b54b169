use Rattle.std.proofs.Common.{◌≤◌, ◌∙◌, arith}
use Rattle.f11_map.proofs.InHandLemmas.{appended}
use Rattle.f11_store.specs.File.{run_pointers}
use Rattle.f11_image_store.specs.FileLaws.{room_in}
use Rattle.f11_files.proofs.Extending.HeaderBlock.{has-places, is-extension, names-header, segment-said}
use Rattle.f11_files.proofs.extend.header.fill_extension.Goals as goal

pub overflow_add-segment : goal.overflow_add-segment
overflow_add-segment c =
    let is = segment-said c.args.tail.now.block _ c.segment-segment.result c.map.ensures c.segment-segment.ensures in
    omega (arith, is, c.requires.early)

pub append_runs-requires-clause-header : goal.append_runs-requires-clause-header
append_runs-requires-clause-header c = c.blank.ensures.holds ∙ names-header c.args.id c.requires.number c.requires.sequence

pub returns : goal.returns
returns c =
    let holds = c.blank.ensures.holds ∙ names-header c.args.id c.requires.number c.requires.sequence in
    let is = segment-said c.args.tail.now.block _ c.segment-segment.result c.map.ensures c.segment-segment.ensures in
    let has = has-places c.args.tail.now c.args.id c.segment-segment.result c.blank.new.block holds c.blank.ensures.empty in
    let fits : run_pointers c.args.count ≤ room_in c.blank.new.block = omega (arith, has, c.requires.fits) in
    let appends = appended c.append_runs.result c.blank.new.block _ c.args.lbn c.args.count fits c.append_runs.ensures.ok
    c.append_runs.ensures.full.0 in
    is-extension c.args.tail.now c.args.id c.segment-segment.result c.blank.new.block holds c.blank.ensures.empty c.args.lbn c.args.count
    c.append_runs.new.block is c.requires.some appends
