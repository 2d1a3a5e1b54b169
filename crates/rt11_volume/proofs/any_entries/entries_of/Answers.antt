use Rattle.std.proofs.Common.{◌∙◌, arith}
use Rattle.rt11_volume.proofs.SurveyLemmas.{read-all, read-more}
use Rattle.rt11_volume.proofs.Walking.Places.{as-many}
use Rattle.rt11_volume.proofs.any_entries.entries_of.Goals as goal

pub loop-j-init : goal.loop-j-init
loop-j-init c = λ image is. c.new-entries.ensures.items

pub loop-j-preserved : goal.loop-j-preserved
loop-j-preserved c = λ image is.
    c.in_ok-add_visited.ensures image is
    ∙ read-more image c.loop-j.j c.loop-j.entries.items (omega (arith, c.loop-j-test.true, as-many image c.args.visited.now is))
    (c.loop-j.invariant image is)

pub returns : goal.returns
returns c = λ image is.
    read-all image c.loop-j.j c.loop-j.entries.items (omega (arith, c.loop-j-test.false, as-many image c.args.visited.now is))
    (c.loop-j.invariant image is)
