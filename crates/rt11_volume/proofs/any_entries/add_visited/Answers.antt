use Rattle.std.proofs.Common.{◌∙◌, ◌++◌, List, ap}
use Rattle.rt11_volume.specs.declared.any_entries.RtEntry.{RtEntry}
use Rattle.rt11_volume.proofs.SurveyLemmas.{read-right, read-wrong}
use Rattle.rt11_volume.proofs.any_entries.add_visited.Goals as goal

pub returns-then-is_wrong_at : goal.returns-then-is_wrong_at
returns-then-is_wrong_at c =
    λ image is. read-wrong image _ _ c.args.entries.now.items (c.is_wrong_at.ensures image is) c.if-is_wrong_at.true

pub returns : goal.returns
returns c = λ image is.
    c.in_ok-add_entries.ensures
    ∙ ap (λ (es : List RtEntry). c.args.entries.now.items ++ es)
    (read-right image c.args.visited.now c.args.j _ c.visit_at-here.result.now is c.requires (c.is_wrong_at.ensures image is)
    c.if-is_wrong_at.false c.visit_at-here.ensures)
