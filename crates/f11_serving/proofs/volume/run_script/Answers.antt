use Rattle.std.proofs.Common.{List, ℕ, Option, subst}
use Rattle.f11_fcp.specs.Lists.{ServesCall}
use Rattle.f11_serving.specs.Serving.{RunsScript, ServesScript, place_of}
use Rattle.f11_serving.proofs.AnsweringLemmas.{answers-script}
use Rattle.f11_serving.proofs.VolumeLemmas.{keeps-script-costs, script-beside, serves-script-run}
use Rattle.f11_serving.proofs.volume.run_script.Given as given
use Rattle.f11_serving.proofs.volume.run_script.Goals as goal

-- the script is gone then: it was left where the reader of its lines stood
runs : (g : given.Over) (c : goal.After-drop-script g) →
    RunsScript ServesCall (g.R.Read.remaining c.args.reader) c.args.volume.now c.serve_lines.new.service
    (g.W.Write.contents c.args.writer.now) (g.W.Write.contents c.serve_lines.new.writer) c.serve_lines.result
runs g c = (
  place_of g.R.Read.remaining c.serve_lines.new.script,
  subst (λ (bytes : Option (List ℕ)). ServesScript ServesCall bytes (place_of g.R.Read.remaining c.serve_lines.new.script)
      c.args.volume.now c.serve_lines.new.service (g.W.Write.contents c.args.writer.now) (g.W.Write.contents c.serve_lines.new.writer)
      c.serve_lines.result) c.new-script.ensures.bytes c.serve_lines.ensures.serves,
)

pub returns-clause-serves : goal.returns-clause-serves
returns-clause-serves g c = runs g c

pub returns-clause-run : goal.returns-clause-run
returns-clause-run g c = serves-script-run c.args.volume.now c.serve_lines.new.service _ _ _ c.serve_lines.result (runs g c)

pub returns-clause-costs : goal.returns-clause-costs
returns-clause-costs g c = keeps-script-costs c.args.volume.now c.serve_lines.new.service _ _ _ c.serve_lines.result (runs g c)

pub returns-clause-lost : goal.returns-clause-lost
returns-clause-lost g c = script-beside _ _ _ c.args.volume.now c.serve_lines.new.service c.serve_lines.result (runs g c)

pub returns-clause-answers : goal.returns-clause-answers
returns-clause-answers g c = answers-script c.args.volume.now c.serve_lines.new.service _ _ _ c.serve_lines.result (runs g c)
