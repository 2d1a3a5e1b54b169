use Rattle.f11_index.specs.Kept.{index_kept}
use Rattle.f11_vfy.specs.Directory.Notes.{JudgesUpTo}
use Rattle.f11_vfy.proofs.findings.reading.Reading.judge_directories.Given as goal

-- the slots so far are judged
abbrev pub invariant-loop-k : goal.invariant-loop-k
invariant-loop-k g l = JudgesUpTo (index_kept l.index) l.self l.k l.gathered (g.D.Device.disk l.fn.device) (g.D.Device.disk l.device)
