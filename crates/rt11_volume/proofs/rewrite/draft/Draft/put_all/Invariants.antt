use Rattle.std.proofs.Common.{take}
use Rattle.rt11_volume.specs.Rewriting.Draft.{Puts}
use Rattle.rt11_volume.proofs.rewrite.draft.Draft.put_all.Given as goal

-- the words so far
abbrev pub invariant-loop-word : goal.invariant-loop-word
invariant-loop-word l = Puts l.initial.self l.self (take l.word-index l.words) l.word-index
