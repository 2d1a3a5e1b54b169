use Rattle.std.proofs.Common.{◌≡◌, ◌+◌}
use Rattle.std.proofs.Math.Seq.{paste}
use Rattle.rt11_volume.proofs.segment.Segment.set_words.Given as goal

-- the words so far
abbrev pub invariant-loop-word : goal.invariant-loop-word
invariant-loop-word l = record { place : l.i ≡ l.at + l.word-index; words : l.self ≡ paste l.initial.self l.at l.words l.word-index }
