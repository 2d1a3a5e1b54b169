use Rattle.std.proofs.Common.{take, get_or, []}
use Rattle.rt11_volume.specs.Rewriting.Draft.{Puts}
use Rattle.rt11_volume.specs.Segment.{entries, extra_bytes}
use Rattle.rt11_volume.proofs.rewrite.draft.Draft.put_entry.Given as goal

-- the words so far
abbrev pub invariant-loop-k : goal.invariant-loop-k
invariant-loop-k l = Puts l.initial.self l.self (take l.k (get_or (entries (extra_bytes l.from) l.from) l.i [])) l.k
