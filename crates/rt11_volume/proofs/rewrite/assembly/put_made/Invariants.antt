use Rattle.std.proofs.Common.{◌*◌, map, take}
use Rattle.rt11_volume.specs.Rewriting.Draft.{Puts, made_entry, words_of_all}
use Rattle.rt11_volume.specs.Entry.{entry_size}
use Rattle.rt11_volume.proofs.rewrite.assembly.put_made.Given as goal

-- the entries so far
abbrev pub invariant-loop-head : goal.invariant-loop-head
invariant-loop-head l =
    Puts l.initial.draft l.draft (words_of_all (map (made_entry l.extra) (take l.head-index l.heads))) (l.head-index * entry_size l.extra)
