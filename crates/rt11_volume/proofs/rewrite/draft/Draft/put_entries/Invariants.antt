use Rattle.std.proofs.Common.{◌-◌, ◌*◌, ◌≤◌, slice_range}
use Rattle.rt11_volume.specs.Rewriting.Draft.{Puts, words_of_all}
use Rattle.rt11_volume.specs.Entry.{entry_size}
use Rattle.rt11_volume.specs.Segment.{entries, extra_bytes}
use Rattle.rt11_volume.proofs.rewrite.draft.Draft.put_entries.Given as goal

-- the entries so far
abbrev pub invariant-loop-i : goal.invariant-loop-i
invariant-loop-i l = record {
  low : l.i ≤ l.end;
  puts : Puts l.initial.self l.self (words_of_all (slice_range (entries (extra_bytes l.from) l.from) l.first l.i))
      ((l.i - l.first) * entry_size (extra_bytes l.from));
}
