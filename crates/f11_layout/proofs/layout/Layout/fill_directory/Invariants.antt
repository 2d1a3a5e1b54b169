use Rattle.f11_layout.proofs.DirectoryLemmas.{PutsRecords}
use Rattle.f11_layout.proofs.layout.Layout.fill_directory.Given as goal

-- the records so far are put
abbrev pub invariant-loop-i : goal.invariant-loop-i
invariant-loop-i l = PutsRecords l.self l.i l.block
