use Rattle.std.proofs.Common.{◌≡◌, ◌+◌, ◌*◌, min, length}
use Rattle.f11_index.specs.IndexFile.{slots}
use Rattle.f11_index.specs.Kept.{index_kept}
use Rattle.f11_index.specs.Slots.{free_between}
use Rattle.f11_index.proofs.index_file.IndexFile.free_headers.Given as goal

-- the free slots of the words so far are counted
abbrev pub invariant-loop-word : goal.invariant-loop-word
invariant-loop-word l = let index = index_kept l.self in l.free ≡ length (free_between index 6 (min (slots index + 1) (16 * l.word + 1)))
