use Rattle.std.proofs.Common.{◌≡◌, ◌+◌, ◌*◌, min, []}
use Rattle.f11_index.specs.IndexFile.{slots}
use Rattle.f11_index.specs.Kept.{index_kept}
use Rattle.f11_index.specs.Slots.{free_between}
use Rattle.f11_index.proofs.index_file.IndexFile.least_free.Given as goal

-- no slot of the words so far is free
abbrev pub invariant-loop-word : goal.invariant-loop-word
invariant-loop-word l = let index = index_kept l.self in free_between index 6 (min (slots index + 1) (16 * l.word + 1)) ≡ []
