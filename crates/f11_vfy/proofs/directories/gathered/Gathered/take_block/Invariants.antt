use Rattle.std.proofs.Common.{◌≡◌, ◌+◌, [], get_or}
use Rattle.f11_vfy.specs.Directory.Reading.{until}
use Rattle.f11_vfy.specs.Directory.Gathered.{TakesOn}
use Rattle.f11_vfy.proofs.directories.gathered.Gathered.take_block.Given as goal

-- the records so far are taken
abbrev pub invariant-loop-k : goal.invariant-loop-k
invariant-loop-k l =
    TakesOn l.slots l.dir.d (λ _ blocks. get_or blocks l.at [] ≡ l.block) (until l.dir.end l.at) (until l.dir.end l.at + l.k) l.initial.self
    l.self
