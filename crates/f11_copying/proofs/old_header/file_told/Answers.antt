use Rattle.std.proofs.Common.{◌≡◌, ℕ, List}
use Rattle.f11_header.proofs.HeaderFacts.{ident_within}
use Rattle.f11_header.specs.Fields.{map_area}
use Rattle.f11_header.specs.MapFields.{segment}
use Rattle.f11_index.specs.map.HeaderBlock.{segment_number}
use Rattle.f11_copying.proofs.old_header.file_told.Goals as goal

first-segment : (block : List ℕ) → segment_number block ≡ 0 → segment (map_area block) ≡ 0
unfolding segment_number
first-segment block first = first

pub ident-requires-clause-first : goal.ident-requires-clause-first
ident-requires-clause-first c = rw c.new-header.ensures (first-segment c.args.header.now c.requires.first)

pub ident-requires-clause-within : goal.ident-requires-clause-within
ident-requires-clause-within c =
    rw c.new-header.ensures (ident_within c.args.header.now c.requires.header (first-segment c.args.header.now c.requires.first))
