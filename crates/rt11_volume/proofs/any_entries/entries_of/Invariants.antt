use Rattle.std.proofs.Common.{◌≡◌, take}
use Rattle.std.specs.List.{flat_map}
use Rattle.f11_dev.specs.Image.{Image}
use Rattle.rt11_volume.specs.AnyDirectory.{entries_in}
use Rattle.rt11_volume.specs.Directory.{visited}
use Rattle.rt11_volume.specs.InHand.{visits}
use Rattle.rt11_volume.proofs.any_entries.entries_of.Given as goal

-- the entries of the segments so far
abbrev pub invariant-loop-j : goal.invariant-loop-j
invariant-loop-j l = (image : Image) → l.visited ≡ visits image → l.entries.items ≡ flat_map (entries_in image) (take l.j (visited image))
