use Rattle.std.proofs.Common.{◌≡◌, ◌≤◌, ◌+◌, ◌-◌, ◌*◌, length, take}
use Rattle.f11_dev.specs.Looked.{Looked}
use Rattle.f11_header.specs.Fields.{map_area}
use Rattle.f11_map.specs.HeaderBlock.{blocks_named}
use Rattle.f11_map.specs.MapArea.{runs_of, blocks_in}
use Rattle.f11_vfy.specs.Directory.Reading.{HoldsDirectoryBlocks, until, wanted}
use Rattle.f11_vfy.specs.Directory.Gathered.{TakesOn}
use Rattle.f11_vfy.proofs.directories.gathered.Gathered.take_pointers.Given as goal

-- the blocks of the pointers so far are taken
abbrev pub invariant-loop-i : goal.invariant-loop-i
invariant-loop-i g l =
    let old = g.D.Device.disk l.fn.device in
    record {
      place : l.behind ≡ l.at + length (blocks_in (take l.i (runs_of (map_area l.block))));
      few : l.behind ≤ l.at + 256 * l.i;
      takes : TakesOn l.slots l.dir.d (HoldsDirectoryBlocks old (blocks_named l.block) l.at) (until l.dir.end l.at)
          (until l.dir.end l.behind) l.fn.self l.self;
      looked : Looked old (g.D.Device.disk l.device) (wanted l.dir.end l.at (l.behind - l.at)) 0;
    }
