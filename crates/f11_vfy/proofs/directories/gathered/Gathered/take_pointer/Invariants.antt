use Rattle.std.proofs.Common.{◌+◌}
use Rattle.std.specs.List.{range_with_len}
use Rattle.f11_dev.specs.Looked.{Looked}
use Rattle.f11_vfy.specs.Directory.Reading.{HoldsDirectoryBlocks, until}
use Rattle.f11_vfy.specs.Directory.Gathered.{TakesOn}
use Rattle.f11_vfy.proofs.directories.gathered.Gathered.take_pointer.Given as goal

-- the blocks so far are taken
abbrev pub invariant-loop-k : goal.invariant-loop-k
invariant-loop-k g l =
    let old = g.D.Device.disk l.fn.device in
    record {
      takes : TakesOn l.slots l.dir.d (HoldsDirectoryBlocks old (range_with_len l.fn.run.0 l.fn.run.1) l.at) (until l.dir.end l.at)
          (until l.dir.end (l.at + l.k)) l.fn.self l.self;
      looked : Looked old (g.D.Device.disk l.device) l.k 0;
    }
