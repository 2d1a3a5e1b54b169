use Rattle.std.proofs.Common.{◌≡◌, ◌≤◌, IsTrue, length, map}
use Rattle.std.specs.Prelude.{vec_capacity}
use Rattle.std.specs.List.{range_with_len}
use Rattle.f11_dev.specs.Image.{image_block}
use Rattle.f11_dev.specs.Looked.{Looked}
use Rattle.f11_index.proofs.load.read_bitmap.Given as goal

-- the blocks so far were read, each once
abbrev pub invariant-loop-i : goal.invariant-loop-i
invariant-loop-i g l =
    let old = g.D.Device.disk l.fn.device in
    let now = g.D.Device.disk l.device in
    record {
      size : length l.bitmap.items ≡ l.i;
      room : l.home.index_blocks ≤ vec_capacity l.bitmap;
      blocks : IsTrue old.honest → l.bitmap.items ≡ map (image_block old.image) (range_with_len l.home.index_lbn l.i);
      looked : Looked old now l.i 0;
    }
