use Rattle.std.proofs.Common.{◌≡◌, ◌≤◌, ◌<◌, ℕ, IsTrue, List, length}
use Rattle.std.specs.Prelude.{All, vec_capacity}
use Rattle.f11_index.specs.Kept.{index_kept}
use Rattle.f11_chain.specs.Calls.{table}
use Rattle.f11_chain.specs.FileHeaders.{blocks_by}
use Rattle.f11_chain.proofs.AlongLemmas.{Along}
use Rattle.f11_vfy.specs.Frames.Parts.{needed}
use Rattle.f11_vfy.proofs.frame.bitmap_file.read_bitmap_file.Given as goal

-- the header in hand is one of the file, and the blocks of those before it are on the device, and were kept
abbrev pub invariant-loop : goal.invariant-loop
invariant-loop g l =
    let old = g.D.Device.disk l.fn.device in
    let now = g.D.Device.disk l.device in
    let index = index_kept l.index in
    record {
      number : ℕ;
      behind : List ℕ;
      along : Along index 2 number l.counter behind l.block old now;
      kept_are : IsTrue old.honest → l.kept.items ≡ needed (blocks_by (table index old) behind);
      within : IsTrue old.honest → All (λ lbn. lbn < length old.image) (blocks_by (table index old) behind);
      on_device : All (λ lbn. lbn < length old.image) l.kept.items;
      few : length l.kept.items ≤ 127;
      room : 127 ≤ vec_capacity l.kept;
    }
