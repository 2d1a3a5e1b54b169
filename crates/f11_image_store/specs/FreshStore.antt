-- The store of a fresh volume (profile: what a fresh volume is).
use Rattle.std.specs.Prelude.{◌≡◌, ℕ, ◌-◌, ◌≤◌, ◌&&◌, nat_lt, nat_le, Bool, [], ◌∷◌, length, Some, None, if◌then◌else◌}
use Rattle.f11_dev.specs.Image.{Image, IsImage}
use Rattle.f11_volume.specs.home.Home.{HomeFields, IsHomeOf}
use Rattle.f11_volume.specs.layout.Files.{own_file}
use Rattle.f11_volume.specs.layout.OwnFields.{own_ident, own_attributes}
use Rattle.f11_volume.specs.layout.Places.{bit_blocks}
use Rattle.f11_volume.specs.layout.declared.layout.Layout.{Layout}
use Rattle.f11_volume.specs.map.MapWriting.{fewest_runs}
use Rattle.f11_store.specs.File.{File}
use Rattle.f11_store.specs.Store.{Store}
use Rattle.f11_volume.specs.Fresh.{used_by, IsFreshVolume}
use Rattle.f11_image_store.specs.FileLaws.{held_from}
use Rattle.f11_image_store.specs.StoreOf.{as_seen, store_of}

-- the numbers of its own files
abbrev pub is_own : ℕ → Bool
is_own n = nat_lt 0 n && nat_le n 5

-- file n of those that it has, with one header, which names the file's blocks by as few pointers as can be
abbrev pub fresh_file : Image → Layout → ℕ → File
fresh_file image l n =
    let own = own_file l n in
    let pointers = length (fewest_runs own.first own.count) in
    record {
      sequence = n;
      owner = l.owner;
      protection = 57344;
      characteristics = 0;
      ident = own_ident own.name;
      attr = own_attributes own;
      held = n ∷ [];
      pointers = pointers;
      room = 102 - pointers;
      blocks = held_from image own.first own.count;
    }

-- The store of a fresh volume: its own files alone are there, all blocks are free but those that they have, and no other slot was given a
-- sequence number.
abbrev pub fresh_store : Image → Layout → Store
fresh_store image l = record {
  file = λ n. if is_own n then Some (as_seen n (fresh_file image l n)) else None;
  free = l.blocks - used_by l;
  slots = l.slots;
  in_use = is_own;
  last = λ n. if is_own n then n else 0;
  access = λ task lun. None;
  bitmap_blocks = bit_blocks l.blocks;
  index_bitmap_blocks = bit_blocks l.max_files;
  limit = l.max_files;
}

-- it is the store of an image on which one was made
abbrev pub FreshIsStored : Type 0
FreshIsStored =
    (l : Layout) (old new : Image) (home : HomeFields) → IsImage new → l.blocks ≤ length new → IsFreshVolume l old new → IsHomeOf new home →
    store_of new home ≡ fresh_store new l
