-- The worked examples of costs, computed.
use Rattle.std.proofs.Common.{refl}
use Rattle.f11_store.specs.Store.{free_slots, is_held}
use Rattle.f11_store.specs.File.{stated_end, zero_block, zero_blocks}
use Rattle.f11_store.specs.Directory.{is_directory, record_at, entries_of, has_name, record_bytes, with_end}
use Rattle.f11_store.specs.Headroom.{lacks_headers, slots_first}
use Rattle.f11_store.specs.Worked.{own_records, mfd_block, crowded_block}
use Rattle.f11_store.specs.WorkedCosts.{GivingUpBounds, LongFileBounds, NoFileBounds, SeveralHeaderBounds, SmallBounds, WideDirectories}
use Rattle.f11_store.specs.WorkedCosts.{WideIndexBounds, WideLengths}

pub wide-lengths : WideLengths
unfolding free_slots is_held lacks_headers slots_first
wide-lengths = record {
  made = refl;
  made_behind_slot = refl;
  extend = refl;
  extend_behind_slot = refl;
  grow = refl;
  grow_by_header = refl;
  contiguous = refl;
  contiguous_by_header = refl;
  truncate = refl;
  delete = refl;
}

pub wide-directories : WideDirectories
unfolding free_slots is_held lacks_headers slots_first stated_end is_directory record_at entries_of has_name record_bytes with_end
    own_records mfd_block crowded_block
wide-directories = record { find = refl; enter = refl; enter_with_room = refl; enter_behind_slot = refl; remove = refl }

pub small-bounds : SmallBounds
unfolding free_slots is_held
small-bounds = record { access = refl; read = refl; write = refl; read_attr = refl; write_attr = refl; space = refl }

pub no-file-bounds : NoFileBounds
unfolding free_slots is_held lacks_headers slots_first stated_end is_directory record_at entries_of has_name
no-file-bounds = record {
  read = refl;
  write = refl;
  extend = refl;
  contiguous = refl;
  truncate = refl;
  delete = refl;
  find = refl;
  enter = refl;
  remove = refl;
}

pub long-file-bounds : LongFileBounds
unfolding free_slots is_held lacks_headers slots_first stated_end is_directory record_at entries_of has_name record_bytes with_end
    zero_block zero_blocks
long-file-bounds = record {
  read = refl;
  write = refl;
  extend = refl;
  contiguous = refl;
  truncate = refl;
  made_behind_slot = refl;
  grow = refl;
  find = refl;
  enter = refl;
  remove = refl;
}

pub several-header-bounds : SeveralHeaderBounds
unfolding free_slots is_held lacks_headers slots_first
several-header-bounds = record {
  two_lack = refl;
  none_lacks = refl;
  one_lacks = refl;
  two_lack_beside_one = refl;
  grow_within = refl;
  grow = refl;
  contiguous = refl;
}

pub wide-index-bounds : WideIndexBounds
unfolding free_slots is_held lacks_headers slots_first stated_end is_directory record_at entries_of has_name record_bytes with_end
    own_records mfd_block
wide-index-bounds = record {
  made = refl;
  made_behind_slot = refl;
  extend = refl;
  grow = refl;
  contiguous = refl;
  contiguous_by_header = refl;
  enter = refl;
}

pub giving-up-bounds : GivingUpBounds
unfolding free_slots is_held
giving-up-bounds = record { held_still = refl; goes = refl; none = refl; all = refl; other_task = refl }
