-- What a `Memory` shows.
use Rattle.std.specs.Prelude.{◌≡◌, false, true, List, [], ◌∷◌, reverse, slice_set}
use Rattle.f11_dev.specs.Image.{Image}
use Rattle.f11_dev.specs.Disk.{Disk, with_transfer}
use Rattle.f11_dev.specs.Outcomes.{transfers_of, failures_of, calm_of}
use Rattle.f11_dev.specs.declared.memory.Replaced.{Replaced}
use Rattle.f11_dev.specs.declared.memory.Memory.{Memory}

-- The images after each write, the newest first: putting back what a write replaced gives the image before it.
abbrev pub images_back : Image → List Replaced → List Image
images_back image [] = []
images_back image (last ∷ earlier) = image ∷ images_back (slice_set image last.lbn last.block) earlier

-- the disk that a memory is: it is honest
abbrev pub memory_disk : Memory → Disk
memory_disk m = record {
  image = m.blocks.items;
  history = images_back m.blocks.items (reverse m.replaced.items);
  transfers = transfers_of m.outcomes;
  failures = failures_of m.outcomes;
  calm = calm_of m.outcomes;
  honest = true;
}

-- one more transfer, which failed, and nothing else changed
abbrev pub CountsFailure : Memory → Memory → Type 0
CountsFailure old new = memory_disk new ≡ with_transfer false (memory_disk old)
