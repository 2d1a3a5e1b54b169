-- A header more for a file whose last one is full: what is so before it is linked to.
use Rattle.std.proofs.Common.{◌≡◌, ◌+◌, ◌<◌, ◌≤◌, ℕ, IsTrue, length, inl, refl, arith, ◌∙◌}
use Rattle.f11_dev.specs.Disk.{Disk}
use Rattle.f11_dev.specs.Image.{Image}
use Rattle.f11_home.specs.Home.{HomeFields}
use Rattle.f11_map.specs.HeaderBlock.{segment_number}
use Rattle.f11_store.specs.File.{File, need, run_pointers}
use Rattle.f11_store.specs.Store.{Store, free_headers, free_slots}
use Rattle.f11_store.specs.declared.refusals.Refusal.{Refusal}
use Rattle.f11_store.specs.declared.refusals.Refusal.TheVariants.{Damaged}
use Rattle.f11_files.specs.Answers.{Breaks}
use Rattle.f11_store.specs.Pieces.{with_more_free, file_numbered, HasRoom, MayGrowAs}
use Rattle.f11_image_store.specs.FileLaws.{room_in}
use Rattle.f11_files.specs.Extending.Growing.{WhileTaking}
use Rattle.f11_files.specs.Extending.Header.{AppendingRun}
use Rattle.f11_image_store.specs.StoreOf.{store_of}
use Rattle.f11_files.specs.Structure.{home_of, store_on, IsStructureFor}
use Rattle.f11_files.specs.Extending.Tail.{HoldsLast, MayBeGiven}
use Rattle.f11_files.specs.declared.structure.Structure.{Structure}
use Rattle.f11_files.specs.declared.extend.tail.Tail.{Tail}
use Rattle.f11_files.proofs.Removing.Freeing.{breaks-within, writes-none}
use Rattle.f11_files.proofs.Extending.Growing.{breaks-weaker, headers-here, room-here, takes-within}

-- blocks that are free take no header
same-headers : (s : Store) (count : ℕ) → free_headers (with_more_free s count) ≡ free_headers s
unfolding free_slots
same-headers s count = refl

module _ (s : Structure) (tail : Tail) (lbn count : ℕ) (old : Disk) (for : IsStructureFor s old) (last : HoldsLast s tail old)
    (given : MayBeGiven (home_of s) lbn count old)
    (full : room_in tail.block ≡ 0)
    (may : IsTrue old.honest → MayGrowAs (with_more_free (store_on s old) count) tail.file.number count (run_pointers count)) where
  abbrev home : HomeFields
  home = home_of s

  abbrev st : Store
  st = store_on s old

  abbrev file : File
  file = file_numbered st tail.file.number

  abbrev P : Image → Type 0
  P = AppendingRun s tail count old

  module _ (honest : IsTrue old.honest) where
    pub no-room : file.room ≡ 0
    no-room = room-here s tail old for last honest ∙ full

    headers : length file.held ≡ segment_number tail.block + 1
    headers = headers-here s tail old for last honest

    has : HasRoom (with_more_free st count) file count (run_pointers count)
    has = (may honest).places.has_room

    needed : 1 ≤ need file.room (run_pointers count)
    needed = omega (arith, no-room, given.some)

    is-early : segment_number tail.block < 255
    is-early = omega (arith, has.segments, headers, needed)

    pub some-free : 0 < free_headers st
    some-free = omega (arith, has.headers, needed, same-headers st count)

  -- the file has as many headers as it may
  pub too-many : segment_number tail.block ≡ 255 → Breaks P 4 Damaged old old
  too-many is =
      record { fatal = refl; undamaged = λ honest _. let early = is-early honest in omega (arith, early, is); writes = writes-none P 4 old }

  -- a header was taken for it
  pub taken-moment : (image : Image) → WhileTaking home 0 1 st old image → P image
  taken-moment image is honest =
      record {
        sound = (is honest).sound;
        stage = inl (takes-within 0 0 1 (need file.room (run_pointers count)) st (store_of image home) (omega arith) (needed honest)
            (is honest).takes);
      }

  pub fails-enter : (mid : Disk) (r : Refusal) → Breaks (WhileTaking home 0 1 st old) 3 r old mid → Breaks P 4 r old mid
  fails-enter mid r breaks = breaks-within (λ _. omega arith) (breaks-weaker taken-moment breaks)
