-- A run of blocks that a file gets: it is made zeros, and its last header names it, or a new one.
use Rattle.std.proofs.Common.{◌==◌, ◌≡◌, ◌+◌, ◌<◌, ◌≤◌, ℕ, Bool, IsTrue, inl, inr, sym, ap, subst, ◌∙◌, arith}
use Rattle.std.specs.List.{range_with_len}
use Rattle.f11_dev.specs.Disk.{Disk}
use Rattle.f11_dev.specs.Image.{Image}
use Rattle.f11_dev.proofs.WentLemmas.{went_more, went_weaker}
use Rattle.f11_home.specs.Home.{HomeFields}
use Rattle.f11_index.specs.Table.{Table, table_of}
use Rattle.f11_store.specs.File.{need, run_pointers}
use Rattle.f11_store.specs.Store.{Store}
use Rattle.f11_store.specs.declared.refusals.Refusal.{Refusal}
use Rattle.f11_store.specs.declared.refusals.Refusal.TheVariants.{DeviceFault}
use Rattle.f11_volume.specs.Sound.{HasSoundVolume}
use Rattle.f11_volume.specs.Volume.{volume_of}
use Rattle.f11_writes.specs.NameLaws.{AreUnreferenced}
use Rattle.f11_image_store.specs.Allocation.{NamesMore, AddsZeroSlots}
use Rattle.f11_files.specs.Answers.{WritesAtMost, Breaks}
use Rattle.f11_store.specs.Pieces.{with_more_free, file_numbered, TakesSome, GrowsAs, MayGrowAs, with_blocks_named}
use Rattle.f11_files.specs.Extending.Header.{AppendingRun, AppendsRun}
use Rattle.f11_image_store.specs.FileLaws.{room_in}
use Rattle.f11_files.specs.Extending.Growing.{Grew, GrowingInto, SameFree}
use Rattle.f11_image_store.specs.StoreOf.{store_of}
use Rattle.f11_files.specs.Structure.{bitmap_in, home_of, store_on, IsStructureFor, StaysFor}
use Rattle.f11_files.specs.Extending.Tail.{HoldsLast, Naming, NamesRun, FailsToName, HasNoPlace, whose, ownership_of, places_next}
use Rattle.f11_files.specs.Extending.Tail.{MayBeGiven}
use Rattle.f11_files.specs.Extending.Zeros.{Keeping, Zeroes, FailsToZero}
use Rattle.f11_files.specs.declared.structure.Structure.{Structure}
use Rattle.f11_files.specs.declared.extend.tail.Tail.{Tail}
use Rattle.f11_files.proofs.Removing.Freeing.{breaks-behind, breaks-within}
use Rattle.f11_files.proofs.Extending.Growing.{breaks-fault, went-writes, takes-none, room-here, into-same, grew-behind}
use Rattle.f11_files.proofs.Extending.Zeroed.{free-mid, now-fits, now-for, now-last, now-given}
use Rattle.f11_index.specs.Kept.{room}
use Rattle.f11_files.specs.Extending.Slots.{GetsBlocks, MayCome}
use Rattle.f11_store.proofs.GrowsLemmas.{named-grown}

module _ (s : Structure) (tail : Tail) (lbn count : ℕ) (old : Disk) (for : IsStructureFor s old) (last : HoldsLast s tail old)
    (within : lbn + count ≤ (bitmap_in s).size) (some : 0 < count)
    (fits : run_pointers count ≤ places_next tail.block)
    (unreferenced : IsTrue old.honest → AreUnreferenced (volume_of old.image (home_of s)) lbn count)
    (reserved : IsTrue (tail.file.number == 1) → count ≤ room s.index)
    (may : IsTrue old.honest → MayGrowAs (with_more_free (store_on s old) count) tail.file.number count (run_pointers count)) where
  abbrev home : HomeFields
  home = home_of s

  abbrev st : Store
  st = store_on s old

  abbrev free : Store
  free = with_more_free st count

  abbrev k : ℕ
  k = tail.file.number

  abbrev P : Image → Type 0
  P = AppendingRun s tail count old

  zero-moment : (image : Image) → Keeping home old image → P image
  zero-moment image is honest =
      let here = is honest in
      record {
        sound = here.volume.sound;
        stage = inl (subst (TakesSome 0 (need (file_numbered st k).room (run_pointers count)) st) (sym here.store) (takes-none 0 _ st));
      }

  pub sound-moment : (image : Image) → P image → IsTrue old.honest → HasSoundVolume image home
  sound-moment image is honest = (is honest).sound

  pub fails-zeros : (new : Disk) → FailsToZero home count old new → Breaks P (count + 4) DeviceFault old new
  fails-zeros new fails =
      breaks-fault record { transfers = count; went = went_weaker (Keeping home old) P zero-moment fails; few = λ _. omega arith }

  -- the blocks are zeros
  module _ (mid : Disk) (zeroed : Zeroes home lbn count old mid) where
    zeros-written : WritesAtMost P count old mid 0
    zeros-written = went-writes (went_weaker (Keeping home old) P zero-moment zeroed.went)

    zeros-free : IsTrue old.honest → SameFree home old.image mid.image
    zeros-free = free-mid s tail lbn count old mid for last within some fits unreferenced zeroed

    zeros-table : IsTrue old.honest → table_of mid.image home ≡ table_of old.image home
    zeros-table honest = (zeroed.keeps honest).volume.index_file.table

    was-honest : IsTrue mid.honest → IsTrue old.honest
    was-honest honest = sym zeroed.went.honest ∙ honest

    same : IsTrue old.honest → store_on s mid ≡ st
    same honest = (zeroed.keeps honest).store

    mid-may : IsTrue mid.honest → MayGrowAs (with_more_free (store_on s mid) count) k count (run_pointers count)
    mid-may honest =
        let before = was-honest honest in
        subst (λ (x : Store). MayGrowAs (with_more_free x count) k count (run_pointers count)) (sym (same before)) (may before)

    pub mid-come : MayCome s k count mid
    mid-come = record { reserved = reserved; limit = λ honest. (mid-may honest).within }

    -- images that stand meanwhile
    into : (image : Image) → GrowingInto home (store_on s mid) (with_more_free (store_on s mid) count) k count (run_pointers count) mid
        image → P image
    into = into-same home st (store_on s mid) k count (run_pointers count) old mid zeroed.went.honest same

    -- it has no place for them, and nothing was done
    module _ (now : Disk) (after : Tail) (full : HasNoPlace tail after count mid now) (u : Structure) (same_is : u ≡ s) where
      pub then-for : IsStructureFor u now
      then-for =
          subst (λ (x : Structure). IsStructureFor x now) (sym same_is)
          (now-for s tail lbn count old mid for last within some fits unreferenced zeroed now after full)

      pub then-last : HoldsLast u after now
      then-last =
          subst (λ (x : Structure). HoldsLast x after now) (sym same_is)
          (now-last s tail lbn count old mid for last within some fits unreferenced zeroed now after full)

      pub then-fits : run_pointers count ≤ 102
      then-fits = now-fits s tail lbn count old mid for last within some fits unreferenced zeroed now after full

      pub then-gets : GetsBlocks k → GetsBlocks after.file.number
      then-gets gets = subst (λ (x : Tail). GetsBlocks x.file.number) (sym full.tail_is) gets

      pub then-given : MayBeGiven (home_of u) lbn count now
      then-given =
          subst (λ (x : Structure). MayBeGiven (home_of x) lbn count now) (sym same_is)
          (now-given s tail lbn count old mid for last within some fits unreferenced zeroed now after full)

      pub then-within : lbn + count ≤ (bitmap_in u).size
      then-within = subst (λ (x : Structure). lbn + count ≤ (bitmap_in x).size) (sym same_is) within

      pub then-reserved : IsTrue (after.file.number == 1) → count ≤ room u.index
      then-reserved =
          subst (λ (x : Structure). IsTrue (after.file.number == 1) → count ≤ room x.index) (sym same_is)
          (subst (λ (x : Tail). IsTrue (x.file.number == 1) → count ≤ room s.index) (sym full.tail_is) reserved)

      pub then-may : IsTrue now.honest → MayGrowAs (with_more_free (store_on u now) count) after.file.number count (run_pointers count)
      then-may =
          subst (λ (x : Structure). IsTrue now.honest → MayGrowAs (with_more_free (store_on x now) count) after.file.number count
          (run_pointers count)) (sym same_is)
          (subst (λ (d : Disk). IsTrue d.honest → MayGrowAs (with_more_free (store_on s d) count) after.file.number count
          (run_pointers count)) (sym full.disk_is)
          (subst (λ (x : Tail). IsTrue mid.honest → MayGrowAs (with_more_free (store_on s mid) count) x.file.number count
          (run_pointers count)) (sym full.tail_is) mid-may))

      -- a new header names them
      pub appends-header : (t : Structure) (later : Tail) (new : Disk) → AppendsRun u t after later lbn count 1 now new
          → AppendsRun s t tail later lbn count (count + 1) old new
      appends-header t later new appends =
          let given = subst (λ (x : Structure). AppendsRun x t after later lbn count 1 now new) same_is appends in
          record {
            file = given.file ∙ ap whose full.tail_is;
            last = given.last;
            bitmap = given.bitmap;
            left = given.left;
            free = λ honest. given.free (ap (λ (d : Disk). d.honest) full.disk_is ∙ zeroed.went.honest ∙ honest)
                ∙ ap (λ (d : Disk). (volume_of d.image home).free) full.disk_is ∙ zeros-free honest;
            names = λ honest.
                subst (λ (t : Table). NamesMore k (ownership_of tail) (range_with_len lbn count) t (table_of new.image home))
                (ap (λ (d : Disk). table_of d.image home) full.disk_is ∙ zeros-table honest)
                (subst (λ (x : Tail). NamesMore x.file.number (ownership_of x) (range_with_len lbn count) (table_of now.image home)
                (table_of new.image home)) full.tail_is
                (given.names (ap (λ (d : Disk). d.honest) full.disk_is ∙ zeroed.went.honest ∙ honest)));
            slots = λ honest.
                subst (λ (t : Table). AddsZeroSlots t (table_of new.image home))
                (ap (λ (d : Disk). table_of d.image home) full.disk_is ∙ zeros-table honest)
                (given.slots (ap (λ (d : Disk). d.honest) full.disk_is ∙ zeroed.went.honest ∙ honest));
            grew = grew-behind into (λ honest. ap (λ (x : Store). with_more_free x count) (same honest)) zeros-written
                (subst (λ (x : Tail). Grew (AppendingRun s x count mid) home (with_more_free (store_on s mid) count) x.file.number count
                (run_pointers count) 1 mid new) full.tail_is
                (subst (λ (d : Disk). Grew (AppendingRun s after count d) home (with_more_free (store_on s d) count) after.file.number count
                (run_pointers count) 1 d new) full.disk_is given.grew));
          }

      pub fails-header : (new : Disk) (r : Refusal) → Breaks (AppendingRun u after count now) 4 r now new → Breaks P (count + 4) r old new
      fails-header new r breaks =
          breaks-behind into zeros-written
          (subst (λ (x : Tail). Breaks (AppendingRun s x count mid) 4 r mid new) full.tail_is
          (subst (λ (d : Disk). Breaks (AppendingRun s after count d) 4 r d new) full.disk_is
          (subst (λ (x : Structure). Breaks (AppendingRun x after count now) 4 r now new) same_is breaks)))

      pub then-stays : {failed : Bool} {t : Structure} {disk : Disk} → StaysFor failed u t disk → StaysFor failed s t disk
      then-stays {failed = failed} {t = t} {disk = disk} stays = subst (λ (x : Structure). StaysFor failed x t disk) same_is stays

    -- the last header names them
    named : (more : ℕ) → IsTrue old.honest → more ≤ run_pointers count → more ≤ room_in tail.block
        → (e : GrowsAs free k count (run_pointers count) (with_blocks_named k more count st)) × (e.grows.added ≡ 0)
    named more honest few has =
        let left = room-here s tail old for last honest in
        named-grown st k count more (run_pointers count) (may honest) few (omega (arith, left, has))

    naming-moment : (more : ℕ) → more ≤ run_pointers count → more ≤ room_in tail.block → (image : Image)
        → Naming s tail more count mid image → P image
    naming-moment more few has image is honest =
        let here = is (zeroed.went.honest ∙ honest) in
        record {
          sound = here.sound;
          stage = inr (subst (GrowsAs free k count (run_pointers count))
              (sym (here.store ∙ ap (with_blocks_named k more count) (same honest))) (named more honest few has).0);
        }

    pub fails-named : (new : Disk) → FailsToName s tail lbn count mid new → Breaks P (count + 4) DeviceFault old new
    fails-named new fails =
        breaks-within (λ _. omega arith)
        (breaks-behind (λ image is. is) zeros-written
        (breaks-fault (went-writes
        (went_weaker (Naming s tail fails.more count mid) P (naming-moment fails.more fails.few fails.fits) fails.went))))

    pub appends-named : (t : Structure) (after : Tail) (new : Disk) → NamesRun s t tail after lbn count mid new
        → AppendsRun s t tail after lbn count (count + 1) old new
    appends-named t after new names = record {
      file = names.file_is;
      last = names.holds;
      bitmap = names.bitmap;
      left = names.left;
      free = λ honest. names.free (zeroed.went.honest ∙ honest) ∙ zeros-free honest;
      names = λ honest.
          subst (λ (t : Table). NamesMore k (ownership_of tail) (range_with_len lbn count) t (table_of new.image home)) (zeros-table honest)
          (names.names (zeroed.went.honest ∙ honest));
      slots = λ honest. subst (λ (t : Table). AddsZeroSlots t (table_of new.image home)) (zeros-table honest)
          (names.slots (zeroed.went.honest ∙ honest));
      grew = record {
        grows = λ honest. (at honest).0;
        transfers = zeros-written.transfers + 1;
        went = went_more P zeros-written.went
            (went_weaker (Naming s tail names.more count mid) P (naming-moment names.more names.few names.fits) names.went);
        few = λ honest. let zeros = zeros-written.few honest in omega (arith, zeros);
      };
    }
      where
        at : IsTrue old.honest → (e : GrowsAs free k count (run_pointers count) (store_of new.image home)) × (e.grows.added ≡ 0)
        at honest =
            let here = names.store (zeroed.went.honest ∙ honest) in
            subst (λ (x : Store). (e : GrowsAs free k count (run_pointers count) x) × (e.grows.added ≡ 0))
            (sym (here.store ∙ ap (with_blocks_named k names.more count) (same honest))) (named names.more honest names.few names.fits)
