-- Blocks that were made zeros, before a file's last header names them: what is in hand stays so.
use Rattle.std.proofs.Common.{◌≡◌, ◌+◌, ◌<◌, ◌≤◌, ◌==◌, ◌^◌, ℕ, zero, suc, Bool, IsTrue, if◌then◌else◌, refl, sym, ap, subst, ◌∙◌, arith}
use Rattle.f11_bits.specs.Bitmap.{IsBitmap}
use Rattle.f11_dev.specs.Disk.{Disk}
use Rattle.f11_home.specs.Home.{HomeFields}
use Rattle.f11_index.specs.Headers.{IsLastOf}
use Rattle.f11_index.specs.Table.{Table, table_of}
use Rattle.f11_store.specs.File.{run_pointers}
use Rattle.f11_store.proofs.StoreLemmas.{other_number}
use Rattle.f11_volume.specs.Volume.{Volume, volume_of}
use Rattle.f11_writes.specs.NameLaws.{AreUnreferenced}
use Rattle.f11_writes.proofs.NameLemmas.{unreferenced-stay}
use Rattle.f11_image_store.specs.FileLaws.{room_in}
use Rattle.f11_files.specs.Extending.Growing.{SameFree}
use Rattle.f11_files.specs.Structure.{bitmap_in, home_of, FitsOn, IsStructureFor}
use Rattle.f11_files.specs.Extending.Tail.{HoldsLast, MayBeGiven, HasNoPlace, places_next}
use Rattle.f11_files.specs.Extending.Zeros.{Zeroes}
use Rattle.f11_files.specs.declared.structure.Structure.{Structure}
use Rattle.f11_files.specs.declared.extend.tail.Tail.{Tail}
use Rattle.f11_files.proofs.Finding.First.{table-of}
use Rattle.f11_files.proofs.WriteLemmas.{keeps-volume}

-- a bitmap says of no more than 516,096 blocks
low-block : (s : Structure) (lbn count : ℕ) → lbn + count ≤ (bitmap_in s).size → lbn + count ≤ 2 ^ 24
low-block s lbn count within =
    let is : IsBitmap (bitmap_in s) = s.storage.valid in
    omega (arith, is.few, is.covered, within)

-- too few places are none, where the header that comes next has enough
places-none : (room p : ℕ) → room < p → p ≤ (if room == 0 then 102 else room) → (room ≡ 0) × (p ≤ 102)
places-none zero p lacks fits = (refl, fits)
places-none (suc room) p lacks fits =
    let here : p ≤ suc room = subst (λ (b : Bool). p ≤ (if b then 102 else suc room))
    (other_number (suc room) 0 (λ none. omega (arith, none))) fits in
    absurd (omega (arith, lacks, here))

module _ (s : Structure) (tail : Tail) (lbn count : ℕ) (old mid : Disk) (for : IsStructureFor s old) (last : HoldsLast s tail old)
    (within : lbn + count ≤ (bitmap_in s).size) (some : 0 < count) (fits : run_pointers count ≤ places_next tail.block)
    (unreferenced : IsTrue old.honest → AreUnreferenced (volume_of old.image (home_of s)) lbn count)
    (zeroed : Zeroes (home_of s) lbn count old mid) where
  abbrev home : HomeFields
  home = home_of s

  was-honest : IsTrue mid.honest → IsTrue old.honest
  was-honest honest = sym zeroed.went.honest ∙ honest

  pub mid-for : IsStructureFor s mid
  mid-for = record {
    lies = subst (λ (n : ℕ). FitsOn s n) (sym zeroed.went.size) for.lies;
    sound = λ honest. (zeroed.keeps (was-honest honest)).volume.sound;
    keeps = λ honest. keeps-volume s old.image mid.image (zeroed.keeps (was-honest honest)).volume (for.keeps (was-honest honest));
  }

  pub free-mid : IsTrue old.honest → SameFree home old.image mid.image
  free-mid honest = ap (λ (v : Volume). v.free) (zeroed.keeps honest).volume.volume

  tables : IsTrue old.honest → table_of mid.image home ≡ table_of old.image home
  tables honest = (zeroed.keeps honest).volume.index_file.table

  pub mid-last : HoldsLast s tail mid
  mid-last = record {
    header = record {
      in_use = last.header.in_use;
      valid = last.header.valid;
      block_is = λ honest.
          let before = was-honest honest in
          last.header.block_is before
          ∙ ap (λ (t : Table). t.header tail.number)
          (table-of s old for before ∙ sym (tables before) ∙ sym (table-of s mid mid-for honest));
    };
    no_link = last.no_link;
    few = last.few;
    is_last = λ honest. let before = was-honest honest in
        subst (λ (t : Table). IsLastOf t tail.file.number tail.number) (sym (tables before)) (last.is_last before);
  }

  pub mid-given : MayBeGiven home lbn count mid
  mid-given = record {
    some = some;
    low = low-block s lbn count within;
    unreferenced = λ honest. let before = was-honest honest in
        unreferenced-stay old.image mid.image home lbn count (zeroed.keeps before).volume (unreferenced before);
    zeros = λ honest. zeroed.zeros (was-honest honest);
  }

  -- no place is left for them, and nothing was done
  module _ (now : Disk) (after : Tail) (full : HasNoPlace tail after count mid now) where
    pub now-for : IsStructureFor s now
    now-for = subst (IsStructureFor s) (sym full.disk_is) mid-for

    pub now-last : HoldsLast s after now
    now-last =
        subst (λ (d : Disk). HoldsLast s after d) (sym full.disk_is) (subst (λ (x : Tail). HoldsLast s x mid) (sym full.tail_is) mid-last)

    pub now-given : MayBeGiven home lbn count now
    now-given = subst (MayBeGiven home lbn count) (sym full.disk_is) mid-given

    pub now-full : room_in after.block ≡ 0
    now-full = ap (λ (x : Tail). room_in x.block) full.tail_is ∙ (places-none (room_in tail.block) (run_pointers count) full.lacks fits).0

    -- a new one has places for them
    pub now-fits : run_pointers count ≤ 102
    now-fits = (places-none (room_in tail.block) (run_pointers count) full.lacks fits).1
