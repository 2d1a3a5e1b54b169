-- Reclaiming, its parts one after another.
use Rattle.std.proofs.Common.{◌≡◌, ◌+◌, ◌*◌, ◌≤◌, ℕ, false, IsTrue, length, sym, ap, subst, ◌∙◌, arith}
use Rattle.f11_bits.specs.Bitmap.{Bitmap, KeepsBitmap}
use Rattle.f11_dev.specs.Disk.{Disk}
use Rattle.f11_dev.specs.Image.{Image}
use Rattle.f11_dev.specs.Went.{Went}
use Rattle.f11_dev.proofs.WentLemmas.{went_more, went_weaker}
use Rattle.f11_home.specs.Home.{HomeFields}
use Rattle.f11_index.specs.IndexFile.{Index, slots}
use Rattle.f11_index.specs.Table.{table_of}
use Rattle.f11_vfy.specs.Reclaiming.Moments.{Moment}
use Rattle.f11_vfy.specs.Reclaiming.Slots.{CountsUpTo, IsOrphan, IsIdle, none}
use Rattle.f11_vfy.specs.Reclaiming.Steps.{IsShown, HasKilledUpTo, KillsOrphans, FailsToKillOrphans, IsSwept, HasClearedUpTo, ClearsIdle}
use Rattle.f11_vfy.specs.Reclaiming.Steps.{FailsToClear, IsTold, IsChangedBlock, FreesUnnamed, FailsToFree}
use Rattle.f11_vfy.specs.Reclaiming.Whole.{Costs, GoesOn, GivesBack, IsReadAs}
use Rattle.f11_vfy.specs.Surveying.Bits.{has, limit_of}
use Rattle.f11_vfy.specs.declared.findings.kept.Kept.{Kept}
use Rattle.f11_vfy.specs.declared.findings.reading.Reading.{Reading}
use Rattle.f11_vfy.specs.declared.survey.bits.Bits.{Bits}
use Rattle.f11_vfy.proofs.Reclaiming.Course.{shown-so, slot-count, swept-so, idle-was, was-idle, told-so, places-two, reclaimed-so}
use Rattle.f11_vfy.proofs.Reclaiming.Places.{reclaiming-then}
use Rattle.f11_vfy.proofs.Reclaiming.Storage.{counts-same, counts-since, storage-then}

module _ (index : Index) (bitmap : Bitmap) (r : Reading) (kept : Kept) (before : Bits) (d0 : Disk) where
  abbrev K : HomeFields → Image → Type 0
  K = IsReadAs index bitmap r kept

  abbrev P : Image → Type 0
  P = Moment K d0

  costs : (home : HomeFields) → K home d0.image → (new : Image) (n orphans m idle blocks changed faults most : ℕ)
      → CountsUpTo (IsOrphan (table_of d0.image home)) n orphans → n ≤ slots index → CountsUpTo (IsIdle (table_of d0.image home)) m idle
      → m ≤ slots index
      → CountsUpTo (IsChangedBlock bitmap d0.image new) blocks changed → blocks ≤ length bitmap.places
      → most ≤ orphans + idle + changed + faults → Costs home d0.image new 0 faults most
  costs home is new n orphans m idle blocks changed faults most orphans_are low idle_are high changed_are within few =
      let count = slot-count index bitmap r kept home d0.image is in
      let size = ap (λ (b : Bitmap). length b.places) is.frame.bitmap_is in
      record {
        orphan_slots = n;
        orphans = orphans;
        orphans_are = orphans_are;
        orphans_within = omega (arith, low, count);
        idle_slots = m;
        idle = idle;
        idle_are = idle_are;
        idle_within = omega (arith, high, count);
        bitmap_blocks = blocks;
        changed = changed;
        changed_are = subst (λ (b : Bitmap). CountsUpTo (IsChangedBlock b d0.image new) blocks changed) is.frame.bitmap_is changed_are;
        changed_within = omega (arith, within, size);
        few = omega (arith, few);
      }

  -- no orphan was killed, or not all
  pub fails-first : (d1 : Disk) → FailsToKillOrphans index r kept.extensions (slots index) d0 d1 → GoesOn K (λ home. 0) d0 d1 1
  fails-first d1 fails = record {
    most = fails.count;
    few = λ honest home is.
        costs home is d1.image fails.upto fails.count 0 0 0 0 1 fails.count
        (fails.counts honest home (shown-so index bitmap r kept home d0.image is)) fails.within none (omega arith) none (omega arith)
        (omega arith);
    went = went_weaker (Moment (IsShown index r kept.extensions) d0) P
        (λ image stands honest home is. stands honest home (shown-so index bitmap r kept home d0.image is)) fails.went;
  }

  module _ (unreferenced : Bits) (d1 : Disk) (one : KillsOrphans index r kept.extensions (slots index) before unreferenced d0 d1) where
    went-one : Went P d0 d1 one.count 0
    went-one =
        went_weaker (Moment (IsShown index r kept.extensions) d0) P
        (λ image stands honest home is. stands honest home (shown-so index bitmap r kept home d0.image is)) one.went

    so-one : (home : HomeFields) → IsTrue d0.honest → K home d0.image
        → HasKilledUpTo (slots index) before unreferenced home d0.image d1.image
    so-one home honest is = one.kills honest home (shown-so index bitmap r kept home d0.image is)

    swept : (home : HomeFields) → (honest : IsTrue d0.honest) → K home d0.image → IsSwept index r home d1.image
    swept home honest is = swept-so index bitmap r kept home d0.image is before unreferenced d1.image (so-one home honest is)

    still-one : IsTrue d0.honest → IsTrue d1.honest
    still-one honest = one.went.honest ∙ honest

    stands-two : (image : Image) → Moment (IsSwept index r) d1 image → P image
    stands-two image stands honest home is =
        reclaiming-then home d0.image d1.image image (so-one home honest is).places (stands (still-one honest) home (swept home honest is))

    idle-count : (home : HomeFields) (honest : IsTrue d0.honest) (is : K home d0.image) (n count : ℕ)
        → CountsUpTo (IsIdle (table_of d1.image home)) n count
        → CountsUpTo (IsIdle (table_of d0.image home)) n count
    idle-count home honest is n count =
        counts-same (IsIdle (table_of d1.image home)) (IsIdle (table_of d0.image home)) n count
        (λ m low. idle-was index bitmap r kept home d0.image is before unreferenced d1.image (so-one home honest is) (m + 1))
        (λ m low. was-idle index bitmap r kept home d0.image is before unreferenced d1.image (so-one home honest is) (m + 1))

    orphan-count : (home : HomeFields) → IsTrue d0.honest → K home d0.image
        → CountsUpTo (IsOrphan (table_of d0.image home)) (slots index) one.count
    orphan-count home honest is = one.counts honest home (shown-so index bitmap r kept home d0.image is)

    -- all were; not all idle slots left use
    pub fails-second : (d2 : Disk) → FailsToClear index r (slots index) d1 d2 → GoesOn K (λ home. 0) d0 d2 1
    fails-second d2 fails = record {
      most = one.count + fails.count;
      few = λ honest home is.
          costs home is d2.image (slots index) one.count fails.upto fails.count 0 0 1 (one.count + fails.count)
          (orphan-count home honest is) (omega arith)
          (idle-count home honest is fails.upto fails.count (fails.counts (still-one honest) home (swept home honest is))) fails.within
          none (omega arith) (omega arith);
      went = went_more P went-one (went_weaker (Moment (IsSwept index r) d1) P stands-two fails.went);
    }

    module _ (after : Index) (d2 : Disk) (two : ClearsIdle index r (slots index) after d1 d2) (empty : (k : ℕ) → has before k ≡ false)
        (limit : limit_of before ≡ bitmap.size) where
      so-two : (home : HomeFields) → IsTrue d0.honest → K home d0.image → HasClearedUpTo (slots index) after home d1.image d2.image
      so-two home honest is = two.clears (still-one honest) home (swept home honest is)

      told : (home : HomeFields) → IsTrue d0.honest → K home d0.image
          → IsTold bitmap r.free r.survey.tally.once unreferenced kept.last home d2.image
      told home honest is =
          told-so index bitmap r kept home d0.image is before unreferenced d1.image (so-one home honest is) after d2.image
          (so-two home honest is) empty limit

      still-two : IsTrue d0.honest → IsTrue d2.honest
      still-two honest = two.went.honest ∙ still-one honest

      stands-three : (image : Image) → Moment (IsTold bitmap r.free r.survey.tally.once unreferenced kept.last) d2 image → P image
      stands-three image stands honest home is =
          reclaiming-then home d0.image d2.image image
          (places-two index bitmap r kept home d0.image is before unreferenced d1.image (so-one home honest is) after d2.image
          (so-two home honest is))
          (stands (still-two honest) home (told home honest is))

      -- no block of the storage bitmap was changed so far
      storage-two : (home : HomeFields) → IsTrue d0.honest → K home d0.image → KeepsBitmap bitmap d0.image d2.image
      storage-two home honest is =
          subst (λ (b : Bitmap). KeepsBitmap b d0.image d2.image) (sym is.frame.bitmap_is)
          (storage-then d0.image d1.image d2.image home (so-one home honest is).places.bitmap (so-one home honest is).storage
          (so-two home honest is).storage)

      -- some of them were then
      goes : (d3 : Disk) (faults blocks changed most : ℕ)
          → Went (Moment (IsTold bitmap r.free r.survey.tally.once unreferenced kept.last) d2) d2 d3 most faults
          → ((home : HomeFields) → IsTrue d2.honest → IsTold bitmap r.free r.survey.tally.once unreferenced kept.last home d2.image
          → CountsUpTo (IsChangedBlock bitmap d2.image d3.image) blocks changed)
          → blocks ≤ length bitmap.places → most ≤ changed + faults → GoesOn K (λ home. 0) d0 d3 faults
      goes d3 faults blocks changed most went counts within few = record {
        most = one.count + two.count + most;
        few = λ honest home is.
            costs home is d3.image (slots index) one.count (slots index) two.count blocks changed faults (one.count + two.count + most)
            (orphan-count home honest is) (omega arith)
            (idle-count home honest is (slots index) two.count (two.counts (still-one honest) home (swept home honest is))) (omega arith)
            (counts-since bitmap d0.image d2.image d3.image blocks changed within (storage-two home honest is)
            (counts home (still-two honest) (told home honest is))) within (omega (arith, few));
        went = went_more P (went_more P went-one (went_weaker (Moment (IsSwept index r) d1) P stands-two two.went))
            (went_weaker (Moment (IsTold bitmap r.free r.survey.tally.once unreferenced kept.last) d2) P stands-three went);
      }

      -- they did; not all blocks became free
      pub fails-third : (d3 : Disk) → FailsToFree bitmap r.free r.survey.tally.once unreferenced kept.last d2 d3
          → GoesOn K (λ home. 0) d0 d3 1
      fails-third d3 fails =
          goes d3 1 fails.upto fails.count (fails.count + 1) fails.went (λ home honest is. fails.counts honest home is)
          (omega (arith, fails.within)) (omega arith)

      -- they did
      pub gives-back : (d3 : Disk) → bitmap.size ≤ 4096 * length bitmap.places
          → FreesUnnamed bitmap r.free r.survey.tally.once unreferenced kept.last (length bitmap.places) d2 d3
          → GivesBack K (λ home. 0) d0 d3
      gives-back d3 covered three = record {
        reclaimed = λ honest home is.
            reclaimed-so index bitmap r kept home d0.image is before unreferenced d1.image (so-one home honest is) after d2.image
            (so-two home honest is) d3.image covered
            (three.frees (still-two honest) home (told home honest is));
        goes = goes d3 0 (length bitmap.places) three.count three.count three.went
            (λ home honest is. three.counts honest home is) (omega arith) (omega arith);
      }
