-- Reclaiming behind what was read first.
use Rattle.std.proofs.Common.{◌≡◌, ◌+◌, ◌<◌, ◌≤◌, ℕ, IsTrue, sym, ap, subst, ◌∙◌, arith}
use Rattle.f11_bits.specs.Bitmap.{Bitmap}
use Rattle.f11_dev.specs.Disk.{Disk}
use Rattle.f11_dev.specs.Image.{Image, IsImage}
use Rattle.f11_dev.specs.Looked.{Looked}
use Rattle.f11_dev.proofs.LookedLemmas.{looked_more}
use Rattle.f11_dev.proofs.WentLemmas.{went_looked, went_more, went_weaker}
use Rattle.f11_home.specs.Home.{HomeFields}
use Rattle.f11_home.proofs.HomeLemmas.{home-unique}
use Rattle.f11_index.specs.IndexFile.{Index, index_of}
use Rattle.f11_index.specs.Table.{table_in}
use Rattle.f11_vfy.specs.Frames.Frame.{frame_reads, AreOf, ReadsFrame, FindsFrameFault}
use Rattle.f11_vfy.specs.Reclaiming.Moments.{IsReclaiming, Moment}
use Rattle.f11_vfy.specs.Reclaiming.Slots.{none}
use Rattle.f11_vfy.specs.Reclaiming.Whole.{IsSoundWith, HasReclaimed, Costs, GoesOn, GivesBack, LacksRoom, IsFrameOf, IsReadAs}
use Rattle.f11_vfy.specs.Reclaiming.Whole.{reclaim_reads, Reclaims}
use Rattle.f11_vfy.specs.Scanning.Kept.{HasKept, KeepsBlocks}
use Rattle.f11_vfy.specs.Scanning.Reading.{ShowsVolume, ReadsVolume, volume_in, most_read}
use Rattle.f11_vfy.specs.Surveying.Extensions.{IsToKeep}
use Rattle.f11_vfy.specs.declared.findings.kept.Kept.{Kept}
use Rattle.f11_vfy.specs.declared.findings.reading.Reading.{Reading}
use Rattle.f11_volume.specs.Space.{storage_bitmap}
use Rattle.f11_volume.specs.Verdict.{IsAccepted, of_frame}
use Rattle.f11_volume.specs.Volume.{volume_of}
use Rattle.f11_volume.proofs.AcceptedLemmas.{accepted-sound}

-- it was read no further
module _ (L : HomeFields → Image → Type 0) (reads : HomeFields → ℕ) (n : ℕ) (d0 d1 : Disk)
    (few : IsTrue d0.honest → (home : HomeFields) → L home d0.image → n ≤ reads home) where
  pub reads-failed : {faults : ℕ} → Looked d0 d1 n faults → GoesOn L reads d0 d1 faults
  reads-failed looked = record {
    most = n;
    few = λ honest home is.
        let enough = few honest home is in
        record {
          orphan_slots = 0;
          orphans = 0;
          orphans_are = none;
          orphans_within = omega arith;
          idle_slots = 0;
          idle = 0;
          idle_are = none;
          idle_within = omega arith;
          bitmap_blocks = 0;
          changed = 0;
          changed_are = none;
          changed_within = omega arith;
          few = omega (arith, enough);
        };
    went = went_looked (Moment L d0) looked;
  }

-- it was, and then more was done
module _ (K L : HomeFields → Image → Type 0) (less reads : HomeFields → ℕ) (n : ℕ) (d0 d1 d2 : Disk) (looked : Looked d0 d1 n 0)
    (known : IsTrue d0.honest → (home : HomeFields) → L home d0.image → K home d1.image)
    (few : IsTrue d0.honest → (home : HomeFields) → L home d0.image → n + less home ≤ reads home) where
  still : IsTrue d0.honest → IsTrue d1.honest
  still honest = looked.honest ∙ honest

  pub goes-behind : {faults : ℕ} → GoesOn K less d1 d2 faults → GoesOn L reads d0 d2 faults
  goes-behind {faults} goes = record {
    most = n + goes.most;
    few = λ honest home is.
        let enough = few honest home is in
        let costs : Costs home d0.image d2.image (less home) faults goes.most =
        subst (λ (i : Image). Costs home i d2.image (less home) faults goes.most) looked.image
        (goes.few (still honest) home (known honest home is)) in
        record {
          orphan_slots = costs.orphan_slots;
          orphans = costs.orphans;
          orphans_are = costs.orphans_are;
          orphans_within = costs.orphans_within;
          idle_slots = costs.idle_slots;
          idle = costs.idle;
          idle_are = costs.idle_are;
          idle_within = costs.idle_within;
          bitmap_blocks = costs.bitmap_blocks;
          changed = costs.changed;
          changed_are = costs.changed_are;
          changed_within = costs.changed_within;
          few = omega (arith, enough, costs.few);
        };
    went = went_more (Moment L d0) (went_looked (Moment L d0) looked)
        (went_weaker (Moment K d1) (Moment L d0)
        (λ image stands honest home is. subst (λ (i : Image). IsReclaiming home i image) looked.image
        (stands (still honest) home (known honest home is))) goes.went);
  }

  pub gives-behind : GivesBack K less d1 d2 → GivesBack L reads d0 d2
  gives-behind gives = record {
    reclaimed = λ honest home is. subst (λ (i : Image). HasReclaimed home i d2.image) looked.image
        (gives.reclaimed (still honest) home (known honest home is));
    goes = goes-behind gives.goes;
  }

  pub lacks-behind : LacksRoom K less d1 d2 → LacksRoom L reads d0 d2
  lacks-behind lacks = record {
    most = n + lacks.most;
    few = λ honest home is.
        let enough = few honest home is in
        let fewer = lacks.few (still honest) home (known honest home is) in
        omega (arith, enough, fewer);
    looked = looked_more looked lacks.looked;
  }

-- what was read of a volume is a reading of it, with what was kept
pub read-as : (index : Index) (bitmap : Bitmap) (r : Reading) (before kept : Kept) (d0 d1 : Disk) → ReadsVolume index bitmap r d0 d1
    → KeepsBlocks index bitmap d0 before kept → 0 < bitmap.size → IsToKeep before.extensions → IsTrue d0.honest
    → (home : HomeFields) → IsFrameOf index bitmap home d0.image
    → IsReadAs index bitmap r kept home d1.image
unfolding volume_of
read-as index bitmap r before kept d0 d1 reads keeps sized keep honest home is =
    subst (IsReadAs index bitmap r kept home) (sym reads.looked.image) (record {
      frame = is;
      shows = subst (λ (x : Index). ShowsVolume (volume_in d0.image x (storage_bitmap d0.image home)) r) is.index_is
          (subst (λ (b : Bitmap). ShowsVolume (volume_in d0.image index b) r) is.bitmap_is (reads.shows honest));
      has = subst (λ (x : Index). HasKept (table_in d0.image x) bitmap d0.image kept) is.index_is (keeps honest sized keep);
    })

-- the frame that was read is that of the volume
module _ (index : Index) (bitmap : Bitmap) (d0 d1 : Disk) (reads : ReadsFrame index bitmap d0 d1) where
  framed-at : IsTrue d0.honest → (home : HomeFields) → IsSoundWith home d0.image → AreOf d0.image home index bitmap
  framed-at honest home is =
      let are = reads.are honest in
      subst (λ (h : HomeFields). AreOf d0.image h index bitmap) (home-unique d0.image reads.home home are.framed.home_is is.framed.home_is)
      are

  pub frame-of : IsTrue d0.honest → (home : HomeFields) → IsSoundWith home d0.image → IsFrameOf index bitmap home d1.image
  frame-of honest home is =
      let are = framed-at honest home is in
      subst (IsFrameOf index bitmap home) (sym reads.looked.image)
      (record { sound = is; index_is = are.index_is; bitmap_is = are.bitmap_is })

  pub frame-cost : IsTrue d0.honest → (home : HomeFields) → IsSoundWith home d0.image
      → frame_reads d0 + most_read index bitmap ≤ reclaim_reads d0 home
  frame-cost honest home is =
      let are = framed-at honest home is in
      let same : most_read index bitmap ≡ most_read (index_of d0.image home) (storage_bitmap d0.image home) =
      ap (λ (x : Index). most_read x bitmap) are.index_is ∙ ap (most_read (index_of d0.image home)) are.bitmap_is in
      omega (arith, same)

-- no frame of an accepted image has a fault
pub no-fault : (code a : ℕ) (d0 d1 : Disk) → (IsTrue d0.honest → IsAccepted d0.image) → FindsFrameFault code a d0 d1 → Reclaims d0 d1
no-fault code a d0 d1 accepted finds = record {
  reclaimed = λ honest home is. absurd (accepted honest code a 0 (of_frame code a (finds.fault honest)));
  goes = reads-failed IsSoundWith (reclaim_reads d0) (frame_reads d0) d0 d1 (λ honest home is. omega arith) finds.looked;
}

-- what comes back is accepted
pub accepted-then : (d0 d1 : Disk) → IsImage d0.image → IsImage d1.image → (IsTrue d0.honest → IsAccepted d0.image) → Reclaims d0 d1
    → IsTrue d1.honest → IsAccepted d1.image
accepted-then d0 d1 was_image is_image accepted reclaims honest =
    let before : IsTrue d0.honest = sym reclaims.goes.went.honest ∙ honest in
    let sound = (accepted-sound d0.image was_image).0 (accepted before) in
    let now = reclaims.reclaimed before sound.home sound.volume in
    (accepted-sound d1.image is_image).1 (record { home = sound.home; volume = now.reclaiming.freeing.sound })
