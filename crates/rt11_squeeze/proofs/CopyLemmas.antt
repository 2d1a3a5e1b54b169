-- A copy of a file that is made.
use Rattle.std.proofs.Common.{◌≡◌, ◌≢◌, ℕ, false, List, [], length, Err, refl, sym, ◌∙◌, ap, arith}
use Rattle.f11_dev.specs.Disk.{Disk}
use Rattle.f11_dev.specs.Image.{Image}
use Rattle.f11_dev.specs.Looked.{Looked}
use Rattle.f11_dev.specs.Went.{Went}
use Rattle.f11_dev.specs.declared.device.Device.{Ghosts}
use Rattle.f11_dev.proofs.WentLemmas.{went_more, went_weaker}
use Rattle.rt11_volume.specs.Calls.{AnswersRt, has_failed}
use Rattle.rt11_volume.specs.Files.{CreatesFile, FailsToCreate, KeepsFiles, is_fault}
use Rattle.rt11_volume.specs.Laws.{HasMade}
use Rattle.rt11_volume.specs.RtName.{IsRtName}
use Rattle.rt11_volume.specs.Store.{rt_store_of}
use Rattle.rt11_volume.specs.Verifying.Verdict.{IsSoundDisk}
use Rattle.rt11_volume.specs.declared.refusal.RtRefusal.{RtRefusal}
use Rattle.rt11_volume.specs.declared.volume.RtAccepted.{RtAccepted}
use Rattle.rt11_volume.proofs.Named.Laws.{created-made}
use Rattle.rt11_squeeze.specs.Blocks.{FailsToWrite, SparesOthers, WritesBlocks, blocks_transfers}
use Rattle.rt11_squeeze.specs.Copying.{Copies, FailsToCopy, copy_transfers}
use Rattle.rt11_squeeze.specs.Kept.{SparesFiles, volume_disk, volume_store}
use Rattle.rt11_squeeze.specs.Rooms.{areas_listed, room_in}
use Rattle.rt11_squeeze.proofs.CallLemmas.{unfailed-of}
use Rattle.rt11_squeeze.proofs.RoomLemmas.{made-there}
use Rattle.rt11_squeeze.proofs.StandLemmas.{behind-stand, carried-stand, data-behind, others-carried, same-behind}

-- what stands while a file is made or deleted
pub files-spare : (old : Disk) (image : Image) → KeepsFiles old image → SparesFiles old image
files-spare old image keeps s = behind-stand old.image image s.accepted (data-behind old.image image (keeps s))

module _ {D : Type 0} {met : Ghosts D} (disk : D → Disk) (name : List ℕ) (day count : ℕ) (old : RtAccepted D met) where
  -- the file wasn't made
  pub copy-unmade : (e : RtRefusal) (few : ℕ) (new : RtAccepted D met) → has_failed old ≡ false → AnswersRt {T = Unit} disk (Err e) old new
      → FailsToCreate e name count (volume_disk disk old)
      → (is_fault e ≡ false → Looked (volume_disk disk old) (volume_disk disk new) few 0)
      → FailsToCopy name count e (volume_disk disk old) (volume_disk disk new)
  copy-unmade e few new fresh a why kept = record {
    fresh = unfailed-of {T = Unit} disk e old new a fresh;
    why = λ s none. why;
    stays = λ s none. (kept none).image;
  }

  pub create-went : (faults : ℕ) (new : RtAccepted D met)
      → Went (KeepsFiles (volume_disk disk old)) (volume_disk disk old) (volume_disk disk new) 70 faults
      → Went (SparesFiles (volume_disk disk old)) (volume_disk disk old) (volume_disk disk new) 70 faults
  create-went faults new went =
      went_weaker (KeepsFiles (volume_disk disk old)) (SparesFiles (volume_disk disk old)) (files-spare (volume_disk disk old)) went

  module _ (made : RtAccepted D met) (named : IsRtName name)
      (went : Went (KeepsFiles (volume_disk disk old)) (volume_disk disk old) (volume_disk disk made) 70 0)
      (creates : IsSoundDisk (volume_disk disk old)
      → CreatesFile name count day (volume_disk disk old).image (volume_disk disk made).image) where
    has-made : IsSoundDisk (volume_disk disk old) → HasMade name count day (volume_store disk old) (volume_store disk made)
    has-made s = created-made name count day (volume_disk disk old).image (volume_disk disk made).image named (creates s)

    made-sound : IsSoundDisk (volume_disk disk old) → IsSoundDisk (volume_disk disk made)
    made-sound s = record { honest = went.honest ∙ s.honest; accepted = (creates s).accepted }

    -- what stands while its blocks are written
    others-spare : (image : Image) → SparesOthers name (volume_disk disk made) image → SparesFiles (volume_disk disk old) image
    others-spare image spares s =
        let m = has-made s in
        let o = spares (made-sound s) in
        carried-stand (volume_store disk old) (rt_store_of image) image
        (others-carried name (volume_store disk old) (rt_store_of image) m.none
        (λ other apart. o.1 other apart ∙ m.others other apart))
        (behind-stand image image o.0 (same-behind image image refl))

    pub copy-went : (faults : ℕ) (new : RtAccepted D met)
        → Went (SparesOthers name (volume_disk disk made)) (volume_disk disk made) (volume_disk disk new) (blocks_transfers count) faults
        → Went (SparesFiles (volume_disk disk old)) (volume_disk disk old) (volume_disk disk new) (copy_transfers count) faults
    copy-went faults new more =
        went_more (SparesFiles (volume_disk disk old)) (create-went 0 made went)
        (went_weaker (SparesOthers name (volume_disk disk made)) (SparesFiles (volume_disk disk old)) others-spare more)

    pub copies : (blocks : List (List ℕ)) (new : RtAccepted D met) → length blocks ≡ count
        → (IsSoundDisk (volume_disk disk made) → IsSoundDisk (volume_disk disk new))
        → (IsSoundDisk (volume_disk disk made) → WritesBlocks name blocks (volume_store disk made) (volume_store disk new))
        → Copies name day blocks (volume_disk disk old) (volume_disk disk new)
    copies blocks new size sound written = record {
      sound = λ s. sound (made-sound s);
      copy = λ s.
          let m = has-made s in
          let w = written (made-sound s) in
          record {
            file = record m.file { contents = blocks };
            none = m.none;
            one = w.named m.file [] m.one (m.blocks_are ∙ sym size);
            place = ap (room_in (areas_listed (volume_store disk old))) size
                ∙ made-there name count day (volume_disk disk old).image (volume_disk disk made).image s.accepted named (creates s) m.file
                m.one;
            blocks_are = refl;
            date_is = m.date_is;
            unprotected = m.unprotected;
            others = λ other apart. w.others other apart ∙ m.others other apart;
          };
    }

    pub copy-unwritten : (e : RtRefusal) (new : RtAccepted D met) → FailsToWrite name count e (volume_disk disk made)
        → FailsToCopy name count e (volume_disk disk old) (volume_disk disk new)
    copy-unwritten e new fails = record {
      fresh = fails.fresh;
      why = λ s none. absurd (never s none);
      stays = λ s none. absurd (never s none);
    }
      where
        never : IsSoundDisk (volume_disk disk old) → is_fault e ≢ false
        never s =
            let m = has-made s in
            fails.why (made-sound s) (record { file = m.file; more = []; named = m.one; few = omega (arith, m.blocks_are) })
