-- What the answer to a course tells of the volume that was asked, on any device, whatever the source is (profile).
use Rattle.std.specs.Prelude.{◌≡◌, ◌≢◌, true, false, IsTrue, Result, Err}
use Rattle.f11_dev.specs.declared.device.Device.{Ghosts}
use Rattle.f11_store.specs.declared.refusals.Refusal.{Refusal}
use Rattle.f11_store.specs.declared.refusals.Refusal.TheVariants.{Damaged}
use Rattle.f11_making.specs.files.Answers.{is_fatal, is_fault, is_refused}
use Rattle.f11_making.specs.fcp.Lists.{is_sound, store_of_volume}
use Rattle.f11_making.specs.fcp.Serving.{is_spent, state_in}
use Rattle.f11_making.specs.fcp.declared.volume.Volume.{Volume}
use Rattle.f11_making.specs.Asking.{Who, plain}
use Rattle.f11_making.specs.Carrying.{EndsAt}
use Rattle.f11_making.specs.Fares.{FaresAs}
use Rattle.f11_making.specs.Volume.{of_volume}
use Rattle.f11_copying.specs.Courses.{Course, Giving, Runs, both}
use Rattle.f11_copying.specs.Telling.{bare, is_whole}
use Rattle.f11_copying.specs.declared.fault.CopyFault.{CopyFault}
use Rattle.f11_copying.specs.declared.fault.CopyFault.TheVariants.{Files}

-- The course was run. A transfer of the volume failed exactly where a device fault is the answer, and none followed; where a device fault
-- or Damaged is the answer, it is of what was asked last, and on an honest disk, where nothing failed the volume before, Damaged is never;
-- and where the volume was sound and neither is the answer, the course was run over the plain store, with the same blocks of the source,
-- and the volume is sound still.
pub record CarriesCourse {D H T : Type 0} {met : Ghosts D} (K : Giving H) (who : Who) (p : Course (Result T CopyFault))
    (result : Result T CopyFault) (old new : Volume D met) (source source' : H) : Type 0
  where
    pub ran : Runs of_volume K who p result (both old source) (both new source')
    pub fares : FaresAs (is_refused is_fault (bare result)) (is_refused is_fatal (bare result)) old new
    pub ended : (e : Refusal) → result ≡ Err (Files e) → is_fatal e ≡ true → EndsAt of_volume who e old new
    pub undamaged : IsTrue (state_in old).disk.honest → is_spent old ≡ false → result ≢ Err (Files Damaged)
    pub goes : is_sound old ≡ true → is_whole result ≡ true
        → Runs plain K who p result (both (store_of_volume old) source) (both (store_of_volume new) source')
    pub stays : is_sound old ≡ true → is_whole result ≡ true → is_sound new ≡ true
