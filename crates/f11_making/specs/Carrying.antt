-- What the answer to a plan tells of the volume that was asked, on any device: the same for each (profile).
use Rattle.std.specs.Prelude.{◌≡◌, ◌≢◌, Bool, true, false, IsTrue, List, Result, Err}
use Rattle.f11_dev.specs.declared.device.Device.{Ghosts}
use Rattle.f11_store.specs.declared.refusals.Refusal.{Refusal}
use Rattle.f11_store.specs.declared.refusals.Refusal.TheVariants.{Damaged}
use Rattle.f11_store.specs.declared.requests.Request.{Request}
use Rattle.f11_store.specs.declared.requests.Request.TheVariants as request
use Rattle.f11_fcp.specs.files.Answers.{is_fatal, is_fault, is_refused}
use Rattle.f11_fcp.specs.Lists.{is_sound, store_of_volume}
use Rattle.f11_fcp.specs.Serving.{is_spent, state_in}
use Rattle.f11_fcp.specs.declared.volume.Volume.{Volume}
use Rattle.f11_making.specs.Asking.{FilesService, Who, plain}
use Rattle.f11_making.specs.Cleanly.{AskedCleanly}
use Rattle.f11_making.specs.Fares.{FaresAs}
use Rattle.f11_making.specs.FilesPlan.{Asks, Carried, FilesPlan, Question, counts, describes, done, names, names_for, reads, writes}
use Rattle.f11_making.specs.Telling.{is_whole}
use Rattle.f11_making.specs.Volume.{of_volume}

-- requests whose reply names a file
abbrev pub names_one : Request → Bool
names_one (request.Create protection ident attr) = true
names_one (request.Find dir name) = true
names_one _ = false

-- a question which file a reply names is of a request whose reply names one
abbrev pub IsFitting : Question → Type 0
IsFitting (done r) = Unit {0}
IsFitting (names r) = names_one r ≡ true
IsFitting (names_for user r) = names_one r ≡ true
IsFitting (describes id) = Unit {0}
IsFitting (counts lun) = Unit {0}
IsFitting (reads lun vbn) = Unit {0}
IsFitting (writes lun vbn block) = Unit {0}

-- The refusal is of what was asked last, and all before it was granted, or refused, though not as a device fault or Damaged.
pub record EndsAt {V : Type 0} (S : FilesService V) (who : Who) (e : Refusal) (old new : V) : Type 0 where
  pub asked : List Question
  pub at : V
  pub before : AskedCleanly S who asked old at
  pub last : Question
  pub fits : IsFitting last
  pub refused : Asks S who last (Err e) at new

-- The plan was carried out. A transfer failed exactly where a device fault is the answer, and none followed, as in `FaresAs`; where a
-- device fault or Damaged is the answer, it is of what was asked last, and on an honest disk, where nothing failed the volume before,
-- Damaged is never; and where the volume was sound and neither is the answer, the plan went over the plain store, and the volume is sound
-- still.
pub record Carries {D T : Type 0} {met : Ghosts D} (who : Who) (p : FilesPlan (Result T Refusal)) (result : Result T Refusal)
    (old new : Volume D met) : Type 0 where
  pub carried : Carried of_volume who p result old new
  pub fares : FaresAs (is_refused is_fault result) (is_refused is_fatal result) old new
  pub ended : (e : Refusal) → result ≡ Err e → is_fatal e ≡ true → EndsAt of_volume who e old new
  pub undamaged : IsTrue (state_in old).disk.honest → is_spent old ≡ false → result ≢ Err Damaged
  pub goes : is_sound old ≡ true → is_whole result ≡ true → Carried plain who p result (store_of_volume old) (store_of_volume new)
  pub stays : is_sound old ≡ true → is_whole result ≡ true → is_sound new ≡ true
