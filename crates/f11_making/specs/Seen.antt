-- What answers, seen as the plain store (profile).
use Rattle.std.specs.Prelude.{◌≡◌, Bool, true, false}
use Rattle.f11_store.specs.Store.{Store}
use Rattle.f11_store.specs.declared.refusals.Refusal.{Refusal}
use Rattle.f11_fcp.specs.files.Answers.{is_fatal}
use Rattle.f11_making.specs.Asking.{Asking, Denies, Grants, FilesService, Who, plain}

-- What is granted by S is so by the plain store, where it is sound, which it stays; and what is denied, unless that is a device
-- fault or Damaged.
pub record IsSeenPlain {V : Type 0} (S : FilesService V) (view : V → Store) (is_sound : V → Bool) : Type 0 where
  pub granted : (who : Who) (x : Asking) (v w : V) → Grants S who x v w → is_sound v ≡ true →
      Grants plain who x (view v) (view w) × (is_sound w ≡ true)
  pub denied : (who : Who) (x : Asking) (e : Refusal) (v w : V) → Denies S who x e v w → is_sound v ≡ true → is_fatal e ≡ false →
      Denies plain who x e (view v) (view w) × (is_sound w ≡ true)
