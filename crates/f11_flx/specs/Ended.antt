-- What was asked where a device fault or Damaged ended a copy between two volumes: nothing follows it (profile).
use Rattle.std.specs.Prelude.{◌≡◌, ◌⊎◌, ⊤, Bool, true, false, List, All}
use Rattle.f11_store.specs.declared.refusals.Refusal.{Refusal}
use Rattle.f11_store.specs.declared.refusals.Refusal.TheVariants.{Damaged}
use Rattle.f11_store.specs.declared.requests.Reply.{Reply}
use Rattle.f11_store.specs.declared.requests.Request.{Request}
use Rattle.f11_store.specs.declared.requests.Request.TheVariants as request
use Rattle.f11_making.specs.Asking.{Asking, Denies, Granted, Grants, FilesService, Who, asks, counts, reads, told, writes}
use Rattle.f11_making.specs.Making.{is_created}
use Rattle.f11_making.specs.Cleanly.{TriedCleanly}
use Rattle.f11_flx.specs.Source.{is_attr}
use Rattle.f11_flx.specs.declared.refusal.FlxRefusal.{FlxRefusal}
use Rattle.f11_flx.specs.declared.refusal.FlxRefusal.TheVariants as refusal

-- whether a request may have such a reply
abbrev pub is_reply_to : Request → Reply → Bool
is_reply_to (request.Create protection ident attr) a = is_created a
is_reply_to (request.ReadAttr id) a = is_attr a
is_reply_to _ a = true

-- it was refused so, or had a reply of another kind, as no honest device gives
abbrev pub IsLast : {V : Type 0} → FilesService V → Who → Asking → Refusal → V → V → Type 0
IsLast S who x e old new =
    (Denies S who x e old new)
    ⊎ ((r : Request) × (a : Reply) × (x ≡ told r a) × (is_reply_to r a ≡ false) × (e ≡ Damaged) × Grants S who x old new)

-- The volume's refusal is of what was asked last.
pub record EndsDenied {V : Type 0} (S : FilesService V) (who : Who) (e : Refusal) (old new : V) : Type 0 where
  pub asked : List Asking
  pub at : V
  pub tried : TriedCleanly S who asked old at
  pub last : Asking
  pub is_last : IsLast S who last e at new

-- what makes a file, and undoes nothing
abbrev pub is_building_request : Request → Bool
is_building_request (request.Create protection ident attr) = true
is_building_request (request.Access id mode lun) = true
is_building_request (request.Extend lun n) = true
is_building_request _ = false

abbrev pub is_building : Asking → Bool
is_building (asks r) = is_building_request r
is_building (told r reply) = is_building_request r
is_building (reads lun vbn block) = false
is_building (writes lun vbn block) = true
is_building (counts lun blocks) = false

-- A transfer failed on the other volume: all that was asked was granted, and nothing was given up or deleted.
pub record EndsUnread {V : Type 0} (S : FilesService V) (who : Who) (old new : V) : Type 0 where
  pub asked : List Asking
  pub granted : Granted S who asked old new
  pub building : All (λ x. is_building x ≡ true) asked

-- how a copy from an RT-11 volume ends by a refusal that is a device fault or Damaged
abbrev pub Ends : {V : Type 0} → FilesService V → Who → FlxRefusal → V → V → Type 0
Ends S who (refusal.Files e) old new = EndsDenied S who e old new
Ends S who (refusal.Rt e) old new = EndsUnread S who old new
Ends S who refusal.BadRecord old new = ⊤
Ends S who refusal.LineTooLong old new = ⊤
Ends S who refusal.Unread old new = ⊥
