-- A file that gets its attributes once it is filled is made in that order.
use Rattle.std.proofs.Common.{inl, inr, ℕ, List, ◌++◌, Option, Some, None, refl}
use Rattle.f11_store.specs.Ident.{ident_with}
use Rattle.f11_store.specs.declared.files.Change.{Change}
use Rattle.f11_store.specs.declared.files.Change.TheVariants as change
use Rattle.f11_store.specs.declared.files.FileId.{FileId}
use Rattle.f11_store.specs.declared.refusals.Refusal.{Refusal}
use Rattle.f11_store.specs.declared.requests.Request.TheVariants as request
use Rattle.f11_making.specs.Asking.{Fails, FilesService, Granted, Who}
use Rattle.f11_making.specs.Making.{Making, creation, entry, filling, naming, opening, stating}
use Rattle.f11_making.specs.AsksFor.{SetsPart}
use Rattle.f11_making.specs.Making.{is_created}
use Rattle.f11_flx.specs.Making.{AsksToFill, FailsToMake, FillsOpened, MakesFile}
use Rattle.f11_flx.specs.Stating.{AsksInOrder, IsFilling, IsFinishing, creating, finishing, unfinished}
use Rattle.f11_flx.specs.declared.refusal.FlxRefusal.{FlxRefusal}
use Rattle.f11_flx.specs.declared.refusal.FlxRefusal.TheVariants.{Files}
use Rattle.f11_making.proofs.AskingLemmas.{granted-append}
use Rattle.f11_flx.proofs.Made.TriedLemmas.{Only, TakesFilling, Tries, fill-file-tries, tries-breaks, tries-granted, tries-then}
use Rattle.f11_flx.proofs.Made.TriedLemmas.{tries-undoing}

pub filling-fills : (lun : ℕ) (id : FileId) → TakesFilling (IsFilling lun id) lun id
filling-fills lun id =
    record { accesses = (refl, refl, refl); extends = λ n. refl; writes-one = λ vbn block. refl; gives-up = refl }

only-finishing : {V : Type 0} (S : FilesService V) (who : Who) (making : Making) (id : FileId)
    → Only S (IsFinishing making id) who (entry making id)
only-finishing {V} S who making id = by making.stated (λ c is. is)
  where
    by : (o : Option (List ℕ)) → ((c : Change) → SetsPart making.protection o c → SetsPart making.protection making.stated c)
        → Only S (IsFinishing making id) who (stating o id ++ naming making id)
    by None sets = ((refl, refl, refl), ((refl, sets (change.Protect making.protection) refl), tt))
    by (Some attr) sets = (
      (refl, sets (change.Attr attr) (inr refl)),
      ((refl, refl, refl), ((refl, sets (change.Protect making.protection) (inl refl)), tt)),
    )

-- it wasn't created
uncreated : {V : Type 0} (S : FilesService V) (who : Who) (lun : ℕ) (making : Making) (AreSuch : List (List ℕ) → Type 0) (e : Refusal)
    (v w : V) → Fails S who is_created (request.Create 0 (ident_with making.name) making.attr) e v w
    → AsksInOrder S who lun making AreSuch v w
uncreated S who lun making AreSuch e v w (inl h) = creating (w, inr (e, h), refl)
uncreated S who lun making AreSuch e v w (inr h) = creating (w, inl (h.3.0, h.0, h.3.1, h.3.2), refl)

-- the making of a file from any source, filled with blocks that are such
module _ {V H : Type 0} (S : FilesService V) (who : Who) (lun n : ℕ) (Fills : H → H → V → V → Type 0)
    (Fails : FlxRefusal → H → H → V → V → Type 0) (asking : AsksToFill S who lun n Fills Fails) (making : Making)
    (AreSuch : List (List ℕ) → Type 0) (a b : H)
    (such : (x y : V) → Fills a b x y → (pieces : List (List ℕ)) × (AreSuch pieces) × Granted S who (filling lun pieces) x y) where
  -- it was filled, and finished or deleted
  filled-then : (id : FileId) (u v w x : V) → Granted S who (creation making id) u v → FillsOpened S who lun Fills id a b v w
      → Tries S (IsFinishing making id) who w x → AsksInOrder S who lun making AreSuch u x
  filled-then id u v w x creates fills rest =
      let k = such fills.between w fills.fills in
      finishing (record {
        id = id;
        pieces = k.0;
        are_such = k.1;
        filled = w;
        fills = granted-append S who (creation making id) (opening lun id ++ filling lun k.0) u v w creates
            (granted-append S who (opening lun id) (filling lun k.0) v fills.between w fills.opened k.2);
        asked = rest.asked;
        tried = rest.tried;
        only = rest.only;
      })

  pub made-in-order : (v w : V) → MakesFile S who lun Fills making a b v w → AsksInOrder S who lun making AreSuch v w
  made-in-order v w h =
      filled-then h.id v h.created h.filled w h.creates h.fills
      (tries-granted S (IsFinishing making h.id) who (entry making h.id) h.filled w (only-finishing S who making h.id) h.enters)

  pub unmade-in-order : (f : FlxRefusal) (v w : V) → FailsToMake S who lun Fills Fails making f a b v w
      → AsksInOrder S who lun making AreSuch v w
  unmade-in-order f v w (inl h) = uncreated S who lun making AreSuch h.e v w h.fails
  unmade-in-order f v w (inr (inl h)) =
      let rest = tries-then S (IsFilling lun h.id) who h.created h.left w
      (fill-file-tries S (IsFilling lun h.id) who lun h.id (filling-fills lun h.id) n Fills Fails asking h.f a b h.created h.left h.fails)
      (tries-undoing S (IsFilling lun h.id) who (request.Delete h.id) h.f f h.left w refl h.undoes) in
      unfinished (record {
        id = h.id;
        created = h.created;
        creates = h.creates;
        asked = rest.asked;
        tried = rest.tried;
        only = rest.only;
      })
  unmade-in-order f v w (inr (inr h)) =
      filled-then h.id v h.created h.filled w h.creates h.fills
      (tries-then S (IsFinishing making h.id) who h.filled h.left w
      (tries-breaks S (IsFinishing making h.id) who (entry making h.id) h.e h.filled h.left (only-finishing S who making h.id)
      h.breaks)
      (tries-undoing S (IsFinishing making h.id) who (request.Delete h.id) (Files h.e) f h.left w refl h.undoes))
