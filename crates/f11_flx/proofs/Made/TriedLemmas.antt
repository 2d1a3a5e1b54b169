-- Lists of what was asked, granted or refused.
use Rattle.std.proofs.Common.{inl, inr, ℕ, suc, ◌==◌, Bool, true, false, if◌then◌else◌, List, [], ◌∷◌, ◌++◌, All, Option, Some, None, refl}
use Rattle.std.proofs.Common.{sym}
use Rattle.std.proofs.Common.{subst}
use Rattle.std.proofs.lemmas.List.Elements.{All-append, All-cons, All-nil}
use Rattle.f11_dev.specs.Disk.{Disk}
use Rattle.f11_dev.specs.declared.device.Device.{Ghosts}
use Rattle.f11_store.specs.Ident.{ident_with}
use Rattle.f11_store.specs.declared.files.FileId.{FileId}
use Rattle.f11_store.specs.declared.files.Mode.TheVariants as access
use Rattle.f11_store.specs.declared.refusals.Refusal.{Refusal}
use Rattle.f11_store.specs.declared.requests.Reply.TheVariants as reply
use Rattle.f11_store.specs.declared.requests.Request.{Request}
use Rattle.f11_store.specs.declared.requests.Request.TheVariants as request
use Rattle.rt11_volume.specs.declared.volume.RtAccepted.{RtAccepted}
use Rattle.f11_making.specs.Asking.{Asking, BreaksOffAsking, Denies, Fails, Granted, Grants, FilesService, Tried, Who, asks, told}
use Rattle.f11_making.specs.Asking.{writes, writes_of}
use Rattle.f11_making.specs.Making.{Making, as_file, creation, entry, giving_up, naming, opening, stating}
use Rattle.f11_making.specs.AsksFor.{AsksForFile, IsMakingOf, creation as created-alone, making as made-one, nothing as unasked}
use Rattle.f11_flx.specs.FromRt.{CopiesFrom, FailsToCopyFrom}
use Rattle.f11_flx.specs.Making.{AsksToFill, FailsToFillFromRt, FailsToFillOpened, FailsToMake, FillsFromRt, FillsOpened, IsBrokenOff}
use Rattle.f11_making.specs.Making.{extension, filling_of, is_created}
use Rattle.f11_flx.specs.Making.{MakesFile, Undoing, UndoingIf}
use Rattle.f11_flx.specs.Refusal.{is_lethal}
use Rattle.f11_flx.specs.declared.mode.CopyMode.{CopyMode}
use Rattle.f11_flx.specs.declared.refusal.FlxRefusal.{FlxRefusal}
use Rattle.f11_flx.specs.declared.refusal.FlxRefusal.TheVariants.{BadRecord, Files, LineTooLong, Rt, Unread}
use Rattle.f11_flx.proofs.FromRt.MakingLemmas.{asks-to-fill}

-- Only such things were asked, one after another, whatever was answered.
pub record Tries {V : Type 0} (S : FilesService V) (P : Asking → Type 0) (who : Who) (v w : V) : Type 0 where
  pub asked : List Asking
  pub tried : Tried S who asked v w
  pub only : All P asked

module _ {V : Type 0} (S : FilesService V) (P : Asking → Type 0) (who : Who) where
  pub tries-none : (v : V) → Tries S P who v v
  tries-none v = record { asked = []; tried = refl; only = All-nil P }

  tried-then : (xs ys : List Asking) (u v w : V) → Tried S who xs u v → Tried S who ys v w → Tried S who (xs ++ ys) u w
  tried-then [] ys u v w h k = subst (λ x. Tried S who ys x w) h k
  tried-then (x ∷ xs) ys u v w h k = (h.0, h.1, tried-then xs ys h.0 v w h.2 k)

  pub tries-then : (u v w : V) → Tries S P who u v → Tries S P who v w → Tries S P who u w
  tries-then u v w h k = record {
    asked = h.asked ++ k.asked;
    tried = tried-then h.asked k.asked u v w h.tried k.tried;
    only = All-append P h.asked k.asked h.only k.only;
  }

  pub tries-grant : (x : Asking) (v w : V) → P x → Grants S who x v w → Tries S P who v w
  tries-grant x v w is h =
      record { asked = x ∷ []; tried = (w, inl h, refl); only = All-cons P x [] is (All-nil P) }

  pub tries-deny : (x : Asking) (e : Refusal) (v w : V) → P x → Denies S who x e v w → Tries S P who v w
  tries-deny x e v w is h =
      record {
        asked = x ∷ [];
        tried = (w, inr (e, h), refl);
        only = All-cons P x [] is (All-nil P);
      }

  -- each of a list is one of these
  abbrev pub Only : List Asking → Type 0
  Only [] = Unit {0}
  Only (x ∷ xs) = (P x) × Only xs

  pub only-both : (xs ys : List Asking) → Only xs → Only ys → Only (xs ++ ys)
  only-both [] ys h k = k
  only-both (x ∷ xs) ys h k = (h.0, only-both xs ys h.1 k)

  pub tries-granted : (xs : List Asking) (v w : V) → Only xs → Granted S who xs v w → Tries S P who v w
  tries-granted [] v w o h = subst (λ x. Tries S P who v x) (sym h) (tries-none v)
  tries-granted (x ∷ xs) v w o h = tries-then v h.0 w (tries-grant x v h.0 o.0 h.1) (tries-granted xs h.0 w o.1 h.2)

  pub tries-breaks : (xs : List Asking) (e : Refusal) (v w : V) → Only xs → BreaksOffAsking S who xs e v w → Tries S P who v w
  tries-breaks [] e v w o h = absurd h
  tries-breaks (x ∷ xs) e v w o (inl h) = tries-deny x e v w o.0 h
  tries-breaks (x ∷ xs) e v w o (inr h) = tries-then v h.0 w (tries-grant x v h.0 o.0 h.1) (tries-breaks xs e h.0 w o.1 h.2)

  pub tries-undoing : (r : Request) (f f' : FlxRefusal) (v w : V) → P (asks r) → Undoing S who r f f' v w
      → Tries S P who v w
  tries-undoing r f f' v w is h = by (is_lethal f) h
    where
      by : (b : Bool) → UndoingIf b S who r f f' v w → Tries S P who v w
      by true h = subst (λ x. Tries S P who v x) (sym h.1) (tries-none v)
      by false (inl h) = tries-grant (asks r) v w is h.granted
      by false (inr h) = tries-deny (asks r) h.e v w is h.denied

-- a file was to be made, from any source: what was asked was for it alone
abbrev pub AsksFor : {V : Type 0} → FilesService V → Who → ℕ → Making → V → V → Type 0
AsksFor S who lun making v w = AsksForFile S who lun making.directory making.name making.protection making.stated v w

-- what was asked then, one thing after another
pub asked-for-one : {V : Type 0} (S : FilesService V) (who : Who) (lun : ℕ) (dir : FileId) (to : List ℕ) (protection : ℕ)
    (stated : Option (List ℕ)) (v w : V) → AsksForFile S who lun dir to protection stated v w
    → (asked : List Asking) × Tried S who asked v w
asked-for-one S who lun dir to protection stated v w (unasked same) = ([], same)
asked-for-one S who lun dir to protection stated v w (created-alone r is tried) = (asks r ∷ [], tried)
asked-for-one S who lun dir to protection stated v w (made-one m) =
    (told m.request (reply.Created m.id) ∷ m.asked, (m.created, inl m.granted, m.tried))

-- The requests that fill a file, and give it up, are such.
pub record TakesFilling (P : Asking → Type 0) (lun : ℕ) (id : FileId) : Type 0 where
  pub accesses : P (asks (request.Access id access.Write lun))
  pub extends : (n : ℕ) → P (asks (request.Extend lun n))
  pub writes-one : (vbn : ℕ) (block : List ℕ) → P (writes lun vbn block)
  pub gives-up : P (asks (request.Deaccess lun))

module _ {V : Type 0} (S : FilesService V) (P : Asking → Type 0) (who : Who) (lun : ℕ) (id : FileId) (own : TakesFilling P lun id) where
  only-writes : (place : ℕ) (pieces : List (List ℕ)) → Only S P who (writes_of lun place pieces)
  only-writes place [] = tt
  only-writes place (b ∷ more) = (own.writes-one (suc place) b, only-writes (suc place) more)

  only-extension : (n : ℕ) → Only S P who (extension lun n)
  only-extension n = by (n == 0)
    where
      by : (b : Bool) → Only S P who (if b then [] else asks (request.Extend lun n) ∷ [])
      by true = tt
      by false = (own.extends n, tt)

  only-front : (n : ℕ) (pieces : List (List ℕ)) → Only S P who (extension lun n ++ writes_of lun 0 pieces)
  only-front n pieces = only-both S P who (extension lun n) (writes_of lun 0 pieces) (only-extension n) (only-writes 0 pieces)

  pub only-filling : (n : ℕ) (pieces : List (List ℕ)) → Only S P who (filling_of lun n pieces)
  only-filling n pieces =
      only-both S P who (extension lun n) (writes_of lun 0 pieces ++ giving_up lun) (only-extension n)
      (only-both S P who (writes_of lun 0 pieces) (giving_up lun) (only-writes 0 pieces) (own.gives-up, tt))

  pub open-tries : (v w : V) → Granted S who (opening lun id) v w → Tries S P who v w
  open-tries v w h = tries-granted S P who (opening lun id) v w (own.accesses, tt) h

  broken-tries : (n : ℕ) (f : FlxRefusal) (v w : V) → IsBrokenOff S who lun n f v w → Tries S P who v w
  broken-tries n (Files e) v w h = tries-breaks S P who (filling_of lun n h.0) e v w (only-filling n h.0) h.1
  broken-tries n (Rt e) v w h = tries-granted S P who (extension lun n ++ writes_of lun 0 h.0) v w (only-front n h.0) h.1
  broken-tries n BadRecord v w h = tries-granted S P who (extension lun n ++ writes_of lun 0 h.0) v w (only-front n h.0) h.1
  broken-tries n LineTooLong v w h = tries-granted S P who (extension lun n ++ writes_of lun 0 h.0) v w (only-front n h.0) h.1
  broken-tries n Unread v w h = tries-granted S P who (extension lun n ++ writes_of lun 0 h.0) v w (only-front n h.0) h.1

  -- from any source
  module _ {H : Type 0} (n : ℕ) (Fills : H → H → V → V → Type 0) (Fails : FlxRefusal → H → H → V → V → Type 0)
      (asking : AsksToFill S who lun n Fills Fails) where
    pub filled-tries : (a b : H) (v w : V) → FillsOpened S who lun Fills id a b v w → Tries S P who v w
    filled-tries a b v w h =
        let all = asking.fills a b h.between w h.fills in
        tries-then S P who v h.between w (open-tries v h.between h.opened)
        (tries-granted S P who (filling_of lun n all.0) h.between w (only-filling n all.0) all.1)

    pub fill-file-tries : (f : FlxRefusal) (a b : H) (v w : V) → FailsToFillOpened S who lun Fails id f a b v w → Tries S P who v w
    fill-file-tries f a b v w (inl h) = tries-deny S P who (asks (request.Access id access.Write lun)) h.e v w own.accesses h.denied
    fill-file-tries f a b v w (inr h) =
        tries-then S P who v h.between w (open-tries v h.between h.opened)
        (tries-then S P who h.between h.left w (broken-tries n h.f h.between h.left (asking.fails h.f a b h.between h.left h.fails))
        (tries-undoing S P who (request.Deaccess lun) h.f f h.left w own.gives-up h.undoes))

-- what makes the file fills it, and more
module _ (lun : ℕ) (making : Making) (id : FileId) where
  abbrev P : Asking → Type 0
  P = IsMakingOf lun making.directory making.name making.protection making.stated id

  making-fills : TakesFilling P lun id
  making-fills = record {
    accesses = (refl, refl, refl);
    extends = λ n. refl;
    writes-one = λ vbn block. refl;
    gives-up = refl;
  }

  only-entry : {V : Type 0} (S : FilesService V) (who : Who) → Only S P who (entry making id)
  only-entry {V} S who = by making.stated
    where
      by : (o : Option (List ℕ)) → Only S (IsMakingOf lun making.directory making.name making.protection o id) who
          (stating o id ++ naming making id)
      by None = ((refl, refl, refl), ((refl, refl), tt))
      by (Some attr) = ((refl, inr refl), ((refl, refl, refl), ((refl, inl refl), tt)))

-- it was created first, or not
module _ {V : Type 0} (S : FilesService V) (who : Who) (lun : ℕ) (making : Making) where
  created-first : (id : FileId) (u v w : V) → Granted S who (creation making id) u v → Tries S (P lun making id) who v w
      → AsksFor S who lun making u w
  created-first id u v w h rest = made-one (record {
    request = request.Create 0 (ident_with making.name) making.attr;
    creates = (refl, refl);
    id = id;
    created = h.0;
    granted = h.1;
    asked = rest.asked;
    only = rest.only;
    tried = subst (λ (x : V). Tried S who rest.asked x w) h.2 rest.tried;
  })

  not-created : (e : Refusal) (v w : V) → Fails S who is_created (request.Create 0 (ident_with making.name) making.attr) e v w
      → AsksFor S who lun making v w
  not-created e v w (inl h) = created-alone (request.Create 0 (ident_with making.name) making.attr) (refl, refl) (w, inr (e, h), refl)
  not-created e v w (inr h) =
      created-alone (request.Create 0 (ident_with making.name) making.attr) (refl, refl) (w, inl (h.3.0, h.0, h.3.1, h.3.2), refl)

-- the making of a file from any source
module _ {V H : Type 0} (S : FilesService V) (who : Who) (lun n : ℕ) (Fills : H → H → V → V → Type 0)
    (Fails : FlxRefusal → H → H → V → V → Type 0) (asking : AsksToFill S who lun n Fills Fails) (making : Making) where
  filled : (id : FileId) (a b : H) (v w : V) → FillsOpened S who lun Fills id a b v w → Tries S (P lun making id) who v w
  filled id = filled-tries S (P lun making id) who lun id (making-fills lun making id) n Fills Fails asking

  pub made-tries : (a b : H) (v w : V) → MakesFile S who lun Fills making a b v w → AsksFor S who lun making v w
  made-tries a b v w h =
      created-first S who lun making h.id v h.created w h.creates
      (tries-then S (P lun making h.id) who h.created h.filled w (filled h.id a b h.created h.filled h.fills)
      (tries-granted S (P lun making h.id) who (entry making h.id) h.filled w (only-entry lun making h.id S who) h.enters))

  pub unmade-tries : (f : FlxRefusal) (a b : H) (v w : V) → FailsToMake S who lun Fills Fails making f a b v w
      → AsksFor S who lun making v w
  unmade-tries f a b v w (inl h) = not-created S who lun making h.e v w h.fails
  unmade-tries f a b v w (inr (inl h)) =
      created-first S who lun making h.id v h.created w h.creates
      (tries-then S (P lun making h.id) who h.created h.left w
      (fill-file-tries S (P lun making h.id) who lun h.id (making-fills lun making h.id) n Fills Fails asking h.f a b h.created h.left
      h.fails)
      (tries-undoing S (P lun making h.id) who (request.Delete h.id) h.f f h.left w refl h.undoes))
  unmade-tries f a b v w (inr (inr h)) =
      created-first S who lun making h.id v h.created w h.creates
      (tries-then S (P lun making h.id) who h.created h.filled w (filled h.id a b h.created h.filled h.fills)
      (tries-then S (P lun making h.id) who h.filled h.left w
      (tries-breaks S (P lun making h.id) who (entry making h.id) h.e h.filled h.left (only-entry lun making h.id S who) h.breaks)
      (tries-undoing S (P lun making h.id) who (request.Delete h.id) (Files h.e) f h.left w refl h.undoes)))

-- nothing was asked
pub none-for-one : {V : Type 0} (S : FilesService V) (who : Who) (lun : ℕ) (making : Making) (v : V) → AsksFor S who lun making v v
none-for-one S who lun making v = unasked refl

module _ {V E : Type 0} {met : Ghosts E} (S : FilesService V) (disk : E → Disk) (m : CopyMode) (who : Who) (lun : ℕ) (name : List ℕ)
    (dir : FileId) (to : List ℕ) (protection : ℕ) (a b : RtAccepted E met) (v w : V) where
  pub copies-tries : (blocks : ℕ) → CopiesFrom S disk m who lun name dir to protection blocks a b v w
      → AsksFor S who lun (as_file to dir protection [] []) v w
  copies-tries blocks h =
      made-tries S who lun blocks (FillsFromRt {met = met} S disk m who lun name h.many blocks)
      (FailsToFillFromRt {met = met} S disk m who lun name h.many blocks)
      (asks-to-fill S who lun {met = met} disk m name h.many blocks) (as_file to dir protection h.attr []) h.between b v w (h.makes [])

  pub fails-tries : (f : FlxRefusal) → FailsToCopyFrom S disk m who lun name dir to protection f a b v w
      → AsksFor S who lun (as_file to dir protection [] []) v w
  fails-tries f (inl h) =
      subst (λ x. AsksFor S who lun (as_file to dir protection [] []) v x) (sym h.unasked)
      (none-for-one S who lun (as_file to dir protection [] []) v)
  fails-tries f (inr h) =
      unmade-tries S who lun h.blocks (FillsFromRt {met = met} S disk m who lun name h.many h.blocks)
      (FailsToFillFromRt {met = met} S disk m who lun name h.many h.blocks) (asks-to-fill S who lun {met = met} disk m name h.many h.blocks)
      (as_file to dir protection h.attr []) f h.between b v w (h.fails [])
