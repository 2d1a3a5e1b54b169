-- Nothing follows a device fault or Damaged in a copy from an RT-11 volume.
use Rattle.std.proofs.Common.{◌≡◌, inl, inr, ℕ, suc, ◌==◌, Bool, true, false, if◌then◌else◌, List, [], ◌∷◌, ◌++◌, All, refl, sym, ◌∙◌}
use Rattle.std.proofs.Common.{subst}
use Rattle.std.proofs.lemmas.List.Elements.{All-append, All-cons, All-nil}
use Rattle.f11_dev.specs.Disk.{Disk}
use Rattle.f11_dev.specs.declared.device.Device.{Ghosts}
use Rattle.f11_store.specs.Ident.{ident_with}
use Rattle.f11_store.specs.declared.files.FileId.{FileId}
use Rattle.f11_store.specs.declared.files.Mode.TheVariants as access
use Rattle.f11_store.specs.declared.refusals.Refusal.{Refusal}
use Rattle.f11_store.specs.declared.requests.Reply.TheVariants as reply
use Rattle.f11_store.specs.declared.requests.Request.{Request}
use Rattle.f11_store.specs.declared.requests.Request.TheVariants as request
use Rattle.f11_runs.proofs.AccessLemmas.{true-false}
use Rattle.rt11_volume.specs.declared.volume.RtAccepted.{RtAccepted}
use Rattle.f11_making.specs.Asking.{Asking, BreaksOffAsking, Denies, Fails, Granted, FilesService, Who, asks, told, writes}
use Rattle.f11_making.specs.Asking.{writes_of}
use Rattle.f11_making.specs.Making.{Making, as_file, creation, entry, opening}
use Rattle.f11_making.specs.Cleanly.{Cleanly}
use Rattle.f11_flx.specs.Ended.{Ends, EndsDenied, is_building}
use Rattle.f11_flx.specs.FromRt.{FailsToCopyFrom}
use Rattle.f11_flx.specs.Making.{AsksToFill, FailsToFillFromRt, FailsToFillOpened, FailsToMake, FillsFromRt, FillsOpened, IsBrokenOff}
use Rattle.f11_making.specs.Making.{extension, filling_of, is_created}
use Rattle.f11_flx.specs.Making.{Undoing, UndoingIf}
use Rattle.f11_flx.specs.Planning.{FailsToPlan}
use Rattle.f11_flx.specs.Refusal.{is_lethal}
use Rattle.f11_flx.specs.declared.mode.CopyMode.{CopyMode}
use Rattle.f11_flx.specs.declared.refusal.FlxRefusal.{FlxRefusal}
use Rattle.f11_flx.specs.declared.refusal.FlxRefusal.TheVariants.{BadRecord, Files, LineTooLong, Rt, Unread}
use Rattle.f11_making.proofs.AskingLemmas.{granted-append}
use Rattle.f11_making.proofs.CleanlyLemmas.{cleanly-all, cleanly-denied, cleanly-one, cleanly-then, tried-then}
use Rattle.f11_flx.proofs.FromRt.MakingLemmas.{asks-to-fill}

abbrev builds : Asking → Type 0
builds x = is_building x ≡ true

-- A copy that is refused so far: it ended, or went on cleanly.
record SoFar {V : Type 0} (S : FilesService V) (who : Who) (f : FlxRefusal) (v w : V) : Type 0 where
  pub ended : is_lethal f ≡ true → Ends S who f v w
  pub clean : is_lethal f ≡ false → Cleanly S who v w

module _ {V : Type 0} (S : FilesService V) (who : Who) where
  ends-then : (e : Refusal) (u v w : V) → Cleanly S who u v → EndsDenied S who e v w → EndsDenied S who e u w
  ends-then e u v w h k =
      record {
        asked = h.asked ++ k.asked;
        at = k.at;
        tried = tried-then S who h.asked k.asked u v k.at h.tried k.tried;
        last = k.last;
        is_last = k.is_last;
      }

  denied-so-far : (x : Asking) (e : Refusal) (v w : V) → Denies S who x e v w → SoFar S who (Files e) v w
  denied-so-far x e v w h = record {
    ended = λ lethal. record { asked = []; at = v; tried = refl; last = x; is_last = inl h };
    clean = λ clean. cleanly-denied S who x e v w clean h;
  }

  -- behind what was granted and undoes nothing
  built-then : (f : FlxRefusal) (xs : List Asking) (u v w : V) → All builds xs → Granted S who xs u v → SoFar S who f v w
      → SoFar S who f u w
  built-then f xs u v w all g h =
      record {
        ended = λ lethal. by f (h.ended lethal);
        clean = λ clean. cleanly-then S who u v w (cleanly-all S who xs u v g)
            (h.clean clean);
      }
    where
      by : (f : FlxRefusal) → Ends S who f v w → Ends S who f u w
      by (Files e) k = ends-then e u v w (cleanly-all S who xs u v g) k
      by (Rt e) k =
          record {
            asked = xs ++ k.asked;
            granted = granted-append S who xs k.asked u v w g k.granted;
            building = All-append builds xs k.asked all k.building;
          }
      by BadRecord k = tt
      by LineTooLong k = tt
      by Unread k = absurd k

  -- behind whatever went on cleanly, where the volume itself refuses
  cleanly-so-far : (e : Refusal) (u v w : V) → Cleanly S who u v → SoFar S who (Files e) v w → SoFar S who (Files e) u w
  cleanly-so-far e u v w h k =
      record { ended = λ lethal. ends-then e u v w h (k.ended lethal); clean = λ clean. cleanly-then S who u v w h (k.clean clean) }

  breaks-so-far : (xs : List Asking) (e : Refusal) (v w : V) → BreaksOffAsking S who xs e v w → SoFar S who (Files e) v w
  breaks-so-far [] e v w h = absurd h
  breaks-so-far (x ∷ xs) e v w (inl h) = denied-so-far x e v w h
  breaks-so-far (x ∷ xs) e v w (inr h) = cleanly-so-far e v h.0 w (cleanly-one S who x v h.0 h.1) (breaks-so-far xs e h.0 w h.2)

  undoing-so-far : (r : Request) (f f' : FlxRefusal) (u v w : V) → SoFar S who f u v → Undoing S who r f f' v w → SoFar S who f' u w
  undoing-so-far r f f' u v w h k = by (is_lethal f) refl k
    where
      chosen : (e : Refusal) (b : Bool) → is_lethal f ≡ false → is_lethal (Files e) ≡ b → Denies S who (asks r) e v w
          → SoFar S who (if b then Files e else f) u w
      chosen e true is lethal d = cleanly-so-far e u v w (h.clean is) (denied-so-far (asks r) e v w d)
      chosen e false is lethal d = record {
        ended = λ l. absurd (true-false (sym l ∙ is));
        clean = λ c. cleanly-then S who u v w (h.clean is) (cleanly-denied S who (asks r) e v w lethal d);
      }

      by : (b : Bool) → is_lethal f ≡ b → UndoingIf b S who r f f' v w → SoFar S who f' u w
      by true is k = subst (λ x. SoFar S who x u w) (sym k.0) (subst (λ x. SoFar S who f u x) (sym k.1) h)
      by false is (inl k) = subst (λ x. SoFar S who x u w) (sym k.same) (record {
        ended = λ l. absurd (true-false (sym l ∙ is));
        clean = λ c. cleanly-then S who u v w (h.clean is) (cleanly-one S who (asks r) v w k.granted);
      })
      by false is (inr k) = subst (λ x. SoFar S who x u w) (sym k.answer) (chosen k.e (is_lethal (Files k.e)) is refl k.denied)

  uncreated-so-far : (making : Making) (e : Refusal) (v w : V)
      → Fails S who is_created (request.Create 0 (ident_with making.name) making.attr) e v w → SoFar S who (Files e) v w
  uncreated-so-far making e v w (inl h) = denied-so-far (asks (request.Create 0 (ident_with making.name) making.attr)) e v w h
  uncreated-so-far making e v w (inr h) =
      let x : Asking = told (request.Create 0 (ident_with making.name) making.attr) h.0 in
      record {
        ended = λ lethal. record {
          asked = [];
          at = v;
          tried = refl;
          last = x;
          is_last = inr (request.Create 0 (ident_with making.name) making.attr, h.0, refl, h.1, h.2, h.3);
        };
        clean = λ clean. cleanly-one S who x v w h.3;
      }

module _ (lun : ℕ) where
  build-writes : (place : ℕ) (pieces : List (List ℕ)) → All builds (writes_of lun place pieces)
  build-writes place [] = All-nil builds
  build-writes place (b ∷ more) =
      All-cons builds (writes lun (suc place) b) (writes_of lun (suc place) more) refl (build-writes (suc place) more)

  build-extension : (n : ℕ) → All builds (extension lun n)
  build-extension n = by (n == 0)
    where
      by : (b : Bool) → All builds (if b then [] else asks (request.Extend lun n) ∷ [])
      by true = All-nil builds
      by false = All-cons builds (asks (request.Extend lun n)) [] refl (All-nil builds)

  build-opening : (id : FileId) → All builds (opening lun id)
  build-opening id = All-cons builds (asks (request.Access id access.Write lun)) [] refl (All-nil builds)

build-creation : (making : Making) (id : FileId) → All builds (creation making id)
build-creation making id =
    All-cons builds (told (request.Create 0 (ident_with making.name) making.attr) (reply.Created id)) [] refl (All-nil builds)

-- the making of a file from any source
module _ {V : Type 0} (S : FilesService V) (who : Who) (lun n : ℕ) where
  broken-so-far : (f : FlxRefusal) (v w : V) → IsBrokenOff S who lun n f v w → SoFar S who f v w
  broken-so-far (Files e) v w h = breaks-so-far S who (filling_of lun n h.0) e v w h.1
  broken-so-far (Rt e) v w h = record {
    ended = λ lethal. record {
      asked = extension lun n ++ writes_of lun 0 h.0;
      granted = h.1;
      building = All-append builds (extension lun n) (writes_of lun 0 h.0) (build-extension lun n) (build-writes lun 0 h.0);
    };
    clean = λ clean. cleanly-all S who (extension lun n ++ writes_of lun 0 h.0) v w h.1;
  }
  broken-so-far BadRecord v w h =
      record { ended = λ lethal. tt; clean = λ clean. cleanly-all S who (extension lun n ++ writes_of lun 0 h.0) v w h.1 }
  broken-so-far LineTooLong v w h =
      record { ended = λ lethal. tt; clean = λ clean. cleanly-all S who (extension lun n ++ writes_of lun 0 h.0) v w h.1 }
  broken-so-far Unread v w h =
      record { ended = λ lethal. absurd (cc); clean = λ clean. cleanly-all S who (extension lun n ++ writes_of lun 0 h.0) v w h.1 }

module _ {V H : Type 0} (S : FilesService V) (who : Who) (lun n : ℕ) (Fills : H → H → V → V → Type 0)
    (Fails : FlxRefusal → H → H → V → V → Type 0) (asking : AsksToFill S who lun n Fills Fails) where
  fill-file-so-far : (f : FlxRefusal) (id : FileId) (a b : H) (v w : V) → FailsToFillOpened S who lun Fails id f a b v w → SoFar S who f v w
  fill-file-so-far f id a b v w (inl h) =
      subst (λ x. SoFar S who x v w) (sym h.is) (denied-so-far S who (asks (request.Access id access.Write lun)) h.e v w h.denied)
  fill-file-so-far f id a b v w (inr h) =
      undoing-so-far S who (request.Deaccess lun) h.f f v h.left w
      (built-then S who h.f (opening lun id) v h.between h.left (build-opening lun id) h.opened
      (broken-so-far S who lun n h.f h.between h.left (asking.fails h.f a b h.between h.left h.fails))) h.undoes

  filled-cleanly : (id : FileId) (a b : H) (v w : V) → FillsOpened S who lun Fills id a b v w → Cleanly S who v w
  filled-cleanly id a b v w h =
      let all = asking.fills a b h.between w h.fills in
      cleanly-then S who v h.between w (cleanly-all S who (opening lun id) v h.between h.opened)
      (cleanly-all S who (filling_of lun n all.0) h.between w all.1)

  make-so-far : (f : FlxRefusal) (making : Making) (a b : H) (v w : V) → FailsToMake S who lun Fills Fails making f a b v w
      → SoFar S who f v w
  make-so-far f making a b v w (inl h) = subst (λ x. SoFar S who x v w) (sym h.is) (uncreated-so-far S who making h.e v w h.fails)
  make-so-far f making a b v w (inr (inl h)) =
      undoing-so-far S who (request.Delete h.id) h.f f v h.left w
      (built-then S who h.f (creation making h.id) v h.created h.left (build-creation making h.id) h.creates
      (fill-file-so-far h.f h.id a b h.created h.left h.fails)) h.undoes
  make-so-far f making a b v w (inr (inr h)) =
      undoing-so-far S who (request.Delete h.id) (Files h.e) f v h.left w
      (cleanly-so-far S who h.e v h.filled h.left
      (cleanly-then S who v h.created h.filled (cleanly-all S who (creation making h.id) v h.created h.creates)
      (filled-cleanly h.id a b h.created h.filled h.fills))
      (breaks-so-far S who (entry making h.id) h.e h.filled h.left h.breaks)) h.undoes

  pub making-ends : (f : FlxRefusal) (making : Making) (a b : H) (v w : V) → FailsToMake S who lun Fills Fails making f a b v w
      → is_lethal f ≡ true → Ends S who f v w
  making-ends f making a b v w h lethal = (make-so-far f making a b v w h).ended lethal

module _ {V E : Type 0} {met : Ghosts E} (S : FilesService V) (disk : E → Disk) (m : CopyMode) (who : Who) (lun : ℕ) (name : List ℕ) where
  plan-ends : (f : FlxRefusal) (a b : RtAccepted E met) (v : V) → FailsToPlan disk m name f a b → Ends S who f v v
  plan-ends (Files e) a b v h = absurd h
  plan-ends (Rt e) a b v h = record { asked = []; granted = refl; building = All-nil builds }
  plan-ends BadRecord a b v h = tt
  plan-ends LineTooLong a b v h = tt
  plan-ends Unread a b v h = absurd h

  pub copy-ends : (f : FlxRefusal) (dir : FileId) (to : List ℕ) (protection : ℕ) (a b : RtAccepted E met) (v w : V)
      → FailsToCopyFrom S disk m who lun name dir to protection f a b v w → is_lethal f ≡ true → Ends S who f v w
  copy-ends f dir to protection a b v w (inl h) lethal = subst (λ x. Ends S who f v x) (sym h.unasked) (plan-ends f a b v h.fails)
  copy-ends f dir to protection a b v w (inr h) lethal =
      making-ends S who lun h.blocks (FillsFromRt {met = met} S disk m who lun name h.many h.blocks)
      (FailsToFillFromRt {met = met} S disk m who lun name h.many h.blocks) (asks-to-fill S who lun {met = met} disk m name h.many h.blocks)
      f
      (as_file to dir protection h.attr []) h.between b v w (h.fails []) lethal
