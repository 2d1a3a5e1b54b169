-- What answers, seen as the plain store.
use Rattle.std.proofs.Common.{◌≡◌, inl, inr, ℕ, Bool, true, false, List, [], ◌∷◌, ◌++◌, refl, sym, ap, subst}
use Rattle.f11_store.specs.Store.{Store}
use Rattle.f11_store.specs.declared.files.Attr.{Attr}
use Rattle.f11_store.specs.declared.files.FileId.{FileId}
use Rattle.f11_store.specs.declared.files.Mode.TheVariants as mode
use Rattle.f11_store.specs.declared.refusals.Refusal.{Refusal}
use Rattle.f11_store.specs.declared.requests.Reply.TheVariants as reply
use Rattle.f11_store.specs.declared.requests.Request.TheVariants as request
use Rattle.f11_making.specs.Asking.{Asking, BreaksOffAsking, Granted, Grants, FilesService, Who, asks, counts, plain, reads_of, told}
use Rattle.f11_flx.specs.CopyToRt.{reading}
use Rattle.f11_making.specs.Seen.{IsSeenPlain}
use Rattle.f11_flx.specs.Refusal.{is_lethal}
use Rattle.f11_flx.specs.declared.refusal.FlxRefusal.TheVariants.{Files}
use Rattle.f11_making.proofs.AskingLemmas.{granted-append}

module _ {V : Type 0} (S : FilesService V) (view : V → Store) (is_sound : V → Bool) (seen : IsSeenPlain S view is_sound) (who : Who) where
  pub granted-seen : (xs : List Asking) (v w : V) → Granted S who xs v w → is_sound v ≡ true
      → Granted plain who xs (view v) (view w) × (is_sound w ≡ true)
  granted-seen [] v w h sound = (ap view h, subst (λ x. is_sound x ≡ true) (sym h) sound)
  granted-seen (x ∷ xs) v w h sound =
      let one = seen.granted who x v h.0 h.1 sound in
      let rest = granted-seen xs h.0 w h.2 one.1 in
      ((view h.0, one.0, rest.0), rest.1)

  pub breaks-seen : (xs : List Asking) (e : Refusal) (v w : V) → BreaksOffAsking S who xs e v w → is_sound v ≡ true
      → is_lethal (Files e) ≡ false → BreaksOffAsking plain who xs e (view v) (view w)
  breaks-seen [] e v w h sound clean = absurd h
  breaks-seen (x ∷ xs) e v w (inl h) sound clean = inl (seen.denied who x e v w h sound clean).0
  breaks-seen (x ∷ xs) e v w (inr h) sound clean =
      let one = seen.granted who x v h.0 h.1 sound in inr (view h.0, one.0, breaks-seen xs e h.0 w h.2 one.1 clean)

-- a reading put together
pub reading-all : {V : Type 0} (S : FilesService V) (who : Who) (lun : ℕ) (file : FileId) (of : Attr) (n : ℕ)
    (walked copied : List (List ℕ)) (a b c d e f : V) →
    Grants S who (asks (request.Access file mode.Locked lun)) a b
    → Granted S who (told (request.ReadAttr file) (reply.Attr of) ∷ counts lun n ∷ []) b c →
    Granted S who (reads_of lun 0 walked) c d → Granted S who (reads_of lun 0 copied) d e → Grants S who (asks (request.Deaccess lun)) e f →
    Granted S who (reading file lun of n walked copied) a f
reading-all S who lun file of n walked copied a b c d e f opens tells walks copies closes =
    let last = granted-append S who (reads_of lun 0 copied) (asks (request.Deaccess lun) ∷ []) d e f copies (f, closes, refl) in
    let behind = granted-append S who (reads_of lun 0 walked) (reads_of lun 0 copied ++ asks (request.Deaccess lun) ∷ []) c d f walks last
    in (
      b,
      opens,
      granted-append S who (told (request.ReadAttr file) (reply.Attr of) ∷ counts lun n ∷ [])
          (reads_of lun 0 walked ++ (reads_of lun 0 copied ++ asks (request.Deaccess lun) ∷ [])) b c f tells behind,
    )
