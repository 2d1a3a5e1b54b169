-- A copy that isn't made, seen as the plain store: all is as before.
use Rattle.std.proofs.Common.{◌≡◌, ◌⊎◌, inl, inr, ℕ, suc, ◌==◌, Bool, true, false, if◌then◌else◌, List, [], ◌∷◌, ◌++◌, None, refl, sym, ap}
use Rattle.std.proofs.Common.{◌∙◌, subst, arith}
use Rattle.f11_store.specs.Accesses.{FreeIsEmpty}
use Rattle.f11_store.specs.Store.{Store}
use Rattle.f11_store.specs.declared.files.FileId.{FileId}
use Rattle.f11_store.specs.declared.refusals.Refusal.{Refusal}
use Rattle.f11_store.specs.declared.requests.Request.{Request}
use Rattle.f11_store.specs.declared.requests.Request.TheVariants as request
use Rattle.f11_runs.specs.Standing.{AccessesStand}
use Rattle.f11_runs.proofs.AccessLemmas.{true-false}
use Rattle.f11_making.specs.Asking.{Asking, BreaksOffAsking, Denies, Granted, Grants, FilesService, Who, asks, plain, writes_of}
use Rattle.f11_making.specs.AsBefore.{IsAsBefore, as_it_was}
use Rattle.f11_making.specs.Making.{giving_up}
use Rattle.f11_making.specs.Making.{extension, filling_of}
use Rattle.f11_flx.specs.Making.{Undoing, UndoingIf}
use Rattle.f11_flx.specs.Refusal.{is_lethal}
use Rattle.f11_flx.specs.declared.refusal.FlxRefusal.{FlxRefusal}
use Rattle.f11_flx.specs.declared.refusal.FlxRefusal.TheVariants.{Files}
use Rattle.f11_making.proofs.AskingLemmas.{breaks-parts, granted-parts}
use Rattle.f11_flx.proofs.Made.NewLemmas.{IsNewIn, IsOpenIn, closed, deleted, extended, undenied-deaccess, undenied-delete, written}
use Rattle.f11_making.specs.Seen.{IsSeenPlain}

pub as-before : (s : Store) → IsAsBefore s s
as-before s = record {
  added = 0;
  file = λ n other. refl;
  index = as_it_was refl refl;
  free = omega arith;
  slots = omega arith;
  in_use = λ n. refl;
  last = λ n used within. refl;
  access = λ task lun. refl;
  bitmap_blocks = refl;
  index_bitmap_blocks = refl;
  limit = refl;
}

-- What undoes something was asked cleanly: it was granted, and the refusal is what it was, or it was refused, but for no device fault or
-- Damaged.
pub record IsCleanUndoing {V : Type 0} (S : FilesService V) (who : Who) (r : Request) (f f' : FlxRefusal) (v w : V) : Type 0 where
  pub clean : is_lethal f ≡ false
  pub same : f' ≡ f
  pub asked : (Grants S who (asks r) v w) ⊎ ((e : Refusal) × (is_lethal (Files e) ≡ false) × Denies S who (asks r) e v w)

pub clean-undoing : {V : Type 0} (S : FilesService V) (who : Who) (r : Request) (f f' : FlxRefusal) (v w : V) → is_lethal f' ≡ false
    → Undoing S who r f f' v w → IsCleanUndoing S who r f f' v w
clean-undoing S who r f f' v w clean h = by (is_lethal f) refl h
  where
    by : (b : Bool) → is_lethal f ≡ b → UndoingIf b S who r f f' v w → IsCleanUndoing S who r f f' v w
    by true is h = absurd (true-false (sym is ∙ ap is_lethal (sym h.0) ∙ clean))
    by false is (inl h) = record { clean = is; same = h.same; asked = inl h.granted }
    by false is (inr h) = by_answer (is_lethal (Files h.e)) refl h.answer
      where
        by_answer : (b : Bool) → is_lethal (Files h.e) ≡ b → f' ≡ (if b then Files h.e else f) → IsCleanUndoing S who r f f' v w
        by_answer true lethal answer = absurd (true-false (sym lethal ∙ ap is_lethal (sym answer) ∙ clean))
        by_answer false calm answer = record { clean = is; same = answer; asked = inr (h.e, calm, h.denied) }

module _ {V : Type 0} (S : FilesService V) (view : V → Store) (is_sound : V → Bool) (seen : IsSeenPlain S view is_sound) (who : Who) where
  -- where those before one were granted, and it was refused, the service is sound
  pub breaks-sound : (xs : List Asking) (e : Refusal) (v w : V) → BreaksOffAsking S who xs e v w → is_sound v ≡ true
      → is_lethal (Files e) ≡ false → BreaksOffAsking plain who xs e (view v) (view w) × (is_sound w ≡ true)
  breaks-sound [] e v w h sound clean = absurd h
  breaks-sound (x ∷ xs) e v w (inl h) sound clean = let one = seen.denied who x e v w h sound clean in (inl one.0, one.1)
  breaks-sound (x ∷ xs) e v w (inr h) sound clean =
      let one = seen.granted who x v h.0 h.1 sound in
      let rest = breaks-sound xs e h.0 w h.2 one.1 clean in
      (inr (view h.0, one.0, rest.0), rest.1)

-- a file that is being filled stays so, whatever is granted
module _ (who : Who) (lun : ℕ) (id : FileId) (s : Store) where
  pub writes-stay : (place : ℕ) (pieces : List (List ℕ)) (t u : Store) → IsOpenIn who.caller id s who lun t
      → Granted plain who (writes_of lun place pieces) t u → IsOpenIn who.caller id s who lun u
  writes-stay place [] t u h g = subst (λ x. IsOpenIn who.caller id s who lun x) (sym g) h
  writes-stay place (block ∷ more) t u h g =
      writes-stay (suc place) more g.0 u (written who.caller id s who lun (suc place) block t g.0 h g.1) g.2

  pub extension-stays : (n : ℕ) (t u : Store) → IsOpenIn who.caller id s who lun t → Granted plain who (extension lun n) t u
      → IsOpenIn who.caller id s who lun u
  extension-stays n t u h = by (n == 0)
    where
      by : (b : Bool) → Granted plain who (if b then [] else asks (request.Extend lun n) ∷ []) t u → IsOpenIn who.caller id s who lun u
      by true g = subst (λ x. IsOpenIn who.caller id s who lun x) (sym g) h
      by false g = subst (λ x. IsOpenIn who.caller id s who lun x) (sym g.2) (extended who.caller id s who lun n t g.0 h g.1)

  pub filled-stays : (n : ℕ) (pieces : List (List ℕ)) (t u : Store) → IsOpenIn who.caller id s who lun t
      → Granted plain who (extension lun n ++ writes_of lun 0 pieces) t u → IsOpenIn who.caller id s who lun u
  filled-stays n pieces t u h g =
      let parts = granted-parts plain who (extension lun n) (writes_of lun 0 pieces) t u g in
      writes-stay 0 pieces parts.0 u (extension-stays n t parts.0 h parts.1) parts.2

  writes-break : (place : ℕ) (pieces : List (List ℕ)) (e : Refusal) (t u : Store) → IsOpenIn who.caller id s who lun t
      → BreaksOffAsking plain who (writes_of lun place pieces) e t u → IsOpenIn who.caller id s who lun u
  writes-break place [] e t u h b = absurd b
  writes-break place (block ∷ more) e t u h (inl d) = subst (λ x. IsOpenIn who.caller id s who lun x) (sym d.1.store_stays) h
  writes-break place (block ∷ more) e t u h (inr b) =
      writes-break (suc place) more e b.0 u (written who.caller id s who lun (suc place) block t b.0 h b.1) b.2

  extension-breaks : (n : ℕ) (e : Refusal) (t u : Store) → IsOpenIn who.caller id s who lun t
      → BreaksOffAsking plain who (extension lun n) e t u → IsOpenIn who.caller id s who lun u
  extension-breaks n e t u h = by (n == 0)
    where
      by : (b : Bool) → BreaksOffAsking plain who (if b then [] else asks (request.Extend lun n) ∷ []) e t u
          → IsOpenIn who.caller id s who lun u
      by true b = absurd b
      by false (inl d) = subst (λ x. IsOpenIn who.caller id s who lun x) (sym d.2.store_stays) h
      by false (inr b) = absurd b.2

  -- so it does where something is refused
  pub filling-breaks : (n : ℕ) (pieces : List (List ℕ)) (e : Refusal) (t u : Store) → IsOpenIn who.caller id s who lun t
      → BreaksOffAsking plain who (filling_of lun n pieces) e t u → IsOpenIn who.caller id s who lun u
  filling-breaks n pieces e t u h b = by (breaks-parts plain who (extension lun n) (writes_of lun 0 pieces ++ giving_up lun) e t u b)
    where
      last : (v : Store) → IsOpenIn who.caller id s who lun v → BreaksOffAsking plain who (giving_up lun) e v u
          → IsOpenIn who.caller id s who lun u
      last v k (inl d) = absurd (undenied-deaccess who.caller id s who lun v u e k d)
      last v k (inr c) = absurd c.2

      more : (v : Store) → IsOpenIn who.caller id s who lun v →
          (BreaksOffAsking plain who (writes_of lun 0 pieces) e v u)
          ⊎ ((w : Store) × (Granted plain who (writes_of lun 0 pieces) v w) × (BreaksOffAsking plain who (giving_up lun) e w u))
          → IsOpenIn who.caller id s who lun u
      more v k (inl c) = writes-break 0 pieces e v u k c
      more v k (inr c) = last c.0 (writes-stay 0 pieces v c.0 k c.1) c.2

      by : (BreaksOffAsking plain who (extension lun n) e t u)
          ⊎ ((w : Store) × (Granted plain who (extension lun n) t w)
          × (BreaksOffAsking plain who (writes_of lun 0 pieces ++ giving_up lun) e w u)) → IsOpenIn who.caller id s who lun u
      by (inl c) = extension-breaks n e t u h c
      by (inr c) = more c.0 (extension-stays n t c.0 h c.1) (breaks-parts plain who (writes_of lun 0 pieces) (giving_up lun) e c.0 u c.2)

  -- and it is closed when it was filled
  pub filled-closed : (n : ℕ) (pieces : List (List ℕ)) (t u : Store) → s.access who.task lun ≡ None → IsOpenIn who.caller id s who lun t
      → Granted plain who (filling_of lun n pieces) t u → IsNewIn who.caller id s.access s u
  filled-closed n pieces t u free h g =
      let parts = granted-parts plain who (extension lun n) (writes_of lun 0 pieces ++ giving_up lun) t u g in
      let rest = granted-parts plain who (writes_of lun 0 pieces) (giving_up lun) parts.0 u parts.2 in
      let open-in = writes-stay 0 pieces parts.0 rest.0 (extension-stays n t parts.0 h parts.1) rest.1 in
      subst (λ x. IsNewIn who.caller id s.access s x) (sym rest.2.2) (closed who.caller id s who lun rest.0 rest.2.0 free open-in rest.2.1)

module _ {V : Type 0} (S : FilesService V) (view : V → Store) (is_sound : V → Bool) (seen : IsSeenPlain S view is_sound) (who : Who)
    (lun : ℕ) (s : Store) (tidy : FreeIsEmpty s) (stand : AccessesStand s) where
  -- deleting a new file isn't refused, and all is as before then
  pub undone-delete : (id : FileId) (f f' : FlxRefusal) (v w : V) → is_sound v ≡ true → IsNewIn who.caller id s.access s (view v)
      → IsCleanUndoing S who (request.Delete id) f f' v w →
      Grants plain who (asks (request.Delete id)) (view v) (view w) × IsAsBefore s (view w)
  undone-delete id f f' v w sound h u = by u.asked
    where
      by : (Grants S who (asks (request.Delete id)) v w)
          ⊎ ((e : Refusal) × (is_lethal (Files e) ≡ false) × Denies S who (asks (request.Delete id)) e v w) →
          Grants plain who (asks (request.Delete id)) (view v) (view w) × IsAsBefore s (view w)
      by (inl g) =
          let one = (seen.granted who (asks (request.Delete id)) v w g sound).0 in
          (one, deleted who.caller id s who (view v) (view w) tidy stand h one)
      by (inr d) =
          absurd (undenied-delete who.caller id s who (view v) (view w) d.0 refl stand h
          (seen.denied who (asks (request.Delete id)) d.0 v w d.2 sound d.1).0)

  -- nor is giving up a file that is accessed
  pub undone-access : (id : FileId) (f f' : FlxRefusal) (v w : V) → is_sound v ≡ true → s.access who.task lun ≡ None
      → IsOpenIn who.caller id s who lun (view v) → IsCleanUndoing S who (request.Deaccess lun) f f' v w →
      Grants plain who (asks (request.Deaccess lun)) (view v) (view w) × IsNewIn who.caller id s.access s (view w) × (is_sound w ≡ true)
  undone-access id f f' v w sound free h u = by u.asked
    where
      by : (Grants S who (asks (request.Deaccess lun)) v w)
          ⊎ ((e : Refusal) × (is_lethal (Files e) ≡ false) × Denies S who (asks (request.Deaccess lun)) e v w) →
          Grants plain who (asks (request.Deaccess lun)) (view v) (view w) × IsNewIn who.caller id s.access s (view w) × (is_sound w ≡ true)
      by (inl g) =
          let one = seen.granted who (asks (request.Deaccess lun)) v w g sound in
          (one.0, closed who.caller id s who lun (view v) (view w) free h one.0, one.1)
      by (inr d) =
          absurd (undenied-deaccess who.caller id s who lun (view v) (view w) d.0 h
          (seen.denied who (asks (request.Deaccess lun)) d.0 v w d.2 sound d.1).0)
