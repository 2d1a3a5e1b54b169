-- A copy that is refused over a sound volume, seen as the plain store.
use Rattle.std.proofs.Common.{◌≡◌, ◌⊎◌, inl, inr, ℕ, ◌<◌, Bool, true, false, List, [], ◌++◌, length, None, Some, refl, sym, ap, ◌∙◌, subst}
use Rattle.std.proofs.Common.{arith}
use Rattle.f11_dev.specs.Disk.{Disk}
use Rattle.f11_dev.specs.declared.device.Device.{Ghosts}
use Rattle.f11_store.specs.Accesses.{FreeIsEmpty}
use Rattle.f11_store.specs.Ident.{ident_with}
use Rattle.f11_store.specs.Store.{Store}
use Rattle.f11_store.specs.declared.files.FileId.{FileId}
use Rattle.f11_store.specs.declared.files.Mode.TheVariants as access
use Rattle.f11_store.specs.declared.refusals.Refusal.{Refusal}
use Rattle.f11_store.specs.declared.requests.Request.TheVariants as request
use Rattle.f11_runs.specs.Standing.{AccessesStand}
use Rattle.f11_runs.proofs.AccessLemmas.{true-false}
use Rattle.rt11_volume.specs.Files.{file_area}
use Rattle.rt11_volume.specs.Verifying.Verdict.{IsSoundDisk}
use Rattle.rt11_volume.specs.declared.refusal.RtRefusal.{RtRefusal}
use Rattle.rt11_volume.specs.declared.volume.RtAccepted.{RtAccepted}
use Rattle.f11_making.specs.Asking.{BreaksOffAsking, Denies, Fails, Granted, FilesService, Who, asks, plain, writes_of}
use Rattle.f11_flx.specs.Conversion.{Copy}
use Rattle.f11_making.specs.AsBefore.{IsAsBefore}
use Rattle.f11_making.specs.Making.{FailsToMakeFile, Making, as_file, creation, deletion, entry, filling}
use Rattle.f11_flx.specs.CopyFromRt.{FailsToCopyFromRt}
use Rattle.f11_making.specs.Making.{giving_up, new_id, opening}
use Rattle.f11_flx.specs.FromRt.{FailsToCopyFrom}
use Rattle.f11_flx.specs.Making.{AsksToFill, FailsToFillFromRt, FailsToFillOpened, FailsToMake, FillsFromRt, IsBrokenOff, IsCutShort}
use Rattle.f11_making.specs.Making.{extension, filling_of, is_created}
use Rattle.f11_flx.specs.Refusal.{is_lethal}
use Rattle.f11_flx.specs.Target.{rt_disk}
use Rattle.f11_flx.specs.declared.mode.CopyMode.{CopyMode}
use Rattle.f11_flx.specs.declared.refusal.FlxRefusal.{FlxRefusal}
use Rattle.f11_flx.specs.declared.refusal.FlxRefusal.TheVariants.{BadRecord, Files, LineTooLong, Rt, Unread}
use Rattle.f11_making.proofs.AskingLemmas.{granted-append}
use Rattle.f11_flx.proofs.Made.EnteredLemmas.{entry-refused}
use Rattle.f11_flx.proofs.FromRt.FromRtLemmas.{Planned, created-next, filled-as-planned, has-making, planned}
use Rattle.f11_flx.proofs.FromRt.MakingLemmas.{asks-to-fill}
use Rattle.f11_flx.proofs.Made.NewLemmas.{IsNewIn, IsOpenIn, lun-was-free, new-made, opened}
use Rattle.f11_flx.proofs.FromRt.PassLemmas.{stays-alive}
use Rattle.f11_making.specs.Seen.{IsSeenPlain}
use Rattle.f11_flx.proofs.Made.SeenLemmas.{granted-seen}
use Rattle.f11_flx.proofs.FromRt.UndoneLemmas.{as-before, breaks-sound, clean-undoing, filled-closed, filled-stays, filling-breaks}
use Rattle.f11_flx.proofs.FromRt.UndoneLemmas.{undone-access}
use Rattle.f11_flx.proofs.FromRt.UndoneLemmas.{undone-delete}

calm : (f f' : FlxRefusal) → f' ≡ f → is_lethal f' ≡ false → is_lethal f ≡ false
calm f f' is clean = ap is_lethal (sym is) ∙ clean

module _ {V : Type 0} (S : FilesService V) (who : Who) (lun : ℕ) (view : V → Store) (is_sound : V → Bool)
    (seen : IsSeenPlain S view is_sound) where
  -- it was accessed
  now-open : (id : FileId) (s : Store) (v w : V) → IsNewIn who.caller id s.access s (view v) → is_sound v ≡ true
      → Granted S who (opening lun id) v w →
      IsOpenIn who.caller id s who lun (view w) × (s.access who.task lun ≡ None) × (is_sound w ≡ true)
      × Granted plain who (opening lun id) (view v) (view w)
  now-open id s v w h sound g =
      let one = granted-seen S view is_sound seen who (opening lun id) v w g sound in
      let at : view w ≡ one.0.0 = one.0.2 in (
        subst (λ x. IsOpenIn who.caller id s who lun x) (sym at) (opened who.caller id s who lun (view v) one.0.0 h one.0.1),
        lun-was-free who.caller id s who lun (view v) one.0.0 h one.0.1,
        one.1,
        one.0,
      )

  -- it was created
  now-new : (making : Making) (id : FileId) (v w : V) → is_sound v ≡ true → Granted S who (creation making id) v w →
      IsNewIn who.caller id (view v).access (view v) (view w) × (is_sound w ≡ true)
      × Granted plain who (creation making id) (view v) (view w)
  now-new making id v w sound g =
      let one = granted-seen S view is_sound seen who (creation making id) v w g sound in
      (new-made making id who (view v) (view w) one.0, one.1, one.0)

  -- it was refused to create one
  not-created : (making : Making) (e : Refusal) (v w : V) → is_lethal (Files e) ≡ false → is_sound v ≡ true
      → Fails S who is_created (request.Create 0 (ident_with making.name) making.attr) e v w →
      Denies plain who (asks (request.Create 0 (ident_with making.name) making.attr)) e (view v) (view w)
  not-created making e v w clean sound (inl d) =
      (seen.denied who (asks (request.Create 0 (ident_with making.name) making.attr)) e v w d sound clean).0
  not-created making e v w clean sound (inr d) = absurd (true-false (ap (λ x. is_lethal (Files x)) (sym d.2) ∙ clean))

  -- a file to which blocks were written stays accessed
  still-written : (id : FileId) (s : Store) (n : ℕ) (pieces : List (List ℕ)) (v w : V) → IsOpenIn who.caller id s who lun (view v)
      → is_sound v ≡ true → Granted S who (extension lun n ++ writes_of lun 0 pieces) v w →
      IsOpenIn who.caller id s who lun (view w) × (is_sound w ≡ true)
  still-written id s n pieces v w h sound k =
      let one = granted-seen S view is_sound seen who (extension lun n ++ writes_of lun 0 pieces) v w k sound in
      (filled-stays who lun id s n pieces (view v) (view w) h one.0, one.1)

  -- a file that isn't filled stays accessed
  still-filling : (f : FlxRefusal) (id : FileId) (s : Store) (n : ℕ) (v w : V) → is_lethal f ≡ false
      → IsOpenIn who.caller id s who lun (view v) → is_sound v ≡ true → IsBrokenOff S who lun n f v w →
      IsOpenIn who.caller id s who lun (view w) × (is_sound w ≡ true)
  still-filling (Files e) id s n v w clean h sound k =
      let one = breaks-sound S view is_sound seen who (filling_of lun n k.0) e v w k.1 sound clean in
      (filling-breaks who lun id s n k.0 e (view v) (view w) h one.0, one.1)
  still-filling (Rt e) id s n v w clean h sound k = still-written id s n k.0 v w h sound k.1
  still-filling BadRecord id s n v w clean h sound k = still-written id s n k.0 v w h sound k.1
  still-filling LineTooLong id s n v w clean h sound k = still-written id s n k.0 v w h sound k.1
  still-filling Unread id s n v w clean h sound k = still-written id s n k.0 v w h sound k.1

-- A making was refused as its first request is that is refused, and undone;
pub record IsRefusal (making : Making) (who : Who) (lun : ℕ) (f : FlxRefusal) (s s' : Store) : Type 0 where
  pub e : Refusal
  pub is : f ≡ Files e
  pub fails : FailsToMakeFile making who lun (new_id s) e s s'

-- or the source gave no more, and what was made was undone.
pub record IsShort {V H : Type 0} (Fails : FlxRefusal → H → H → V → V → Type 0) (making : Making) (who : Who) (lun n : ℕ) (f : FlxRefusal)
    (a b : H) (s s' : Store) : Type 0 where
  pub other : (e : Refusal) → f ≡ Files e → ⊥
  pub from : V
  pub left : V
  pub fails : Fails f a b from left
  pub cut : IsCutShort making who lun n (new_id s) s s'

rt-no-files : (e : RtRefusal) (d : Refusal) → Rt e ≡ Files d → ⊥
rt-no-files e d is = cc

bad-no-files : (d : Refusal) → BadRecord ≡ Files d → ⊥
bad-no-files d is = cc

long-no-files : (d : Refusal) → LineTooLong ≡ Files d → ⊥
long-no-files d is = cc

pub unread-no-files : (d : Refusal) → Unread ≡ Files d → ⊥
unread-no-files d is = cc

-- the making of a file from any source
module _ {V H : Type 0} (S : FilesService V) (who : Who) (lun n : ℕ) (Fills : H → H → V → V → Type 0)
    (Fails : FlxRefusal → H → H → V → V → Type 0) (asking : AsksToFill S who lun n Fills Fails) (view : V → Store) (is_sound : V → Bool)
    (seen : IsSeenPlain S view is_sound) where
  -- a making that is refused, without a device fault or Damaged, leaves all as before
  pub making-undone : (f' : FlxRefusal) (making : Making) (a b : H) (v w : V) → is_lethal f' ≡ false
      → is_sound v ≡ true → FreeIsEmpty (view v) → AccessesStand (view v) →
      FailsToMake S who lun Fills Fails making f' a b v w → IsAsBefore (view v) (view w)
  making-undone f' making a b v w clean sound tidy stand (inl h) =
      subst (λ x. IsAsBefore (view v) x)
      (sym (not-created S who lun view is_sound seen making h.e v w (calm (Files h.e) f' h.is clean) sound h.fails).2.store_stays)
      (as-before (view v))
  making-undone f' making a b v w clean sound tidy stand (inr (inl h)) = by h.fails
    where
      u : Rattle.f11_flx.proofs.FromRt.UndoneLemmas.IsCleanUndoing S who (request.Delete h.id) h.f f' h.left w
      u = clean-undoing S who (request.Delete h.id) h.f f' h.left w clean h.undoes

      made : IsNewIn who.caller h.id (view v).access (view v) (view h.created) × (is_sound h.created ≡ true)
          × Granted plain who (creation making h.id) (view v) (view h.created)
      made = now-new S who lun view is_sound seen making h.id v h.created sound h.creates

      by : FailsToFillOpened S who lun Fails h.id h.f a b h.created h.left → IsAsBefore (view v) (view w)
      by (inl k) =
          let d = seen.denied who (asks (request.Access h.id access.Write lun)) k.e h.created h.left k.denied made.1
          (calm (Files k.e) h.f k.is u.clean) in
          let here = subst (λ x. IsNewIn who.caller h.id (view v).access (view v) x) (sym d.0.2.store_stays) made.0 in
          (undone-delete S view is_sound seen who lun (view v) tidy stand h.id h.f f' h.left w d.1 here u).1
      by (inr k) =
          let x = clean-undoing S who (request.Deaccess lun) k.f h.f k.left h.left u.clean k.undoes in
          let o = now-open S who lun view is_sound seen h.id (view v) h.created k.between made.0 made.1 k.opened in
          let at = still-filling S who lun view is_sound seen k.f h.id (view v) n k.between k.left x.clean o.0 o.2
          (asking.fails k.f a b k.between k.left k.fails) in
          let c = undone-access S view is_sound seen who lun (view v) tidy stand h.id k.f h.f k.left h.left at.1 o.1 at.0 x in
          (undone-delete S view is_sound seen who lun (view v) tidy stand h.id h.f f' h.left w c.2 c.1 u).1
  making-undone f' making a b v w clean sound tidy stand (inr (inr h)) =
      let u = clean-undoing S who (request.Delete h.id) (Files h.e) f' h.left w clean h.undoes in
      let made = now-new S who lun view is_sound seen making h.id v h.created sound h.creates in
      let o = now-open S who lun view is_sound seen h.id (view v) h.created h.fills.between made.0 made.1 h.fills.opened in
      let all = asking.fills a b h.fills.between h.filled h.fills.fills in
      let g = granted-seen S view is_sound seen who (filling_of lun n all.0) h.fills.between h.filled all.1 o.2 in
      let c = filled-closed who lun h.id (view v) n all.0 (view h.fills.between) (view h.filled) o.1 o.0 g.0 in
      let d = breaks-sound S view is_sound seen who (entry making h.id) h.e h.filled h.left h.breaks g.1 u.clean in
      let here = entry-refused making who h.id h.e (view v) (view h.filled) (view h.left) c d.0 in
      (undone-delete S view is_sound seen who lun (view v) tidy stand h.id (Files h.e) f' h.left w d.1 here u).1

  -- where the blocks that are written are the making's, it is refused so, or the source gave no more
  pub making-refused : (f' : FlxRefusal) (making : Making) (a b : H) (v w : V) → is_lethal f' ≡ false → is_sound v ≡ true
      → FreeIsEmpty (view v) → AccessesStand (view v) →
      ((e : Refusal) → f' ≡ Files e → (x y : V) → Fills a b x y → Granted S who (filling lun making.blocks) x y) →
      ((e : Refusal) → f' ≡ Files e → (x y : V) → Fails (Files e) a b x y → BreaksOffAsking S who (filling lun making.blocks) e x y) →
      FailsToMake S who lun Fills Fails making f' a b v w
      → (IsRefusal making who lun f' (view v) (view w)) ⊎ (IsShort Fails making who lun n f' a b (view v) (view w))
  making-refused f' making a b v w clean sound tidy stand filled broken (inl h) =
      let d = not-created S who lun view is_sound seen making h.e v w (calm (Files h.e) f' h.is clean) sound h.fails in
      inl (record {
        e = h.e;
        is = h.is;
        fails = inl (record { reached = view v; left = view w; granted = refl; breaks = inl d; undoes = refl });
      })
  making-refused f' making a b v w clean sound tidy stand filled broken (inr (inl h)) = by h.fails
    where
      u : Rattle.f11_flx.proofs.FromRt.UndoneLemmas.IsCleanUndoing S who (request.Delete h.id) h.f f' h.left w
      u = clean-undoing S who (request.Delete h.id) h.f f' h.left w clean h.undoes

      made : IsNewIn who.caller h.id (view v).access (view v) (view h.created) × (is_sound h.created ≡ true)
          × Granted plain who (creation making h.id) (view v) (view h.created)
      made = now-new S who lun view is_sound seen making h.id v h.created sound h.creates

      next : h.id ≡ new_id (view v)
      next = created-next making h.id who (view v) (view h.created) made.2

      as-next : (e : Refusal) → f' ≡ Files e → FailsToMakeFile making who lun h.id e (view v) (view w)
          → (IsRefusal making who lun f' (view v) (view w)) ⊎ (IsShort Fails making who lun n f' a b (view v) (view w))
      as-next e is k = inl
          (record { e = e; is = is; fails = subst (λ i. FailsToMakeFile making who lun i e (view v) (view w)) next k })

      -- it was opened and being filled, and the source gave no more
      short : (f0 : FlxRefusal) (between left : V) → ((e : Refusal) → f0 ≡ Files e → ⊥) → h.f ≡ f0 → is_sound between ≡ true
          → Granted plain who (opening lun h.id) (view h.created) (view between) → Fails f0 a b between left →
          ((pieces : List (List ℕ)) × Granted S who (extension lun n ++ writes_of lun 0 pieces) between left) →
          Granted plain who (giving_up lun ++ deletion h.id) (view left) (view w)
          → (IsRefusal making who lun f' (view v) (view w)) ⊎ (IsShort Fails making who lun n f' a b (view v) (view w))
      short f0 between left other is calm-now opens fails k undoes =
          let g = (granted-seen S view is_sound seen who (extension lun n ++ writes_of lun 0 k.0) between left k.1 calm-now).0 in
          let front = granted-append plain who (creation making h.id)
          (opening lun h.id ++ (extension lun n ++ writes_of lun 0 k.0)) (view v) (view h.created) (view left) made.2
          (granted-append plain who (opening lun h.id) (extension lun n ++ writes_of lun 0 k.0) (view h.created) (view between) (view left)
          opens g) in
          let cut : IsCutShort making who lun n h.id (view v) (view w) =
          record { written = k.0; reached = view left; granted = front; undoes = undoes } in
          let same : f' ≡ f0 = u.same ∙ is in
          inr (record {
            other = λ e is. other e (sym same ∙ is);
            from = between;
            left = left;
            fails = subst (λ x. Fails x a b between left) (sym same) fails;
            cut = subst (λ i. IsCutShort making who lun n i (view v) (view w)) next cut;
          })

      -- or a request was refused
      broke : (f0 : FlxRefusal) (between left : V) → is_lethal f0 ≡ false → h.f ≡ f0 → is_sound between ≡ true
          → Granted plain who (opening lun h.id) (view h.created) (view between) → Fails f0 a b between left
          → IsBrokenOff S who lun n f0 between left
          → Granted plain who (giving_up lun ++ deletion h.id) (view left) (view w) →
          (IsRefusal making who lun f' (view v) (view w)) ⊎ (IsShort Fails making who lun n f' a b (view v) (view w))
      broke (Files e) between left clean is calm-now opens fails k undoes =
          let d = (breaks-sound S view is_sound seen who (filling lun making.blocks) e between left
          (broken e (u.same ∙ is) between left fails) calm-now
          clean).0 in
          let front = granted-append plain who (creation making h.id) (opening lun h.id) (view v) (view h.created) (view between) made.2
          opens in
          as-next e (u.same ∙ is) (inr
          (inr (inl (record { reached = view between; left = view left; granted = front; breaks = d; undoes = undoes }))))
      broke (Rt e) between left clean is calm-now opens fails k undoes =
          short (Rt e) between left (λ d. rt-no-files e d) is calm-now opens fails k undoes
      broke BadRecord between left clean is calm-now opens fails k undoes =
          short BadRecord between left (λ d. bad-no-files d) is calm-now opens fails k undoes
      broke LineTooLong between left clean is calm-now opens fails k undoes =
          short LineTooLong between left (λ d. long-no-files d) is calm-now opens fails k undoes
      broke Unread between left clean is calm-now opens fails k undoes =
          short Unread between left (λ d. unread-no-files d) is calm-now opens fails k undoes

      by : FailsToFillOpened S who lun Fails h.id h.f a b h.created h.left
          → (IsRefusal making who lun f' (view v) (view w)) ⊎ (IsShort Fails making who lun n f' a b (view v) (view w))
      by (inl k) =
          let d = seen.denied who (asks (request.Access h.id access.Write lun)) k.e h.created h.left k.denied made.1
          (calm (Files k.e) h.f k.is u.clean) in
          let here = subst (λ y. IsNewIn who.caller h.id (view v).access (view v) y) (sym d.0.2.store_stays) made.0 in
          let g = (undone-delete S view is_sound seen who lun (view v) tidy stand h.id h.f f' h.left w d.1 here u).0 in
          as-next k.e (u.same ∙ k.is)
          (inr (inl (record {
            reached = view h.created;
            left = view h.left;
            granted = made.2;
            breaks = inl d.0;
            undoes = (view w, g, refl);
          })))
      by (inr k) =
          let x = clean-undoing S who (request.Deaccess lun) k.f h.f k.left h.left u.clean k.undoes in
          let o = now-open S who lun view is_sound seen h.id (view v) h.created k.between made.0 made.1 k.opened in
          let asked = asking.fails k.f a b k.between k.left k.fails in
          let at = still-filling S who lun view is_sound seen k.f h.id (view v) n k.between k.left x.clean o.0 o.2 asked in
          let c = undone-access S view is_sound seen who lun (view v) tidy stand h.id k.f h.f k.left h.left at.1 o.1 at.0 x in
          let g = (undone-delete S view is_sound seen who lun (view v) tidy stand h.id h.f f' h.left w c.2 c.1 u).0 in
          broke k.f k.between k.left x.clean x.same o.2 o.3 k.fails asked (view h.left, c.0, (view w, g, refl))
  making-refused f' making a b v w clean sound tidy stand filled broken (inr (inr h)) =
      let u = clean-undoing S who (request.Delete h.id) (Files h.e) f' h.left w clean h.undoes in
      let made = now-new S who lun view is_sound seen making h.id v h.created sound h.creates in
      let o = now-open S who lun view is_sound seen h.id (view v) h.created h.fills.between made.0 made.1 h.fills.opened in
      let all = asking.fills a b h.fills.between h.filled h.fills.fills in
      let g = granted-seen S view is_sound seen who (filling_of lun n all.0) h.fills.between h.filled all.1 o.2 in
      let c = filled-closed who lun h.id (view v) n all.0 (view h.fills.between) (view h.filled) o.1 o.0 g.0 in
      let d = breaks-sound S view is_sound seen who (entry making h.id) h.e h.filled h.left h.breaks g.1 u.clean in
      let here = entry-refused making who h.id h.e (view v) (view h.filled) (view h.left) c d.0 in
      let gone = (undone-delete S view is_sound seen who lun (view v) tidy stand h.id (Files h.e) f' h.left w d.1 here u).0 in
      let fill = (granted-seen S view is_sound seen who (filling lun making.blocks) h.fills.between h.filled
      (filled h.e u.same h.fills.between h.filled h.fills.fills) o.2).0 in
      let front = granted-append plain who (creation making h.id) (opening lun h.id ++ filling lun making.blocks) (view v) (view h.created)
      (view h.filled) made.2
      (granted-append plain who (opening lun h.id) (filling lun making.blocks) (view h.created) (view h.fills.between) (view h.filled) o.3
      fill) in
      let whole : FailsToMakeFile making who lun h.id h.e (view v) (view w) =
      inr (inr (inr (record { reached = view h.filled; left = view h.left; granted = front; breaks = d.0; undoes = (view w, gone, refl) })))
      in
      inl (record {
        e = h.e;
        is = u.same;
        fails = subst (λ i. FailsToMakeFile making who lun i h.e (view v) (view w))
            (created-next making h.id who (view v) (view h.created) made.2) whole;
      })

module _ {V E : Type 0} {met : Ghosts E} (S : FilesService V) (disk : E → Disk) (m : CopyMode) (who : Who) (lun : ℕ) (name : List ℕ)
    (view : V → Store) (is_sound : V → Bool) (seen : IsSeenPlain S view is_sound) where
  -- a copy that is refused, without a device fault or Damaged, leaves all as before
  pub copy-undone : (f : FlxRefusal) (dir : FileId) (to : List ℕ) (protection : ℕ) (a b : RtAccepted E met) (v w : V) → is_lethal f ≡ false
      → is_sound v ≡ true → FreeIsEmpty (view v) → AccessesStand (view v) →
      FailsToCopyFrom S disk m who lun name dir to protection f a b v w → IsAsBefore (view v) (view w)
  copy-undone f dir to protection a b v w clean sound tidy stand (inl h) =
      subst (λ x. IsAsBefore (view v) (view x)) (sym h.unasked) (as-before (view v))
  copy-undone f dir to protection a b v w clean sound tidy stand (inr h) =
      making-undone S who lun h.blocks (FillsFromRt {met = met} S disk m who lun name h.many h.blocks)
      (FailsToFillFromRt {met = met} S disk m who lun name h.many h.blocks) (asks-to-fill S who lun {met = met} disk m name h.many h.blocks)
      view is_sound seen f
      (as_file to dir protection h.attr []) h.between b v w clean sound tidy stand (h.fails [])

  -- where the RT-11 volume is sound too, a copy is refused as the first step is
  pub copy-refused : (f : FlxRefusal) (dir : FileId) (to : List ℕ) (protection : ℕ) (a b : RtAccepted E met) (v w : V) → is_lethal f ≡ false
      → is_sound v ≡ true → FreeIsEmpty (view v) → AccessesStand (view v) →
      IsSoundDisk (rt_disk disk a) → FailsToCopyFrom S disk m who lun name dir to protection f a b v w
      → FailsToCopyFromRt f m name who lun dir to protection (rt_disk disk a) (view v) (view w)
  copy-refused (Files e) dir to protection a b v w clean sound tidy stand s (inl h) = absurd h.fails
  copy-refused (Rt e) dir to protection a b v w clean sound tidy stand s (inl h) = (h.fails.why s, ap view h.unasked)
  copy-refused BadRecord dir to protection a b v w clean sound tidy stand s (inl h) = absurd h.fails
  copy-refused LineTooLong dir to protection a b v w clean sound tidy stand s (inl h) = (
    record {
      file = h.fails.file s;
      unconverted = h.fails.none s (file_area (h.fails.file s)).contents
          (record { file = h.fails.file s; contents = refl });
    },
    ap view h.unasked,
  )
  copy-refused Unread dir to protection a b v w clean sound tidy stand s (inl h) = absurd h.fails
  copy-refused f dir to protection a b v w clean sound tidy stand s (inr h) = by
      (making-refused S who lun h.blocks (FillsFromRt {met = met} S disk m who lun name h.many h.blocks)
      (FailsToFillFromRt {met = met} S disk m who lun name h.many h.blocks) (asks-to-fill S who lun {met = met} disk m name h.many h.blocks)
      view is_sound seen f
      (as_file to dir protection h.attr p.plan.pieces) h.between b v w clean sound tidy stand
      (λ e is x y k. filled-as-planned disk m name S who lun h.many h.blocks h.attr a h.between b x y p k)
      (λ e is x y k. subst (λ n. BreaksOffAsking S who (filling_of lun n p.plan.pieces) e x y) (sym p.plan.blocks_are)
      (k.whole p.contents (k.reads.are p.sound p.contents p.later) p.plan.count p.plan.pieces h.attr p.plan.copied))
      (h.fails p.plan.pieces))
    where
      p : Planned m name h.many h.blocks h.attr disk a h.between
      p = planned disk m name h.many h.blocks h.attr a h.between h.plans s

      less-no : (k n : ℕ) → k < n → k ≡ n → ⊥
      less-no k n less is = absurd (omega (arith, less, is))

      some-none : (c : Copy) → Some c ≡ None → ⊥
      some-none c is = cc

      -- a sound RT-11 volume gives the whole file
      all-given : (e : FlxRefusal) (x y : V) → ((d : Refusal) → e ≡ Files d → ⊥) → is_lethal e ≡ false
          → FailsToFillFromRt S disk m who lun name h.many h.blocks e h.between b x y → ⊥
      all-given (Files d) x y other none k = other d refl
      all-given (Rt d) x y other none k =
          less-no (length p.contents) h.many
          (k.stops.few (stays-alive disk a h.between h.plans.looks h.plans.alive) none p.sound p.contents p.later) p.plan.count
      all-given BadRecord x y other none k = k
      all-given LineTooLong x y other none k =
          some-none p.plan.copied.copy
          (sym p.plan.copied.converted ∙ k.none p.contents (k.reads.are p.sound p.contents p.later) p.plan.count)
      all-given Unread x y other none k = k

      by : (IsRefusal (as_file to dir protection h.attr p.plan.pieces) who lun f (view v) (view w))
          ⊎ (IsShort (FailsToFillFromRt {met = met} S disk m who lun name h.many h.blocks) (as_file to dir protection h.attr p.plan.pieces)
          who lun
          h.blocks f h.between b (view v) (view w)) → FailsToCopyFromRt f m name who lun dir to protection (rt_disk disk a) (view v)
          (view w)
      by (inl r) =
          subst (λ x. FailsToCopyFromRt x m name who lun dir to protection (rt_disk disk a) (view v) (view w)) (sym r.is)
          (record {
            attr = h.attr;
            pieces = p.plan.pieces;
            has = has-making disk m name h.many h.blocks h.attr a h.between dir to protection p;
            fails = r.fails;
          })
      by (inr k) = absurd (all-given f k.from k.left k.other clean k.fails)
