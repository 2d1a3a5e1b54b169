-- A file that is made on a volume of which a transfer fails: what was asked last was stopped, and nothing else is done.
use Rattle.std.proofs.Common.{◌≡◌, ◌⊎◌, inl, inr, ℕ, ◌&&◌, ◌||◌, not, Bool, true, false, IsTrue, List, [], ◌∷◌, ◌++◌, All, Result, Ok, Err}
use Rattle.std.proofs.Common.{Option, Some, None, refl, sym, ap, subst, ◌∙◌}
use Rattle.std.proofs.lemmas.List.Elements.{All-head}
use Rattle.f11_dev.specs.Image.{Image}
use Rattle.f11_dev.specs.Went.{newest}
use Rattle.f11_dev.specs.declared.device.Device.{Ghosts}
use Rattle.f11_serving.specs.fcp.Accesses.{AccessTable, held_in}
use Rattle.f11_serving.specs.fcp.Handles.{Handles, State, WhileServing}
use Rattle.f11_serving.specs.fcp.Lists.{ServesCall, is_sound, store_of_volume}
use Rattle.f11_serving.specs.fcp.Serving.{is_spent, state_in}
use Rattle.f11_serving.specs.fcp.declared.volume.Volume.{Volume}
use Rattle.f11_serving.specs.files.Answers.{is_fatal, is_fault, is_refused}
use Rattle.f11_making.proofs.VolumeLemmas.{denied-fared, unused, volume-seen}
use Rattle.f11_making.specs.Asking.{Asking, Denies, Fails, Grants, Tried, asks, counts, plain, reads, told, writes}
use Rattle.f11_making.specs.AsksFor.{AsksForFile, AsksOfCreated, AsksOnly, IsMakingOf, is_reading, creation, making}
use Rattle.f11_flx.specs.Copying.{FaresFiles, ReadsFiles}
use Rattle.f11_making.specs.AsksFor.{nothing}
use Rattle.f11_flx.specs.Copying.{of_files}
use Rattle.f11_making.specs.Volume.{of_volume}
use Rattle.f11_flx.specs.Refusal.{is_lethal}
use Rattle.f11_flx.specs.declared.refusal.FlxRefusal.{FlxRefusal}
use Rattle.f11_flx.specs.declared.refusal.FlxRefusal.TheVariants.{Files, Rt, BadRecord, LineTooLong, Unread}
use Rattle.f11_home.specs.Home.{HomeFields}
use Rattle.f11_catalog.specs.image_store.StoreOf.{store_of}
use Rattle.f11_runs.specs.Each.{call_with}
use Rattle.f11_store.specs.Causes.{first_refusal}
use Rattle.f11_store.specs.Lags.{Lags, no_work, work_if}
use Rattle.f11_store.specs.Run.{Answer, Call}
use Rattle.f11_store.specs.Store.{Store}
use Rattle.f11_store.specs.declared.files.FileId.{FileId}
use Rattle.f11_store.specs.declared.refusals.Refusal.{Refusal}
use Rattle.f11_store.specs.declared.refusals.Refusal.TheVariants.{DeviceFault}
use Rattle.f11_store.specs.declared.requests.Reply.TheVariants as reply
use Rattle.f11_store.specs.declared.requests.Request.{Request}
use Rattle.f11_store.specs.declared.requests.Request.TheVariants as request
use Rattle.f11_making.proofs.AskedLemmas.{never}
use Rattle.f11_commands.proofs.OthersLemmas.{all-behind, no-slot-0, others-stay}
use Rattle.f11_commands.proofs.ReadOnlyLemmas.{reads-leave}
use Rattle.f11_commands.specs.Copying.{operator}
use Rattle.f11_commands.specs.Finding.{is_found}
use Rattle.f11_commands.specs.Stopping.{IsStopped, KeepsFiles, StopsAt, StopsFile, WhereUnheld, after_creation, creating, in_part}
use Rattle.f11_commands.specs.Stopping.{not_begun}

-- a device fault fails the volume
fault-fatal : (r : Result ℕ FlxRefusal) → of_files is_fault r ≡ true → of_files is_fatal r ≡ true
fault-fatal (Ok n) h = h
fault-fatal (Err (Files DeviceFault)) h = refl
fault-fatal (Err (Files _)) h = absurd (let none : false ≡ true = h in cc)
fault-fatal (Err (Rt e)) h = h
fault-fatal (Err BadRecord) h = h
fault-fatal (Err LineTooLong) h = h
fault-fatal (Err Unread) h = h

-- a sound volume's disk is honest, and no request has failed it
pub honest-of : (honest spent : Bool) → (honest && not spent) ≡ true → IsTrue honest
honest-of true spent h = refl
honest-of false spent h = absurd (let none : false ≡ true = h in cc)

pub alive-of : (honest spent : Bool) → (honest && not spent) ≡ true → spent ≡ false
alive-of true true h = absurd (let none : false ≡ true = h in cc)
alive-of true false h = refl
alive-of false spent h = absurd (let none : false ≡ true = h in cc)

-- how a request of a sound volume may leave it
abbrev Part : Request → List ℕ → Store → Store → Type 0
Part r lent s t = ((held : AccessTable) × (s ≡ held_in held t)) ⊎ Lags t s operator.task operator.caller r lent

-- of a list of what was asked one thing was stopped
pub record Stops (xs : List Asking) (s t : Store) : Type 0 where
  pub asked : List Asking
  pub reached : Store
  pub tried : Tried plain operator asked s reached
  pub last : Asking
  pub behind : List Asking
  pub are : asked ++ last ∷ behind ≡ xs
  pub stopped : IsStopped last reached t

-- something was granted or denied before
pub later : (x : Asking) (xs : List Asking) (s u t : Store)
    → (Grants plain operator x s u) ⊎ ((e : Refusal) × Denies plain operator x e s u)
    → Stops xs u t → Stops (x ∷ xs) s t
later x xs s u t one h = record {
  asked = x ∷ h.asked;
  reached = h.reached;
  tried = (u, one, h.tried);
  last = h.last;
  behind = h.behind;
  are = ap (λ (ys : List Asking). x ∷ ys) h.are;
  stopped = h.stopped;
}

-- one thing alone
pub one-stopped : (x : Asking) (s t : Store) → Stops (x ∷ []) s t → IsStopped x s t
one-stopped x s t h = by h.asked h.reached h.tried h.last h.behind h.are h.stopped
  where
    none-behind : (xs : List Asking) (y : Asking) (ys : List Asking) → xs ++ y ∷ ys ≡ [] → ⊥
    none-behind [] y ys is = cc
    none-behind (z ∷ zs) y ys is = cc

    tails : (y : Asking) (ys : List Asking) → y ∷ ys ≡ x ∷ [] → ys ≡ []
    tails y ys is = cc

    heads : (y : Asking) (ys : List Asking) → y ∷ ys ≡ x ∷ [] → y ≡ x
    heads y ys is = cc

    by : (asked : List Asking) (reached : Store) → Tried plain operator asked s reached → (last : Asking) (behind : List Asking)
        → asked ++ last ∷ behind ≡ x ∷ [] → IsStopped last reached t → IsStopped x s t
    by [] reached tried last behind are stopped =
        subst (λ (u : Store). IsStopped x u t) tried (subst (λ (y : Asking). IsStopped y reached t) (heads last behind are) stopped)
    by (y ∷ ys) reached tried last behind are stopped =
        absurd (none-behind ys last behind (tails y (ys ++ last ∷ behind) are))

-- a request that changes no file leaves them all, however it was stopped
pub find-leaves : (dir : FileId) (name : List ℕ) (s t : Store) → IsStopped (asks (request.Find dir name)) s t
    → KeepsFiles s t
find-leaves dir name s t (not_begun held same) n = sym (ap (λ (x : Store). x.file n) same)
find-leaves dir name s t (in_part h) n = h.1.others n (by (first_refusal s operator.task operator.caller (request.Find dir name)))
  where
    by : (o : Option Refusal) → (work_if o no_work).is_meant n ≡ false
    by None = refl
    by (Some e) = refl

module _ {D : Type 0} {met : Ghosts D} where
  -- the store of a volume, with what nobody holds
  abbrev pub stored : Volume D met → Store
  stored v = store_of (state_in v).disk.image (state_in v).home

  part-of : (v w : Volume D met) (r : Request) (lent : List ℕ) (a : Answer)
      → ServesCall v (call_with operator.task operator.caller r lent) a w → is_sound v ≡ true → Part r lent (store_of_volume v) (stored w)
  part-of v w r lent a h sound = by (h.serving.handled (alive-of (state_in v).disk.honest (is_spent v) sound))
    where
      from : (state_in w).home ≡ (state_in v).home → (since : List Image) → (state_in w).disk.image ≡ newest since (state_in v).disk.image
          → All (WhileServing operator.task operator.caller r lent (state_in v)) since → Part r lent (store_of_volume v) (stored w)
      from home [] is each =
          inl (
            (state_in v).table,
            ap (λ (i : Image). held_in (state_in v).table (store_of i (state_in v).home)) (sym is)
                ∙ ap (λ (h' : HomeFields). held_in (state_in v).table (store_of (state_in w).disk.image h')) (sym home),
          )
      from home (image ∷ earlier) is each =
          inr (subst (λ (h' : HomeFields). Lags (store_of (state_in w).disk.image h') (store_of_volume v) operator.task operator.caller r
          lent)
          (sym home)
          (subst (λ (i : Image). Lags (store_of i (state_in v).home) (store_of_volume v) operator.task operator.caller r lent) (sym is)
          (All-head (WhileServing operator.task operator.caller r lent (state_in v)) image earlier each
          (honest-of (state_in v).disk.honest (is_spent v) sound)).lags))

      by : Handles operator.task operator.caller r a.result (state_in v) lent (state_in w) a.block
          → Part r lent (store_of_volume v) (stored w)
      by k = from k.home k.writes.went.since k.writes.went.image k.writes.went.each

  -- what was denied was stopped
  served-stopped : (r : Request) (x : Asking) (v w : Volume D met) (lent : List ℕ) (a : Answer)
      → ServesCall v (call_with operator.task operator.caller r lent) a w → is_sound v ≡ true
      → (Lags (stored w) (store_of_volume v) operator.task operator.caller r lent → IsStopped x (store_of_volume v) (stored w))
      → IsStopped x (store_of_volume v) (stored w)
  served-stopped r x v w lent a h sound lags = by (part-of v w r lent a h sound)
    where
      by : Part r lent (store_of_volume v) (stored w) → IsStopped x (store_of_volume v) (stored w)
      by (inl p) = not_begun p.0 p.1
      by (inr l) = lags l

  pub request-stopped : (r : Request) (e : Refusal) (v w : Volume D met) → Denies of_volume operator (asks r) e v w → is_sound v ≡ true
      → IsStopped (asks r) (store_of_volume v) (stored w)
  request-stopped r e v w d sound = served-stopped r (asks r) v w d.0 _ d.2 sound (λ l. in_part (d.0, l))

  -- a volume that a request has failed stays as it is
  serves-dead : (v w : Volume D met) (c : Call) (a : Answer) → ServesCall v c a w → is_spent v ≡ true
      → (state_in w ≡ state_in v) × (is_spent w ≡ true)
  serves-dead v w c a h dead = ((h.serving.untouched dead).0, h.serving.next ∙ ap (λ b. b || is_refused is_fatal a.result) dead)

  asked-dead : (x : Asking) (v w : Volume D met) → (Grants of_volume operator x v w) ⊎ ((e : Refusal) × Denies of_volume operator x e v w)
      → is_spent v ≡ true → (state_in w ≡ state_in v) × (is_spent w ≡ true)
  asked-dead (asks r) v w (inl g) dead = serves-dead v w _ _ g.3 dead
  asked-dead (told r a) v w (inl g) dead = serves-dead v w _ _ g.2 dead
  asked-dead (reads lun vbn block) v w (inl g) dead = serves-dead v w _ _ g.2 dead
  asked-dead (writes lun vbn block) v w (inl g) dead = serves-dead v w _ _ g.2 dead
  asked-dead (counts lun blocks) v w (inl g) dead = (g.0.untouched dead, g.0.next ∙ ap (λ b. b || false) dead)
  asked-dead (asks r) v w (inr d) dead = serves-dead v w _ _ d.1.2 dead
  asked-dead (told r a) v w (inr d) dead = serves-dead v w _ _ d.1.2 dead
  asked-dead (reads lun vbn block) v w (inr d) dead = serves-dead v w _ _ d.1.2 dead
  asked-dead (writes lun vbn block) v w (inr d) dead = serves-dead v w _ _ d.1.1 dead
  asked-dead (counts lun blocks) v w (inr d) dead = (d.1.0.untouched dead, d.1.0.next ∙ ap (λ b. b || is_fatal d.0) dead)

  tried-dead : (xs : List Asking) (v w : Volume D met) → Tried of_volume operator xs v w → is_spent v ≡ true → state_in w ≡ state_in v
  tried-dead [] v w h dead = ap (λ (u : Volume D met). state_in u) h
  tried-dead (x ∷ xs) v w h dead =
      let one = asked-dead x v h.0 h.1 dead in tried-dead xs h.0 w h.2 one.1 ∙ one.0

  -- behind a refusal that fails the volume nothing is done
  pub dead-behind : (x : Asking) (xs : List Asking) (e : Refusal) (v u w : Volume D met) → is_sound v ≡ true
      → Denies of_volume operator x e v u → is_fatal e ≡ true → Tried of_volume operator xs u w → state_in w ≡ state_in u
  dead-behind x xs e v u w sound d fatal tried =
      tried-dead xs u w tried ((denied-fared operator x e v u d).next ∙ ap (λ b. b || is_fatal e)
      (alive-of (state_in v).disk.honest (is_spent v) sound) ∙ fatal)

  denied-stopped : (x : Asking) (e : Refusal) (v w : Volume D met) → Denies of_volume operator x e v w → is_sound v ≡ true
      → IsStopped x (store_of_volume v) (stored w)
  denied-stopped (asks r) e v w d sound = request-stopped r e v w d sound
  denied-stopped (told r a) e v w d sound = served-stopped r (told r a) v w d.0 _ d.2 sound (λ l. in_part (d.0, l))
  denied-stopped (reads lun vbn block) e v w d sound =
      served-stopped (request.ReadBlock lun vbn) (reads lun vbn block) v w d.0 _ d.2 sound (λ l. in_part (d.0, l))
  denied-stopped (writes lun vbn block) e v w d sound =
      served-stopped (request.WriteBlock lun vbn) (writes lun vbn block) v w block _ d.1 sound (λ l. in_part l)
  denied-stopped (counts lun blocks) e v w d sound =
      let k = d.0.measures (alive-of (state_in v).disk.honest (is_spent v) sound) in
      not_begun (state_in v).table
      (ap (λ (i : Image). held_in (state_in v).table (store_of i (state_in v).home)) (sym k.outcome.reads.looked.image)
      ∙ ap (λ (h' : HomeFields). held_in (state_in v).table (store_of (state_in w).disk.image h')) (sym k.home))

  -- what is asked first is granted, refused, or stopped
  first-asked : (x : Asking) (xs : List Asking) (v u w : Volume D met) → is_sound v ≡ true → Tried of_volume operator xs u w
      → (is_sound u ≡ true → Stops xs (store_of_volume u) (stored w))
      → (Grants of_volume operator x v u) ⊎ ((e : Refusal) × Denies of_volume operator x e v u)
      → Stops (x ∷ xs) (store_of_volume v) (stored w)
  first-asked x xs v u w sound tried rest (inl g) =
      let seen = volume-seen.granted operator x v u g sound in
      later x xs (store_of_volume v) (store_of_volume u) (stored w) (inl seen.0) (rest seen.1)
  first-asked x xs v u w sound tried rest (inr d) = denied d.0 d.1 (is_lethal (Files d.0)) refl
    where
      last : (e : Refusal) → Denies of_volume operator x e v u → is_fatal e ≡ true → Stops (x ∷ xs) (store_of_volume v) (stored w)
      last e d fatal =
          let same : stored w ≡ stored u =
          ap (λ (s : State). store_of s.disk.image s.home) (dead-behind x xs e v u w sound d fatal tried) in
          record {
            asked = [];
            reached = store_of_volume v;
            tried = refl;
            last = x;
            behind = xs;
            are = refl;
            stopped = subst (λ (t : Store). IsStopped x (store_of_volume v) t) (sym same) (denied-stopped x e v u d sound);
          }

      denied : (e : Refusal) → Denies of_volume operator x e v u → (b : Bool) → is_lethal (Files e) ≡ b
          → Stops (x ∷ xs) (store_of_volume v) (stored w)
      denied e d true lethal = last e d lethal
      denied e d false clean =
          let seen = volume-seen.denied operator x e v u d sound clean in
          later x xs (store_of_volume v) (store_of_volume u) (stored w) (inr (e, seen.0)) (rest seen.1)

  pub stops : (xs : List Asking) (v w : Volume D met) → Tried of_volume operator xs v w → is_sound v ≡ true → is_spent w ≡ true
      → Stops xs (store_of_volume v) (stored w)
  stops [] v w h sound dead =
      never (sym (ap (λ (u : Volume D met). is_spent u) h) ∙ dead) (alive-of (state_in v).disk.honest (is_spent v) sound)
  stops (x ∷ xs) v w h sound dead = first-asked x xs v h.0 w sound h.2 (λ still. stops xs h.0 w h.2 still dead) h.1

  -- a file was created, and then something of what makes it was stopped
  pub after-stopped : (dir : FileId) (to : List ℕ) (stated : Option (List ℕ)) (v w : Volume D met)
      → (m : AsksOfCreated of_volume operator 0 dir to 0 stated v w)
      → Grants plain operator (told m.request (reply.Created m.id)) (store_of_volume v) (store_of_volume m.created) → (t : Store)
      → Stops m.asked (store_of_volume m.created) t → StopsAt dir to stated (store_of_volume v) t
  after-stopped dir to stated v w m granted t s =
      let parts = all-behind (IsMakingOf 0 dir to 0 stated m.id) s.asked s.last s.behind
      (subst (λ (xs : List Asking). All (IsMakingOf 0 dir to 0 stated m.id) xs) (sym s.are) m.only) in
      after_creation (record {
        request = m.request;
        creates = m.creates;
        id = m.id;
        created = store_of_volume m.created;
        granted = granted;
        asked = s.asked;
        reached = s.reached;
        tried = s.tried;
        only = parts.0;
        last = s.last;
        is = parts.1;
        stopped = s.stopped;
      })

  -- a file was being made
  stops-at : (dir : FileId) (to : List ℕ) (stated : Option (List ℕ)) (v w : Volume D met)
      → AsksForFile of_volume operator 0 dir to 0 stated v w → is_sound v ≡ true
      → is_spent w ≡ true → StopsAt dir to stated (store_of_volume v) (stored w)
  stops-at dir to stated v w (nothing same) sound dead =
      never (sym (ap (λ (u : Volume D met). is_spent u) same) ∙ dead) (alive-of (state_in v).disk.honest (is_spent v) sound)
  stops-at dir to stated v w (creation r is tried) sound dead =
      creating r is (one-stopped (asks r) (store_of_volume v) (stored w) (stops (asks r ∷ []) v w tried sound dead))
  stops-at dir to stated v w (making m) sound dead =
      let seen = volume-seen.granted operator (told m.request (reply.Created m.id)) v m.created m.granted sound in
      after-stopped dir to stated v w m seen.0 (stored w) (stops m.asked m.created w m.tried seen.1 dead)

  stops-making : (dir : FileId) (to : List ℕ) (stated : Option (List ℕ)) (v w : Volume D met)
      → AsksForFile of_volume operator 0 dir to 0 stated v w → is_sound v ≡ true
      → is_spent w ≡ true → WhereUnheld (StopsFile dir to stated) (store_of_volume v) (stored w)
  stops-making dir to stated v w one sound dead unheld =
      let at = stops-at dir to stated v w one sound dead in
      record {
        stops = at;
        others =
            others-stay dir to stated (store_of_volume v) (stored w) (unused v) (no-slot-0 (state_in v).disk.image (state_in v).home) unheld
            at;
      }

  -- a device fault is the answer, and the volume has failed
  pub failed-by : (result : Result ℕ FlxRefusal) (v w : Volume D met) → FaresFiles result v w → is_sound v ≡ true
      → of_files is_fault result ≡ true → is_spent w ≡ true
  failed-by result v w fares sound fault =
      fares.next (honest-of (state_in v).disk.honest (is_spent v) sound)
      ∙ ap (λ b. b || of_files is_fatal result) (alive-of (state_in v).disk.honest (is_spent v) sound) ∙ fault-fatal result fault

  -- by what an answer tells of it
  pub stops-by : (dir : FileId) (to : List ℕ) (stated : Option (List ℕ)) (result : Result ℕ FlxRefusal) (v w : Volume D met)
      → FaresFiles result v w → AsksForFile of_volume operator 0 dir to 0 stated v w → is_sound v ≡ true → of_files is_fault result ≡ true
      → WhereUnheld (StopsFile dir to stated) (store_of_volume v) (stored w)
  stops-by dir to stated result v w fares one sound fault =
      stops-making dir to stated v w one sound (failed-by result v w fares sound fault)

  -- it was only read
  reading-stops : (v w : Volume D met) → AsksOnly is_reading operator v w → is_sound v ≡ true → is_spent w ≡ true
      → WhereUnheld KeepsFiles (store_of_volume v) (stored w)
  reading-stops v w only sound dead unheld =
      let s = stops only.asked v w only.tried sound dead in
      let parts = all-behind (λ x. is_reading x ≡ true) s.asked s.last s.behind
      (subst (λ (xs : List Asking). All (λ x. is_reading x ≡ true) xs) (sym s.are) only.only) in
      reads-leave (store_of_volume v) s.reached (stored w) s.asked s.last unheld parts.0 parts.1 s.tried s.stopped

  pub reads-by : (result : Result ℕ FlxRefusal) (v w : Volume D met) → ReadsFiles result operator v w → is_sound v ≡ true
      → of_files is_fault result ≡ true → WhereUnheld KeepsFiles (store_of_volume v) (stored w)
  reads-by result v w files sound fault = reading-stops v w files.asked sound (failed-by result v w files.fares sound fault)

  -- a name was looked for, and a transfer failed
  pub find-stopped : (dir : FileId) (name : List ℕ) (e : Refusal) (v w : Volume D met) → is_sound v ≡ true → is_fault e ≡ true
      → Fails of_volume operator is_found (request.Find dir name) e v w
      → IsStopped (asks (request.Find dir name)) (store_of_volume v) (stored w)
  find-stopped dir name e v w sound fault (inl denies) = request-stopped (request.Find dir name) e v w denies sound
  find-stopped dir name e v w sound fault (inr wrong) = absurd (let none : false ≡ true = ap is_fault (sym wrong.2) ∙ fault in cc)
