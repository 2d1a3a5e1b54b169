-- What stands at each moment while things are asked of a volume, and while a file is made that gets its attributes once it is filled.
use Rattle.std.proofs.Common.{◌≡◌, ◌⊎◌, inl, inr, ℕ, ◌++◌, Bool, true, false, List, [], ◌∷◌, All, Option, length, refl, sym, ap, subst, ◌∙◌}
use Rattle.std.proofs.Common.{append_assoc}
use Rattle.std.proofs.lemmas.List.{append_cancel_right}
use Rattle.std.proofs.lemmas.List.Elements.{All-append, All-cons, All-head, All-nil, All-tail}
use Rattle.f11_dev.specs.Disk.{Disk}
use Rattle.f11_dev.specs.Image.{Image}
use Rattle.f11_dev.specs.Looked.{Looked}
use Rattle.f11_dev.specs.Went.{newest}
use Rattle.f11_dev.specs.declared.device.Device.{Ghosts}
use Rattle.f11_catalog.specs.image_store.StoreOf.{store_of}
use Rattle.f11_making.proofs.AskingLemmas.{granted-parts}
use Rattle.f11_flx.proofs.Made.SeenLemmas.{granted-seen}
use Rattle.f11_flx.proofs.Made.StatingLemmas.{filling-fills}
use Rattle.f11_flx.proofs.Made.TriedLemmas.{Tries, only-filling, open-tries, tries-granted, tries-then}
use Rattle.f11_making.proofs.VolumeLemmas.{denied-fared, granted-fared, unused, volume-seen}
use Rattle.f11_making.specs.Asking.{Asking, Denies, Granted, Grants, Tried, asks, counts, plain, reads, told, writes}
use Rattle.f11_making.specs.Making.{Making, creation, filling, opening}
use Rattle.f11_making.specs.AsksFor.{AsksForFile, creation as created-alone, making as made-one, nothing}
use Rattle.f11_making.specs.Volume.{of_volume}
use Rattle.f11_making.specs.Making.{filling_of}
use Rattle.f11_flx.specs.Refusal.{is_lethal}
use Rattle.f11_flx.specs.Stating.{AsksInOrder, IsFilling, creating as created-only, finishing, unasked, unfinished}
use Rattle.f11_flx.specs.declared.refusal.FlxRefusal.TheVariants.{Files}
use Rattle.f11_home.specs.Home.{HomeFields}
use Rattle.f11_runs.specs.Each.{call_with}
use Rattle.f11_serving.specs.fcp.Handles.{State, WhileServing}
use Rattle.f11_serving.specs.fcp.Lists.{ServesCall, is_sound, store_of_volume}
use Rattle.f11_serving.specs.fcp.Serving.{is_spent, state_in}
use Rattle.f11_serving.specs.fcp.declared.volume.Volume.{Volume}
use Rattle.f11_store.specs.File.{stated_end}
use Rattle.f11_store.specs.Ident.{ident_with}
use Rattle.f11_store.specs.Lags.{Lags}
use Rattle.f11_store.specs.Run.{Answer}
use Rattle.f11_store.specs.Store.{Store}
use Rattle.f11_store.specs.declared.files.FileId.{FileId}
use Rattle.f11_store.specs.declared.refusals.Refusal.{Refusal}
use Rattle.f11_store.specs.declared.requests.Reply.{Reply}
use Rattle.f11_store.specs.declared.requests.Reply.TheVariants as reply
use Rattle.f11_store.specs.declared.requests.Request.{Request}
use Rattle.f11_store.specs.declared.requests.Request.TheVariants as request
use Rattle.f11_making.proofs.AskedLemmas.{tried-home}
use Rattle.f11_commands.proofs.OthersLemmas.{no-slot-0, others-stay}
use Rattle.f11_commands.proofs.StoppingLemmas.{Stops, after-stopped, alive-of, dead-behind, honest-of, later, one-stopped}
use Rattle.f11_commands.proofs.WholeLemmas.{creation-ends, filling-ends, finishing-ends}
use Rattle.f11_commands.specs.Copying.{operator}
use Rattle.f11_commands.specs.Stopping.{EndsWhole, IsStopped, IsUnheld, StopsAt, StopsFile, Stood, creating}
use Rattle.f11_commands.specs.Stopping.{in_part, not_begun}

newest-append : (later earlier : List Image) (image : Image) → newest (later ++ earlier) image ≡ newest later (newest earlier image)
newest-append [] earlier image = refl
newest-append (x ∷ xs) earlier image = refl

all-weaker : (P Q : Image → Type 0) → ((image : Image) → P image → Q image) → (xs : List Image) → All P xs → All Q xs
all-weaker P Q weaker [] h = All-nil Q
all-weaker P Q weaker (x ∷ xs) h =
    All-cons Q x xs (weaker x (All-head P x xs h)) (all-weaker P Q weaker xs (All-tail P x xs h))

module _ (P : Image → Type 0) where
  pub stood-none : (d : Disk) → Stood P d d
  stood-none d = record { since = []; history = refl; image = refl; each = All-nil P }

  pub stood-then : (a b c : Disk) → Stood P a b → Stood P b c → Stood P a c
  stood-then a b c h k = record {
    since = k.since ++ h.since;
    history = k.history ∙ ap (λ (l : List Image). k.since ++ l) h.history ∙ sym (append_assoc k.since h.since a.history);
    image = k.image ∙ ap (λ (i : Image). newest k.since i) h.image ∙ sym (newest-append k.since h.since a.image);
    each = All-append P k.since h.since k.each h.each;
  }

  pub stood-looked : (a b : Disk) {most faults : ℕ} → Looked a b most faults → Stood P a b
  stood-looked a b looked = record { since = []; history = looked.history; image = looked.image; each = All-nil P }

  pub stood-weaker : (Q : Image → Type 0) (a b : Disk) → ((image : Image) → P image → Q image) → Stood P a b → Stood Q a b
  stood-weaker Q a b weaker h =
      record { since = h.since; history = h.history; image = h.image; each = all-weaker P Q weaker h.since h.each }

  -- two things hold of the same images
  pub stood-both : (Q : Image → Type 0) (a b : Disk) → Stood P a b → Stood Q a b → Stood (λ image. P image × Q image) a b
  stood-both Q a b h k =
      let same : k.since ≡ h.since = append_cancel_right k.since h.since a.history (sym k.history ∙ h.history) in
      let each : All Q h.since = subst (λ (l : List Image). All Q l) same k.each in
      record { since = h.since; history = h.history; image = h.image; each = λ i d within. (h.each i d within, each i d within) }

-- whatever the reply
pub asked-alone : (r : Request) (a : Reply) (s t : Store) → IsStopped (told r a) s t → IsStopped (asks r) s t
asked-alone r a s t (not_begun held same) = not_begun held same
asked-alone r a s t (in_part l) = in_part l

module _ {D : Type 0} {met : Ghosts D} where
  -- the store of an image, as the volume has it
  abbrev pub at : Volume D met → Image → Store
  at v image = store_of image (state_in v).home

  abbrev pub disk : Volume D met → Disk
  disk v = (state_in v).disk

  serves-stood : (r : Request) (v w : Volume D met) (lent : List ℕ) (a : Answer)
      → ServesCall v (call_with operator.task operator.caller r lent) a w → is_sound v ≡ true
      → Stood (λ image. Lags (at v image) (store_of_volume v) operator.task operator.caller r lent) (disk v) (disk w)
  serves-stood r v w lent a h sound =
      let went = (h.serving.handled (alive-of (disk v).honest (is_spent v) sound)).writes.went in
      record {
        since = went.since;
        history = went.history;
        image = went.image;
        each =
            all-weaker (WhileServing operator.task operator.caller r lent (state_in v))
            (λ image. Lags (at v image) (store_of_volume v) operator.task operator.caller r lent)
            (λ image is. (is (honest-of (disk v).honest (is_spent v) sound)).lags) went.since went.each;
      }

  -- one thing that was asked, granted or refused
  abbrev IsAnswered : Asking → Volume D met → Volume D met → Type 0
  IsAnswered x v w = (Grants of_volume operator x v w) ⊎ ((e : Refusal) × Denies of_volume operator x e v w)

  request-stood : (r : Request) (x : Asking) (v w : Volume D met) (lent : List ℕ) (a : Answer)
      → ServesCall v (call_with operator.task operator.caller r lent) a w → is_sound v ≡ true
      → ((t : Store) → Lags t (store_of_volume v) operator.task operator.caller r lent → IsStopped x (store_of_volume v) t)
      → Stood (λ image. IsStopped x (store_of_volume v) (at v image)) (disk v) (disk w)
  request-stood r x v w lent a h sound stopped =
      stood-weaker (λ image. Lags (at v image) (store_of_volume v) operator.task operator.caller r lent)
      (λ image. IsStopped x (store_of_volume v) (at v image)) (disk v) (disk w) (λ image l. stopped (at v image) l)
      (serves-stood r v w lent a h sound)

  pub asked-stood : (x : Asking) (v w : Volume D met) → is_sound v ≡ true → IsAnswered x v w
      → Stood (λ image. IsStopped x (store_of_volume v) (at v image)) (disk v) (disk w)
  asked-stood (asks r) v w sound (inl g) = request-stood r (asks r) v w g.0 _ g.3 sound (λ t l. in_part (g.0, l))
  asked-stood (asks r) v w sound (inr d) = request-stood r (asks r) v w d.1.0 _ d.1.2 sound (λ t l. in_part (d.1.0, l))
  asked-stood (told r a) v w sound (inl g) = request-stood r (told r a) v w g.0 _ g.2 sound (λ t l. in_part (g.0, l))
  asked-stood (told r a) v w sound (inr d) = request-stood r (told r a) v w d.1.0 _ d.1.2 sound (λ t l. in_part (d.1.0, l))
  asked-stood (reads l vbn block) v w sound (inl g) =
      request-stood (request.ReadBlock l vbn) (reads l vbn block) v w g.0 _ g.2 sound (λ t l. in_part (g.0, l))
  asked-stood (reads l vbn block) v w sound (inr d) =
      request-stood (request.ReadBlock l vbn) (reads l vbn block) v w d.1.0 _ d.1.2 sound (λ t l. in_part (d.1.0, l))
  asked-stood (writes l vbn block) v w sound (inl g) =
      request-stood (request.WriteBlock l vbn) (writes l vbn block) v w block _ g.2 sound (λ t l. in_part l)
  asked-stood (writes l vbn block) v w sound (inr d) =
      request-stood (request.WriteBlock l vbn) (writes l vbn block) v w block _ d.1.1 sound (λ t l. in_part l)
  asked-stood (counts l blocks) v w sound (inl g) =
      stood-looked (λ image. IsStopped (counts l blocks) (store_of_volume v) (at v image)) (disk v) (disk w)
      (g.0.measures (alive-of (disk v).honest (is_spent v) sound)).outcome.reads.looked
  asked-stood (counts l blocks) v w sound (inr d) =
      stood-looked (λ image. IsStopped (counts l blocks) (store_of_volume v) (at v image)) (disk v) (disk w)
      (d.1.0.measures (alive-of (disk v).honest (is_spent v) sound)).outcome.reads.looked

  answered-home : (x : Asking) (v w : Volume D met) → IsAnswered x v w → (state_in w).home ≡ (state_in v).home
  answered-home x v w (inl g) = (granted-fared operator x v w g).home
  answered-home x v w (inr d) = (denied-fared operator x d.0 v w d.1).home

  -- of a list of what was asked one thing was stopped
  abbrev pub StopsIn : List Asking → Volume D met → Image → Type 0
  StopsIn xs v image = Stops xs (store_of_volume v) (at v image)

  first-stood : (x : Asking) (xs : List Asking) (v u w : Volume D met) → is_sound v ≡ true → IsAnswered x v u
      → Tried of_volume operator xs u w → (is_sound u ≡ true → Stood (StopsIn xs u) (disk u) (disk w))
      → Stood (StopsIn (x ∷ xs) v) (disk v) (disk w)
  first-stood x xs v u w sound one tried rest =
      stood-then (StopsIn (x ∷ xs) v) (disk v) (disk u) (disk w)
      (stood-weaker (λ image. IsStopped x (store_of_volume v) (at v image)) (StopsIn (x ∷ xs) v) (disk v) (disk u)
      (λ image stopped. record {
        asked = [];
        reached = store_of_volume v;
        tried = refl;
        last = x;
        behind = xs;
        are = refl;
        stopped = stopped;
      }) (asked-stood x v u sound one))
      (by one)
    where
      on : (Grants plain operator x (store_of_volume v) (store_of_volume u))
          ⊎ ((e : Refusal) × Denies plain operator x e (store_of_volume v) (store_of_volume u)) → is_sound u ≡ true
          → Stood (StopsIn (x ∷ xs) v) (disk u) (disk w)
      on seen still =
          stood-weaker (StopsIn xs u) (StopsIn (x ∷ xs) v) (disk u) (disk w)
          (λ image s. subst (λ (h : HomeFields). Stops (x ∷ xs) (store_of_volume v) (store_of image h)) (answered-home x v u one)
          (later x xs (store_of_volume v) (store_of_volume u) (at u image) seen s)) (rest still)

      denied : (e : Refusal) → Denies of_volume operator x e v u → (b : Bool) → is_lethal (Files e) ≡ b
          → Stood (StopsIn (x ∷ xs) v) (disk u) (disk w)
      denied e d true lethal =
          subst (λ (y : State). Stood (StopsIn (x ∷ xs) v) (disk u) y.disk) (sym (dead-behind x xs e v u w sound d lethal tried))
          (stood-none (StopsIn (x ∷ xs) v) (disk u))
      denied e d false clean = let seen = volume-seen.denied operator x e v u d sound clean in on (inr (e, seen.0)) seen.1

      by : IsAnswered x v u → Stood (StopsIn (x ∷ xs) v) (disk u) (disk w)
      by (inl g) = let seen = volume-seen.granted operator x v u g sound in on (inl seen.0) seen.1
      by (inr d) = denied d.0 d.1 (is_lethal (Files d.0)) refl

  pub tried-stood : (xs : List Asking) (v w : Volume D met) → is_sound v ≡ true → Tried of_volume operator xs v w
      → Stood (StopsIn xs v) (disk v) (disk w)
  tried-stood [] v w sound h =
      subst (λ (x : Volume D met). Stood (StopsIn [] v) (disk v) (disk x)) (sym h) (stood-none (StopsIn [] v) (disk v))
  tried-stood (x ∷ xs) v w sound h = first-stood x xs v h.0 w sound h.1 h.2 (λ still. tried-stood xs h.0 w still h.2)

  pub granted-tried : (xs : List Asking) (v w : Volume D met) → Granted of_volume operator xs v w → Tried of_volume operator xs v w
  granted-tried [] v w h = h
  granted-tried (x ∷ xs) v w h = (h.0, inl h.1, granted-tried xs h.0 w h.2)

  -- a file was being made
  module _ (dir : FileId) (to : List ℕ) (stated : Option (List ℕ)) (v w : Volume D met) (sound : is_sound v ≡ true) where
    abbrev IsAt : Image → Type 0
    IsAt image = StopsAt dir to stated (store_of_volume v) (at v image)

    making-stood : AsksForFile of_volume operator 0 dir to 0 stated v w → Stood IsAt (disk v) (disk w)
    making-stood (nothing same) = subst (λ (x : Volume D met). Stood IsAt (disk v) (disk x)) (sym same) (stood-none IsAt (disk v))
    making-stood (created-alone r is tried) =
        stood-weaker (StopsIn (asks r ∷ []) v) IsAt (disk v) (disk w)
        (λ image s. creating r is (one-stopped (asks r) (store_of_volume v) (at v image) s)) (tried-stood (asks r ∷ []) v w sound tried)
    making-stood (made-one m) =
        let x : Asking = told m.request (reply.Created m.id) in
        let seen = volume-seen.granted operator x v m.created m.granted sound in
        stood-then IsAt (disk v) (disk m.created) (disk w)
        (stood-weaker (λ image. IsStopped x (store_of_volume v) (at v image)) IsAt (disk v) (disk m.created)
        (λ image s. creating m.request m.creates
        (asked-alone m.request (reply.Created m.id) (store_of_volume v) (at v image) s))
        (asked-stood x v m.created sound (inl m.granted)))
        (stood-weaker (StopsIn m.asked m.created) IsAt (disk m.created) (disk w)
        (λ image s. subst (λ (h : HomeFields). StopsAt dir to stated (store_of_volume v) (store_of image h))
        (granted-fared operator x v m.created m.granted).home
        (after-stopped dir to stated v w m seen.0 (at m.created image) s))
        (tried-stood m.asked m.created w seen.1 m.tried))

    pub file-stood : AsksForFile of_volume operator 0 dir to 0 stated v w → IsUnheld (store_of_volume v)
        → Stood (λ image. StopsFile dir to stated (store_of_volume v) (at v image)) (disk v) (disk w)
    file-stood asked unheld =
        stood-weaker IsAt (λ image. StopsFile dir to stated (store_of_volume v) (at v image)) (disk v) (disk w)
        (λ image is. record {
          stops = is;
          others = others-stay dir to stated (store_of_volume v) (at v image) (unused v) (no-slot-0 (disk v).image (state_in v).home) unheld
              is;
        }) (making-stood asked)

  -- and whether it ends at its beginning
  module _ (making : Making) (none : stated_end making.attr ≡ 0) (AreSuch : List (List ℕ) → Type 0)
      (v w : Volume D met) (sound : is_sound v ≡ true) (unheld : IsUnheld (store_of_volume v)) where
    abbrev Ends : Image → Type 0
    Ends image = EndsWhole making.directory AreSuch (store_of_volume v) (at v image)

    abbrev r : Request
    r = request.Create 0 (ident_with making.name) making.attr

    -- while it was created
    created-stood : (id : FileId) (created : Volume D met) → Granted of_volume operator (creation making id) v created
        → Stood Ends (disk v) (disk created)
    created-stood id created creates =
        let x : Asking = told r (reply.Created id) in
        stood-weaker (StopsIn (x ∷ []) v) Ends (disk v) (disk created)
        (λ image s. creation-ends making none AreSuch v sound unheld (at v image)
        (asked-alone r (reply.Created id) (store_of_volume v) (at v image) (one-stopped x (store_of_volume v) (at v image) s)))
        (tried-stood (creation making id) v created sound (granted-tried (creation making id) v created creates))

    -- and filled
    filled-stood : (id : FileId) (created u : Volume D met) → Granted of_volume operator (creation making id) v created
        → Tries of_volume (IsFilling 0 id) operator created u → Stood Ends (disk v) (disk u)
    filled-stood id created u creates h =
        let g = granted-seen of_volume store_of_volume is_sound volume-seen operator (creation making id) v created creates sound in
        let home : (state_in created).home ≡ (state_in v).home =
        tried-home operator (creation making id) v created (granted-tried (creation making id) v created creates) in
        stood-then Ends (disk v) (disk created) (disk u) (created-stood id created creates)
        (stood-weaker (StopsIn h.asked created) Ends (disk created) (disk u)
        (λ image s. subst (λ (y : HomeFields). EndsWhole making.directory AreSuch (store_of_volume v) (store_of image y))
        home
        (filling-ends making none AreSuch v sound unheld id created creates h.asked h.only (at created image) s))
        (tried-stood h.asked created u g.1 h.tried))

    pub whole-stood : AsksInOrder of_volume operator 0 making AreSuch v w → Stood Ends (disk v) (disk w)
    whole-stood (unasked same) = subst (λ (x : Volume D met). Stood Ends (disk v) (disk x)) (sym same) (stood-none Ends (disk v))
    whole-stood (created-only tried) =
        stood-weaker (StopsIn (asks r ∷ []) v) Ends (disk v) (disk w)
        (λ image s. creation-ends making none AreSuch v sound unheld (at v image)
        (one-stopped (asks r) (store_of_volume v) (at v image) s)) (tried-stood (asks r ∷ []) v w sound tried)
    whole-stood (unfinished m) =
        filled-stood m.id m.created w m.creates (record { asked = m.asked; tried = m.tried; only = m.only })
    whole-stood (finishing m) =
        let all : List Asking = creation making m.id ++ (opening 0 m.id ++ filling 0 m.pieces) in
        let g = granted-seen of_volume store_of_volume is_sound volume-seen operator all v m.filled m.fills sound in
        let one = granted-parts of_volume operator (creation making m.id) (opening 0 m.id ++ filling 0 m.pieces) v m.filled m.fills in
        let two = granted-parts of_volume operator (opening 0 m.id) (filling 0 m.pieces) one.0 m.filled one.2 in
        let fills = filling-fills 0 m.id in
        let n : ℕ = length m.pieces in
        let h : Tries (of_volume {met = met}) (IsFilling 0 m.id) operator one.0 m.filled =
        tries-then (of_volume {met = met}) (IsFilling 0 m.id) operator one.0 two.0 m.filled
        (open-tries (of_volume {met = met}) (IsFilling 0 m.id) operator 0 m.id fills one.0 two.0 two.1)
        (tries-granted (of_volume {met = met}) (IsFilling 0 m.id) operator (filling_of 0 n m.pieces) two.0 m.filled
        (only-filling (of_volume {met = met}) (IsFilling 0 m.id) operator 0 m.id fills n m.pieces) two.2) in
        stood-then Ends (disk v) (disk m.filled) (disk w) (filled-stood m.id one.0 m.filled one.1 h)
        (stood-weaker (StopsIn m.asked m.filled) Ends (disk m.filled) (disk w)
        (λ image s. subst (λ (y : HomeFields). EndsWhole making.directory AreSuch (store_of_volume v) (store_of image y))
        (tried-home operator all v m.filled (granted-tried all v m.filled m.fills))
        (finishing-ends making none AreSuch v sound unheld w m (at m.filled image) s))
        (tried-stood m.asked m.filled w g.1 m.tried))
