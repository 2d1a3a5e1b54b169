-- What a copy from RT-11 answers where one of the volumes had failed before.
use Rattle.std.proofs.Common.{◌≡◌, ◌≢◌, inl, inr, ℕ, ◌||◌, Bool, true, false, if◌then◌else◌, List, [], ◌∷◌, ◌++◌, Result, Ok, Err, refl}
use Rattle.std.proofs.Common.{sym, ap, ◌∙◌, subst}
use Rattle.f11_dev.specs.Disk.{Disk}
use Rattle.f11_dev.specs.declared.device.Device.{Ghosts}
use Rattle.f11_store.specs.Ident.{ident_with}
use Rattle.f11_store.specs.declared.files.FileId.{FileId}
use Rattle.f11_store.specs.declared.files.Mode.TheVariants as access
use Rattle.f11_store.specs.declared.refusals.Refusal.{Refusal}
use Rattle.f11_store.specs.declared.refusals.Refusal.TheVariants.{Damaged, VolumeFailed}
use Rattle.f11_store.specs.declared.requests.Reply.{Reply}
use Rattle.f11_store.specs.declared.requests.Reply.TheVariants as reply
use Rattle.f11_store.specs.declared.requests.Request.{Request}
use Rattle.f11_store.specs.declared.requests.Request.TheVariants as request
use Rattle.f11_store.specs.Run.{Answer, Call}
use Rattle.f11_runs.proofs.AccessLemmas.{true-false}
use Rattle.f11_fcp.specs.files.Answers.{is_refused}
use Rattle.f11_fcp.specs.Handles.{is_failed}
use Rattle.f11_fcp.specs.Lengths.{AnswersLength}
use Rattle.f11_fcp.specs.Lists.{ServesCall}
use Rattle.f11_fcp.specs.Serving.{is_spent, state_in}
use Rattle.f11_fcp.specs.declared.volume.Volume.{Volume}
use Rattle.rt11_volume.specs.Calls.{has_failed, volume_device}
use Rattle.rt11_volume.specs.declared.refusal.RtRefusal.{RtRefusal}
use Rattle.rt11_volume.specs.declared.refusal.RtRefusal.TheVariants.{Failed}
use Rattle.rt11_volume.specs.declared.volume.RtAccepted.{RtAccepted}
use Rattle.f11_making.specs.Asking.{Asking, BreaksOffAsking, Denies, Fails, Granted, Grants, FilesService, Who, asks, counts, reads, told}
use Rattle.f11_making.specs.Asking.{writes, writes_of}
use Rattle.f11_making.specs.Volume.{of_volume}
use Rattle.f11_flx.specs.Copying.{KeepsFailed, KeepsSpent}
use Rattle.f11_making.specs.Making.{Making, as_file, creation, entry, opening}
use Rattle.f11_flx.specs.FromRt.{CopiesFrom, FailsToCopyFrom}
use Rattle.f11_flx.specs.Making.{AsksToFill, FailsToFillFile, FailsToFillFromRt, FailsToFillOpened, FailsToMake, FailsToMakeCopy}
use Rattle.f11_making.specs.Making.{extension, filling_of, is_created}
use Rattle.f11_flx.specs.Making.{FillsFromRt, FillsOpened, IsBrokenOff, MakesFile, Undoing, UndoingIf}
use Rattle.f11_flx.specs.Planning.{FailsToPlan}
use Rattle.f11_flx.specs.Refusal.{is_lethal}
use Rattle.f11_flx.specs.declared.mode.CopyMode.{CopyMode}
use Rattle.f11_flx.specs.declared.refusal.FlxRefusal.{FlxRefusal}
use Rattle.f11_flx.specs.declared.refusal.FlxRefusal.TheVariants.{BadRecord, Files, LineTooLong, Rt, Unread}
use Rattle.f11_flx.proofs.FromRt.MakingLemmas.{asks-to-fill}
use Rattle.f11_flx.proofs.FromRt.PassLemmas.{stays-alive}
use Rattle.f11_making.proofs.VolumeLemmas.{denied-fared, granted-fared}

abbrev pub given : ℕ → Result ℕ FlxRefusal
given n = Ok n

abbrev pub refused : FlxRefusal → Result ℕ FlxRefusal
refused f = Err f

pub no-answer : (n : ℕ) (f : FlxRefusal) → given n ≡ refused f → ⊥
no-answer n f is = cc

pub same-refusal : (f g : FlxRefusal) → refused f ≡ refused g → f ≡ g
same-refusal f g is = cc

files-apart : (e : RtRefusal) (d : Refusal) → Rt e ≡ Files d → ⊥
files-apart e d is = cc

pub rt-apart : (e : Refusal) (d : RtRefusal) → Files e ≡ Rt d → ⊥
rt-apart e d is = cc

abbrev answer : Reply → Result Reply Refusal
answer r = Ok r

abbrev denial : Refusal → Result Reply Refusal
denial e = Err e

ok-apart : (x : Result Reply Refusal) (r : Reply) → x ≡ Ok r → x ≡ Err VolumeFailed → ⊥
ok-apart x r a b = by (sym a ∙ b)
  where
    by : answer r ≡ denial VolumeFailed → ⊥
    by is = cc

err-is : (x : Result Reply Refusal) (e : Refusal) → x ≡ Err e → x ≡ Err VolumeFailed → e ≡ VolumeFailed
err-is x e a b = by (sym a ∙ b)
  where
    by : denial e ≡ denial VolumeFailed → e ≡ VolumeFailed
    by is = cc

abbrev counted : ℕ → Result ℕ Refusal
counted n = Ok n

abbrev uncounted : Refusal → Result ℕ Refusal
uncounted e = Err e

-- an answer is VolumeFailed on a volume that had failed, and there alone
module _ {D : Type 0} {met : Ghosts D} where
  serves-unspent : (v w : Volume D met) (c : Call) (a : Answer) (r : Reply) → a.result ≡ Ok r → ServesCall v c a w → is_spent v ≡ false
  serves-unspent v w c a r is h = by (is_spent v) refl
    where
      by : (b : Bool) → is_spent v ≡ b → b ≡ false
      by false is = refl
      by true dead = absurd (ok-apart a.result r is (h.serving.refused dead))

  serves-spent : (v w : Volume D met) (c : Call) (a : Answer) → a.result ≡ Err VolumeFailed → ServesCall v c a w → is_spent v ≡ true
  serves-spent v w c a is h = by (is_spent v) refl
    where
      by : (b : Bool) → is_spent v ≡ b → b ≡ true
      by true dead = refl
      by false alive = absurd (true-false (sym (ap (λ x. is_refused is_failed x) is) ∙ (h.serving.handled alive).unfailed))

  serves-dead : (v w : Volume D met) (c : Call) (a : Answer) (e : Refusal) → a.result ≡ Err e → is_spent v ≡ true → ServesCall v c a w
      → (e ≡ VolumeFailed) × (state_in w ≡ state_in v)
  serves-dead v w c a e is dead h = (err-is a.result e is (h.serving.refused dead), (h.serving.untouched dead).0)

  -- the length is refused so, too
  measures-unspent : (v w : Volume D met) (task lun blocks : ℕ) → AnswersLength task lun (Ok blocks) v w → is_spent v ≡ false
  measures-unspent v w task lun blocks h = by (is_spent v) refl
    where
      differ : counted blocks ≡ uncounted VolumeFailed → ⊥
      differ is = cc

      by : (b : Bool) → is_spent v ≡ b → b ≡ false
      by false is = refl
      by true dead = absurd (differ (h.refused dead))

  pub granted-unspent : (who : Who) (x : Asking) (v w : Volume D met) → Grants of_volume who x v w → is_spent v ≡ false
  granted-unspent who (asks r) v w h = serves-unspent v w _ _ h.1 refl h.3
  granted-unspent who (told r a) v w h = serves-unspent v w _ _ a refl h.2
  granted-unspent who (reads lun vbn block) v w h = serves-unspent v w _ _ h.1 refl h.2
  granted-unspent who (writes lun vbn block) v w h = serves-unspent v w _ _ h.0 refl h.2
  granted-unspent who (counts lun blocks) v w h = measures-unspent v w who.task lun blocks h.0

  pub stays-unspent : (who : Who) (x : Asking) (v w : Volume D met) → Grants of_volume who x v w → is_spent w ≡ false
  stays-unspent who x v w h = (granted-fared who x v w h).next ∙ ap (λ b. b || false) (granted-unspent who x v w h)

  denied-asks : (who : Who) (r : Request) (v w : Volume D met) → Denies of_volume who (asks r) VolumeFailed v w → is_spent v ≡ true
  denied-asks who r v w h = serves-spent v w _ _ refl h.2

  pub dead-asks : (who : Who) (r : Request) (e : Refusal) (v w : Volume D met) → is_spent v ≡ true → Denies of_volume who (asks r) e v w
      → (e ≡ VolumeFailed) × (state_in w ≡ state_in v)
  dead-asks who r e v w dead h = serves-dead v w _ _ e refl dead h.2

  denied-spent : (who : Who) (x : Asking) (v w : Volume D met) → Denies of_volume who x VolumeFailed v w → is_spent v ≡ true
  denied-spent who (asks r) v w h = serves-spent v w _ _ refl h.2
  denied-spent who (told r a) v w h = serves-spent v w _ _ refl h.2
  denied-spent who (reads lun vbn block) v w h = serves-spent v w _ _ refl h.2
  denied-spent who (writes lun vbn block) v w h = serves-spent v w _ _ refl h.1
  denied-spent who (counts lun blocks) v w h = by (is_spent v) refl
    where
      clean : (e : Refusal) → (e ≡ VolumeFailed → is_spent v ≡ true) → e ≡ VolumeFailed → is_spent v ≡ true
      clean e f is = f is

      by : (b : Bool) → is_spent v ≡ b → b ≡ true
      by true dead = refl
      by false alive = absurd (true-false (sym ((h.0.measures alive).outcome.right.volume refl)))

  -- a refusal that isn't VolumeFailed, after which the volume hasn't failed but for a device fault or Damaged
  pub record IsLive (f : FlxRefusal) (v : Volume D met) : Type 0 where
    pub other : f ≡ Files VolumeFailed → ⊥
    pub alive : is_lethal f ≡ false → is_spent v ≡ false

  pub denied-live : (who : Who) (x : Asking) (e : Refusal) (v w : Volume D met) → is_spent v ≡ false → Denies of_volume who x e v w
      → IsLive (Files e) w
  denied-live who x e v w alive h = record {
    other = λ is. by e h (same is);
    alive = λ clean. (denied-fared who x e v w h).next ∙ ap (λ b. b || is_lethal (Files e)) alive ∙ clean;
  }
    where
      same : Files e ≡ Files VolumeFailed → e ≡ VolumeFailed
      same is = cc

      by : (e : Refusal) → Denies of_volume who x e v w → e ≡ VolumeFailed → ⊥
      by e h is = true-false (sym (denied-spent who x v w (subst (λ d. Denies of_volume who x d v w) is h)) ∙ alive)

  pub all-unspent : (who : Who) (xs : List Asking) (v w : Volume D met) → is_spent v ≡ false → Granted of_volume who xs v w
      → is_spent w ≡ false
  all-unspent who [] v w alive h = ap is_spent h ∙ alive
  all-unspent who (x ∷ xs) v w alive h = all-unspent who xs h.0 w (stays-unspent who x v h.0 h.1) h.2

  breaks-live : (who : Who) (xs : List Asking) (e : Refusal) (v w : Volume D met) → is_spent v ≡ false
      → BreaksOffAsking of_volume who xs e v w → IsLive (Files e) w
  breaks-live who [] e v w alive h = absurd h
  breaks-live who (x ∷ xs) e v w alive (inl h) = denied-live who x e v w alive h
  breaks-live who (x ∷ xs) e v w alive (inr h) = breaks-live who xs e h.0 w (stays-unspent who x v h.0 h.1) h.2

  undoing-live : (who : Who) (r : Request) (f f' : FlxRefusal) (v w : Volume D met) → IsLive f v → Undoing of_volume who r f f' v w
      → IsLive f' w
  undoing-live who r f f' v w l h = by (is_lethal f) refl h
    where
      chosen : (e : Refusal) (b : Bool) → is_lethal f ≡ false → is_lethal (Files e) ≡ b → IsLive (Files e) w
          → IsLive (if b then Files e else f) w
      chosen e true is lethal d = d
      chosen e false is lethal d = record { other = l.other; alive = λ clean. d.alive lethal }

      by : (b : Bool) → is_lethal f ≡ b → UndoingIf b of_volume who r f f' v w → IsLive f' w
      by true is h = subst (λ x. IsLive x w) (sym h.0) (subst (λ x. IsLive f x) (sym h.1) l)
      by false is (inl h) =
          subst (λ x. IsLive x w) (sym h.same) (record { other = l.other; alive = λ clean. stays-unspent who (asks r) v w h.granted })
      by false is (inr h) =
          subst (λ x. IsLive x w) (sym h.answer)
          (chosen h.e (is_lethal (Files h.e)) is refl (denied-live who (asks r) h.e v w (l.alive is) h.denied))

  -- of a making of which the file was created
  pub keeps-live : (f : FlxRefusal) (v w : Volume D met) → is_spent v ≡ false → (f ≡ Files VolumeFailed → ⊥) → KeepsSpent (refused f) v w
  keeps-live f v w alive other = record {
    only = λ is. absurd (other (same-refusal f (Files VolumeFailed) is));
    untouched = λ dead. absurd (true-false (sym dead ∙ alive));
  }

  -- of one that is refused before anything else is asked
  pub first-keeps : (who : Who) (r : Request) (e : Refusal) (v w : Volume D met) → Denies of_volume who (asks r) e v w
      → KeepsSpent (refused (Files e)) v w
  first-keeps who r e v w h = record {
    only = λ is. denied-asks who r v w
        (subst (λ d. Denies of_volume who (asks r) d v w) (same (same-refusal (Files e) (Files VolumeFailed) is)) h);
    untouched = λ dead. (dead-asks who r e v w dead h).1;
  }
    where
      same : Files e ≡ Files VolumeFailed → e ≡ VolumeFailed
      same is = cc

  uncreated-keeps : (who : Who) (making : Making) (e : Refusal) (v w : Volume D met)
      → Fails of_volume who is_created (request.Create 0 (ident_with making.name) making.attr) e v w → KeepsSpent (refused (Files e)) v w
  uncreated-keeps who making e v w (inl h) = first-keeps who (request.Create 0 (ident_with making.name) making.attr) e v w h
  uncreated-keeps who making e v w (inr h) =
      keeps-live (Files e) v w (granted-unspent who (told (request.Create 0 (ident_with making.name) making.attr) h.0) v w h.3)
      (λ is. differ (sym (ap Files h.2) ∙ is))
    where
      differ : Files Damaged ≡ Files VolumeFailed → ⊥
      differ is = cc

  dead-uncreated : (who : Who) (making : Making) (e : Refusal) (v w : Volume D met) → is_spent v ≡ true
      → Fails of_volume who is_created (request.Create 0 (ident_with making.name) making.attr) e v w → e ≡ VolumeFailed
  dead-uncreated who making e v w dead (inl h) = (dead-asks who (request.Create 0 (ident_with making.name) making.attr) e v w dead h).0
  dead-uncreated who making e v w dead (inr h) =
      absurd (true-false (sym dead ∙ granted-unspent who (told (request.Create 0 (ident_with making.name) making.attr) h.0) v w h.3))

  pub created-alive : (who : Who) (making : Making) (id : FileId) (v w : Volume D met) → Granted of_volume who (creation making id) v w
      → is_spent v ≡ false
  created-alive who making id v w h =
      granted-unspent who (told (request.Create 0 (ident_with making.name) making.attr) (reply.Created id)) v h.0 h.1

-- the making of a file from any source
module _ {D : Type 0} {met : Ghosts D} (who : Who) (lun n : ℕ) where
  broken-live : (f : FlxRefusal) (v w : Volume D met) → is_spent v ≡ false → IsBrokenOff of_volume who lun n f v w → IsLive f w
  broken-live (Files e) v w alive h = breaks-live who (filling_of lun n h.0) e v w alive h.1
  broken-live (Rt e) v w alive h = record {
    other = files-apart e VolumeFailed;
    alive = λ clean. all-unspent who (extension lun n ++ writes_of lun 0 h.0) v w alive h.1;
  }
  broken-live BadRecord v w alive h = record {
    other = λ is. absurd (cc);
    alive = λ clean. all-unspent who (extension lun n ++ writes_of lun 0 h.0) v w alive h.1;
  }
  broken-live LineTooLong v w alive h = record {
    other = λ is. absurd (cc);
    alive = λ clean. all-unspent who (extension lun n ++ writes_of lun 0 h.0) v w alive h.1;
  }
  broken-live Unread v w alive h = record {
    other = λ is. absurd (cc);
    alive = λ clean. all-unspent who (extension lun n ++ writes_of lun 0 h.0) v w alive h.1;
  }

module _ {D H : Type 0} {met : Ghosts D} (who : Who) (lun n : ℕ) (Fills : H → H → Volume D met → Volume D met → Type 0)
    (Fails : FlxRefusal → H → H → Volume D met → Volume D met → Type 0) (asking : AsksToFill of_volume who lun n Fills Fails) where
  filled-alive : (id : FileId) (a b : H) (v w : Volume D met) → is_spent v ≡ false → FillsOpened of_volume who lun Fills id a b v w
      → is_spent w ≡ false
  filled-alive id a b v w alive h =
      let all = asking.fills a b h.between w h.fills in
      all-unspent who (filling_of lun n all.0) h.between w (all-unspent who (opening lun id) v h.between alive h.opened) all.1

  fill-file-live : (f : FlxRefusal) (id : FileId) (a b : H) (v w : Volume D met) → is_spent v ≡ false
      → FailsToFillOpened of_volume who lun Fails id f a b v w → IsLive f w
  fill-file-live f id a b v w alive (inl h) =
      subst (λ x. IsLive x w) (sym h.is) (denied-live who (asks (request.Access id access.Write lun)) h.e v w alive h.denied)
  fill-file-live f id a b v w alive (inr h) =
      undoing-live who (request.Deaccess lun) h.f f h.left w
      (broken-live who lun n h.f h.between h.left (all-unspent who (opening lun id) v h.between alive h.opened)
      (asking.fails h.f a b h.between h.left h.fails)) h.undoes

  pub unmade-keeps : (f : FlxRefusal) (making : Making) (a b : H) (v w : Volume D met)
      → FailsToMake of_volume who lun Fills Fails making f a b v w → KeepsSpent (refused f) v w
  unmade-keeps f making a b v w (inl h) =
      subst (λ x. KeepsSpent (refused x) v w) (sym h.is) (uncreated-keeps who making h.e v w h.fails)
  unmade-keeps f making a b v w (inr (inl h)) =
      let alive = created-alive who making h.id v h.created h.creates in
      let made = all-unspent who (creation making h.id) v h.created alive h.creates in
      keeps-live f v w alive (undoing-live who (request.Delete h.id) h.f f h.left w
      (fill-file-live h.f h.id a b h.created h.left made h.fails) h.undoes).other
  unmade-keeps f making a b v w (inr (inr h)) =
      let alive = created-alive who making h.id v h.created h.creates in
      let made = all-unspent who (creation making h.id) v h.created alive h.creates in
      let filled = filled-alive h.id a b h.created h.filled made h.fills in
      keeps-live f v w alive (undoing-live who (request.Delete h.id) (Files h.e) f h.left w
      (breaks-live who (entry making h.id) h.e h.filled h.left filled h.breaks) h.undoes).other

  pub made-keeps : (blocks : ℕ) (making : Making) (a b : H) (v w : Volume D met) → MakesFile of_volume who lun Fills making a b v w
      → KeepsSpent (given blocks) v w
  made-keeps blocks making a b v w h = record {
    only = λ is. absurd (no-answer blocks (Files VolumeFailed) is);
    untouched = λ dead. absurd (true-false (sym dead ∙ created-alive who making h.id v h.created h.creates));
  }

  -- one to a volume that had failed is refused at its first request
  pub dead-unmade : (f : FlxRefusal) (making : Making) (a b : H) (v w : Volume D met) → is_spent v ≡ true
      → FailsToMake of_volume who lun Fills Fails making f a b v w → f ≡ Files VolumeFailed
  dead-unmade f making a b v w dead (inl h) = h.is ∙ ap Files (dead-uncreated who making h.e v w dead h.fails)
  dead-unmade f making a b v w dead (inr (inl h)) =
      absurd (true-false (sym dead ∙ created-alive who making h.id v h.created h.creates))
  dead-unmade f making a b v w dead (inr (inr h)) =
      absurd (true-false (sym dead ∙ created-alive who making h.id v h.created h.creates))

  pub dead-made : (making : Making) (a b : H) (v w : Volume D met) → is_spent v ≡ true → MakesFile of_volume who lun Fills making a b v w
      → ⊥
  dead-made making a b v w dead h = true-false (sym dead ∙ created-alive who making h.id v h.created h.creates)

module _ {D E : Type 0} {met : Ghosts D} {met' : Ghosts E} (disk : E → Disk) (m : CopyMode) (who : Who) (lun : ℕ) (name : List ℕ) where
  plan-keeps : (f : FlxRefusal) (a b : RtAccepted E met') (v : Volume D met) → FailsToPlan disk m name f a b → KeepsSpent (refused f) v v
  plan-keeps (Files e) a b v h = absurd h
  plan-keeps (Rt e) a b v h =
      record { only = λ is. absurd (files-apart e VolumeFailed (same-refusal (Rt e) (Files VolumeFailed) is)); untouched = λ dead. refl }
  plan-keeps BadRecord a b v h = absurd h
  plan-keeps LineTooLong a b v h =
      record { only = λ is. absurd (differ (same-refusal LineTooLong (Files VolumeFailed) is)); untouched = λ dead. refl }
    where
      differ : LineTooLong ≡ Files VolumeFailed → ⊥
      differ is = cc
  plan-keeps Unread a b v h = absurd h

  pub copies-keep : (dir : FileId) (to : List ℕ) (protection blocks : ℕ) (a b : RtAccepted E met') (v w : Volume D met)
      → CopiesFrom of_volume disk m who lun name dir to protection blocks a b v w → KeepsSpent (given blocks) v w
  copies-keep dir to protection blocks a b v w h =
      made-keeps who lun blocks (FillsFromRt {met = met'} of_volume disk m who lun name h.many blocks)
      (FailsToFillFromRt {met = met'} of_volume disk m who lun name h.many blocks)
      (asks-to-fill of_volume who lun {met = met'} disk m name h.many blocks) blocks
      (as_file to dir protection h.attr []) h.between b v w (h.makes [])

  pub fails-keep : (f : FlxRefusal) (dir : FileId) (to : List ℕ) (protection : ℕ) (a b : RtAccepted E met') (v w : Volume D met)
      → FailsToCopyFrom of_volume disk m who lun name dir to protection f a b v w → KeepsSpent (refused f) v w
  fails-keep f dir to protection a b v w (inl h) = subst (λ x. KeepsSpent (refused f) v x) (sym h.unasked) (plan-keeps f a b v h.fails)
  fails-keep f dir to protection a b v w (inr h) =
      unmade-keeps who lun h.blocks (FillsFromRt {met = met'} of_volume disk m who lun name h.many h.blocks)
      (FailsToFillFromRt {met = met'} of_volume disk m who lun name h.many h.blocks)
      (asks-to-fill of_volume who lun {met = met'} disk m name h.many h.blocks) f
      (as_file to dir protection h.attr []) h.between b v w (h.fails [])

module _ {V : Type 0} (S : FilesService V) (who : Who) where
  unfailed-undoing : (r : Request) (f f' : FlxRefusal) (v w : V) → (f ≡ Rt Failed → ⊥) → Undoing S who r f f' v w → f' ≡ Rt Failed → ⊥
  unfailed-undoing r f f' v w other h = by (is_lethal f) h
    where
      chosen : (e : Refusal) (b : Bool) → (if b then Files e else f) ≡ Rt Failed → ⊥
      chosen e true is = rt-apart e Failed is
      chosen e false is = other is

      by : (b : Bool) → UndoingIf b S who r f f' v w → f' ≡ Rt Failed → ⊥
      by true h is = other (sym h.0 ∙ is)
      by false (inl h) is = other (sym h.same ∙ is)
      by false (inr h) is = chosen h.e (is_lethal (Files h.e)) (sym h.answer ∙ is)

-- and what it tells of the RT-11 volume
module _ {E : Type 0} {met : Ghosts E} (disk : E → Disk) where
  pub alive-keeps : (r : Result ℕ FlxRefusal) (a b : RtAccepted E met) → has_failed a ≡ false → (r ≡ Err (Rt Failed) → ⊥)
      → KeepsFailed disk r a b
  alive-keeps r a b alive other = record {
    only = λ is. absurd (other is);
    untouched = λ dead. absurd (true-false (sym dead ∙ alive));
  }

  pub refused-keeps : (e : RtRefusal) (a b : RtAccepted E met) → (has_failed a ≡ false → e ≢ Failed) →
      (has_failed a ≡ true → (e ≡ Failed) × (disk (volume_device b) ≡ disk (volume_device a))) → KeepsFailed disk (refused (Rt e)) a b
  refused-keeps e a b alive dead = record {
    only = λ is. by (has_failed a) refl (same (same-refusal (Rt e) (Rt Failed) is));
    untouched = λ is. (dead is).1;
  }
    where
      same : Rt e ≡ Rt Failed → e ≡ Failed
      same is = cc

      by : (x : Bool) → has_failed a ≡ x → e ≡ Failed → has_failed a ≡ true
      by true is failed = is
      by false is failed = absurd (alive is failed)

module _ {V E : Type 0} {met : Ghosts E} (S : FilesService V) (disk : E → Disk) (m : CopyMode) (who : Who) (lun : ℕ) (name : List ℕ) where
  fill-unfailed : (f : FlxRefusal) (many n : ℕ) (a b : RtAccepted E met) (v w : V) → has_failed a ≡ false
      → FailsToFillFromRt S disk m who lun name many n f a b v w → f ≡ Rt Failed → ⊥
  fill-unfailed (Files e) many n a b v w alive h is = rt-apart e Failed is
  fill-unfailed (Rt e) many n a b v w alive h is = h.stops.alive alive (same is)
    where
      same : Rt e ≡ Rt Failed → e ≡ Failed
      same is = cc
  fill-unfailed BadRecord many n a b v w alive h is = absurd h
  fill-unfailed LineTooLong many n a b v w alive h is = differ is
    where
      differ : LineTooLong ≡ Rt Failed → ⊥
      differ is = cc
  fill-unfailed Unread many n a b v w alive h is = absurd h

  make-unfailed : (f : FlxRefusal) (many n : ℕ) (making : Making) (a b : RtAccepted E met) (v w : V) → has_failed a ≡ false
      → FailsToMakeCopy S disk m who lun name many n making f a b v w → f ≡ Rt Failed → ⊥
  make-unfailed f many n making a b v w alive (inl h) is = rt-apart h.e Failed (sym h.is ∙ is)
  make-unfailed f many n making a b v w alive (inr (inl h)) is =
      unfailed-undoing S who (request.Delete h.id) h.f f h.left w (λ s. by h.fails s) h.undoes is
    where
      by : FailsToFillFile S disk m who lun name many n h.id h.f a b h.created h.left → h.f ≡ Rt Failed → ⊥
      by (inl k) s = rt-apart k.e Failed (sym k.is ∙ s)
      by (inr k) s =
          unfailed-undoing S who (request.Deaccess lun) k.f h.f k.left h.left (fill-unfailed k.f many n a b k.between k.left alive k.fails)
          k.undoes s
  make-unfailed f many n making a b v w alive (inr (inr h)) is =
      unfailed-undoing S who (request.Delete h.id) (Files h.e) f h.left w (rt-apart h.e Failed) h.undoes is

  plan-unfailed : (f : FlxRefusal) (a b : RtAccepted E met) → FailsToPlan disk m name f a b → KeepsFailed disk (refused f) a b
  plan-unfailed (Files e) a b h = absurd h
  plan-unfailed (Rt e) a b h = refused-keeps disk e a b h.alive h.dead
  plan-unfailed BadRecord a b h = absurd h
  plan-unfailed LineTooLong a b h =
      alive-keeps disk (refused LineTooLong) a b h.alive (λ is. differ (same-refusal LineTooLong (Rt Failed) is))
    where
      differ : LineTooLong ≡ Rt Failed → ⊥
      differ is = cc
  plan-unfailed Unread a b h = absurd h

  pub copies-unfailed : (dir : FileId) (to : List ℕ) (protection blocks : ℕ) (a b : RtAccepted E met) (v w : V)
      → CopiesFrom S disk m who lun name dir to protection blocks a b v w → KeepsFailed disk (given blocks) a b
  copies-unfailed dir to protection blocks a b v w h = alive-keeps disk (given blocks) a b h.plans.alive (no-answer blocks (Rt Failed))

  pub fails-unfailed : (f : FlxRefusal) (dir : FileId) (to : List ℕ) (protection : ℕ) (a b : RtAccepted E met) (v w : V)
      → FailsToCopyFrom S disk m who lun name dir to protection f a b v w → KeepsFailed disk (refused f) a b
  fails-unfailed f dir to protection a b v w (inl h) = plan-unfailed f a b h.fails
  fails-unfailed f dir to protection a b v w (inr h) =
      let making : Making = as_file to dir protection h.attr [] in
      alive-keeps disk (refused f) a b h.plans.alive
      (λ is. make-unfailed f h.many h.blocks making h.between b v w (stays-alive disk a h.between h.plans.looks h.plans.alive) (h.fails [])
      (same-refusal f (Rt Failed) is))
