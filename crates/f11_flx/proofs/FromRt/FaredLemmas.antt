-- What a copy from RT-11 tells of the device that its file is made on.
use Rattle.std.proofs.Common.{◌≡◌, inl, inr, ℕ, ◌+◌, ◌==◌, ◌||◌, Bool, true, false, IsTrue, if◌then◌else◌, List, [], ◌∷◌, ◌++◌, Result, Ok}
use Rattle.std.proofs.Common.{Err, refl, sym, ap, ◌∙◌, subst, arith}
use Rattle.std.proofs.lemmas.Bool.{or_right}
use Rattle.f11_dev.specs.Disk.{Disk}
use Rattle.f11_dev.specs.declared.device.Device.{Ghosts}
use Rattle.f11_store.specs.Ident.{ident_with}
use Rattle.f11_store.specs.Refusal.{refusal_number}
use Rattle.f11_store.specs.declared.files.FileId.{FileId}
use Rattle.f11_store.specs.declared.files.Mode.TheVariants as access
use Rattle.f11_store.specs.declared.refusals.Refusal.{Refusal}
use Rattle.f11_store.specs.declared.refusals.Refusal.TheVariants.{Damaged}
use Rattle.f11_store.specs.declared.requests.Reply.{Reply}
use Rattle.f11_store.specs.declared.requests.Request.{Request}
use Rattle.f11_store.specs.declared.requests.Request.TheVariants as request
use Rattle.f11_runs.proofs.AccessLemmas.{true-false}
use Rattle.f11_fcp.specs.files.Answers.{is_fatal, is_fault}
use Rattle.f11_fcp.specs.Lists.{failures_of, is_sound}
use Rattle.f11_fcp.specs.Serving.{StaysAccepted, is_spent, state_in}
use Rattle.f11_fcp.specs.declared.volume.Volume.{Volume}
use Rattle.f11_fcp.proofs.writes.LostLemmas.{lost-none, lost-then}
use Rattle.rt11_volume.specs.declared.volume.RtAccepted.{RtAccepted}
use Rattle.f11_making.specs.Asking.{Asking, BreaksOffAsking, Denies, Fails, Granted, Grants, Who, asks, told, writes_of}
use Rattle.f11_making.specs.Volume.{of_volume}
use Rattle.f11_flx.specs.Copying.{FaresFiles, of_files}
use Rattle.f11_making.specs.Making.{Making, as_file, creation, entry, opening}
use Rattle.f11_flx.specs.FromRt.{CopiesFrom, FailsToCopyFrom}
use Rattle.f11_flx.specs.Making.{AsksToFill, FailsToFillFromRt, FailsToFillOpened, FailsToMake, FillsFromRt, FillsOpened, IsBrokenOff}
use Rattle.f11_making.specs.Making.{extension, filling_of, is_created}
use Rattle.f11_flx.specs.Making.{MakesFile, Undoing, UndoingIf}
use Rattle.f11_flx.specs.Planning.{FailsToPlan}
use Rattle.f11_flx.specs.Refusal.{is_lethal}
use Rattle.f11_flx.specs.declared.mode.CopyMode.{CopyMode}
use Rattle.f11_flx.specs.declared.refusal.FlxRefusal.{FlxRefusal}
use Rattle.f11_flx.specs.declared.refusal.FlxRefusal.TheVariants.{BadRecord, Files, LineTooLong, Rt, Unread}
use Rattle.f11_flx.proofs.FromRt.MakingLemmas.{asks-to-fill}
use Rattle.f11_flx.proofs.SmallLemmas.{or-false}
use Rattle.f11_making.proofs.VolumeLemmas.{denied-fared, granted-fared, parts-sound, volume-seen}

abbrev refused : FlxRefusal → Result Unit FlxRefusal
refused f = Err f

abbrev done : Result Unit FlxRefusal
done = Ok tt

-- a refusal that is no device fault or Damaged tells of none
calm-fault : (f : FlxRefusal) → is_lethal f ≡ false → of_files is_fault (refused f) ≡ false
calm-fault (Files e) h = by (refusal_number e == 19) refl
  where
    by : (b : Bool) → (refusal_number e == 19) ≡ b → b ≡ false
    by true is = absurd (true-false (sym (ap (λ b. b || (refusal_number e == 20)) is) ∙ h))
    by false is = refl
calm-fault (Rt e) h = refl
calm-fault BadRecord h = refl
calm-fault LineTooLong h = refl
calm-fault Unread h = refl

calm-fatal : (f : FlxRefusal) → is_lethal f ≡ false → of_files is_fatal (refused f) ≡ false
calm-fatal (Files e) h = h
calm-fatal (Rt e) h = refl
calm-fatal BadRecord h = refl
calm-fatal LineTooLong h = refl
calm-fatal Unread h = refl

module _ {D : Type 0} {met : Ghosts D} where
  -- a volume is what it was
  pub accepted : (v : Volume D met) → StaysAccepted (state_in v)
  accepted v = v.files.accepted

  pub calm-none : (v : Volume D met) → FaresFiles done v v
  calm-none v = record {
    failures = omega arith;
    quiet = λ fault. absurd (cc);
    honest = refl;
    next = λ honest. sym (or-false (is_spent v));
    spent = λ is. or-false (is_spent v) ∙ is;
    accepted = accepted v;
    lost = lost-none (is_spent v) (state_in v).disk;
  }

  -- what is told by an answer of which these hold is told by another of which they do
  pub alike : {T U : Type 0} (a : Result T FlxRefusal) (b : Result U FlxRefusal) (v w : Volume D met)
      → of_files is_fault a ≡ of_files is_fault b → of_files is_fatal a ≡ of_files is_fatal b → FaresFiles b v w → FaresFiles a v w
  alike a b v w fault fatal h = record {
    failures = h.failures ∙ ap (λ x. failures_of v + (if x then 1 else 0)) (sym fault);
    quiet = λ is. h.quiet (sym fault ∙ is);
    honest = h.honest;
    next = λ honest. h.next honest ∙ ap (λ x. is_spent v || x) (sym fatal);
    spent = λ is. ap (λ x. is_spent v || x) fatal ∙ h.spent is;
    accepted = h.accepted;
    lost = h.lost;
  }

  as-calm : (f : FlxRefusal) (v w : Volume D met) → is_lethal f ≡ false → FaresFiles (refused f) v w → FaresFiles done v w
  as-calm f v w h k = alike done (refused f) v w (sym (calm-fault f h)) (sym (calm-fatal f h)) k

  pub of-calm : (f : FlxRefusal) (v w : Volume D met) → is_lethal f ≡ false → FaresFiles done v w → FaresFiles (refused f) v w
  of-calm f v w h k = alike (refused f) done v w (calm-fault f h) (calm-fatal f h) k

  -- and then
  pub calm-then : (r : Result Unit FlxRefusal) (u v w : Volume D met) → FaresFiles done u v → FaresFiles r v w → FaresFiles r u w
  calm-then r u v w h k = record {
    failures = k.failures ∙ ap (λ n. n + (if of_files is_fault r then 1 else 0)) (h.failures ∙ plus-none (failures_of u));
    quiet = k.quiet;
    honest = k.honest ∙ h.honest;
    next = λ honest. k.next (subst IsTrue (sym h.honest) honest)
        ∙ ap (λ x. x || of_files is_fatal r) (h.next honest ∙ or-false (is_spent u));
    spent = λ is. still (is_spent v) (of_files is_fatal r) refl (k.spent is);
    accepted = k.accepted;
    lost = lost-then _ _ _ _ _ _ h.lost k.lost;
  }
    where
      plus-none : (n : ℕ) → n + 0 ≡ n
      plus-none n = omega arith

      still : (b c : Bool) → is_spent v ≡ b → (b || c) ≡ true → (is_spent u || c) ≡ true
      still true c is h' = ap (λ x. x || c) (sym (or-false (is_spent u)) ∙ h.spent is)
      still false true is h' = or_right (is_spent u) true refl
      still false false is h' = absurd (true-false (sym h'))

  fares-granted : (who : Who) (x : Asking) (v w : Volume D met) → Grants of_volume who x v w → FaresFiles done v w
  fares-granted who x v w g =
      let h = granted-fared who x v w g in
      record {
        failures = h.failures;
        quiet = h.quiet;
        honest = h.honest;
        next = λ honest. h.next;
        spent = λ is. sym h.next ∙ is;
        accepted = h.accepted;
        lost = h.lost;
      }

  fares-denied : (who : Who) (x : Asking) (e : Refusal) (v w : Volume D met) → Denies of_volume who x e v w
      → FaresFiles (refused (Files e)) v w
  fares-denied who x e v w d =
      let h = denied-fared who x e v w d in
      record {
        failures = h.failures;
        quiet = h.quiet;
        honest = h.honest;
        next = λ honest. h.next;
        spent = λ is. sym h.next ∙ is;
        accepted = h.accepted;
        lost = h.lost;
      }

  pub fares-all : (who : Who) (xs : List Asking) (v w : Volume D met) → Granted of_volume who xs v w → FaresFiles done v w
  fares-all who [] v w h = subst (λ x. FaresFiles done v x) (sym h) (calm-none v)
  fares-all who (x ∷ xs) v w h = calm-then done v h.0 w (fares-granted who x v h.0 h.1) (fares-all who xs h.0 w h.2)

  pub fares-breaking : (who : Who) (xs : List Asking) (e : Refusal) (v w : Volume D met) → BreaksOffAsking of_volume who xs e v w
      → FaresFiles (refused (Files e)) v w
  fares-breaking who [] e v w h = absurd h
  fares-breaking who (x ∷ xs) e v w (inl h) = fares-denied who x e v w h
  fares-breaking who (x ∷ xs) e v w (inr h) =
      calm-then (refused (Files e)) v h.0 w (fares-granted who x v h.0 h.1) (fares-breaking who xs e h.0 w h.2)

  fares-undoing : (who : Who) (r : Request) (f f' : FlxRefusal) (u v w : Volume D met) → FaresFiles (refused f) u v
      → Undoing of_volume who r f f' v w → FaresFiles (refused f') u w
  fares-undoing who r f f' u v w h k = by (is_lethal f) refl k
    where
      chosen : (e : Refusal) (b : Bool) → is_lethal f ≡ false → is_lethal (Files e) ≡ b → FaresFiles (refused (Files e)) v w
          → FaresFiles (refused (if b then Files e else f)) u w
      chosen e true is lethal d = calm-then (refused (Files e)) u v w (as-calm f u v is h) d
      chosen e false is lethal d = calm-then (refused f) u v w (as-calm f u v is h) (of-calm f v w is (as-calm (Files e) v w lethal d))

      by : (b : Bool) → is_lethal f ≡ b → UndoingIf b of_volume who r f f' v w → FaresFiles (refused f') u w
      by true is k = subst (λ x. FaresFiles (refused x) u w) (sym k.0) (subst (λ x. FaresFiles (refused f) u x) (sym k.1) h)
      by false is (inl k) =
          subst (λ x. FaresFiles (refused x) u w) (sym k.same)
          (calm-then (refused f) u v w (as-calm f u v is h) (of-calm f v w is (fares-granted who (asks r) v w k.granted)))
      by false is (inr k) =
          subst (λ x. FaresFiles (refused x) u w) (sym k.answer)
          (chosen k.e (is_lethal (Files k.e)) is refl (fares-denied who (asks r) k.e v w k.denied))

  -- a reply of another kind, as no honest device gives
  fares-wrong : (who : Who) (protection : ℕ) (ident attr : List ℕ) (a : Reply) (v w : Volume D met) → is_created a ≡ false
      → Grants of_volume who (told (request.Create protection ident attr) a) v w →
      FaresFiles (refused (Files Damaged)) v w
  fares-wrong who protection ident attr a v w wrong g =
      let h = granted-fared who (told (request.Create protection ident attr) a) v w g in
      record {
        failures = h.failures;
        quiet = λ fault. absurd (cc);
        honest = h.honest;
        next = λ honest. never honest (is_spent v) refl;
        spent = λ is. or_right (is_spent v) true refl;
        accepted = h.accepted;
        lost = h.lost;
      }
    where
      never : IsTrue (state_in v).disk.honest → (b : Bool) → is_spent v ≡ b → is_spent w ≡ (is_spent v || true)
      never honest true is =
          (granted-fared who (told (request.Create protection ident attr) a) v w g).next ∙ ap (λ x. x || false) is
          ∙ sym (ap (λ x. x || true) is)
      never honest false is =
          let sound : is_sound v ≡ true = parts-sound (state_in v).disk.honest (is_spent v) honest is in
          let step = (volume-seen.granted who (told (request.Create protection ident attr) a) v w g sound).0.2 in
          let right : is_created a ≡ true = ap is_created step.reply_is in
          absurd (true-false (sym right ∙ wrong))

  fares-uncreated : (who : Who) (making : Making) (e : Refusal) (v w : Volume D met)
      → Fails of_volume who is_created (request.Create 0 (ident_with making.name) making.attr) e v w → FaresFiles (refused (Files e)) v w
  fares-uncreated who making e v w (inl h) = fares-denied who (asks (request.Create 0 (ident_with making.name) making.attr)) e v w h
  fares-uncreated who making e v w (inr h) =
      subst (λ x. FaresFiles (refused (Files x)) v w) (sym h.2) (fares-wrong who 0 (ident_with making.name) making.attr h.0 v w h.1 h.3)

-- the making of a file from any source
module _ {D : Type 0} {met : Ghosts D} (who : Who) (lun n : ℕ) where
  broken-fares : (f : FlxRefusal) (v w : Volume D met) → IsBrokenOff of_volume who lun n f v w → FaresFiles (refused f) v w
  broken-fares (Files e) v w h = fares-breaking who (filling_of lun n h.0) e v w h.1
  broken-fares (Rt e) v w h =
      alike (refused (Rt e)) done v w refl refl (fares-all who (extension lun n ++ writes_of lun 0 h.0) v w h.1)
  broken-fares BadRecord v w h =
      alike (refused BadRecord) done v w refl refl (fares-all who (extension lun n ++ writes_of lun 0 h.0) v w h.1)
  broken-fares LineTooLong v w h =
      alike (refused LineTooLong) done v w refl refl (fares-all who (extension lun n ++ writes_of lun 0 h.0) v w h.1)
  broken-fares Unread v w h =
      alike (refused Unread) done v w refl refl (fares-all who (extension lun n ++ writes_of lun 0 h.0) v w h.1)

module _ {D H : Type 0} {met : Ghosts D} (who : Who) (lun n : ℕ) (Fills : H → H → Volume D met → Volume D met → Type 0)
    (Fails : FlxRefusal → H → H → Volume D met → Volume D met → Type 0) (asking : AsksToFill of_volume who lun n Fills Fails) where
  filled-fares : (id : FileId) (a b : H) (v w : Volume D met) → FillsOpened of_volume who lun Fills id a b v w → FaresFiles done v w
  filled-fares id a b v w h =
      let all = asking.fills a b h.between w h.fills in
      calm-then done v h.between w (fares-all who (opening lun id) v h.between h.opened)
      (fares-all who (filling_of lun n all.0) h.between w all.1)

  fill-file-fares : (f : FlxRefusal) (id : FileId) (a b : H) (v w : Volume D met) → FailsToFillOpened of_volume who lun Fails id f a b v w
      → FaresFiles (refused f) v w
  fill-file-fares f id a b v w (inl h) =
      subst (λ x. FaresFiles (refused x) v w) (sym h.is) (fares-denied who (asks (request.Access id access.Write lun)) h.e v w h.denied)
  fill-file-fares f id a b v w (inr h) =
      calm-then (refused f) v h.between w (fares-all who (opening lun id) v h.between h.opened)
      (fares-undoing who (request.Deaccess lun) h.f f h.between h.left w
      (broken-fares who lun n h.f h.between h.left (asking.fails h.f a b h.between h.left h.fails)) h.undoes)

  pub made-fares : (making : Making) (a b : H) (v w : Volume D met) → MakesFile of_volume who lun Fills making a b v w → FaresFiles done v w
  made-fares making a b v w h =
      calm-then done v h.created w (fares-all who (creation making h.id) v h.created h.creates)
      (calm-then done h.created h.filled w (filled-fares h.id a b h.created h.filled h.fills)
      (fares-all who (entry making h.id) h.filled w h.enters))

  pub unmade-fares : (f : FlxRefusal) (making : Making) (a b : H) (v w : Volume D met)
      → FailsToMake of_volume who lun Fills Fails making f a b v w → FaresFiles (refused f) v w
  unmade-fares f making a b v w (inl h) = subst (λ x. FaresFiles (refused x) v w) (sym h.is) (fares-uncreated who making h.e v w h.fails)
  unmade-fares f making a b v w (inr (inl h)) =
      calm-then (refused f) v h.created w (fares-all who (creation making h.id) v h.created h.creates)
      (fares-undoing who (request.Delete h.id) h.f f h.created h.left w (fill-file-fares h.f h.id a b h.created h.left h.fails) h.undoes)
  unmade-fares f making a b v w (inr (inr h)) =
      calm-then (refused f) v h.created w (fares-all who (creation making h.id) v h.created h.creates)
      (calm-then (refused f) h.created h.filled w (filled-fares h.id a b h.created h.filled h.fills)
      (fares-undoing who (request.Delete h.id) (Files h.e) f h.filled h.left w
      (fares-breaking who (entry making h.id) h.e h.filled h.left h.breaks) h.undoes))

module _ {D E : Type 0} {met : Ghosts D} {met' : Ghosts E} (disk : E → Disk) (m : CopyMode) (who : Who) (lun : ℕ) (name : List ℕ) where
  plan-fares : (f : FlxRefusal) (a b : RtAccepted E met') (v : Volume D met) → FailsToPlan disk m name f a b → FaresFiles (refused f) v v
  plan-fares (Files e) a b v h = absurd h
  plan-fares (Rt e) a b v h = alike (refused (Rt e)) done v v refl refl (calm-none v)
  plan-fares BadRecord a b v h = absurd h
  plan-fares LineTooLong a b v h = alike (refused LineTooLong) done v v refl refl (calm-none v)
  plan-fares Unread a b v h = absurd h

  pub copies-fares : (dir : FileId) (to : List ℕ) (protection blocks : ℕ) (a b : RtAccepted E met') (v w : Volume D met)
      → CopiesFrom of_volume disk m who lun name dir to protection blocks a b v w → FaresFiles done v w
  copies-fares dir to protection blocks a b v w h =
      made-fares who lun blocks (FillsFromRt {met = met'} of_volume disk m who lun name h.many blocks)
      (FailsToFillFromRt {met = met'} of_volume disk m who lun name h.many blocks)
      (asks-to-fill of_volume who lun {met = met'} disk m name h.many blocks)
      (as_file to dir protection h.attr []) h.between b v w (h.makes [])

  pub fails-fares : (f : FlxRefusal) (dir : FileId) (to : List ℕ) (protection : ℕ) (a b : RtAccepted E met') (v w : Volume D met)
      → FailsToCopyFrom of_volume disk m who lun name dir to protection f a b v w → FaresFiles (refused f) v w
  fails-fares f dir to protection a b v w (inl h) = subst (λ x. FaresFiles (refused f) v x) (sym h.unasked) (plan-fares f a b v h.fails)
  fails-fares f dir to protection a b v w (inr h) =
      unmade-fares who lun h.blocks (FillsFromRt {met = met'} of_volume disk m who lun name h.many h.blocks)
      (FailsToFillFromRt {met = met'} of_volume disk m who lun name h.many h.blocks)
      (asks-to-fill of_volume who lun {met = met'} disk m name h.many h.blocks) f
      (as_file to dir protection h.attr []) h.between b v w (h.fails [])
