-- A file of the host that is put on a volume by its name.
use Rattle.std.proofs.Common.{◌≡◌, ◌⊎◌, inl, inr, ℕ, zero, suc, true, false, not, IsTrue, List, [], Option, Some, Result, Ok, Err, IfOk}
use Rattle.std.proofs.Common.{IfErr, refl}
use Rattle.std.proofs.Common.{sym, ap, ◌∙◌, subst, arith}
use Rattle.std.proofs.KnownBytes.{Consumes-nil}
use Rattle.f11_dev.specs.Disk.{Disk}
use Rattle.f11_dev.specs.Image.{IsImage}
use Rattle.f11_dev.specs.declared.device.Device.{Ghosts}
use Rattle.f11_serving.specs.fcp.Lists.{is_sound, store_of_volume}
use Rattle.f11_serving.specs.fcp.Accesses.{held_in, no_entries}
use Rattle.f11_serving.specs.fcp.Mounting.{Mounts}
use Rattle.f11_serving.specs.fcp.Serving.{is_spent, state_in}
use Rattle.f11_serving.specs.fcp.declared.volume.Volume.{Volume}
use Rattle.f11_serving.specs.files.Answers.{is_fatal, is_fault}
use Rattle.f11_flx.proofs.Made.CopyLemmas.{stated_end-image, stated_end-text}
use Rattle.f11_making.specs.Fares.{Fares}
use Rattle.f11_making.proofs.VolumeLemmas.{denied-fared, granted-fared, volume-seen}
use Rattle.f11_flx.proofs.Made.TriedLemmas.{asked-for-one}
use Rattle.f11_making.specs.Asking.{Asking, Denies, Fails, Grants, Tried, Who, asks, plain, told, who_asks}
use Rattle.f11_making.specs.Volume.{of_volume}
use Rattle.f11_flx.specs.Copying.{MayMake, MayMakeStated, is_whole}
use Rattle.f11_home.specs.Home.{HomeFields}
use Rattle.f11_flx.specs.declared.lines.Extent.{Extent}
use Rattle.f11_flx.specs.declared.mode.CopyMode.{CopyMode}
use Rattle.f11_flx.specs.declared.mode.CopyMode.TheVariants as mode
use Rattle.f11_host.specs.CopyFromHost.{AsksForImage, CopiesFromHost, FailsToCopyFromHost, HoldHost, ReadsHost, as_image, image_attr}
use Rattle.f11_host.specs.CopyTextFromHost.{AsksForText, CopiesTextFromHost, FailsToCopyTextFromHost, HoldText, ReadsTexts}
use Rattle.f11_host.specs.Pieces.{blocks_for}
use Rattle.f11_host.specs.TextFilling.{as_text}
use Rattle.f11_host.specs.Refusal.{as_copy, copy_result}
use Rattle.f11_host.specs.declared.refusal.HostRefusal.{HostRefusal}
use Rattle.f11_host.specs.declared.refusal.HostRefusal.TheVariants.{Files, LineTooLong, Unread}
use Rattle.f11_catalog.specs.image_store.StoreOf.{store_of}
use Rattle.f11_store.specs.File.{File, end_of}
use Rattle.f11_store.specs.Store.{Store}
use Rattle.f11_store.specs.declared.files.FileId.{FileId}
use Rattle.f11_store.specs.declared.refusals.Refusal.{Refusal}
use Rattle.f11_store.specs.declared.requests.Reply.{Reply}
use Rattle.f11_store.specs.declared.requests.Reply.TheVariants as reply
use Rattle.f11_store.specs.declared.requests.Request.{Request}
use Rattle.f11_store.specs.declared.requests.Request.TheVariants as request
use Rattle.f11_volume.specs.Verdict.{IsAccepted}
use Rattle.f11_making.proofs.AskedLemmas.{never, tried-home}
use Rattle.f11_commands.proofs.CopyLemmas.{first-is, last-is, sound-first, stands-accepted, still-alive}
use Rattle.f11_commands.proofs.StoppingLemmas.{alive-of, failed-by, find-leaves, find-stopped, honest-of, request-stopped, stops-by, stored}
use Rattle.f11_commands.proofs.MomentsLemmas.{asked-alone, asked-stood, at, disk, file-stood, stood-both, stood-looked, stood-none}
use Rattle.f11_commands.proofs.MomentsLemmas.{stood-then, stood-weaker, whole-stood}
use Rattle.f11_commands.proofs.WholeLemmas.{ends-whole}
use Rattle.f11_commands.proofs.NamedLemmas.{alone-denied, alone-not-found, alone-onward, not-found-seen, undamaged-asked}
use Rattle.f11_commands.proofs.PutSlotsLemmas.{growth-keeps, growth-unheld, no-fault}
use Rattle.f11_commands.specs.CopyCommand.{VerifiesFiles}
use Rattle.f11_commands.specs.Copying.{master_directory, operator}
use Rattle.f11_commands.specs.Finding.{is_found}
use Rattle.f11_commands.specs.PutCommand.{FailsFor, HoldFor, Hosts, MakesFor, ReadsFor}
use Rattle.f11_commands.specs.PutCommand.{EndsAccepted, EndsPutting, PutsBehindSlots, PutsByName, PutsInto, PutsNamed, PutsOnImage}
use Rattle.f11_commands.specs.PutSlots.{AsksForSlots, slots_before}
use Rattle.f11_commands.specs.PutCommand.{TellsKeptFile}
use Rattle.f11_commands.specs.Stopping.{EndsWhole, IsStopped, IsUnheld, Stood, StopsBehindSlots, StopsFile, StopsInto, StopsPut}
use Rattle.f11_commands.specs.Stopping.{StopsPutting, WhereUnheld, growing, grown, making, seeking}
use Rattle.f11_commands.specs.declared.outcome.FileAnswer.{FileAnswer}
use Rattle.f11_commands.specs.declared.put.Putting.{Putting}
use Rattle.f11_commands.specs.declared.rt_put.PutFailure.{PutFailure}

-- by the first task and its first lun
by-first : (task lun : ℕ) → task ≡ 0 → lun ≡ 0 → (By : Who → ℕ → Type 0) → By (who_asks task operator.caller) lun → By operator 0
by-first task lun task-is lun-is By h =
    subst (λ l. By operator l) lun-is (subst (λ t. By (who_asks t operator.caller) lun) task-is h)

-- how a text was read
texts-for : (bytes : ℕ) (u u' : Hosts) (result : Result ℕ HostRefusal) → ReadsTexts bytes result u.first u'.first u.again u'.again
    → ReadsFor mode.Text bytes result u u'
texts-for bytes u u' (Ok blocks) h = h
texts-for bytes u u' (Err (Files e)) h = inr h
texts-for bytes u u' (Err Unread) h = h
texts-for bytes u u' (Err LineTooLong) h = h

-- nothing was read
unread-for : (bytes : ℕ) (u : Hosts) (m : CopyMode) (e : Refusal) → ReadsFor m bytes (Err (Files e)) u u
unread-for bytes u mode.Image e = ((λ clean. record { taken = []; few = omega arith; takes = Consumes-nil u.first }), refl)
unread-for bytes u mode.Text e = inl refl

-- the look for the directory was stopped
sought : (p : Putting) (bytes : ℕ) (h h' : Hosts) (a : Reply) (s t : Store)
    → IsStopped (told (request.Find master_directory p.directory) a) s t
    → StopsPut p (HoldFor p.mode bytes h h') s t
sought p bytes h h' a s t stopped =
    let r : Request = request.Find master_directory p.directory in
    let alone : IsStopped (asks r) s t = asked-alone r a s t stopped in
    seeking alone (find-leaves master_directory p.directory s t alone)

-- a file that ends at its beginning, or holds the copy of a text
text-held : (bytes : ℕ) (plan : Extent) (u u' : Hosts) (f : File) → (end_of f ≡ 0) ⊎ (HoldText bytes plan u.again u'.again f.blocks)
    → (end_of f ≡ 0) ⊎ (HoldFor mode.Text bytes u u' f.blocks)
text-held bytes plan u u' f (inl none) = inl none
text-held bytes plan u u' f (inr holds) = inr (plan, holds)

module _ {D : Type 0} {met : Ghosts D} (p : Putting) (bytes : ℕ) (u : Hosts) where
  -- in what order what makes the file is asked, and what is left where that is stopped
  abbrev AsksFor : CopyMode → Volume D met → Volume D met → FileId → Hosts → Type 0
  AsksFor mode.Image v w dir u' = AsksForImage of_volume bytes u.first u'.first operator 0 dir p.name 0 v w
  AsksFor mode.Text v w dir u' = AsksForText of_volume bytes u.again u'.again operator 0 dir p.name 0 v w

  whole-for : (m : CopyMode) (dir : FileId) (u' : Hosts) (v w : Volume D met) → is_sound v ≡ true → is_spent w ≡ true
      → IsUnheld (store_of_volume v) → AsksFor m v w dir u' → EndsWhole dir (HoldFor m bytes u u') (store_of_volume v) (stored w)
  whole-for mode.Image dir u' v w sound dead unheld order =
      ends-whole (as_image p.name dir 0 bytes []) (stated_end-image (blocks_for bytes) 0) (HoldHost bytes u.first u'.first) v sound unheld w
      dead order
  whole-for mode.Text dir u' v w sound dead unheld (inl same) =
      never (sym (ap (λ (x : Volume D met). is_spent x) same) ∙ dead) (alive-of (state_in v).disk.honest (is_spent v) sound)
  whole-for mode.Text dir u' v w sound dead unheld (inr (plan, order)) = λ apart f there.
      text-held bytes plan u u' f (ends-whole (as_text p.name dir 0 plan []) (stated_end-text plan.longest plan.blocks 0)
      (HoldText bytes plan u.again u'.again) v sound unheld w dead order apart f there)

  whole-stood-for : (m : CopyMode) (dir : FileId) (u' : Hosts) (v w : Volume D met) → is_sound v ≡ true → IsUnheld (store_of_volume v)
      → AsksFor m v w dir u'
      → Stood (λ image. EndsWhole dir (HoldFor m bytes u u') (store_of_volume v) (at v image)) (disk v) (disk w)
  whole-stood-for mode.Image dir u' v w sound unheld order =
      whole-stood (as_image p.name dir 0 bytes []) (stated_end-image (blocks_for bytes) 0) (HoldHost bytes u.first u'.first) v w sound
      unheld order
  whole-stood-for mode.Text dir u' v w sound unheld (inl same) =
      subst (λ (x : Volume D met). Stood (λ image. EndsWhole dir (HoldFor mode.Text bytes u u') (store_of_volume v) (at v image)) (disk v)
      (disk x)) (sym same)
      (stood-none (λ image. EndsWhole dir (HoldFor mode.Text bytes u u') (store_of_volume v) (at v image)) (disk v))
  whole-stood-for mode.Text dir u' v w sound unheld (inr (plan, order)) =
      stood-weaker (λ image. EndsWhole dir (HoldText bytes plan u.again u'.again) (store_of_volume v) (at v image))
      (λ image. EndsWhole dir (HoldFor mode.Text bytes u u') (store_of_volume v) (at v image)) (disk v) (disk w)
      (λ image ends. λ apart f there. text-held bytes plan u u' f (ends apart f there))
      (whole-stood (as_text p.name dir 0 plan []) (stated_end-text plan.longest plan.blocks 0) (HoldText bytes plan u.again u'.again) v w
      sound unheld order)

  -- the file was to be made in a directory
  made-in : (dir : FileId) (attr : List ℕ) (result : Result ℕ HostRefusal) (u' : Hosts) (v w : Volume D met)
      → MayMake (copy_result result) operator 0 dir p.name 0 (Some attr) v w
      → AsksFor p.mode v w dir u' → ReadsFor p.mode bytes result u u'
      → IfOk result (λ blocks. is_sound v ≡ true
      → MakesFor p.mode bytes blocks u u' dir p.name (store_of_volume v) (store_of_volume w))
      → IfErr result (λ e. is_whole (copy_result result) ≡ true → is_sound v ≡ true
      → FailsFor p.mode e bytes u u' dir p.name (store_of_volume v) (store_of_volume w))
      → PutsNamed p.mode bytes result u u' (PutsInto p bytes dir result u u')
      (WhereUnheld (StopsPutting dir p.name (HoldFor p.mode bytes u u'))) v w
  made-in dir attr result u' v w files order host copied refused = record {
    fares = record {
      fares = files.fares;
      alive = λ alive is. never (files.keeps.only is) alive;
      home = tried-home operator asked.0 v w asked.1;
      undamaged = undamaged-asked operator (copy_result result) v w files.fares asked.0 asked.1;
    };
    host = host;
    outcome = by result files copied refused;
    stops = λ sound fault unheld. record {
      attr = attr;
      stops = stops-by dir p.name (Some attr) (copy_result result) v w files.fares files.asked sound fault unheld;
      whole = whole-for p.mode dir u' v w sound (failed-by (copy_result result) v w files.fares sound fault) unheld order;
    };
    moments = λ sound unheld.
        stood-weaker (λ image. StopsFile dir p.name (Some attr) (store_of_volume v) (at v image)
        × EndsWhole dir (HoldFor p.mode bytes u u') (store_of_volume v) (at v image))
        (λ image. WhereUnheld (StopsPutting dir p.name (HoldFor p.mode bytes u u')) (store_of_volume v) (at v image))
        (disk v) (disk w) (λ image is. λ unheld. record { attr = attr; stops = is.0; whole = is.1 })
        (stood-both (λ image. StopsFile dir p.name (Some attr) (store_of_volume v) (at v image))
        (λ image. EndsWhole dir (HoldFor p.mode bytes u u') (store_of_volume v) (at v image)) (disk v) (disk w)
        (file-stood dir p.name (Some attr) v w sound files.asked unheld) (whole-stood-for p.mode dir u' v w sound unheld order));
  }
    where
      asked : (xs : List Asking) × Tried of_volume operator xs v w
      asked = asked-for-one of_volume operator 0 dir p.name 0 (Some attr) v w files.asked

      by : (r : Result ℕ HostRefusal) → MayMake (copy_result r) operator 0 dir p.name 0 (Some attr) v w
          → IfOk r (λ blocks. is_sound v ≡ true
          → MakesFor p.mode bytes blocks u u' dir p.name (store_of_volume v) (store_of_volume w))
          → IfErr r (λ e. is_whole (copy_result r) ≡ true → is_sound v ≡ true
          → FailsFor p.mode e bytes u u' dir p.name (store_of_volume v) (store_of_volume w))
          → is_sound v ≡ true → is_whole (copy_result r) ≡ true
          → PutsInto p bytes dir r u u' (store_of_volume v) (store_of_volume w)
      by (Ok blocks) files copied refused sound whole = copied sound
      by (Err e) files copied refused sound whole =
          record { refused = refused whole sound; undone = files.undone (as_copy e) refl sound whole }

  pub put-image : p.mode ≡ mode.Image → (task lun : ℕ) → task ≡ 0 → lun ≡ 0 → (dir : FileId) (result : Result ℕ HostRefusal)
      (u' : Hosts) (v w : Volume D met)
      → MayMake (copy_result result) (who_asks task operator.caller) lun dir p.name 0 (Some (image_attr bytes)) v w
      → AsksForImage of_volume bytes u.first u'.first (who_asks task operator.caller) lun dir p.name 0 v w
      → ReadsHost bytes result u.first u'.first → u'.again ≡ u.again
      → IfOk result (λ blocks. is_sound v ≡ true → CopiesFromHost bytes u.first u'.first (who_asks task operator.caller) lun dir p.name 0
      (store_of_volume v) (store_of_volume w))
      → IfErr result (λ e. is_whole (copy_result result) ≡ true → is_sound v ≡ true
      → FailsToCopyFromHost e bytes u.first u'.first (who_asks task operator.caller) lun dir p.name 0 (store_of_volume v)
      (store_of_volume w))
      → PutsNamed p.mode bytes result u u' (PutsInto p bytes dir result u u')
      (WhereUnheld (StopsPutting dir p.name (HoldFor p.mode bytes u u'))) v w
  put-image is task lun task-is lun-is dir result u' v w files order host stays copied refused =
      made-in dir (image_attr bytes) result u' v w
      (by-first task lun task-is lun-is (λ who l. MayMake (copy_result result) who l dir p.name 0 (Some (image_attr bytes)) v w) files)
      (subst (λ m. AsksFor m v w dir u') (sym is)
      (by-first task lun task-is lun-is (λ who l. AsksForImage of_volume bytes u.first u'.first who l dir p.name 0 v w) order))
      (subst (λ m. ReadsFor m bytes result u u') (sym is) (host, stays))
      (subst (λ m. IfOk result (λ blocks. is_sound v ≡ true → MakesFor m bytes blocks u u' dir p.name (store_of_volume v)
      (store_of_volume w))) (sym is)
      (by-first task lun task-is lun-is (λ who l. IfOk result (λ blocks. is_sound v ≡ true
      → CopiesFromHost bytes u.first u'.first who l dir p.name 0 (store_of_volume v) (store_of_volume w))) copied))
      (subst (λ m. IfErr result (λ e. is_whole (copy_result result) ≡ true → is_sound v ≡ true
      → FailsFor m e bytes u u' dir p.name (store_of_volume v) (store_of_volume w))) (sym is)
      (by-first task lun task-is lun-is (λ who l. IfErr result (λ e. is_whole (copy_result result) ≡ true → is_sound v ≡ true
      → FailsToCopyFromHost e bytes u.first u'.first who l dir p.name 0 (store_of_volume v) (store_of_volume w))) refused))

  pub put-text : p.mode ≡ mode.Text → (task lun : ℕ) → task ≡ 0 → lun ≡ 0 → (dir : FileId) (result : Result ℕ HostRefusal)
      (u' : Hosts) (v w : Volume D met) → MayMakeStated (copy_result result) (who_asks task operator.caller) lun dir p.name 0 v w
      → AsksForText of_volume bytes u.again u'.again (who_asks task operator.caller) lun dir p.name 0 v w
      → ReadsTexts bytes result u.first u'.first u.again u'.again
      → IfOk result (λ blocks. is_sound v ≡ true → CopiesTextFromHost bytes blocks u.again u'.again (who_asks task operator.caller) lun dir
      p.name 0 (store_of_volume v) (store_of_volume w))
      → IfErr result (λ e. is_whole (copy_result result) ≡ true → is_sound v ≡ true
      → FailsToCopyTextFromHost e bytes u.first u'.first u.again u'.again (who_asks task operator.caller) lun dir p.name 0
      (store_of_volume v) (store_of_volume w))
      → PutsNamed p.mode bytes result u u' (PutsInto p bytes dir result u u')
      (WhereUnheld (StopsPutting dir p.name (HoldFor p.mode bytes u u'))) v w
  put-text is task lun task-is lun-is dir result u' v w files order host copied refused =
      let made = by-first task lun task-is lun-is (λ who l. MayMakeStated (copy_result result) who l dir p.name 0 v w) files in
      made-in dir made.0 result u' v w made.1
      (subst (λ m. AsksFor m v w dir u') (sym is)
      (by-first task lun task-is lun-is (λ who l. AsksForText of_volume bytes u.again u'.again who l dir p.name 0 v w) order))
      (subst (λ m. ReadsFor m bytes result u u') (sym is) (texts-for bytes u u' result host))
      (subst (λ m. IfOk result (λ blocks. is_sound v ≡ true → MakesFor m bytes blocks u u' dir p.name (store_of_volume v)
      (store_of_volume w))) (sym is)
      (by-first task lun task-is lun-is (λ who l. IfOk result (λ blocks. is_sound v ≡ true
      → CopiesTextFromHost bytes blocks u.again u'.again who l dir p.name 0 (store_of_volume v) (store_of_volume w))) copied))
      (subst (λ m. IfErr result (λ e. is_whole (copy_result result) ≡ true → is_sound v ≡ true
      → FailsFor m e bytes u u' dir p.name (store_of_volume v) (store_of_volume w))) (sym is)
      (by-first task lun task-is lun-is (λ who l. IfErr result (λ e. is_whole (copy_result result) ≡ true → is_sound v ≡ true
      → FailsToCopyTextFromHost e bytes u.first u'.first u.again u'.again who l dir p.name 0 (store_of_volume v) (store_of_volume w)))
      refused))

  -- the same, said of less
  put-weaker : (result : Result ℕ HostRefusal) (u' : Hosts) (Holds Holds' Stops Stops' : Store → Store → Type 0) (v w : Volume D met)
      → PutsNamed p.mode bytes result u u' Holds (WhereUnheld Stops) v w
      → (is_sound v ≡ true → Holds (store_of_volume v) (store_of_volume w) → Holds' (store_of_volume v) (store_of_volume w))
      → (is_sound v ≡ true → (t : Store) → Stops (store_of_volume v) t → Stops' (store_of_volume v) t)
      → PutsNamed p.mode bytes result u u' Holds' (WhereUnheld Stops') v w
  put-weaker result u' Holds Holds' Stops Stops' v w a hold on = record {
    fares = a.fares;
    host = a.host;
    outcome = λ sound whole. hold sound (a.outcome sound whole);
    stops = λ sound fault unheld. on sound (stored w) (a.stops sound fault unheld);
    moments = λ sound unheld.
        stood-weaker (λ image. WhereUnheld Stops (store_of_volume v) (at v image))
        (λ image. WhereUnheld Stops' (store_of_volume v) (at v image))
        (disk v) (disk w) (λ image is. λ unheld. on sound (at v image) (is unheld)) (a.moments sound unheld);
  }

  -- behind something that was asked, and failed nothing
  module _ (x : Asking) (Seen : Type 0) (v m : Volume D met) (fared : Fares false false v m)
      (answered : (Grants of_volume operator x v m) ⊎ ((e : Refusal) × Denies of_volume operator x e v m))
      (seen : is_sound v ≡ true → Seen × (is_sound m ≡ true))
      (free : Seen → IsUnheld (store_of_volume v) → IsUnheld (store_of_volume m))
    where
      put-behind : (result : Result ℕ HostRefusal) (u' : Hosts) (Holds Holds' Stops Stops' : Store → Store → Type 0) (w : Volume D met)
          → PutsNamed p.mode bytes result u u' Holds (WhereUnheld Stops) m w
          → (Seen → Holds (store_of_volume m) (store_of_volume w) → Holds' (store_of_volume v) (store_of_volume w))
          → (Seen → (t : Store) → Stops (store_of_volume m) t → Stops' (store_of_volume v) t)
          → (Seen → (t : Store) → IsStopped x (store_of_volume v) t → Stops' (store_of_volume v) t)
          → PutsNamed p.mode bytes result u u' Holds' (WhereUnheld Stops') v w
      put-behind result u' Holds Holds' Stops Stops' w a hold on stop = record {
        fares = alone-onward (copy_result result) v m w fared a.fares;
        host = a.host;
        outcome = λ sound whole. let is = seen sound in hold is.0 (a.outcome is.1 whole);
        stops = λ sound fault unheld. let is = seen sound in on is.0 (stored w) (a.stops is.1 fault (free is.0 unheld));
        moments = λ sound unheld.
            let is = seen sound in
            stood-then (λ image. WhereUnheld Stops' (store_of_volume v) (at v image)) (disk v) (disk m) (disk w)
            (stood-weaker (λ image. IsStopped x (store_of_volume v) (at v image))
            (λ image. WhereUnheld Stops' (store_of_volume v) (at v image)) (disk v) (disk m)
            (λ image stopped. λ unheld. stop is.0 (at v image) stopped) (asked-stood x v m sound answered))
            (stood-weaker (λ image. WhereUnheld Stops (store_of_volume m) (at m image))
            (λ image. WhereUnheld Stops' (store_of_volume v) (at v image)) (disk m) (disk w)
            (λ image stands. λ unheld. subst (λ (h : HomeFields). Stops' (store_of_volume v) (store_of image h)) fared.home
            (on is.0 (at m image) (stands (free is.0 unheld)))) (a.moments is.1 (free is.0 unheld)));
      }

  -- slots were asked for that the file may need
  module _ (dir : FileId) (v : Volume D met) where
    -- as many as it may
    abbrev AreSlots : ℕ → Type 0
    AreSlots n = IsTrue (state_in v).disk.honest → is_spent v ≡ false → n ≡ slots_before p.blocks (store_of_volume v)

    slots-are : (n : ℕ) → AreSlots n → is_sound v ≡ true → n ≡ slots_before p.blocks (store_of_volume v)
    slots-are n are sound =
        are (honest-of (state_in v).disk.honest (is_spent v) sound) (alive-of (state_in v).disk.honest (is_spent v) sound)

    stops-growing : (u' : Hosts) (n : ℕ) → n ≡ slots_before p.blocks (store_of_volume v) → (t : Store)
        → IsStopped (asks (request.GrowIndex n)) (store_of_volume v) t
        → StopsInto p (HoldFor p.mode bytes u u') dir (store_of_volume v) t
    stops-growing u' n are t stopped =
        subst (λ k. StopsBehindSlots k (StopsPutting dir p.name (HoldFor p.mode bytes u u')) (store_of_volume v) t) are
        (growing stopped (growth-keeps n (store_of_volume v) t stopped))

    stops-grown : (u' : Hosts) (n : ℕ) → n ≡ slots_before p.blocks (store_of_volume v) → (s t : Store)
        → AsksForSlots plain n (store_of_volume v) s → StopsPutting dir p.name (HoldFor p.mode bytes u u') s t
        → StopsInto p (HoldFor p.mode bytes u u') dir (store_of_volume v) t
    stops-grown u' n are s t asked stopped =
        subst (λ k. StopsBehindSlots k (StopsPutting dir p.name (HoldFor p.mode bytes u u')) (store_of_volume v) t) are
        (grown s asked stopped)

    puts-grown : (result : Result ℕ HostRefusal) (u' : Hosts) (n : ℕ) → n ≡ slots_before p.blocks (store_of_volume v) → (s t : Store)
        → AsksForSlots plain n (store_of_volume v) s → PutsInto p bytes dir result u u' s t
        → PutsBehindSlots p bytes dir result u u' (store_of_volume v) t
    puts-grown result u' n are s t asked puts =
        record { ready = s; readies = subst (λ k. AsksForSlots plain k (store_of_volume v) s) are asked; puts = puts }

    -- they were granted, or refused, and the file was to be made
    pub put-ready : (result : Result ℕ HostRefusal) (u' : Hosts) (n : ℕ) (m w : Volume D met) → AreSlots n
        → AsksForSlots of_volume n v m
        → PutsNamed p.mode bytes result u u' (PutsInto p bytes dir result u u')
        (WhereUnheld (StopsPutting dir p.name (HoldFor p.mode bytes u u'))) m w
        → PutsNamed p.mode bytes result u u' (PutsBehindSlots p bytes dir result u u')
        (WhereUnheld (StopsInto p (HoldFor p.mode bytes u u') dir)) v w
    put-ready result u' zero m w are same a =
        put-weaker result u' (PutsInto p bytes dir result u u') (PutsBehindSlots p bytes dir result u u')
        (StopsPutting dir p.name (HoldFor p.mode bytes u u')) (StopsInto p (HoldFor p.mode bytes u u') dir) v w
        (subst (λ (y : Volume D met). PutsNamed p.mode bytes result u u' (PutsInto p bytes dir result u u')
        (WhereUnheld (StopsPutting dir p.name (HoldFor p.mode bytes u u'))) y w) same a)
        (λ sound puts. puts-grown result u' zero (slots-are zero are sound) (store_of_volume v) (store_of_volume w) refl puts)
        (λ sound t stopped. stops-grown u' zero (slots-are zero are sound) (store_of_volume v) t refl stopped)
    put-ready result u' (suc n) m w are (inl granted) a =
        put-behind (asks (request.GrowIndex (suc n)))
        ((suc n ≡ slots_before p.blocks (store_of_volume v)) × AsksForSlots plain (suc n) (store_of_volume v) (store_of_volume m)) v m
        (granted-fared operator (asks (request.GrowIndex (suc n))) v m granted) (inl granted)
        (λ sound. let is = volume-seen.granted operator (asks (request.GrowIndex (suc n))) v m granted sound in
        ((slots-are (suc n) are sound, inl is.0), is.1))
        (λ is unheld. growth-unheld n (store_of_volume v) (store_of_volume m) is.1 unheld)
        result u' (PutsInto p bytes dir result u u') (PutsBehindSlots p bytes dir result u u')
        (StopsPutting dir p.name (HoldFor p.mode bytes u u')) (StopsInto p (HoldFor p.mode bytes u u') dir) w a
        (λ is puts. puts-grown result u' (suc n) is.0 (store_of_volume m) (store_of_volume w) is.1 puts)
        (λ is t stopped. stops-grown u' (suc n) is.0 (store_of_volume m) t is.1 stopped)
        (λ is t stopped. stops-growing u' (suc n) is.0 t stopped)
    put-ready result u' (suc n) m w are (inr denied) a =
        put-behind (asks (request.GrowIndex (suc n)))
        ((suc n ≡ slots_before p.blocks (store_of_volume v)) × AsksForSlots plain (suc n) (store_of_volume v) (store_of_volume m)) v m
        (subst (λ b. Fares b false v m) (no-fault denied.0 denied.1)
        (subst (λ b. Fares (is_fault denied.0) b v m) denied.1
        (denied-fared operator (asks (request.GrowIndex (suc n))) denied.0 v m denied.2)))
        (inr (denied.0, denied.2))
        (λ sound. let is = volume-seen.denied operator (asks (request.GrowIndex (suc n))) denied.0 v m denied.2 sound denied.1 in
        ((slots-are (suc n) are sound, inr (denied.0, denied.1, is.0)), is.1))
        (λ is unheld. growth-unheld n (store_of_volume v) (store_of_volume m) is.1 unheld)
        result u' (PutsInto p bytes dir result u u') (PutsBehindSlots p bytes dir result u u')
        (StopsPutting dir p.name (HoldFor p.mode bytes u u')) (StopsInto p (HoldFor p.mode bytes u u') dir) w a
        (λ is puts. puts-grown result u' (suc n) is.0 (store_of_volume m) (store_of_volume w) is.1 puts)
        (λ is t stopped. stops-grown u' (suc n) is.0 (store_of_volume m) t is.1 stopped)
        (λ is t stopped. stops-growing u' (suc n) is.0 t stopped)

    -- a device fault or Damaged was met there
    pub put-unready : (n : ℕ) (e : Refusal) (w : Volume D met) → AreSlots n → is_fatal e ≡ true
        → Denies of_volume operator (asks (request.GrowIndex n)) e v w
        → PutsNamed p.mode bytes (Err (Files e)) u u (PutsBehindSlots p bytes dir (Err (Files e)) u u)
        (WhereUnheld (StopsInto p (HoldFor p.mode bytes u u) dir)) v w
    put-unready n e w are fatal denies = record {
      fares = alone-denied (asks (request.GrowIndex n)) e v w denies;
      host = unread-for bytes u p.mode e;
      outcome = λ sound whole. absurd (let no : not (is_fatal e) ≡ true = whole in cc);
      stops = λ sound fault unheld.
          stops-growing u n (slots-are n are sound) (stored w) (request-stopped (request.GrowIndex n) e v w denies sound);
      moments = λ sound unheld.
          stood-weaker (λ image. IsStopped (asks (request.GrowIndex n)) (store_of_volume v) (at v image))
          (λ image. WhereUnheld (StopsInto p (HoldFor p.mode bytes u u) dir) (store_of_volume v) (at v image)) (disk v) (disk w)
          (λ image stopped. λ unheld. stops-growing u n (slots-are n are sound) (at v image) stopped)
          (asked-stood (asks (request.GrowIndex n)) v w sound (inr (e, denies)));
    }

  -- the directory was found
  pub put-found : (dir : FileId) (result : Result ℕ HostRefusal)
      (u' : Hosts) (v m w : Volume D met)
      → Grants of_volume operator (told (request.Find master_directory p.directory) (reply.Found dir)) v m
      → PutsNamed p.mode bytes result u u' (PutsBehindSlots p bytes dir result u u')
      (WhereUnheld (StopsInto p (HoldFor p.mode bytes u u') dir)) m w
      → PutsNamed p.mode bytes result u u' (PutsByName p bytes result u u')
      (WhereUnheld (StopsPut p (HoldFor p.mode bytes u u'))) v w
  put-found dir result u' v m w grants a =
      put-behind x (Grants plain operator x (store_of_volume v) (store_of_volume m)) v m (granted-fared operator x v m grants) (inl grants)
      (λ sound. volume-seen.granted operator x v m grants sound)
      (λ seen unheld. subst IsUnheld (sym seen.2.changes) unheld)
      result u' (PutsBehindSlots p bytes dir result u u') (PutsByName p bytes result u u')
      (StopsInto p (HoldFor p.mode bytes u u') dir) (StopsPut p (HoldFor p.mode bytes u u')) w a
      (λ seen puts. inl (record {
        dir = dir;
        found = store_of_volume m;
        finds = (store_of_volume m, seen, refl);
        puts = puts;
      }))
      (λ seen t stopped. making dir (store_of_volume m) (store_of_volume m, seen, refl) stopped)
      (λ seen t stopped. sought p bytes u u' (reply.Found dir) (store_of_volume v) t stopped)
    where
      x : Asking
      x = told (request.Find master_directory p.directory) (reply.Found dir)

  -- it isn't there
  pub put-nowhere : (e : Refusal) (v w : Volume D met)
      → Fails of_volume operator is_found (request.Find master_directory p.directory) e v w
      → PutsNamed p.mode bytes (Err (Files e)) u u (PutsByName p bytes (Err (Files e)) u u)
      (WhereUnheld (StopsPut p (HoldFor p.mode bytes u u))) v
      w
  put-nowhere e v w fails = record {
    fares = alone-not-found master_directory p.directory e v w fails;
    host = unread-for bytes u p.mode e;
    outcome = λ sound whole. inr (record {
      refusal = e;
      is = refl;
      not_found = not-found-seen master_directory p.directory e v w sound whole fails;
      unread = refl;
    });
    stops = λ sound fault unheld.
        let at = find-stopped master_directory p.directory e v w sound fault fails in
        seeking at (find-leaves master_directory p.directory (store_of_volume v) (stored w) at);
    moments = λ sound unheld. missed sound fails;
  }
    where
      r : Request
      r = request.Find master_directory p.directory

      missed : is_sound v ≡ true → Fails of_volume operator is_found r e v w
          → Stood (λ image. WhereUnheld (StopsPut p (HoldFor p.mode bytes u u)) (store_of_volume v) (at v image))
          (disk v) (disk w)
      missed sound (inl d) =
          stood-weaker (λ image. IsStopped (asks r) (store_of_volume v) (at v image))
          (λ image. WhereUnheld (StopsPut p (HoldFor p.mode bytes u u)) (store_of_volume v) (at v image))
          (disk v) (disk w) (λ image stopped. λ unheld. seeking stopped
          (find-leaves master_directory p.directory (store_of_volume v) (at v image) stopped))
          (asked-stood (asks r) v w sound (inr (e, d)))
      missed sound (inr g) =
          stood-weaker (λ image. IsStopped (told r g.0) (store_of_volume v) (at v image))
          (λ image. WhereUnheld (StopsPut p (HoldFor p.mode bytes u u)) (store_of_volume v) (at v image))
          (disk v) (disk w) (λ image stopped. λ unheld. sought p bytes u u g.0 (store_of_volume v) (at v image) stopped)
          (asked-stood (told r g.0) v w sound (inl g.3))

  -- on the volume of an image
  module _ (result : Result ℕ HostRefusal) (u' : Hosts) (old : Disk) (first last : Volume D met) (mounts : Mounts old first)
      (image : IsImage old.image) (accepted : IsTrue old.honest → IsAccepted old.image)
      (puts : PutsNamed p.mode bytes result u u' (PutsByName p bytes result u u')
      (WhereUnheld (StopsPut p (HoldFor p.mode bytes u u'))) first last)
    where
      pub puts-on-image : PutsOnImage p bytes result u u' old (state_in last).disk
      puts-on-image = record {
        home = (state_in first).home;
        held = (state_in last).table;
        home_is = mounts.home;
        outcome = λ is whole.
            subst (λ (s : Store). PutsByName p bytes result u u' s
            (held_in (state_in last).table (store_of (state_in last).disk.image (state_in first).home)))
            (first-is old first last mounts puts.fares.home)
            (subst (λ (s : Store). PutsByName p bytes result u u' (store_of_volume first) s)
            (last-is old first last mounts puts.fares.home)
            (puts.outcome (sound-first old first last mounts puts.fares.home is) whole));
        stops = λ is fault.
            subst (λ (s : Store). WhereUnheld (StopsPut p (HoldFor p.mode bytes u u')) s
            (store_of (state_in last).disk.image (state_in first).home))
            (first-is old first last mounts puts.fares.home)
            (subst (λ (h : HomeFields). WhereUnheld (StopsPut p (HoldFor p.mode bytes u u')) (store_of_volume first)
            (store_of (state_in last).disk.image h))
            puts.fares.home (puts.stops (sound-first old first last mounts puts.fares.home is) fault)) (λ task lun. refl);
        moments = λ is.
            let start : store_of_volume first ≡ held_in no_entries (store_of old.image (state_in first).home) =
            first-is old first last mounts puts.fares.home in
            stood-then (λ image. StopsPut p (HoldFor p.mode bytes u u')
            (held_in no_entries (store_of old.image (state_in first).home)) (store_of image (state_in first).home)) old
            (state_in first).disk (state_in last).disk
            (stood-looked (λ image. StopsPut p (HoldFor p.mode bytes u u')
            (held_in no_entries (store_of old.image (state_in first).home)) (store_of image (state_in first).home)) old
            (state_in first).disk mounts.looked)
            (stood-weaker (λ image. WhereUnheld (StopsPut p (HoldFor p.mode bytes u u')) (store_of_volume first)
            (at first image))
            (λ image. StopsPut p (HoldFor p.mode bytes u u')
            (held_in no_entries (store_of old.image (state_in first).home)) (store_of image (state_in first).home))
            (state_in first).disk (state_in last).disk
            (λ image stops. subst (λ (s : Store). WhereUnheld (StopsPut p (HoldFor p.mode bytes u u')) s
            (at first image)) start stops (λ task lun. refl))
            (puts.moments (sound-first old first last mounts puts.fares.home is) (subst IsUnheld (sym start) (λ task lun. refl))));
        host = puts.host;
        failures = let none = mounts.looked.failures in let some = puts.fares.fares.failures in omega (arith, none, some);
        quiet = puts.fares.fares.quiet;
        alive = puts.fares.alive mounts.fresh;
        undamaged = λ is. puts.fares.undamaged mounts.fresh (mounts.looked.honest ∙ is);
        accepted = λ is. puts.fares.fares.accepted (puts.fares.fares.honest ∙ mounts.looked.honest ∙ is);
        meanwhile = stands-accepted old first last mounts image accepted
            (still-alive _ old first last mounts puts.fares.fares puts.fares.undamaged) puts.fares.fares.lost;
      }

      pub ends-accepted : {W : Type 0} (answer : Result FileAnswer PutFailure) (contents : W → Option (List ℕ)) (before after : W)
          (new done : Disk) → done ≡ (state_in last).disk → TellsKeptFile result answer done new contents before after
          → EndsAccepted p bytes answer u u' old new contents before after
      ends-accepted {W} answer contents before after new done at tells = inl (record {
        result = result;
        done = (state_in last).disk;
        puts = puts-on-image;
        tells = subst (λ (x : Disk). TellsKeptFile result answer x new contents before after) at tells;
      })

-- behind a verified image
pub ends-putting : {W : Type 0} (p : Putting) (bytes : ℕ) (u u' : Hosts) (answer : Result FileAnswer PutFailure)
    (contents : W → Option (List ℕ)) (before now after : W) (image read new : Disk) → VerifiesFiles image read × (now ≡ before)
    → EndsAccepted p bytes answer u u' read new contents now after → EndsPutting p bytes answer u u' image new contents before after
ends-putting {W} p bytes u u' answer contents before now after image read new verified ends =
    inr (record {
      read = read;
      verified = verified.0;
      ends = subst (λ (x : W). EndsAccepted p bytes answer u u' read new contents x after) verified.1 ends;
    })
