-- A text of the host that becomes a file of a Files-11 volume.
use Rattle.std.proofs.Common.{◌≡◌, ◌⊎◌, inl, inr, ℕ, ◌≤◌, Bool, true, false, List, [], length, Option, Some, Result}
use Rattle.std.proofs.Common.{Ok}
use Rattle.std.proofs.Common.{refl, sym, ap, ◌∙◌, subst, arith}
use Rattle.std.specs.Io.KnownBytes.{Consumes}
use Rattle.std.proofs.KnownBytes.{Consumes-nil}
use Rattle.f11_dev.specs.declared.device.Device.{Ghosts}
use Rattle.f11_store.specs.Store.{Store}
use Rattle.f11_store.specs.declared.files.FileId.{FileId}
use Rattle.f11_store.specs.declared.refusals.Refusal.{Refusal}
use Rattle.f11_store.specs.declared.refusals.Refusal.TheVariants.{TooManySegments, VolumeFailed}
use Rattle.f11_store.specs.declared.requests.Request.TheVariants as request
use Rattle.f11_flx.specs.fcp.Lists.{is_sound, store_of_volume}
use Rattle.f11_flx.specs.fcp.Serving.{is_spent}
use Rattle.f11_flx.specs.fcp.declared.volume.Volume.{Volume}
use Rattle.rt11_volume.specs.declared.refusal.RtRefusal.TheVariants.{Failed}
use Rattle.f11_making.specs.Asking.{BreaksOffAsking, FilesService, Granted, Who}
use Rattle.f11_making.specs.Volume.{of_volume}
use Rattle.f11_flx.specs.Copying.{MayMake, MayMakeStated, is_whole}
use Rattle.f11_making.specs.Making.{FailsToMakeFile, Making, as_stated, filling, new_id}
use Rattle.f11_flx.specs.Ended.{Ends}
use Rattle.f11_making.specs.Making.{filling_of}
use Rattle.f11_flx.specs.Making.{FailsToFillOpened, IsCutShort}
use Rattle.f11_flx.specs.Refusal.{is_lethal}
use Rattle.f11_flx.specs.declared.lines.Extent.{Extent}
use Rattle.f11_flx.specs.declared.refusal.FlxRefusal.{FlxRefusal}
use Rattle.f11_flx.specs.declared.refusal.FlxRefusal.TheVariants.{BadRecord, Files, LineTooLong, Rt, Unread}
use Rattle.f11_flx.proofs.FromRt.EndedLemmas.{making-ends}
use Rattle.f11_flx.proofs.FromRt.FaredLemmas.{calm-none, made-fares, of-calm, unmade-fares}
use Rattle.f11_flx.proofs.FromRt.FromRtLemmas.{making-seen}
use Rattle.f11_flx.proofs.FromRt.FromVolumeLemmas.{may-make, may-not-make}
use Rattle.f11_flx.proofs.FromRt.KeptLemmas.{dead-made, dead-unmade, given, made-keeps, refused, same-refusal, unmade-keeps}
use Rattle.f11_flx.proofs.FromRt.NotMadeLemmas.{IsRefusal, IsShort, making-refused, making-undone, unread-no-files}
use Rattle.f11_flx.proofs.SmallLemmas.{not-true}
use Rattle.f11_flx.proofs.Made.StatingLemmas.{made-in-order, unmade-in-order}
use Rattle.f11_flx.proofs.Made.TriedLemmas.{made-tries, none-for-one, unmade-tries}
use Rattle.f11_flx.proofs.FromRt.UndoneLemmas.{as-before, clean-undoing}
use Rattle.f11_making.proofs.VolumeLemmas.{standing, unused, volume-seen}
use Rattle.f11_host.specs.CopyTextFromHost.{CopiesTextFromHost, FailsTextSpent, FailsToCopyTextFromHost, IsTextNotCopied, IsTextRefusedIf}
use Rattle.f11_host.specs.CopyTextFromHost.{AsksForText, HoldText, Judges, ReadsIf, ReadsTexts, is_text_too_long}
use Rattle.f11_host.specs.Filling.{HostFile, host_file}
use Rattle.f11_host.specs.Refusal.{as_copy, copy_result, of_copy}
use Rattle.f11_host.specs.TextFilling.{FailsToFillFromText, FailsToMakeFromText, FillsFromText, IsNotText, MakesFromText, as_text}
use Rattle.f11_host.specs.TextFilling.{attributes_of}
use Rattle.f11_host.specs.TextPasses.{FailsToPlanText}
use Rattle.f11_host.specs.Texts.{IsCopiedText}
use Rattle.f11_host.specs.declared.refusal.HostRefusal.{HostRefusal}
use Rattle.f11_host.specs.declared.refusal.HostRefusal.TheVariants as host
use Rattle.f11_host.proofs.FillLemmas.{same-text}
use Rattle.f11_host.proofs.HostLemmas.{IsTold, no-rt, told-undoing, unmade}
use Rattle.f11_host.proofs.TextFillLemmas.{asks-to-fill-text}
use Rattle.f11_host.proofs.TextLemmas.{same-copies}

module _ {V : Type 0} (S : FilesService V) (who : Who) (lun bytes : ℕ) (plan : Extent) where
  told-fill : (f : FlxRefusal) (a b : HostFile) (v w : V) → FailsToFillFromText S who lun bytes plan f a b v w → IsTold f
  told-fill (Files e) a b v w h = refl
  told-fill (Rt e) a b v w h = absurd h
  told-fill BadRecord a b v w h = absurd h
  told-fill LineTooLong a b v w h = absurd h
  told-fill Unread a b v w h = refl

  told-opened : (f : FlxRefusal) (id : FileId) (a b : HostFile) (v w : V)
      → FailsToFillOpened S who lun (FailsToFillFromText S who lun bytes plan) id f a b v w → IsTold f
  told-opened f id a b v w (inl h) = subst (λ x. IsTold x) (sym h.is) refl
  told-opened f id a b v w (inr h) =
      told-undoing S who (request.Deaccess lun) h.f f h.left w (told-fill h.f a b h.between h.left h.fails) h.undoes

  told-made : (f : FlxRefusal) (making : Making) (a b : HostFile) (v w : V) → FailsToMakeFromText S who lun bytes plan making f a b v w
      → IsTold f
  told-made f making a b v w (inl h) = subst (λ x. IsTold x) (sym h.is) refl
  told-made f making a b v w (inr (inl h)) =
      told-undoing S who (request.Delete h.id) h.f f h.left w (told-opened h.f h.id a b h.created h.left h.fails) h.undoes
  told-made f making a b v w (inr (inr h)) = told-undoing S who (request.Delete h.id) (Files h.e) f h.left w refl h.undoes

  -- what is known of the host where it was refused by no device fault or Damaged
  abbrev Fate : FlxRefusal → Option (List ℕ) → Option (List ℕ) → List ℕ → Type 0
  Fate (Files e) u u' taken = (length taken ≤ bytes) × Consumes u u' taken
  Fate (Rt e) u u' taken = ⊥
  Fate BadRecord u u' taken = ⊥
  Fate LineTooLong u u' taken = ⊥
  Fate Unread u u' taken = IsNotText bytes plan taken u u'

  -- nothing was read of it
  unread-fate : (f : FlxRefusal) (e : Refusal) (u u' : Option (List ℕ)) (taken : List ℕ) → f ≡ Files e
      → host_file u' taken ≡ host_file u [] → Fate f u u' taken
  unread-fate f e u u' taken is same =
      subst (λ x. Fate x u u' taken) (sym is)
      (subst (λ (x : HostFile). (length x.taken ≤ bytes) × Consumes u x.unread x.taken) (sym same) (omega arith, Consumes-nil u))

  fill-fate : (f : FlxRefusal) (u u' : Option (List ℕ)) (taken : List ℕ) (v w : V)
      → FailsToFillFromText S who lun bytes plan f (host_file u []) (host_file u' taken) v w → Fate f u u' taken
  fill-fate (Files e) u u' taken v w h = (h.few, h.takes)
  fill-fate (Rt e) u u' taken v w h = absurd h
  fill-fate BadRecord u u' taken v w h = absurd h
  fill-fate LineTooLong u u' taken v w h = absurd h
  fill-fate Unread u u' taken v w h = h.why

  opened-fate : (f : FlxRefusal) (id : FileId) (u u' : Option (List ℕ)) (taken : List ℕ) (v w : V) → is_lethal f ≡ false
      → FailsToFillOpened S who lun (FailsToFillFromText S who lun bytes plan) id f (host_file u []) (host_file u' taken) v w
      → Fate f u u' taken
  opened-fate f id u u' taken v w clean (inl h) = unread-fate f h.e u u' taken h.is h.unread
  opened-fate f id u u' taken v w clean (inr h) =
      let x = clean-undoing S who (request.Deaccess lun) h.f f h.left w clean h.undoes in
      subst (λ y. Fate y u u' taken) (sym x.same) (fill-fate h.f u u' taken h.between h.left h.fails)

  made-fate : (f : FlxRefusal) (making : Making) (u u' : Option (List ℕ)) (taken : List ℕ) (v w : V) → is_lethal f ≡ false
      → FailsToMakeFromText S who lun bytes plan making f (host_file u []) (host_file u' taken) v w → Fate f u u' taken
  made-fate f making u u' taken v w clean (inl h) = unread-fate f h.e u u' taken h.is h.unread
  made-fate f making u u' taken v w clean (inr (inl h)) =
      let x = clean-undoing S who (request.Delete h.id) h.f f h.left w clean h.undoes in
      subst (λ y. Fate y u u' taken) (sym x.same) (opened-fate h.f h.id u u' taken h.created h.left x.clean h.fails)
  made-fate f making u u' taken v w clean (inr (inr h)) =
      let x = clean-undoing S who (request.Delete h.id) (Files h.e) f h.left w clean h.undoes in
      subst (λ y. Fate y u u' taken) (sym x.same) (omega (arith, h.fills.fills.size), h.fills.fills.takes)

  -- the blocks that were written are those of the copy of what was taken
  filled-blocks : (u u' : Option (List ℕ)) (taken : List ℕ) (blocks : List (List ℕ)) (v w : V)
      → IsCopiedText taken blocks (attributes_of plan) → length blocks ≡ plan.blocks
      → FillsFromText S who lun bytes plan (host_file u []) (host_file u' taken) v w → Granted S who (filling lun blocks) v w
  filled-blocks u u' taken blocks v w k n h =
      let same = same-copies taken h.pieces blocks (attributes_of plan) (attributes_of plan) h.copied k in
      subst (λ n. Granted S who (filling_of lun n blocks) v w) (sym n)
      (subst (λ l. Granted S who (filling_of lun plan.blocks l) v w) same h.granted)

abbrev pub copied : ℕ → Result ℕ HostRefusal
copied blocks = Ok blocks

module _ {D : Type 0} {met : Ghosts D} (who : Who) (lun bytes : ℕ) (plan : Extent) (dir : FileId) (to : List ℕ) (protection : ℕ)
    (u u' : Option (List ℕ)) (taken : List ℕ) (v w : Volume D met) where
  abbrev pub Made : Type 0
  Made = (pieces : List (List ℕ)) →
      MakesFromText of_volume who lun bytes plan (as_text to dir protection plan pieces) (host_file u []) (host_file u' taken) v w

  abbrev pub Unmade : FlxRefusal → Type 0
  Unmade f = (pieces : List (List ℕ)) →
      FailsToMakeFromText of_volume who lun bytes plan (as_text to dir protection plan pieces) f (host_file u []) (host_file u' taken) v w

  pub text-made-files : (blocks : ℕ) → Made
      → MayMake (given blocks) who lun dir to protection (Some (attributes_of plan)) v w
  text-made-files blocks h =
      may-make who lun (as_text to dir protection plan []) v w blocks
      (made-fares who lun plan.blocks (FillsFromText of_volume who lun bytes plan) (FailsToFillFromText of_volume who lun bytes plan)
      (asks-to-fill-text of_volume who lun bytes plan) (as_text to dir protection plan []) (host_file u []) (host_file u' taken) v w (h []))
      (made-keeps who lun plan.blocks (FillsFromText of_volume who lun bytes plan) (FailsToFillFromText of_volume who lun bytes plan)
      (asks-to-fill-text of_volume who lun bytes plan) blocks (as_text to dir protection plan []) (host_file u []) (host_file u' taken) v w
      (h []))
      (made-tries of_volume who lun plan.blocks (FillsFromText of_volume who lun bytes plan)
      (FailsToFillFromText of_volume who lun bytes plan) (asks-to-fill-text of_volume who lun bytes plan)
      (as_text to dir protection plan []) (host_file u []) (host_file u' taken) v w (h []))

  told : (f : FlxRefusal) → Unmade f → as_copy (of_copy f) ≡ f
  told f h =
      told-made of_volume who lun bytes plan f (as_text to dir protection plan []) (host_file u []) (host_file u' taken) v w (h [])

  pub text-unmade-files : (f : FlxRefusal) → Unmade f
      → MayMake (copy_result (unmade (of_copy f))) who lun dir to protection (Some (attributes_of plan)) v w
  text-unmade-files f h =
      subst (λ x. MayMake (refused x) who lun dir to protection (Some (attributes_of plan)) v w) (sym (told f h))
      (may-not-make who lun (as_text to dir protection plan []) v w f
      (unmade-fares who lun plan.blocks (FillsFromText of_volume who lun bytes plan) (FailsToFillFromText of_volume who lun bytes plan)
      (asks-to-fill-text of_volume who lun bytes plan) f (as_text to dir protection plan []) (host_file u []) (host_file u' taken) v w
      (h []))
      (unmade-keeps who lun plan.blocks (FillsFromText of_volume who lun bytes plan) (FailsToFillFromText of_volume who lun bytes plan)
      (asks-to-fill-text of_volume who lun bytes plan) f (as_text to dir protection plan []) (host_file u []) (host_file u' taken) v w
      (h []))
      (unmade-tries of_volume who lun plan.blocks (FillsFromText of_volume who lun bytes plan)
      (FailsToFillFromText of_volume who lun bytes plan) (asks-to-fill-text of_volume who lun bytes plan)
      (as_text to dir protection plan []) f (host_file u []) (host_file u' taken) v w (h []))
      (λ is. absurd (no-rt Failed (subst (λ x. IsTold x) (same-refusal f (Rt Failed) is) (told f h))))
      (λ sound clean. making-undone of_volume who lun plan.blocks (FillsFromText of_volume who lun bytes plan)
      (FailsToFillFromText of_volume who lun bytes plan) (asks-to-fill-text of_volume who lun bytes plan) store_of_volume is_sound
      volume-seen f
      (as_text to dir protection plan []) (host_file u []) (host_file u' taken) v w clean sound (unused v) (standing v sound) (h [])))

  copy-held : (x y : Volume D met) → FillsFromText of_volume who lun bytes plan (host_file u []) (host_file u' taken) x y
      → (pieces : List (List ℕ)) × (HoldText bytes plan u u' pieces) × Granted of_volume who (filling lun pieces) x y
  copy-held x y k = (
    k.pieces,
    record { taken = taken; size = k.size; takes = k.takes; copied = k.copied },
    filled-blocks of_volume who lun bytes plan u u' taken k.pieces x y k.copied k.count k,
  )

  pub text-made-order : Made → AsksForText of_volume bytes u u' who lun dir to protection v w
  text-made-order h = inr (
    plan,
    made-in-order of_volume who lun plan.blocks (FillsFromText of_volume who lun bytes plan)
        (FailsToFillFromText of_volume who lun bytes plan) (asks-to-fill-text of_volume who lun bytes plan)
        (as_text to dir protection plan []) (HoldText bytes plan u u') (host_file u []) (host_file u' taken) copy-held v w (h []),
  )

  pub text-unmade-order : (f : FlxRefusal) → Unmade f → AsksForText of_volume bytes u u' who lun dir to protection v w
  text-unmade-order f h = inr (
    plan,
    unmade-in-order of_volume who lun plan.blocks (FillsFromText of_volume who lun bytes plan)
        (FailsToFillFromText of_volume who lun bytes plan) (asks-to-fill-text of_volume who lun bytes plan)
        (as_text to dir protection plan []) (HoldText bytes plan u u') (host_file u []) (host_file u' taken) copy-held f v w (h []),
  )

  pub text-made-spent : is_spent v ≡ true → Made → ⊥
  text-made-spent dead h =
      dead-made who lun plan.blocks (FillsFromText of_volume who lun bytes plan) (FailsToFillFromText of_volume who lun bytes plan)
      (asks-to-fill-text of_volume who lun bytes plan) (as_text to dir protection plan []) (host_file u []) (host_file u' taken) v w dead
      (h [])

  pub text-unmade-spent : (f : FlxRefusal) → is_spent v ≡ true → Unmade f → FailsTextSpent false (of_copy f)
  text-unmade-spent f dead h =
      subst (λ x. FailsTextSpent false (of_copy x))
      (sym (dead-unmade who lun plan.blocks (FillsFromText of_volume who lun bytes plan) (FailsToFillFromText of_volume who lun bytes plan)
      (asks-to-fill-text of_volume who lun bytes plan) f (as_text to dir protection plan []) (host_file u []) (host_file u' taken) v w dead
      (h []))) refl

  pub text-unmade-ends : (f : FlxRefusal) → Unmade f → is_lethal (as_copy (of_copy f)) ≡ true
      → Ends of_volume who (as_copy (of_copy f)) v w
  text-unmade-ends f h lethal =
      subst (λ x. Ends of_volume who x v w) (sym (told f h))
      (making-ends of_volume who lun plan.blocks (FillsFromText of_volume who lun bytes plan)
      (FailsToFillFromText of_volume who lun bytes plan) (asks-to-fill-text of_volume who lun bytes plan) f
      (as_text to dir protection plan [])
      (host_file u []) (host_file u' taken) v w (h []) (ap is_lethal (sym (told f h)) ∙ lethal))

  pub text-made-copied : is_sound v ≡ true → Made
      → CopiesTextFromHost bytes plan.blocks u u' who lun dir to protection (store_of_volume v) (store_of_volume w)
  text-made-copied sound h =
      let k = (h []).fills.fills in
      record {
        taken = taken;
        size = k.size;
        takes = k.takes;
        plan = plan;
        pieces = k.pieces;
        copied = k.copied;
        count = k.count;
        asked = making-seen of_volume who lun (FillsFromText of_volume who lun bytes plan) (as_text to dir protection plan k.pieces)
            (host_file u []) (host_file u' taken)
            (λ x y f. filled-blocks of_volume who lun bytes plan u u' taken k.pieces x y k.copied k.count f)
            store_of_volume is_sound volume-seen v w sound (h k.pieces);
      }

  -- how a making of these blocks is refused
  made-of : (f : FlxRefusal) (blocks : List (List ℕ)) → is_lethal f ≡ false → is_sound v ≡ true
      → ((e : Refusal) → f ≡ Files e → (x y : Volume D met)
      → FillsFromText of_volume who lun bytes plan (host_file u []) (host_file u' taken) x y
      → Granted of_volume who (filling lun blocks) x y)
      → ((e : Refusal) → f ≡ Files e → (x y : Volume D met)
      → FailsToFillFromText of_volume who lun bytes plan (Files e) (host_file u []) (host_file u' taken) x y
      → BreaksOffAsking of_volume who (filling lun blocks) e x y) → Unmade f →
      (IsRefusal (as_text to dir protection plan blocks) who lun f (store_of_volume v) (store_of_volume w))
      ⊎ (IsShort (FailsToFillFromText (of_volume {met = met}) who lun bytes plan) (as_text to dir protection plan blocks) who lun
      plan.blocks f
      (host_file u []) (host_file u' taken) (store_of_volume v) (store_of_volume w))
  made-of f blocks clean sound filled broken h =
      making-refused of_volume who lun plan.blocks (FillsFromText of_volume who lun bytes plan)
      (FailsToFillFromText of_volume who lun bytes plan) (asks-to-fill-text of_volume who lun bytes plan) store_of_volume is_sound
      volume-seen f
      (as_text to dir protection plan blocks) (host_file u []) (host_file u' taken) v w clean sound (unused v) (standing v sound) filled
      broken (h blocks)

  module _ (first first' : Option (List ℕ)) (judged : Judges bytes plan first first') where
    pub text-made-host : Made → ReadsTexts bytes (copied plan.blocks) first first' u u'
    text-made-host h =
        let k = (h []).fills.fills in
        record {
          plan = plan;
          judged = judged;
          read = record { taken = taken; size = k.size; takes = k.takes; pieces = k.pieces; count = k.count; copied = k.copied };
          count = refl;
        }

    pub text-unmade-host : (f : FlxRefusal) → is_text_too_long bytes ≡ false → Unmade f
        → ReadsTexts bytes (unmade (of_copy f)) first first' u u'
    text-unmade-host (Files e) short h = λ clean.
        let k = made-fate of_volume who lun bytes plan (Files e) (as_text to dir protection plan []) u u' taken v w clean (h []) in
        subst (λ b. ReadsIf b bytes first first' u u') (sym short)
        (record { plan = plan; judged = judged; some = record { taken = taken; few = k.0; takes = k.1 } })
    text-unmade-host (Rt e) short h = absurd (no-rt e (told (Rt e) h))
    text-unmade-host BadRecord short h =
        absurd (made-fate of_volume who lun bytes plan BadRecord (as_text to dir protection plan []) u u' taken v w refl (h []))
    text-unmade-host LineTooLong short h =
        absurd (made-fate of_volume who lun bytes plan LineTooLong (as_text to dir protection plan []) u u' taken v w refl (h []))
    text-unmade-host Unread short h =
        elim (made-fate of_volume who lun bytes plan Unread (as_text to dir protection plan []) u u' taken v w refl (h [])) [
          | inl some ↦ inl some
          | inr another ↦ inr (record { plan = plan; judged = judged; taken = taken; another = another })
        ]

    not-copied : (e : Refusal) → is_lethal (Files e) ≡ false → is_sound v ≡ true → Unmade (Files e)
        → IsTextNotCopied bytes first first' u u' who lun dir to protection e (store_of_volume v) (store_of_volume w)
    not-copied e clean sound h =
        let fate = made-fate of_volume who lun bytes plan (Files e) (as_text to dir protection plan []) u u' taken v w clean (h []) in
        record {
          plan = plan;
          judged = judged;
          taken = taken;
          few = fate.0;
          takes = fate.1;
          fails = λ text size front blocks k n. by blocks
              (made-of (Files e) blocks clean sound
              (λ d is x y f.
              let same = same-text text taken (size ∙ sym f.size) front in
              filled-blocks of_volume who lun bytes plan u u' taken blocks x y
              (subst (λ l. IsCopiedText l blocks (attributes_of plan)) same k) n f)
              (λ d is x y f.
              subst (λ n. BreaksOffAsking of_volume who (filling_of lun n blocks) d x y) (sym n)
              (f.whole text size front blocks (attributes_of plan) k)) h);
        }
      where
        same-refusal' : (d : Refusal) → Files e ≡ Files d → d ≡ e
        same-refusal' d is = cc

        by : (blocks : List (List ℕ)) →
            (IsRefusal (as_text to dir protection plan blocks) who lun (Files e) (store_of_volume v) (store_of_volume w))
            ⊎ (IsShort (FailsToFillFromText (of_volume {met = met}) who lun bytes plan) (as_text to dir protection plan blocks) who lun
            plan.blocks
            (Files e) (host_file u []) (host_file u' taken) (store_of_volume v) (store_of_volume w)) →
            FailsToMakeFile (as_text to dir protection plan blocks) who lun (new_id (store_of_volume v)) e (store_of_volume v)
            (store_of_volume w)
        by blocks (inl r) =
            subst (λ d. FailsToMakeFile (as_text to dir protection plan blocks) who lun (new_id (store_of_volume v)) d (store_of_volume v)
            (store_of_volume w)) (same-refusal' r.e r.is) r.fails
        by blocks (inr k) = absurd (k.other e refl)

    cut-short : is_sound v ≡ true → Unmade Unread → (blocks : List (List ℕ)) →
        IsCutShort (as_text to dir protection plan blocks) who lun plan.blocks (new_id (store_of_volume v)) (store_of_volume v)
        (store_of_volume w)
    cut-short sound h blocks = by
        (made-of Unread blocks refl sound (λ e is. absurd (unread-no-files e is)) (λ e is. absurd (unread-no-files e is)) h)
      where
        by : (IsRefusal (as_text to dir protection plan blocks) who lun Unread (store_of_volume v) (store_of_volume w))
            ⊎ (IsShort (FailsToFillFromText (of_volume {met = met}) who lun bytes plan) (as_text to dir protection plan blocks) who lun
            plan.blocks
            Unread (host_file u []) (host_file u' taken) (store_of_volume v) (store_of_volume w)) →
            IsCutShort (as_text to dir protection plan blocks) who lun plan.blocks (new_id (store_of_volume v)) (store_of_volume v)
            (store_of_volume w)
        by (inl r) = absurd (unread-no-files r.e r.is)
        by (inr k) = k.cut

    pub text-unmade-refused : (f : FlxRefusal) → is_text_too_long bytes ≡ false → is_whole (copy_result (unmade (of_copy f))) ≡ true
        → is_sound v ≡ true → Unmade f →
        FailsToCopyTextFromHost (of_copy f) bytes first first' u u' who lun dir to protection (store_of_volume v) (store_of_volume w)
    text-unmade-refused (Files e) short whole sound h =
        subst (λ b. IsTextRefusedIf b bytes first first' u u' who lun dir to protection e (store_of_volume v) (store_of_volume w))
        (sym short)
        (not-copied e (not-true (is_lethal (Files e)) whole) sound h)
    text-unmade-refused (Rt e) short whole sound h = absurd (no-rt e (told (Rt e) h))
    text-unmade-refused BadRecord short whole sound h =
        absurd (made-fate of_volume who lun bytes plan BadRecord (as_text to dir protection plan []) u u' taken v w refl (h []))
    text-unmade-refused LineTooLong short whole sound h =
        absurd (made-fate of_volume who lun bytes plan LineTooLong (as_text to dir protection plan []) u u' taken v w refl (h []))
    text-unmade-refused Unread short whole sound h = record {
      short = short;
      cut = inr (record { plan = plan; judged = judged; cut = cut-short sound h });
    }

-- a text that isn't judged, or is too long: nothing was asked
module _ {D : Type 0} {met : Ghosts D} (who : Who) (lun : ℕ) (dir : FileId) (to : List ℕ) (protection : ℕ) (v : Volume D met) where
  unasked-files : (f : FlxRefusal) → is_lethal f ≡ false → (refused f ≡ refused (Files VolumeFailed) → ⊥)
      → (refused f ≡ refused (Rt Failed) → ⊥) → MayMakeStated (refused f) who lun dir to protection v v
  unasked-files f clean differs other = (
    [],
    may-not-make who lun (as_stated to dir protection [] [] []) v v f (of-calm f v v clean (calm-none v))
        (record { only = λ is. absurd (differs is); untouched = λ dead. refl })
        (none-for-one of_volume who lun (as_stated to dir protection [] [] []) v) (λ is. absurd (other is))
        (λ sound clean. as-before (store_of_volume v)),
  )

  pub unplanned-files : (f : FlxRefusal) (bytes : ℕ) (u u' : Option (List ℕ)) → FailsToPlanText bytes f u u'
      → MayMakeStated (copy_result (unmade (of_copy f))) who lun dir to protection v v
  unplanned-files (Files e) bytes u u' h = absurd h
  unplanned-files (Rt e) bytes u u' h = absurd h
  unplanned-files BadRecord bytes u u' h = absurd h
  unplanned-files LineTooLong bytes u u' h = unasked-files LineTooLong refl differ differ'
    where
      differ : refused LineTooLong ≡ refused (Files VolumeFailed) → ⊥
      differ is = cc

      differ' : refused LineTooLong ≡ refused (Rt Failed) → ⊥
      differ' is = cc
  unplanned-files Unread bytes u u' h = unasked-files Unread refl differ differ'
    where
      differ : refused Unread ≡ refused (Files VolumeFailed) → ⊥
      differ is = cc

      differ' : refused Unread ≡ refused (Rt Failed) → ⊥
      differ' is = cc

  pub unplanned-ends : (f : FlxRefusal) (bytes : ℕ) (u u' : Option (List ℕ)) → FailsToPlanText bytes f u u'
      → is_lethal (as_copy (of_copy f)) ≡ true → Ends of_volume who (as_copy (of_copy f)) v v
  unplanned-ends (Files e) bytes u u' h lethal = absurd h
  unplanned-ends (Rt e) bytes u u' h lethal = absurd h
  unplanned-ends BadRecord bytes u u' h lethal = absurd h
  unplanned-ends LineTooLong bytes u u' h lethal = absurd (cc)
  unplanned-ends Unread bytes u u' h lethal = absurd (cc)

module _ (bytes : ℕ) (u u' a : Option (List ℕ)) (f : FlxRefusal) (h : FailsToPlanText bytes f u u') where
  pub unplanned-host : ReadsTexts bytes (unmade (of_copy f)) u u' a a
  unplanned-host = by f h
    where
      by : (f : FlxRefusal) → FailsToPlanText bytes f u u' → ReadsTexts bytes (unmade (of_copy f)) u u' a a
      by (Files e) h = absurd h
      by (Rt e) h = absurd h
      by BadRecord h = absurd h
      by LineTooLong h = (h, refl)
      by Unread h = inl h

  pub unplanned-spent : FailsTextSpent false (of_copy f)
  unplanned-spent = by f h
    where
      by : (f : FlxRefusal) → FailsToPlanText bytes f u u' → FailsTextSpent false (of_copy f)
      by (Files e) h = absurd h
      by (Rt e) h = absurd h
      by BadRecord h = absurd h
      by LineTooLong h = tt
      by Unread h = tt

  pub unplanned-refused : (who : Who) (lun : ℕ) (dir : FileId) (to : List ℕ) (protection : ℕ) (s : Store) → is_text_too_long bytes ≡ false
      → FailsToCopyTextFromHost (of_copy f) bytes u u' a a who lun dir to protection s s
  unplanned-refused who lun dir to protection s short = by f h
    where
      by : (f : FlxRefusal) → FailsToPlanText bytes f u u'
          → FailsToCopyTextFromHost (of_copy f) bytes u u' a a who lun dir to protection s s
      by (Files e) h = absurd h
      by (Rt e) h = absurd h
      by BadRecord h = absurd h
      by LineTooLong h = (short, refl)
      by Unread h = record { short = short; cut = inl refl }

pub long-text-host : (bytes : ℕ) (u a : Option (List ℕ)) → is_text_too_long bytes ≡ true
    → ReadsTexts bytes (unmade (host.Files TooManySegments)) u u a a
long-text-host bytes u a long = λ clean. subst (λ b. ReadsIf b bytes u u a a) (sym long) (refl, refl)

pub long-text-spent : (b : Bool) → b ≡ true → FailsTextSpent b (host.Files TooManySegments)
long-text-spent true is = refl
long-text-spent false is = absurd (cc)

pub long-text-refused : (bytes : ℕ) (u a : Option (List ℕ)) (who : Who) (lun : ℕ) (dir : FileId) (to : List ℕ) (protection : ℕ) (s : Store)
    → is_text_too_long bytes ≡ true
    → FailsToCopyTextFromHost (host.Files TooManySegments) bytes u u a a who lun dir to protection s s
long-text-refused bytes u a who lun dir to protection s long =
    subst (λ b. IsTextRefusedIf b bytes u u a a who lun dir to protection TooManySegments s s) (sym long) (refl, refl)
