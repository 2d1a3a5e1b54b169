-- A file of the host that becomes a file of a Files-11 volume.
use Rattle.std.proofs.Common.{◌≡◌, ◌⊎◌, inl, inr, ℕ, ◌<◌, ◌≤◌, Bool, true, false, List, [], length, Option, Some, Result, Err}
use Rattle.std.proofs.Common.{if◌then◌else◌}
use Rattle.std.proofs.Common.{refl, sym, ap, ◌∙◌, subst, arith}
use Rattle.std.specs.Io.KnownBytes.{Consumes}
use Rattle.std.proofs.KnownBytes.{Consumes-nil}
use Rattle.f11_dev.specs.declared.device.Device.{Ghosts}
use Rattle.f11_store.specs.Store.{Store}
use Rattle.f11_store.specs.declared.files.FileId.{FileId}
use Rattle.f11_store.specs.declared.refusals.Refusal.{Refusal}
use Rattle.f11_store.specs.declared.refusals.Refusal.TheVariants.{TooManySegments, VolumeFailed}
use Rattle.f11_store.specs.declared.requests.Request.{Request}
use Rattle.f11_store.specs.declared.requests.Request.TheVariants as request
use Rattle.f11_flx.specs.fcp.Lists.{is_sound, store_of_volume}
use Rattle.f11_flx.specs.fcp.Serving.{is_spent}
use Rattle.f11_flx.specs.fcp.declared.volume.Volume.{Volume}
use Rattle.rt11_volume.specs.declared.refusal.RtRefusal.{RtRefusal}
use Rattle.rt11_volume.specs.declared.refusal.RtRefusal.TheVariants.{Failed}
use Rattle.f11_making.specs.Asking.{BreaksOffAsking, FilesService, Granted, Who}
use Rattle.f11_making.specs.Volume.{of_volume}
use Rattle.f11_flx.specs.Copying.{MayMake, is_whole}
use Rattle.f11_making.specs.Making.{FailsToMakeFile, Making, as_stated, filling, new_id}
use Rattle.f11_flx.specs.Ended.{Ends}
use Rattle.f11_making.specs.Making.{filling_of}
use Rattle.f11_flx.specs.Making.{FailsToFillOpened, IsCutShort, Undoing, UndoingIf}
use Rattle.f11_flx.specs.Refusal.{is_lethal}
use Rattle.f11_flx.specs.declared.refusal.FlxRefusal.{FlxRefusal}
use Rattle.f11_flx.specs.declared.refusal.FlxRefusal.TheVariants.{BadRecord, Files, LineTooLong, Rt, Unread}
use Rattle.f11_flx.proofs.FromRt.EndedLemmas.{making-ends}
use Rattle.f11_flx.proofs.FromRt.FaredLemmas.{calm-none, made-fares, of-calm, unmade-fares}
use Rattle.f11_flx.proofs.FromRt.FromRtLemmas.{making-seen}
use Rattle.f11_flx.proofs.FromRt.FromVolumeLemmas.{may-make, may-not-make}
use Rattle.f11_flx.proofs.FromRt.KeptLemmas.{dead-made, dead-unmade, given, made-keeps, refused, same-refusal, unmade-keeps}
use Rattle.f11_flx.proofs.FromRt.NotMadeLemmas.{IsRefusal, IsShort, making-refused, making-undone, unread-no-files}
use Rattle.f11_flx.proofs.SmallLemmas.{not-true}
use Rattle.f11_flx.proofs.Made.StatingLemmas.{made-in-order, unmade-in-order}
use Rattle.f11_flx.proofs.Made.TriedLemmas.{made-tries, none-for-one, unmade-tries}
use Rattle.f11_flx.proofs.FromRt.UndoneLemmas.{as-before, clean-undoing}
use Rattle.f11_making.proofs.VolumeLemmas.{standing, unused, volume-seen}
use Rattle.f11_host.specs.CopyFromHost.{CopiesFromHost, FailsSpent, FailsToCopyFromHost, IsNotCopied, IsRefusedIf, ReadsAll, ReadsHost}
use Rattle.f11_host.specs.CopyFromHost.{AsksForImage, HoldHost, as_image, image_attr, is_too_long}
use Rattle.f11_host.specs.Filling.{FailsToFillFromHost, FailsToMakeFromHost, FillsFromHost, HostFile, MakesFromHost, host_file}
use Rattle.f11_host.specs.Pieces.{IsInBlocks, blocks_for}
use Rattle.f11_host.specs.Refusal.{as_copy, copy_result, of_copy}
use Rattle.f11_host.specs.declared.refusal.HostRefusal.{HostRefusal}
use Rattle.f11_host.specs.declared.refusal.HostRefusal.TheVariants as host
use Rattle.f11_host.proofs.FillLemmas.{asks-to-fill, same-pieces, same-text}
use Rattle.f11_host.proofs.PieceLemmas.{blocks-count}

-- a refusal of the volume, or an unread file
abbrev pub IsTold : FlxRefusal → Type 0
IsTold f = as_copy (of_copy f) ≡ f

pub told-undoing : {V : Type 0} (S : FilesService V) (who : Who) (r : Request) (f f' : FlxRefusal) (v w : V) → IsTold f
    → Undoing S who r f f' v w → IsTold f'
told-undoing S who r f f' v w t h = by (is_lethal f) h
  where
    chosen : (e : Refusal) (b : Bool) → IsTold (if b then Files e else f)
    chosen e true = refl
    chosen e false = t

    by : (b : Bool) → UndoingIf b S who r f f' v w → IsTold f'
    by true h = subst (λ x. IsTold x) (sym h.0) t
    by false (inl h) = subst (λ x. IsTold x) (sym h.same) t
    by false (inr h) = subst (λ x. IsTold x) (sym h.answer) (chosen h.e (is_lethal (Files h.e)))

module _ {V : Type 0} (S : FilesService V) (who : Who) (lun bytes : ℕ) where
  told-fill : (f : FlxRefusal) (a b : HostFile) (v w : V) → FailsToFillFromHost S who lun bytes f a b v w → IsTold f
  told-fill (Files e) a b v w h = refl
  told-fill (Rt e) a b v w h = absurd h
  told-fill BadRecord a b v w h = absurd h
  told-fill LineTooLong a b v w h = absurd h
  told-fill Unread a b v w h = refl

  told-opened : (f : FlxRefusal) (id : FileId) (a b : HostFile) (v w : V)
      → FailsToFillOpened S who lun (FailsToFillFromHost S who lun bytes) id f a b v w → IsTold f
  told-opened f id a b v w (inl h) = subst (λ x. IsTold x) (sym h.is) refl
  told-opened f id a b v w (inr h) =
      told-undoing S who (request.Deaccess lun) h.f f h.left w (told-fill h.f a b h.between h.left h.fails) h.undoes

  told-made : (f : FlxRefusal) (making : Making) (a b : HostFile) (v w : V) → FailsToMakeFromHost S who lun bytes making f a b v w
      → IsTold f
  told-made f making a b v w (inl h) = subst (λ x. IsTold x) (sym h.is) refl
  told-made f making a b v w (inr (inl h)) =
      told-undoing S who (request.Delete h.id) h.f f h.left w (told-opened h.f h.id a b h.created h.left h.fails) h.undoes
  told-made f making a b v w (inr (inr h)) = told-undoing S who (request.Delete h.id) (Files h.e) f h.left w refl h.undoes

  -- what is known of the host where it was refused by no device fault or Damaged
  abbrev Fate : FlxRefusal → Option (List ℕ) → Option (List ℕ) → List ℕ → Type 0
  Fate (Files e) u u' taken = (length taken ≤ bytes) × Consumes u u' taken
  Fate (Rt e) u u' taken = ⊥
  Fate BadRecord u u' taken = ⊥
  Fate LineTooLong u u' taken = ⊥
  Fate Unread u u' taken = 0 < bytes

  -- nothing was read of it
  unread-fate : (f : FlxRefusal) (e : Refusal) (u u' : Option (List ℕ)) (taken : List ℕ) → f ≡ Files e
      → host_file u' taken ≡ host_file u [] → Fate f u u' taken
  unread-fate f e u u' taken is same =
      subst (λ x. Fate x u u' taken) (sym is)
      (subst (λ (x : HostFile). (length x.taken ≤ bytes) × Consumes u x.unread x.taken) (sym same) (omega arith, Consumes-nil u))

  fill-fate : (f : FlxRefusal) (u u' : Option (List ℕ)) (taken : List ℕ) (v w : V)
      → FailsToFillFromHost S who lun bytes f (host_file u []) (host_file u' taken) v w → Fate f u u' taken
  fill-fate (Files e) u u' taken v w h = (h.few, h.takes)
  fill-fate (Rt e) u u' taken v w h = absurd h
  fill-fate BadRecord u u' taken v w h = absurd h
  fill-fate LineTooLong u u' taken v w h = absurd h
  fill-fate Unread u u' taken v w h = omega (arith, h.few)

  opened-fate : (f : FlxRefusal) (id : FileId) (u u' : Option (List ℕ)) (taken : List ℕ) (v w : V) → is_lethal f ≡ false
      → FailsToFillOpened S who lun (FailsToFillFromHost S who lun bytes) id f (host_file u []) (host_file u' taken) v w
      → Fate f u u' taken
  opened-fate f id u u' taken v w clean (inl h) = unread-fate f h.e u u' taken h.is h.unread
  opened-fate f id u u' taken v w clean (inr h) =
      let x = clean-undoing S who (request.Deaccess lun) h.f f h.left w clean h.undoes in
      subst (λ y. Fate y u u' taken) (sym x.same) (fill-fate h.f u u' taken h.between h.left h.fails)

  made-fate : (f : FlxRefusal) (making : Making) (u u' : Option (List ℕ)) (taken : List ℕ) (v w : V) → is_lethal f ≡ false
      → FailsToMakeFromHost S who lun bytes making f (host_file u []) (host_file u' taken) v w → Fate f u u' taken
  made-fate f making u u' taken v w clean (inl h) = unread-fate f h.e u u' taken h.is h.unread
  made-fate f making u u' taken v w clean (inr (inl h)) =
      let x = clean-undoing S who (request.Delete h.id) h.f f h.left w clean h.undoes in
      subst (λ y. Fate y u u' taken) (sym x.same) (opened-fate h.f h.id u u' taken h.created h.left x.clean h.fails)
  made-fate f making u u' taken v w clean (inr (inr h)) =
      let x = clean-undoing S who (request.Delete h.id) (Files h.e) f h.left w clean h.undoes in
      subst (λ y. Fate y u u' taken) (sym x.same) (omega (arith, h.fills.fills.size), h.fills.fills.takes)

  -- the blocks that were written are those of what was taken
  filled-blocks : (u u' : Option (List ℕ)) (taken : List ℕ) (blocks : List (List ℕ)) (v w : V) → IsInBlocks taken blocks
      → FillsFromHost S who lun bytes (host_file u []) (host_file u' taken) v w → Granted S who (filling lun blocks) v w
  filled-blocks u u' taken blocks v w k h =
      let same = same-pieces taken taken h.pieces blocks refl h.in_blocks k in
      let n : length blocks ≡ blocks_for bytes = blocks-count taken blocks k ∙ ap blocks_for h.size in
      subst (λ n. Granted S who (filling_of lun n blocks) v w) (sym n)
      (subst (λ l. Granted S who (filling_of lun (blocks_for bytes) l) v w) same h.granted)

pub no-rt : (e : RtRefusal) → IsTold (Rt e) → ⊥
no-rt e is = cc

abbrev pub unmade : HostRefusal → Result ℕ HostRefusal
unmade e = Err e

module _ {D : Type 0} {met : Ghosts D} (who : Who) (lun bytes : ℕ) (dir : FileId) (to : List ℕ) (protection : ℕ)
    (u u' : Option (List ℕ)) (taken : List ℕ) (v w : Volume D met) where
  abbrev pub Made : Type 0
  Made = (pieces : List (List ℕ)) →
      MakesFromHost of_volume who lun bytes (as_image to dir protection bytes pieces) (host_file u []) (host_file u' taken) v w

  abbrev pub Unmade : FlxRefusal → Type 0
  Unmade f = (pieces : List (List ℕ)) →
      FailsToMakeFromHost of_volume who lun bytes (as_image to dir protection bytes pieces) f (host_file u []) (host_file u' taken) v w

  -- of as many bytes, as they were counted
  pub made-as : (n : ℕ)
      → ((pieces : List (List ℕ)) → MakesFromHost of_volume who lun n (as_image to dir protection n pieces) (host_file u [])
      (host_file u' taken) v w) → n ≡ bytes → Made
  made-as n h same =
      subst (λ b. (pieces : List (List ℕ)) → MakesFromHost of_volume who lun b (as_image to dir protection b pieces) (host_file u [])
      (host_file u' taken) v w) same h

  pub unmade-as : (f : FlxRefusal) (n : ℕ)
      → ((pieces : List (List ℕ)) → FailsToMakeFromHost of_volume who lun n (as_image to dir protection n pieces) f (host_file u [])
      (host_file u' taken) v w) → n ≡ bytes → Unmade f
  unmade-as f n h same =
      subst (λ b. (pieces : List (List ℕ)) → FailsToMakeFromHost of_volume who lun b (as_image to dir protection b pieces) f
      (host_file u []) (host_file u' taken) v w) same h

  pub count-as : (blocks n : ℕ) → blocks ≡ blocks_for n → n ≡ bytes → blocks ≡ blocks_for bytes
  count-as blocks n count same = count ∙ ap blocks_for same

  pub made-files : (blocks : ℕ) → Made → MayMake (given blocks) who lun dir to protection (Some (image_attr bytes)) v w
  made-files blocks h =
      may-make who lun (as_image to dir protection bytes []) v w blocks
      (made-fares who lun (blocks_for bytes) (FillsFromHost of_volume who lun bytes) (FailsToFillFromHost of_volume who lun bytes)
      (asks-to-fill of_volume who lun bytes) (as_image to dir protection bytes []) (host_file u []) (host_file u' taken) v w (h []))
      (made-keeps who lun (blocks_for bytes) (FillsFromHost of_volume who lun bytes) (FailsToFillFromHost of_volume who lun bytes)
      (asks-to-fill of_volume who lun bytes) blocks (as_image to dir protection bytes []) (host_file u []) (host_file u' taken) v w (h []))
      (made-tries of_volume who lun (blocks_for bytes) (FillsFromHost of_volume who lun bytes)
      (FailsToFillFromHost of_volume who lun bytes) (asks-to-fill of_volume who lun bytes)
      (as_image to dir protection bytes []) (host_file u []) (host_file u' taken) v w (h []))

  told : (f : FlxRefusal) → Unmade f → as_copy (of_copy f) ≡ f
  told f h =
      told-made of_volume who lun bytes f (as_image to dir protection bytes []) (host_file u []) (host_file u' taken) v w (h [])

  pub unmade-files : (f : FlxRefusal) → Unmade f
      → MayMake (copy_result (unmade (of_copy f))) who lun dir to protection (Some (image_attr bytes)) v w
  unmade-files f h =
      subst (λ x. MayMake (refused x) who lun dir to protection (Some (image_attr bytes)) v w) (sym (told f h))
      (may-not-make who lun (as_image to dir protection bytes []) v w f
      (unmade-fares who lun (blocks_for bytes) (FillsFromHost of_volume who lun bytes) (FailsToFillFromHost of_volume who lun bytes)
      (asks-to-fill of_volume who lun bytes) f (as_image to dir protection bytes []) (host_file u []) (host_file u' taken) v w (h []))
      (unmade-keeps who lun (blocks_for bytes) (FillsFromHost of_volume who lun bytes) (FailsToFillFromHost of_volume who lun bytes)
      (asks-to-fill of_volume who lun bytes) f (as_image to dir protection bytes []) (host_file u []) (host_file u' taken) v w (h []))
      (unmade-tries of_volume who lun (blocks_for bytes) (FillsFromHost of_volume who lun bytes)
      (FailsToFillFromHost of_volume who lun bytes) (asks-to-fill of_volume who lun bytes)
      (as_image to dir protection bytes []) f (host_file u []) (host_file u' taken) v w (h []))
      (λ is. absurd (no-rt Failed (subst (λ x. IsTold x) (same-refusal f (Rt Failed) is) (told f h))))
      (λ sound clean. making-undone of_volume who lun (blocks_for bytes) (FillsFromHost of_volume who lun bytes)
      (FailsToFillFromHost of_volume who lun bytes) (asks-to-fill of_volume who lun bytes) store_of_volume is_sound volume-seen f
      (as_image to dir protection bytes []) (host_file u []) (host_file u' taken) v w clean sound (unused v) (standing v sound) (h [])))

  blocks-held : (x y : Volume D met) → FillsFromHost of_volume who lun bytes (host_file u []) (host_file u' taken) x y
      → (pieces : List (List ℕ)) × (HoldHost bytes u u' pieces) × Granted of_volume who (filling lun pieces) x y
  blocks-held x y k = (
    k.pieces,
    record { taken = taken; size = k.size; takes = k.takes; in_blocks = k.in_blocks },
    filled-blocks of_volume who lun bytes u u' taken k.pieces x y k.in_blocks k,
  )

  pub made-order : Made → AsksForImage of_volume bytes u u' who lun dir to protection v w
  made-order h =
      made-in-order of_volume who lun (blocks_for bytes) (FillsFromHost of_volume who lun bytes)
      (FailsToFillFromHost of_volume who lun bytes) (asks-to-fill of_volume who lun bytes) (as_image to dir protection bytes [])
      (HoldHost bytes u u') (host_file u []) (host_file u' taken) blocks-held v w (h [])

  pub unmade-order : (f : FlxRefusal) → Unmade f → AsksForImage of_volume bytes u u' who lun dir to protection v w
  unmade-order f h =
      unmade-in-order of_volume who lun (blocks_for bytes) (FillsFromHost of_volume who lun bytes)
      (FailsToFillFromHost of_volume who lun bytes) (asks-to-fill of_volume who lun bytes) (as_image to dir protection bytes [])
      (HoldHost bytes u u') (host_file u []) (host_file u' taken) blocks-held f v w (h [])

  pub made-host : (blocks : ℕ) → blocks ≡ blocks_for bytes → Made → ReadsAll bytes blocks u u'
  made-host blocks is h =
      let k = h [] in record { taken = taken; size = k.fills.fills.size; takes = k.fills.fills.takes; count = is }

  pub unmade-host : (f : FlxRefusal) → Unmade f → ReadsHost bytes (unmade (of_copy f)) u u'
  unmade-host (Files e) h = λ clean.
      let k = made-fate of_volume who lun bytes (Files e) (as_image to dir protection bytes []) u u' taken v w clean (h []) in
      record { taken = taken; few = k.0; takes = k.1 }
  unmade-host (Rt e) h = absurd (no-rt e (told (Rt e) h))
  unmade-host BadRecord h =
      absurd (made-fate of_volume who lun bytes BadRecord (as_image to dir protection bytes []) u u' taken v w refl (h []))
  unmade-host LineTooLong h =
      absurd (made-fate of_volume who lun bytes LineTooLong (as_image to dir protection bytes []) u u' taken v w refl (h []))
  unmade-host Unread h =
      made-fate of_volume who lun bytes Unread (as_image to dir protection bytes []) u u' taken v w refl (h [])

  pub made-spent : is_spent v ≡ true → Made → ⊥
  made-spent dead h =
      dead-made who lun (blocks_for bytes) (FillsFromHost of_volume who lun bytes) (FailsToFillFromHost of_volume who lun bytes)
      (asks-to-fill of_volume who lun bytes) (as_image to dir protection bytes []) (host_file u []) (host_file u' taken) v w dead (h [])

  pub unmade-spent : (f : FlxRefusal) → is_spent v ≡ true → Unmade f → FailsSpent false (of_copy f)
  unmade-spent f dead h =
      subst (λ x. FailsSpent false (of_copy x))
      (sym (dead-unmade who lun (blocks_for bytes) (FillsFromHost of_volume who lun bytes) (FailsToFillFromHost of_volume who lun bytes)
      (asks-to-fill of_volume who lun bytes) f (as_image to dir protection bytes []) (host_file u []) (host_file u' taken) v w dead (h [])))
      refl

  pub unmade-ends : (f : FlxRefusal) → Unmade f → is_lethal (as_copy (of_copy f)) ≡ true → Ends of_volume who (as_copy (of_copy f)) v w
  unmade-ends f h lethal =
      subst (λ x. Ends of_volume who x v w) (sym (told f h))
      (making-ends of_volume who lun (blocks_for bytes) (FillsFromHost of_volume who lun bytes)
      (FailsToFillFromHost of_volume who lun bytes) (asks-to-fill of_volume who lun bytes) f (as_image to dir protection bytes [])
      (host_file u []) (host_file u' taken) v w (h []) (ap is_lethal (sym (told f h)) ∙ lethal))

  pub made-copied : is_sound v ≡ true → Made → CopiesFromHost bytes u u' who lun dir to protection (store_of_volume v) (store_of_volume w)
  made-copied sound h =
      let k = (h []).fills.fills in
      record {
        taken = taken;
        size = k.size;
        takes = k.takes;
        pieces = k.pieces;
        in_blocks = k.in_blocks;
        asked = making-seen of_volume who lun (FillsFromHost of_volume who lun bytes) (as_image to dir protection bytes k.pieces)
            (host_file u []) (host_file u' taken) (λ x y f. filled-blocks of_volume who lun bytes u u' taken k.pieces x y k.in_blocks f)
            store_of_volume is_sound volume-seen v w sound (h k.pieces);
      }

  -- how a making of these blocks is refused
  made-of : (f : FlxRefusal) (blocks : List (List ℕ)) → is_lethal f ≡ false → is_sound v ≡ true
      → ((e : Refusal) → f ≡ Files e → (x y : Volume D met)
      → FillsFromHost of_volume who lun bytes (host_file u []) (host_file u' taken) x y → Granted of_volume who (filling lun blocks) x y)
      → ((e : Refusal) → f ≡ Files e → (x y : Volume D met)
      → FailsToFillFromHost of_volume who lun bytes (Files e) (host_file u []) (host_file u' taken) x y
      → BreaksOffAsking of_volume who (filling lun blocks) e x y) → Unmade f →
      (IsRefusal (as_image to dir protection bytes blocks) who lun f (store_of_volume v) (store_of_volume w))
      ⊎ (IsShort (FailsToFillFromHost (of_volume {met = met}) who lun bytes) (as_image to dir protection bytes blocks) who lun
      (blocks_for bytes) f
      (host_file u []) (host_file u' taken) (store_of_volume v) (store_of_volume w))
  made-of f blocks clean sound filled broken h =
      making-refused of_volume who lun (blocks_for bytes) (FillsFromHost of_volume who lun bytes)
      (FailsToFillFromHost of_volume who lun bytes) (asks-to-fill of_volume who lun bytes) store_of_volume is_sound volume-seen f
      (as_image to dir protection bytes blocks) (host_file u []) (host_file u' taken) v w clean sound (unused v) (standing v sound) filled
      broken (h blocks)

  not-copied : (e : Refusal) → is_lethal (Files e) ≡ false → is_sound v ≡ true → Unmade (Files e)
      → IsNotCopied bytes u u' who lun dir to protection e (store_of_volume v) (store_of_volume w)
  not-copied e clean sound h =
      let fate = made-fate of_volume who lun bytes (Files e) (as_image to dir protection bytes []) u u' taken v w clean (h []) in
      record {
        taken = taken;
        few = fate.0;
        takes = fate.1;
        fails = λ text size front blocks k. by blocks
            (made-of (Files e) blocks clean sound
            (λ d is x y f.
            let same = same-text text taken (size ∙ sym f.size) front in
            filled-blocks of_volume who lun bytes u u' taken blocks x y (subst (λ l. IsInBlocks l blocks) same k) f)
            (λ d is x y f.
            let n : length blocks ≡ blocks_for bytes = blocks-count text blocks k ∙ ap blocks_for size in
            subst (λ n. BreaksOffAsking of_volume who (filling_of lun n blocks) d x y) (sym n) (f.whole text size front blocks k)) h);
      }
    where
      same-refusal' : (d : Refusal) → Files e ≡ Files d → d ≡ e
      same-refusal' d is = cc

      by : (blocks : List (List ℕ)) →
          (IsRefusal (as_image to dir protection bytes blocks) who lun (Files e) (store_of_volume v) (store_of_volume w))
          ⊎ (IsShort (FailsToFillFromHost (of_volume {met = met}) who lun bytes) (as_image to dir protection bytes blocks) who lun
          (blocks_for bytes)
          (Files e) (host_file u []) (host_file u' taken) (store_of_volume v) (store_of_volume w)) →
          FailsToMakeFile (as_image to dir protection bytes blocks) who lun (new_id (store_of_volume v)) e (store_of_volume v)
          (store_of_volume w)
      by blocks (inl r) =
          subst (λ d. FailsToMakeFile (as_image to dir protection bytes blocks) who lun (new_id (store_of_volume v)) d (store_of_volume v)
          (store_of_volume w)) (same-refusal' r.e r.is) r.fails
      by blocks (inr k) = absurd (k.other e refl)

  cut-short : is_sound v ≡ true → Unmade Unread → (blocks : List (List ℕ)) →
      IsCutShort (as_image to dir protection bytes blocks) who lun (blocks_for bytes) (new_id (store_of_volume v)) (store_of_volume v)
      (store_of_volume w)
  cut-short sound h blocks = by
      (made-of Unread blocks refl sound (λ e is. absurd (unread-no-files e is)) (λ e is. absurd (unread-no-files e is)) h)
    where
      by : (IsRefusal (as_image to dir protection bytes blocks) who lun Unread (store_of_volume v) (store_of_volume w))
          ⊎ (IsShort (FailsToFillFromHost (of_volume {met = met}) who lun bytes) (as_image to dir protection bytes blocks) who lun
          (blocks_for bytes)
          Unread (host_file u []) (host_file u' taken) (store_of_volume v) (store_of_volume w)) →
          IsCutShort (as_image to dir protection bytes blocks) who lun (blocks_for bytes) (new_id (store_of_volume v)) (store_of_volume v)
          (store_of_volume w)
      by (inl r) = absurd (unread-no-files r.e r.is)
      by (inr k) = k.cut

  pub unmade-refused : (f : FlxRefusal) → is_too_long bytes ≡ false → is_whole (copy_result (unmade (of_copy f))) ≡ true
      → is_sound v ≡ true → Unmade f →
      FailsToCopyFromHost (of_copy f) bytes u u' who lun dir to protection (store_of_volume v) (store_of_volume w)
  unmade-refused (Files e) short whole sound h =
      subst (λ b. IsRefusedIf b bytes u u' who lun dir to protection e (store_of_volume v) (store_of_volume w)) (sym short)
      (not-copied e (not-true (is_lethal (Files e)) whole) sound h)
  unmade-refused (Rt e) short whole sound h = absurd (no-rt e (told (Rt e) h))
  unmade-refused BadRecord short whole sound h =
      absurd (made-fate of_volume who lun bytes BadRecord (as_image to dir protection bytes []) u u' taken v w refl (h []))
  unmade-refused LineTooLong short whole sound h =
      absurd (made-fate of_volume who lun bytes LineTooLong (as_image to dir protection bytes []) u u' taken v w refl (h []))
  unmade-refused Unread short whole sound h = record { short = short; cut = cut-short sound h }

-- a file that is too long
module _ {D : Type 0} {met : Ghosts D} (who : Who) (lun : ℕ) (dir : FileId) (to : List ℕ) (protection : ℕ) (attr : List ℕ)
    (v : Volume D met) where
  pub too-long-files : MayMake (copy_result (unmade (host.Files TooManySegments))) who lun dir to protection (Some attr) v v
  too-long-files =
      may-not-make who lun (as_stated to dir protection [] attr []) v v (Files TooManySegments)
      (of-calm (Files TooManySegments) v v refl (calm-none v))
      (record { only = λ is. absurd (differ is); untouched = λ dead. refl })
      (none-for-one of_volume who lun (as_stated to dir protection [] attr []) v)
      (λ is. refl) (λ sound clean. as-before (store_of_volume v))
    where
      differ : refused (Files TooManySegments) ≡ refused (Files VolumeFailed) → ⊥
      differ is = cc

pub too-long-host : (bytes : ℕ) (u : Option (List ℕ)) → ReadsHost bytes (unmade (host.Files TooManySegments)) u u
too-long-host bytes u = λ clean. record { taken = []; few = omega arith; takes = Consumes-nil u }

pub too-long-spent : (b : Bool) → b ≡ true → FailsSpent b (host.Files TooManySegments)
too-long-spent true is = refl
too-long-spent false is = absurd (cc)

pub too-long-refused : (b : Bool) → b ≡ true → (bytes : ℕ) (u u' : Option (List ℕ)) (who : Who) (lun : ℕ) (dir : FileId) (to : List ℕ)
    (protection : ℕ) (s : Store) → IsRefusedIf b bytes u u' who lun dir to protection TooManySegments s s
too-long-refused true is bytes u u' who lun dir to protection s = (refl, refl)
too-long-refused false is bytes u u' who lun dir to protection s = absurd (cc)
