-- Nothing follows a device fault or Damaged in a copy to an RT-11 volume.
use Rattle.std.proofs.Common.{◌≡◌, ◌⊎◌, inl, inr, ℕ, suc, true, false, List, [], ◌∷◌, ◌++◌, All, length, refl, sym, ap, ◌∙◌, subst}
use Rattle.std.proofs.lemmas.List.Elements.{All-append, All-cons, All-nil}
use Rattle.f11_dev.specs.Disk.{Disk}
use Rattle.f11_dev.specs.declared.device.Device.{Ghosts}
use Rattle.f11_store.specs.declared.files.FileId.{FileId}
use Rattle.f11_store.specs.declared.files.Mode.TheVariants as access
use Rattle.f11_store.specs.declared.refusals.Refusal.{Refusal}
use Rattle.f11_store.specs.declared.refusals.Refusal.TheVariants.{Damaged}
use Rattle.f11_store.specs.declared.requests.Reply.TheVariants as reply
use Rattle.f11_store.specs.declared.requests.Request.TheVariants as request
use Rattle.f11_runs.proofs.AccessLemmas.{true-false}
use Rattle.rt11_volume.specs.Files.{is_fault}
use Rattle.rt11_volume.specs.declared.refusal.RtRefusal.{RtRefusal}
use Rattle.rt11_volume.specs.declared.volume.RtAccepted.{RtAccepted}
use Rattle.f11_making.specs.Asking.{Asking, BreaksOffAsking, Denies, Granted, Grants, FilesService, Who, asks, counts, reads, reads_of}
use Rattle.f11_making.specs.Asking.{told}
use Rattle.f11_flx.specs.Copies.{FailsToCopyText}
use Rattle.f11_flx.specs.Ended.{EndsDenied, IsLast}
use Rattle.f11_flx.specs.EndedToRt.{EndsHeld, EndsToRt, HasAtMostOneMore, HoldsAsked, IsMadeInPart, is_holding}
use Rattle.f11_flx.specs.Filling.{Refusing, TakingBlocks, Took}
use Rattle.f11_flx.specs.Refusal.{is_lethal}
use Rattle.f11_flx.specs.Source.{CopiesAs, FailsAs, TellsNothing, TellsSource, up_to_end}
use Rattle.f11_flx.specs.Target.{rt_store}
use Rattle.f11_flx.specs.ToRt.{CopiesLocked, CountsAs, FailsLocked, FailsToCopyFileToRt, FailsToCountAs, FailsToFillToRt, GaveUp}
use Rattle.f11_flx.specs.ToRt.{IsNotClosed, UndoesToRt, nowhere_refuses, nowhere_takes, rt_refuses, rt_takes}
use Rattle.f11_flx.specs.declared.mode.CopyMode.{CopyMode}
use Rattle.f11_flx.specs.declared.mode.CopyMode.TheVariants.{Image, Text}
use Rattle.f11_flx.specs.declared.refusal.FlxRefusal.{FlxRefusal}
use Rattle.f11_flx.specs.declared.refusal.FlxRefusal.TheVariants.{BadRecord, Files, LineTooLong, Rt, Unread}
use Rattle.f11_flx.specs.declared.to_text.ToText.{ToText}
use Rattle.f11_making.proofs.AskingLemmas.{granted-append}
use Rattle.f11_making.specs.Cleanly.{Cleanly}
use Rattle.f11_making.proofs.CleanlyLemmas.{cleanly-all, cleanly-denied, cleanly-then}
use Rattle.f11_flx.proofs.RtFiles.RtCopyLemmas.{has-made, took-puts}
use Rattle.f11_flx.proofs.ToRt.RtOutcomeLemmas.{copies-some, locked-leaves}

abbrev held : Asking → Type 0
held x = is_holding x ≡ true

-- The volume's refusal is of what was asked last, behind what was granted.
pub record Broke {V : Type 0} (S : FilesService V) (who : Who) (e : Refusal) (old new : V) : Type 0 where
  pub at : V
  pub holds : HoldsAsked S who old at
  pub last : Asking
  pub is_last : IsLast S who last e at new

-- how far a refused copy came
abbrev pub Came : {V : Type 0} → FilesService V → Who → FlxRefusal → V → V → Type 0
Came S who (Files e) old new = Broke S who e old new
Came S who (Rt e) old new = EndsHeld S who old new
Came S who BadRecord old new = EndsHeld S who old new
Came S who LineTooLong old new = EndsHeld S who old new
Came S who Unread old new = ⊥

files-rt : (e : Refusal) (r : RtRefusal) → Files e ≡ Rt r → ⊥
files-rt e r is = cc

files-bad : (e : Refusal) → Files e ≡ BadRecord → ⊥
files-bad e is = cc

pub lethal-damaged : (e : Refusal) → e ≡ Damaged → is_lethal (Files e) ≡ false → ⊥
lethal-damaged e is clean = true-false (sym (ap (λ (x : Refusal). is_lethal (Files x)) is) ∙ clean)

held-blocks : (lun k : ℕ) (xs : List (List ℕ)) → All held (reads_of lun k xs)
held-blocks lun k [] = All-nil held
held-blocks lun k (x ∷ xs) = All-cons held (reads lun (suc k) x) (reads_of lun (suc k) xs) refl (held-blocks lun (suc k) xs)

module _ {V : Type 0} (S : FilesService V) (who : Who) where
  held-none : (v w : V) → w ≡ v → HoldsAsked S who v w
  held-none v w same = record { asked = []; granted = same; holding = All-nil held }

  held-one : (x : Asking) (v w : V) → is_holding x ≡ true → Grants S who x v w → HoldsAsked S who v w
  held-one x v w is g = record { asked = x ∷ []; granted = (w, g, refl); holding = All-cons held x [] is (All-nil held) }

  held-then : (u v w : V) → HoldsAsked S who u v → HoldsAsked S who v w → HoldsAsked S who u w
  held-then u v w h k = record {
    asked = h.asked ++ k.asked;
    granted = granted-append S who h.asked k.asked u v w h.granted k.granted;
    holding = All-append held h.asked k.asked h.holding k.holding;
  }

  held-reads : (lun k : ℕ) (xs : List (List ℕ)) (v w : V) → Granted S who (reads_of lun k xs) v w → HoldsAsked S who v w
  held-reads lun k xs v w g = record { asked = reads_of lun k xs; granted = g; holding = held-blocks lun k xs }

  broke-denied : (x : Asking) (e : Refusal) (v w : V) → Denies S who x e v w → Broke S who e v w
  broke-denied x e v w d = record { at = v; holds = held-none v v refl; last = x; is_last = inl d }

  broke-behind : (e : Refusal) (u v w : V) → HoldsAsked S who u v → Broke S who e v w → Broke S who e u w
  broke-behind e u v w h k = record { at = k.at; holds = held-then u v k.at h k.holds; last = k.last; is_last = k.is_last }

  broke-reads : (lun k : ℕ) (xs : List (List ℕ)) (e : Refusal) (v w : V) → BreaksOffAsking S who (reads_of lun k xs) e v w
      → Broke S who e v w
  broke-reads lun k [] e v w h = absurd h
  broke-reads lun k (x ∷ xs) e v w (inl h) = broke-denied (reads lun (suc k) x) e v w h
  broke-reads lun k (x ∷ xs) e v w (inr h) =
      broke-behind e v h.0 w (held-one (reads lun (suc k) x) v h.0 refl h.1) (broke-reads lun (suc k) xs e h.0 w h.2)

  ends-held : (v w : V) → HoldsAsked S who v w → EndsHeld S who v w
  ends-held v w h = record { at = w; holds = h; last = inl refl }

  held-behind : (u v w : V) → HoldsAsked S who u v → EndsHeld S who v w → EndsHeld S who u w
  held-behind u v w h k = record { at = k.at; holds = held-then u v k.at h k.holds; last = k.last }

  came-behind : (f : FlxRefusal) (u v w : V) → HoldsAsked S who u v → Came S who f v w → Came S who f u w
  came-behind (Files e) u v w h k = broke-behind e u v w h k
  came-behind (Rt e) u v w h k = held-behind u v w h k
  came-behind BadRecord u v w h k = held-behind u v w h k
  came-behind LineTooLong u v w h k = held-behind u v w h k
  came-behind Unread u v w h k = absurd k

  came-as : (f g : FlxRefusal) (v w : V) → f ≡ g → Came S who g v w → Came S who f v w
  came-as f g v w is h = subst (λ x. Came S who x v w) (sym is) h

  -- a refusal that is no device fault or Damaged may be followed by one of the RT-11 volume
  broke-held : (e : Refusal) (v w : V) → is_lethal (Files e) ≡ false → Broke S who e v w → EndsHeld S who v w
  broke-held e v w clean h = by h.is_last
    where
      by : IsLast S who h.last e h.at w → EndsHeld S who v w
      by (inl d) = record { at = h.at; holds = h.holds; last = inr (h.last, e, clean, d) }
      by (inr d) = absurd (lethal-damaged e d.4 clean)

  came-held : (f : FlxRefusal) (v w : V) → is_lethal f ≡ false → Came S who f v w → EndsHeld S who v w
  came-held (Files e) v w clean h = broke-held e v w clean h
  came-held (Rt e) v w clean h = h
  came-held BadRecord v w clean h = h
  came-held LineTooLong v w clean h = h
  came-held Unread v w clean h = absurd h

  held-cleanly : (v w : V) → EndsHeld S who v w → Cleanly S who v w
  held-cleanly v w h = cleanly-then S who v h.at w (cleanly-all S who h.holds.asked v h.at h.holds.granted) (by h.last)
    where
      by : (w ≡ h.at) ⊎ ((x : Asking) × (e : Refusal) × (is_lethal (Files e) ≡ false) × Denies S who x e h.at w) → Cleanly S who h.at w
      by (inl same) = record { asked = []; tried = same }
      by (inr d) = cleanly-denied S who d.0 d.1 h.at w d.2 d.3

  broke-ends : (e : Refusal) (v w : V) → Broke S who e v w → EndsDenied S who e v w
  broke-ends e v w h =
      let c = cleanly-all S who h.holds.asked v h.at h.holds.granted in
      record { asked = c.asked; at = h.at; tried = c.tried; last = h.last; is_last = h.is_last }

module _ {V : Type 0} (S : FilesService V) (who : Who) (lun : ℕ) (name : List ℕ) where
  module _ {W : Type 0} (K : TakingBlocks W) (R : Refusing W)
      (rt : (e : FlxRefusal) (place : ℕ) (last : List ℕ) (a b : W) → R name place last e a b → (r : RtRefusal) × (e ≡ Rt r))
    where
      taken-came : (e : FlxRefusal) (place : ℕ) (last : List ℕ) (a b : W) (v w : V) → R name place last e a b → HoldsAsked S who v w
          → Came S who e v w
      taken-came e place last a b v w r h = let k = rt e place last a b r in came-as S who e (Rt k.0) v w k.1 (ends-held S who v w h)

      text-came : (text : ToText) (count : ℕ) (e : FlxRefusal) (v w : V) (t t' : W)
          → FailsToCopyText S K R who lun name text count e v w t t' →
          Came S who e v w
      text-came text count e v w t t' (inl d) =
          came-as S who e (Files d.refusal) v w d.is (broke-reads S who lun 0 d.given d.refusal v w d.breaks)
      text-came text count e v w t t' (inr (inl d)) =
          came-as S who e BadRecord v w d.is (ends-held S who v w (held-reads S who lun 0 d.given v w d.asked))
      text-came text count e v w t t' (inr (inr d)) =
          taken-came e (length d.pieces) d.last d.between t' v w d.refused (held-reads S who lun 0 d.given v w d.asked)

      fails-came : (m : CopyMode) (attr : List ℕ) (n : ℕ) (e : FlxRefusal) (v w : V) (t t' : W)
          → FailsAs m S K R who lun name attr n e v w t t' →
          Came S who e v w
      fails-came Image attr n e v w t t' (inl d) =
          came-as S who e (Files d.refusal) v w d.is (broke-reads S who lun 0 d.given d.refusal v w d.breaks)
      fails-came Image attr n e v w t t' (inr d) =
          taken-came e (length d.pieces) d.last d.between t' v w d.refused (held-reads S who lun 0 d.given v w d.asked)
      fails-came Text attr n e v w t t' (inl k) = came-as S who e BadRecord v w k.is (ends-held S who v w (held-none S who v w k.stays))
      fails-came Text attr n e v w t t' (inr k) = text-came k.0 (up_to_end attr n) e v w t t' k.2

  copies-held : {W : Type 0} (K : TakingBlocks W) (m : CopyMode) (attr : List ℕ) (n count : ℕ) (v w : V) (t t' : W) →
      CopiesAs m S K who lun name attr n count v w t t' → HoldsAsked S who v w
  copies-held K Image attr n count v w t t' h = held-reads S who lun 0 h.1.given v w h.1.asked
  copies-held K Text attr n count v w t t' h = held-reads S who lun 0 h.2.given v w h.2.asked

  count-held : (m : CopyMode) (attr : List ℕ) (n count : ℕ) (v w : V) → CountsAs m S who lun name attr n count v w → HoldsAsked S who v w
  count-held Image attr n count v w h = held-none S who v w h.1
  count-held Text attr n count v w h = copies-held nowhere_takes Text attr n count v w h.0 h.1 h.2

  uncounted-came : (m : CopyMode) (attr : List ℕ) (n : ℕ) (e : FlxRefusal) (v w : V) → FailsToCountAs m S who lun name attr n e v w
      → Came S who e v w
  uncounted-came Image attr n e v w h = absurd h
  uncounted-came Text attr n e v w h =
      fails-came nowhere_takes nowhere_refuses (λ x place last p q r. absurd r) Text attr n e v w h.0 h.1 h.2

  module _ (file : FileId) where
    told-held : (attr : List ℕ) (n : ℕ) (v w : V) → TellsSource S who lun file attr n v w → HoldsAsked S who v w
    told-held attr n v w h = record {
      asked = told (request.ReadAttr file) (reply.Attr h.of) ∷ counts lun n ∷ [];
      granted = h.asked;
      holding = All-cons held (told (request.ReadAttr file) (reply.Attr h.of)) (counts lun n ∷ []) refl
          (All-cons held (counts lun n) [] refl (All-nil held));
    }

    untold-came : (e : Refusal) (v w : V) → TellsNothing S who lun file e v w → Broke S who e v w
    untold-came e v w (inl (inl d)) = broke-denied S who (asks (request.ReadAttr file)) e v w d
    untold-came e v w (inl (inr d)) = record {
      at = v;
      holds = held-none S who v v refl;
      last = told (request.ReadAttr file) d.0;
      is_last = inr (request.ReadAttr file, d.0, refl, d.1, d.2, d.3);
    }
    untold-came e v w (inr d) =
        broke-behind S who e v d.between w (held-one S who (told (request.ReadAttr file) (reply.Attr d.of)) v d.between refl d.asked)
        (broke-denied S who (counts lun 0) e d.between w d.denied)

    open-held : (v w : V) → Grants S who (asks (request.Access file access.Locked lun)) v w → HoldsAsked S who v w
    open-held v w g = held-one S who (asks (request.Access file access.Locked lun)) v w refl g

    module _ {E : Type 0} {met : Ghosts E} (disk : E → Disk) (day : ℕ) where
      undo-came : (x e : FlxRefusal) (v w : V) (a b : RtAccepted E met) → UndoesToRt disk name x e a b → Came S who x v w → Came S who e v w
      undo-came x e v w a b (inl h) k = came-as S who e x v w h.same k
      undo-came x e v w a b (inr (inl h)) k = came-as S who e x v w h.same k
      undo-came x e v w a b (inr (inr h)) k = by h.answer_is
        where
          by : (((is_fault h.refusal ≡ true) × (e ≡ Rt h.refusal)) ⊎ ((is_fault h.refusal ≡ false) × (e ≡ x))) → Came S who e v w
          by (inl y) = came-as S who e (Rt h.refusal) v w y.1 (came-held S who x v w h.clean k)
          by (inr y) = came-as S who e x v w y.1 k

      fill-came : (m : CopyMode) (attr : List ℕ) (n count : ℕ) (e : FlxRefusal) (v w : V) (a b : RtAccepted E met) →
          FailsToFillToRt m S disk who lun name attr n count day e v w a b → Came S who e v w
      fill-came m attr n count e v w a b (inl h) =
          came-as S who e (Rt h.refusal) v w h.is (ends-held S who v w (held-none S who v w h.stays))
      fill-came m attr n count e v w a b (inr h) =
          undo-came h.refusal e v w h.stopped b h.undoes
          (fails-came (rt_takes disk) (rt_refuses disk) (λ x place last p q r. (r.refusal, r.is)) m attr n h.refusal v w h.made h.stopped
          h.fails)

      pub locked-came : (m : CopyMode) (e : FlxRefusal) (v w : V) (a b : RtAccepted E met)
          → FailsLocked m S disk who lun file name day e v w a b →
          Came S who e v w
      locked-came m e v w a b (inl k) = came-as S who e (Files k.refusal) v w k.is (untold-came k.refusal v w k.tells)
      locked-came m e v w a b (inr (inl k)) =
          came-behind S who e v k.seen w (told-held k.attr k.blocks v k.seen k.told) (uncounted-came m k.attr k.blocks e k.seen w k.fails)
      locked-came m e v w a b (inr (inr k)) =
          came-behind S who e v k.seen w (told-held k.attr k.blocks v k.seen k.told)
          (came-behind S who e k.seen k.walked w (count-held m k.attr k.blocks k.count k.seen k.walked k.counted)
          (fill-came m k.attr k.blocks k.count e k.walked w a b k.fails))

      locked-held : (m : CopyMode) (count : ℕ) (v w : V) (a b : RtAccepted E met)
          → CopiesLocked m S disk who lun file name count day v w a b → HoldsAsked S who v w
      locked-held m count v w a b k =
          held-then S who v k.seen w (told-held k.attr k.blocks v k.seen k.told)
          (held-then S who k.seen k.walked w (count-held m k.attr k.blocks count k.seen k.walked k.counted)
          (copies-held (rt_takes disk) m k.attr k.blocks k.fills.taken k.walked w k.fills.made b k.fills.copies))

      pub unclosed-came : (m : CopyMode) (e : FlxRefusal) (v w : V) (a b : RtAccepted E met)
          → IsNotClosed m S disk who lun file name day e v w a b →
          Came S who e v w
      unclosed-came m e v w a b k =
          undo-came (Files k.refusal) e v w k.filled b k.undoes
          (broke-behind S who k.refusal v k.opened w (open-held v k.opened k.opens)
          (broke-behind S who k.refusal k.opened k.left w (locked-held m k.count k.opened k.left a k.filled k.copies)
          (broke-denied S who (asks (request.Deaccess lun)) k.refusal k.left w k.denied)))

      -- what stays on the RT-11 volume where the Files-11 one ended it
      undo-left : (x e : FlxRefusal) (r : Refusal) (a b : RtAccepted E met) → e ≡ Files r → is_lethal e ≡ true
          → UndoesToRt disk name x e a b →
          (x ≡ Files r) × (b ≡ a)
      undo-left x e r a b is lethal (inl h) = (sym h.same ∙ is, h.stays)
      undo-left x e r a b is lethal (inr (inl h)) = absurd (true-false (sym lethal ∙ ap is_lethal h.same ∙ h.clean))
      undo-left x e r a b is lethal (inr (inr h)) = by h.answer_is
        where
          by : (((is_fault h.refusal ≡ true) × (e ≡ Rt h.refusal)) ⊎ ((is_fault h.refusal ≡ false) × (e ≡ x))) → (x ≡ Files r) × (b ≡ a)
          by (inl y) = absurd (files-rt r h.refusal (sym is ∙ y.1))
          by (inr y) = absurd (true-false (sym lethal ∙ ap is_lethal y.1 ∙ h.clean))

      took-files : (m : CopyMode) (attr : List ℕ) (n : ℕ) (r : Refusal) (v w : V) (a b : RtAccepted E met) →
          FailsAs m S (rt_takes disk) (rt_refuses disk) who lun name attr n (Files r) v w a b →
          (pieces : List (List ℕ)) × Took (rt_takes disk) name 0 pieces a b
      took-files Image attr n r v w a b (inl d) = (d.pieces, d.took)
      took-files Image attr n r v w a b (inr d) = absurd (files-rt r d.refused.refusal d.refused.is)
      took-files Text attr n r v w a b (inl k) = absurd (files-bad r k.is)
      took-files Text attr n r v w a b (inr k) = by k.2
        where
          by : FailsToCopyText S (rt_takes disk) (rt_refuses disk) who lun name k.0 (up_to_end attr n) (Files r) v w a b →
              (pieces : List (List ℕ)) × Took (rt_takes disk) name 0 pieces a b
          by (inl d) = (d.pieces, d.took)
          by (inr (inl d)) = absurd (files-bad r d.is)
          by (inr (inr d)) = absurd (files-rt r d.refused.refusal d.refused.is)

      fill-left : (m : CopyMode) (attr : List ℕ) (n count : ℕ) (r : Refusal) (v w : V) (a b : RtAccepted E met) → is_lethal (Files r) ≡ true
          →
          FailsToFillToRt m S disk who lun name attr n count day (Files r) v w a b → IsMadeInPart disk name day a b
      fill-left m attr n count r v w a b lethal (inl h) = absurd (files-rt r h.refusal h.is)
      fill-left m attr n count r v w a b lethal (inr h) =
          let u = undo-left h.refusal (Files r) r h.stopped b refl lethal h.undoes in
          let fails = subst (λ x. FailsAs m S (rt_takes disk) (rt_refuses disk) who lun name attr n x v w h.made h.stopped) u.0 h.fails in
          let t = took-files m attr n r v w h.made h.stopped fails in
          subst (λ x. IsMadeInPart disk name day a x) (sym u.1)
          (record { blocks = count; made = h.made; makes = h.makes; pieces = t.0; took = t.1 })

      locked-left : (m : CopyMode) (r : Refusal) (v w : V) (a b : RtAccepted E met) → is_lethal (Files r) ≡ true →
          FailsLocked m S disk who lun file name day (Files r) v w a b → (b ≡ a) ⊎ (IsMadeInPart disk name day a b)
      locked-left m r v w a b lethal (inl k) = inl k.left
      locked-left m r v w a b lethal (inr (inl k)) = inl k.left
      locked-left m r v w a b lethal (inr (inr k)) = inr (fill-left m k.attr k.blocks k.count r k.walked w a b lethal k.fails)

      unclosed-left : (m : CopyMode) (r : Refusal) (v w : V) (a b : RtAccepted E met) → is_lethal (Files r) ≡ true →
          IsNotClosed m S disk who lun file name day (Files r) v w a b → IsMadeInPart disk name day a b
      unclosed-left m r v w a b lethal k =
          let u = undo-left (Files k.refusal) (Files r) r k.filled b refl lethal k.undoes in
          let f = k.copies.fills in
          let t = copies-some disk name S who lun m k.copies.attr k.copies.blocks f.taken k.copies.walked k.left f.made k.filled f.copies in
          subst (λ x. IsMadeInPart disk name day a x) (sym u.1)
          (record { blocks = k.count; made = f.made; makes = f.makes; pieces = t.0; took = t.1 })

      -- which on a sound disk is at most one file more
      none-more : (a b : RtAccepted E met) → b ≡ a → HasAtMostOneMore disk name day a b
      none-more a b left = subst (λ x. HasAtMostOneMore disk name day a x) (sym left) (record {
        sound = λ s. s;
        files = λ s. inl (record { named = refl; others = λ other apart. refl });
      })

      one-more : (a b : RtAccepted E met) → IsMadeInPart disk name day a b → HasAtMostOneMore disk name day a b
      one-more a b k =
          let puts = took-puts disk name 0 k.pieces k.made b k.took in
          record {
            sound = λ s. puts.sound (k.makes.sound s);
            files = λ s. inr (
              k.blocks,
              has-made name k.blocks day k.pieces (rt_store disk a) (rt_store disk k.made) (rt_store disk b) (k.makes.made s)
                  (puts.replaced (k.makes.sound s)),
            );
          }

      most-one : (a b : RtAccepted E met) → (b ≡ a) ⊎ (IsMadeInPart disk name day a b) → HasAtMostOneMore disk name day a b
      most-one a b (inl h) = none-more a b h
      most-one a b (inr h) = one-more a b h

      -- an answer by which the copy ended
      came-ends : (m : CopyMode) (e : FlxRefusal) (v w : V) (a b : RtAccepted E met) → Came S who e v w →
          ((r : Refusal) → e ≡ Files r → (b ≡ a) ⊎ (IsMadeInPart disk name day a b)) →
          EndsToRt m S disk who lun file name day e v w a b
      came-ends m (Files r) v w a b h left =
          record { files = broke-ends S who r v w h; target = inl (left r refl); left = most-one a b (left r refl) }
      came-ends m (Rt r) v w a b h left = h
      came-ends m BadRecord v w a b h left = tt
      came-ends m LineTooLong v w a b h left = tt
      came-ends m Unread v w a b h left = absurd h

      pub copy-ends-to-rt : (m : CopyMode) (e : FlxRefusal) (v w : V) (a b : RtAccepted E met)
          → FailsToCopyFileToRt m S disk who lun file name day e v w a b →
          is_lethal e ≡ true →
          EndsToRt m S disk who lun file name day e v w a b
      copy-ends-to-rt m e v w a b (inl k) lethal =
          let denied = broke-denied S who (asks (request.Access file access.Locked lun)) k.refusal v w k.denied in
          came-ends m e v w a b (came-as S who e (Files k.refusal) v w k.is denied) (λ r is. inl k.left)
      copy-ends-to-rt m e v w a b (inr (inl k)) lethal = by k.gives
        where
          came : Came S who k.refusal v k.stopped
          came =
              came-behind S who k.refusal v k.opened k.stopped (open-held v k.opened k.opens)
              (locked-came m k.refusal k.opened k.stopped a b k.fails)

          ended : e ≡ k.refusal → w ≡ k.stopped → EndsToRt m S disk who lun file name day e v w a b
          ended same stays =
              came-ends m e v w a b (subst (λ x. Came S who e v x) (sym stays) (came-as S who e k.refusal v k.stopped same came))
              (λ r is. locked-left m r k.opened k.stopped a b (sym (ap is_lethal is) ∙ lethal)
              (subst (λ x. FailsLocked m S disk who lun file name day x k.opened k.stopped a b) (sym same ∙ is) k.fails))

          denied : (r : Refusal) → is_lethal k.refusal ≡ false → Denies S who (asks (request.Deaccess lun)) r k.stopped w →
              EndsToRt m S disk who lun file name day (Files r) v w a b
          denied r clean d =
              let c = held-cleanly S who v k.stopped (came-held S who k.refusal v k.stopped clean came) in
              let kept = locked-leaves disk name S who lun file day m k.refusal k.opened k.stopped a b k.fails in
              record {
                files = record { asked = c.asked; at = k.stopped; tried = c.tried; last = asks (request.Deaccess lun); is_last = inl d };
                target = inr (record {
                  opened = k.opened;
                  opens = k.opens;
                  before = k.refusal;
                  clean = clean;
                  stopped = k.stopped;
                  fails = k.fails;
                  denied = d;
                });
                left = record { sound = kept.sound clean; files = λ s. inl (kept.same clean s) };
              }

          by : GaveUp S who lun k.refusal e k.stopped w → EndsToRt m S disk who lun file name day e v w a b
          by (inl h) = ended h.same h.stays
          by (inr (inl h)) = absurd (true-false (sym lethal ∙ ap is_lethal h.same ∙ h.clean))
          by (inr (inr h)) = ends h.answer_is
            where
              ends : (((is_lethal (Files h.refusal) ≡ true) × (e ≡ Files h.refusal))
                  ⊎ ((is_lethal (Files h.refusal) ≡ false) × (e ≡ k.refusal))) →
                  EndsToRt m S disk who lun file name day e v w a b
              ends (inl y) = subst (λ x. EndsToRt m S disk who lun file name day x v w a b) (sym y.1) (denied h.refusal h.clean h.denied)
              ends (inr y) = absurd (true-false (sym lethal ∙ ap is_lethal y.1 ∙ h.clean))
      copy-ends-to-rt m e v w a b (inr (inr k)) lethal =
          came-ends m e v w a b (unclosed-came m e v w a b k)
          (λ r is. inr (unclosed-left m r v w a b (sym (ap is_lethal is) ∙ lethal)
          (subst (λ x. IsNotClosed m S disk who lun file name day x v w a b) is k)))
