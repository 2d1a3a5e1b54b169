-- A copy that is made, a step at a time.
use Rattle.std.proofs.Common.{◌≡◌, inl, ℕ, suc, ◌+◌, List, [], ◌∷◌, ◌++◌, length, All, Some, sym, ap, ◌∙◌, subst, append-nil, length-append}
use Rattle.std.proofs.Common.{arith}
use Rattle.std.specs.List.{concat}
use Rattle.f11_dev.specs.Disk.{Disk}
use Rattle.f11_dev.specs.declared.device.Device.{Ghosts}
use Rattle.f11_store.specs.declared.refusals.Refusal.{Refusal}
use Rattle.rt11_volume.specs.declared.volume.RtAccepted.{RtAccepted}
use Rattle.f11_making.specs.Asking.{BreaksOffAsking, Denies, Granted, FilesService, Who, writes, writes_of}
use Rattle.f11_flx.specs.Conversion.{Copy}
use Rattle.f11_making.specs.Making.{giving_up}
use Rattle.f11_making.specs.Making.{extension, filling_of}
use Rattle.f11_flx.specs.Making.{AsksToFill, BreaksFilling, FailsToFillFromRt, FillsFromRt, IsBrokenOff}
use Rattle.f11_flx.specs.Passes.{CopiesFile, FailsToCopyFile, IsCopied}
use Rattle.f11_flx.specs.declared.mode.CopyMode.{CopyMode}
use Rattle.f11_flx.specs.declared.refusal.FlxRefusal.{FlxRefusal}
use Rattle.f11_flx.specs.declared.refusal.FlxRefusal.TheVariants.{BadRecord, Files, LineTooLong, Rt, Unread}
use Rattle.f11_making.proofs.AskingLemmas.{breaks-before, breaks-behind, granted-append, writes-append}
use Rattle.f11_flx.proofs.FromRt.PassLemmas.{reads-none}
use Rattle.f11_flx.proofs.FromRt.PassedLemmas.{all-of, chop}
use Rattle.f11_flx.proofs.Texts.PourLemmas.{whole-length}
use Rattle.f11_flx.proofs.Texts.WritingLemmas.{is-whole}

-- a copy has the blocks that it has
no-more : (ps more : List (List ℕ)) → All is-whole (ps ++ more) → All is-whole ps → length (concat (ps ++ more)) ≡ length (concat ps)
    → ps ++ more ≡ ps
no-more ps [] w v is = append-nil ps
no-more ps (m ∷ more) w v is = absurd (omega (arith, is, whole-length (ps ++ m ∷ more) w, whole-length ps v, length-append ps (m ∷ more)))

-- whole blocks with the same bytes are the same
pub same-blocks : (ps qs : List (List ℕ)) → All is-whole ps → All is-whole qs → concat qs ≡ concat ps → qs ≡ ps
same-blocks ps qs whole whole' bytes =
    let more = chop ps qs [] whole whole' (bytes ∙ sym (append-nil (concat ps))) in
    let all : All is-whole (ps ++ more.0) = subst (All is-whole) more.1 whole' in
    more.1 ∙ no-more ps more.0 all whole (ap (λ (l : List (List ℕ)). length (concat l)) (sym more.1) ∙ ap (λ (l : List ℕ). length l) bytes)

pub pieces-are : (m : CopyMode) (source ps qs : List (List ℕ)) (a b : List ℕ) → IsCopied m source ps a → IsCopied m source qs b → qs ≡ ps
pieces-are m source ps qs a b h k =
    let same : Some h.copy ≡ Some k.copy = sym h.converted ∙ k.converted in
    let copy : h.copy ≡ k.copy = cc in
    same-blocks ps qs h.whole k.whole (k.content_is ∙ ap (λ (c : Copy). c.content) (sym copy) ∙ sym h.content_is)

module _ {V : Type 0} (S : FilesService V) (who : Who) (lun : ℕ) where
  -- a block was refused, whatever stands behind it
  breaks-writes : (pieces rest : List (List ℕ)) (last : List ℕ) (e : Refusal) (v w x : V) → Granted S who (writes_of lun 0 pieces) v w
      → Denies S who (writes lun (suc (length pieces)) last) e w x →
      BreaksOffAsking S who (writes_of lun 0 (pieces ++ last ∷ rest)) e v x
  breaks-writes pieces rest last e v w x h d =
      let at : suc (0 + length pieces) ≡ suc (length pieces) = omega arith in
      subst (λ l. BreaksOffAsking S who l e v x) (sym (writes-append lun 0 pieces (last ∷ rest)))
      (breaks-behind S who (writes_of lun 0 pieces) (writes_of lun (0 + length pieces) (last ∷ rest)) e v w x h
      (inl (subst (λ n. Denies S who (writes lun n last) e w x) (sym at) d)))

  pub breaks-filling : (n : ℕ) (pieces rest : List (List ℕ)) (last : List ℕ) (e : Refusal) (u v w x : V)
      → Granted S who (extension lun n) u v
      → Granted S who (writes_of lun 0 pieces) v w →
      Denies S who (writes lun (suc (length pieces)) last) e w x → BreaksOffAsking S who (filling_of lun n (pieces ++ last ∷ rest)) e u x
  breaks-filling n pieces rest last e u v w x g h d =
      breaks-behind S who (extension lun n) (writes_of lun 0 (pieces ++ last ∷ rest) ++ giving_up lun) e u v x g
      (breaks-before S who (writes_of lun 0 (pieces ++ last ∷ rest)) (giving_up lun) e v x (breaks-writes pieces rest last e v w x h d))

  pub breaks-giving : (n : ℕ) (pieces : List (List ℕ)) (e : Refusal) (u v w x : V) → Granted S who (extension lun n) u v
      → Granted S who (writes_of lun 0 pieces) v w → BreaksOffAsking S who (giving_up lun) e w x →
      BreaksOffAsking S who (filling_of lun n pieces) e u x
  breaks-giving n pieces e u v w x g h d =
      breaks-behind S who (extension lun n) (writes_of lun 0 pieces ++ giving_up lun) e u v x g
      (breaks-behind S who (writes_of lun 0 pieces) (giving_up lun) e v w x h d)

  module _ {E : Type 0} {met : Ghosts E} (disk : E → Disk) (m : CopyMode) (name : List ℕ) (many n : ℕ) where
    pub not-extended : (e : Refusal) (rt : RtAccepted E met) (u x : V) → BreaksOffAsking S who (extension lun n) e u x
        → BreaksFilling S disk m who lun name many n e rt rt u x
    not-extended e rt u x b = record {
      source = [];
      reads = reads-none disk name rt;
      pieces = [];
      breaks = breaks-before S who (extension lun n) (writes_of lun 0 [] ++ giving_up lun) e u x b;
      whole = λ contents front size full attr c. breaks-before S who (extension lun n) (writes_of lun 0 full ++ giving_up lun) e u x b;
    }

    pub not-copied : (f : FlxRefusal) (a b : RtAccepted E met) (u v x : V) → Granted S who (extension lun n) u v
        → FailsToCopyFile S disk m who lun name many f a b v x → FailsToFillFromRt S disk m who lun name many n f a b u x
    not-copied (Files e) a b u v x g h = record {
      source = h.source;
      reads = h.reads;
      pieces = h.pieces ++ h.last ∷ [];
      breaks = breaks-filling n h.pieces [] h.last e u v h.between x g h.granted h.denied;
      whole = λ contents front size full attr c.
          let rest = h.begins contents front size full attr c in
          subst (λ l. BreaksOffAsking S who (filling_of lun n l) e u x) (sym rest.1)
          (breaks-filling n h.pieces rest.0 h.last e u v h.between x g h.granted h.denied);
    }
    not-copied (Rt e) a b u v x g h = record {
      pieces = h.pieces;
      granted = granted-append S who (extension lun n) (writes_of lun 0 h.pieces) u v x g h.granted;
      stops = h.stops;
    }
    not-copied BadRecord a b u v x g h = absurd h
    not-copied LineTooLong a b u v x g h = record {
      source = h.source;
      reads = h.reads;
      pieces = h.pieces;
      granted = granted-append S who (extension lun n) (writes_of lun 0 h.pieces) u v x g h.granted;
      none = h.none;
    }
    not-copied Unread a b u v x g h = absurd h

    pub not-given : (blocks : ℕ) (attr : List ℕ) (e : Refusal) (a b : RtAccepted E met) (u v w x : V) → Granted S who (extension lun n) u v
        → CopiesFile S disk m who lun name many blocks attr a b v w → BreaksOffAsking S who (giving_up lun) e w x →
        BreaksFilling S disk m who lun name many n e a b u x
    not-given blocks attr e a b u v w x g h d = record {
      source = h.source;
      reads = h.reads;
      pieces = h.pieces;
      breaks = breaks-giving n h.pieces e u v w x g h.granted d;
      whole = λ contents front size full attr' c.
          let same : contents ≡ h.source = all-of h.source contents many h.count front size in
          let all : full ≡ h.pieces = pieces-are m h.source h.pieces full attr attr' h.copied (subst (λ l. IsCopied m l full attr') same c)
          in
          subst (λ l. BreaksOffAsking S who (filling_of lun n l) e u x) (sym all) (breaks-giving n h.pieces e u v w x g h.granted d);
    }

    pub fills : (blocks : ℕ) (attr : List ℕ) (a b : RtAccepted E met) (u v w x : V) → Granted S who (extension lun n) u v
        → CopiesFile S disk m who lun name many blocks attr a b v w → Granted S who (giving_up lun) w x →
        FillsFromRt S disk m who lun name many n a b u x
    fills blocks attr a b u v w x g h d = record {
      source = h.source;
      reads = h.reads;
      count = h.count;
      pieces = h.pieces;
      attr = attr;
      copied = h.copied;
      granted = granted-append S who (extension lun n) (writes_of lun 0 h.pieces ++ giving_up lun) u v x g
          (granted-append S who (writes_of lun 0 h.pieces) (giving_up lun) v w x h.granted d);
    }

    -- what is asked is that of any source
    pub asks-to-fill : AsksToFill S who lun n (FillsFromRt {met = met} S disk m who lun name many n)
        (FailsToFillFromRt {met = met} S disk m who lun name many n)
    asks-to-fill = record { fills = λ a b v w h. (h.pieces, h.granted); fails = broken }
      where
        broken : (f : FlxRefusal) (a b : RtAccepted E met) (v w : V) → FailsToFillFromRt S disk m who lun name many n f a b v w
            → IsBrokenOff S who lun n f v w
        broken (Files e) a b v w h = (h.pieces, h.breaks)
        broken (Rt e) a b v w h = (h.pieces, h.granted)
        broken BadRecord a b v w h = absurd h
        broken LineTooLong a b v w h = (h.pieces, h.granted)
        broken Unread a b v w h = absurd h
