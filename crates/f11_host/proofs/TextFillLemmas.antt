-- A file that is accessed is filled with the copy of a text of the host.
use Rattle.std.proofs.Common.{◌≡◌, inl, ℕ, zero, suc, ◌<◌, List, [], ◌∷◌, ◌++◌, Option, None, refl}
use Rattle.std.proofs.Common.{sym, ◌∙◌, subst, arith}
use Rattle.std.proofs.KnownBytes.{Consumes-nil}
use Rattle.f11_store.specs.declared.refusals.Refusal.{Refusal}
use Rattle.f11_making.specs.Asking.{BreaksOffAsking, FilesService, Granted, Who, writes_of}
use Rattle.f11_making.specs.Making.{giving_up}
use Rattle.f11_flx.specs.Lines.{lines_upto}
use Rattle.f11_making.specs.Making.{extension, filling_of}
use Rattle.f11_flx.specs.Making.{AsksToFill, IsBrokenOff}
use Rattle.f11_flx.specs.declared.lines.Extent.{Extent}
use Rattle.f11_flx.specs.declared.refusal.FlxRefusal.{FlxRefusal}
use Rattle.f11_flx.specs.declared.refusal.FlxRefusal.TheVariants.{BadRecord, Files, LineTooLong, Rt, Unread}
use Rattle.f11_making.proofs.AskingLemmas.{breaks-before, granted-append}
use Rattle.f11_flx.proofs.FromRt.MakingLemmas.{breaks-filling, breaks-giving}
use Rattle.f11_host.specs.Filling.{HostFile, host_file}
use Rattle.f11_host.specs.TextFilling.{BreaksFillingText, CopiesAgain, FailsToCopyAgain, FailsToFillFromText, FillsFromText}
use Rattle.f11_host.specs.TextFilling.{as_unread}
use Rattle.f11_host.specs.TextPasses.{FailsToCopyText, HasNoCopy}
use Rattle.f11_host.specs.Texts.{IsCopiedText, copied_text}
use Rattle.rt11_text.specs.Crs.{crs_behind}
use Rattle.f11_host.proofs.FillLemmas.{same-text}
use Rattle.f11_host.proofs.TextLemmas.{same-copies}

-- a text without bytes has a copy
has-copy : (bytes : ℕ) (taken : List ℕ) (u u' : Option (List ℕ)) → HasNoCopy bytes taken u u' → 0 < bytes
unfolding crs_behind lines_upto
has-copy (suc n) taken u u' h = omega arith
has-copy zero [] u u' h = absurd (differ (h.none [] refl refl))
  where
    differ : copied_text [] ≡ None → ⊥
    differ is = cc
has-copy zero (c ∷ taken) u u' h = absurd (omega (arith, h.few))

module _ {V : Type 0} (S : FilesService V) (who : Who) (lun bytes : ℕ) (plan : Extent) (unread unread' : Option (List ℕ)) (old : V) where
  -- reading it again fails
  pub again-fails : (f : FlxRefusal) (taken : List ℕ) (new : V) → FailsToCopyText S who lun bytes taken f unread unread' old new
      → FailsToCopyAgain S who lun bytes plan (as_unread f) taken unread unread' old new
  again-fails (Files e) taken new h = h
  again-fails (Rt e) taken new h = h
  again-fails BadRecord taken new h = h
  again-fails LineTooLong taken new h =
      record { why = inl (has-copy bytes taken unread unread' h.has); pieces = h.pieces; granted = h.granted }
  again-fails Unread taken new h = record { why = inl h.some; pieces = h.pieces; granted = h.granted }

module _ {V : Type 0} (S : FilesService V) (who : Who) (lun bytes : ℕ) (plan : Extent) (unread : Option (List ℕ)) (old : V) where
  -- blocks weren't allocated
  pub text-not-extended : (e : Refusal) (new : V) → BreaksOffAsking S who (extension lun plan.blocks) e old new
      → BreaksFillingText S who lun bytes plan e (host_file unread []) (host_file unread []) old new
  text-not-extended e new b = record {
    few = omega arith;
    takes = Consumes-nil unread;
    pieces = [];
    breaks = breaks-before S who (extension lun plan.blocks) (writes_of lun 0 [] ++ giving_up lun) e old new b;
    whole = λ text size front full attr k.
        breaks-before S who (extension lun plan.blocks) (writes_of lun 0 full ++ giving_up lun) e old new b;
  }

  module _ (between : V) (extended : Granted S who (extension lun plan.blocks) old between) where
    -- they were, and not all were written
    pub text-not-written : (f : FlxRefusal) (unread' : Option (List ℕ)) (taken : List ℕ) (new : V)
        → FailsToCopyAgain S who lun bytes plan f taken unread unread' between new
        → FailsToFillFromText S who lun bytes plan f (host_file unread []) (host_file unread' taken) old new
    text-not-written (Files e) unread' taken new h = record {
      few = h.few;
      takes = h.takes;
      pieces = h.pieces ++ h.last ∷ [];
      breaks = breaks-filling S who lun plan.blocks h.pieces [] h.last e old between h.between new extended h.granted h.denied;
      whole = λ text size front full attr k.
          let rest = h.begins text size front full attr k in
          subst (λ l. BreaksOffAsking S who (filling_of lun plan.blocks l) e old new) (sym rest.1)
          (breaks-filling S who lun plan.blocks h.pieces rest.0 h.last e old between h.between new extended h.granted h.denied);
    }
    text-not-written (Rt e) unread' taken new h = absurd h
    text-not-written BadRecord unread' taken new h = absurd h
    text-not-written LineTooLong unread' taken new h = absurd h
    text-not-written Unread unread' taken new h = record {
      why = h.why;
      pieces = h.pieces;
      granted = granted-append S who (extension lun plan.blocks) (writes_of lun 0 h.pieces) old between new extended h.granted;
    }

    -- all were, and the file wasn't given up,
    pub text-not-given : (e : Refusal) (unread' : Option (List ℕ)) (taken : List ℕ) (written new : V)
        → CopiesAgain S who lun bytes plan taken unread unread' between written → BreaksOffAsking S who (giving_up lun) e written new
        → BreaksFillingText S who lun bytes plan e (host_file unread []) (host_file unread' taken) old new
    text-not-given e unread' taken written new h b = record {
      few = omega (arith, h.size);
      takes = h.takes;
      pieces = h.pieces;
      breaks = breaks-giving S who lun plan.blocks h.pieces e old between written new extended h.granted b;
      whole = λ text size front full attr k.
          let same = same-text text taken (size ∙ sym h.size) front in
          let blocks = same-copies taken full h.pieces attr _ (subst (λ l. IsCopiedText l full attr) same k) h.copied in
          subst (λ l. BreaksOffAsking S who (filling_of lun plan.blocks l) e old new) (sym blocks)
          (breaks-giving S who lun plan.blocks h.pieces e old between written new extended h.granted b);
    }

    -- or was
    pub text-filled : (unread' : Option (List ℕ)) (taken : List ℕ) (written new : V)
        → CopiesAgain S who lun bytes plan taken unread unread' between written → Granted S who (giving_up lun) written new
        → FillsFromText S who lun bytes plan (host_file unread []) (host_file unread' taken) old new
    text-filled unread' taken written new h g = record {
      size = h.size;
      takes = h.takes;
      pieces = h.pieces;
      count = h.count;
      copied = h.copied;
      granted = granted-append S who (extension lun plan.blocks) (writes_of lun 0 h.pieces ++ giving_up lun) old between new extended
          (granted-append S who (writes_of lun 0 h.pieces) (giving_up lun) between written new h.granted g);
    }

-- what is asked is that of any source
pub asks-to-fill-text : {V : Type 0} (S : FilesService V) (who : Who) (lun bytes : ℕ) (plan : Extent)
    → AsksToFill S who lun plan.blocks (FillsFromText S who lun bytes plan) (FailsToFillFromText S who lun bytes plan)
asks-to-fill-text {V} S who lun bytes plan = record { fills = λ a b v w h. (h.pieces, h.granted); fails = broken }
  where
    broken : (f : FlxRefusal) (a b : HostFile) (v w : V) → FailsToFillFromText S who lun bytes plan f a b v w
        → IsBrokenOff S who lun plan.blocks f v w
    broken (Files e) a b v w h = (h.pieces, h.breaks)
    broken (Rt e) a b v w h = absurd h
    broken BadRecord a b v w h = absurd h
    broken LineTooLong a b v w h = absurd h
    broken Unread a b v w h = (h.pieces, h.granted)
