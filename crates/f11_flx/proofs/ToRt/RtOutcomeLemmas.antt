-- What a copy to an RT-11 volume leaves there.
use Rattle.std.proofs.Common.{◌≡◌, ◌⊎◌, inl, inr, ℕ, Bool, true, false, List, [], length, refl, sym, ap, ◌∙◌, subst}
use Rattle.f11_dev.specs.Disk.{Disk}
use Rattle.f11_dev.specs.declared.device.Device.{Ghosts}
use Rattle.f11_store.specs.declared.files.FileId.{FileId}
use Rattle.rt11_volume.specs.Calls.{has_failed}
use Rattle.rt11_volume.specs.Files.{is_fault}
use Rattle.rt11_volume.specs.Store.{RtStore, rt_store_of}
use Rattle.rt11_volume.specs.Verifying.Verdict.{IsRtAccepted, IsSoundDisk}
use Rattle.rt11_volume.specs.declared.volume.RtAccepted.{RtAccepted}
use Rattle.f11_making.specs.Asking.{FilesService, Who}
use Rattle.f11_flx.specs.Copies.{FailsToCopyBlocks, FailsToCopyText}
use Rattle.f11_flx.specs.CopyToRt.{HasSameDirectory}
use Rattle.f11_flx.specs.Refusal.{is_lethal}
use Rattle.f11_flx.specs.RtOutcome.{HasSameFiles, LeavesRt, is_rt_fault}
use Rattle.f11_flx.specs.Source.{CopiesAs, FailsAs, up_to_end}
use Rattle.f11_flx.specs.Target.{Fares, Makes, ReplacesRtBlocks, rt_disk, rt_store}
use Rattle.f11_flx.specs.ToRt.{CopiesFileToRt, FailsLocked, FailsToCopyFileToRt, FailsToCountAs, FailsToFillToRt, GaveUp, UndoesToRt}
use Rattle.f11_flx.specs.ToRt.{nowhere_refuses, nowhere_takes, rt_refuses, rt_takes}
use Rattle.f11_flx.specs.declared.mode.CopyMode.{CopyMode}
use Rattle.f11_flx.specs.declared.mode.CopyMode.TheVariants.{Image, Text}
use Rattle.f11_flx.specs.declared.refusal.FlxRefusal.{FlxRefusal}
use Rattle.f11_flx.specs.declared.refusal.FlxRefusal.TheVariants as refusal
use Rattle.f11_flx.specs.Filling.{Took}
use Rattle.f11_flx.specs.declared.to_text.ToText.{ToText}
use Rattle.f11_flx.proofs.RtFiles.RtCopyLemmas.{fares-none, fares-then, has-gone, has-written, still-lies, took-puts}
use Rattle.f11_flx.proofs.SmallLemmas.{or-false}

no-truth : true ≡ false → ⊥
no-truth h = absurd (cc)

-- what is clean is no fault of the RT-11 volume
pub clean-fault : (e : FlxRefusal) → is_lethal e ≡ false → is_rt_fault e ≡ false
clean-fault (refusal.Files e) h = refl
clean-fault (refusal.Rt e) h = h
clean-fault refusal.BadRecord h = refl
clean-fault refusal.LineTooLong h = refl
clean-fault refusal.Unread h = refl

fault-of : (e x : FlxRefusal) (b : Bool) → e ≡ x → is_rt_fault x ≡ b → b ≡ is_rt_fault e
fault-of e x b same is = sym (ap is_rt_fault same ∙ is)

-- where the blocks are counted nothing is met on the RT-11 volume
count-fault : {V : Type 0} (S : FilesService V) (who : Who) (lun : ℕ) (name : List ℕ) (m : CopyMode) (attr : List ℕ) (n : ℕ)
    (e : FlxRefusal) (v w : V) → FailsToCountAs m S who lun name attr n e v w → is_rt_fault e ≡ false
count-fault S who lun name Image attr n e v w h = absurd h
count-fault S who lun name Text attr n e v w h = by h.2
  where
    text : (t : ToText) → FailsToCopyText S nowhere_takes nowhere_refuses who lun name t (up_to_end attr n) e v w h.0 h.1
        → is_rt_fault e ≡ false
    text t (inl d) = ap is_rt_fault d.is
    text t (inr (inl d)) = ap is_rt_fault d.is
    text t (inr (inr d)) = absurd d.refused

    by : FailsAs Text S nowhere_takes nowhere_refuses who lun name attr n e v w h.0 h.1 → is_rt_fault e ≡ false
    by (inl k) = ap is_rt_fault k.is
    by (inr k) = text k.0 k.2

module _ {E : Type 0} {met : Ghosts E} (disk : E → Disk) (name : List ℕ) where
  -- Some of the file's first blocks were written, and then it stopped.
  record PutSome (e : FlxRefusal) (old new : RtAccepted E met) : Type 0 where
    pieces : List (List ℕ)
    fares : Fares disk (is_rt_fault e) old new
    sound : is_lethal e ≡ false → IsSoundDisk (rt_disk disk old) → IsSoundDisk (rt_disk disk new)
    replaced : is_lethal e ≡ false → IsSoundDisk (rt_disk disk old) → ReplacesRtBlocks name 0 pieces (rt_store disk old) (rt_store disk new)
    directory : is_lethal e ≡ false → IsSoundDisk (rt_disk disk old) → HasSameDirectory (rt_store disk old) (rt_store disk new)

  fares-as : (b c : Bool) (old new : RtAccepted E met) → b ≡ c → Fares disk b old new → Fares disk c old new
  fares-as b c old new is h = subst (λ x. Fares disk x old new) is h

  took-some : (e : FlxRefusal) (pieces : List (List ℕ)) (old new : RtAccepted E met) → is_rt_fault e ≡ false
      → Took (rt_takes disk) name 0 pieces old new → PutSome e old new
  took-some e pieces old new none took =
      let puts = took-puts disk name 0 pieces old new took in
      record {
        pieces = pieces;
        fares = fares-as false (is_rt_fault e) old new (sym none) puts.fares;
        sound = λ c s. puts.sound s;
        replaced = λ c s. puts.replaced s;
        directory = λ c s. puts.directory s;
      }

  -- an image that stays
  stays-sound : (old new : RtAccepted E met) (b : Bool) → Fares disk b old new → (rt_disk disk new).image ≡ (rt_disk disk old).image
      → IsSoundDisk (rt_disk disk old) → IsSoundDisk (rt_disk disk new)
  stays-sound old new b f same s = record { honest = f.honest ∙ s.honest; accepted = subst IsRtAccepted (sym same) s.accepted }

  refused-some : (e : FlxRefusal) (place : ℕ) (last : List ℕ) (pieces : List (List ℕ)) (old between new : RtAccepted E met)
      → Took (rt_takes disk) name 0 pieces old between →
      rt_refuses disk name place last e between new → PutSome e old new
  refused-some e place last pieces old between new took r =
      let puts = took-puts disk name 0 pieces old between took in
      let kept : is_lethal e ≡ false
      → (rt_disk disk new).image ≡ (rt_disk disk between).image = λ c. r.refused.stays (ap is_lethal (sym r.is) ∙ c) in
      record {
        pieces = pieces;
        fares = fares-as (is_fault r.refusal) (is_rt_fault e) old new (fault-of e (refusal.Rt r.refusal) (is_fault r.refusal) r.is refl)
            (fares-then disk (is_fault r.refusal) old between new puts.sound puts.fares r.refused.fares);
        sound = λ c s. stays-sound between new (is_fault r.refusal) r.refused.fares (kept c) (puts.sound s);
        replaced = λ c s. subst (λ (t : RtStore). ReplacesRtBlocks name 0 pieces (rt_store disk old) t) (ap rt_store_of (sym (kept c)))
            (puts.replaced s);
        directory = λ c s. subst (λ (t : RtStore). HasSameDirectory (rt_store disk old) t) (ap rt_store_of (sym (kept c)))
            (puts.directory s);
      }

  module _ {V : Type 0} (S : FilesService V) (who : Who) (lun : ℕ) where
    blocks-some : (count : ℕ) (e : FlxRefusal) (v w : V) (old new : RtAccepted E met)
        → FailsToCopyBlocks S (rt_takes disk) (rt_refuses disk) who lun name count e v w old new → PutSome e old new
    blocks-some count e v w old new (inl d) = took-some e d.pieces old new (ap is_rt_fault d.is) d.took
    blocks-some count e v w old new (inr k) = refused-some e (length k.pieces) k.last k.pieces old k.between new k.took k.refused

    fails-some : (m : CopyMode) (attr : List ℕ) (n : ℕ) (e : FlxRefusal) (v w : V) (old new : RtAccepted E met)
        → FailsAs m S (rt_takes disk) (rt_refuses disk) who lun name attr n e v w old new → PutSome e old new
    fails-some Image attr n e v w old new h = blocks-some (up_to_end attr n) e v w old new h
    fails-some Text attr n e v w old new (inl k) = took-some e [] old new (ap is_rt_fault k.is) k.left
    fails-some Text attr n e v w old new (inr k) = by k.2
      where
        by : FailsToCopyText S (rt_takes disk) (rt_refuses disk) who lun name k.0 (up_to_end attr n) e v w old new → PutSome e old new
        by (inl d) = took-some e d.pieces old new (ap is_rt_fault d.is) d.took
        by (inr (inl d)) = took-some e d.pieces old new (ap is_rt_fault d.is) d.took
        by (inr (inr d)) = refused-some e (length d.pieces) d.last d.pieces old d.between new d.took d.refused

    pub copies-some : (m : CopyMode) (attr : List ℕ) (n count : ℕ) (v w : V) (old new : RtAccepted E met)
        → CopiesAs m S (rt_takes disk) who lun name attr n count v w old new
        → (pieces : List (List ℕ)) × Took (rt_takes disk) name 0 pieces old new
    copies-some Image attr n count v w old new h = (h.1.given, h.1.took)
    copies-some Text attr n count v w old new h = (h.2.pieces, h.2.took)

  leaves-none : (e : FlxRefusal) (old new : RtAccepted E met) → is_rt_fault e ≡ false → new ≡ old → LeavesRt disk name e old new
  leaves-none e old new none same =
      subst (λ v. LeavesRt disk name e old v) (sym same) (record {
        fares = fares-as false (is_rt_fault e) old old (sym none) (fares-none disk old);
        sound = λ c s. s;
        same = λ c s. record { named = refl; others = λ other apart. refl };
        directory = λ c s. inl refl;
      })

  leaves-as : (e x : FlxRefusal) (old new : RtAccepted E met) → e ≡ x → LeavesRt disk name x old new → LeavesRt disk name e old new
  leaves-as e x old new same h = subst (λ y. LeavesRt disk name y old new) (sym same) h

  -- a file that was made and written is undone
  undone : (count day : ℕ) (e x : FlxRefusal) (old made stopped new : RtAccepted E met) → Makes disk name count day old made
      → PutSome x made stopped → UndoesToRt disk name x e stopped new → LeavesRt disk name e old new
  undone count day e x old made stopped new m p (inl h) =
      let lethal = h.lethal in
      leaves-as e x old new h.same (record {
        fares = subst (λ v. Fares disk (is_rt_fault x) old v) (sym h.stays)
            (fares-then disk (is_rt_fault x) old made stopped m.sound m.fares p.fares);
        sound = λ c s. absurd (no-truth (sym lethal ∙ c));
        same = λ c s. absurd (no-truth (sym lethal ∙ c));
        directory = λ c s. absurd (no-truth (sym lethal ∙ c));
      })
  undone count day e x old made stopped new m p (inr (inl h)) =
      let none = clean-fault x h.clean in
      let put = fares-as (is_rt_fault x) false made stopped none p.fares in
      leaves-as e x old new h.same (record {
        fares = fares-as false (is_rt_fault x) old new (sym none)
            (fares-then disk false old made new m.sound m.fares
            (fares-then disk false made stopped new (p.sound h.clean) put h.deleted.fares));
        sound = λ c s. h.deleted.sound (p.sound h.clean (m.sound s));
        same = λ c s.
            let gone = has-gone name count day p.pieces (rt_store disk old) (rt_store disk made) (rt_store disk stopped) (m.made s)
            (p.replaced h.clean (m.sound s)) (rt_store disk new) (h.deleted.gone (p.sound h.clean (m.sound s))) in
            record { named = gone.0; others = gone.1 };
        directory = λ c s. inr (record {
          blocks = count;
          day = day;
          made = rt_store disk stopped;
          lies = still-lies name count day (rt_store disk old) (rt_store disk made) (rt_store disk stopped) (m.lies s)
              (p.directory h.clean (m.sound s));
          emptied = h.deleted.emptied (p.sound h.clean (m.sound s));
        });
      })
  undone count day e x old made stopped new m p (inr (inr h)) = by h.answer_is
    where
      put : Fares disk false made stopped
      put = fares-as (is_rt_fault x) false made stopped (clean-fault x h.clean) p.fares

      all : Fares disk (is_fault h.refusal) old new
      all =
          fares-then disk (is_fault h.refusal) old made new m.sound m.fares
          (fares-then disk (is_fault h.refusal) made stopped new (p.sound h.clean) put h.refused.refused.fares)

      alive : has_failed stopped ≡ false
      alive = put.next ∙ or-false (has_failed made) ∙ m.fares.next ∙ or-false (has_failed old) ∙ m.alive

      -- on a sound disk it is deleted
      never : is_fault h.refusal ≡ false → IsSoundDisk (rt_disk disk old) → ⊥
      never none s =
          let made-is = m.made s in
          let w = has-written name 0 p.pieces made-is.file [] (rt_store disk made) (rt_store disk stopped) made-is.one
          (p.replaced h.clean (m.sound s)) in
          no-truth (sym (h.refused.protected (p.sound h.clean (m.sound s)) alive none (record made-is.file { contents = w.contents }) []
          w.is) ∙ made-is.unprotected)

      by : (((is_fault h.refusal ≡ true) × (e ≡ refusal.Rt h.refusal)) ⊎ ((is_fault h.refusal ≡ false) × (e ≡ x)))
          → LeavesRt disk name e old new
      by (inl y) = record {
        fares = fares-as (is_fault h.refusal) (is_rt_fault e) old new (sym (ap is_rt_fault y.1)) all;
        sound = λ c s. absurd (no-truth (sym y.0 ∙ (ap is_lethal (sym y.1) ∙ c)));
        same = λ c s. absurd (no-truth (sym y.0 ∙ (ap is_lethal (sym y.1) ∙ c)));
        directory = λ c s. absurd (no-truth (sym y.0 ∙ (ap is_lethal (sym y.1) ∙ c)));
      }
      by (inr y) = record {
        fares = fares-as (is_fault h.refusal) (is_rt_fault e) old new (y.0 ∙ sym (ap is_rt_fault y.1 ∙ clean-fault x h.clean)) all;
        sound = λ c s. absurd (never y.0 s);
        same = λ c s. absurd (never y.0 s);
        directory = λ c s. absurd (never y.0 s);
      }

  module _ {V : Type 0} (S : FilesService V) (who : Who) (lun : ℕ) (file : FileId) (day : ℕ) where
    filled-leaves : (m : CopyMode) (attr : List ℕ) (n count : ℕ) (e : FlxRefusal) (v w : V) (old new : RtAccepted E met)
        → FailsToFillToRt m S disk who lun name attr n count day e v w old new → LeavesRt disk name e old new
    filled-leaves m attr n count e v w old new (inl k) =
        let r = k.fails.refused in
        let kept : is_lethal e ≡ false → (rt_disk disk new).image ≡ (rt_disk disk old).image = λ c. r.stays (ap is_lethal (sym k.is) ∙ c) in
        record {
          fares = fares-as (is_fault k.refusal) (is_rt_fault e) old new (sym (ap is_rt_fault k.is)) r.fares;
          sound = λ c s. stays-sound old new (is_fault k.refusal) r.fares (kept c) s;
          same = λ c s. subst (λ (t : RtStore). HasSameFiles name (rt_store disk old) t) (ap rt_store_of (sym (kept c)))
              (record { named = refl; others = λ other apart. refl });
          directory = λ c s. inl (subst (λ (t : RtStore). HasSameDirectory (rt_store disk old) t) (ap rt_store_of (sym (kept c))) refl);
        }
    filled-leaves m attr n count e v w old new (inr k) =
        undone count day e k.refusal old k.made k.stopped new k.makes (fails-some S who lun m attr n k.refusal v w k.made k.stopped k.fails)
        k.undoes

    pub locked-leaves : (m : CopyMode) (e : FlxRefusal) (v w : V) (old new : RtAccepted E met)
        → FailsLocked m S disk who lun file name day e v w old new → LeavesRt disk name e old new
    locked-leaves m e v w old new (inl k) = leaves-none e old new (ap is_rt_fault k.is) k.left
    locked-leaves m e v w old new (inr (inl k)) =
        leaves-none e old new (count-fault S who lun name m k.attr k.blocks e k.seen w k.fails) k.left
    locked-leaves m e v w old new (inr (inr k)) = filled-leaves m k.attr k.blocks k.count e k.walked w old new k.fails

    pub file-leaves : (m : CopyMode) (e : FlxRefusal) (v w : V) (old new : RtAccepted E met)
        → FailsToCopyFileToRt m S disk who lun file name day e v w old new → LeavesRt disk name e old new
    file-leaves m e v w old new (inl k) = leaves-none e old new (ap is_rt_fault k.is) k.left
    file-leaves m e v w old new (inr (inl k)) = by k.gives
      where
        inner : LeavesRt disk name k.refusal old new
        inner = locked-leaves m k.refusal k.opened k.stopped old new k.fails

        -- a clean refusal behind which giving up was one that isn't
        other : (r : FlxRefusal) → is_rt_fault r ≡ false → is_lethal r ≡ true → e ≡ r → is_lethal k.refusal ≡ false
            → LeavesRt disk name e old new
        other r none lethal same clean = leaves-as e r old new same (record {
          fares = fares-as (is_rt_fault k.refusal) (is_rt_fault r) old new (clean-fault k.refusal clean ∙ sym none) inner.fares;
          sound = λ c s. absurd (no-truth (sym lethal ∙ c));
          same = λ c s. absurd (no-truth (sym lethal ∙ c));
          directory = λ c s. absurd (no-truth (sym lethal ∙ c));
        })

        by : GaveUp S who lun k.refusal e k.stopped w → LeavesRt disk name e old new
        by (inl h) = leaves-as e k.refusal old new h.same inner
        by (inr (inl h)) = leaves-as e k.refusal old new h.same inner
        by (inr (inr h)) = ends h.answer_is
          where
            ends : (((is_lethal (refusal.Files h.refusal) ≡ true) × (e ≡ refusal.Files h.refusal))
                ⊎ ((is_lethal (refusal.Files h.refusal) ≡ false) × (e ≡ k.refusal))) → LeavesRt disk name e old new
            ends (inl x) = other (refusal.Files h.refusal) refl x.0 x.1 h.clean
            ends (inr x) = leaves-as e k.refusal old new x.1 inner
    file-leaves m e v w old new (inr (inr k)) =
        let l = k.copies in
        let some = copies-some S who lun m l.attr l.blocks l.fills.taken l.walked k.left l.fills.made k.filled l.fills.copies in
        undone k.count day e (refusal.Files k.refusal) old l.fills.made k.filled new l.fills.makes
        (took-some (refusal.Files k.refusal) some.0 l.fills.made k.filled refl some.1) k.undoes

    pub file-made : (m : CopyMode) (count : ℕ) (v w : V) (old new : RtAccepted E met)
        → CopiesFileToRt m S disk who lun file name count day v w old new →
        Fares disk false old new × (IsSoundDisk (rt_disk disk old) → IsSoundDisk (rt_disk disk new))
    file-made m count v w old new h =
        let l = h.copies in
        let some = copies-some S who lun m l.attr l.blocks l.fills.taken l.walked h.left l.fills.made new l.fills.copies in
        let puts = took-puts disk name 0 some.0 l.fills.made new some.1 in (
          fares-then disk false old l.fills.made new l.fills.makes.sound l.fills.makes.fares puts.fares,
          λ s.
              puts.sound (l.fills.makes.sound s),
        )
