-- A copy to an RT-11 volume that was refused, over the plain stores.
use Rattle.std.proofs.Common.{◌≡◌, ◌⊎◌, inl, inr, ℕ, ◌+◌, ◌-◌, ◌*◌, ◌/◌, ◌%◌, ◌≤◌, Bool, true, false, List, [], ◌∷◌, ◌++◌, length, take}
use Rattle.std.proofs.Common.{drop, replicate, Some, None, All, refl, sym, ap, ◌∙◌, subst, length-append, length-take, arith}
use Rattle.std.specs.List.{concat}
use Rattle.std.proofs.lemmas.List.{take-append-drop, take-take}
use Rattle.std.proofs.lemmas.List.Elements.{All-take}
use Rattle.std.proofs.lemmas.List.Folds.{concat-append}
use Rattle.f11_dev.specs.Disk.{Disk}
use Rattle.f11_dev.specs.declared.device.Device.{Ghosts}
use Rattle.f11_store.specs.File.{File, end_of, length_of}
use Rattle.f11_store.specs.Step.{attributes_of}
use Rattle.f11_store.specs.Store.{Store, file_named}
use Rattle.f11_store.specs.declared.files.Attr.{Attr}
use Rattle.f11_store.specs.declared.files.FileId.{FileId}
use Rattle.f11_store.specs.declared.files.Mode.TheVariants as mode
use Rattle.f11_store.specs.declared.refusals.Refusal.{Refusal}
use Rattle.f11_store.specs.declared.requests.Reply.TheVariants as reply
use Rattle.f11_store.specs.declared.requests.Request.TheVariants as request
use Rattle.rt11_volume.specs.Calls.{has_failed}
use Rattle.rt11_volume.specs.Verifying.Verdict.{IsSoundDisk}
use Rattle.rt11_volume.specs.declared.refusal.RtRefusal.{RtRefusal}
use Rattle.rt11_volume.specs.declared.volume.RtAccepted.{RtAccepted}
use Rattle.f11_making.specs.Asking.{BreaksOffAsking, Denies, Granted, Grants, FilesService, Who, asks, counts, plain, reads_of, told}
use Rattle.f11_flx.specs.Conversion.{copied_to_rt}
use Rattle.f11_flx.specs.Copies.{FailsToCopyText, IsDenied}
use Rattle.f11_flx.specs.CopyToRt.{FailsToCopyToRt, GivesUp, HasNoRtPlace, HasWholeBlocks, reading}
use Rattle.f11_flx.specs.Filling.{Took}
use Rattle.f11_flx.specs.Lines.{in_whole_blocks}
use Rattle.f11_flx.specs.Records.{layout_of}
use Rattle.f11_flx.specs.Refusal.{is_lethal}
use Rattle.f11_making.specs.Seen.{IsSeenPlain}
use Rattle.f11_flx.specs.Source.{FailsAs, StartsText, TellsNothing, TellsSource, up_to_end}
use Rattle.f11_flx.specs.Spelled.{image_of}
use Rattle.f11_flx.specs.Target.{Makes, rt_disk, rt_store}
use Rattle.f11_flx.specs.ToRt.{CopiesFileToRt, CopiesLocked, CountsAs, FailsLocked, FailsToCopyFileToRt, FailsToCountAs, FailsToFillToRt}
use Rattle.f11_flx.specs.ToRt.{GaveUp, UndoesToRt, nowhere_refuses, nowhere_takes, rt_refuses, rt_takes}
use Rattle.f11_flx.specs.ToText.{converted_text, rest_of, text_left}
use Rattle.f11_flx.specs.declared.mode.CopyMode.{CopyMode}
use Rattle.f11_flx.specs.declared.mode.CopyMode.TheVariants.{Image, Text}
use Rattle.f11_flx.specs.declared.refusal.FlxRefusal.{FlxRefusal}
use Rattle.f11_flx.specs.declared.refusal.FlxRefusal.TheVariants as refusal
use Rattle.f11_flx.specs.declared.target.Nowhere.{Nowhere}
use Rattle.f11_flx.specs.declared.to_text.ToText.{ToText}
use Rattle.f11_flx.proofs.ToRt.ConvertedLemmas.{copied-text, left-same, no-layout, no-text, text-is, uncopied-text}
use Rattle.f11_flx.proofs.ToRt.CopiedLemmas.{same-end, same-start}
use Rattle.f11_flx.proofs.Texts.PourLemmas.{whole-length}
use Rattle.f11_flx.proofs.ToRt.ReadingLemmas.{IsFree, accessed, count-denied, counted, given-up, giving-denied, held, reading-of-file}
use Rattle.f11_flx.proofs.ToRt.ReadingLemmas.{reads-are}
use Rattle.f11_flx.proofs.ToRt.ReadingLemmas.{reads-denied, told-denied, told-is}
use Rattle.f11_flx.proofs.RtFiles.RtCopyLemmas.{has-places, took-puts}
use Rattle.f11_flx.proofs.Made.SeenLemmas.{breaks-seen, granted-seen, reading-all}
use Rattle.f11_flx.proofs.SmallLemmas.{or-false}

pub true-false : true ≡ false → ⊥
true-false h = absurd (cc)

-- what is no device fault or Damaged isn't one
clean-of : (e x : FlxRefusal) → e ≡ x → is_lethal e ≡ false → is_lethal x ≡ false
clean-of e x same clean = ap is_lethal (sym same) ∙ clean

module _ {V : Type 0} (S : FilesService V) (view : V → Store) (is_sound : V → Bool) (seen : IsSeenPlain S view is_sound) (who : Who)
    (lun : ℕ) (file : FileId)
    (name : List ℕ) (s : Store)
  where
    abbrev f : File
    f = file_named s file

    abbrev locked : Store
    locked = held who lun file s

    -- The service is sound, and its store is the one with the source locked.
    pub record IsAt (v : V) : Type 0 where
      pub at : view v ≡ locked
      pub sound : is_sound v ≡ true

    opened-at : (old opened : V) → view old ≡ s → is_sound old ≡ true → Grants S who (asks (request.Access file mode.Locked lun)) old opened
        → IsFree s who.task lun file × IsAt opened
    opened-at old opened is sound g =
        let one = seen.granted who (asks (request.Access file mode.Locked lun)) old opened g sound in
        let a = accessed who lun file s (view opened)
        (subst (λ x. Grants plain who (asks (request.Access file mode.Locked lun)) x (view opened)) is one.0) in
        (a.0, record { at = a.1; sound = one.1 })

    -- attributes and length
    pub record IsTold (attr : List ℕ) (n : ℕ) (v : V) : Type 0 where
      pub at : IsAt v
      pub attr_is : attr ≡ f.attr
      pub length_is : n ≡ length_of f

    told-at : (attr : List ℕ) (n : ℕ) (opened v : V) → IsAt opened → TellsSource S who lun file attr n opened v → IsTold attr n v
    told-at attr n opened v a t =
        let g = granted-seen S view is_sound seen who (told (request.ReadAttr file) (reply.Attr t.of) ∷ counts lun n ∷ []) opened v t.asked
        a.sound in
        let h = subst (λ x. Granted plain who (told (request.ReadAttr file) (reply.Attr t.of) ∷ counts lun n ∷ []) x (view v)) a.at g.0 in
        let one = told-is who lun file s t.of h.0 h.1 in
        let h2 = subst (λ x. Granted plain who (counts lun n ∷ []) x (view v)) one.1 h.2 in
        let two = counted who lun file s n h2.0 h2.1 in
        record {
          at = record { at = h2.2 ∙ two.1; sound = g.1 };
          attr_is = sym t.attr_is ∙ ap (λ (x : Attr). x.attr) one.0;
          length_is = two.0;
        }

    -- blocks that are read
    reads-at : (xs : List (List ℕ)) (v w : V) → IsAt v → Granted S who (reads_of lun 0 xs) v w → (xs ≡ take (length xs) f.blocks) × IsAt w
    reads-at xs v w a g =
        let p = granted-seen S view is_sound seen who (reads_of lun 0 xs) v w g a.sound in
        let r = reads-are who lun file s 0 xs (view w) (subst (λ x. Granted plain who (reads_of lun 0 xs) x (view w)) a.at p.0) in
        (r.0, record { at = r.1; sound = p.1 })

    -- of the file's blocks none is denied
    none-denied : (count : ℕ) (W : Type 0) (K : List ℕ → ℕ → List ℕ → W → W → Type 0) (e : FlxRefusal) (v w : V) (t t' : W) → IsAt v
        → count ≤ length_of f → is_lethal e ≡ false →
        IsDenied S K who lun name count e v w t t' → ⊥
    none-denied count W K e v w t t' a few clean d =
        reads-denied who lun file s 0 d.given d.refusal (view w) (omega (arith, d.few, few))
        (subst (λ x. BreaksOffAsking plain who (reads_of lun 0 d.given) d.refusal x (view w)) a.at
        (breaks-seen S view is_sound seen who (reads_of lun 0 d.given) d.refusal v w d.breaks a.sound
        (clean-of e (refusal.Files d.refusal) d.is clean)))

    end-few : (attr : List ℕ) (n : ℕ) → n ≡ length_of f → up_to_end attr n ≤ length_of f
    end-few attr n is = omega (arith, is)

    -- The blocks of the copy were counted: it has a conversion, of so many blocks.
    record IsCounted (m : CopyMode) (count : ℕ) (v w : V) : Type 0 where
      at : IsAt w
      walked : List (List ℕ)
      asked : Granted S who (reads_of lun 0 walked) v w
      content : List ℕ
      converted : copied_to_rt m f ≡ Some content
      blocks_are : HasWholeBlocks f → length content ≡ 512 * count

    counted-at : (m : CopyMode) (attr : List ℕ) (n count : ℕ) (v w : V) → IsTold attr n v → CountsAs m S who lun name attr n count v w
        → IsCounted m count v w
    counted-at Image attr n count v w t c = record {
      at = subst IsAt (sym c.1) t.at;
      walked = [];
      asked = c.1;
      content = concat (image_of f);
      converted = refl;
      blocks_are = λ whole.
          let size : length (image_of f) ≡ count =
          omega (arith, length-take {A = List ℕ} ((end_of f + 511) / 512) f.blocks, same-end attr n f t.attr_is t.length_is, c.0) in
          omega (arith, whole-length (image_of f) (All-take (λ b. length b ≡ 512) _ f.blocks whole), size);
    }
    counted-at Text attr n count v w t c =
        let b = c.2.2 in
        let r = reads-at b.given v w t.at b.asked in
        let size : length b.given ≡ up_to_end f.attr (length_of f) = b.count_is ∙ same-end attr n f t.attr_is t.length_is in
        let text = text-is f c.2.0 (same-start attr n f c.2.0 t.attr_is t.length_is c.2.1) b.given r.0 b.bytes size b.sizes b.converted in
        record {
          at = r.1;
          walked = b.given;
          asked = b.asked;
          content = in_whole_blocks b.bytes;
          converted = copied-text f b.bytes text;
          blocks_are = λ whole. omega (arith, whole-length b.pieces b.whole, ap (λ (l : List ℕ). length l) b.pieces_are, b.blocks_are);
        }

    -- what a text's blocks say of the file
    pub record HasText (count : ℕ) : Type 0 where
      pub given : List (List ℕ)
      pub are : given ≡ take (length given) f.blocks
      pub size : length given ≡ up_to_end f.attr (length_of f)
      pub sizes : All (λ b. length b ≡ 512) given
      pub bytes : List ℕ
      pub converted : converted_text f ≡ Some bytes
      pub pieces_are : length (in_whole_blocks bytes) ≡ 512 * count

    text-has : (attr : List ℕ) (n count : ℕ) (v w : V) → IsTold attr n v → CountsAs Text S who lun name attr n count v w → HasText count
    text-has attr n count v w t c =
        let b = c.2.2 in
        let r = reads-at b.given v w t.at b.asked in
        let size : length b.given ≡ up_to_end f.attr (length_of f) = b.count_is ∙ same-end attr n f t.attr_is t.length_is in
        record {
          given = b.given;
          are = r.0;
          size = size;
          sizes = b.sizes;
          bytes = b.bytes;
          converted = text-is f c.2.0 (same-start attr n f c.2.0 t.attr_is t.length_is c.2.1) b.given r.0 b.bytes size b.sizes b.converted;
          pieces_are = omega (arith, whole-length b.pieces b.whole, ap (λ (l : List ℕ). length l) b.pieces_are, b.blocks_are);
        }

    -- the text of its first blocks, however many of them were read first
    text-of-parts : (count : ℕ) (h : HasText count) (text : ToText) (xs : List (List ℕ)) → StartsText f.attr (length_of f) text
        → xs ≡ take (length xs) f.blocks → length xs ≤ length h.given →
        (rest_of text ≤ length (concat xs ++ concat (drop (length xs) h.given)))
        × (text_left text (concat xs ++ concat (drop (length xs) h.given)) ≡ Some h.bytes)
    text-of-parts count h text xs starts are few =
        let front : take (length xs) h.given ≡ xs =
        ap (take (length xs)) h.are ∙ take-take (length xs) (length h.given) f.blocks few ∙ sym are in
        let all : concat h.given ≡ concat xs ++ concat (drop (length xs) h.given) =
        ap concat (sym (take-append-drop (length xs) h.given)) ∙ concat-append (take (length xs) h.given) (drop (length xs) h.given)
        ∙ ap (λ (l : List (List ℕ)). concat l ++ concat (drop (length xs) h.given)) front in (
          omega (arith, starts.rest_is, ap (λ (l : List ℕ). length l) all, whole-length h.given h.sizes, h.size),
          ap (text_left text) (sym all) ∙ sym (left-same f text starts h.given h.are h.size h.sizes) ∙ starts.starts f refl refl
              ∙ h.converted,
        )

    nothing-told : (e : FlxRefusal) (r : Refusal) (v w : V) → IsFree s who.task lun file → IsAt v → e ≡ refusal.Files r
        → is_lethal e ≡ false → TellsNothing S who lun file r v w → ⊥
    nothing-told e r v w free a is clean (inl (inl d)) =
        let one = seen.denied who (asks (request.ReadAttr file)) r v w d a.sound (clean-of e (refusal.Files r) is clean) in
        told-denied who lun file s free r (attributes_of f) (view w)
        (subst (λ x. Denies plain who (asks (request.ReadAttr file)) r x (view w)) a.at one.0)
    nothing-told e r v w free a is clean (inl (inr d)) =
        true-false (ap (λ (x : Refusal). is_lethal (refusal.Files x)) (sym d.2) ∙ clean-of e (refusal.Files r) is clean)
    nothing-told e r v w free a is clean (inr d) =
        let g = seen.granted who (told (request.ReadAttr file) (reply.Attr d.of)) v d.between d.asked a.sound in
        let one = told-is who lun file s d.of (view d.between)
        (subst (λ x. Grants plain who (told (request.ReadAttr file) (reply.Attr d.of)) x (view d.between)) a.at g.0) in
        let two = seen.denied who (counts lun 0) r d.between w d.denied g.1 (clean-of e (refusal.Files r) is clean) in
        count-denied who lun file s r 0 (view w) (subst (λ x. Denies plain who (counts lun 0) r x (view w)) one.1 two.0)

    -- where the source is locked still, giving it up isn't denied
    closing : (r : Refusal) (v w : V) → IsAt v → is_lethal (refusal.Files r) ≡ false → Denies S who (asks (request.Deaccess lun)) r v w → ⊥
    closing r v w a clean d =
        let one = seen.denied who (asks (request.Deaccess lun)) r v w d a.sound clean in
        giving-denied who lun file s r (view w) (subst (λ x. Denies plain who (asks (request.Deaccess lun)) r x (view w)) a.at one.0)

    module _ {E : Type 0} {met : Ghosts E} (disk : E → Disk) (day : ℕ) where
      undone-clean : (e x : FlxRefusal) (a b : RtAccepted E met) → UndoesToRt disk name x e a b → is_lethal e ≡ false → is_lethal x ≡ false
      undone-clean e x a b (inl h) clean = absurd (true-false (sym h.lethal ∙ ap is_lethal (sym h.same) ∙ clean))
      undone-clean e x a b (inr (inl h)) clean = h.clean
      undone-clean e x a b (inr (inr h)) clean = h.clean

      copied-at : (m : CopyMode) (count : ℕ) (opened v : V) (rt rt' : RtAccepted E met) → IsAt opened
          → CopiesLocked m S disk who lun file name count day opened v rt rt' → IsAt v
      copied-at Image count opened v rt rt' a l =
          let t = told-at l.attr l.blocks opened l.seen a l.told in
          let h = counted-at Image l.attr l.blocks count l.seen l.walked t l.counted in
          (reads-at l.fills.copies.1.given l.walked v h.at l.fills.copies.1.asked).1
      copied-at Text count opened v rt rt' a l =
          let t = told-at l.attr l.blocks opened l.seen a l.told in
          let h = counted-at Text l.attr l.blocks count l.seen l.walked t l.counted in
          (reads-at l.fills.copies.2.given l.walked v h.at l.fills.copies.2.asked).1

      -- where a copy stopped and nothing fatal was met, the source is locked still
      fails-at : (m : CopyMode) (attr : List ℕ) (n : ℕ) (e : FlxRefusal) (w x : V) (made stopped : RtAccepted E met) → n ≡ length_of f
          → IsAt w →
          FailsAs m S (rt_takes disk) (rt_refuses disk) who lun name attr n e w x made stopped → is_lethal e ≡ false → IsAt x
      fails-at Image attr n e w x made stopped is a (inl d) clean =
          absurd (none-denied (up_to_end attr n) (RtAccepted E met) (rt_takes disk) e w x made stopped a (end-few attr n is) clean d)
      fails-at Image attr n e w x made stopped is a (inr k) clean = (reads-at k.given w x a k.asked).1
      fails-at Text attr n e w x made stopped is a (inl k) clean = subst IsAt (sym k.stays) a
      fails-at Text attr n e w x made stopped is a (inr k) clean = by k.2
        where
          by : FailsToCopyText S (rt_takes disk) (rt_refuses disk) who lun name k.0 (up_to_end attr n) e w x made stopped → IsAt x
          by (inl d) =
              absurd (none-denied (up_to_end attr n) (RtAccepted E met) (rt_takes disk) e w x made stopped a (end-few attr n is) clean d)
          by (inr (inl d)) = (reads-at d.given w x a d.asked).1
          by (inr (inr d)) = (reads-at d.given w x a d.asked).1

      count-at : (m : CopyMode) (attr : List ℕ) (n : ℕ) (e : FlxRefusal) (v w : V) (made : RtAccepted E met) → IsTold attr n v
          → FailsToCountAs m S who lun name attr n e v w → is_lethal e ≡ false → IsAt w
      count-at Image attr n e v w made t h clean = absurd h
      count-at Text attr n e v w made t h clean = by h.2
        where
          parts : (text : ToText) → FailsToCopyText S nowhere_takes nowhere_refuses who lun name text (up_to_end attr n) e v w h.0 h.1
              → IsAt w
          parts text (inl d) =
              absurd (none-denied (up_to_end attr n) Nowhere nowhere_takes e v w h.0 h.1 t.at (end-few attr n t.length_is) clean d)
          parts text (inr (inl d)) = (reads-at d.given v w t.at d.asked).1
          parts text (inr (inr d)) = absurd d.refused

          by : FailsAs Text S nowhere_takes nowhere_refuses who lun name attr n e v w h.0 h.1 → IsAt w
          by (inl k) = subst IsAt (sym k.stays) t.at
          by (inr k) = parts k.0 k.2

      fill-at : (m : CopyMode) (attr : List ℕ) (n count : ℕ) (e : FlxRefusal) (v w x : V) (rt rt' : RtAccepted E met) → IsTold attr n v
          → CountsAs m S who lun name attr n count v w →
          FailsToFillToRt m S disk who lun name attr n count day e w x rt rt' → is_lethal e ≡ false → IsAt x
      fill-at m attr n count e v w x rt rt' t c (inl k) clean = subst IsAt (sym k.stays) (counted-at m attr n count v w t c).at
      fill-at m attr n count e v w x rt rt' t c (inr k) clean =
          fails-at m attr n k.refusal w x k.made k.stopped t.length_is (counted-at m attr n count v w t c).at k.fails
          (undone-clean e k.refusal k.stopped rt' k.undoes clean)

      locked-at : (m : CopyMode) (e : FlxRefusal) (opened w : V) (rt rt' : RtAccepted E met) → IsFree s who.task lun file → IsAt opened
          → is_lethal e ≡ false →
          FailsLocked m S disk who lun file name day e opened w rt rt' → IsAt w
      locked-at m e opened w rt rt' free a clean (inl k) = absurd (nothing-told e k.refusal opened w free a k.is clean k.tells)
      locked-at m e opened w rt rt' free a clean (inr (inl k)) =
          count-at m k.attr k.blocks e k.seen w rt (told-at k.attr k.blocks opened k.seen a k.told) k.fails clean
      locked-at m e opened w rt rt' free a clean (inr (inr k)) =
          fill-at m k.attr k.blocks k.count e k.seen k.walked w rt rt' (told-at k.attr k.blocks opened k.seen a k.told) k.counted k.fails
          clean

      closed-at : (v w : V) (made : RtAccepted E met) → IsFree s who.task lun file → IsAt v → Grants S who (asks (request.Deaccess lun)) v w
          → view w ≡ s
      closed-at v w made free a g =
          let one = seen.granted who (asks (request.Deaccess lun)) v w g a.sound in
          given-up who lun file s free (view w) (subst (λ x. Grants plain who (asks (request.Deaccess lun)) x (view w)) a.at one.0)

      -- so whatever the RT-11 volume does, the store is as before then
      pub copied-stays : (m : CopyMode) (count : ℕ) (old new : V) (rt rt' : RtAccepted E met) → view old ≡ s → is_sound old ≡ true
          → CopiesFileToRt m S disk who lun file name count day old new rt rt' → view new ≡ s
      copied-stays m count old new rt rt' is sound k =
          let a = opened-at old k.opened is sound k.opens in
          closed-at k.left new rt a.0 (copied-at m count k.opened k.left rt rt' a.1 k.copies) k.closes

      pub refused-stays : (m : CopyMode) (e : FlxRefusal) (old new : V) (rt rt' : RtAccepted E met) → view old ≡ s → is_sound old ≡ true
          → is_lethal e ≡ false →
          FailsToCopyFileToRt m S disk who lun file name day e old new rt rt' → view new ≡ s
      refused-stays m e old new rt rt' is sound clean (inl k) =
          let one = seen.denied who (asks (request.Access file mode.Locked lun)) k.refusal old new k.denied sound
          (clean-of e (refusal.Files k.refusal) k.is clean) in
          one.0.2.store_stays ∙ is
      refused-stays m e old new rt rt' is sound clean (inr (inl k)) = by k.gives
        where
          a : IsFree s who.task lun file × IsAt k.opened
          a = opened-at old k.opened is sound k.opens

          by : GaveUp S who lun k.refusal e k.stopped new → view new ≡ s
          by (inl h) = absurd (true-false (sym h.lethal ∙ ap is_lethal (sym h.same) ∙ clean))
          by (inr (inl h)) =
              closed-at k.stopped new rt a.0 (locked-at m k.refusal k.opened k.stopped rt rt' a.0 a.1 h.clean k.fails) h.asked
          by (inr (inr h)) = absurd (ends h.answer_is (locked-at m k.refusal k.opened k.stopped rt rt' a.0 a.1 h.clean k.fails))
            where
              ends : (((is_lethal (refusal.Files h.refusal) ≡ true) × (e ≡ refusal.Files h.refusal))
                  ⊎ ((is_lethal (refusal.Files h.refusal) ≡ false) × (e ≡ k.refusal))) → IsAt k.stopped → ⊥
              ends (inl x) at = true-false (sym x.0 ∙ ap is_lethal (sym x.1) ∙ clean)
              ends (inr x) at = closing h.refusal k.stopped new at x.0 h.denied
      refused-stays m e old new rt rt' is sound clean (inr (inr k)) =
          let a = opened-at old k.opened is sound k.opens in
          absurd (closing k.refusal k.left new (copied-at m k.count k.opened k.left rt k.filled a.1 k.copies)
          (undone-clean e (refusal.Files k.refusal) k.filled rt' k.undoes clean) k.denied)

    module _ {E : Type 0} {met : Ghosts E} (disk : E → Disk) (day : ℕ) (rt : RtAccepted E met)
        (sound' : has_failed rt ≡ false → IsSoundDisk (rt_disk disk rt)) where
      -- a file that was made takes each of its blocks
      all-taken : (count place : ℕ) (made between stopped : RtAccepted E met) (pieces : List (List ℕ)) (last : List ℕ) (e : FlxRefusal) →
          Makes disk name count day rt made → Took (rt_takes disk) name 0 pieces made between
          → rt_refuses disk name place last e between stopped → is_lethal e ≡ false → count ≤ place
      all-taken count place made between stopped pieces last e makes took refused clean =
          let puts = took-puts disk name 0 pieces made between took in
          let s1 = makes.sound (sound' makes.alive) in
          let alive : has_failed between ≡ false =
          puts.fares.next ∙ or-false (has_failed made) ∙ makes.fares.next ∙ or-false (has_failed rt) ∙ makes.alive in
          refused.past (puts.sound s1) alive (clean-of e (refusal.Rt refused.refusal) refused.is clean) count makes.few
          (has-places name count day pieces (rt_store disk rt) (rt_store disk made) (rt_store disk between)
          (makes.made (sound' makes.alive)) (puts.replaced s1))

      -- so a copy isn't refused whose blocks were counted
      none-refused : (m : CopyMode) (attr : List ℕ) (n count : ℕ) (v w x : V) (made stopped : RtAccepted E met) (e : FlxRefusal)
          → IsTold attr n v → CountsAs m S who lun name attr n count v w → IsAt w →
          Makes disk name count day rt made → FailsAs m S (rt_takes disk) (rt_refuses disk) who lun name attr n e w x made stopped
          → is_lethal e ≡ false → ⊥
      none-refused Image attr n count v w x made stopped e t c a makes (inl d) clean =
          none-denied (up_to_end attr n) (RtAccepted E met) (rt_takes disk) e w x made stopped a (end-few attr n t.length_is) clean d
      none-refused Image attr n count v w x made stopped e t c a makes (inr k) clean =
          absurd (omega (
            arith,
            all-taken count (length k.pieces) made k.between stopped k.pieces k.last e makes k.took k.refused clean,
            k.longer,
            c.0,
          ))
      none-refused Text attr n count v w x made stopped e t c a makes (inl k) clean =
          let h = text-has attr n count v w t c in
          let none = no-layout f (ap layout_of (sym t.attr_is) ∙ k.none) in
          let some = h.converted in absurd (cc)
      none-refused Text attr n count v w x made stopped e t c a makes (inr k) clean = by k.2
        where
          h : HasText count
          h = text-has attr n count v w t c

          starts : StartsText f.attr (length_of f) k.0
          starts = same-start attr n f k.0 t.attr_is t.length_is k.1

          end : up_to_end attr n ≡ length h.given
          end = same-end attr n f t.attr_is t.length_is ∙ sym h.size

          by : FailsToCopyText S (rt_takes disk) (rt_refuses disk) who lun name k.0 (up_to_end attr n) e w x made stopped → ⊥
          by (inl d) =
              none-denied (up_to_end attr n) (RtAccepted E met) (rt_takes disk) e w x made stopped a (end-few attr n t.length_is) clean d
          by (inr (inl d)) =
              let r = reads-at d.given w x a d.asked in
              let parts = text-of-parts count h k.0 d.given starts r.0 (omega (arith, d.few, end)) in
              let none = d.none (concat (drop (length d.given) h.given)) parts.0 in
              let some = parts.1 in absurd (cc)
          by (inr (inr d)) =
              let r = reads-at d.given w x a d.asked in
              let parts = text-of-parts count h k.0 d.given starts r.0 (omega (arith, d.few, end)) in
              let more = d.longer (concat (drop (length d.given) h.given)) h.bytes parts.0 parts.1 in
              let least = all-taken count (length d.pieces) made d.between stopped d.pieces d.last e makes d.took d.refused clean in
              absurd (omega (
                arith,
                more,
                least,
                h.pieces_are,
                length-append {A = ℕ} h.bytes (replicate ((512 - length h.bytes % 512) % 512) 0),
              ))

      -- what is told of a refusal at which nothing is denied but by the RT-11 volume
      abbrev Why : CopyMode → FlxRefusal → Type 0
      Why m (refusal.Files e) = ⊥
      Why m (refusal.Rt e) = HasNoRtPlace m f name e (rt_disk disk rt)
      Why m refusal.BadRecord = HasWholeBlocks f → copied_to_rt m f ≡ None
      Why m refusal.LineTooLong = ⊥
      Why m refusal.Unread = ⊥

      why-bad : (m : CopyMode) (e : FlxRefusal) → e ≡ refusal.BadRecord → (HasWholeBlocks f → copied_to_rt m f ≡ None) → Why m e
      why-bad m e is none = subst (Why m) (sym is) none

      why-rt : (m : CopyMode) (e : FlxRefusal) (r : RtRefusal) → e ≡ refusal.Rt r → HasNoRtPlace m f name r (rt_disk disk rt) → Why m e
      why-rt m e r is none = subst (Why m) (sym is) none

      -- The copy stopped behind some blocks that were walked over.
      record Stops (m : CopyMode) (e : FlxRefusal) (opened stopped : V) : Type 0 where
        at : IsAt stopped
        of : Attr
        n : ℕ
        told-to : V
        tells : Granted S who (told (request.ReadAttr file) (reply.Attr of) ∷ counts lun n ∷ []) opened told-to
        walked : List (List ℕ)
        walks : Granted S who (reads_of lun 0 walked) told-to stopped
        why : Why m e

      not-counted : (attr : List ℕ) (n : ℕ) (e : FlxRefusal) (opened v w : V) → IsTold attr n v
          → (t : TellsSource S who lun file attr n opened v) → is_lethal e ≡ false →
          FailsToCountAs Text S who lun name attr n e v w → Stops Text e opened w
      not-counted attr n e opened v w t tells clean h = by h.2
        where
          by : FailsAs Text S nowhere_takes nowhere_refuses who lun name attr n e v w h.0 h.1 → Stops Text e opened w
          by (inl k) = record {
            at = subst IsAt (sym k.stays) t.at;
            of = tells.of;
            n = n;
            told-to = v;
            tells = tells.asked;
            walked = [];
            walks = k.stays;
            why = why-bad Text e k.is (λ whole. uncopied-text f (no-layout f (ap layout_of (sym t.attr_is) ∙ k.none)));
          }
          by (inr k) = parts k.2
            where
              parts : FailsToCopyText S nowhere_takes nowhere_refuses who lun name k.0 (up_to_end attr n) e v w h.0 h.1
                  → Stops Text e opened w
              parts (inl d) =
                  absurd (none-denied (up_to_end attr n) Nowhere nowhere_takes e v w h.0 h.1 t.at (end-few attr n t.length_is) clean d)
              parts (inr (inl d)) =
                  let r = reads-at d.given v w t.at d.asked in
                  record {
                    at = r.1;
                    of = tells.of;
                    n = n;
                    told-to = v;
                    tells = tells.asked;
                    walked = d.given;
                    walks = d.asked;
                    why = why-bad Text e d.is
                        (λ whole. uncopied-text f
                        (no-text f k.0 (same-start attr n f k.0 t.attr_is t.length_is k.1) d.given r.0 whole d.none));
                  }
              parts (inr (inr d)) = absurd d.refused

      not-filled : (m : CopyMode) (attr : List ℕ) (n count : ℕ) (e : FlxRefusal) (opened v w x : V) (rt' : RtAccepted E met)
          → IsTold attr n v → (t : TellsSource S who lun file attr n opened v) →
          CountsAs m S who lun name attr n count v w → is_lethal e ≡ false
          → FailsToFillToRt m S disk who lun name attr n count day e w x rt rt' → Stops m e opened x
      not-filled m attr n count e opened v w x rt' t tells c clean (inl k) =
          let h = counted-at m attr n count v w t c in
          record {
            at = subst IsAt (sym k.stays) h.at;
            of = tells.of;
            n = n;
            told-to = v;
            tells = tells.asked;
            walked = h.walked;
            walks = subst (λ y. Granted S who (reads_of lun 0 h.walked) v y) (sym k.stays) h.asked;
            why = why-rt m e k.refusal k.is
                (record { content = h.content; blocks = count; converted = h.converted; blocks_are = h.blocks_are; fails = k.fails.why });
          }
      not-filled m attr n count e opened v w x rt' t tells c clean (inr k) =
          let h = counted-at m attr n count v w t c in
          absurd (none-refused m attr n count v w x k.made k.stopped k.refusal t c h.at k.makes k.fails
          (undone-clean disk day e k.refusal k.stopped rt' k.undoes clean))

      locked-stops : (m : CopyMode) (e : FlxRefusal) (opened w : V) (rt' : RtAccepted E met) → IsFree s who.task lun file → IsAt opened
          → is_lethal e ≡ false →
          FailsLocked m S disk who lun file name day e opened w rt rt' → Stops m e opened w
      locked-stops m e opened w rt' free a clean (inl k) = absurd (nothing-told e k.refusal opened w free a k.is clean k.tells)
      locked-stops Image e opened w rt' free a clean (inr (inl k)) = absurd k.fails
      locked-stops Text e opened w rt' free a clean (inr (inl k)) =
          not-counted k.attr k.blocks e opened k.seen w (told-at k.attr k.blocks opened k.seen a k.told) k.told clean k.fails
      locked-stops m e opened w rt' free a clean (inr (inr k)) =
          not-filled m k.attr k.blocks k.count e opened k.seen k.walked w rt' (told-at k.attr k.blocks opened k.seen a k.told) k.told
          k.counted clean k.fails

      -- and nothing was written to the RT-11 volume
      abbrev Unwritten : RtAccepted E met → Type 0
      Unwritten rt' = (rt_disk disk rt').image ≡ (rt_disk disk rt).image

      unfilled-same : (m : CopyMode) (attr : List ℕ) (n count : ℕ) (e : FlxRefusal) (v w x : V) (rt' : RtAccepted E met) → IsTold attr n v
          → CountsAs m S who lun name attr n count v w →
          is_lethal e ≡ false → FailsToFillToRt m S disk who lun name attr n count day e w x rt rt' → Unwritten rt'
      unfilled-same m attr n count e v w x rt' t c clean (inl k) = k.fails.refused.stays (clean-of e (refusal.Rt k.refusal) k.is clean)
      unfilled-same m attr n count e v w x rt' t c clean (inr k) =
          absurd (none-refused m attr n count v w x k.made k.stopped k.refusal t c (counted-at m attr n count v w t c).at k.makes k.fails
          (undone-clean disk day e k.refusal k.stopped rt' k.undoes clean))

      locked-same : (m : CopyMode) (e : FlxRefusal) (opened w : V) (rt' : RtAccepted E met) → IsAt opened → is_lethal e ≡ false →
          FailsLocked m S disk who lun file name day e opened w rt rt' → Unwritten rt'
      locked-same m e opened w rt' a clean (inl k) = ap (λ x. (rt_disk disk x).image) k.left
      locked-same m e opened w rt' a clean (inr (inl k)) = ap (λ x. (rt_disk disk x).image) k.left
      locked-same m e opened w rt' a clean (inr (inr k)) =
          unfilled-same m k.attr k.blocks k.count e k.seen k.walked w rt' (told-at k.attr k.blocks opened k.seen a k.told) k.counted clean
          k.fails

      -- the source was given up behind what was walked over
      gives-up : (m : CopyMode) (e : FlxRefusal) (old opened stopped new : V) → view old ≡ s → is_sound old ≡ true
          → Grants S who (asks (request.Access file mode.Locked lun)) old opened →
          Stops m e opened stopped → Grants S who (asks (request.Deaccess lun)) stopped new → GivesUp who lun file s (view new)
      gives-up m e old opened stopped new is sound opens k closes =
          let g = granted-seen S view is_sound seen who (reading file lun k.of k.n k.walked []) old new
          (reading-all S who lun file k.of k.n k.walked [] old opened k.told-to stopped stopped new opens k.tells k.walks refl closes) sound
          in
          let h = subst (λ x. Granted plain who (reading file lun k.of k.n k.walked []) x (view new)) is g.0 in
          let r = reading-of-file who lun file s k.of k.n k.walked [] (view new) h in
          record {
            walked = k.walked;
            asked =
                subst (λ i. Granted plain who (reading file lun (attributes_of f) i k.walked []) s (view new)) r.blocks_are
                (subst (λ (x : Attr). Granted plain who (reading file lun x k.n k.walked []) s (view new)) r.of_is h);
          }

      concludes : (m : CopyMode) (e : FlxRefusal) (s' : Store) → Why m e → GivesUp who lun file s s'
          → FailsToCopyToRt e m who lun file name s s' (rt_disk disk rt)
      concludes m (refusal.Files e) s' why g = absurd why
      concludes m (refusal.Rt e) s' why g = (g, why)
      concludes m refusal.BadRecord s' why g = (g, why)
      concludes m refusal.LineTooLong s' why g = absurd why
      concludes m refusal.Unread s' why g = absurd why

      pub refused : (m : CopyMode) (e : FlxRefusal) (old new : V) (rt' : RtAccepted E met) → view old ≡ s → is_sound old ≡ true
          → is_lethal e ≡ false →
          FailsToCopyFileToRt m S disk who lun file name day e old new rt rt'
          → FailsToCopyToRt e m who lun file name s (view new) (rt_disk disk rt)
      refused m e old new rt' is sound clean (inl k) =
          let one = seen.denied who (asks (request.Access file mode.Locked lun)) k.refusal old new k.denied sound
          (clean-of e (refusal.Files k.refusal) k.is clean) in
          subst (λ x. FailsToCopyToRt x m who lun file name s (view new) (rt_disk disk rt)) (sym k.is)
          (inl (subst (λ x. Denies plain who (asks (request.Access file mode.Locked lun)) k.refusal x (view new)) is one.0))
      refused m e old new rt' is sound clean (inr (inl k)) = by k.gives
        where
          a : IsFree s who.task lun file × IsAt k.opened
          a = opened-at old k.opened is sound k.opens

          by : GaveUp S who lun k.refusal e k.stopped new → FailsToCopyToRt e m who lun file name s (view new) (rt_disk disk rt)
          by (inl h) = absurd (true-false (sym h.lethal ∙ ap is_lethal (sym h.same) ∙ clean))
          by (inr (inl h)) =
              let k2 = locked-stops m k.refusal k.opened k.stopped rt' a.0 a.1 h.clean k.fails in
              concludes m e (view new) (subst (Why m) (sym h.same) k2.why)
              (gives-up m k.refusal old k.opened k.stopped new is sound k.opens k2 h.asked)
          by (inr (inr h)) =
              let k2 = locked-stops m k.refusal k.opened k.stopped rt' a.0 a.1 h.clean k.fails in
              absurd (ends h.answer_is k2.at)
            where
              ends : (((is_lethal (refusal.Files h.refusal) ≡ true) × (e ≡ refusal.Files h.refusal))
                  ⊎ ((is_lethal (refusal.Files h.refusal) ≡ false) × (e ≡ k.refusal))) → IsAt k.stopped → ⊥
              ends (inl x) at = true-false (sym x.0 ∙ ap is_lethal (sym x.1) ∙ clean)
              ends (inr x) at = closing h.refusal k.stopped new at x.0 h.denied
      refused m e old new rt' is sound clean (inr (inr k)) =
          let a = opened-at old k.opened is sound k.opens in
          let at = copied-at disk day m k.count k.opened k.left rt k.filled a.1 k.copies in
          absurd (closing k.refusal k.left new at (undone-clean disk day e (refusal.Files k.refusal) k.filled rt' k.undoes clean) k.denied)

      pub refused-same : (m : CopyMode) (e : FlxRefusal) (old new : V) (rt' : RtAccepted E met) → view old ≡ s → is_sound old ≡ true
          → is_lethal e ≡ false →
          FailsToCopyFileToRt m S disk who lun file name day e old new rt rt' → (rt_disk disk rt').image ≡ (rt_disk disk rt).image
      refused-same m e old new rt' is sound clean (inl k) = ap (λ x. (rt_disk disk x).image) k.left
      refused-same m e old new rt' is sound clean (inr (inl k)) =
          locked-same m k.refusal k.opened k.stopped rt' (opened-at old k.opened is sound k.opens).1 (by k.gives) k.fails
        where
          by : GaveUp S who lun k.refusal e k.stopped new → is_lethal k.refusal ≡ false
          by (inl h) = absurd (true-false (sym h.lethal ∙ ap is_lethal (sym h.same) ∙ clean))
          by (inr (inl h)) = h.clean
          by (inr (inr h)) = h.clean
      refused-same m e old new rt' is sound clean (inr (inr k)) =
          let a = opened-at old k.opened is sound k.opens in
          let at = copied-at disk day m k.count k.opened k.left rt k.filled a.1 k.copies in
          absurd (closing k.refusal k.left new at (undone-clean disk day e (refusal.Files k.refusal) k.filled rt' k.undoes clean) k.denied)
