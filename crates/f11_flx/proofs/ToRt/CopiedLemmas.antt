-- A copy to an RT-11 volume that was made, over the plain stores.
use Rattle.std.proofs.Common.{◌≡◌, ℕ, Bool, true, List, [], length, Some, All, refl, sym, ap, ◌∙◌, subst, arith}
use Rattle.std.specs.List.{concat}
use Rattle.f11_dev.specs.Disk.{Disk}
use Rattle.f11_dev.specs.declared.device.Device.{Ghosts}
use Rattle.f11_store.specs.File.{File, length_of}
use Rattle.f11_store.specs.Step.{attributes_of}
use Rattle.f11_store.specs.Store.{Store, file_named}
use Rattle.f11_store.specs.declared.files.Attr.{Attr}
use Rattle.f11_store.specs.declared.files.FileId.{FileId}
use Rattle.rt11_volume.specs.Verifying.Verdict.{IsSoundDisk}
use Rattle.rt11_volume.specs.declared.volume.RtAccepted.{RtAccepted}
use Rattle.f11_making.specs.Asking.{Granted, FilesService, Who, plain}
use Rattle.f11_flx.specs.CopyToRt.{CopiesToRt, reading, reading_of, walked_of}
use Rattle.f11_flx.specs.Lines.{in_whole_blocks}
use Rattle.f11_making.specs.Seen.{IsSeenPlain}
use Rattle.f11_flx.specs.Source.{StartsText, up_to_end}
use Rattle.f11_flx.specs.Spelled.{image_of}
use Rattle.f11_flx.specs.Target.{rt_disk, rt_store}
use Rattle.f11_flx.specs.ToRt.{CopiesFileToRt}
use Rattle.f11_flx.specs.declared.mode.CopyMode.{CopyMode}
use Rattle.f11_flx.specs.declared.mode.CopyMode.TheVariants.{Image, Text}
use Rattle.f11_flx.specs.declared.to_text.ToText.{ToText}
use Rattle.f11_flx.proofs.ToRt.ConvertedLemmas.{copied-text, image-is, text-is}
use Rattle.f11_flx.proofs.Texts.PourLemmas.{whole-length}
use Rattle.f11_flx.proofs.ToRt.ReadingLemmas.{reading-of-file}
use Rattle.f11_flx.proofs.RtFiles.RtCopyLemmas.{has-copy, took-puts}
use Rattle.f11_flx.proofs.Made.SeenLemmas.{granted-seen, reading-all}
use Rattle.f11_flx.proofs.SmallLemmas.{some-one}

-- attributes and length that are the file's say how many blocks are up to its end
pub same-end : (attr : List ℕ) (n : ℕ) (f : File) → attr ≡ f.attr → n ≡ length_of f → up_to_end attr n ≡ up_to_end f.attr (length_of f)
same-end attr n f same size = ap (λ (a : List ℕ). up_to_end a n) same ∙ ap (up_to_end f.attr) size

pub same-start : (attr : List ℕ) (n : ℕ) (f : File) (text : ToText) → attr ≡ f.attr → n ≡ length_of f → StartsText attr n text
    → StartsText f.attr (length_of f) text
same-start attr n f text same size h =
    subst (λ (a : List ℕ). StartsText a (length_of f) text) same (subst (λ k. StartsText attr k text) size h)

-- blocks with the bytes of the same text are as many
pub same-count : (a b : List (List ℕ)) (x y : List ℕ) → All (λ b. length b ≡ 512) a → All (λ b. length b ≡ 512) b →
    concat a ≡ in_whole_blocks x → concat b ≡ in_whole_blocks y → x ≡ y → length a ≡ length b
same-count a b x y whole whole' is is' same =
    omega (arith, whole-length a whole, whole-length b whole', ap (λ (l : List ℕ). length l) (is ∙ ap in_whole_blocks same ∙ sym is'))

module _ {V E : Type 0} {met : Ghosts E} (S : FilesService V) (view : V → Store) (is_sound : V → Bool) (seen : IsSeenPlain S view is_sound)
    (disk : E → Disk)
    (who : Who) (lun : ℕ) (file : FileId) (name : List ℕ) (count day : ℕ) (old new : V) (rt rt' : RtAccepted E met)
    (sound : is_sound old ≡ true)
    (sound' : IsSoundDisk (rt_disk disk rt))
  where
    abbrev f : File
    f = file_named (view old) file

    -- the requests were those for the file
    asked-of : (m : CopyMode) (of : Attr) (n : ℕ) (walked copied : List (List ℕ))
        → Granted plain who (reading file lun of n walked copied) (view old) (view new) →
        of ≡ attributes_of f → n ≡ length_of f → walked ≡ walked_of m f → copied ≡ image_of f
        → Granted plain who (reading_of m file lun f) (view old) (view new)
    asked-of m of n walked copied g a b c d =
        subst (λ (l : List (List ℕ)). Granted plain who (reading file lun (attributes_of f) (length_of f) (walked_of m f) l) (view old)
        (view new)) d
        (subst (λ (l : List (List ℕ)). Granted plain who (reading file lun (attributes_of f) (length_of f) l copied) (view old) (view new))
        c
        (subst (λ k. Granted plain who (reading file lun (attributes_of f) k walked copied) (view old) (view new)) b
        (subst (λ (x : Attr). Granted plain who (reading file lun x n walked copied) (view old) (view new)) a g)))

    pub copied : (m : CopyMode) → CopiesFileToRt m S disk who lun file name count day old new rt rt'
        → CopiesToRt m who lun file name day count (view old) (view new) (rt_store disk rt) (rt_store disk rt')
    copied Image h =
        let l = h.copies in
        let b = l.fills.copies.1 in
        let walks = subst (λ v. Granted S who [] l.seen v) refl (l.counted.1) in
        let g = granted-seen S view is_sound seen who (reading file lun l.told.of l.blocks [] b.given) old new
        (reading-all S who lun file l.told.of l.blocks [] b.given old h.opened l.seen l.walked h.left new h.opens l.told.asked walks b.asked
        h.closes) sound in
        let r = reading-of-file who lun file (view old) l.told.of l.blocks [] b.given (view new) g.0 in
        let same : l.attr ≡ f.attr = sym l.told.attr_is ∙ ap (λ (a : Attr). a.attr) r.of_is in
        let size : length b.given ≡ up_to_end f.attr (length_of f) = b.count_is ∙ same-end l.attr l.blocks f same r.blocks_are in
        let image = image-is f b.given size r.copied_are in
        let number : length b.given ≡ count = b.count_is ∙ sym l.counted.0 in
        let puts = took-puts disk name 0 b.given l.fills.made rt' b.took in
        let s1 = l.fills.makes.sound sound' in
        record {
          content = concat b.given;
          converted = ap (λ (x : List (List ℕ)). Some (concat x)) (sym image);
          blocks_are = omega (arith, whole-length b.given b.whole, number);
          asked = asked-of Image l.told.of l.blocks [] b.given g.0 r.of_is r.blocks_are refl image;
          made =
              has-copy name count day b.given (rt_store disk rt) (rt_store disk l.fills.made) (rt_store disk rt')
              (l.fills.makes.made sound') (puts.replaced s1)
              (l.fills.makes.lies sound') (puts.directory s1) number;
        }
    copied Text h =
        let l = h.copies in
        let w = l.counted.2.2 in
        let b = l.fills.copies.2 in
        let g = granted-seen S view is_sound seen who (reading file lun l.told.of l.blocks w.given b.given) old new
        (reading-all S who lun file l.told.of l.blocks w.given b.given old h.opened l.seen l.walked h.left new h.opens l.told.asked w.asked
        b.asked h.closes) sound in
        let r = reading-of-file who lun file (view old) l.told.of l.blocks w.given b.given (view new) g.0 in
        let same : l.attr ≡ f.attr = sym l.told.attr_is ∙ ap (λ (a : Attr). a.attr) r.of_is in
        let end = same-end l.attr l.blocks f same r.blocks_are in
        let size : length b.given ≡ up_to_end f.attr (length_of f) = b.count_is ∙ end in
        let size' : length w.given ≡ up_to_end f.attr (length_of f) = w.count_is ∙ end in
        let image = image-is f b.given size r.copied_are in
        let image' = image-is f w.given size' r.walked_are in
        let text = text-is f l.fills.copies.0 (same-start l.attr l.blocks f l.fills.copies.0 same r.blocks_are l.fills.copies.1) b.given
        r.copied_are b.bytes size b.sizes b.converted in
        let text' = text-is f l.counted.2.0 (same-start l.attr l.blocks f l.counted.2.0 same r.blocks_are l.counted.2.1) w.given
        r.walked_are w.bytes size' w.sizes w.converted in
        let one : b.bytes ≡ w.bytes = some-one (sym text ∙ text') in
        let number : length b.pieces ≡ count = same-count b.pieces w.pieces b.bytes w.bytes b.whole w.whole b.pieces_are w.pieces_are one
        ∙ sym w.blocks_are in
        let puts = took-puts disk name 0 b.pieces l.fills.made rt' b.took in
        let s1 = l.fills.makes.sound sound' in
        record {
          content = concat b.pieces;
          converted = copied-text f b.bytes text ∙ ap Some (sym b.pieces_are);
          blocks_are = omega (arith, whole-length b.pieces b.whole, number);
          asked = asked-of Text l.told.of l.blocks w.given b.given g.0 r.of_is r.blocks_are image' image;
          made =
              has-copy name count day b.pieces (rt_store disk rt) (rt_store disk l.fills.made) (rt_store disk rt')
              (l.fills.makes.made sound') (puts.replaced s1)
              (l.fills.makes.lies sound') (puts.directory s1) number;
        }
