-- An accepted volume that is opened.
use Rattle.std.proofs.Common.{◌≡◌, ◌≤◌, ◌+◌, ◌/◌, ℕ, IsTrue, length, refl, sym, ap, subst, ◌∙◌, arith}
use Rattle.std.proofs.lemmas.Bool.Decides.{nat_tests}
use Rattle.f11_bits.specs.Bitmap.{Bitmap}
use Rattle.f11_bits.specs.Storage.{LoadsBitmap}
use Rattle.f11_dev.specs.Disk.{Disk}
use Rattle.f11_dev.specs.Image.{Image, IsImage}
use Rattle.f11_dev.specs.Looked.{Looked}
use Rattle.f11_dev.proofs.LookedLemmas.{looked_more, looked_within}
use Rattle.f11_home.specs.Home.{HomeFields, candidates, FindsHome, FindsNoHome}
use Rattle.f11_home.proofs.HomeLemmas.{home-some, home-unique}
use Rattle.f11_index.specs.IndexFile.{Index, index_of}
use Rattle.f11_index.specs.Kept.{IndexLiesWithin}
use Rattle.f11_volume.specs.Faults.{IsFrameFault}
use Rattle.f11_vfy.specs.Frames.Frame.{AreOf, ReadsFrame, FindsFrameFault, FailsToReadFrame, LacksFrameMemory, frame_reads}
use Rattle.f11_vfy.specs.declared.fault.ReadFault.{ReadFault}
use Rattle.f11_vfy.specs.declared.fault.ReadFault.TheVariants as read
use Rattle.f11_volume.specs.Sound.{HasSoundVolume}
use Rattle.f11_volume.specs.Space.{storage_bitmap}
use Rattle.f11_volume.specs.Verdict.{IsAccepted, of_frame}
use Rattle.f11_volume.proofs.AcceptedLemmas.{accepted-sound}
use Rattle.f11_volume.proofs.FileLemmas.{bitmap-is}
use Rattle.f11_files.specs.Opening.Opens.{ArePlacesApart, MeetsDamage, HasNoStructure, OpensStructure, fault_of, opening_reads}
use Rattle.f11_files.specs.Structure.{index_in, home_of}
use Rattle.f11_files.specs.declared.structure.Structure.{Structure}

module _ (old : Disk) (image_is : IsImage old.image) (accepted : IsTrue old.honest → IsAccepted old.image) where
  -- no home block was found
  pub no-home : (new : Disk) → FindsNoHome old new → MeetsDamage old new
  no-home new finds = record {
    never = λ honest. let sound = (accepted-sound old.image image_is).0 (accepted honest) in
        home-some old.image sound.home sound.volume.framed.home_is (finds.has_none honest);
    looked = looked_within finds.looked (few (length old.image));
  }
    where
      few : (n : ℕ) → candidates n ≤ n / 256 + 1 + frame_reads old + 126
      few n = grind (arith, nat_tests)

  module _ (home : HomeFields) (mid : Disk) (finds : FindsHome old mid home) where
    same : mid.image ≡ old.image
    same = finds.looked.image

    sure : IsTrue old.honest → IsTrue mid.honest
    sure honest = finds.looked.honest ∙ honest

    -- what was looked at behind the home block
    pub looked-behind : (new : Disk) (faults : ℕ) → Looked mid new (frame_reads mid) faults → Looked old new (opening_reads old) faults
    looked-behind new faults looked =
        let all = looked_more finds.looked looked in
        let size = ap (λ (i : Image). length i) same in
        looked_within all (omega (arith, finds.sound.within, reads-same))
      where
        reads-same : frame_reads mid ≡ frame_reads old
        reads-same = ap (λ (i : Image). candidates (length i) + 788) same

    -- the frame couldn't be read
    pub frame-fails : (new : Disk) (fault : ReadFault) → (fault ≡ read.DeviceFault → FailsToReadFrame mid new)
        → (fault ≡ read.NoMemory → LacksFrameMemory mid new)
        → HasNoStructure (fault_of fault) old new
    frame-fails new read.DeviceFault failed lacks = looked-behind new 1 (failed refl)
    frame-fails new read.NoMemory failed lacks = looked-behind new 0 (lacks refl)

    -- a fault was found
    pub frame-faulty : (new : Disk) (code a : ℕ) → FindsFrameFault code a mid new → MeetsDamage old new
    frame-faulty new code a fault = record {
      never = λ honest. accepted honest code a 0
          (of_frame code a (subst (λ (i : Image). IsFrameFault i code a) same (fault.fault (sure honest))));
      looked = looked-behind new 0 fault.looked;
    }

    module _ (index : Index) (bitmap : Bitmap) (now : Disk) (reads : ReadsFrame index bitmap mid now) where
      -- on an honest disk it is the volume's
      is-sound : IsTrue old.honest → HasSoundVolume old.image home
      is-sound honest =
          let sound = (accepted-sound old.image image_is).0 (accepted honest) in
          subst (HasSoundVolume old.image) (home-unique old.image sound.home home sound.volume.framed.home_is (finds.is_home honest))
          sound.volume

      are : IsTrue old.honest → AreOf old.image home index bitmap
      are honest =
          let here = subst (λ (i : Image). AreOf i reads.home index bitmap) same (reads.are (sure honest)) in
          subst (λ (h : HomeFields). AreOf old.image h index bitmap)
          (home-unique old.image reads.home home here.framed.home_is (finds.is_home honest)) here

      -- a block of the bitmap is there twice
      pub not-apart-damage : ¬ ArePlacesApart bitmap.places → MeetsDamage old now
      not-apart-damage not = record {
        never = λ honest. not (subst (λ (b : Bitmap). ArePlacesApart b.places) (sym (are honest).bitmap_is)
            (bitmap-is old.image home (is-sound honest)).0.apart);
        looked = looked-behind now 0 reads.looked;
      }

      -- what is kept was read
      pub opens : (s : Structure) (new : Disk) → home_of s ≡ home → index_in s ≡ index → LoadsBitmap bitmap s.storage now new
          → OpensStructure s old new
      opens s new home_is index_is loads = record {
        is_for = record {
          lies = record {
            index = subst (λ (x : Index). IndexLiesWithin x (length new.image)) (sym index_is)
                (subst (λ (n : ℕ). IndexLiesWithin index n) size reads.lie.index_lies);
            bitmap = loads.is_for.within;
            volume = let on = reads.lie.on_device in let at = ap (λ (b : Bitmap). b.size) loads.bitmap_is in omega (arith, on, at, size);
          };
          sound = λ honest. subst (λ (h : HomeFields). HasSoundVolume new.image h) (sym home_is)
              (subst (λ (i : Image). HasSoundVolume i home) image (is-sound (back honest)));
          keeps = λ honest. record {
            index_is = index_is ∙ (are (back honest)).index_is ∙ ap (λ (i : Image). index_of i home) image
                ∙ ap (index_of new.image) (sym home_is);
            bitmap_is = loads.bitmap_is ∙ (are (back honest)).bitmap_is ∙ ap (λ (i : Image). storage_bitmap i home) image
                ∙ ap (storage_bitmap new.image) (sym home_is);
            storage = loads.is_for.keeps honest;
          };
        };
        looked =
            let all = looked_more (looked_more finds.looked reads.looked) loads.looked in
            let few = reads.lie.few in
            looked_within all (omega (arith, finds.sound.within, few, reads-same));
      }
        where
          image : old.image ≡ new.image
          image = sym same ∙ sym reads.looked.image ∙ sym loads.looked.image

          size : length mid.image ≡ length new.image
          size = ap (λ (i : Image). length i) (sym reads.looked.image ∙ sym loads.looked.image)

          back : IsTrue new.honest → IsTrue old.honest
          back honest = sym finds.looked.honest ∙ sym reads.looked.honest ∙ sym loads.looked.honest ∙ honest

          reads-same : frame_reads mid ≡ frame_reads old
          reads-same = ap (λ (i : Image). candidates (length i) + 788) same
