-- A file that is moved.
use Rattle.std.proofs.Common.{◌≡◌, ◌≢◌, inl, inr, ℕ, ◌+◌, Bool, true, false, if◌then◌else◌, List, [], ◌∷◌, ◌++◌, length, Some}
use Rattle.std.proofs.Common.{refl, sym, ◌∙◌, ap, subst, arith}
use Rattle.std.proofs.lemmas.List.{append_assoc, length-append, take_all}
use Rattle.f11_dev.specs.Disk.{Disk}
use Rattle.f11_dev.specs.Image.{Image}
use Rattle.f11_dev.specs.Looked.{Looked}
use Rattle.f11_dev.specs.Went.{Went, newest}
use Rattle.f11_dev.specs.declared.device.Device.{Ghosts}
use Rattle.f11_dev.proofs.WentLemmas.{went_looked, went_more, went_weaker}
use Rattle.rt11_volume.specs.Entry.{is_same_name}
use Rattle.rt11_volume.specs.Files.{FailsToCreate, HasFile, IsDirectoryFull, IsWithoutSpace, is_fault}
use Rattle.rt11_volume.specs.Laws.{HasGone}
use Rattle.rt11_volume.specs.Named.{files_named}
use Rattle.rt11_volume.specs.Store.{Area, rt_store_of}
use Rattle.rt11_volume.specs.Verifying.Verdict.{IsSoundDisk}
use Rattle.rt11_volume.specs.declared.refusal.RtRefusal.{RtRefusal}
use Rattle.rt11_volume.specs.declared.refusal.RtRefusal.TheVariants as rt
use Rattle.rt11_volume.specs.declared.volume.RtAccepted.{RtAccepted}
use Rattle.rt11_squeeze.specs.Blocks.{FailsToRead, ReadsBlocks, blocks_transfers}
use Rattle.rt11_squeeze.specs.Copying.{Copies, FailsToCopy, HasCopy, copy_transfers}
use Rattle.rt11_squeeze.specs.Kept.{HasBlocksOf, SparesBehind, SparesFiles, volume_disk, volume_store}
use Rattle.rt11_squeeze.specs.Moving.{FailsToMove, IsOnlyFile, Moves, SparesWhile, WasCopied, move_transfers}
use Rattle.rt11_squeeze.specs.Replacing.{FailsToRemove, FailsToTake, Removes, TakesName, naming_transfers, removal_transfers}
use Rattle.rt11_squeeze.specs.Rooms.{areas_listed, room_in}
use Rattle.rt11_squeeze.proofs.BlockLemmas.{sound-looked}
use Rattle.rt11_squeeze.proofs.StandLemmas.{behind-stand, carried-stand, moved-carried, names-apart, names-apart-back, others-carried}

-- what bars a file from being made on a disk bars it on one with the same image, which is sound where that one is
pub create-as : {a b : Disk} (name : List ℕ) (count : ℕ) (e : RtRefusal) → (IsSoundDisk a → IsSoundDisk b) → b.image ≡ a.image
    → FailsToCreate e name count b → FailsToCreate e name count a
create-as name count rt.Failed sound same h = tt
create-as name count rt.NoSuchFile sound same h = h
create-as name count rt.EndOfFile sound same h = h
create-as name count rt.Protected sound same h = h
create-as name count rt.DuplicateName sound same h = λ s. subst (λ (i : Image). HasFile name (rt_store_of i)) same (h (sound s))
create-as name count rt.NoSpace sound same h = λ s. subst (λ (i : Image). IsWithoutSpace name count (rt_store_of i)) same (h (sound s))
create-as name count rt.DirectoryFull sound same h = λ s.
    subst (λ (i : Image). IsDirectoryFull name count (rt_store_of i)) same (h (sound s))
create-as name count rt.NoMemory sound same h = h
create-as name count rt.DeviceFault sound same h = tt

-- a copy is protected where the file was
protected-as : (protected copied : Bool) → copied ≡ false → (if protected then true else copied) ≡ protected
protected-as true copied open-copy = refl
protected-as false copied open-copy = open-copy

-- an image stood that has a copy, where a disk has one that had none before
pub copied-stood : (P Q : Image → Type 0) {a b c : Disk} {m n f g : ℕ} (name scratch : List ℕ) (file copy : Area) → Went P a b m f
    → Went Q b c n g → files_named name (rt_store_of a.image) ≡ file ∷ [] → files_named scratch (rt_store_of a.image) ≡ []
    → files_named scratch (rt_store_of b.image) ≡ copy ∷ [] → copy.contents ≡ file.contents → WasCopied name scratch a c
copied-stood P Q {a = a} {b = b} {c = c} name scratch file copy first next was none one same =
    by first.since first.history first.image
  where
    by : (since : List Image) → b.history ≡ since ++ a.history → b.image ≡ newest since a.image → WasCopied name scratch a c
    by [] history image =
        let clash : copy ∷ [] ≡ [] =
        sym one ∙ ap (λ (i : Image). files_named scratch (rt_store_of i)) image ∙ none in absurd (cc)
    by (last ∷ earlier) history image = record {
      image = last;
      later = next.since;
      earlier = earlier;
      history = next.history ∙ ap (λ (h : List Image). next.since ++ h) history;
      file = file;
      copy = copy;
      was = was;
      copied = ap (λ (i : Image). files_named scratch (rt_store_of i)) (sym image) ∙ one;
      blocks_are = same;
    }

-- the image at the end is the last that stood
pub stood-last : (P : Image → Type 0) {a b : Disk} {m f : ℕ} (name scratch : List ℕ) → Went P a b m f → WasCopied name scratch a b
    → (before : List Image) × (b.history ≡ b.image ∷ before)
stood-last P {a = a} {b = b} name scratch went w = by went.since went.history went.image
  where
    by : (since : List Image) → b.history ≡ since ++ a.history → b.image ≡ newest since a.image
        → (before : List Image) × (b.history ≡ b.image ∷ before)
    by [] history image =
        let same : length a.history ≡ length (w.later ++ (w.image ∷ (w.earlier ++ a.history))) =
        ap (λ (h : List Image). length h) (sym history ∙ w.history) in
        let one = length-append w.later (w.image ∷ (w.earlier ++ a.history)) in
        let two = length-append w.earlier a.history in
        absurd (omega (arith, same, one, two))
    by (last ∷ earlier) history image = (earlier ++ a.history, history ∙ ap (λ (i : Image). i ∷ (earlier ++ a.history)) (sym image))

-- it stood where more was done behind
pub copied-then : (Q : Image → Type 0) {a b c : Disk} {n g : ℕ} (name scratch : List ℕ) → WasCopied name scratch a b → Went Q b c n g
    → WasCopied name scratch a c
copied-then Q name scratch w next = record {
  image = w.image;
  later = next.since ++ w.later;
  earlier = w.earlier;
  history = next.history ∙ ap (λ (h : List Image). next.since ++ h) w.history ∙ sym (append_assoc next.since w.later _);
  file = w.file;
  copy = w.copy;
  was = w.was;
  copied = w.copied;
  blocks_are = w.blocks_are;
}

-- and where the disk was looked at before
pub copied-behind : {a b c : Disk} {n g : ℕ} (name scratch : List ℕ) → Looked a b n g → WasCopied name scratch b c
    → WasCopied name scratch a c
copied-behind name scratch looked w = record {
  image = w.image;
  later = w.later;
  earlier = w.earlier;
  history = w.history ∙ ap (λ (h : List Image). w.later ++ (w.image ∷ (w.earlier ++ h))) looked.history;
  file = w.file;
  copy = w.copy;
  was = ap (λ (i : Image). files_named name (rt_store_of i)) (sym looked.image) ∙ w.was;
  copied = w.copied;
  blocks_are = w.blocks_are;
}

module _ {D : Type 0} {met : Ghosts D} (disk : D → Disk) (name scratch : List ℕ) (count day : ℕ) (protected : Bool)
    (old : RtAccepted D met) where
  abbrev pub Spares : Image → Type 0
  Spares = SparesWhile name count protected (volume_disk disk old)

  -- its blocks weren't read
  pub move-unread : (e : RtRefusal) (faults : ℕ) (new : RtAccepted D met)
      → Looked (volume_disk disk old) (volume_disk disk new) (blocks_transfers count) faults
      → FailsToRead name count e (volume_disk disk old)
      → FailsToMove name scratch count protected e (volume_disk disk old) (volume_disk disk new)
  move-unread e faults new looked fails = record {
    fresh = fails.fresh;
    why = λ s only none.
        inl (fails.why s (record { file = only.file; more = []; named = only.named; few = omega (arith, only.count_is) }) none);
    stays = λ s only none. looked.image;
  }

  module _ (blocks : List (List ℕ)) (read : RtAccepted D met)
      (looked : Looked (volume_disk disk old) (volume_disk disk read) (blocks_transfers count) 0)
      (reads : ReadsBlocks name count blocks (volume_disk disk old)) where
    -- no copy was made
    pub move-uncopied : (e : RtRefusal) (new : RtAccepted D met)
        → FailsToCopy scratch count e (volume_disk disk read) (volume_disk disk new)
        → FailsToMove name scratch count protected e (volume_disk disk old) (volume_disk disk new)
    move-uncopied e new fails = record {
      fresh = fails.fresh;
      why = λ s only none. inr (create-as scratch count e (sound-looked looked) looked.image (fails.why (sound-looked looked s) none));
      stays = λ s only none. fails.stays (sound-looked looked s) none ∙ looked.image;
    }

    copy-spares : (image : Image) → SparesFiles (volume_disk disk read) image → Spares image
    copy-spares image spares only s =
        subst (λ (i : Image). HasBlocksOf (rt_store_of i) image) looked.image (spares (sound-looked looked s))

    pub copied-went : (faults : ℕ) (new : RtAccepted D met)
        → Went (SparesFiles (volume_disk disk read)) (volume_disk disk read) (volume_disk disk new) (copy_transfers count) faults
        → Went Spares (volume_disk disk old) (volume_disk disk new) (blocks_transfers count + copy_transfers count) faults
    copied-went faults new went =
        went_more Spares (went_looked Spares looked) (went_weaker (SparesFiles (volume_disk disk read)) Spares copy-spares went)

    module _ (copied : RtAccepted D met) (copies : Copies scratch day blocks (volume_disk disk read) (volume_disk disk copied)) where
      copied-sound : IsSoundDisk (volume_disk disk old) → IsSoundDisk (volume_disk disk copied)
      copied-sound s = copies.sound (sound-looked looked s)

      has-copy : IsSoundDisk (volume_disk disk old) → HasCopy scratch day blocks (volume_store disk old) (volume_store disk copied)
      has-copy s =
          subst (λ (i : Image). HasCopy scratch day blocks (rt_store_of i) (volume_store disk copied)) looked.image
          (copies.copy (sound-looked looked s))

      removal-spares : (image : Image) → SparesBehind (volume_disk disk copied) image → Spares image
      removal-spares image spares only s =
          let c = has-copy s in
          carried-stand (volume_store disk old) (volume_store disk copied) image
          (others-carried scratch (volume_store disk old) (volume_store disk copied) c.none c.others)
          (behind-stand (volume_disk disk copied).image image (copied-sound s).accepted (spares (copied-sound s)))

      -- the file is there still
      still-named : IsSoundDisk (volume_disk disk old) → (only : IsOnlyFile name count protected (volume_store disk old))
          → files_named name (volume_store disk copied) ≡ only.file ∷ []
      still-named s only =
          let c = has-copy s in
          c.others name (names-apart scratch name (volume_store disk old) only.file [] c.none only.named) ∙ only.named

      pub move-unremoved : (e : RtRefusal) (new : RtAccepted D met) → FailsToRemove name protected e (volume_disk disk copied)
          → FailsToMove name scratch count protected e (volume_disk disk old) (volume_disk disk new)
      move-unremoved e new fails = record {
        fresh = fails.fresh;
        why = λ s only none. absurd (never s only none);
        stays = λ s only none. absurd (never s only none);
      }
        where
          never : IsSoundDisk (volume_disk disk old) → IsOnlyFile name count protected (volume_store disk old) → is_fault e ≢ false
          never s only =
              fails.why (copied-sound s)
              (record { file = only.file; more = []; named = still-named s only; protected_is = only.protected_is })

      module _ (went : Went Spares (volume_disk disk old) (volume_disk disk copied) (blocks_transfers count + copy_transfers count) 0) where
        pub removed-went : (faults : ℕ) (new : RtAccepted D met)
            → Went (SparesBehind (volume_disk disk copied)) (volume_disk disk copied) (volume_disk disk new) removal_transfers faults
            → Went Spares (volume_disk disk old) (volume_disk disk new)
            (blocks_transfers count + copy_transfers count + removal_transfers) faults
        removed-went faults new more =
            went_more Spares went (went_weaker (SparesBehind (volume_disk disk copied)) Spares removal-spares more)

        module _ (gone : RtAccepted D met) (removes : Removes name (volume_disk disk copied) (volume_disk disk gone)) where
          gone-sound : IsSoundDisk (volume_disk disk old) → IsSoundDisk (volume_disk disk gone)
          gone-sound s = removes.sound (copied-sound s)

          module _ (s : IsSoundDisk (volume_disk disk old)) (only : IsOnlyFile name count protected (volume_store disk old)) where
            has-gone : HasGone name (volume_store disk copied) (volume_store disk gone)
            has-gone = removes.gone (copied-sound s)

            none-left : files_named name (volume_store disk gone) ≡ []
            none-left =
                let same : only.file ∷ [] ≡ has-gone.file ∷ files_named name (volume_store disk gone) =
                sym (still-named s only) ∙ has-gone.was in cc

            copy-there : files_named scratch (volume_store disk gone) ≡ (has-copy s).file ∷ []
            copy-there =
                has-gone.others scratch
                (names-apart-back scratch name (volume_store disk old) only.file [] (has-copy s).none only.named) ∙ (has-copy s).one

            others-there : (third : List ℕ) → is_same_name name third ≡ false → is_same_name scratch third ≡ false
                → files_named third (volume_store disk gone) ≡ files_named third (volume_store disk old)
            others-there third one two = has-gone.others third one ∙ (has-copy s).others third two

            same-blocks : (has-copy s).file.contents ≡ only.file.contents
            same-blocks =
                (has-copy s).blocks_are ∙ sym (reads.begins s only.file [] only.named)
                ∙ take_all (length blocks) only.file.contents (omega (arith, reads.count_is, only.count_is))

          naming-spares : (image : Image) → SparesBehind (volume_disk disk gone) image → Spares image
          naming-spares image spares only s =
              carried-stand (volume_store disk old) (volume_store disk gone) image
              (moved-carried name scratch only.file (has-copy s).file (volume_store disk old) (volume_store disk gone) only.named
              (has-copy s).none (copy-there s only) (same-blocks s only) (others-there s only))
              (behind-stand (volume_disk disk gone).image image (gone-sound s).accepted (spares (gone-sound s)))

          pub moved-went : (faults : ℕ) (new : RtAccepted D met)
              → Went Spares (volume_disk disk old) (volume_disk disk gone)
              (blocks_transfers count + copy_transfers count + removal_transfers) 0
              → Went (SparesBehind (volume_disk disk gone)) (volume_disk disk gone) (volume_disk disk new) naming_transfers faults
              → Went Spares (volume_disk disk old) (volume_disk disk new) (move_transfers count) faults
          moved-went faults new first more =
              went_more Spares first (went_weaker (SparesBehind (volume_disk disk gone)) Spares naming-spares more)

          pub move-unnamed : (e : RtRefusal) (new : RtAccepted D met) → FailsToTake scratch name e (volume_disk disk gone)
              → FailsToMove name scratch count protected e (volume_disk disk old) (volume_disk disk new)
          move-unnamed e new fails = record {
            fresh = fails.fresh;
            why = λ s only none. absurd (never s only none);
            stays = λ s only none. absurd (never s only none);
          }
            where
              never : IsSoundDisk (volume_disk disk old) → IsOnlyFile name count protected (volume_store disk old) → is_fault e ≢ false
              never s only =
                  fails.why (gone-sound s)
                  (record { file = (has-copy s).file; more = []; named = copy-there s only; none = none-left s only })

          pub moves : (faults : ℕ) (new : RtAccepted D met)
              → Went (SparesBehind (volume_disk disk copied)) (volume_disk disk copied) (volume_disk disk gone) removal_transfers 0
              → Went (SparesBehind (volume_disk disk gone)) (volume_disk disk gone) (volume_disk disk new) naming_transfers faults
              → TakesName scratch name protected (volume_disk disk gone) (volume_disk disk new)
              → Moves name scratch count day protected (volume_disk disk old) (volume_disk disk new)
          moves faults new removal naming takes = record {
            sound = λ s. takes.sound (gone-sound s);
            copied = λ s only.
                copied-then (SparesBehind (volume_disk disk gone)) name scratch
                (copied-stood Spares (SparesBehind (volume_disk disk copied)) name scratch only.file (has-copy s).file went removal
                only.named (has-copy s).none (has-copy s).one (same-blocks s only)) naming;
            moved = λ s only.
                let c = has-copy s in
                let t = takes.taken (gone-sound s) in
                let same : c.file ∷ [] ≡ t.file ∷ files_named scratch (volume_store disk new) = sym (copy-there s only) ∙ t.was in
                let same-file : t.file ≡ c.file = cc in
                let date : t.file.date ≡ day = ap (λ (f : Area). f.date) same-file ∙ c.date_is in
                let open-copy : t.file.protected ≡ false = ap (λ (f : Area). f.protected) same-file ∙ c.unprotected in
                let on = protected-as protected t.file.protected open-copy ∙ sym only.protected_is in
                let contents : t.file.contents ≡ only.file.contents =
                ap (λ (f : Area). f.contents) same-file ∙ same-blocks s only in
                record {
                  file = only.file;
                  moved = record t.file { name = name; protected = if protected then true else t.file.protected };
                  was = only.named;
                  is = t.is;
                  facts = λ i. record { date = date i; protected = on i; blocks = contents i };
                  place = ap (room_in (areas_listed (volume_store disk old))) (only.count_is ∙ sym reads.count_is) ∙ c.place
                      ∙ ap (λ (f : Area). Some f.start) (sym same-file);
                  unused = c.none;
                  unused_still = cc;
                  others = λ third one two. t.others third two one ∙ others-there s only third one two;
                };
          }
