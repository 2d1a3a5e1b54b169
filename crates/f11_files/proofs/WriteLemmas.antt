-- What is kept of an open volume, where blocks are written.
use Rattle.std.proofs.Common.{◌≡◌, ◌≢◌, ◌+◌, ◌≤◌, ◌||◌, ℕ, Bool, true, false, cond, IsTrue, List, Option, None, length, eqb, refl, sym, ap}
use Rattle.std.proofs.Common.{subst, ◌∙◌, arith}
use Rattle.f11_bits.specs.Bitmap.{Bitmap, KeepsBitmap}
use Rattle.f11_bits.specs.Storage.{Keeps}
use Rattle.f11_bits.proofs.LawLemmas.{Keeps-kept}
use Rattle.f11_dev.specs.Disk.{Disk}
use Rattle.f11_dev.specs.Image.{Image}
use Rattle.f11_dev.specs.Looked.{Looked}
use Rattle.f11_dev.specs.Went.{Went}
use Rattle.f11_dev.proofs.LookedLemmas.{looked_none}
use Rattle.f11_dev.proofs.WentLemmas.{went_looked, went_more, went_weaker, went_last}
use Rattle.f11_home.specs.Home.{HomeFields}
use Rattle.f11_store.specs.Causes.{Cause, first_of}
use Rattle.f11_store.specs.Lags.{Work, work_if}
use Rattle.f11_store.specs.Refusal.{refusal_number}
use Rattle.f11_store.specs.declared.refusals.Refusal.{Refusal}
use Rattle.f11_store.specs.declared.refusals.Refusal.TheVariants.{VolumeFailed}
use Rattle.f11_volume.specs.Sound.{HasSoundVolume}
use Rattle.f11_volume.specs.Space.{storage_bitmap}
use Rattle.f11_writes.specs.Kept.{KeepsVolume}
use Rattle.f11_files.specs.Answers.{ReadsAtMost, WritesAtMost, FailsOrWants, FailsToRead, FailsToWrite, IsRight, IsUnderWay, Meanwhile}
use Rattle.f11_files.specs.Answers.{is_fatal, faults_of}
use Rattle.f11_files.specs.Structure.{home_of, FitsOn, IsStructureOf, IsStructureFor, StaysFor}
use Rattle.f11_files.specs.declared.structure.Structure.{Structure}

-- where the storage bitmap's blocks stay, so does what is kept of it
pub keeps-storage : (s : Structure) (old new : Image) → KeepsBitmap (storage_bitmap old (home_of s)) old new → IsStructureOf s old
    → Keeps s.storage new
keeps-storage s old new stay keeps =
    Keeps-kept s.storage old new (subst (λ (b : Bitmap). KeepsBitmap b old new) (sym keeps.bitmap_is) stay) keeps.storage

-- where headers, storage bitmap and free blocks stay, so does what is kept
pub keeps-volume : (s : Structure) (old new : Image) → KeepsVolume (home_of s) old new → IsStructureOf s old → IsStructureOf s new
keeps-volume s old new kept keeps = record {
  index_is = keeps.index_is ∙ sym kept.index_file.index;
  bitmap_is = keeps.bitmap_is ∙ sym kept.bitmap;
  storage = keeps-storage s old new kept.bitmap_blocks keeps;
}

-- a volume that was sound at each moment is sound at the end
pub sound-went : (work : Work) (home : HomeFields) (old new : Disk) {most faults : ℕ} → (IsTrue old.honest → HasSoundVolume old.image home)
    → Went (Meanwhile work home old) old new most faults
    → IsTrue new.honest → HasSoundVolume new.image home
sound-went work home old new sound went honest =
    let P : Image → Type 0 = λ image. IsTrue old.honest → HasSoundVolume image home in
    went_last P (went_weaker (Meanwhile work home old) P (λ image under sure. (under sure).sound) went) sound (sym went.honest ∙ honest)

-- where a call has failed the volume, no more is said of what is kept
pub failed-stays : (s t : Structure) (work : Work) (old new : Disk) {most faults : ℕ} → IsStructureFor s old → home_of t ≡ home_of s
    → Went (Meanwhile work (home_of s) old) old new most faults → StaysFor true s t new
failed-stays s t work old new for home went = record {
  home = home;
  lies = λ not. absurd cc;
  sound = λ honest. subst (HasSoundVolume new.image) (sym home) (sound-went work (home_of s) old new for.sound went honest);
  keeps = λ not. absurd cc;
}

-- where what is kept is the image's, the volume stays open
pub served-stays : (s : Structure) (work : Work) (old new : Disk) {most faults : ℕ} (failed : Bool) → IsStructureFor s old
    → Went (Meanwhile work (home_of s) old) old new most faults
    → (IsTrue old.honest → IsStructureOf s new.image) → StaysFor failed s s new
served-stays s work old new failed for went keeps = record {
  home = refl;
  lies = λ _. subst (λ (n : ℕ). FitsOn s n) (sym went.size) for.lies;
  sound = sound-went work (home_of s) old new for.sound went;
  keeps = λ _ honest. keeps (sym went.honest ∙ honest);
}

-- and where it was only read
pub looked-stays : (s : Structure) (failed : Bool) (old new : Disk) {most faults : ℕ} → IsStructureFor s old → Looked old new most faults
    → StaysFor failed s s new
looked-stays s failed old new for looked = record {
  home = refl;
  lies = λ _. subst (λ (i : Image). FitsOn s (length i)) (sym looked.image) for.lies;
  sound = λ honest. subst (λ (i : Image). HasSoundVolume i (home_of s)) (sym looked.image) (for.sound (sym looked.honest ∙ honest));
  keeps = λ _ honest. subst (IsStructureOf s) (sym looked.image) (for.keeps (sym looked.honest ∙ honest));
}

-- blocks were read, and then written
pub writes-behind : {P : Image → Type 0} {a b c : Disk} {m n faults : ℕ} → ReadsAtMost m a b 0 → Went P b c n faults
    → WritesAtMost P (m + n) a c faults
writes-behind {P = P} {n = n} reads went = record {
  transfers = reads.reads + n;
  went = went_more P (went_looked P reads.looked) went;
  few = λ honest. let few = reads.few honest in omega (arith, few);
}

-- fewer than may be
pub writes-within : {P : Image → Type 0} {a b : Disk} {m n faults : ℕ} → m ≤ n → WritesAtMost P m a b faults → WritesAtMost P n a b faults
writes-within fewer writes =
    record { transfers = writes.transfers; went = writes.went; few = λ honest. let few = writes.few honest in omega (arith, few, fewer) }

-- where there was no cause against a call, the work that is under way is its own
pub unless-refused : (causes : List Cause) (work : Work) (home : HomeFields) (old : Disk) → (IsTrue old.honest → first_of causes ≡ None)
    → (image : Image) → Meanwhile work home old image → Meanwhile (work_if (first_of causes) work) home old image
unless-refused causes work home old none image is honest =
    subst (λ (o : Option Refusal). IsUnderWay (work_if o work) home old.image image) (sym (none honest)) (is honest)

-- a call against which there was no cause broke off
pub breaks-off : {causes : List Cause} {m : ℕ} {work : Work} {home : HomeFields} {r : Refusal} {old new : Disk}
    → (IsTrue old.honest → first_of causes ≡ None) → is_fatal r ≡ true
    → IsRight false old.honest causes r → WritesAtMost (Meanwhile work home old) m old new (faults_of r)
    → FailsToWrite false causes m work home r old new
breaks-off {causes = causes} {work = work} {home = home} {old = old} none fatal right writes = record {
  right = right;
  writes = record {
    transfers = writes.transfers;
    went = went_weaker (Meanwhile work home old) (Meanwhile (work_if (first_of causes) work) home old)
        (unless-refused causes work home old none) writes.went;
    few = writes.few;
  };
  unchanged = λ clean. let no : true ≡ false = sym fatal ∙ clean in absurd cc;
}

-- a refusal to read is one to write
pub fails-unread : {causes : List Cause} {m n : ℕ} {work : Work} {home : HomeFields} {r : Refusal} {old new : Disk} → m ≤ n
    → FailsToRead false causes m r old new → FailsToWrite false causes n work home r old new
fails-unread {causes = causes} {work = work} {home = home} {r = r} {old = old} {new = new} fewer fails = record {
  right = fails.right;
  writes = record {
    transfers = fails.reads.reads;
    went = went_looked (Meanwhile (work_if (first_of causes) work) home old) fails.reads.looked;
    few = λ honest. let few = fails.reads.few honest in omega (arith, few, fewer);
  };
  unchanged = λ clean. record {
    reads = fails.reads.reads;
    looked = subst (λ (n : ℕ). Looked old new fails.reads.reads n) (no-fault r clean) fails.reads.looked;
    few = λ honest. let few = fails.reads.few honest in omega (arith, few, fewer);
  };
}
  where
    no-fault : (r : Refusal) → is_fatal r ≡ false → faults_of r ≡ 0
    no-fault r clean = go (eqb (refusal_number r) 19) (eqb (refusal_number r) 20) clean
      where
        go : (a b : Bool) → (a || b) ≡ false → ◌≡◌ {A = ℕ} (cond a 1 0) 0
        go true b out = absurd cc
        go false b out = refl

-- the volume had failed, and nothing is done
pub had-failed : {failed : Bool} {causes : List Cause} {n : ℕ} {work : Work} {home : HomeFields} (old : Disk) → failed ≡ true
    → FailsToWrite failed causes n work home VolumeFailed old old
had-failed {causes = causes} {work = work} {home = home} old is = record {
  right = record {
    volume = λ _. is;
    among = λ is. absurd cc;
    cause = λ _ is. absurd cc;
    undamaged = λ _ same. let no : 1 ≡ 20 =
        ap refusal_number same in omega (arith, no);
  };
  writes = record {
    transfers = 0;
    went = went_looked (Meanwhile (work_if (first_of causes) work) home old) (looked_none old);
    few = λ _. omega arith;
  };
  unchanged = λ _. record { reads = 0; looked = looked_none old; few = λ _. omega arith };
}

-- a refusal to write that isn't for want of memory, of a call that may want it
pub as-wanting : {takes failed : Bool} {causes : List Cause} {most : ℕ} {work : Work} {home : HomeFields} {r : Refusal} {old new : Disk}
    → refusal_number r ≢ 18
    → FailsToWrite failed causes most work home r old new → FailsOrWants takes failed causes most work home r old new
as-wanting other fails =
    record {
      right = λ _. fails.right;
      wanting = λ is. absurd (other (ap refusal_number is));
      writes = fails.writes;
      unchanged = fails.unchanged;
    }
