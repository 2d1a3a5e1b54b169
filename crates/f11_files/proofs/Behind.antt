-- What a call does where blocks were read before it.
use Rattle.std.proofs.Common.{◌≡◌, ◌+◌, ◌≤◌, ◌&&◌, ◌||◌, ℕ, zero, suc, Bool, true, false, not, IsTrue, List, [], Option, None, Result, Ok}
use Rattle.std.proofs.Common.{Err, ltb, eqb, sym, ap, subst, ◌∙◌, arith}
use Rattle.std.specs.Prelude.{IsErrAnd}
use Rattle.f11_dev.specs.Disk.{Disk}
use Rattle.f11_dev.specs.Image.{Image}
use Rattle.f11_dev.proofs.WentLemmas.{went_looked, went_more, went_weaker}
use Rattle.f11_home.specs.Home.{HomeFields}
use Rattle.f11_index.specs.Headers.{headers_of}
use Rattle.f11_index.specs.Table.{table_of, IsFile}
use Rattle.f11_store.specs.Causes.{Cause, first_of}
use Rattle.f11_store.specs.Changes.{is_in}
use Rattle.f11_store.specs.Lags.{Work, work_if}
use Rattle.f11_store.specs.Pieces.{file_numbered}
use Rattle.f11_store.specs.Store.{Store}
use Rattle.f11_store.specs.declared.refusals.Refusal.{Refusal}
use Rattle.f11_volume.specs.Sound.{HasSoundVolume}
use Rattle.f11_volume.specs.Volume.{Volume, volume_of}
use Rattle.f11_image_store.specs.StoreOf.{store_of}
use Rattle.f11_files.specs.Answers.{Does, FailsOrWants, FailsToRead, IsRight, IsUnderWay, Meanwhile, ReadsAtMost}
use Rattle.f11_files.specs.Answers.{WritesAtMost, WritesMoreOf, is_among, is_fatal, is_refused}
use Rattle.f11_image_store.specs.Allocation.{free_list}
use Rattle.f11_image_store.specs.Confines.{either, new_header, no_header}
use Rattle.f11_files.specs.Confined.{ConfinesInOrder}
use Rattle.f11_files.specs.Structure.{bitmap_in, home_of, index_in, ConfinesTo, IsStructureFor, StaysFor}
use Rattle.f11_files.specs.GrowingIndex.Headroom.{ConfinesSlots}
use Rattle.f11_bits.specs.Bitmap.{Bitmap}
use Rattle.f11_dev.specs.Looked.{Looked}
use Rattle.f11_index.specs.IndexFile.{Index, index_of}
use Rattle.f11_volume.specs.Space.{storage_bitmap}
use Rattle.f11_files.proofs.Confining.Confines.{confines-looked, confines-then}
use Rattle.f11_files.specs.declared.structure.Structure.{Structure}
use Rattle.f11_files.proofs.AnswerLemmas.{reads-more, reads-within}
use Rattle.f11_files.proofs.Confining.Parts.{parts-looked, stands-same, stands-within, to-parts, to-then}
use Rattle.f11_files.proofs.Finding.Named.{numbered-holds}
use Rattle.f11_files.proofs.WriteLemmas.{as-wanting, fails-unread, writes-within}

-- a fault is right whatever the causes
pub right-anyway : {failed honest : Bool} {causes : List Cause} {r : Refusal} → IsRight failed honest [] r → IsRight failed honest causes r
right-anyway right = record {
  volume = right.volume;
  among = λ is. let no : false ≡ true = right.among is in absurd cc;
  cause = λ _ is. let no : false ≡ true = right.among is in absurd cc;
  undamaged = right.undamaged;
}

pub fails-anyway : {failed : Bool} {causes : List Cause} {most : ℕ} {r : Refusal} {old new : Disk} → FailsToRead failed [] most r old new
    → FailsToRead failed causes most r old new
fails-anyway fails = record { right = right-anyway fails.right; reads = fails.reads }

module _ {m : ℕ} {a b : Disk} (reads : ReadsAtMost m a b 0) (home : HomeFields) where
  -- the image is the same
  pub image-read : b.image ≡ a.image
  image-read = reads.looked.image

  pub honest-read : b.honest ≡ a.honest
  honest-read = reads.looked.honest

  pub store-read : store_of b.image home ≡ store_of a.image home
  store-read = ap (λ (i : Image). store_of i home) image-read

  moment-behind : (work : Work) (image : Image) → Meanwhile work home b image → Meanwhile work home a image
  moment-behind work image is honest = subst (λ (i : Image). IsUnderWay work home i image) image-read (is (honest-read ∙ honest))

  -- writes behind it
  pub writes-read : {work : Work} {n faults : ℕ} {c : Disk} → WritesAtMost (Meanwhile work home b) n b c faults
      → WritesAtMost (Meanwhile work home a) (m + n) a c faults
  writes-read {work = work} writes = record {
    transfers = reads.reads + writes.transfers;
    went = went_more (Meanwhile work home a) (went_looked (Meanwhile work home a) reads.looked)
        (went_weaker (Meanwhile work home b) (Meanwhile work home a) (moment-behind work) writes.went);
    few = λ honest. let one = reads.few honest in let two = writes.few (honest-read ∙ honest) in omega (arith, one, two);
  }

  pub does-read : {causes : List Cause} {work : Work} {n : ℕ} {Makes : Store → Type 0} {Allots : Volume → Volume → Type 0} {c : Disk}
      → Does causes work n Makes Allots home b c
      → Does causes work (m + n) Makes Allots home a c
  does-read {Allots = Allots} {c = c} does = record {
    no_cause = λ honest. does.no_cause (honest-read ∙ honest);
    makes = λ honest. does.makes (honest-read ∙ honest);
    allots = λ honest. subst (λ (i : Image). Allots (volume_of i home) (volume_of c.image home)) image-read
        (does.allots (honest-read ∙ honest));
    writes = writes-read does.writes;
  }

  right-read : {failed : Bool} {causes : List Cause} {r : Refusal} → IsRight failed b.honest causes r → IsRight failed a.honest causes r
  right-read {failed = failed} {causes = causes} {r = r} right = subst (λ (honest : Bool). IsRight failed honest causes r) honest-read right

  pub wants-read : {takes failed : Bool} {causes : List Cause} {work : Work} {n : ℕ} {r : Refusal} {c : Disk}
      → FailsOrWants takes failed causes n work home r b c
      → FailsOrWants takes failed causes (m + n) work home r a c
  wants-read fails = record {
    right = λ other. right-read (fails.right other);
    wanting = λ is. let wants = fails.wanting is in (wants.0, λ honest. wants.1 (honest-read ∙ honest));
    writes = writes-read fails.writes;
    unchanged = λ clean. reads-more reads (fails.unchanged clean);
  }

  -- headers of a file, new ones, and free blocks alone are written
  pub confined-read : (s : Structure) (f : ℕ) {c : Disk} → home_of s ≡ home
      → (IsTrue b.honest → ConfinesTo s (either (is_in (headers_of (table_of b.image home) f)) (new_header (index_in s)))
      (free_list (volume_of b.image home)) b c) → IsTrue a.honest
      → ConfinesTo s (either (is_in (headers_of (table_of a.image home) f)) (new_header (index_in s))) (free_list (volume_of a.image home))
      a c
  confined-read s f {c = c} at one honest =
      let all = either (is_in (headers_of (table_of a.image home) f)) (new_header (index_in s)) in
      let free = free_list (volume_of a.image home) in
      to-then s s all all free free (stands-within s s all all free (λ n is. is) (stands-same s)) (λ l out. out)
      (to-parts s all all free (λ n is. is) (parts-looked s all reads.looked))
      (subst (λ (i : Image). ConfinesTo s (either (is_in (headers_of (table_of i home) f)) (new_header (index_in s)))
      (free_list (volume_of i home)) b c) image-read (one (honest-read ∙ honest)))

-- more transfers may be
pub wants-within : {takes failed : Bool} {causes : List Cause} {work : Work} {m n : ℕ} {home : HomeFields} {r : Refusal} {a b : Disk}
    → m ≤ n → FailsOrWants takes failed causes m work home r a b
    → FailsOrWants takes failed causes n work home r a b
wants-within few fails =
    record {
      right = fails.right;
      wanting = fails.wanting;
      writes = writes-within few fails.writes;
      unchanged = λ clean.
          reads-within few (fails.unchanged clean);
    }

-- a refusal without a cause is one against a call against which there is none
pub wants-for : {takes : Bool} {causes : List Cause} {work : Work} {n : ℕ} {home : HomeFields} {r : Refusal} {a b : Disk}
    → (IsTrue a.honest → first_of causes ≡ None) → FailsOrWants takes false [] n work home r a b
    → FailsOrWants takes false causes n work home r a b
wants-for {causes = causes} {work = work} {home = home} {a = a} none fails = record {
  right = λ other. right-anyway (fails.right other);
  wanting = λ is. let wants = fails.wanting is in (wants.0, λ honest. (none honest, (wants.1 honest).1));
  writes = record {
    transfers = fails.writes.transfers;
    went = went_weaker (Meanwhile work home a) (Meanwhile (work_if (first_of causes) work) home a)
        (λ image is honest. subst (λ (x : Option Refusal). IsUnderWay (work_if x work) home a.image image) (sym (none honest)) (is honest))
        fails.writes.went;
    few = fails.writes.few;
  };
  unchanged = fails.unchanged;
}

-- a refusal without a cause: nothing was written
pub unread-wants : {takes : Bool} {causes : List Cause} {work : Work} {m n : ℕ} {home : HomeFields} {r : Refusal} {a b : Disk} → m ≤ n
    → FailsToRead false [] m r a b → FailsOrWants takes false causes n work home r a b
unread-wants {r = r} few fails =
    as-wanting (λ is. let no : false ≡ true = fails.right.among (ap (λ (k : ℕ). ltb 1 k && not (eqb k 19 || eqb k 20)) is) in absurd cc)
    (fails-unread few (fails-anyway fails))

-- what a structure is for after a refusal that is handed on
pub stays-handed : {T : Type 0} (result : Result T Refusal) (r : Refusal) (s t : Structure) (disk : Disk) → IsErrAnd result (λ y. y ≡ r)
    → StaysFor (is_fatal r) s t disk → StaysFor (is_refused is_fatal result) s t disk
stays-handed (Ok x) r s t disk is stays = absurd is
stays-handed (Err y) r s t disk is stays = subst (λ (z : Refusal). StaysFor (is_fatal z) s t disk) (sym is) stays

-- one refusal of a call is one of another, which does so too where the disk is honest
pub wants-as : {takes also failed : Bool} {causes others : List Cause} {work works : Work} {m k : ℕ} {home : HomeFields} {r : Refusal}
    {a b : Disk} → (is_among causes r ≡ true → is_among others r ≡ true)
    → (IsTrue a.honest → first_of others ≡ first_of causes) → (IsTrue a.honest → also ≡ takes) → (IsTrue a.honest → works ≡ work)
    → (IsTrue a.honest → m ≤ k) → FailsOrWants takes failed causes m work home r a b
    → FailsOrWants also failed others k works home r a b
wants-as {causes = causes} {others = others} {work = work} {works = works} {home = home} {a = a} more first memory same within fails =
    record {
      right = λ other. let right = fails.right other in
          record {
            volume = right.volume;
            among = λ is. more (right.among is);
            cause = λ honest is. first honest ∙ right.cause honest is;
            undamaged = right.undamaged;
          };
      wanting = λ is. let wants = fails.wanting is in
          (wants.0, λ honest. (first honest ∙ (wants.1 honest).0, memory honest ∙ (wants.1 honest).1));
      writes = record {
        transfers = fails.writes.transfers;
        went = went_weaker (Meanwhile (work_if (first_of causes) work) home a) (Meanwhile (work_if (first_of others) works) home a)
            (λ image is honest. subst (λ (x : Option Refusal). IsUnderWay (work_if x works) home a.image image) (sym (first honest))
            (subst (λ (w : Work). IsUnderWay (work_if (first_of causes) w) home a.image image) (sym (same honest)) (is honest)))
            fails.writes.went;
        few = λ honest. let few = fails.writes.few honest in let more = within honest in omega (arith, few, more);
      };
      unchanged = λ clean. let reads = fails.unchanged clean in
          record {
            reads = reads.reads;
            looked = reads.looked;
            few = λ honest. let few = reads.few honest in let more = within honest in
                omega (arith, few, more);
          };
    }

-- blocks are changed behind those that were read
confines-behind : (headers : ℕ → Bool) (index : Index) (bitmap : Bitmap) (others : List ℕ) {a b c : Disk} {most faults : ℕ}
    → Looked a b most faults → ConfinesInOrder headers index bitmap others b c → ConfinesInOrder headers index bitmap others a c
confines-behind headers index bitmap others looked two =
    confines-then headers headers index index bitmap bitmap others others (λ l none out. none) (λ l out. out)
    (confines-looked headers index bitmap others looked) two

pub slots-behind : (k : ℕ) (home : HomeFields) (a b c : Disk) {most faults : ℕ} → Looked a b most faults → ConfinesSlots k home b c
    → ConfinesSlots k home a c
slots-behind zero home a b c looked two = λ honest.
    confines-behind no_header (index_of a.image home) (storage_bitmap a.image home) [] looked
    (subst (λ (i : Image). ConfinesInOrder no_header (index_of i home) (storage_bitmap i home) [] b c) looked.image
    (two (looked.honest ∙ honest)))
slots-behind (suc n) home a b c looked two = λ honest.
    confines-behind (either (is_in (file_numbered (store_of a.image home) 1).held) (new_header (index_of a.image home)))
    (index_of a.image home)
    (storage_bitmap a.image home) (free_list (volume_of a.image home)) looked
    (subst (λ (i : Image). ConfinesInOrder (either (is_in (file_numbered (store_of i home) 1).held) (new_header (index_of i home)))
    (index_of i home)
    (storage_bitmap i home) (free_list (volume_of i home)) b c) looked.image (two (looked.honest ∙ honest)))

-- what is kept of an image tells which blocks are changed
pub more-of : (t : Structure) (home : HomeFields) (f : ℕ) (a b : Disk) → home_of t ≡ home → IsStructureFor t a
    → (IsTrue a.honest → IsFile (table_of a.image home) f)
    → (IsTrue a.honest → ConfinesTo t (either (is_in (headers_of (table_of a.image home) f)) (new_header (index_in t)))
    (free_list (volume_of a.image home)) a b) → WritesMoreOf f home a b
more-of t home f a b at for file one honest =
    let index : index_in t ≡ index_of a.image home = (for.keeps honest).index_is ∙ ap (index_of a.image) at in
    let bitmap : bitmap_in t ≡ storage_bitmap a.image home = (for.keeps honest).bitmap_is ∙ ap (storage_bitmap a.image) at in
    subst (λ (hs : List ℕ). ConfinesInOrder (either (is_in hs) (new_header (index_of a.image home))) (index_of a.image home)
    (storage_bitmap a.image home) (free_list (volume_of a.image home)) a b)
    (sym (numbered-holds a.image home f (subst (HasSoundVolume a.image) at (for.sound honest)) (file honest)))
    (subst (λ (x : Index). ConfinesInOrder (either (is_in (headers_of (table_of a.image home) f)) (new_header x)) x
    (storage_bitmap a.image home)
    (free_list (volume_of a.image home)) a b) index
    (subst (λ (x : Bitmap). ConfinesInOrder (either (is_in (headers_of (table_of a.image home) f)) (new_header (index_in t))) (index_in t) x
    (free_list (volume_of a.image home)) a b) bitmap (one honest)))

-- or none is
pub more-looked : (home : HomeFields) (f : ℕ) {a b : Disk} {most faults : ℕ} → Looked a b most faults → WritesMoreOf f home a b
more-looked home f {a = a} looked = λ honest.
    confines-looked (either (is_in (file_numbered (store_of a.image home) f).held) (new_header (index_of a.image home)))
    (index_of a.image home) (storage_bitmap a.image home) (free_list (volume_of a.image home)) looked
