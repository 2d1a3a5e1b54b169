-- Files that are copied one after another.
use Rattle.std.proofs.Common.{◌≡◌, inl, inr, ℕ, zero, suc, ◌+◌, ◌<◌, ◌≤◌, true, List, [], ◌∷◌, ◌++◌, length, take, get_or, Err, refl}
use Rattle.std.proofs.Common.{sym, ap, ◌∙◌, subst, arith}
use Rattle.std.specs.List.{slice_get, sum_by}
use Rattle.std.proofs.lemmas.List.{length-append, take_all, take_more}
use Rattle.std.proofs.lemmas.List.Sums.{sum_by_more, sum_by_more_le, sum_by_push}
use Rattle.std.proofs.lemmas.Option.{slice_get_read}
use Rattle.f11_dev.specs.Disk.{Disk}
use Rattle.f11_dev.specs.Image.{Image}
use Rattle.f11_dev.specs.Looked.{Looked}
use Rattle.f11_dev.specs.Went.{Went}
use Rattle.f11_dev.proofs.LookedLemmas.{looked_none}
use Rattle.f11_dev.proofs.WentLemmas.{went_looked, went_more, went_weaker, went_within}
use Rattle.rt11_volume.specs.AnyDirectory.{blocks_from}
use Rattle.rt11_volume.specs.Files.{is_fault}
use Rattle.rt11_volume.specs.Store.{rt_store_of}
use Rattle.rt11_volume.specs.Verifying.Verdict.{IsSoundDisk}
use Rattle.rt11_volume.specs.declared.any_entries.RtEntry.{RtEntry}
use Rattle.rt11_volume.specs.declared.refusal.RtRefusal.{RtRefusal}
use Rattle.rt11_volume.specs.declared.refusal.RtRefusal.TheVariants.{NoMemory}
use Rattle.rt11_squeeze.specs.Kept.{SparesFiles}
use Rattle.rt11_squeeze.specs.Telling.{date_told}
use Rattle.rt11_copy.specs.Copies.{Became, CopiesAll, CopiesEach, CopiesOne, EndsCopying, HasCopies, HasCopyOf, KeepsVolume, OnlyRead}
use Rattle.rt11_copy.specs.Copies.{entry_reads, entry_writes, reads_all, unread_in, unread_one, writes_all}
use Rattle.rt11_copy.specs.Copying.{CopiesFile, FailsToCopyFile, IsRefused}
use Rattle.rt11_copy.specs.Entries.{IsToCopy, name_to_copy}
use Rattle.rt11_copy.specs.Reading.{HasSegment, ReadsFile}
use Rattle.rt11_copy.specs.declared.outcome.RtCopied.{RtCopied}
use Rattle.rt11_copy.specs.declared.outcome.RtCopied.TheVariants.{Copied, NotCopied}
use Rattle.rt11_copy.specs.declared.outcome.RtUncopied.{RtUncopied}
use Rattle.rt11_copy.specs.declared.outcome.RtUncopied.TheVariants.{NoFile, StatusWrong, NoName, PastEnd, Unreadable, Refused}
use Rattle.rt11_copy.proofs.KeepLemmas.{keeps-more, keeps-none, spares-behind}

-- what is told of a disk that was read is told of the one that there was
module _ (from read : Disk) (image : read.image ≡ from.image) (honest : read.honest ≡ from.honest) where
  to-copy-as : (e : RtEntry) (name : List ℕ) → IsToCopy e name read → IsToCopy e name from
  to-copy-as e name is = sym (ap (λ (i : Image). name_to_copy (length i) e) image) ∙ is

  reads-file-as : (e : RtEntry) (day : ℕ) (blocks : List (List ℕ)) → ReadsFile e day blocks read → ReadsFile e day blocks from
  reads-file-as e day blocks reads = record {
    area = record {
      size = reads.area.size;
      blocks_are = λ well. reads.area.blocks_are (honest ∙ well) ∙ ap (λ (i : Image). blocks_from i e.first e.blocks) image;
    };
    date_is = λ well there.
        reads.date_is (honest ∙ well) (subst (HasSegment e) (sym image) there) ∙ ap (λ (i : Image). date_told i e) image;
  }

  pub refused-as : (refusal : RtRefusal) (e : RtEntry) (old new : Disk) → IsRefused refusal e read old new
      → IsRefused refusal e from old new
  refused-as refusal e old new is = record {
    name = is.name;
    to_copy = to-copy-as e is.name is.to_copy;
    fresh = is.fresh;
    why = is.why;
    stays = is.stays;
  }

  barred-as : (why : RtUncopied) (e : RtEntry) → name_to_copy (length read.image) e ≡ Err why → name_to_copy (length from.image) e ≡ Err why
  barred-as why e is = sym (ap (λ (i : Image). name_to_copy (length i) e) image) ∙ is

  failed-as : (why : RtUncopied) (e : RtEntry) (old new : Disk) → FailsToCopyFile why e read old new → FailsToCopyFile why e from old new
  failed-as NoFile e old new f = record { barred = barred-as NoFile e f.barred; untouched = f.untouched }
  failed-as StatusWrong e old new f = record { barred = barred-as StatusWrong e f.barred; untouched = f.untouched }
  failed-as NoName e old new f = record { barred = barred-as NoName e f.barred; untouched = f.untouched }
  failed-as PastEnd e old new f = record { barred = barred-as PastEnd e f.barred; untouched = f.untouched }
  failed-as Unreadable e old new f = record { name = f.name; to_copy = to-copy-as e f.name f.to_copy; untouched = f.untouched }
  failed-as (Refused refusal) e old new f = refused-as refusal e old new f

  became-as : (outcome : RtCopied) (e : RtEntry) (old new : Disk) → Became outcome e read old new → Became outcome e from old new
  became-as Copied e old new c = record {
    name = c.name;
    day = c.day;
    blocks = c.blocks;
    to_copy = to-copy-as e c.name c.to_copy;
    reads = reads-file-as e c.day c.blocks c.reads;
    makes = c.makes;
  }
  became-as (NotCopied why) e old new f = record { fails = failed-as why e old new f.fails; stays = f.stays }

-- one more behind others
each-more : (from : Disk) (e : RtEntry) (outcome : RtCopied) {entries : List RtEntry} {outcomes : List RtCopied} {old now : Disk}
    (new : Disk) → CopiesEach from entries outcomes old now → CopiesOne outcome e from now new
    → CopiesEach from (entries ++ e ∷ []) (outcomes ++ outcome ∷ []) old new
each-more from e outcome new (CopiesEach.none disk) one = CopiesEach.more e outcome [] [] disk new new one (CopiesEach.none new)
each-more from e outcome new (CopiesEach.more first became entries outcomes old middle now at rest) one =
    CopiesEach.more first became (entries ++ e ∷ []) (outcomes ++ outcome ∷ []) old middle new at (each-more from e outcome new rest one)

-- what each keeps all keep
each-keeps : (from : Disk) {entries : List RtEntry} {outcomes : List RtCopied} {old new : Disk} → CopiesEach from entries outcomes old new
    → KeepsVolume old new
each-keeps from (CopiesEach.none disk) = keeps-none disk
each-keeps from (CopiesEach.more e outcome entries outcomes old middle new one rest) =
    keeps-more old middle new one.keeps (each-keeps from rest)

-- a file that was copied is there still
copied-there : (e : RtEntry) (from old middle new : Disk) → CopiesFile e from old middle → KeepsVolume old middle → KeepsVolume middle new
    → IsSoundDisk old → HasCopyOf e from (rt_store_of new.image)
copied-there e from old middle new c keeps later s =
    let h = c.makes.made s in
    record {
      name = c.name;
      file = h.file;
      to_copy = c.to_copy;
      one = later.files (keeps.sound s) c.name h.file [] h.one;
      reads = record {
        area = record {
          size = ap (λ (b : List (List ℕ)). length b) h.blocks_are ∙ c.reads.area.size;
          blocks_are = λ honest. h.blocks_are ∙ c.reads.area.blocks_are honest;
        };
        date_is = λ honest there. h.date_is ∙ c.reads.date_is honest there;
      };
      protected_is = h.protected_is;
    }

each-there : (from : Disk) {entries : List RtEntry} {outcomes : List RtCopied} {old new : Disk} → CopiesEach from entries outcomes old new
    → IsSoundDisk old → HasCopies entries outcomes from (rt_store_of new.image)
each-there from (CopiesEach.none disk) s k e at told = absurd (cc)
each-there from (CopiesEach.more first outcome entries outcomes old middle new one rest) s zero e at told =
    let same : first ≡ e = cc in
    let copied : outcome ≡ Copied = cc in
    let became : Became Copied first from old middle = subst (λ (o : RtCopied). Became o first from old middle) copied one.became in
    subst (λ (x : RtEntry). HasCopyOf x from (rt_store_of new.image)) same
    (copied-there first from old middle new became one.keeps (each-keeps from rest) s)
each-there from (CopiesEach.more first outcome entries outcomes old middle new one rest) s (suc k) e at told =
    each-there from rest (one.keeps.sound s) k e at told

-- So many files were copied, or not.
pub record CopiedSoFar (entries : List RtEntry) (place : ℕ) (outcomes : List RtCopied) (from read old now : Disk) : Type 0 where
  pub reads : OnlyRead from read (reads_all (take place entries))
  pub failures : read.failures ≡ from.failures + unread_in outcomes
  pub went : Went (SparesFiles old) old now (writes_all (take place entries)) 0
  pub keeps : KeepsVolume old now
  pub count : length outcomes ≡ place
  pub each : CopiesEach from (take place entries) outcomes old now

pub copied-none : (entries : List RtEntry) (from old : Disk) → CopiedSoFar entries 0 [] from from old old
copied-none entries from old = record {
  reads = record { image = refl; history = refl; honest = refl; transfers = omega arith };
  failures = omega arith;
  went = went_looked (SparesFiles old) (looked_none old);
  keeps = keeps-none old;
  count = refl;
  each = CopiesEach.none old;
}

module _ (entries : List RtEntry) (place : ℕ) (outcomes : List RtCopied) (from read old now : Disk)
    (so-far : CopiedSoFar entries place outcomes from read old now) (e : RtEntry) (inside : place < length entries)
    (is : e ≡ get_or entries place e) (read' new : Disk) (faults : ℕ) (looked : Looked read read' (entry_reads e) faults) where
  -- what was read with the next one
  more-read : OnlyRead from read' (reads_all (take place entries) + entry_reads e)
  more-read = record {
    image = looked.image ∙ so-far.reads.image;
    history = looked.history ∙ so-far.reads.history;
    honest = looked.honest ∙ so-far.reads.honest;
    transfers = omega (arith, so-far.reads.transfers, looked.transfers);
  }

  all-within : (f : RtEntry → ℕ) → sum_by f (take place entries) + f e ≤ sum_by f entries
  all-within f = subst (λ (x : RtEntry). sum_by f (take place entries) + f x ≤ sum_by f entries) (sym is)
      (sum_by_more_le f entries place e inside)

  one-more : (f : RtEntry → ℕ) → sum_by f (take place entries) + f e ≡ sum_by f (take (place + 1) entries)
  one-more f = ap (λ (x : RtEntry). sum_by f (take place entries) + f x) is ∙ sym (sum_by_more f entries place e inside)

  -- what was written
  more-went : (f : ℕ) → Went (SparesFiles now) now new (entry_writes e) f
      → Went (SparesFiles old) old new (writes_all (take place entries) + entry_writes e) f
  more-went f went =
      went_more (SparesFiles old) so-far.went
      (went_weaker (SparesFiles now) (SparesFiles old) (λ image spares. spares-behind old now image so-far.keeps spares) went)

  pub went-within : (f : ℕ) → Went (SparesFiles now) now new (entry_writes e) f → Went (SparesFiles old) old new (writes_all entries) f
  went-within f went = went_within (SparesFiles old) (more-went f went) (all-within entry_writes)

  -- the next one was copied, or not
  pub copied-more : (outcome : RtCopied) → faults ≡ unread_one outcome → Went (SparesFiles now) now new (entry_writes e) 0
      → Became outcome e read now new → KeepsVolume now new
      → CopiedSoFar entries (place + 1) (outcomes ++ outcome ∷ []) from read' old new
  copied-more outcome told went became keeps = record {
    reads = subst (OnlyRead from read') (one-more entry_reads) more-read;
    failures = let sum = sum_by_push unread_one outcomes outcome in omega (arith, so-far.failures, looked.failures, told, sum);
    went = subst (λ n. Went (SparesFiles old) old new n 0) (one-more entry_writes) (more-went 0 went);
    keeps = keeps-more old now new so-far.keeps keeps;
    count = length-append outcomes (outcome ∷ []) ∙ ap (λ n. n + 1) so-far.count;
    each =
        subst (λ (es : List RtEntry). CopiesEach from es (outcomes ++ outcome ∷ []) old new)
        (ap (λ (x : RtEntry). take place entries ++ x ∷ []) is ∙ sym (take_more entries place e inside))
        (each-more from e outcome new so-far.each (record {
          became = became-as from read so-far.reads.image so-far.reads.honest outcome e now new became;
          keeps = keeps;
        }));
  }

  -- or a transfer to the volume failed
  pub ended-at : (refusal : RtRefusal) → faults ≡ 0 → is_fault refusal ≡ true → IsRefused refusal e read now new
      → EndsCopying refusal entries from read' old new
  ended-at refusal none fault refused = record {
    outcomes = outcomes;
    middle = now;
    few = omega (arith, so-far.count, inside);
    before = subst (λ n. CopiesEach from (take n entries) outcomes old now) (sym so-far.count) so-far.each;
    there = λ s.
        subst (λ n. HasCopies (take n entries) outcomes from (rt_store_of now.image)) (sym so-far.count) (each-there from so-far.each s);
    failures = omega (arith, so-far.failures, looked.failures, none);
    keeps = so-far.keeps;
    why = inl (record {
      entry = e;
      at = ap (λ n. slice_get entries n) so-far.count ∙ slice_get_read entries (length entries) place e refl inside is;
      fault = fault;
      refused = refused-as from read so-far.reads.image so-far.reads.honest refusal e now new refused;
    });
  }

-- there was no memory for the list
pub ended-without : (entries : List RtEntry) (place : ℕ) (outcomes : List RtCopied) (from read old now : Disk)
    → CopiedSoFar entries place outcomes from read old now → place ≤ length entries → EndsCopying NoMemory entries from read old now
ended-without entries place outcomes from read old now so-far inside = record {
  outcomes = outcomes;
  middle = now;
  few = omega (arith, so-far.count, inside);
  before = subst (λ n. CopiesEach from (take n entries) outcomes old now) (sym so-far.count) so-far.each;
  there = λ s.
      subst (λ n. HasCopies (take n entries) outcomes from (rt_store_of now.image)) (sym so-far.count) (each-there from so-far.each s);
  failures = so-far.failures;
  keeps = so-far.keeps;
  why = inr (refl, refl);
}

-- all were
module _ (entries : List RtEntry) (place : ℕ) (outcomes : List RtCopied) (from read old now : Disk)
    (so-far : CopiedSoFar entries place outcomes from read old now) (end : place ≡ length entries) where
  all : take place entries ≡ entries
  all = take_all place entries (omega (arith, end))

  pub copied-all : CopiesAll entries outcomes from read old now
  copied-all = record {
    count = so-far.count ∙ end;
    each = subst (λ (es : List RtEntry). CopiesEach from es outcomes old now) all so-far.each;
    there = λ s.
        subst (λ (es : List RtEntry). HasCopies es outcomes from (rt_store_of now.image)) all (each-there from so-far.each s);
    failures = so-far.failures;
    keeps = so-far.keeps;
  }
