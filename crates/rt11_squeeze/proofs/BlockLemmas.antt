-- All blocks of a file, read and written one after another.
use Rattle.std.proofs.Common.{◌≡◌, ℕ, zero, suc, ◌+◌, ◌<◌, ◌≤◌, false, List, [], ◌∷◌, ◌++◌, length, take, get_or, slice_set, Some}
use Rattle.std.proofs.Common.{slice_index_or, Ok, Err, refl, sym, ◌∙◌, ap, subst, arith}
use Rattle.std.specs.List.{slice_get}
use Rattle.std.proofs.lemmas.List.{length-append, length-set, take_all, take_more, take_more_set}
use Rattle.std.proofs.lemmas.Option.{get_or_from_slice_get, slice_get_within}
use Rattle.f11_dev.specs.Disk.{Disk}
use Rattle.f11_dev.specs.Image.{Image}
use Rattle.f11_dev.specs.Looked.{Looked}
use Rattle.f11_dev.specs.Went.{Went}
use Rattle.f11_dev.specs.declared.device.Device.{Ghosts}
use Rattle.f11_dev.proofs.LookedLemmas.{looked_more, looked_none, looked_within}
use Rattle.f11_dev.proofs.WentLemmas.{went_looked, went_more, went_weaker}
use Rattle.rt11_volume.specs.Calls.{AnswersRt, IsKnown, KnowsFile, has_failed}
use Rattle.rt11_volume.specs.Files.{FailsToReach, HasBlock, HasBlockWritten, file_area}
use Rattle.rt11_volume.specs.Laws.{KeepsOtherNames}
use Rattle.rt11_volume.specs.Named.{files_named}
use Rattle.rt11_volume.specs.Store.{Area, RtStore, rt_store_of}
use Rattle.rt11_volume.specs.Verifying.Verdict.{IsRtAccepted, IsSoundDisk}
use Rattle.rt11_volume.specs.declared.refusal.RtRefusal.{RtRefusal}
use Rattle.rt11_volume.specs.declared.refusal.RtRefusal.TheVariants.{NoMemory}
use Rattle.rt11_volume.specs.declared.volume.RtAccepted.{RtAccepted}
use Rattle.rt11_volume.proofs.Named.Laws.{file-first, written-replaced}
use Rattle.rt11_squeeze.specs.Blocks.{BeginsWith, FailsToRead, FailsToWrite, SparesOthers, WritesBlocks, blocks_transfers}
use Rattle.rt11_squeeze.specs.Kept.{volume_disk, volume_store}
use Rattle.rt11_squeeze.proofs.CallLemmas.{looked-few, next-of, past-of, unfailed-of, went-few}

-- a disk that was only looked at is as sound as it was
pub sound-looked : {a b : Disk} {most faults : ℕ} → Looked a b most faults → IsSoundDisk a → IsSoundDisk b
sound-looked looked s = record {
  honest = looked.honest ∙ s.honest;
  accepted = subst IsRtAccepted (sym looked.image) s.accepted;
}

module _ {D : Type 0} {met : Ghosts D} (disk : D → Disk) (name : List ℕ) (old : RtAccepted D met) where
  -- So many blocks of the file were met, each by one transfer but the first.
  pub record Met (place : ℕ) (now : RtAccepted D met) : Type 0 where
    pub fresh : has_failed now ≡ false
    pub none : place ≡ 0 → (volume_disk disk now).transfers ≤ (volume_disk disk old).transfers
    pub few : (volume_disk disk now).transfers ≤ (volume_disk disk old).transfers + (62 + place)
    pub known : 0 < place → IsKnown name now

  met-none : has_failed old ≡ false → Met 0 old
  met-none fresh = record {
    fresh = fresh;
    none = λ is. omega arith;
    few = omega arith;
    known = λ some. absurd (omega (arith, some));
  }

  -- how many transfers there are behind one block more
  met-few : (place : ℕ) (now new : RtAccepted D met) → Met place now
      → (volume_disk disk new).transfers ≤ (volume_disk disk now).transfers + 63
      → (IsKnown name now → (volume_disk disk new).transfers ≤ (volume_disk disk now).transfers + 1)
      → (volume_disk disk new).transfers ≤ (volume_disk disk old).transfers + (62 + (place + 1))
  met-few zero now new so-far more again = omega (arith, so-far.none refl, more)
  met-few (suc place) now new so-far more again = omega (arith, so-far.few, again (so-far.known (omega arith)))

  met-more : (place : ℕ) (now new : RtAccepted D met) → Met place now → AnswersRt {T = Unit} disk (Ok tt) now new
      → (volume_disk disk new).transfers ≤ (volume_disk disk now).transfers + 63
      → KnowsFile {T = Unit} disk name 1 (Ok tt) now new → Met (place + 1) new
  met-more place now new so-far a more knows = record {
    fresh = next-of disk (Ok tt) now new a so-far.fresh;
    none = λ is. absurd (omega (arith, is));
    few = met-few place now new so-far more knows.again;
    known = λ some. knows.known;
  }

  -- So many blocks were read.
  pub record ReadSoFar (place : ℕ) (blocks : List (List ℕ)) (now : RtAccepted D met) : Type 0 where
    pub been : Met place now
    pub looked : Looked (volume_disk disk old) (volume_disk disk now) (62 + place) 0
    pub count : length blocks ≡ place
    pub begins : IsSoundDisk (volume_disk disk old) → BeginsWith name blocks (volume_store disk old)

  pub read-none : has_failed old ≡ false → ReadSoFar 0 [] old
  read-none fresh = record {
    been = met-none fresh;
    looked = looked_within (looked_none (volume_disk disk old)) (omega arith);
    count = refl;
    begins = λ s file more named. refl;
  }

  begins-more : (blocks : List (List ℕ)) (block : List ℕ) (store : RtStore) → BeginsWith name blocks store
      → HasBlock name store (length blocks) block → BeginsWith name (blocks ++ block ∷ []) store
  begins-more blocks block store begins has file more named =
      let first = file-first name store has.file in
      let same : file ∷ more ≡ file_area has.file ∷ first.more = sym named ∙ first.named in
      let contents : file.contents ≡ (file_area has.file).contents = ap (λ (l : List Area). (slice_index_or l 0 file).contents) same in
      let there : slice_get file.contents (length blocks) ≡ Some block =
      ap (λ (c : List (List ℕ)). slice_get c (length blocks)) contents ∙ has.block_is in
      ap (λ n. take n file.contents) (length-append blocks (block ∷ []))
      ∙ take_more file.contents (length blocks) [] (slice_get_within file.contents (length blocks) block there)
      ∙ (λ t. begins file more named t
      ++ get_or_from_slice_get file.contents (length blocks) block [] there t ∷ [])

  pub read-more : (place : ℕ) (blocks : List (List ℕ)) (block : List ℕ) (now new : RtAccepted D met) → ReadSoFar place blocks now
      → AnswersRt {T = Unit} disk (Ok tt) now new → Looked (volume_disk disk now) (volume_disk disk new) 63 0
      → (IsSoundDisk (volume_disk disk now) → HasBlock name (volume_store disk now) place block)
      → KnowsFile {T = Unit} disk name 1 (Ok tt) now new → ReadSoFar (place + 1) (blocks ++ block ∷ []) new
  read-more place blocks block now new so-far a looked read knows = record {
    been = met-more place now new so-far.been a looked.transfers knows;
    looked = looked-few (62 + (place + 1)) (looked_more so-far.looked looked)
        (met-few place now new so-far.been looked.transfers knows.again);
    count = length-append blocks (block ∷ []) ∙ ap (λ n. n + 1) so-far.count;
    begins = λ s.
        begins-more blocks block (volume_store disk old) (so-far.begins s)
        (subst (λ n. HasBlock name (volume_store disk old) n block) (sym so-far.count)
        (subst (λ (i : Image). HasBlock name (rt_store_of i) place block) so-far.looked.image (read (sound-looked so-far.looked s))));
  }

  -- one wasn't read
  pub read-looked : (place count faults : ℕ) (blocks : List (List ℕ)) (now new : RtAccepted D met) → place < count
      → ReadSoFar place blocks now → Looked (volume_disk disk now) (volume_disk disk new) 63 faults
      → (IsKnown name now → (volume_disk disk new).transfers ≤ (volume_disk disk now).transfers + 1)
      → Looked (volume_disk disk old) (volume_disk disk new) (blocks_transfers count) faults
  read-looked place count faults blocks now new inside so-far looked again =
      looked-few (62 + count) (looked_more so-far.looked looked)
      (let few = met-few place now new so-far.been looked.transfers again in omega (arith, few, inside))

  pub read-fails : (place count : ℕ) (e : RtRefusal) (blocks : List (List ℕ)) (now new : RtAccepted D met) → place < count
      → ReadSoFar place blocks now → AnswersRt {T = Unit} disk (Err e) now new → FailsToReach e name place (volume_disk disk now)
      → FailsToRead name count e (volume_disk disk old)
  read-fails place count e blocks now new inside so-far a why = record {
    fresh = unfailed-of {T = Unit} disk e now new a so-far.been.fresh;
    why = λ s has none.
        let named = ap (λ (i : Image). files_named name (rt_store_of i)) so-far.looked.image ∙ has.named in
        let past = past-of (volume_disk disk now) (sound-looked so-far.looked s) name has.file has.more named place e why
        (unfailed-of {T = Unit} disk e now new a so-far.been.fresh) none in
        absurd (omega (arith, past, inside, has.few));
  }

  pub lacks-memory : (count : ℕ) → FailsToRead name count NoMemory (volume_disk disk old)
  lacks-memory count = record { fresh = λ is. absurd (cc); why = λ s has none. refl }

  -- What stands in a file of which so many blocks were written.
  pub record HasFront (place : ℕ) (blocks : List (List ℕ)) (file : Area) (more : List Area) (new : RtStore) : Type 0 where
    pub contents : List (List ℕ)
    pub is : files_named name new ≡ record file { contents = contents } ∷ more
    pub size : length contents ≡ length file.contents
    pub front : take place contents ≡ take place blocks

  -- So many were written.
  pub record WrittenSoFar (place : ℕ) (blocks : List (List ℕ)) (now : RtAccepted D met) : Type 0 where
    pub been : Met place now
    pub went : Went (SparesOthers name (volume_disk disk old)) (volume_disk disk old) (volume_disk disk now) (62 + place) 0
    pub sound : IsSoundDisk (volume_disk disk old) → IsSoundDisk (volume_disk disk now)
    pub others : IsSoundDisk (volume_disk disk old) → KeepsOtherNames name (volume_store disk old) (volume_store disk now)
    pub named : IsSoundDisk (volume_disk disk old) → (file : Area) (more : List Area)
        → files_named name (volume_store disk old) ≡ file ∷ more → HasFront place blocks file more (volume_store disk now)

  pub written-none : (blocks : List (List ℕ)) → has_failed old ≡ false → WrittenSoFar 0 blocks old
  written-none blocks fresh = record {
    been = met-none fresh;
    went = went_looked (SparesOthers name (volume_disk disk old)) (looked_within (looked_none (volume_disk disk old)) (omega arith));
    sound = λ s. s;
    others = λ s other apart. refl;
    named = λ s file more named. record { contents = file.contents; is = named; size = refl; front = refl };
  }

  module _ (place : ℕ) (blocks : List (List ℕ)) (block : List ℕ) (now new : RtAccepted D met) (so-far : WrittenSoFar place blocks now) where
    -- what stands while one is written
    spares-more : (image : Image) → HasBlockWritten name place block (volume_disk disk now) image
        → SparesOthers name (volume_disk disk old) image
    spares-more image written s =
        let sound = so-far.sound s in
        let w = written sound in
        let r = written-replaced name place block (volume_disk disk now).image image sound.accepted w in
        (w.accepted, λ other apart. r.others other apart ∙ so-far.others s other apart)

    pub write-went : (count faults : ℕ) → place < count
        → Went (HasBlockWritten name place block (volume_disk disk now)) (volume_disk disk now) (volume_disk disk new) 63 faults
        → (IsKnown name now → (volume_disk disk new).transfers ≤ (volume_disk disk now).transfers + 1)
        → Went (SparesOthers name (volume_disk disk old)) (volume_disk disk old) (volume_disk disk new) (blocks_transfers count) faults
    write-went count faults inside went again =
        went-few (SparesOthers name (volume_disk disk old)) (62 + count)
        (went_more (SparesOthers name (volume_disk disk old)) so-far.went
        (went_weaker (HasBlockWritten name place block (volume_disk disk now)) (SparesOthers name (volume_disk disk old)) spares-more went))
        (let few = met-few place now new so-far.been went.transfers again in omega (arith, few, inside))

    front-more : (file : Area) (more : List Area) → get_or blocks place [] ≡ block → place < length blocks
        → HasFront place blocks file more (volume_store disk now) → IsSoundDisk (volume_disk disk now)
        → HasBlockWritten name place block (volume_disk disk now) (volume_disk disk new).image
        → HasFront (place + 1) blocks file more (volume_store disk new)
    front-more file more block-is inside front sound written =
        let r = written-replaced name place block (volume_disk disk now).image (volume_disk disk new).image sound.accepted (written sound)
        in
        let here : Area = record file { contents = front.contents } in
        let same : here ∷ more ≡ r.file ∷ r.more = sym front.is ∙ r.was in
        let same-file : here ≡ r.file = cc in
        let same-more : more ≡ r.more = cc in
        let within : place < length front.contents = subst (λ (f : Area). place < length f.contents) (sym same-file) r.inside in
        let back : block ≡ get_or blocks place [] = sym block-is in
        record {
          contents = slice_set front.contents place block;
          is =
              r.is ∙ ap (λ (f : Area). record f { contents = slice_set f.contents place block } ∷ r.more) (sym same-file)
              ∙ ap (λ (l : List Area). record file { contents = slice_set front.contents place block } ∷ l) (sym same-more);
          size = length-set front.contents place block ∙ front.size;
          front =
              take_more_set front.contents place block within
              ∙ (λ t. front.front t ++ back t ∷ [])
              ∙ sym (take_more blocks place [] inside);
        }

    pub written-more : get_or blocks place [] ≡ block → place < length blocks → AnswersRt {T = Unit} disk (Ok tt) now new
        → Went (HasBlockWritten name place block (volume_disk disk now)) (volume_disk disk now) (volume_disk disk new) 63 0
        → HasBlockWritten name place block (volume_disk disk now) (volume_disk disk new).image
        → KnowsFile {T = Unit} disk name 1 (Ok tt) now new → WrittenSoFar (place + 1) blocks new
    written-more block-is inside a went written knows = record {
      been = met-more place now new so-far.been a went.transfers knows;
      went = write-went (place + 1) 0 (omega arith) went knows.again;
      sound = λ s. record { honest = went.honest ∙ (so-far.sound s).honest; accepted = (written (so-far.sound s)).accepted };
      others = λ s. (spares-more (volume_disk disk new).image written s).1;
      named = λ s file more named. front-more file more block-is inside (so-far.named s file more named) (so-far.sound s) written;
    }

    pub write-fails : (count : ℕ) (e : RtRefusal) → place < count → AnswersRt {T = Unit} disk (Err e) now new
        → FailsToReach e name place (volume_disk disk now) → FailsToWrite name count e (volume_disk disk old)
    write-fails count e inside a why = record {
      fresh = unfailed-of {T = Unit} disk e now new a so-far.been.fresh;
      why = λ s has none.
          let h = so-far.named s has.file has.more has.named in
          let past = past-of (volume_disk disk now) (so-far.sound s) name (record has.file { contents = h.contents }) has.more h.is place e
          why
          (unfailed-of {T = Unit} disk e now new a so-far.been.fresh) none in
          omega (arith, past, inside, has.few, h.size);
    }

  pub written-all : (place : ℕ) (blocks : List (List ℕ)) (now : RtAccepted D met) → place ≡ length blocks → WrittenSoFar place blocks now
      → IsSoundDisk (volume_disk disk old) → WritesBlocks name blocks (volume_store disk old) (volume_store disk now)
  written-all place blocks now all so-far s = record {
    others = so-far.others s;
    named = λ file more named size.
        let front = so-far.named s file more named in
        let same : front.contents ≡ blocks =
        sym (take_all place front.contents (omega (arith, all, size, front.size))) ∙ front.front
        ∙ take_all place blocks (omega (arith, all)) in
        front.is ∙ ap (λ (c : List (List ℕ)). record file { contents = c } ∷ more) same;
  }
