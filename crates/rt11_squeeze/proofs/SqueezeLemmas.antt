-- Files that are brought together one after another.
use Rattle.std.proofs.Common.{◌≡◌, ◌≢◌, ⊎_elim, ℕ, ◌+◌, ◌≤◌, ◌<◌, Bool, true, false, if◌then◌else◌, List, [], ◌∷◌, ◌++◌, length, map, take}
use Rattle.std.proofs.Common.{get_or}
use Rattle.std.proofs.Common.{option_map, unwrap_or, zero, suc}
use Rattle.std.proofs.Common.{Option, Some, None, Result, Ok, Err, refl, sym, ◌∙◌, ap, subst, arith}
use Rattle.std.specs.List.{slice_get, sum_by}
use Rattle.std.proofs.lemmas.List.{length-append, take_more}
use Rattle.std.proofs.lemmas.List.Sums.{sum_by_more, sum_by_more_le}
use Rattle.std.proofs.lemmas.Option.{slice_get-map, slice_get_read}
use Rattle.f11_dev.specs.Disk.{Disk}
use Rattle.f11_dev.specs.Image.{Image}
use Rattle.f11_dev.specs.Looked.{Looked}
use Rattle.f11_dev.specs.Went.{Went}
use Rattle.f11_dev.specs.declared.device.Device.{Ghosts}
use Rattle.f11_dev.proofs.LookedLemmas.{looked_none}
use Rattle.f11_dev.proofs.WentLemmas.{went_looked, went_more, went_weaker, went_within}
use Rattle.rt11_volume.specs.Calls.{AnswersRt, has_failed}
use Rattle.rt11_volume.specs.Entry.{is_same_name}
use Rattle.rt11_volume.specs.Files.{FailsToFindFile, faults_in, is_device_fault, is_fault}
use Rattle.rt11_volume.specs.Named.{files_named}
use Rattle.rt11_volume.specs.Store.{Area, RtStore, rt_store_of}
use Rattle.rt11_volume.specs.Verifying.Verdict.{IsRtAccepted, IsSoundDisk}
use Rattle.rt11_volume.specs.declared.refusal.RtRefusal.{RtRefusal}
use Rattle.rt11_volume.specs.declared.refusal.RtRefusal.TheVariants as rt
use Rattle.rt11_volume.specs.declared.volume.RtAccepted.{RtAccepted}
use Rattle.rt11_squeeze.specs.Kept.{FileFacts, HasSameFiles, SparesFiles, facts_of, volume_disk, volume_store}
use Rattle.rt11_squeeze.specs.Moving.{FailsToMove, HasMoved, IsOnlyFile, Moves, SparesWhile, move_transfers}
use Rattle.rt11_squeeze.specs.Squeezing.{AreTold, EndsEarly, IsMovedThere, IsNoneOf, IsTold, IsUncopied, KeepsAllFiles, OnSound, Preserves}
use Rattle.rt11_squeeze.specs.Squeezing.{Tries, TriesBy, ends_all, file_transfers}
use Rattle.rt11_squeeze.specs.Rooms.{areas_listed, room_in}
use Rattle.rt11_squeeze.specs.Squeezing.{SqueezesEach, SqueezesOne, squeeze_transfers}
use Rattle.rt11_squeeze.specs.declared.outcome.Squeezed.{Squeezed}
use Rattle.rt11_squeeze.specs.declared.moving.FileToMove.{FileToMove}
use Rattle.rt11_squeeze.specs.declared.way.Way.TheVariants as way
use Rattle.rt11_squeeze.proofs.BlockLemmas.{sound-looked}
use Rattle.rt11_squeeze.proofs.CallLemmas.{found-of, unfailed-of}
use Rattle.rt11_squeeze.proofs.MoveLemmas.{create-as, stood-last}
use Rattle.rt11_squeeze.proofs.StandLemmas.{CarriesFiles, carried-stand, same-files}

-- a file that is as one of another list is there
facts-there : (file : Area) (found : Option Area) → option_map facts_of found ≡ Some (facts_of file)
    → (there : Area) × (found ≡ Some there) × (facts_of there ≡ facts_of file)
facts-there file None is = absurd (cc)
facts-there file (Some there) is = (there, refl, cc)

-- the blocks of each file are those of one of a store with the same files
pub same-carried : (old new : RtStore) → HasSameFiles old new → CarriesFiles old new
same-carried old new same name k file is =
    let facts : option_map facts_of (slice_get (files_named name new) k) ≡ Some (facts_of file) =
    sym (slice_get-map facts_of (files_named name new) k)
    ∙ ap (λ (l : List FileFacts). slice_get l k) (same name)
    ∙ slice_get-map facts_of (files_named name old) k
    ∙ ap (option_map facts_of) is in
    let there = facts-there file (slice_get (files_named name new) k) facts in
    record {
      name = name;
      place = k;
      file = there.0;
      at = there.1;
      blocks_are = ap (λ (f : FileFacts). f.blocks) there.2;
    }

-- the only file of a name is the only one still
only-there : (file : Area) (fs : List Area) → map facts_of fs ≡ facts_of file ∷ []
    → (there : Area) × (fs ≡ there ∷ []) × (facts_of there ≡ facts_of file)
only-there file [] is = absurd (cc)
only-there file (f ∷ []) is = (f, refl, cc)
only-there file (f ∷ (g ∷ fs)) is = absurd (cc)

pub told-still : (told : FileToMove) (old new : RtStore) → IsTold told old → HasSameFiles old new → IsTold told new
told-still told old new is same =
    let there = only-there is.file (files_named told.name new) (same told.name ∙ ap (map facts_of) is.named) in
    record {
      file = there.0;
      named = there.1;
      count_is = ap (λ (f : FileFacts). length f.blocks) there.2 ∙ is.count_is;
      date_is = ap (λ (f : FileFacts). f.date) there.2 ∙ is.date_is;
      protected_is = ap (λ (f : FileFacts). f.protected) there.2 ∙ is.protected_is;
    }

pub all-still : (files : List FileToMove) (old new : RtStore) → AreTold files old → HasSameFiles old new → AreTold files new
all-still files old new are same k told at = told-still told old new (are k told at) same

-- a file that is as it is told, alone
pub told-alone : (told : FileToMove) (store : RtStore) → IsTold told store → AreTold (told ∷ []) store
told-alone told store is zero one at =
    let same : told ≡ one = ap (λ (o : Option FileToMove). unwrap_or o told) at in subst (λ (f : FileToMove). IsTold f store) same is
told-alone told store is (suc k) one at = absurd (cc)

-- a name that is none of it
none-alone : (told : FileToMove) (name : List ℕ) → (is_same_name told.name name ≡ false) × (is_same_name told.scratch name ≡ false)
    → IsNoneOf (told ∷ []) name
none-alone told name apart zero one at =
    let same : told ≡ one = ap (λ (o : Option FileToMove). unwrap_or o told) at in
    subst (λ (f : FileToMove). (is_same_name f.name name ≡ false) × (is_same_name f.scratch name ≡ false)) same apart
none-alone told name apart (suc k) one at = absurd (cc)

-- what is moved as it is told is the same file
moved-same : (told : FileToMove) (old new : RtStore) → IsTold told old → HasMoved told.name told.scratch told.date old new
    → HasSameFiles old new
moved-same told old new is moved name =
    by (is_same_name told.name name) (is_same_name told.scratch name) refl refl
  where
    by : (b c : Bool) → is_same_name told.name name ≡ b → is_same_name told.scratch name ≡ c
        → map facts_of (files_named name new) ≡ map facts_of (files_named name old)
    by b true same also =
        ap (map facts_of)
        (same-files told.scratch name new also ∙ moved.unused_still ∙ sym moved.unused ∙ sym (same-files told.scratch name old also))
    by true false same apart =
        let files : is.file ∷ [] ≡ moved.file ∷ [] = sym is.named ∙ moved.was in
        let file : moved.file ≡ is.file = cc in
        let date : told.date ≡ moved.file.date = sym is.date_is ∙ sym (ap (λ (f : Area). f.date) file) in
        let facts : facts_of moved.moved ≡ facts_of moved.file =
        moved.facts ∙ (λ t. record (facts_of moved.file) { date = date t }) in
        ap (map facts_of) (same-files told.name name new same ∙ moved.is) ∙ (λ t. facts t ∷ [])
        ∙ sym (ap (map facts_of) (same-files told.name name old same ∙ moved.was))
    by false false apart also = ap (map facts_of) (moved.others name apart also)

-- a refusal that doesn't end all is no device fault
pub goes-on : (e : RtRefusal) → ends_all e ≡ false → is_fault e ≡ false
goes-on rt.Failed is = refl
goes-on rt.NoSuchFile is = refl
goes-on rt.EndOfFile is = refl
goes-on rt.Protected is = refl
goes-on rt.DuplicateName is = refl
goes-on rt.NoSpace is = refl
goes-on rt.DirectoryFull is = refl
goes-on rt.NoMemory is = refl
goes-on rt.DeviceFault is = absurd (cc)

pub told-only : (told : FileToMove) (store : RtStore) → IsTold told store → IsOnlyFile told.name told.blocks told.protected store
told-only told store is = record { file = is.file; named = is.named; count_is = is.count_is; protected_is = is.protected_is }

-- a file that was moved lies where the first room for it was
pub moved-there : (told : FileToMove) (old new : Disk)
    → Moves told.name told.scratch told.blocks told.date told.protected old new → OnSound (IsTold told) old (IsMovedThere told old new)
moved-there told old new moves s is =
    let only = told-only told (rt_store_of old.image) is in
    let m = moves.moved s only in
    let files : is.file ∷ [] ≡ m.file ∷ [] = sym is.named ∙ m.was in
    let file : m.file ≡ is.file = cc in
    record {
      copied = moves.copied s only;
      file = m.moved;
      is = m.is;
      place = ap (room_in (areas_listed (rt_store_of old.image))) (sym is.count_is ∙ sym (ap (λ (f : Area). length f.contents) file))
          ∙ m.place;
    }

-- a refusal that ends all, behind no device fault, is that there was no memory
ends-early : (e : RtRefusal) → ends_all e ≡ true → e ≢ rt.Failed → EndsEarly e
ends-early rt.Failed is fresh none = absurd (fresh refl)
ends-early rt.NoSuchFile is fresh none = absurd (cc)
ends-early rt.EndOfFile is fresh none = absurd (cc)
ends-early rt.Protected is fresh none = absurd (cc)
ends-early rt.DuplicateName is fresh none = absurd (cc)
ends-early rt.NoSpace is fresh none = absurd (cc)
ends-early rt.DirectoryFull is fresh none = absurd (cc)
ends-early rt.NoMemory is fresh none = refl
ends-early rt.DeviceFault is fresh none = absurd (cc)

-- a file that wasn't moved: it ends early, or no copy can be made of it
module _ (told : FileToMove) (e : RtRefusal) (old new : Disk)
    (fails : FailsToMove told.name told.scratch told.blocks told.protected e old new) where
  pub unmoved-early : ends_all e ≡ true → EndsEarly e
  unmoved-early is = ends-early e is fails.fresh

  pub unmoved-uncopied : ends_all e ≡ false → new.honest ≡ old.honest → OnSound (IsTold told) old (IsUncopied told e new)
  unmoved-uncopied on honest s is =
      let only = told-only told (rt_store_of old.image) is in
      let same = fails.stays s only (goes-on e on) in
      record {
        goes_on = on;
        fails = create-as told.scratch told.blocks e (λ t. s) (sym same)
            (⊎_elim (λ (none : e ≡ rt.NoMemory). absurd (memory none)) (λ h. h) (fails.why s only (goes-on e on)));
      }
    where
      memory : e ≡ rt.NoMemory → ⊥
      memory none = let clash : true ≡ false = ap ends_all (sym none) ∙ on in absurd (cc)

-- one file more behind others
squeezes-more : {files : List FileToMove} {outcomes : List Squeezed} {old now : Disk} (told : FileToMove) (outcome : Squeezed) (new : Disk)
    → SqueezesEach files outcomes old now → SqueezesOne told outcome now new
    → SqueezesEach (files ++ told ∷ []) (outcomes ++ outcome ∷ []) old new
squeezes-more told outcome new (SqueezesEach.none disk) one =
    SqueezesEach.more told outcome [] [] disk new new one (SqueezesEach.none new)
squeezes-more told outcome new (SqueezesEach.more first became files outcomes old middle now at rest) one =
    SqueezesEach.more first became (files ++ told ∷ []) (outcomes ++ outcome ∷ []) old middle new at
    (squeezes-more told outcome new rest one)

-- the transfers of one file more are within those of all
pub squeezed-within : (files : List FileToMove) (i : ℕ) (told : FileToMove) → i < length files → told ≡ get_or files i told
    → sum_by file_transfers (take i files) + file_transfers told ≤ squeeze_transfers files
squeezed-within files i told inside is =
    subst (λ (f : FileToMove). sum_by file_transfers (take i files) + file_transfers f ≤ squeeze_transfers files) (sym is)
    (sum_by_more_le file_transfers files i told inside)

module _ {D : Type 0} {met : Ghosts D} (disk : D → Disk) where
  -- a file that is as it is told is found, unless a transfer fails
  pub unfound-early : {T : Type 0} (told : FileToMove) (e : RtRefusal) (old new : RtAccepted D met) → AnswersRt {T = T} disk (Err e) old new
      → has_failed old ≡ false → FailsToFindFile e told.name (volume_disk disk old)
      → OnSound (IsTold told) (volume_disk disk old) (EndsEarly e)
  unfound-early {T = T} told e old new answers fresh fails s is none =
      absurd (found-of (volume_disk disk old) s told.name is.file [] is.named e fails (unfailed-of {T = T} disk e old new answers fresh)
      none)

  -- a volume that was only looked at
  pub preserves-looked : {T : Type 0} (files : List FileToMove) (most : ℕ) (result : Result T RtRefusal) (old new : RtAccepted D met)
      → Looked (volume_disk disk old) (volume_disk disk new) most (faults_in result) → has_failed new ≡ is_device_fault result
      → Preserves files disk most result old new
  preserves-looked files most result old new looked next = record {
    went = went_looked (λ image. AreTold files (volume_store disk old) → SparesFiles (volume_disk disk old) image) looked;
    next = next;
    kept = λ none s is. record {
      sound = sound-looked looked s;
      same = λ name. ap (λ (i : Image). map facts_of (files_named name (rt_store_of i))) looked.image;
      places = λ name apart. ap (λ (i : Image). files_named name (rt_store_of i)) looked.image;
    };
  }

  -- one call after another
  pub preserves-more : {T U : Type 0} (files : List FileToMove) (m n : ℕ) (first : Result T RtRefusal) (result : Result U RtRefusal)
      (old middle new : RtAccepted D met)
      → is_device_fault first ≡ false
      → Preserves files disk m first old middle → Preserves files disk n result middle new → Preserves files disk (m + n) result old new
  preserves-more files m n first result old middle new none one two = record {
    went = went_more (λ image. AreTold files (volume_store disk old) → SparesFiles (volume_disk disk old) image)
        (subst (λ faults. Went (λ image. AreTold files (volume_store disk old) → SparesFiles (volume_disk disk old) image)
        (volume_disk disk old)
        (volume_disk disk middle) m faults) (ap (λ (b : Bool). if b then 1 else 0) none) one.went)
        (went_weaker (λ image. AreTold files (volume_store disk middle) → SparesFiles (volume_disk disk middle) image)
        (λ image. AreTold files (volume_store disk old) → SparesFiles (volume_disk disk old) image)
        (λ image spares is s.
        let k = one.kept none s is in
        carried-stand (volume_store disk old) (volume_store disk middle) image
        (same-carried (volume_store disk old) (volume_store disk middle) k.same)
        (spares (all-still files (volume_store disk old) (volume_store disk middle) is k.same) k.sound)) two.went);
    next = two.next;
    kept = λ last s is.
        let k = one.kept none s is in
        let l = two.kept last k.sound (all-still files (volume_store disk old) (volume_store disk middle) is k.same) in
        record {
          sound = l.sound;
          same = λ name. l.same name ∙ k.same name;
          places = λ name apart. l.places name apart ∙ k.places name apart;
        };
  }

  -- as what else it is told, and how many transfers there are at most
  pub preserves-as : {T U : Type 0} (files : List FileToMove) (m n : ℕ) (first : Result T RtRefusal) (result : Result U RtRefusal)
      (old new : RtAccepted D met) → is_device_fault first ≡ is_device_fault result → m ≤ n → Preserves files disk m first old new
      → Preserves files disk n result old new
  preserves-as files m n first result old new same fewer p = record {
    went = went_within (λ image. AreTold files (volume_store disk old) → SparesFiles (volume_disk disk old) image)
        (subst (λ (b : Bool). Went (λ image. AreTold files (volume_store disk old) → SparesFiles (volume_disk disk old) image)
        (volume_disk disk old)
        (volume_disk disk new) m (if b then 1 else 0)) same p.went) fewer;
    next = p.next ∙ same;
    kept = λ none s is. p.kept (same ∙ none) s is;
  }

  -- of files among which one is
  pub preserves-one : {T : Type 0} (files : List FileToMove) (k : ℕ) (told : FileToMove) (most : ℕ) (result : Result T RtRefusal)
      (old new : RtAccepted D met) → slice_get files k ≡ Some told → Preserves (told ∷ []) disk most result old new
      → Preserves files disk most result old new
  preserves-one files k told most result old new at p = record {
    went = went_weaker (λ image. AreTold (told ∷ []) (volume_store disk old) → SparesFiles (volume_disk disk old) image)
        (λ image. AreTold files (volume_store disk old) → SparesFiles (volume_disk disk old) image)
        (λ image spares are. spares (told-alone told (volume_store disk old) (are k told at))) p.went;
    next = p.next;
    kept = λ none s are.
        let l = p.kept none s (told-alone told (volume_store disk old) (are k told at)) in
        record { sound = l.sound; same = l.same; places = λ name apart. l.places name (none-alone told name (apart k told at)) };
  }

  -- a file was moved
  pub preserves-moved : (told : FileToMove) (old new : RtAccepted D met)
      → Went (SparesWhile told.name told.blocks told.protected (volume_disk disk old)) (volume_disk disk old) (volume_disk disk new)
      (move_transfers told.blocks) 0
      → has_failed new ≡ false
      → Moves told.name told.scratch told.blocks told.date told.protected (volume_disk disk old) (volume_disk disk new)
      → Preserves {T = Option RtRefusal} (told ∷ []) disk (move_transfers told.blocks) (Ok None) old new
  preserves-moved told old new went next moves = record {
    went = went_weaker (SparesWhile told.name told.blocks told.protected (volume_disk disk old))
        (λ image. AreTold (told ∷ []) (volume_store disk old) → SparesFiles (volume_disk disk old) image)
        (λ image spares are. spares (told-only told (volume_store disk old) (are 0 told refl))) went;
    next = next;
    kept = λ none s are.
        let is = are 0 told refl in
        let m = moves.moved s (told-only told (volume_store disk old) is) in
        record {
          sound = moves.sound s;
          same = moved-same told (volume_store disk old) (volume_store disk new) is m;
          places = λ name apart. let a = apart 0 told refl in m.others name a.0 a.1;
        };
  }

  -- or was refused
  pub preserves-unmoved : (told : FileToMove) (e : RtRefusal) (old new : RtAccepted D met)
      → Went (SparesWhile told.name told.blocks told.protected (volume_disk disk old)) (volume_disk disk old) (volume_disk disk new)
      (move_transfers told.blocks) (faults_in {T = Unit} (Err e))
      → has_failed new ≡ is_fault e
      → FailsToMove told.name told.scratch told.blocks told.protected e (volume_disk disk old) (volume_disk disk new)
      → Preserves {T = Option RtRefusal} (told ∷ []) disk (move_transfers told.blocks) (Err e) old new
  preserves-unmoved told e old new went next fails = record {
    went = went_weaker (SparesWhile told.name told.blocks told.protected (volume_disk disk old))
        (λ image. AreTold (told ∷ []) (volume_store disk old) → SparesFiles (volume_disk disk old) image)
        (λ image spares are. spares (told-only told (volume_store disk old) (are 0 told refl))) went;
    next = next;
    kept = λ none s are.
        let stays = fails.stays s (told-only told (volume_store disk old) (are 0 told refl)) none in
        record {
          sound = record {
            honest = went.honest ∙ s.honest;
            accepted = subst IsRtAccepted (sym stays) s.accepted;
          };
          same = λ name. ap (λ (i : Image). map facts_of (files_named name (rt_store_of i))) stays;
          places = λ name apart. ap (λ (i : Image). files_named name (rt_store_of i)) stays;
        };
  }

  -- a file that was moved once, and tried once more
  pub tries-twice : (told : FileToMove) (n : ℕ) (first result : Result (Option RtRefusal) RtRefusal) (old middle new : RtAccepted D met)
      → first ≡ Ok None → Preserves (told ∷ []) disk n first old middle
      → OnSound (IsTold told) (volume_disk disk old) (Tries told first (volume_disk disk old) (volume_disk disk middle))
      → OnSound (IsTold told) (volume_disk disk middle) (Tries told result (volume_disk disk middle) (volume_disk disk new))
      → OnSound (IsTold told) (volume_disk disk old) (TriesBy way.Twice told result (volume_disk disk old) (volume_disk disk new))
  tries-twice told n first result old middle new moved one once again s is =
      let k = one.kept (ap is_device_fault moved) s (told-alone told (volume_store disk old) is) in
      let there : IsMovedThere told (volume_disk disk old) (volume_disk disk middle) =
      subst (λ (r : Result (Option RtRefusal) RtRefusal). Tries told r (volume_disk disk old) (volume_disk disk middle)) moved
      (once s is) in
      by result k there (again k.sound (told-still told (volume_store disk old) (volume_store disk middle) is k.same))
    where
      by : (r : Result (Option RtRefusal) RtRefusal) → KeepsAllFiles (told ∷ []) (volume_disk disk old) (volume_disk disk middle)
          → IsMovedThere told (volume_disk disk old) (volume_disk disk middle)
          → Tries told r (volume_disk disk middle) (volume_disk disk new)
          → TriesBy way.Twice told r (volume_disk disk old) (volume_disk disk new)
      by (Ok None) k there again =
          let last = stood-last
          (λ (image : Image). AreTold (told ∷ []) (volume_store disk old) → SparesFiles (volume_disk disk old) image) told.name told.scratch
          one.went there.copied in
          record {
            middle = volume_disk disk middle;
            before = last.0;
            stood = last.1;
            first = there;
            kept = k;
            second = again;
          }
      by (Ok (Some e)) k copied again = again
      by (Err e) k copied again = again

  -- So many files were brought to lower blocks, or not.
  pub record SqueezedSoFar (files : List FileToMove) (i : ℕ) (outcomes : List Squeezed) (old now : RtAccepted D met) : Type 0 where
    pub preserves : Preserves {T = Unit} files disk (sum_by file_transfers (take i files)) (Ok tt) old now
    pub count : length outcomes ≡ i
    pub squeezes : OnSound (AreTold files) (volume_disk disk old) (SqueezesEach (take i files) outcomes (volume_disk disk old)
        (volume_disk disk now))

  pub squeezed-none : (files : List FileToMove) (old : RtAccepted D met) → has_failed old ≡ false → SqueezedSoFar files 0 [] old old
  squeezed-none files old fresh = record {
    preserves = preserves-looked {T = Unit} files 0 (Ok tt) old old (looked_none (volume_disk disk old)) fresh;
    count = refl;
    squeezes = λ s are. SqueezesEach.none (volume_disk disk old);
  }

  -- one file more
  pub squeezed-one : {T : Type 0} (files : List FileToMove) (i : ℕ) (outcomes : List Squeezed) (told : FileToMove)
      (result : Result T RtRefusal)
      (old now new : RtAccepted D met) → i < length files → told ≡ get_or files i told → SqueezedSoFar files i outcomes old now
      → Preserves (told ∷ []) disk (file_transfers told) result now new
      → Preserves files disk (sum_by file_transfers (take i files) + file_transfers told) result old new
  squeezed-one files i outcomes told result old now new inside is so-far p =
      preserves-more files (sum_by file_transfers (take i files)) (file_transfers told) (Ok tt) result old now new refl so-far.preserves
      (preserves-one files i told (file_transfers told) result now new
      (slice_get_read files (length files) i told refl inside is) p)

  -- the next file is as it is told, on a sound disk, where all were so before
  pub next-told : (files : List FileToMove) (i : ℕ) (outcomes : List Squeezed) (told : FileToMove) (old now : RtAccepted D met)
      → i < length files → told ≡ get_or files i told → SqueezedSoFar files i outcomes old now
      → OnSound (AreTold files) (volume_disk disk old) (IsSoundDisk (volume_disk disk now) × IsTold told (volume_store disk now))
  next-told files i outcomes told old now inside is so-far s are =
      let k = so-far.preserves.kept refl s are in (
        k.sound,
        told-still told (volume_store disk old) (volume_store disk now)
            (are i told (slice_get_read files (length files) i told refl inside is)) k.same,
      )

  -- what ends early at it
  pub squeezed-early : (files : List FileToMove) (i : ℕ) (outcomes : List Squeezed) (told : FileToMove) (e : RtRefusal)
      (old now : RtAccepted D met) → i < length files → told ≡ get_or files i told → SqueezedSoFar files i outcomes old now
      → OnSound (IsTold told) (volume_disk disk now) (EndsEarly e) → OnSound (AreTold files) (volume_disk disk old) (EndsEarly e)
  squeezed-early files i outcomes told e old now inside is so-far early s are =
      let t = next-told files i outcomes told old now inside is so-far s are in early t.0 t.1

  pub squeezed-more : (files : List FileToMove) (i : ℕ) (outcomes : List Squeezed) (told : FileToMove) (outcome : Squeezed)
      (old now new : RtAccepted D met) → i < length files → told ≡ get_or files i told → SqueezedSoFar files i outcomes old now
      → Preserves {T = Squeezed} (told ∷ []) disk (file_transfers told) (Ok outcome) now new
      → OnSound (IsTold told) (volume_disk disk now) (SqueezesOne told outcome (volume_disk disk now) (volume_disk disk new))
      → SqueezedSoFar files (i + 1) (outcomes ++ outcome ∷ []) old new
  squeezed-more files i outcomes told outcome old now new inside is so-far p squeezes = record {
    preserves =
        subst (λ n. Preserves {T = Unit} files disk n (Ok tt) old new)
        (ap (λ (f : FileToMove). sum_by file_transfers (take i files) + file_transfers f) is
        ∙ sym (sum_by_more file_transfers files i told inside))
        (preserves-as {T = Squeezed} {U = Unit} files (sum_by file_transfers (take i files) + file_transfers told)
        (sum_by file_transfers (take i files) + file_transfers told) (Ok outcome) (Ok tt) old new refl (omega arith)
        (squeezed-one files i outcomes told (Ok outcome) old now new inside is so-far p));
    count = length-append outcomes (outcome ∷ []) ∙ ap (λ n. n + 1) so-far.count;
    squeezes = λ s are.
        let t = next-told files i outcomes told old now inside is so-far s are in
        subst (λ (fs : List FileToMove). SqueezesEach fs (outcomes ++ outcome ∷ []) (volume_disk disk old) (volume_disk disk new))
        (ap (λ (f : FileToMove). take i files ++ f ∷ []) is ∙ sym (take_more files i told inside))
        (squeezes-more told outcome (volume_disk disk new) (so-far.squeezes s are) (squeezes t.0 t.1));
  }
