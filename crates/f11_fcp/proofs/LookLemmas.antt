-- A directory of a volume that is looked through, block by block.
use Rattle.std.proofs.Common.{◌≡◌, ℕ, ◌+◌, ◌-◌, ◌*◌, ◌/◌, ◌<◌, ◌≤◌, Bool, false, IsTrue, List, [], Option, Some, None, min, option_map}
use Rattle.std.proofs.Common.{IfSome, position, sym, ◌∙◌, ap, subst, arith}
use Rattle.std.specs.List.{slice_get}
use Rattle.std.proofs.lemmas.Nat.{mul-le}
use Rattle.f11_dev.specs.Disk.{Disk}
use Rattle.f11_dev.proofs.LookedLemmas.{looked_none}
use Rattle.f11_home.specs.Home.{HomeFields}
use Rattle.f11_store.specs.declared.files.FileId.{FileId}
use Rattle.f11_store.specs.File.{File}
use Rattle.f11_store.specs.Causes.{first_of, is_missing}
use Rattle.f11_store.specs.Store.{Store, file_named}
use Rattle.f11_store.specs.declared.refusals.Refusal.{Refusal}
use Rattle.f11_store.specs.Directory.{is_empty, record_in, record_id}
use Rattle.f11_store.specs.Cost.{header_count}
use Rattle.f11_entries.specs.dir.Records.{records_in, place_of_name}
use Rattle.f11_files.specs.Answers.{FailsToRead, ReadsAtMost}
use Rattle.f11_files.specs.Finding.Blocks.{ReadsBlock}
use Rattle.f11_files.specs.Operations.{length_causes}
use Rattle.f11_files.specs.image_store.StoreOf.{store_of}
use Rattle.f11_files.proofs.AnswerLemmas.{reads-looked, reads-more, reads-within}
use Rattle.f11_entries.specs.Costs.{reading_cost}
use Rattle.f11_entries.specs.Seen.{here, first_place, LookedAt}
use Rattle.f11_entries.specs.Looks.{place_of, IsInHand, IsSpotOf}
use Rattle.f11_entries.specs.declared.spot.Spot.{Spot}
use Rattle.f11_entries.specs.declared.spot.Looked.TheVariants as looked
use Rattle.f11_entries.proofs.SeenLemmas.{looking_begins, looking_goes_on, looking_ends, name_is_found, block_is_there}
use Rattle.f11_entries.proofs.LookLemmas.{spot_known}
use Rattle.f11_chain.specs.declared.windows.Window.{Window}
use Rattle.f11_store.specs.declared.files.Mode.TheVariants as mode
use Rattle.f11_fcp.specs.Accesses.{Entry}
use Rattle.f11_fcp.specs.Directories.{IsDirectoryOf, LooksThroughDirectory}
use Rattle.f11_fcp.specs.Handles.{of_known}
use Rattle.f11_fcp.proofs.EntryLemmas.{blocks-first}
use Rattle.f11_fcp.proofs.KnownLemmas.{known-fails, known-length}

-- the directory
abbrev pub directory_in : HomeFields → FileId → Disk → File
directory_in home d old = file_named (store_of old.image home) d

-- what is held of it while it is looked through
abbrev pub held_by : FileId → Window → Entry
held_by d w = record { file = d; mode = mode.Read; marked = false; window = w }

-- so many of its blocks were looked at
pub record IsThrough (home : HomeFields) (d : FileId) (name : List ℕ) (number : ℕ) (empty : Option Spot) (block : List ℕ) (old now : Disk) :
    Type 0 where
  pub known : IsTrue old.honest
      → LookedAt name (directory_in home d old) number (option_map place_of empty) × IfSome empty (IsInHand (directory_in home d old))
  pub last : IsTrue old.honest → 0 < number → slice_get (directory_in home d old).blocks (number - 1) ≡ Some block
  pub reads : ReadsAtMost (number * (header_count (directory_in home d old) + 1)) old now 0

pub through-begins : (home : HomeFields) (d : FileId) (name block : List ℕ) (old : Disk) → IsThrough home d name 0 None block old old
through-begins home d name block old = record {
  known = λ sure. (looking_begins name (directory_in home d old), tt);
  last = λ sure some. absurd (omega (arith, some));
  reads = reads-within (omega arith) (reads-looked (looked_none old));
}

module _ {home : HomeFields} {d : FileId} {name : List ℕ} {count number : ℕ} {empty : Option Spot} {before : List ℕ} {old now : Disk}
    (there : IsTrue old.honest → IsDirectoryOf count (store_of old.image home) d) (more : 32 * number < count)
    (through : IsThrough home d name number empty before old now)
  where
    abbrev f : File
    f = directory_in home d old

    -- it is as it was
    pub same-directory : directory_in home d now ≡ f
    same-directory = ap (λ i. file_named (store_of i home) d) through.reads.looked.image

    reads-on : {faults : ℕ} {next : Disk} → ReadsAtMost (header_count (directory_in home d now) + 1) now next faults
        → ReadsAtMost ((number + 1) * (header_count f + 1)) old next faults
    reads-on {faults = faults} {next = next} read =
        let sum : number * (header_count f + 1) + (header_count f + 1) ≤ (number + 1) * (header_count f + 1) = omega arith in
        reads-within sum (reads-more through.reads
        (subst (λ (g : File). ReadsAtMost (header_count g + 1) now next faults) same-directory read))

    -- it is there still
    pub still-there : IsTrue now.honest → is_missing (store_of now.image home) d ≡ false
    still-there sure =
        subst (λ (s : Store). is_missing s d ≡ false) (sym (ap (λ i. store_of i home) through.reads.looked.image))
        (there (sym through.reads.looked.honest ∙ sure)).there

    -- no more than for all records
    pub through-stops : {faults : ℕ} {next : Disk} → ReadsAtMost (header_count (directory_in home d now) + 1) now next faults
        → ReadsAtMost (reading_cost f count) old next faults
    through-stops read =
        reads-within (mul-le (number + 1) (header_count f + 1) ((count + 31) / 32) (header_count f + 1) (omega (arith, more)) (omega arith))
        (reads-on read)

    -- its next block wasn't read
    next-there : IsTrue now.honest → first_of (length_causes (store_of now.image home) d (number + 1)) ≡ None
    next-there sure =
        let honest : IsTrue old.honest = sym through.reads.looked.honest ∙ sure in
        let counted = (there honest).count_is in
        let within = block_is_there f number (omega (arith, more, counted)) in
        let same : store_of now.image home ≡ store_of old.image home = ap (λ i. store_of i home) through.reads.looked.image in
        subst (λ (s : Store). first_of (length_causes s d (number + 1)) ≡ None) (sym same)
        (blocks-first (store_of old.image home) d (number + 1) (record { there = (there honest).there; more = omega (arith, within) }))

    pub through-fails : {failed : Bool} {next : Disk} (e : Refusal) → failed ≡ false
        → FailsToRead failed (length_causes (store_of now.image home) d (number + 1)) (header_count (directory_in home d now) + 1) e now
        next
        → FailsToRead false [] (reading_cost f count) (of_known e) old next
    through-fails e alive fails =
        let known = known-fails {others = []} (length_causes (store_of now.image home) d (number + 1)) e alive
        (known-length (store_of now.image home) d (number + 1) e) next-there fails in
        record {
          right = record {
            volume = known.right.volume;
            among = known.right.among;
            cause = λ honest. known.right.cause (through.reads.looked.honest ∙ honest);
            undamaged = λ honest. known.right.undamaged (through.reads.looked.honest ∙ honest);
          };
          reads = through-stops known.reads;
        }

    module _ {block : List ℕ} {upto : ℕ} {next : Disk} (upto-is : upto ≡ min (count - 32 * number) 32)
        (read : ReadsBlock home d (number + 1) block now next) where
      -- the block that was read
      here-is : IsTrue old.honest → slice_get f.blocks number ≡ Some block
      here-is sure =
          let place : number ≡ number + 1 - 1 = omega arith in
          ap (λ (g : File). slice_get g.blocks number) (sym same-directory) ∙ ap (slice_get (directory_in home d now).blocks) place
          ∙ read.block_is (subst IsTrue (sym through.reads.looked.honest) sure)

      pub through-goes-on : {after : Option Spot} → None ≡ place_of_name name block upto
          → option_map place_of after ≡ first_place (32 * number) (option_map place_of empty) (position is_empty (records_in block upto))
          → IsSpotOf empty number block after
          → IsThrough home d name (number + 1) after block old next
      through-goes-on {after = after} lacks place spot = record {
        known = λ sure.
            let counted = (there sure).count_is in
            let same : here f number ≡ upto = (rw counted (omega (arith, upto-is))) in (
              subst (λ (o : Option ℕ). LookedAt name f (number + 1) o)
                  (sym (place ∙ ap (λ n. first_place (32 * number) (option_map place_of empty) (position is_empty (records_in block n)))
                  (sym same)))
                  (looking_goes_on name f number (option_map place_of empty) block (through.known sure).0 (omega (arith, more, counted))
                  (here-is sure) (ap (place_of_name name block) same ∙ sym lacks)),
              spot_known f number block empty after (here-is sure) spot (through.known sure).1,
            );
        last = λ sure some. let place : number + 1 - 1 ≡ number = omega arith in ap (slice_get f.blocks) place ∙ here-is sure;
        reads = reads-on read.reads;
      }

      pub through-finds : {spot : Spot} {id : FileId} → spot.number ≡ number → spot.block ≡ block
          → Some spot.place ≡ place_of_name name block upto
          → id ≡ record_id (record_in block spot.place)
          → LooksThroughDirectory home d name (looked.Found spot id) block (reading_cost f count) old next
      through-finds {spot = spot} {id = id} number-is block-is found says = record {
        tells = λ sure.
            let counted = (there sure).count_is in
            let same : here f number ≡ upto = (rw counted (omega (arith, upto-is))) in
            let first = name_is_found name f number spot.place (option_map place_of empty) block (through.known sure).0
            (omega (arith, more, counted)) (here-is sure) (ap (place_of_name name block) same ∙ sym found) in (
              rw (number-is, block-is) first,
              rw (number-is, block-is) (here-is sure),
              rw block-is says,
            );
        last_is = λ sure. tt;
        reads = through-stops read.reads;
      }

pub through-ends : {home : HomeFields} {d : FileId} {name : List ℕ} {count number : ℕ} {empty : Option Spot} {block : List ℕ}
    {old now : Disk}
    → (IsTrue old.honest → IsDirectoryOf count (store_of old.image home) d) → count ≤ 32 * number → number ≤ (count + 31) / 32
    → IsThrough home d name number empty block old now
    → LooksThroughDirectory home d name (looked.Absent empty) block (reading_cost (directory_in home d old) count) old now
through-ends {home = home} {d = d} {name = name} {count = count} {number = number} {empty = empty} {block = block} {old = old} there past
    few through = record {
      tells = λ sure. let counted = (there sure).count_is in (
        looking_ends name (directory_in home d old) number (option_map place_of empty) (through.known sure).0
            (omega (arith, past, counted)),
        (through.known sure).1,
      );
      last_is = λ sure some.
          let counted = (there sure).count_is in
          rw counted (
          let some' : 0 < count = omega (arith, some, counted) in
          let place : (count - 1) / 32 ≡ number - 1 = omega (arith, past, few, some') in
          ap (slice_get (directory_in home d old).blocks) place ∙ through.last sure (omega (arith, past, some')));
      reads = reads-within (mul-le number (header_count (directory_in home d old) + 1) ((count + 31) / 32)
          (header_count (directory_in home d old) + 1) few (omega arith)) through.reads;
    }

-- with the home block that the volume had
pub read-at-home : {h home : HomeFields} {d : FileId} {vbn : ℕ} {block : List ℕ} {old new : Disk} → h ≡ home
    → ReadsBlock h d vbn block old new → ReadsBlock home d vbn block old new
read-at-home {d = d} {vbn = vbn} {block = block} {old = old} {new = new} same read =
    subst (λ (x : HomeFields). ReadsBlock x d vbn block old new) same read

pub fails-at-home : {failed : Bool} {h home : HomeFields} (d : FileId) (vbn : ℕ) {e : Refusal} {old new : Disk} → h ≡ home
    → FailsToRead failed (length_causes (store_of old.image h) d vbn) (header_count (directory_in h d old) + 1) e old new
    → FailsToRead failed (length_causes (store_of old.image home) d vbn) (header_count (directory_in home d old) + 1) e old new
fails-at-home {failed = failed} d vbn {e = e} {old = old} {new = new} same fails =
    subst (λ (x : HomeFields). FailsToRead failed (length_causes (store_of old.image x) d vbn) (header_count (directory_in x d old) + 1) e
    old new) same fails
