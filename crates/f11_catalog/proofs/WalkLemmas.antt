-- Records that are read one after another, each of which gives places.
use Rattle.std.proofs.Common.{◌≡◌, ◌≢◌, ◌++◌, ◌≤◌, ℕ, Bool, true, false, IsTrue, List, [], ◌∷◌, Option, None, SomeIff, cond}
use Rattle.std.proofs.Common.{refl, sym, ap, subst, ◌∙◌, inl, inr, arith}
use Rattle.std.proofs.lemmas.Bool.{cases_Bool}
use Rattle.std.proofs.lemmas.List.Concat.{flat_map-cons}
use Rattle.std.specs.Bool.{Decides}
use Rattle.std.specs.List.{flat_map}
use Rattle.f11_chain.specs.Calls.{table}
use Rattle.f11_dev.specs.Disk.{Disk}
use Rattle.f11_dev.specs.Image.{Image}
use Rattle.f11_dir.specs.Records.{record_of_bytes}
use Rattle.f11_dir.specs.declared.record.Record.{Record}
use Rattle.f11_index.specs.IndexFile.{Index}
use Rattle.f11_index.specs.Table.{Table}
use Rattle.f11_rad50.specs.Name.{IsName}
use Rattle.f11_store.specs.Directory.{record_id, record_name}
use Rattle.f11_store.specs.declared.files.FileId.{FileId}
use Rattle.f11_volume.specs.Notes.{IsIdOf}
use Rattle.f11_catalog.specs.AllDirectories.{directory_by, directory_under}
use Rattle.f11_catalog.specs.AllFiles.{id_of, place_entered}
use Rattle.f11_catalog.specs.Contents.{Holds}
use Rattle.f11_catalog.specs.Lines.{name_found}
use Rattle.f11_catalog.specs.Records.{HasNoRecord, Reads, ReadsRecord}
use Rattle.f11_catalog.specs.Records.{file_found, is_id_of_file, records_to_come}
use Rattle.f11_catalog.specs.Steps.{ComesTo, EntersNone, HasNoneLeft}
use Rattle.f11_catalog.specs.Walking.{EntersOne, HoldsAt, OpensAt}
use Rattle.f11_catalog.specs.declared.directory.DirectoryReader.{DirectoryReader}
use Rattle.f11_catalog.specs.declared.directory_name.DirectoryName.{DirectoryName}
use Rattle.f11_catalog.specs.declared.walk.content.Content.{Content}
use Rattle.f11_catalog.specs.declared.walk.content.Content.TheVariants.{File, Missing, OutOfUse}
use Rattle.f11_catalog.specs.declared.walk.place.FileAt.{FileAt}
use Rattle.f11_catalog.specs.declared.walk.place.Place.{Place}
use Rattle.f11_catalog.specs.declared.walk.place.Place.TheVariants.{Entered}
use Rattle.f11_catalog.proofs.ComingLemmas.{tested-id}
use Rattle.f11_catalog.proofs.DirectoryLemmas.{by-no-name}
use Rattle.f11_catalog.proofs.LineLemmas.{found-is, id-is, is-empty}
use Rattle.f11_catalog.proofs.ListingLemmas.{coming-later, reads-none, reads-then, said-later}

-- an identification of no file fails the test
pub id-fails : (t : Table) (id : FileId) → ((n : ℕ) → ¬ IsIdOf t id n) → is_id_of_file t id ≡ false
id-fails t id none = elim (cases_Bool (is_id_of_file t id)) [
  | inl passes ↦ absurd (none id.number (tested-id t id passes))
  | inr fails ↦ fails
]

-- what was read to find what stands under an identification
pub holds-reads : (index wide : Index) (id : FileId) (content : Content) (old new : Disk) → Holds index wide id content old new
    → Reads old new 0
holds-reads index wide id (File file) old new opens = reads-then opens.before (_, opens.opens.looked)
holds-reads index wide id (OutOfUse file) old new opens = reads-then opens.opens.before (_, opens.opens.opens.looked)
holds-reads index wide id (Missing absence) old new lacks = lacks.reads

-- A record that was read.
module _ (bytes : List ℕ) (r : Record) (is : r ≡ record_of_bytes bytes) (name : DirectoryName) (index wide : Index) where
  abbrev place : Image → Table → List Place
  place image t = place_entered name bytes

  -- of a directory: an empty one
  pub empty-entered : (disk : Disk) (b : Bool) → Decides b (r.id.number ≡ 0) → b ≡ true → EntersNone place index disk disk
  empty-entered disk b decides empty = record {
    none = λ honest. ap (λ (b : Bool). cond b [] (Entered name (name_found (record_name bytes)) (record_id bytes) ∷ []))
        (is-empty bytes r is b decides ∙ empty);
    reads = reads-none disk;
  }

  -- or another one
  pub record-entered : (found : FileAt) (words : Option (List ℕ)) (b : Bool) → Decides b (r.id.number ≡ 0) → b ≡ false
      → SomeIff words ((r.id.number ≢ 0) × IsName r.words) r.words → found.place ≡ Entered name words r.id → (old new : Disk)
      → Holds index wide r.id found.content old new → EntersOne place index wide found old new
  record-entered found words b decides some named at old new holds = record {
    one = λ honest.
        ap (λ (b : Bool). cond b [] (Entered name (name_found (record_name bytes)) (record_id bytes) ∷ []))
        (is-empty bytes r is b decides ∙ some)
        ∙ ap (λ (ws : Option (List ℕ)). Entered name ws (record_id bytes) ∷ []) (sym (found-is bytes r is words number named))
        ∙ ap (λ (id : FileId). Entered name words id ∷ []) (sym (id-is bytes r is))
        ∙ ap (λ (p : Place). p ∷ []) (sym at);
    holds = record { mid = old; before = reads-none old; holds = rw at holds };
  }
    where
      number : r.id.number ≢ 0
      number none = let no : true ≡ false = sym (decides.1 none) ∙ some in absurd cc

-- A record of the master file directory that has no name.
pub no-name-directory : (bytes : List ℕ) (r : Record) → r ≡ record_of_bytes bytes → (index wide : Index) (disk : Disk)
    → SomeIff None ((r.id.number ≢ 0) × IsName r.words) r.words → EntersNone (λ image t. directory_under wide image t bytes) index disk disk
no-name-directory bytes r is index wide disk named = record {
  none = λ honest.
      by-no-name bytes r is [] (λ id. directory_by (file_found wide disk.image (table index disk) id) id) named (λ id. refl);
  reads = reads-none disk;
}

-- So many records were read, none of which gives a place, or a directory.
pub record Passed {X : Type 0} (places : Image → Table → List ℕ → List X) (index : Index) (first here : DirectoryReader) (old now : Disk)
    : Type 0 where
  pub rest : IsTrue old.honest → flat_map (places old.image (table index old)) (records_to_come index old first)
      ≡ flat_map (places old.image (table index old)) (records_to_come index old here)
  pub no_more : here.left ≤ first.left
  pub reads : Reads old now 0

module _ {X : Type 0} (places : Image → Table → List ℕ → List X) (index : Index) where
  pub passed-none : (first : DirectoryReader) (disk : Disk) → Passed places index first first disk disk
  passed-none first disk = record { rest = λ _. refl; no_more = omega arith; reads = reads-none disk }

  module _ (first here : DirectoryReader) (old now : Disk) (passed : Passed places index first here old now) where
    abbrev given : List ℕ → List X
    given = places old.image (table index old)

    -- one more is read
    module _ (later : DirectoryReader) (r : Record) (mid : Disk) (read : ReadsRecord index here later r now mid) where
      pub before-mid : Reads old mid 0
      before-mid = reads-then passed.reads read.reads

      honest-mid : IsTrue old.honest → IsTrue mid.honest
      honest-mid honest = before-mid.1.honest ∙ honest

      same-mid : places mid.image (table index mid) read.bytes ≡ given read.bytes
      same-mid = said-later (λ image t. places image t read.bytes) index before-mid.1

      step : IsTrue old.honest → flat_map given (records_to_come index old first)
          ≡ given read.bytes ++ flat_map given (records_to_come index old later)
      step honest =
          let image : now.image ≡ old.image = passed.reads.1.image in
          passed.rest honest
          ∙ ap (flat_map given) (sym (coming-later index old now here image) ∙ read.next (passed.reads.1.honest ∙ honest)
          ∙ ap (λ rs. read.bytes ∷ rs) (coming-later index old now later image))
          ∙ flat_map-cons given read.bytes (records_to_come index old later)

      -- it gives no place
      pub passed-on : (next : Disk) → EntersNone (λ image t. places image t read.bytes) index mid next
          → Passed places index first later old next
      passed-on next none = record {
        rest = λ honest. step honest
            ∙ ap (λ ps. ps ++ flat_map given (records_to_come index old later)) (sym same-mid ∙ none.none (honest-mid honest));
        no_more = omega (arith, passed.no_more, read.shorter);
        reads = reads-then before-mid none.reads;
      }

      -- or these
      pub passed-to : (next : Disk) (front : List X)
          → (IsTrue mid.honest → places mid.image (table index mid) read.bytes ≡ front) → Reads mid next 0
          → ComesTo places index front first later old next
      passed-to next front gives reads = record {
        next = λ honest. step honest
            ∙ ap (λ ps. ps ++ flat_map given (records_to_come index old later)) (sym same-mid ∙ gives (honest-mid honest));
        fewer = omega (arith, passed.no_more, read.shorter);
        reads = reads-then before-mid reads;
      }

    -- none is left
    pub passed-all : (new : Disk) → HasNoRecord index here now new → HasNoneLeft places index first old new
    passed-all new none = record {
      none = λ honest. passed.rest honest
          ∙ ap (flat_map given) (sym (coming-later index old now here passed.reads.1.image) ∙ none.none (passed.reads.1.honest ∙ honest));
      reads = reads-then passed.reads none.reads;
    }

-- a file was opened behind what was read
pub opens-behind : (index : Index) (found : FileAt) (old mid new : Disk) → Reads old mid 0 → OpensAt index found mid new
    → OpensAt index found old new
opens-behind index found old mid new reads opens = record {
  file = opens.file;
  content = opens.content;
  opens = record { mid = opens.opens.mid; before = reads-then reads opens.opens.before; opens = opens.opens.opens };
}

-- so was what stands in a place
pub holds-behind : (index wide : Index) (found : FileAt) (old mid new : Disk) → Reads old mid 0 → HoldsAt index wide found mid new
    → HoldsAt index wide found old new
holds-behind index wide found old mid new reads holds =
    record { mid = holds.mid; before = reads-then reads holds.before; holds = holds.holds }

-- a file that was found stands there
pub opens-holds : (index wide : Index) (found : FileAt) (old new : Disk) → OpensAt index found old new → HoldsAt index wide found old new
opens-holds index wide found old new opens = record {
  mid = old;
  before = reads-none old;
  holds = subst (λ (c : Content). Holds index wide (id_of found.place) c old new) (sym opens.content) opens.opens;
}

-- what was looked at for it
pub at-reads : (index wide : Index) (found : FileAt) (old new : Disk) → HoldsAt index wide found old new → Reads old new 0
at-reads index wide found old new holds =
    reads-then holds.before (holds-reads index wide (id_of found.place) found.content holds.mid new holds.holds)
