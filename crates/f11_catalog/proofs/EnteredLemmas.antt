-- What directories name, one record after another.
use Rattle.std.proofs.Common.{◌≡◌, ◌++◌, ℕ, List, ◌∷◌, Option, Some, None, IfSome, refl, sym, ap, ◌∙◌, arith}
use Rattle.std.specs.List.{flat_map}
use Rattle.f11_chain.specs.Calls.{table}
use Rattle.f11_dev.specs.Disk.{Disk}
use Rattle.f11_dev.specs.Image.{Image}
use Rattle.f11_index.specs.IndexFile.{Index}
use Rattle.f11_index.specs.Table.{table_in}
use Rattle.f11_reader.proofs.ReadLemmas.{holds-on}
use Rattle.f11_catalog.specs.AllDirectories.{DirectoryAt}
use Rattle.f11_catalog.specs.AllFiles.{places_entered, places_in}
use Rattle.f11_catalog.specs.GoingOver.{IsReadingMaster, directories_to_come}
use Rattle.f11_catalog.specs.Records.{IsReadingFound, Reads, index_by}
use Rattle.f11_catalog.specs.Walking.{EntersFile, EntersNoMore, StaysToCome, entered_to_come, hand_to_come}
use Rattle.f11_catalog.specs.declared.found.FoundDirectory.{FoundDirectory}
use Rattle.f11_catalog.specs.declared.walk.place.FileAt.{FileAt}
use Rattle.f11_catalog.specs.declared.walk.place.Place.{Place}
use Rattle.f11_catalog.specs.declared.walk.state.OpenDirectory.{OpenDirectory}
use Rattle.f11_catalog.specs.declared.walk.state.EnteredFiles.{EnteredFiles}
use Rattle.f11_catalog.proofs.GoingLemmas.{directories-later}
use Rattle.f11_catalog.proofs.ListingLemmas.{coming-later, reads-none, reads-then}
use Rattle.f11_catalog.proofs.WalkLemmas.{holds-behind}

-- what these directories name
abbrev named_in : Index → Index → Disk → List DirectoryAt → List Place
named_in index wide disk directories = flat_map (places_in wide disk.image (table index disk)) directories

-- The same files are to come where the image is the same.
module _ (index wide : Index) (old now : Disk) (image : now.image ≡ old.image) where
  pub hand-later : (hand : Option OpenDirectory) → hand_to_come index wide now hand ≡ hand_to_come index wide old hand
  hand-later None = refl
  hand-later (Some hand) =
      ap (places_entered hand.name) (coming-later (index_by hand.found.in_use index wide) old now hand.found.directory image)

  pub entered-later : (files : EnteredFiles) → entered_to_come index wide now files ≡ entered_to_come index wide old files
  entered-later files =
      ap (λ (ps : List Place). ps ++ named_in index wide now (directories_to_come index wide now files.directories)) (hand-later files.hand)
      ∙ ap (λ (ds : List DirectoryAt). hand_to_come index wide old files.hand ++ named_in index wide now ds)
      (directories-later index wide old now image files.directories)
      ∙ ap (λ (i : Image). hand_to_come index wide old files.hand
      ++ flat_map (places_in wide i (table_in i index)) (directories_to_come index wide old files.directories)) image

-- directories are still read where the disk was only looked at
pub hand-on : (index wide : Index) (hand : Option OpenDirectory) (old new : Disk) (faults : ℕ) → Reads old new faults
    → IfSome hand (λ h. IsReadingFound index wide h.found old) → IfSome hand (λ h. IsReadingFound index wide h.found new)
hand-on index wide None old new faults reads reading = reading
hand-on index wide (Some hand) old new faults reads reading = holds-on reads.1 reading

pub master-on : (index wide : Index) (master : Option FoundDirectory) (old new : Disk) (faults : ℕ) → Reads old new faults
    → IsReadingMaster index wide master old → IsReadingMaster index wide master new
master-on index wide None old new faults reads reading = reading
master-on index wide (Some master) old new faults reads reading = holds-on reads.1 reading

-- What is to come stays.
module _ (index wide : Index) where
  pub stays-none : (files : EnteredFiles) (disk : Disk) → StaysToCome index wide files files disk disk
  stays-none files disk = record { same = λ _. refl; no_more = omega arith; reads = reads-none disk }

  module _ (first here : EnteredFiles) (old now : Disk) (stays : StaysToCome index wide first here old now) where
    pub stays-then : (later : EnteredFiles) (new : Disk) → StaysToCome index wide here later now new
        → StaysToCome index wide first later old new
    stays-then later new more = record {
      same = λ honest.
          let image : now.image ≡ old.image = stays.reads.1.image in
          sym (entered-later index wide old now image later)
          ∙ more.same (stays.reads.1.honest ∙ honest)
          ∙ entered-later index wide old now image here
          ∙ stays.same honest;
      no_more = omega (arith, stays.no_more, more.no_more);
      reads = reads-then stays.reads more.reads;
    }

    pub enters-behind : (later : EnteredFiles) (found : FileAt) (new : Disk) → EntersFile index wide here later found now new
        → EntersFile index wide first later found old new
    enters-behind later found new enters = record {
      next = λ honest.
          let image : now.image ≡ old.image = stays.reads.1.image in
          sym (stays.same honest)
          ∙ sym (entered-later index wide old now image here)
          ∙ enters.next (stays.reads.1.honest ∙ honest)
          ∙ ap (λ ps. found.place ∷ ps) (entered-later index wide old now image later);
      fewer = omega (arith, stays.no_more, enters.fewer);
      holds = holds-behind index wide found old now new stays.reads enters.holds;
    }

    pub no-more-behind : (later : EnteredFiles) (new : Disk) → EntersNoMore index wide here later now new
        → EntersNoMore index wide first later old new
    no-more-behind later new none = record {
      none = λ honest.
          sym (stays.same honest)
          ∙ sym (entered-later index wide old now stays.reads.1.image here)
          ∙ none.none (stays.reads.1.honest ∙ honest);
      ended = λ honest.
          sym (entered-later index wide old now stays.reads.1.image later) ∙ none.ended (stays.reads.1.honest ∙ honest);
      no_more = omega (arith, stays.no_more, none.no_more);
      reads = reads-then stays.reads none.reads;
    }
