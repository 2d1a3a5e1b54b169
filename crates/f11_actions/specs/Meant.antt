-- Which names of a directory a pattern chooses, of a volume that is faulty or not (profile).
use Rattle.std.specs.Prelude.{ℕ, List, Ok}
use Rattle.f11_dev.specs.Disk.{Disk}
use Rattle.f11_commands.specs.DirectoryNames.{FindsNames}
use Rattle.f11_patterns.specs.Chosen.{AreChosen, AreMeant}
use Rattle.f11_patterns.specs.Parts.{Parts}
use Rattle.f11_patterns.specs.declared.choose.Choice.{Choice}

-- A directory has these names, and those are chosen.
pub record ChoosesNames (choice : Choice) (parts : Parts) (directory : List ℕ) (names those : List (List ℕ)) (old new : Disk) : Type 0 where
  pub found : FindsNames directory (Ok names) old new
  pub chosen : AreChosen choice parts names those

-- Those are meant, of the names that a directory has.
pub record MeansNames (parts : Parts) (directory : List ℕ) (those : List (List ℕ)) (old new : Disk) : Type 0 where
  pub names : List (List ℕ)
  pub found : FindsNames directory (Ok names) old new
  pub meant : AreMeant parts names those
