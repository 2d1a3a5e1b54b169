-- The lines of `home` (profile).
use Rattle.std.specs.Prelude.{◌⊎◌, ◌++◌, ◌∷◌, [], ℕ, List, Option, codes}
use Rattle.std.specs.Fmt.{decimal}
use Rattle.std.specs.Io.KnownBytes.{Keeps}
use Rattle.f11_dev.specs.Disk.{Disk}
use Rattle.f11_home.specs.Home.{FailsToFind, FindsHome, FindsNoHome, HomeFields}
use Rattle.f11_commands.specs.DumpCommand.{fault_line}
use Rattle.f11_commands.specs.Label.{label_text}
use Rattle.f11_commands.specs.Output.{WriterTakes}
use Rattle.f11_commands.specs.declared.volume.VolumeFault.TheVariants.{NoHome}

-- The line of a home block: its LBN, the label, the LBN and the number of blocks of the index file's bitmap, and the
-- greatest number of files.
abbrev pub home_line : HomeFields → List ℕ
home_line home = codes "home " ++ (decimal home.lbn ++ (codes " label " ++ (label_text home.label
    ++ (codes " index " ++ (decimal home.index_lbn ++ (codes " " ++ (decimal home.index_blocks
    ++ (codes " max " ++ (decimal home.max_files ++ 10 ∷ [])))))))))

-- the line where there is no home block
abbrev pub no_home_line : List ℕ
no_home_line = fault_line NoHome

-- The home block was found, and its line written.
pub record PrintsHome {D W : Type 0} (disk : D → Disk) (old new : D) (contents : W → Option (List ℕ)) (before after : W) : Type 0 where
  pub home : HomeFields
  pub finds : FindsHome (disk old) (disk new) home
  pub takes : WriterTakes contents before after (home_line home)

-- There is none, and that was written.
pub record PrintsNoHome {D W : Type 0} (disk : D → Disk) (old new : D) (contents : W → Option (List ℕ)) (before after : W) : Type 0 where
  pub finds : FindsNoHome (disk old) (disk new)
  pub takes : WriterTakes contents before after no_home_line

-- A transfer failed, and nothing was written.
pub record FailsToPrintHome {D W : Type 0} (disk : D → Disk) (old new : D) (contents : W → Option (List ℕ))
    (before after : W) : Type 0 where
  pub finds : FailsToFind (disk old) (disk new)
  pub keeps : Keeps (contents before) (contents after)

-- the home block was found, or there is none
abbrev pub FindsHomeOrNone : Disk → Disk → Type 0
FindsHomeOrNone old new = ((home : HomeFields) × FindsHome old new home) ⊎ FindsNoHome old new
