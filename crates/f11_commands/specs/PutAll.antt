-- What `put --all` does beside `put --each`: directories are made on the mounted volume, and lines name the directory of a file (profile).
use Rattle.std.specs.Prelude.{◌≡◌, ◌⊎◌, ℕ, List, [], ◌∷◌, codes, Option, Some, None, Result, Ok, Err, is_ok}
use Rattle.std.specs.Fmt.{decimal}
use Rattle.std.specs.List.{concat}
use Rattle.f11_catalog.specs.DirectoryNames.{directory_text}
use Rattle.f11_catalog.specs.declared.directory_name.DirectoryName.{DirectoryName}
use Rattle.f11_dev.specs.declared.device.Device.{Ghosts}
use Rattle.f11_flx.specs.Refusal.{flx_refusal_name}
use Rattle.f11_host.specs.declared.refusal.HostRefusal.{HostRefusal}
use Rattle.f11_host.specs.declared.refusal.HostRefusal.TheVariants.{Files}
use Rattle.f11_making.specs.Actions.{plan_of}
use Rattle.f11_making.specs.Carrying.{Carries}
use Rattle.f11_making.specs.declared.action.Action.TheVariants as action
use Rattle.f11_rad50.specs.Name.{name_text}
use Rattle.f11_store.specs.Refusal.{refusal_name}
use Rattle.f11_store.specs.declared.callers.Uic.{Uic}
use Rattle.f11_store.specs.declared.refusals.Refusal.{Refusal}
use Rattle.f11_commands.specs.Copying.{master_directory, operator}
use Rattle.f11_commands.specs.Output.{WriterTakes}
use Rattle.f11_commands.specs.PutCommand.{HoldFor, Hosts, PutsByName, PutsNamed}
use Rattle.f11_commands.specs.PutEach.{counts_of, ending, refusal_of, volume_of}
use Rattle.f11_commands.specs.PuttingCounts.{TellsBy}
use Rattle.f11_commands.specs.Stopping.{StopsPut, WhereUnheld}
use Rattle.f11_commands.specs.declared.outcome.Failure.{Failure}
use Rattle.f11_commands.specs.declared.outcome.Failure.TheVariants.{CannotWrite}
use Rattle.f11_commands.specs.declared.outcome.FileAnswer.{FileAnswer}
use Rattle.f11_commands.specs.declared.outcome.FileAnswer.TheVariants.{Done, Refused}
use Rattle.f11_commands.specs.declared.put.Putting.{Putting}
use Rattle.f11_commands.specs.declared.put.puts.Puts.{Puts}
use Rattle.f11_commands.specs.declared.put_counts.PutCounts.{PutCounts}

-- the line of a file that was made in a directory, of so many blocks, and of one that was refused
abbrev pub line_in : DirectoryName → List ℕ → Result ℕ HostRefusal → List ℕ
line_in place name (Ok blocks) =
    concat (directory_text place ∷ codes " " ∷ name_text name ∷ codes " copied " ∷ decimal blocks ∷ (10 ∷ []) ∷ [])
line_in place name (Err e) =
    concat (directory_text place ∷ codes " " ∷ name_text name ∷ codes " no " ∷ flx_refusal_name (refusal_of e) ∷ (10 ∷ []) ∷ [])

-- and that of a directory
abbrev pub made_line : DirectoryName → Result (Unit {0}) Refusal → List ℕ
made_line place (Ok x) = concat (directory_text place ∷ codes " made" ∷ (10 ∷ []) ∷ [])
made_line place (Err e) = concat (directory_text place ∷ codes " not made " ∷ refusal_name e ∷ (10 ∷ []) ∷ [])

-- how a file is told and counted
abbrev pub TellsIn : {W : Type 0} → DirectoryName → List ℕ → Result ℕ HostRefusal → Result FileAnswer Failure → PutCounts → PutCounts →
    (W → Option (List ℕ)) → W → W → Type 0
TellsIn place name result told counts counts' contents before after =
    TellsBy (ending result) (line_in place name result) (is_ok result) told counts counts' contents before after

-- A file was to be made on the volume as it was, as by `put`, and what came of it was told with its directory.
pub record PutsOneIn {D W : Type 0} {met : Ghosts D} (place : DirectoryName) (p : Putting) (bytes : ℕ) (told : Result FileAnswer Failure)
    (h h' : Hosts) (old new : Puts D met) (contents : W → Option (List ℕ)) (before after : W) : Type 0 where
  pub result : Result ℕ HostRefusal
  pub puts : PutsNamed p.mode bytes result h h' (PutsByName p bytes result h h') (WhereUnheld (StopsPut p (HoldFor p.mode bytes h h')))
      (volume_of old) (volume_of new)
  pub tells : TellsIn place p.name result told (counts_of old) (counts_of new) contents before after

-- as which failure a directory is told behind which nothing more is made
abbrev pub ending_made : Result (Unit {0}) Refusal → Option Failure
ending_made (Ok x) = None
ending_made (Err e) = ending (Err (Files e))

-- what is answered of one, where more is made
abbrev pub made_answer : Result (Unit {0}) Refusal → FileAnswer
made_answer (Ok x) = Done
made_answer (Err e) = Refused

-- how it is told: by its line, which the writer takes or doesn't; or as the failure that ends all
abbrev pub TellsMadeBy : {W : Type 0} → Option Failure → DirectoryName → Result (Unit {0}) Refusal → Result FileAnswer Failure →
    (W → Option (List ℕ)) → W → W → Type 0
TellsMadeBy (Some failure) place made told contents before after = (told ≡ Err failure) × (after ≡ before)
TellsMadeBy None place made told contents before after =
    ((told ≡ Ok (made_answer made)) × WriterTakes contents before after (made_line place made)) ⊎ (told ≡ Err CannotWrite)

abbrev pub TellsMade : {W : Type 0} → DirectoryName → Result (Unit {0}) Refusal → Result FileAnswer Failure → (W → Option (List ℕ)) → W → W
    →
    Type 0
TellsMade place made told contents before after = TellsMadeBy (ending_made made) place made told contents before after

-- A directory was to be made on the volume as it was, by the plan of that, and what came of it was told; no file is counted.
pub record MakesOne {D W : Type 0} {met : Ghosts D} (place : DirectoryName) (name : List ℕ) (owner : Uic) (protection : ℕ)
    (told : Result FileAnswer Failure) (old new : Puts D met) (contents : W → Option (List ℕ)) (before after : W) : Type 0 where
  pub made : Result (Unit {0}) Refusal
  pub carries : Carries operator (plan_of 0 master_directory (action.MakeDirectory name owner protection)) made (volume_of old)
      (volume_of new)
  pub counts : counts_of new ≡ counts_of old
  pub tells : TellsMade place made told contents before after
