-- How files of the host that are put on a volume of either system, one after another, are told and counted (profile).
use Rattle.std.specs.Prelude.{◌≡◌, ◌⊎◌, ◌==◌, ◌<◌, ℕ, not, Bool, true, false, if◌then◌else◌, List, [], ◌∷◌, codes, length, replicate}
use Rattle.std.specs.Prelude.{Option, Some, None, Result, Ok, Err}
use Rattle.std.specs.Fmt.{decimal}
use Rattle.std.specs.List.{concat}
use Rattle.f11_commands.specs.AllCommand.{more_if}
use Rattle.f11_commands.specs.Output.{WriterTakes}
use Rattle.f11_commands.specs.declared.outcome.Failure.{Failure}
use Rattle.f11_commands.specs.declared.outcome.Failure.TheVariants.{CannotWrite}
use Rattle.f11_commands.specs.declared.outcome.FileAnswer.{FileAnswer}
use Rattle.f11_commands.specs.declared.outcome.FileAnswer.TheVariants.{Done, Refused}
use Rattle.f11_commands.specs.declared.put_counts.PutCounts.{PutCounts}
use Rattle.f11_commands.specs.declared.put_counts.Unput.{Unput}
use Rattle.f11_commands.specs.declared.put_counts.Unput.TheVariants.{BadName, CannotOpen}

abbrev pub no_files : PutCounts
no_files = record { made = 0; refused = 0 }

-- one more, which was made or wasn't
abbrev pub counted : Bool → PutCounts → PutCounts
counted is_made counts = record { made = more_if is_made counts.made; refused = more_if (not is_made) counts.refused }

-- one wasn't
abbrev pub has_refused : PutCounts → Bool
has_refused counts = not (counts.refused == 0)

-- what is answered of one, where others are made behind it
abbrev pub answer_if : (is_made : Bool) → FileAnswer
answer_if is_made = if is_made then Done else Refused

-- the line of a file of the host for which nothing was asked
abbrev pub unput_text : Unput → List ℕ
unput_text BadName = codes "BadName"
unput_text CannotOpen = codes "CannotOpen"

abbrev pub left_out_line : List ℕ → Unput → List ℕ
left_out_line host why = concat (host ∷ codes " no " ∷ unput_text why ∷ (10 ∷ []) ∷ [])

-- and the last one
abbrev pub counts_line : PutCounts → List ℕ
counts_line counts =
    concat (codes "all " ∷ decimal counts.made ∷ codes " copied, " ∷ decimal counts.refused ∷ codes " not copied" ∷ (10 ∷ []) ∷ [])

-- how a file is told and counted: by its line, which the writer takes or doesn't; or as the failure that ends the others
abbrev pub TellsBy : {W : Type 0} → Option Failure → (line : List ℕ) → (made : Bool) → Result FileAnswer Failure → PutCounts → PutCounts →
    (W → Option (List ℕ)) → W → W → Type 0
TellsBy (Some failure) line made told counts counts' contents before after =
    (told ≡ Err failure) × (counts' ≡ counts) × (after ≡ before)
TellsBy None line made told counts counts' contents before after =
    (counts' ≡ counted made counts)
    × (((told ≡ Ok (answer_if made)) × WriterTakes contents before after line)
    ⊎ (told ≡ Err CannotWrite))

-- Nothing was asked for a file of the host: it is counted as one that isn't made, and its line says why, which the writer takes or doesn't.
pub record TellsLeftOut {W : Type 0} (host : List ℕ) (why : Unput) (told : Result (Unit {0}) Failure) (counts counts' : PutCounts)
    (contents : W → Option (List ℕ)) (before after : W) : Type 0 where
  pub counts_are : counts' ≡ counted false counts
  pub tells :
      ((told ≡ Ok tt) × WriterTakes contents before after (left_out_line host why)) ⊎ (told ≡ Err CannotWrite)

-- how the last line is told
abbrev pub TellsCounts : {W : Type 0} → PutCounts → Result FileAnswer Failure → (W → Option (List ℕ)) → W → W → Type 0
TellsCounts counts told contents before after =
    ((told ≡ Ok (answer_if (counts.refused == 0))) × WriterTakes contents before after (counts_line counts))
    ⊎ (told ≡ Err CannotWrite)

-- A file was counted, once.
pub record CountsOne (before after : PutCounts) : Type 0 where
  pub is_made : Bool
  pub counts : after ≡ counted is_made before

-- so many more, of each of which it is told whether it was made, of the last one first
abbrev pub counted_all : List Bool → PutCounts → PutCounts
counted_all [] counts = counts
counted_all (is_made ∷ earlier) counts = counted is_made (counted_all earlier counts)

-- As many were counted as there are files. Or, where it stops behind one that isn't made, those up to the first that wasn't, and none
-- behind it.
abbrev pub AreCounted : (stops : Bool) → (files : ℕ) → List Bool → Type 0
AreCounted false files counts = length counts ≡ files
AreCounted true files counts = (counts ≡ replicate files true) ⊎ ((made : ℕ) × (made < files) × (counts ≡ false ∷ replicate made true))

-- So many were counted; which files these are isn't said.
pub record CountsAll (stops : Bool) (files : ℕ) (before after : PutCounts) : Type 0 where
  pub tried : List Bool
  pub which : AreCounted stops files tried
  pub counts : after ≡ counted_all tried before
