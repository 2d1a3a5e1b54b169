-- What is told of what would be done.
use Rattle.std.proofs.Common.{◌≡◌, inl, inr, ℕ, ◌+◌, suc, ◌<◌, ◌≤◌, List, [], ◌∷◌, ◌++◌, Option, Result, Ok, Err, map, take}
use Rattle.std.proofs.Common.{length, get_or, sym, ap, subst, ◌∙◌, arith}
use Rattle.std.proofs.lemmas.List.{append-nil, map-append, take_all}
use Rattle.std.proofs.lemmas.List.Folds.{concat-append}
use Rattle.std.proofs.Math.Seq.{take-suc}
use Rattle.std.specs.List.{concat}
use Rattle.f11_dev.specs.Disk.{Disk}
use Rattle.f11_dev.specs.Looked.{Looked}
use Rattle.f11_catalog.proofs.ListingLemmas.{appends-then}
use Rattle.f11_commands.specs.CopyCommand.{EndsFiles}
use Rattle.f11_commands.specs.DirectoryNames.{FailsToFindNames}
use Rattle.f11_commands.specs.Output.{WriterTakes}
use Rattle.f11_commands.specs.declared.name_list.NoNames.{NoNames}
use Rattle.f11_commands.specs.declared.name_list.NoNames.TheVariants.{Unreadable}
use Rattle.f11_commands.specs.declared.name_list.NoNames.TheVariants as none
use Rattle.f11_commands.specs.declared.outcome.Failure.{Failure}
use Rattle.f11_commands.specs.declared.outcome.Failure.TheVariants.{CannotWrite, DeviceFault, NoMemory}
use Rattle.f11_commands.specs.declared.outcome.FileAnswer.{FileAnswer}
use Rattle.f11_commands.specs.declared.outcome.FileAnswer.TheVariants.{BothFaulty, Done, Faulty, Refused}
use Rattle.f11_commands.specs.declared.report.System.TheVariants.{Files11, Rt11}
use Rattle.f11_patterns.specs.Parts.{Parts}
use Rattle.f11_actions.specs.Chosen.{HasNoActions}
use Rattle.f11_actions.specs.Chosen.EndsByChoice.{acts, failed, refused, unreadable}
use Rattle.f11_actions.specs.Undone.{EndsUntouched}
use Rattle.f11_actions.specs.Would.{EndsWould, IsOnlyRead}
use Rattle.f11_actions.specs.declared.change.Change.{Change}

-- the lines of one more
pub lines-next : {A : Type 0} (line : A → List ℕ) (xs : List A) (i : ℕ) (d : A) → i < length xs
    → concat (map line (take (i + 1) xs)) ≡ concat (map line (take i xs)) ++ line (get_or xs i d)
lines-next {A} line xs i d some =
    let next : i + 1 ≡ suc i = omega arith in
    ap (λ (n : ℕ). concat (map line (take n xs))) next
    ∙ ap (λ (ys : List A). concat (map line ys)) (take-suc xs i d some)
    ∙ ap concat (map-append line (take i xs) (get_or xs i d ∷ []))
    ∙ concat-append (map line (take i xs)) (line (get_or xs i d) ∷ [])
    ∙ ap (λ (l : List ℕ). concat (map line (take i xs)) ++ l) (append-nil (line (get_or xs i d)))

module _ {A W : Type 0} (line : A → List ℕ) (xs : List A) (contents : W → Option (List ℕ)) (before : W) where
  -- so many lines were written, and one more
  pub wrote-more : (i : ℕ) (d : A) (now after : W) → i < length xs
      → WriterTakes contents before now (concat (map line (take i xs))) → WriterTakes contents now after (line (get_or xs i d))
      → WriterTakes contents before after (concat (map line (take (i + 1) xs)))
  wrote-more i d now after some so_far one =
      subst (λ (l : List ℕ). WriterTakes contents before after l) (sym (lines-next line xs i d some))
      (appends-then (contents before) (contents now) (contents after) (concat (map line (take i xs))) (line (get_or xs i d)) so_far one)

  -- or all, and the last one
  pub wrote-all : (i : ℕ) (last : List ℕ) (now after : W) → length xs ≤ i
      → WriterTakes contents before now (concat (map line (take i xs))) → WriterTakes contents now after last
      → WriterTakes contents before after (concat (map line xs) ++ last)
  wrote-all i last now after all so_far one =
      appends-then (contents before) (contents now) (contents after) (concat (map line xs)) last
      (subst (λ (ys : List A). WriterTakes contents before now (concat (map line ys))) (take_all i xs all) so_far) one

-- nothing was written where it was only looked,
looked-only : {old new : Disk} {most faults : ℕ} → Looked old new most faults → IsOnlyRead old new
looked-only looked = record { image = looked.image; history = looked.history }

pub read-then : {a b c : Disk} → IsOnlyRead a b → IsOnlyRead b c → IsOnlyRead a c
read-then one two = record { image = two.image ∙ one.image; history = two.history ∙ one.history }

-- where an image isn't accepted,
files-only : {W : Type 0} (told : Result FileAnswer Failure) (old new : Disk) (contents : W → Option (List ℕ)) (before after : W)
    → EndsFiles told old new contents before after → IsOnlyRead old new
files-only (Ok (Faulty Files11)) old new contents before after ends = looked-only ends.examines.looked.looked
files-only (Ok (Faulty Rt11)) old new contents before after ends = absurd ends
files-only (Ok Done) old new contents before after ends = absurd ends
files-only (Ok Refused) old new contents before after ends = absurd ends
files-only (Ok BothFaulty) old new contents before after ends = absurd ends
files-only (Err CannotWrite) old new contents before after ends = looked-only ends.2.looked.looked
files-only (Err DeviceFault) old new contents before after ends = looked-only ends.0.looked
files-only (Err NoMemory) old new contents before after ends = looked-only ends.0.looked

-- or nothing is done
pub untouched-only : {W : Type 0} (answer : FileAnswer) (lines : List ℕ) (told : Result FileAnswer Failure) (old new : Disk)
    (contents : W → Option (List ℕ)) (before after : W) → EndsUntouched answer lines told old new contents before after
    → IsOnlyRead old new
untouched-only answer lines told old new contents before after (inl ends) = files-only told old new contents before after ends
untouched-only answer lines told old new contents before after (inr left) = looked-only left.verified.looked.looked

-- or there is nothing to do, or the look broke off
none-only : (why : NoNames) (parts : Parts) (change : Change) (directory : List ℕ) (old new : Disk)
    → HasNoActions why parts change directory old new → IsOnlyRead old new
none-only Unreadable parts change directory old new none = looked-only none.1.reads.1
none-only (none.Refused e) parts change directory old new (inl found) = looked-only found.reads.1
none-only (none.Refused e) parts change directory old new (inr vain) = looked-only vain.1.chooses.found.reads.1

fails-only : (failure : Failure) (old new : Disk) → FailsToFindNames failure old new → IsOnlyRead old new
fails-only DeviceFault old new fails = looked-only fails.1
fails-only NoMemory old new fails = looked-only fails.1
fails-only CannotWrite old new fails = absurd fails

-- so it is however a command ends that tells what would be done
pub would-only : {W : Type 0} (parts : Parts) (change : Change) (directory : List ℕ) (told : Result FileAnswer Failure) (old new : Disk)
    (contents : W → Option (List ℕ)) (before after : W) → EndsWould parts change directory told old new contents before after
    → IsOnlyRead old new
would-only parts change directory told old new contents before after (acts actions read chooses ends) =
    read-then (looked-only chooses.chooses.found.reads.1) (untouched-only Done _ told read new contents before after ends)
would-only parts change directory told old new contents before after (refused e read why ends) =
    read-then (none-only (none.Refused e) parts change directory old read why)
    (untouched-only Refused _ told read new contents before after ends)
would-only parts change directory told old new contents before after (unreadable read why ends) =
    read-then (none-only Unreadable parts change directory old read why)
    (untouched-only Done _ told read new contents before after ends)
would-only parts change directory told old new contents before after (failed failure fails is same) = fails-only failure old new fails
