-- A file of an RT-11 volume that is changed.
use Rattle.std.proofs.Common.{◌≡◌, ◌↔◌, inl, inr, ℕ, true, false, if◌then◌else◌, List, Option, Result, Ok, Err, IfErr, IsErrOf, OnErr, OnOk}
use Rattle.std.proofs.Common.{ap, sym, subst}
use Rattle.f11_dev.specs.Disk.{Disk}
use Rattle.f11_dev.specs.Image.{Image}
use Rattle.f11_dev.specs.Looked.{Looked}
use Rattle.f11_dev.specs.Went.{Went}
use Rattle.rt11_volume.specs.Files.{faults_in, is_device_fault, is_fault}
use Rattle.rt11_volume.specs.Verifying.Verdict.{IsSoundDisk}
use Rattle.rt11_volume.specs.declared.refusal.RtRefusal.{RtRefusal}
use Rattle.rt11_volume.specs.declared.refusal.RtRefusal.TheVariants.{Failed}
use Rattle.f11_commands.specs.CopyCommand.{VerifiesRt}
use Rattle.f11_commands.specs.RtChange.{ChangesFile, EndsBehind, EndsChange}
use Rattle.f11_commands.specs.declared.outcome.FileAnswer.{FileAnswer}
use Rattle.f11_commands.specs.declared.outcome.Failure.{Failure}

-- what a call tells of a change
pub changes-file : (Does : Image → Image → Type 0) (Stands : Disk → Image → Type 0) (Fails : RtRefusal → Disk → Type 0) (looks most : ℕ)
    (result : Result Unit RtRefusal) (old new : Disk) → OnOk result (IsSoundDisk old → Does old.image new.image)
    → IfErr result (λ e. Fails e old) → (IsErrOf result Failed → ⊥)
    → (is_device_fault result ≡ false → OnErr result (Looked old new looks 0)) → Went (Stands old) old new most (faults_in result)
    → ChangesFile Does Stands Fails looks most result old new
changes-file Does Stands Fails looks most (Ok x) old new does why fresh kept went = record { does = does; went = went }
changes-file Does Stands Fails looks most (Err e) old new does why fresh kept went =
    record { why = why; fresh = λ same. fresh (ap Err same); kept = kept; went = went }

-- the command ends as what is behind the call does
pub ends-change : {W : Type 0} (Changes : Result Unit RtRefusal → Disk → Disk → Type 0) (result : Result Unit RtRefusal)
    (told : Result FileAnswer Failure) (old read done new : Disk) (contents : W → Option (List ℕ)) (before now after : W)
    → VerifiesRt old read × (now ≡ before) → Changes result read done → EndsBehind result told done new contents now after
    → EndsChange Changes told old new contents before after
ends-change {W} Changes result told old read done new contents before now after verified changes ends =
    subst (λ (w : W). EndsChange Changes told old new contents w after) verified.1 (elim ends [
      | inl is ↦
          inr (inl (record {
            result = result;
            read = read;
            verified = verified.0;
            changes = subst (Changes result read) (sym is.same) changes;
            tells = is.tells;
          }))
      | inr is ↦
          inr (inr (
            is.fails,
            record {
              done = done;
              does = record { read = read; verified = verified.0; changes = subst (λ r. Changes r read done) is.done_is changes };
              failed = is.failed;
              unwritten = is.unwritten;
            },
          ))
    ])
