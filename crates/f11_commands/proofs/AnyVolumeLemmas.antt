-- What holds of commands that serve any volume: what was read or verified before.
use Rattle.std.proofs.Common.{◌≡◌, ℕ, Bool, IsTrue, List, Option, ap, subst, sym, ◌∙◌}
use Rattle.f11_catalog.proofs.ListingLemmas.{reads-then}
use Rattle.f11_catalog.specs.Records.{Reads}
use Rattle.f11_catalog.specs.chain.Calls.{table}
use Rattle.f11_dev.specs.Disk.{Disk}
use Rattle.f11_dev.specs.Image.{Image}
use Rattle.f11_home.specs.Home.{HomeFields}
use Rattle.f11_index.specs.IndexFile.{Index, index_of}
use Rattle.f11_index.specs.Table.{Table, table_in, table_of}
use Rattle.f11_serving.specs.vfy.Verify.{TellsVerdict}
use Rattle.f11_commands.specs.AnyVolume.{CannotBeRead, FailsToServe, FindsVolume, IsVerified, TellsFault}
use Rattle.f11_commands.specs.DumpCommand.{HasFault}
use Rattle.f11_commands.specs.declared.outcome.Answer.{Answer}
use Rattle.f11_commands.specs.declared.outcome.Failure.{Failure}
use Rattle.f11_commands.specs.declared.outcome.Failure.TheVariants.{DeviceFault, NoMemory, CannotWrite}
use Rattle.f11_commands.specs.declared.volume.VolumeFault.{VolumeFault}

-- the index file was read: what is said of the files that it has is said of the volume's
pub said-of-volume : (home : HomeFields) (index : Index) (old new : Disk) → FindsVolume home index old new → {X : Type 0}
    (text : Image → Table → X) → IsTrue old.honest → text new.image (table index new) ≡ text old.image (table_of old.image home)
said-of-volume home index old new found text honest =
    ap (λ (x : Index). text new.image (table_in new.image x)) (found.is_for.keeps (found.looked.honest ∙ honest))
    ∙ ap (λ (i : Image). text i (table_of i home)) found.looked.image

-- and it is the volume's
pub index-of-volume : (home : HomeFields) (index : Index) (old new : Disk) → FindsVolume home index old new → IsTrue old.honest
    → index ≡ index_of old.image home
index-of-volume home index old new found honest =
    found.is_for.keeps (found.looked.honest ∙ honest) ∙ ap (λ (i : Image). index_of i home) found.looked.image

-- the volume was verified
pub verified-first : (told faulty : Bool) (old new : Disk) → TellsVerdict faulty old new → told ≡ faulty → IsVerified told old
verified-first told faulty old new tells same =
    subst (λ (b : Bool). IsVerified b old) (sym same) (record { verdict = tells.verdict })

-- what hinders a look at a volume behind another
pub hindered-behind : (fault : VolumeFault) (old mid new : Disk) → Reads old mid 0 → CannotBeRead fault mid new
    → CannotBeRead fault old new
hindered-behind fault old mid new reads hindered = record {
  hinders = hindered.hinders;
  has = λ honest. subst (λ (i : Image). HasFault i fault) reads.1.image (hindered.has (reads.1.honest ∙ honest));
  reads = reads-then reads hindered.reads;
}

-- and what is told of it
pub fault-behind : {W : Type 0} (answer : Answer) (old mid new : Disk) (contents : W → Option (List ℕ)) (before after : W)
    → Reads old mid 0 → TellsFault answer mid new contents before after → TellsFault answer old new contents before after
fault-behind answer old mid new contents before after reads fault = record {
  is_fault = fault.is_fault;
  fault = fault.fault;
  hindered = hindered-behind fault.fault old mid new reads fault.hindered;
  takes = fault.takes;
}

-- and of what broke off
pub fails-behind-look : {W : Type 0} (failure : Failure) (old mid new : Disk) (contents : W → Option (List ℕ)) (before after : W)
    → Reads old mid 0 → FailsToServe failure mid new contents before after → FailsToServe failure old new contents before after
fails-behind-look DeviceFault old mid new contents before after reads fails = reads-then reads fails
fails-behind-look NoMemory old mid new contents before after reads fails = (reads-then reads fails.0, fails.1)
fails-behind-look CannotWrite old mid new contents before after reads fails = reads-then reads fails
