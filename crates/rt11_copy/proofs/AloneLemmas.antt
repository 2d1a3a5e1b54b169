-- What comes to a volume is what is told as copied.
use Rattle.std.proofs.Common.{◌≡◌, ◌∙◌, ℕ, suc, false, List, Some, refl, ap}
use Rattle.f11_dev.specs.Disk.{Disk}
use Rattle.f11_dev.specs.Image.{Image}
use Rattle.rt11_volume.specs.Entry.{is_same_name}
use Rattle.rt11_volume.specs.Named.{files_named}
use Rattle.rt11_volume.specs.Store.{rt_store_of}
use Rattle.rt11_volume.specs.Verifying.Verdict.{IsSoundDisk}
use Rattle.rt11_volume.specs.declared.any_entries.RtEntry.{RtEntry}
use Rattle.rt11_copy.specs.Copies.{Became, CopiesEach}
use Rattle.rt11_copy.specs.Entries.{IsToCopy}
use Rattle.rt11_copy.specs.Laws.{IsOfNone}
use Rattle.rt11_copy.specs.declared.outcome.RtCopied.{RtCopied}
use Rattle.rt11_copy.specs.declared.outcome.RtCopied.TheVariants.{Copied, NotCopied}

module _ (from : Disk) (name : List ℕ) where
  -- so it is of one
  one-else : (outcome : RtCopied) (e : RtEntry) (old new : Disk) → Became outcome e from old new → IsSoundDisk old
      → ((of : List ℕ) → outcome ≡ Copied → IsToCopy e of from → is_same_name of name ≡ false)
      → files_named name (rt_store_of new.image) ≡ files_named name (rt_store_of old.image)
  one-else Copied e old new became s apart = (became.makes.made s).others name (apart became.name refl became.to_copy)
  one-else (NotCopied why) e old new became s apart = ap (λ (i : Image). files_named name (rt_store_of i)) (became.stays s)

  -- and of all
  pub nothing-else : {entries : List RtEntry} {outcomes : List RtCopied} {old new : Disk} → CopiesEach from entries outcomes old new
      → IsSoundDisk old → IsOfNone name entries outcomes from
      → files_named name (rt_store_of new.image) ≡ files_named name (rt_store_of old.image)
  nothing-else (CopiesEach.none disk) s of-none = refl
  nothing-else (CopiesEach.more e outcome entries outcomes old middle new one rest) s of-none =
      nothing-else rest (one.keeps.sound s) (λ k other of at told is. of-none (suc k) other of at told is)
      ∙ one-else outcome e old middle one.became s (λ of told is. of-none 0 e of refl (ap (λ (o : RtCopied). Some o) told) is)
