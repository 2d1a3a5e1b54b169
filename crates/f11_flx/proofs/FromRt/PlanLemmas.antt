-- A file that is found, and its copy judged.
use Rattle.std.proofs.Common.{◌≡◌, ℕ, suc, Bool, true, false, List, length, Ok, Err, Result, refl, sym, ap, ◌∙◌, subst, arith}
use Rattle.f11_dev.specs.Disk.{Disk}
use Rattle.f11_dev.specs.declared.device.Device.{Ghosts}
use Rattle.f11_store.specs.declared.refusals.Refusal.{Refusal}
use Rattle.f11_store.specs.declared.requests.Reply.{Reply}
use Rattle.f11_store.specs.declared.requests.Reply.TheVariants as reply
use Rattle.rt11_volume.specs.Files.{FailsToFindFile, file_area, is_fault}
use Rattle.rt11_volume.specs.Verifying.Verdict.{IsSoundDisk}
use Rattle.rt11_volume.specs.declared.refusal.RtRefusal.{RtRefusal}
use Rattle.rt11_volume.specs.declared.refusal.RtRefusal.TheVariants as rt
use Rattle.rt11_volume.specs.declared.volume.RtAccepted.{RtAccepted}
use Rattle.f11_making.specs.Asking.{Denies, Who, writes}
use Rattle.f11_flx.specs.Dry.{dry}
use Rattle.f11_flx.specs.Passes.{CopiesFile, FailsToCopyFile, IsCopied}
use Rattle.f11_flx.specs.Planning.{FailsToPlan, Plans}
use Rattle.f11_flx.specs.RtSource.{FindsRtFile, HasContents}
use Rattle.f11_flx.specs.Spelled.{image_attributes}
use Rattle.f11_flx.specs.Target.{rt_disk, rt_store}
use Rattle.f11_flx.specs.declared.mode.CopyMode.TheVariants.{Image, Text}
use Rattle.f11_flx.specs.declared.refusal.FlxRefusal.{FlxRefusal}
use Rattle.f11_flx.specs.declared.refusal.FlxRefusal.TheVariants.{BadRecord, Files, LineTooLong, Rt, Unread}
use Rattle.f11_runs.proofs.AccessLemmas.{true-false}
use Rattle.f11_flx.proofs.FromRt.PassedLemmas.{all-of}
use Rattle.f11_flx.proofs.FromRt.PassLemmas.{looks-then, same-contents, stays-alive, stays-sound}

-- a device fault may come at any time
fault-may : (e : RtRefusal) (name : List ℕ) (d : Disk) → is_fault e ≡ true → FailsToFindFile e name d
fault-may rt.DeviceFault name d is = tt
fault-may rt.Failed name d is = tt
fault-may rt.NoSuchFile name d is = absurd (cc)
fault-may rt.EndOfFile name d is = absurd (cc)
fault-may rt.Protected name d is = absurd (cc)
fault-may rt.DuplicateName name d is = absurd (cc)
fault-may rt.NoSpace name d is = absurd (cc)
fault-may rt.DirectoryFull name d is = absurd (cc)
fault-may rt.NoMemory name d is = absurd (cc)

-- what takes all refuses nothing
pub dry-takes : {V : Type 0} (who : Who) (lun vbn : ℕ) (block : List ℕ) (e : Refusal) (v w : V)
    → Denies dry who (writes lun vbn block) e v w → ⊥
dry-takes who lun vbn block e v w d = differ d.1
  where
    done : Result Reply Refusal
    done = Ok reply.Done

    differ : Err e ≡ done → ⊥
    differ is = cc

module _ {E : Type 0} {met : Ghosts E} (disk : E → Disk) (name : List ℕ) where
  pub image-plan : (many : ℕ) (attr : List ℕ) (a b : RtAccepted E met) → attr ≡ image_attributes many → FindsRtFile disk name many a b
      → Plans disk Image name many many attr a b
  image-plan many attr a b is f = record {
    looks = f.looks;
    alive = f.alive;
    file = f.file;
    plan = λ s contents has. record {
      count = f.length_is s contents has;
      pieces = contents;
      copied = record {
        copy = record { content = _; attr = image_attributes (length contents) };
        converted = refl;
        content_is = refl;
        whole = f.whole s contents has;
        attr_is = is ∙ ap image_attributes (sym (f.length_is s contents has));
      };
      blocks_are = f.length_is s contents has;
    };
  }

  pub text-plan : {V : Type 0} (who : Who) (lun many blocks : ℕ) (attr attr' : List ℕ) (a b c : RtAccepted E met) (v w : V) → attr ≡ attr'
      → FindsRtFile disk name many a b →
      CopiesFile dry disk Text who lun name many blocks attr' b c v w → Plans disk Text name many blocks attr a c
  text-plan who lun many blocks attr attr' a b c v w is f h = record {
    looks = looks-then disk false a b c f.looks h.reads.looks;
    alive = f.alive;
    file = f.file;
    plan = λ s contents has.
        let front = h.reads.are (stays-sound disk false a b f.looks s) contents (same-contents disk name contents false a b f.looks has) in
        let size = f.length_is s contents has in
        let same : contents ≡ h.source = all-of h.source contents many h.count front size in
        record {
          count = size;
          pieces = h.pieces;
          copied = subst (λ l. IsCopied Text l h.pieces attr) (sym same) (subst (λ l. IsCopied Text h.source h.pieces l) (sym is) h.copied);
          blocks_are = sym h.blocks_are;
        };
  }

  pub text-unplanned : {V : Type 0} (f : FlxRefusal) (who : Who) (lun many : ℕ) (a b c : RtAccepted E met) (v w : V)
      → FindsRtFile disk name many a b →
      FailsToCopyFile dry disk Text who lun name many f b c v w → FailsToPlan disk Text name f a c
  text-unplanned (Files e) who lun many a b c v w f h = dry-takes who lun (suc (length h.pieces)) h.last e h.between w h.denied
  text-unplanned (Rt e) who lun many a b c v w f h = record {
    looks = looks-then disk (is_fault e) a b c f.looks h.stops.looks;
    alive = λ alive. h.stops.alive (stays-alive disk a b f.looks alive);
    dead = λ dead. absurd (true-false (sym dead ∙ f.alive));
    why = λ s. why s (is_fault e) refl;
  }
    where
      why : IsSoundDisk (rt_disk disk a) → (b' : Bool) → is_fault e ≡ b' → FailsToFindFile e name (rt_disk disk a)
      why s true is = fault-may e name (rt_disk disk a) is
      why s false is =
          let file = f.file s in
          let contents = (file_area file).contents in
          let has : HasContents name contents (rt_store disk a) = record { file = file; contents = refl } in
          let less = h.stops.few (stays-alive disk a b f.looks f.alive) is (stays-sound disk false a b f.looks s) contents
          (same-contents disk name contents false a b f.looks has) in
          absurd (omega (arith, less, f.length_is s contents has))
  text-unplanned BadRecord who lun many a b c v w f h = absurd h
  text-unplanned LineTooLong who lun many a b c v w f h = record {
    looks = looks-then disk false a b c f.looks h.reads.looks;
    alive = f.alive;
    file = f.file;
    none = λ s contents has.
        h.none contents (h.reads.are (stays-sound disk false a b f.looks s) contents
        (same-contents disk name contents false a b f.looks has)) (f.length_is s contents has);
  }
  text-unplanned Unread who lun many a b c v w f h = absurd h
