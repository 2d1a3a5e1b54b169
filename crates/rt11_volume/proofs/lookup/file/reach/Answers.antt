use Rattle.std.proofs.Common.{◌≡◌, ◌⊎◌, ◌+◌, ◌≤◌, List, ℕ, length, Option, Some, None, IfSome, IsNone, IfOk, IfErr, refl, sym, subst, ◌∙◌}
use Rattle.std.proofs.Common.{ap}
use Rattle.std.specs.Option.{ok_or}
use Rattle.f11_dev.specs.Disk.{Disk}
use Rattle.f11_dev.specs.Image.{Image}
use Rattle.rt11_volume.specs.Files.{IsBlockAt, FailsToReach}
use Rattle.rt11_volume.specs.Searching.Locating.{IsPlaceOf, Locates}
use Rattle.rt11_volume.specs.Verifying.Verdict.{IsSoundDisk}
use Rattle.rt11_volume.specs.Store.{rt_store_of}
use Rattle.rt11_volume.specs.declared.lookup.file.Located.{Located}
use Rattle.rt11_volume.specs.declared.refusal.RtRefusal.{RtRefusal}
use Rattle.rt11_volume.specs.declared.refusal.RtRefusal.TheVariants.{EndOfFile}
use Rattle.rt11_volume.proofs.Searching.Locating.{reached, not-reached}
use Rattle.rt11_volume.proofs.lookup.file.reach.Goals as goal

-- the block, if there is one
some_reached : (name : List ℕ) (place blocks : ℕ) (disk : Disk) (file : Located) (o : Option ℕ) → Locates name file disk
    → IfSome o (λ lbn. IsPlaceOf file place lbn blocks)
    → IfOk (ok_or o EndOfFile) (λ lbn. IsSoundDisk disk → IsBlockAt name (rt_store_of disk.image) place lbn)
some_reached name place blocks disk file (Some lbn) at is =
    λ sound. reached name disk.image file place lbn blocks at.named (at.lies sound) is
some_reached name place blocks disk file None at is = tt

none_reached : (name : List ℕ) (place blocks : ℕ) (disk : Disk) (file : Located) (o : Option ℕ) → Locates name file disk
    → blocks ≡ length disk.image
    → (IsNone o → (file.length ≤ place) ⊎ (blocks ≤ file.start + place))
    → IfErr (ok_or o EndOfFile) (λ (r : RtRefusal). FailsToReach r name place disk)
none_reached name place blocks disk file (Some lbn) at size none = tt
none_reached name place blocks disk file None at size none =
    λ sound. not-reached name disk.image file place blocks at.named (at.lies sound) size (none refl)

pub returns-clause-found : goal.returns-clause-found
returns-clause-found g c =
    let old = g.D.Device.disk c.args.device.now in
    subst (λ r. IfOk r (λ lbn. IsSoundDisk old → IsBlockAt c.args.name (rt_store_of old.image) c.args.place lbn))
    (sym c.ok_or.ensures.value)
    (some_reached c.args.name c.args.place c.blocks-2.result old c.in_ok-file.file c.block_at.result c.in_ok-file.ensures.found
    c.block_at.ensures.some)

pub returns-clause-refused : goal.returns-clause-refused
returns-clause-refused g c =
    let old = g.D.Device.disk c.args.device.now in
    subst (λ r. IfErr r (λ (refusal : RtRefusal). FailsToReach refusal c.args.name c.args.place old)) (sym c.ok_or.ensures.value)
    (none_reached c.args.name c.args.place c.blocks-2.result old c.in_ok-file.file c.block_at.result c.in_ok-file.ensures.found
    (c.blocks-2.ensures.count ∙ ap (λ (image : Image). length image) c.in_ok-file.ensures.looked.image) c.block_at.ensures.none)
