use Rattle.std.proofs.Common.{◌≡◌, ◌≤◌, ◌+◌, ◌∙◌, refl, sym, ap, subst, length, arith}
use Rattle.std.proofs.lemmas.Bool.{both_ways}
use Rattle.f11_bytes.proofs.ResultLemmas.{OnErr-given}
use Rattle.f11_index.specs.IndexFile.{slots}
use Rattle.f11_index.specs.Kept.{index_kept}
use Rattle.f11_vfy.specs.Reclaiming.Steps.{KillsOrphans}
use Rattle.f11_vfy.specs.Scanning.Reading.{ShowsVolume}
use Rattle.f11_vfy.specs.Surveying.Extensions.{IsExtension}
use Rattle.f11_volume.specs.Volume.{Volume}
use Rattle.f11_vfy.proofs.Reclaiming.Orphans.{orphans-none, orphans-other, orphans-more, orphans-fail, next-block, next-counted}
use Rattle.f11_vfy.proofs.Reclaiming.Orphans.{next-passed}
use Rattle.f11_vfy.proofs.Reclaiming.Orphans.{no-extension, in-a-file, of-no-file}
use Rattle.f11_vfy.proofs.Surveying.Extensions.{extensions-none}
use Rattle.f11_vfy.proofs.reclaimer.orphans.kill_orphans.Goals as goal

pub loop-k-init : goal.loop-k-init
loop-k-init g c = record {
  kills = orphans-none (index_kept c.args.index.now) c.args.reading.now c.args.extensions.now _ _;
  limit = refl;
  few = omega arith;
  counted = λ honest home shown. sym (ap length (extensions-none _));
}

pub loop-k-preserved-then-not-is_extension : goal.loop-k-preserved-then-not-is_extension
loop-k-preserved-then-not-is_extension g c =
    let no_one : (v : Volume) → ShowsVolume v c.args.reading.now → ¬ IsExtension v.table (c.loop-k.k + 1) = λ v shows is_one.
    both_ways _ c.if-not-is_extension.true ((c.is_extension.ensures v shows).1 is_one) in
    record {
      kills =
          orphans-other (index_kept c.args.index.now) c.args.reading.now c.args.extensions.now c.loop-k.k _ _ _ _ c.loop-k.invariant.kills
          (omega (arith, c.loop-k-test.true, c.slots-k-end.ensures)) (no-extension c.args.reading.now (c.loop-k.k + 1) no_one);
      limit = c.loop-k.invariant.limit;
      few = omega (arith, c.loop-k.invariant.few);
      counted =
          next-passed (index_kept c.args.index.now) c.args.reading.now c.args.extensions.now c.loop-k.k _
          (g.D.Device.disk c.args.device.now)
          c.loop-k.invariant.counted no_one;
    }

pub loop-k-preserved-then-in_file : goal.loop-k-preserved-then-in_file
loop-k-preserved-then-in_file g c =
    let is_one : (v : Volume) → ShowsVolume v c.args.reading.now → IsExtension v.table (c.loop-k.k + 1) = λ v shows.
    (c.is_extension.ensures v shows).0 c.if-not-is_extension.false in
    record {
      kills =
          orphans-other (index_kept c.args.index.now) c.args.reading.now c.args.extensions.now c.loop-k.k _ _ _ _ c.loop-k.invariant.kills
          (omega (arith, c.loop-k-test.true, c.slots-k-end.ensures))
          (in-a-file c.args.reading.now (c.loop-k.k + 1) (rw c.in_file.ensures at c.if-in_file.true));
      limit = c.loop-k.invariant.limit;
      few = omega (arith, c.loop-k.invariant.few);
      counted =
          next-counted (index_kept c.args.index.now) c.args.reading.now c.args.extensions.now c.loop-k.k _
          (g.D.Device.disk c.args.device.now)
          c.loop-k.invariant.counted is_one;
    }

pub returns-in_err-kill_header-clause-failed : goal.returns-in_err-kill_header-clause-failed
returns-in_err-kill_header-clause-failed g c =
    let is_one : (v : Volume) → ShowsVolume v c.args.reading.now → IsExtension v.table (c.loop-k.k + 1) = λ v shows.
    (c.is_extension.ensures v shows).0 c.if-not-is_extension.false in
    let low : c.loop-k.k + 1 ≤ slots (index_kept c.args.index.now) = omega (arith, c.loop-k-test.true, c.slots-k-end.ensures) in
    OnErr-given _
    (orphans-fail (index_kept c.args.index.now) c.args.reading.now c.args.extensions.now c.loop-k.k _ _ _ _ c.loop-k.invariant.kills low
    (of-no-file c.args.reading.now (c.loop-k.k + 1) is_one (rw c.in_file.ensures at c.if-in_file.false)) _
    (next-block (index_kept c.args.index.now) c.args.reading.now c.args.extensions.now c.loop-k.k _ (g.D.Device.disk c.args.device.now)
    c.loop-k.invariant.counted _ low is_one c.block-block.ensures)
    _ c.in_err-kill_header.ensures.failed)

pub loop-k-preserved : goal.loop-k-preserved
loop-k-preserved g c =
    let is_one : (v : Volume) → ShowsVolume v c.args.reading.now → IsExtension v.table (c.loop-k.k + 1) = λ v shows.
    (c.is_extension.ensures v shows).0 c.if-not-is_extension.false in
    let low : c.loop-k.k + 1 ≤ slots (index_kept c.args.index.now) = omega (arith, c.loop-k-test.true, c.slots-k-end.ensures) in
    record {
      kills =
          orphans-more (index_kept c.args.index.now) c.args.reading.now c.args.extensions.now c.loop-k.k _ _ _ _ c.loop-k.invariant.kills
          low
          (of-no-file c.args.reading.now (c.loop-k.k + 1) is_one (rw c.in_file.ensures at c.if-in_file.false)) _
          (next-block (index_kept c.args.index.now) c.args.reading.now c.args.extensions.now c.loop-k.k _
          (g.D.Device.disk c.args.device.now)
          c.loop-k.invariant.counted _ low is_one c.block-block.ensures)
          _ _ c.in_ok-kill_header.ensures.killed;
      limit = c.kill_header.ensures.limit ∙ c.loop-k.invariant.limit;
      few = omega (arith, c.loop-k.invariant.few);
      counted =
          next-counted (index_kept c.args.index.now) c.args.reading.now c.args.extensions.now c.loop-k.k _
          (g.D.Device.disk c.args.device.now)
          c.loop-k.invariant.counted is_one;
    }

pub returns-clause-killed : goal.returns-clause-killed
returns-clause-killed g c =
    let all : c.loop-k.k ≡ slots (index_kept c.args.index.now) =
    omega (arith, c.loop-k-test.false, c.loop-k.auto.k-end, c.slots-k-end.ensures) in
    subst (λ n. KillsOrphans (index_kept c.args.index.now) c.args.reading.now c.args.extensions.now n c.args.unreferenced.now
    c.loop-k.unreferenced (g.D.Device.disk c.args.device.now) (g.D.Device.disk c.loop-k.device)) all
    c.loop-k.invariant.kills
