use Rattle.std.proofs.Common.{◌≡◌, ℕ, ◌+◌, ◌-◌, ◌*◌, ◌/◌, ◌%◌, ◌<◌, ◌≤◌, false, inl, inr, arith}
use Rattle.f11_dev.proofs.WentLemmas.{went_within}
use Rattle.f11_dev.proofs.bytes.ResultLemmas.{OnErr-given}
use Rattle.f11_bits.specs.Changes.{Changing}
use Rattle.f11_bits.specs.Storage.{bitmap_of}
use Rattle.f11_bits.specs.Transfers.{giving_transfers}
use Rattle.f11_bits.proofs.StepLemmas.{KeepsOthers-went, Marks-next, Went-first, Went-more}
use Rattle.f11_bits.proofs.storage.Storage.mark_run.Goals as goal

-- n blocks from lbn on in two parts, the second of which begins with a bitmap block, at `cut`
record IsCut (lbn n cut : ℕ) : Type 0 where
  front : cut - lbn ≤ n
  begins : cut ≡ lbn + (cut - lbn)
  edge : (lbn + (cut - lbn)) % 4096 ≡ 0
  all : cut - lbn + (lbn + n - cut) ≡ n
  fewer : giving_transfers lbn (cut - lbn) + 1 ≤ giving_transfers lbn n - 1

is_cut : (lbn n cut : ℕ) → 0 < n → cut ≡ (lbn + n - 1) / 4096 * 4096 → lbn < cut → IsCut lbn n cut
is_cut lbn n cut some is above =
    record { front = omega arith; begins = omega arith; edge = omega arith; all = omega arith; fewer = omega arith }

pub returns-in_err-mark-clause-failed : goal.returns-in_err-mark-clause-failed
returns-in_err-mark-clause-failed g c =
    let old = g.D.Device.disk c.args.device.now in
    let bitmap = bitmap_of c.args.self.now in
    let lbn = c.args.lbn in
    let n = c.args.n in
    let cut : ℕ = (lbn + n - 1) / 4096 * 4096 in
    let parts = is_cut lbn n cut c.requires.some (omega arith) (omega (arith, c.if-last-lbn.false)) in
    OnErr-given _ (went_within (Changing old.honest false bitmap lbn n old.image)
    (Went-first false bitmap lbn (cut - lbn) n old _ parts.front (inr parts.edge) c.in_err-mark.ensures.failed)
    (omega (arith, parts.fewer)))

pub returns-in_err-write_bits-2-clause-failed : goal.returns-in_err-write_bits-2-clause-failed
returns-in_err-write_bits-2-clause-failed g c =
    let old = g.D.Device.disk c.args.device.now in
    let bitmap = bitmap_of c.args.self.now in
    let lbn = c.args.lbn in
    let n = c.args.n in
    let cut : ℕ = (lbn + n - 1) / 4096 * 4096 in
    let parts = is_cut lbn n cut c.requires.some (omega arith) (omega (arith, c.if-last-lbn.false)) in
    let first = c.in_ok-mark.ensures.marks in
    OnErr-given _ (went_within (Changing old.honest false bitmap lbn n old.image)
    (Went-more false bitmap lbn (cut - lbn) cut (lbn + n - cut) n old _ _
    (Went-first false bitmap lbn (cut - lbn) n old _ parts.front (inr parts.edge) first.went)
    (KeepsOthers-went first.went) first.marks parts.begins (omega (arith, parts.all)) (inl parts.all)
    (rw c.mark.ensures.stands.bitmap at c.in_err-write_bits-2.ensures.failed)) parts.fewer)

pub returns-clause-marks : goal.returns-clause-marks
returns-clause-marks g c =
    let old = g.D.Device.disk c.args.device.now in
    let bitmap = bitmap_of c.args.self.now in
    let lbn = c.args.lbn in
    let n = c.args.n in
    let cut : ℕ = (lbn + n - 1) / 4096 * 4096 in
    let parts = is_cut lbn n cut c.requires.some (omega arith) (omega (arith, c.if-last-lbn.false)) in
    let first = c.in_ok-mark.ensures.marks in
    let then = rw c.mark.ensures.stands.bitmap at c.in_ok-write_bits-2.ensures.marks in
    record {
      marks = Marks-next false bitmap lbn (cut - lbn) cut (lbn + n - cut) n old (g.D.Device.disk c.mark.new.device)
          (g.D.Device.disk c.write_bits-2.new.device) first.went.honest first.marks parts.begins parts.all then.marks;
      went = went_within (Changing old.honest false bitmap lbn n old.image)
          (Went-more false bitmap lbn (cut - lbn) cut (lbn + n - cut) n old _ _
          (Went-first false bitmap lbn (cut - lbn) n old _ parts.front (inr parts.edge) first.went)
          (KeepsOthers-went first.went) first.marks parts.begins (omega (arith, parts.all)) (inl parts.all) then.went) parts.fewer;
    }
