use Rattle.std.proofs.Common.{◌≡◌, ◌≢◌, ◌⊎◌, ◌%◌, ◌+◌, ◌/◌, ◌<◌, false, inl, inr, refl, subst, sym, Bool, IsTrue, length, arith}
use Rattle.std.proofs.lemmas.Bool.{cases_lt}
use Rattle.f11_dev.proofs.WentLemmas.{went_within}
use Rattle.f11_dev.proofs.bytes.ResultLemmas.{OnErr-given}
use Rattle.f11_bits.specs.Bitmap.{Bitmap, LiesWithin}
use Rattle.f11_bits.specs.Changes.{Changing}
use Rattle.f11_bits.specs.Parts.{HasBitOf}
use Rattle.f11_bits.specs.Storage.{bitmap_of}
use Rattle.f11_bits.proofs.BitmapLemmas.{HasBitOf-apart}
use Rattle.f11_bits.proofs.StepLemmas.{LiesWithin-kept, KeepsOthers-went, Marks-next, Went-first, Went-more}
use Rattle.f11_bits.proofs.storage.Storage.mark_used.Goals as goal

pub write_bits-requires-then-run-gt0-clause-within : goal.write_bits-requires-then-run-gt0-clause-within
write_bits-requires-then-run-gt0-clause-within g c =
    let now = g.D.Device.disk c.write_bits.new.device in
    subst (λ (b : Bitmap). LiesWithin b (length now.image)) (sym c.write_bits.ensures.stands.bitmap)
    (LiesWithin-kept (bitmap_of c.args.self.now) _ _ c.requires.within (KeepsOthers-went c.in_ok-write_bits.ensures.marks.went))

pub write_bits-requires-then-run-gt0-clause-block : goal.write_bits-requires-then-run-gt0-clause-block
write_bits-requires-then-run-gt0-clause-block g c = λ honest.
    let old = g.D.Device.disk c.args.device.now in
    let first = c.in_ok-write_bits.ensures in
    let was_honest = subst (λ (b : Bool). IsTrue b) first.marks.went.honest honest in
    let run = c.args.run in
    let bits = c.requires.bits in
    let edge = bits.beyond_is.next c.if-run-gt0.true in
    let within : run.lbn / 4096 < length (bitmap_of c.args.self.now).places =
    omega (arith, c.args.self.now.valid.covered, bits.here_is.within, bits.here_is.some) in
    let below : run.lbn + run.here < (bitmap_of c.args.self.now).size = omega (arith, bits.beyond_is.within, c.if-run-gt0.true) in
    let apart : (run.lbn + run.here) / 4096 ≢ run.lbn / 4096 = omega (arith, edge, bits.here_is.some) in
    let now = g.D.Device.disk c.write_bits.new.device in
    subst (λ (b : Bitmap). HasBitOf now.image b (run.lbn + run.here) c.args.next.now) (sym c.write_bits.ensures.stands.bitmap)
    (HasBitOf-apart old.image _ (bitmap_of c.args.self.now) (run.lbn / 4096) (run.lbn + run.here) _ _ c.args.self.now.valid within below
    apart first.writes (bits.next_is was_honest c.if-run-gt0.true))

pub returns-in_err-write_bits-clause-failed : goal.returns-in_err-write_bits-clause-failed
returns-in_err-write_bits-clause-failed g c =
    let old = g.D.Device.disk c.args.device.now in
    let bitmap = bitmap_of c.args.self.now in
    let run = c.args.run in
    let whole : (run.here ≡ run.here + run.beyond) ⊎ ((run.lbn + run.here) % 4096 ≡ 0) = elim (cases_lt 0 run.beyond) [
      | inl more ↦ inr (c.requires.bits.beyond_is.next more)
      | inr none ↦ inl (omega (arith, none))
    ] in
    OnErr-given _ (went_within (Changing old.honest false bitmap run.lbn (run.here + run.beyond) old.image)
    (Went-first false bitmap run.lbn run.here (run.here + run.beyond) old _ (omega arith) whole c.in_err-write_bits.ensures.failed)
    (omega arith))

pub returns-in_err-write_bits-2-clause-failed : goal.returns-in_err-write_bits-2-clause-failed
returns-in_err-write_bits-2-clause-failed g c =
    let old = g.D.Device.disk c.args.device.now in
    let bitmap = bitmap_of c.args.self.now in
    let run = c.args.run in
    let first = c.in_ok-write_bits.ensures.marks in
    let edge = c.requires.bits.beyond_is.next c.if-run-gt0.true in
    OnErr-given _ (Went-more false bitmap run.lbn run.here _ run.beyond (run.here + run.beyond) old _ _
    (Went-first false bitmap run.lbn run.here (run.here + run.beyond) old _ (omega arith) (inr edge) first.went)
    (KeepsOthers-went first.went) first.marks refl (omega arith) (inl refl)
    (rw c.write_bits.ensures.stands.bitmap at c.in_err-write_bits-2.ensures.failed))

pub returns-in_ok-write_bits-2-clause-marks : goal.returns-in_ok-write_bits-2-clause-marks
returns-in_ok-write_bits-2-clause-marks g c =
    let old = g.D.Device.disk c.args.device.now in
    let bitmap = bitmap_of c.args.self.now in
    let run = c.args.run in
    let first = c.in_ok-write_bits.ensures.marks in
    let then = rw c.write_bits.ensures.stands.bitmap at c.in_ok-write_bits-2.ensures.marks in
    let edge = c.requires.bits.beyond_is.next c.if-run-gt0.true in
    record {
      marks = Marks-next false bitmap run.lbn run.here _ run.beyond (run.here + run.beyond) old (g.D.Device.disk c.write_bits.new.device)
          (g.D.Device.disk c.write_bits-then-run-gt0.new.device) first.went.honest first.marks refl refl then.marks;
      went =
          went_within (Changing old.honest false bitmap run.lbn (run.here + run.beyond) old.image)
          (Went-more false bitmap run.lbn run.here _ run.beyond (run.here + run.beyond) old _ _
          (Went-first false bitmap run.lbn run.here (run.here + run.beyond) old _ (omega arith) (inr edge) first.went)
          (KeepsOthers-went first.went) first.marks refl (omega arith) (inl refl) then.went)
          (omega (arith, edge, c.requires.bits.here_is.some, c.if-run-gt0.true));
    }
