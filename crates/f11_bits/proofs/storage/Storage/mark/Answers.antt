use Rattle.std.proofs.Common.{◌≡◌, ◌⊎◌, inl, inr, ℕ, ◌+◌, ◌-◌, ◌*◌, ◌/◌, ◌%◌, ◌<◌, ◌≤◌, min, max, subst, ◌∙◌, arith}
use Rattle.std.proofs.lemmas.Bool.{cases_lt}
use Rattle.f11_dev.proofs.WentLemmas.{went_within}
use Rattle.f11_dev.proofs.bytes.ResultLemmas.{OnErr-given}
use Rattle.f11_bits.specs.Bitmap.{Bitmap, KeepsFrom}
use Rattle.f11_bits.specs.Changes.{Changing}
use Rattle.f11_bits.specs.Storage.{bitmap_of}
use Rattle.f11_bits.proofs.BitmapLemmas.{KeepsOthers-trans}
use Rattle.f11_bits.proofs.LowLemmas.{stands-on}
use Rattle.f11_bits.proofs.StepLemmas.{KeepsOthers-went, Marks-next, Went-more}
use Rattle.f11_bits.proofs.storage.Storage.mark.Goals as goal

-- the blocks of one bitmap block, `done` of count before it
record IsStep (lbn count index start stop done : ℕ) : Type 0 where
  begins : start ≡ lbn + done
  within : done + (stop - start) ≤ count
  whole : (done + (stop - start) ≡ count) ⊎ ((lbn + (done + (stop - start))) % 4096 ≡ 0)
  next : done + (stop - start) ≡ min (lbn + count) (4096 * (index + 1)) - lbn

step : (lbn count index start stop : ℕ) → 0 < count → lbn / 4096 ≤ index → index < (lbn + count + 4095) / 4096
    → start ≡ max lbn (index * 4096) → stop ≡ min (lbn + count) ((index + 1) * 4096)
    → IsStep lbn count index start stop (min (lbn + count) (4096 * index) - lbn)
step lbn count index start stop some from to start_is stop_is = record {
  begins = omega arith;
  within = omega arith;
  whole = elim (cases_lt (4096 * (index + 1)) (lbn + count)) [
    | inl inside ↦ inr (omega arith)
    | inr last ↦ inl (omega arith)
  ];
  next = omega arith;
}

pub returns-in_err-mark_part-clause-failed : goal.returns-in_err-mark_part-clause-failed
returns-in_err-mark_part-clause-failed g c =
    let old = g.D.Device.disk c.args.device.now in
    let bitmap = bitmap_of c.args.self.now in
    let held = c.loop-index.invariant in
    let next = step c.args.lbn c.args.count c.loop-index.index c.max-start.result c.min-stop.result c.requires.some (omega arith)
    (omega arith) (omega arith) (omega arith) in
    OnErr-given _ (went_within (Changing old.honest c.args.free bitmap c.args.lbn c.args.count old.image)
    (Went-more c.args.free bitmap c.args.lbn _ _ _ c.args.count old _ _ held.went held.keeps held.marks next.begins next.within next.whole
    (rw held.stands.bitmap at c.in_err-mark_part.ensures.failed)) (omega arith))

pub loop-index-preserved : goal.loop-index-preserved
loop-index-preserved g c =
    let old = g.D.Device.disk c.args.device.now in
    let bitmap = bitmap_of c.args.self.now in
    let held = c.loop-index.invariant in
    let made = rw held.stands.bitmap at c.in_ok-mark_part.ensures.marks in
    let at : c.max-start.result / 4096 ≡ c.loop-index.index = omega arith in
    let later = subst (λ (b : Bitmap). KeepsFrom b (c.max-start.result / 4096 + 1) (g.D.Device.disk c.loop-index.device).image
    (g.D.Device.disk c.mark_part.new.device).image) held.stands.bitmap c.in_ok-mark_part.ensures.later in
    let next = step c.args.lbn c.args.count c.loop-index.index c.max-start.result c.min-stop.result c.requires.some (omega arith)
    (omega arith) (omega arith) (omega arith) in
    record {
      stands = stands-on c.mark_part.ensures.stands held.stands;
      on = c.in_ok-mark_part.ensures.on;
      later = λ i from within. later i (omega arith) within ∙ held.later i (omega arith) within;
      first = λ here. absurd (omega arith);
      last = λ _. omega (arith, c.in_ok-mark_part.ensures.keeps, at);
      saves = λ kept _. elim (cases_lt (c.args.lbn / 4096) c.loop-index.index) [
        | inl later ↦ let fewer = held.saves kept later in omega (arith, fewer, made.went.transfers)
        | inr start ↦
            let before = held.first (omega arith) in
            let fewer = c.in_ok-mark_part.ensures.saves (omega (arith, before, kept, at)) in
            omega (arith, fewer, held.went.transfers)
      ];
      keeps = KeepsOthers-trans bitmap _ _ _ held.keeps (KeepsOthers-went made.went);
      marks = Marks-next c.args.free bitmap c.args.lbn _ _ _ _ old (g.D.Device.disk c.loop-index.device)
          (g.D.Device.disk c.mark_part.new.device) held.went.honest held.marks next.begins next.next made.marks;
      went = went_within (Changing old.honest c.args.free bitmap c.args.lbn c.args.count old.image)
          (Went-more c.args.free bitmap c.args.lbn _ _ _ c.args.count old _ _ held.went held.keeps held.marks next.begins next.within
          next.whole made.went) (omega arith);
    }

pub returns-in_err-mark_part-clause-stands : goal.returns-in_err-mark_part-clause-stands
returns-in_err-mark_part-clause-stands g c = stands-on c.mark_part.ensures.stands c.loop-index.invariant.stands
