use Rattle.std.proofs.Common.{◌≡◌, ℕ, ◌+◌, ◌-◌, ◌*◌, min, get_or, refl, sym, ap, ◌∙◌, arith}
use Rattle.f11_dev.specs.bytes.Bits.{bit}
use Rattle.f11_dev.proofs.LookedLemmas.{looked_none, looked_read, looked_more}
use Rattle.f11_bits.specs.Bitmap.{Bitmap, count_below, is_free}
use Rattle.f11_bits.proofs.CountLemmas.{count_below-zero, count_below-le}
use Rattle.f11_bits.proofs.BitmapLemmas.{free_below-more}
use Rattle.f11_bits.proofs.StepLemmas.{slice_get-read}
use Rattle.f11_bits.proofs.storage.count_blocks.Goals as goal

pub loop-index-init : goal.loop-index-init
loop-index-init g c = record {
  counts = λ honest.
      let free = is_free (g.D.Device.disk c.args.device.now).image (record { places = c.args.places.now; size = c.args.size }) in
      let none : min 0 c.args.size ≡ 0 = omega arith in
      sym (ap (count_below free) none ∙ count_below-zero free);
  few = omega arith;
  last = λ some. absurd (omega arith);
  looked = looked_none _;
}

pub overflow_add-count : goal.overflow_add-count
overflow_add-count g c =
    omega (
      arith,
      c.count_free_to-count.ensures,
      count_below-le (bit c.read.new.into) c.bits_in.result,
      c.bits_in.ensures,
      c.loop-index.invariant.few,
      c.requires.bitmap.covered,
      c.requires.bitmap.few,
    )

pub loop-index-preserved : goal.loop-index-preserved
loop-index-preserved g c =
    let old = g.D.Device.disk c.args.device.now in
    let bitmap : Bitmap = record { places = c.args.places.now; size = c.args.size } in
    let at_last : c.loop-index.index ≡ c.loop-index.index + 1 - 1 = omega arith in
    let is = rw c.bits_in.ensures at c.count_free_to-count.ensures in
    record {
      counts = λ honest.
          free_below-more old.image bitmap c.loop-index.index c.loop-index.count c.count_free_to-count.result c.read.new.into
          (slice_get-read old _ _ _ _ _ c.loop-index.invariant.looked refl c.in_ok-read.ensures.reads.gives honest)
          (c.loop-index.invariant.counts honest) is;
      few = omega (
        arith,
        is,
        count_below-le (bit c.read.new.into) (min (c.args.size - 4096 * c.loop-index.index) 4096),
        c.loop-index.invariant.few,
      );
      last = λ some honest. slice_get-read old _ _ _ _ _ c.loop-index.invariant.looked
          (ap (λ (i : ℕ). get_or c.args.places.now i 0) at_last) c.in_ok-read.ensures.reads.gives honest;
      looked = looked_more c.loop-index.invariant.looked (looked_read _ _ c.in_ok-read.ensures.reads.counts);
    }
