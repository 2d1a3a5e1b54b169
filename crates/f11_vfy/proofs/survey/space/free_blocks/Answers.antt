use Rattle.std.proofs.Common.{ℕ, ◌∙◌, refl, subst, arith}
use Rattle.f11_bits.specs.Bitmap.{Bitmap, IsBitmapBlock}
use Rattle.f11_bits.proofs.StepLemmas.{slice_get-read}
use Rattle.f11_dev.proofs.LookedLemmas.{looked_none, looked_read, looked_more, looked_within}
use Rattle.f11_vfy.proofs.Surveying.Free.{free-none, free-more, free-all}
use Rattle.f11_vfy.proofs.survey.space.free_blocks.Goals as goal

pub loop-index-init : goal.loop-index-init
loop-index-init g c = record {
  limit = c.in_ok-free.ensures.limit;
  each = λ honest lbn. free-none _ lbn (c.in_ok-free.ensures.none lbn) _;
  last = λ honest some. absurd (omega (arith, some));
  looked = looked_none _;
}

pub loop-index-preserved : goal.loop-index-preserved
loop-index-preserved g c =
    let old = g.D.Device.disk c.args.device.now in
    let bitmap : Bitmap = record { places = c.args.places.now; size = c.args.size } in
    record {
      limit = c.add_bits.ensures.limit ∙ c.loop-index.invariant.limit;
      each = λ honest lbn.
          free-more old.image bitmap c.loop-index.index _ lbn c.read.new.into _ _
          (slice_get-read old _ _ _ _ _ c.loop-index.invariant.looked refl c.in_ok-read.ensures.reads.gives honest) c.min-count.ensures
          (c.loop-index.invariant.each honest lbn) (c.add_bits.ensures.adds lbn);
      last = λ honest some.
          subst (λ (i : ℕ). IsBitmapBlock old.image bitmap i c.read.new.into) (omega arith)
          (slice_get-read old _ _ _ _ _ c.loop-index.invariant.looked refl c.in_ok-read.ensures.reads.gives honest);
      looked = looked_more c.loop-index.invariant.looked (looked_read _ _ c.in_ok-read.ensures.reads.counts);
    }

pub returns-clause-reads : goal.returns-clause-reads
returns-clause-reads g c =
    let old = g.D.Device.disk c.args.device.now in
    let bitmap : Bitmap = record { places = c.args.places.now; size = c.args.size } in
    record {
      limit = c.loop-index.invariant.limit;
      each = λ honest lbn. free-all old.image bitmap c.loop-index.index lbn _
          (omega (arith, c.loop-index-test.false, c.div_ceil-index-end.ensures)) (c.loop-index.invariant.each honest lbn);
      last = λ honest sized.
          subst (λ (i : ℕ). IsBitmapBlock old.image bitmap i c.loop-index.block)
          (omega (arith, sized, c.loop-index-test.false, c.loop-index.auto.index-end, c.div_ceil-index-end.ensures))
          (c.loop-index.invariant.last honest (omega (arith, sized, c.loop-index-test.false, c.div_ceil-index-end.ensures)));
      looked = looked_within c.loop-index.invariant.looked
          (omega (arith, c.loop-index.auto.index-end, c.div_ceil-index-end.ensures, c.requires.covered));
    }
