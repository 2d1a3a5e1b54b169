use Rattle.std.proofs.Common.{◌/◌, false, length, refl, ap, ◌∙◌, sym, subst, arith}
use Rattle.std.proofs.lemmas.Bool.{both_ways}
use Rattle.f11_dev.proofs.LookedLemmas.{looked_read, looked_more, looked_within}
use Rattle.f11_home.specs.Home.{candidates, fields_of}
use Rattle.f11_home.specs.HomeBlock.{IsHomeBlock}
use Rattle.f11_home.proofs.HomeLemmas.{candidate-below, candidate-number, candidate_read, HasNoHome-all, IsHomeOf-first, NoneBelow-more}
use Rattle.f11_home.proofs.home.find.Goals as goal

-- what was read is valid for as many blocks as the image has, and lies on the device
pub returns-then-is_home_block-clause-found : goal.returns-then-is_home_block-clause-found
returns-then-is_home_block-clause-found g c =
    let old = g.D.Device.disk c.args.device.now in
    let looked = c.loop-k.invariant.looked in
    let fields = c.of.ensures ∙ ap (λ lbn. fields_of lbn c.read.new.into) c.candidate_lbn-lbn.ensures in
    let place = ap (λ h. h.lbn) c.of.ensures ∙ c.candidate_lbn-lbn.ensures in
    let end = c.candidate_count-k-end.ensures ∙ ap candidates c.blocks-blocks.ensures.count in
    let below = candidate-below c.loop-k.k (length old.image) (omega (arith, end, c.loop-k-test.true)) in
    let valid = subst (λ n. IsHomeBlock c.read.new.into n) c.blocks-blocks.ensures.count (c.if-is_home_block.ensures.0 refl) in
    record {
      is_home = λ honest.
          let reads = candidate_read _ _ c.loop-k.k _ _ c.read.new.into looked c.candidate_lbn-lbn.ensures c.in_ok-read.ensures.reads.gives
          honest in
          IsHomeOf-first _ c.loop-k.k c.read.new.into _ (c.loop-k.invariant.none honest) reads valid fields;
      sound = record {
        block = c.read.new.into;
        valid = valid;
        fields = fields ∙ ap (λ lbn. fields_of lbn c.read.new.into) (sym place);
        within = omega (arith, place, below);
      };
      looked = looked_within (looked_more looked (looked_read _ _ c.in_ok-read.ensures.reads.counts))
          (omega (arith, ap (λ lbn. lbn / 256) place, candidate-number c.loop-k.k));
    }

pub loop-k-preserved : goal.loop-k-preserved
loop-k-preserved g c = record {
  none = λ honest.
      let reads = candidate_read _ _ c.loop-k.k _ _ c.read.new.into c.loop-k.invariant.looked c.candidate_lbn-lbn.ensures
      c.in_ok-read.ensures.reads.gives honest in
      NoneBelow-more _ c.loop-k.k c.read.new.into (c.loop-k.invariant.none honest) reads
      (λ valid. both_ways false refl
      (c.if-is_home_block.ensures.1 (subst (λ n. IsHomeBlock c.read.new.into n) (sym c.blocks-blocks.ensures.count) valid)));
  looked = looked_more c.loop-k.invariant.looked (looked_read _ _ c.in_ok-read.ensures.reads.counts);
}

pub returns-clause-none : goal.returns-clause-none
returns-clause-none g c = λ none.
    let end = c.candidate_count-k-end.ensures ∙ ap candidates c.blocks-blocks.ensures.count in
    record {
      has_none = λ honest. HasNoHome-all _ (λ k below. c.loop-k.invariant.none honest k (omega (arith, end, below, c.loop-k-test.false)));
      looked = looked_within c.loop-k.invariant.looked (omega (arith, end));
    }
