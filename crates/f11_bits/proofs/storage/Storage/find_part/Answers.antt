use Rattle.std.proofs.Common.{◌≡◌, ◌*◌, ◌/◌, ℕ, refl, ap, sym, ◌+◌, get_or, arith}
use Rattle.f11_dev.proofs.LookedLemmas.{looked_more, looked_within}
use Rattle.f11_bits.specs.Storage.{bitmap_of}
use Rattle.f11_bits.proofs.StepLemmas.{slice_get-read, IsOn-looked}
use Rattle.f11_bits.proofs.SearchLemmas.{bits-within, IsPart-found, IsFirstPart-found, none_free-more, NoneFrom-all}
use Rattle.f11_bits.proofs.storage.Storage.find_part.Goals as goal

pub read_block-requires-clause-on : goal.read_block-requires-clause-on
read_block-requires-clause-on g c = IsOn-looked _ c.requires.on c.loop-index.invariant.looked

pub overflow_add-result : goal.overflow_add-result
overflow_add-result g c =
    let part = IsPart-found _ _ _ _ _ _ _ _ _ c.saturating_sub-start.ensures c.bits_in-end.ensures c.in-Some.ensures.run in
    omega (arith, part.within)

pub returns-in-Some-clause-finds : goal.returns-in-Some-clause-finds
returns-in-Some-clause-finds g c =
    let old = g.D.Device.disk c.args.device.now in
    let run = c.in-Some.ensures.run in
    let looked = c.loop-index.invariant.looked in
    let gives = c.in_ok-read_block.ensures.block in
    let ends = bits-within _ _ _ _ run.some run.each in
    let number : (c.loop-index.index * 4096 + c.in-Some.at) / 4096 ≡ c.loop-index.index =
    omega (arith, ends, run.some, c.bits_in-end.ensures) in
    record {
      part = IsPart-found _ _ _ _ _ _ _ _ _ c.saturating_sub-start.ensures c.bits_in-end.ensures run;
      first = λ honest.
          let stands = slice_get-read old _ _ _ _ _ looked refl gives honest in
          IsFirstPart-found _ (bitmap_of c.args.self.now) _ _ _ _ _ _ _ _ c.requires.few c.saturating_sub-start.ensures
          c.bits_in-end.ensures stands (c.loop-index.invariant.none honest) run;
      block_is = λ honest. slice_get-read old _ _ _ _ _ looked (ap (λ (i : ℕ). get_or (bitmap_of c.args.self.now).places i 0) (sym number))
          gives honest;
      looked = looked_within (looked_more looked c.in_ok-read_block.ensures.looked) (omega (arith, number));
    }

pub loop-index-preserved : goal.loop-index-preserved
loop-index-preserved g c = record {
  none = λ honest.
      let stands = slice_get-read (g.D.Device.disk c.args.device.now) _ _ _ _ _ c.loop-index.invariant.looked refl
      c.in_ok-read_block.ensures.block honest in
      none_free-more _ (bitmap_of c.args.self.now) _ _ _ _ _ c.saturating_sub-start.ensures c.bits_in-end.ensures stands
      (c.loop-index.invariant.none honest) c.in_default.ensures.run;
  looked = looked_within (looked_more c.loop-index.invariant.looked c.in_ok-read_block.ensures.looked) (omega arith);
  within = omega (arith, c.args.self.now.valid.covered);
}

pub returns-clause-none : goal.returns-clause-none
returns-clause-none g c = record {
  none = λ honest. NoneFrom-all _ (bitmap_of c.args.self.now) _ _ (omega arith) (c.loop-index.invariant.none honest);
  looked = looked_within c.loop-index.invariant.looked c.loop-index.invariant.within;
}
