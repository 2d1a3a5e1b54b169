use Rattle.std.proofs.Common.{◌+◌, ℕ, List, ◌++◌, ◌∙◌, ap, arith, drop, length, sym}
use Rattle.std.proofs.lemmas.List.{at_drop_all, at_drop_more}
use Rattle.rt11_text.specs.ToHost.{text_behind}
use Rattle.rt11_text.proofs.to_host.ToHost.convert.Goals as goal

pub loop-at-init : goal.loop-at-init
loop-at-init c = record {
  gives = λ rest. sym (ap (λ (l : List ℕ). l ++ text_behind c.args.self.now (c.args.source.now ++ rest)) c.clear.ensures);
  few = omega (arith, ap (λ (l : List ℕ). length l) c.clear.ensures);
}

pub loop-at-preserved : goal.loop-at-preserved
loop-at-preserved c =
    let l = c.loop-at in
    record {
      gives = λ rest.
          l.invariant.gives rest
          ∙ ap (λ (t : List ℕ). l.into.items ++ t)
          (at_drop_more (λ (left : List ℕ). text_behind l.self (left ++ rest)) c.args.source.now l.at 0 c.loop-at-test.true)
          ∙ c.take_byte.ensures.gives (drop (l.at + 1) c.args.source.now ++ rest);
      few = omega (arith, l.invariant.few, c.take_byte.ensures.few);
    }

pub returns : goal.returns
returns c = record {
  gives = λ rest.
      let l = c.loop-at in
      l.invariant.gives rest
      ∙ ap (λ (t : List ℕ). l.into.items ++ t)
      (at_drop_all (λ (left : List ℕ). text_behind l.self (left ++ rest)) c.args.source.now l.at (omega (arith, c.loop-at-test.false)));
}
