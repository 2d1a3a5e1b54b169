use Rattle.std.proofs.Common.{refl, sym, ◌∙◌, arith}
use Rattle.f11_files.proofs.Opening.Apart.{not-apart, apart-more}
use Rattle.f11_files.proofs.open.are_apart.Goals as goal

pub loop-i-init : goal.loop-i-init
loop-i-init c = λ a b low. absurd (omega (arith, low))

pub returns-then-contains : goal.returns-then-contains
returns-then-contains c = (
  λ never. absurd cc,
  λ apart.
      absurd (not-apart c.args.places.now c.loop-i.i c.loop-i-test.true (sym c.contains.ensures.value ∙ c.if-contains.true) apart),
)

pub loop-i-preserved : goal.loop-i-preserved
loop-i-preserved c =
    apart-more c.args.places.now c.loop-i.i c.loop-i-test.true c.loop-i.invariant (sym c.contains.ensures.value ∙ c.if-contains.false)

pub returns : goal.returns
returns c = (
  λ _ a b low high same. c.loop-i.invariant a b (omega (arith, low, c.loop-i-test.false)) (omega (arith, high, c.loop-i-test.false))
      same,
  λ _. refl,
)
