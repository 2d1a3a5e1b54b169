use Rattle.std.proofs.Common.{refl, arith}
use Rattle.f11_reader.proofs.MissingLemmas.{lacks-ended, lacks-past, passes}
use Rattle.f11_reader.proofs.file.FileReader.pass.Goals as goal

pub returns-in_default-clause-lacks : goal.returns-in_default-clause-lacks
returns-in_default-clause-lacks g c = λ _. lacks-ended _ _ _ _ _ _ (rw c.in_default.is at c.in_ok-lbn.ensures.ended)

pub returns-then-lbn-size-clause-lacks : goal.returns-then-lbn-size-clause-lacks
returns-then-lbn-size-clause-lacks g c = λ _.
    lacks-past _ _ _ _ _ _ _ (rw c.in-Some.is at c.in_ok-lbn.ensures.comes) (omega (arith, c.if-lbn-size.true))

pub returns-clause-passes : goal.returns-clause-passes
returns-clause-passes g c = λ _.
    passes _ _ _ _ _ _ _ (rw c.in-Some.is at c.in_ok-lbn.ensures.comes) _ refl refl refl
    (omega (arith, c.if-lbn-size.false))
