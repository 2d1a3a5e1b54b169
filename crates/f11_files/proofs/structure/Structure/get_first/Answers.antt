use Rattle.std.proofs.lemmas.Result.{IfErr-weaker}
use Rattle.f11_files.proofs.Finding.Held.{held-refused}
use Rattle.f11_files.proofs.structure.Structure.get_first.Goals as goal

pub returns-else-tail-f-clause-refused : goal.returns-else-tail-f-clause-refused
returns-else-tail-f-clause-refused g c =
    IfErr-weaker c.judge_first.result _ _
    (held-refused c.args.self.now c.args.f c.in-Some.tail.now.number _ _ c.requires.is_for (rw c.in-Some.is at c.requires.holds)
    c.if-tail-f.false)
    c.judge_first.ensures.refused
