use Rattle.std.proofs.Common.{[], ◌∷◌, ◌++◌, ◌∙◌, Err, ap, refl}
use Rattle.f11_chain.proofs.AlongLemmas.{Along-first, Along-next}
use Rattle.f11_vfy.proofs.Frames.Earlier.{puts-absent, puts-last, puts-wrong, file-none, along-puts}
use Rattle.f11_vfy.proofs.frame.earlier.put_named.Goals as goal

pub returns-in-Err-Damaged-clause-puts : goal.returns-in-Err-Damaged-clause-puts
returns-in-Err-Damaged-clause-puts g c = puts-absent _ _ _ _ (c.in-Err-Damaged.ensures.damaged (ap Err c.in-Err-Damaged.field-0-is))

pub loop-init : goal.loop-init
loop-init g c = record {
  number = 3;
  behind = [];
  along = Along-first _ _ _ _ _ c.in-Ok.ensures.reads;
  limit = refl;
  puts = λ honest. file-none _ _ _;
}

pub returns-in-Ok-None-clause-puts : goal.returns-in-Ok-None-clause-puts
returns-in-Ok-None-clause-puts g c =
    puts-last _ _ _ _ _ _ _ c.loop.invariant.along _ _
    (along-puts _ _ _ _ _ _ _ _ c.loop.invariant.along _ _ _ c.loop.invariant.puts c.put_header.ensures.puts) _ _
    (rw c.in-Ok-None.field-0-is at c.in-Ok-None.ensures.last)

pub returns-in-Err-Damaged-next-clause-puts : goal.returns-in-Err-Damaged-next-clause-puts
returns-in-Err-Damaged-next-clause-puts g c =
    puts-wrong _ _ _ _ _ _ _ c.loop.invariant.along _ _
    (along-puts _ _ _ _ _ _ _ _ c.loop.invariant.along _ _ _ c.loop.invariant.puts c.put_header.ensures.puts) _
    (c.in-Err-Damaged-next.ensures.damaged (ap Err c.in-Err-Damaged-next.field-0-is))

pub loop-preserved : goal.loop-preserved
loop-preserved g c = record {
  number = c.in-Ok-Some.field-0-0;
  behind = c.loop.invariant.behind ++ c.loop.invariant.number ∷ [];
  along = Along-next _ _ _ _ _ _ _ _ c.loop.invariant.along _ _ _ (rw c.in-Ok-Some.field-0-is at c.in-Ok-Some.ensures.reads);
  limit = c.put_header.ensures.puts.limit ∙ c.loop.invariant.limit;
  puts = along-puts _ _ _ _ _ _ _ _ c.loop.invariant.along _ _ _ c.loop.invariant.puts c.put_header.ensures.puts;
}
