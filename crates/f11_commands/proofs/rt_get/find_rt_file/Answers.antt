use Rattle.std.proofs.Common.{rules, inr}
use Rattle.f11_commands.proofs.rt_get.find_rt_file.Goals as goal

pub returns-in-Ok-clause-ended : goal.returns-in-Ok-clause-ended
returns-in-Ok-clause-ended g c =
    inr (record {
      state = c.in-Ok.state;
      entries = _;
      bad = _;
      reads = c.in-Ok.ensures.reads.1;
      none = (search rules);
      told = c.tell-told.result;
      tells = rw (c.in-Ok.ensures.reads.0) at c.tell-told.ensures.tells;
      served_is = c.served.ensures;
    })
