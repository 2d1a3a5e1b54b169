use Rattle.f11_chain.proofs.WindowLemmas.{held-on}
use Rattle.f11_chain.proofs.windows.Window.write_in.Goals as goal

pub write-requires : goal.write-requires
write-requires g c = held-on c.args.self.now c.args.vbn c.in-Some.lbn _ c.requires.on c.in-Some.ensures

pub returns : goal.returns
returns g c = record {
  writes = record {
    lbn = c.in-Some.lbn;
    held = c.in-Some.ensures;
    within = held-on c.args.self.now c.args.vbn c.in-Some.lbn _ c.requires.on c.in-Some.ensures;
    writes = c.write.ensures.writes;
  };
}
