use Rattle.f11_chain.proofs.WindowLemmas.{held-on}
use Rattle.f11_chain.proofs.windows.Window.read_in.Goals as goal

pub read-requires : goal.read-requires
read-requires g c = held-on c.args.self.now c.args.vbn c.in-Some.lbn _ c.requires.on c.in-Some.ensures

pub returns : goal.returns
returns g c = record {
  reads = record {
    lbn = c.in-Some.lbn;
    held = c.in-Some.ensures;
    within = held-on c.args.self.now c.args.vbn c.in-Some.lbn _ c.requires.on c.in-Some.ensures;
    reads = c.read.ensures.reads;
  };
}
