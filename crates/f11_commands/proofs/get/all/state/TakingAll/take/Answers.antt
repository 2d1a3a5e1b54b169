use Rattle.f11_commands.proofs.AllLemmas.{taken-reads, walking-on, within-on}
use Rattle.f11_commands.proofs.get.all.state.TakingAll.take.Goals as goal

pub invariant_of-self-2 : goal.invariant_of-self-2
invariant_of-self-2 g c =
    let reads = taken-reads _ _ _ _ _ _ _ _ _ c.in_ok-taken.ensures.takes in
    record {
      within = within-on _ _ _ _ reads.1 c.args.self.now.within;
      wide_within = within-on _ _ _ _ reads.1 c.args.self.now.wide_within;
      walking = walking-on _ _ c.args.self.now.files _ _ _ reads.1 c.args.self.now.walking;
    }
