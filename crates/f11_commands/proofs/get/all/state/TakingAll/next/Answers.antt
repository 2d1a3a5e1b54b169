use Rattle.f11_catalog.proofs.FilesLemmas.{next-reads}
use Rattle.f11_commands.proofs.AllLemmas.{within-on}
use Rattle.f11_commands.proofs.get.all.state.TakingAll.next.Goals as goal

pub invariant_of-self : goal.invariant_of-self
invariant_of-self g c =
    let reads = next-reads _ _ _ _ _ _ c.next.result c.next.ensures.gives c.next.ensures.ended c.next.ensures.failed in
    record {
      within = within-on _ _ _ _ reads.1 c.args.self.now.within;
      wide_within = within-on _ _ _ _ reads.1 c.args.self.now.wide_within;
      walking = c.next.ensures.walking;
    }
