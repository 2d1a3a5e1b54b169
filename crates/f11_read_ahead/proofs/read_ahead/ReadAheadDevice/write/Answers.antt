use Rattle.std.proofs.Common.{rules}
use Rattle.f11_read_ahead.proofs.BufferLemmas.{keeps-written}
use Rattle.f11_read_ahead.proofs.read_ahead.ReadAheadDevice.write.Goals as goal

pub invariant_of-self : goal.invariant_of-self
invariant_of-self g c = record {
  recent_stands = keeps-written c.write-done.result c.is_ok-passed.result _ _ _ _ _ _ (search rules) c.requires c.write-done.ensures.writes
      c.written.ensures c.args.self.now.recent_stands;
  earlier_stands = keeps-written c.write-done.result c.is_ok-passed.result _ _ _ _ _ _ (search rules) c.requires c.write-done.ensures.writes
      c.written-2.ensures c.args.self.now.earlier_stands;
}
