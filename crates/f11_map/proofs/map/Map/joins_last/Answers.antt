use Rattle.std.proofs.Common.{◌≡◌, arith}
use Rattle.std.proofs.lemmas.Bool.Decides.{nat_tests}
use Rattle.f11_map.specs.MapArea.{runs_of}
use Rattle.f11_map.specs.MapWriting.{joins_last, joins}
use Rattle.f11_map.specs.Map.{area_of}
use Rattle.f11_map.proofs.RunLemmas.{joins_last-at}
use Rattle.f11_map.proofs.map.Map.joins_last.Goals as goal

pub returns-then-first-blocks : goal.returns-then-first-blocks
returns-then-first-blocks c =
    let is : joins_last (runs_of (area_of c.args.self.now)) c.args.lbn c.args.count ≡ joins c.run-first.result c.args.lbn c.args.count =
    joins_last-at (runs_of (area_of c.args.self.now)) _ c.args.lbn c.args.count c.run-first.result (omega arith) c.run-first.ensures.run
    in
    grind (arith, nat_tests)

pub returns-else-first-blocks : goal.returns-else-first-blocks
returns-else-first-blocks c =
    let is : joins_last (runs_of (area_of c.args.self.now)) c.args.lbn c.args.count ≡ joins c.run-first.result c.args.lbn c.args.count =
    joins_last-at (runs_of (area_of c.args.self.now)) _ c.args.lbn c.args.count c.run-first.result (omega arith) c.run-first.ensures.run
    in
    grind (arith, nat_tests)
