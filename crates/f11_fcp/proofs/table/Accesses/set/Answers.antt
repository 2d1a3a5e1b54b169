use Rattle.std.proofs.Common.{◌≡◌, length, rules}
use Rattle.f11_fcp.proofs.TableLemmas.{set-at}
use Rattle.f11_fcp.proofs.table.Accesses.set.Goals as goal

pub returns-clause-value : goal.returns-clause-value
returns-clause-value c =
    let all : length c.args.self.now.places ≡ 32 = search rules in
    set-at c.args.self.now.places c.place.result c.args.task c.args.lun c.args.held all c.place.ensures.value c.place.ensures.within.0
    c.place.ensures.within.1
