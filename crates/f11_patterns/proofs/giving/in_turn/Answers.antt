use Rattle.f11_patterns.specs.Turns.{GetsIn}
use Rattle.f11_patterns.proofs.GivingLemmas.{each-given, none-given, one-given}
use Rattle.f11_patterns.proofs.giving.in_turn.Goals as goal

pub loop-path-init : goal.loop-path-init
loop-path-init g c =
    rw c.new-names.ensures.items (none-given (GetsIn c.args.turn g.K.HostNaming.naming) c.args.there.now.items c.args.paths.now)

pub loop-path-preserved : goal.loop-path-preserved
loop-path-preserved g c =
    let l = c.loop-path in
    one-given (GetsIn c.args.turn g.K.HostNaming.naming) c.args.there.now.items c.args.paths.now l.path-index l.there.items l.names.items
    l.invariant _ c.name_in-name.result c.keep.new.there.items c.give.new.names.items c.loop-path-test.true
    (rw c.deref.ensures.value at c.name_in-name.ensures.gets) c.in_ok-keep.ensures c.in_ok-give.ensures

pub returns-clause-names : goal.returns-clause-names
returns-clause-names g c =
    let l = c.loop-path in
    each-given (GetsIn c.args.turn g.K.HostNaming.naming) c.args.there.now.items c.args.paths.now l.path-index l.there.items l.names.items
    l.invariant c.loop-path-test.false

pub returns-clause-there : goal.returns-clause-there
returns-clause-there g c = c.loop-path.invariant.all_are
