use Rattle.std.proofs.Common.{refl, subst}
use Rattle.rt11_volume.proofs.FreshLemmas.{fresh_accepted, fresh_store}
use Rattle.rt11_volume.specs.Fresh.{HasRoom}
use Rattle.rt11_volume.proofs.fresh.init.Goals as goal

pub invariant_of-result : goal.invariant_of-result
invariant_of-result g c =
    let old = g.D.Device.disk c.args.device in
    let room = subst (HasRoom c.args.segments) c.blocks-2.ensures.count (c.has_room.ensures.0 c.if-not-has_room.false) in
    record {
      sound = λ honest calm. fresh_accepted c.args.segments old.image _ room c.in-Ok.ensures.written.fresh;
      lies = λ honest calm. tt;
    }

pub returns-in-Ok-clause-inits : goal.returns-in-Ok-clause-inits
returns-in-Ok-clause-inits g c =
    let old = g.D.Device.disk c.args.device in
    let room = subst (HasRoom c.args.segments) c.blocks-2.ensures.count (c.has_room.ensures.0 c.if-not-has_room.false) in
    record {
      room = room;
      writes = c.in-Ok.ensures.written;
      accepted = fresh_accepted c.args.segments old.image _ room c.in-Ok.ensures.written.fresh;
      store = fresh_store c.args.segments old.image _ room c.in-Ok.ensures.written.fresh;
      calm = refl;
    }
