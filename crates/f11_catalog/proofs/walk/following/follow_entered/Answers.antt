use Rattle.f11_catalog.proofs.FollowingLemmas.{follows-entered, follows-none, follows-part}
use Rattle.f11_catalog.proofs.walk.following.follow_entered.Goals as goal

pub returns-in-Ok-follow-clause-follows : goal.returns-in-Ok-follow-clause-follows
returns-in-Ok-follow-clause-follows g c =
    follows-entered _ _ _ c.args.led.now c.meet_all.new.self c.in-Some.copy c.in-Some-begin.seen _ _ _ c.in-Some.ensures
    c.meet_all.ensures.adds c.in-Some-begin.ensures c.in-Ok.ensures.begins _ _ c.in-Ok-follow.ensures.follows

pub returns-in-Ok-clause-follows : goal.returns-in-Ok-clause-follows
returns-in-Ok-clause-follows g c =
    follows-part _ _ _ c.args.led.now c.meet_all.new.self c.in-Some.copy c.in-Some-begin.seen _ _ _ c.in-Some.ensures
    c.meet_all.ensures.adds c.in-Some-begin.ensures c.in-Ok.ensures.begins _ _ c.in-Err.ensures.failed

pub returns-in-Err-DeviceFault-clause-follows : goal.returns-in-Err-DeviceFault-clause-follows
returns-in-Err-DeviceFault-clause-follows g c =
    follows-none _ _ _ _ _ _ _ c.in-Some-begin.ensures (rw c.in-Err-DeviceFault.field-0-is at c.in-Err-DeviceFault.ensures.failed)
