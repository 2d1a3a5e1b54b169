use Rattle.std.proofs.Common.{inl}
use Rattle.f11_actions.proofs.CommandLemmas.{told-all, told-broken}
use Rattle.f11_actions.proofs.command.act_on_accepted.Goals as goal

pub returns-in-Ok-act_all : goal.returns-in-Ok-act_all
returns-in-Ok-act_all g c = record {
  ends = inl
      (told-all (g.D.Device.disk c.args.accepted.device) c.in-Ok.volume c.act_all.new.volume c.in-Ok.ensures.mounts
      (g.met.D.Device.is_image c.args.accepted.device) c.args.accepted.accepted c.args.behind c.args.actions.now c.in-Ok-act_all.counts.done
      c.in-Ok-act_all.counts.refused
      c.tell_all.result.1 (g.D.Device.disk c.dismount.result) (g.D.Device.disk c.tell_all.result.0) g.W.Write.contents
      c.args.writer.now c.act_all.new.writer c.tell_all.new.writer (λ i. g.D.Device.disk (c.dismount.ensures i))
      c.in-Ok-act_all.ensures.does c.tell_all.ensures.tells);
}

pub returns-in-Err : goal.returns-in-Err
returns-in-Err g c = record {
  ends = inl
      (told-broken (g.D.Device.disk c.args.accepted.device) c.in-Ok.volume c.act_all.new.volume c.in-Ok.ensures.mounts
      (g.met.D.Device.is_image c.args.accepted.device) c.args.accepted.accepted c.args.behind c.args.actions.now c.in-Err.failure
      c.keep_broken.result.1 (g.D.Device.disk c.dismount-in-Err.result) (g.D.Device.disk c.keep_broken.result.0) g.W.Write.contents
      c.args.writer.now c.act_all.new.writer (λ i. g.D.Device.disk (c.dismount-in-Err.ensures i)) c.keep_broken.ensures.kept
      c.in-Err.ensures.failed);
}
