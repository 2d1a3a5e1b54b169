use Rattle.std.proofs.Common.{inr}
use Rattle.f11_flx.proofs.to_rt.copy_file.Goals as goal

pub returns-in-Err-ask-clause-fails : goal.returns-in-Err-ask-clause-fails
returns-in-Err-ask-clause-fails g c = inr (inr (record {
  opened = c.ask.new.service;
  opens = (c.in-Ok.ensures.granted.0, c.in-Ok.field-0, c.in-Ok.ensures.granted.1, c.in-Ok.ensures.granted.2);
  count = c.in-Ok-copy_locked.count;
  left = c.copy_locked.new.service;
  filled = c.copy_locked.new.rt;
  copies = c.in-Ok-copy_locked.ensures.copied;
  refusal = c.in-Err-ask.refusal;
  denied = c.in-Err-ask.ensures.denied;
  undoes = c.undo.ensures;
}))
