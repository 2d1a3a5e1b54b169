use Rattle.std.proofs.Common.{inr, refl}
use Rattle.f11_flx.proofs.making.make.Goals as goal

pub returns-in-Ok-enter-clause-makes : goal.returns-in-Ok-enter-clause-makes
returns-in-Ok-enter-clause-makes g c pieces = record {
  id = c.in-Ok.id;
  created = c.create.new.service;
  filled = c.fill_file.new.service;
  creates = (c.create.new.service, c.in-Ok.ensures.created, refl);
  fills = c.in-Ok-fill_file.ensures.fills;
  enters = c.in-Ok-enter.ensures.granted c.args.plan.now.attr pieces;
}

pub returns-in-Err-enter-clause-fails : goal.returns-in-Err-enter-clause-fails
returns-in-Err-enter-clause-fails g c pieces = inr (inr (record {
  id = c.in-Ok.id;
  e = c.in-Err-enter.refusal;
  created = c.create.new.service;
  filled = c.fill_file.new.service;
  left = c.enter.new.service;
  creates = (c.create.new.service, c.in-Ok.ensures.created, refl);
  fills = c.in-Ok-fill_file.ensures.fills;
  breaks = c.in-Err-enter.ensures.denied c.args.plan.now.attr pieces;
  undoes = c.undo-in-Err-enter.ensures;
}))
