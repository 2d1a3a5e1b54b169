use Rattle.std.proofs.Common.{ℕ, inr, subst}
use Rattle.f11_flx.specs.Target.{Makes}
use Rattle.f11_flx.proofs.to_rt.fill.Goals as goal

pub returns-in-Ok-copy-clause-filled : goal.returns-in-Ok-copy-clause-filled
returns-in-Ok-copy-clause-filled g c = record {
  made = c.make_file.new.rt;
  makes = subst (λ (n : ℕ). Makes g.E.Device.disk c.args.name.now n c.args.date c.args.rt.now c.make_file.new.rt) c.from.ensures
      c.in-Ok.ensures.made;
  taken = _;
  copies = c.in-Ok-copy.ensures.copied;
}

pub returns-in-Err-copy-clause-fails : goal.returns-in-Err-copy-clause-fails
returns-in-Err-copy-clause-fails g c = inr (record {
  made = c.make_file.new.rt;
  makes = subst (λ (n : ℕ). Makes g.E.Device.disk c.args.name.now n c.args.date c.args.rt.now c.make_file.new.rt) c.from.ensures
      c.in-Ok.ensures.made;
  refusal = c.in-Err-copy.refusal;
  stopped = c.copy.new.target;
  fails = c.in-Err-copy.ensures.fails;
  undoes = c.undo.ensures;
})
