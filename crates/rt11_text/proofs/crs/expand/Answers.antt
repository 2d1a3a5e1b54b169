use Rattle.std.proofs.Common.{arith, refl}
use Rattle.rt11_text.proofs.CrsLemmas.{expands-more, expands-none}
use Rattle.rt11_text.proofs.crs.expand.Goals as goal

pub loop-at-init : goal.loop-at-init
loop-at-init c = expands-none c.args.source.now c.args.cr c.clear.new.self.items c.clear.ensures

pub loop-at-preserved : goal.loop-at-preserved
loop-at-preserved c =
    let l = c.loop-at in
    expands-more c.args.source.now c.args.cr l.at _ l.text.items c.put_byte.new.text.items l.behind _ l.invariant
    (omega (arith, c.loop-at-test.true, c.requires.few, c.type_inv.source)) refl c.put_byte.ensures refl
