use Rattle.std.proofs.Common.{◌∷◌, [], Option, Some, Err, Ok, sym, ◌∙◌, arith}
use Rattle.rt11_volume.specs.declared.refusal.RtRefusal.{RtRefusal}
use Rattle.rt11_squeeze.specs.Moving.{move_transfers}
use Rattle.rt11_squeeze.proofs.SqueezeLemmas.{goes-on, moved-there, preserves-as, preserves-moved, preserves-unmoved, unmoved-uncopied}
use Rattle.rt11_squeeze.proofs.squeezing.try_move.Goals as goal

pub returns-in-Ok : goal.returns-in-Ok
returns-in-Ok g c =
    let e = c.in-Ok.ensures in
    record {
      preserves = preserves-moved g.D.Device.disk c.args.file.now c.args.volume.now c.move_file.new.volume e.went e.next e.moved;
      tries = moved-there c.args.file.now _ _ e.moved;
    }

pub returns-else-ends_all : goal.returns-else-ends_all
returns-else-ends_all g c =
    let e = c.in-Err.ensures in
    let n = move_transfers c.args.file.now.blocks in
    record {
      preserves = preserves-as g.D.Device.disk {T = Option RtRefusal} {U = Option RtRefusal} (c.args.file.now ∷ []) n n
          (Err c.in-Err.refusal) (Ok (Some c.in-Err.refusal)) c.args.volume.now c.move_file.new.volume
          (goes-on c.in-Err.refusal (sym c.ends_all.ensures ∙ c.if-ends_all.false)) (omega arith)
          (preserves-unmoved g.D.Device.disk c.args.file.now c.in-Err.refusal c.args.volume.now c.move_file.new.volume e.went e.next
          e.refused);
      tries = unmoved-uncopied c.args.file.now c.in-Err.refusal _ _ e.refused (sym c.ends_all.ensures ∙ c.if-ends_all.false) e.went.honest;
    }

pub returns-then-ends_all-clause-preserves : goal.returns-then-ends_all-clause-preserves
returns-then-ends_all-clause-preserves g c =
    preserves-unmoved g.D.Device.disk c.args.file.now c.in-Err.refusal c.args.volume.now c.move_file.new.volume c.in-Err.ensures.went
    c.in-Err.ensures.next c.in-Err.ensures.refused
