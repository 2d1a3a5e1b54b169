use Rattle.std.proofs.Common.{◌∙◌, arith}
use Rattle.f11_script.proofs.InputLemmas.{kept_part}
use Rattle.f11_script.proofs.input.keep_bytes.Goals as goal

pub returns : goal.returns
returns c =
    c.push_bytes.ensures
    ∙ kept_part c.args.line.now.items c.args.piece.now c.args.at c.args.end c.min-stop.result c.requires.order
    (omega (arith, c.len-room.ensures.value, c.len-room.ensures.fits))
    (omega (arith, c.len-room.ensures.value, c.min-stop.ensures))
