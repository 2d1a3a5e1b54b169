use Rattle.std.proofs.Common.{◌∙◌, arith}
use Rattle.f11_script.proofs.InputLemmas.{kept_room, kept_full}
use Rattle.f11_script.proofs.input.keep.Goals as goal

pub returns-then-len-lt1202 : goal.returns-then-len-lt1202
returns-then-len-lt1202 c =
    c.push.ensures.items ∙ kept_room c.args.line.now.items c.args.byte (omega (arith, c.len.ensures.value, c.if-len-lt1202.true))

pub returns-else-len-lt1202 : goal.returns-else-len-lt1202
returns-else-len-lt1202 c =
    kept_full c.args.line.now.items c.args.byte (omega (arith, c.len.ensures.value, c.len.ensures.fits, c.if-len-lt1202.false))
