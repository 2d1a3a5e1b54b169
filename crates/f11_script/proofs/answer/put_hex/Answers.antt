use Rattle.std.proofs.Common.{refl}
use Rattle.f11_script.proofs.AnswerLemmas.{hex_more}
use Rattle.f11_script.proofs.answer.put_hex.Goals as goal

pub loop-byte-preserved : goal.loop-byte-preserved
loop-byte-preserved c =
    hex_more c.args.bytes.now c.loop-byte.byte-index _ _ _ _ c.loop-byte-test.true refl c.loop-byte.invariant
    (rw (c.hex_digit.ensures, c.hex_digit-in-loop-byte.ensures) at c.put.ensures)
