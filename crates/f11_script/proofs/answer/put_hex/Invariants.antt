use Rattle.std.proofs.Common.{◌*◌, take}
use Rattle.std.specs.List.{flat_map}
use Rattle.f11_script.specs.Answers.{hex_digits}
use Rattle.f11_script.specs.Pieces.{PutsUpTo}
use Rattle.f11_script.proofs.answer.put_hex.Given as goal

abbrev pub invariant-loop-byte : goal.invariant-loop-byte
invariant-loop-byte l = PutsUpTo (2 * l.byte-index) l.initial.text.items l.text.items (flat_map hex_digits (take l.byte-index l.bytes))
