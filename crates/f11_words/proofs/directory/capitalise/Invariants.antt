use Rattle.std.proofs.Common.{◌≡◌, ◌++◌, drop, map, take}
use Rattle.std.specs.Char.{to_ascii_uppercase}
use Rattle.f11_words.proofs.directory.capitalise.Given as goal

abbrev pub invariant-loop-c : goal.invariant-loop-c
invariant-loop-c l = l.text ≡ map to_ascii_uppercase (take l.c-index l.fn.text) ++ drop l.c-index l.fn.text
