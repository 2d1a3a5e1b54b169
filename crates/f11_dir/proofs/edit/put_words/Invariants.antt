use Rattle.std.proofs.Common.{◌≡◌, ◌*◌, take}
use Rattle.std.specs.List.{flat_map}
use Rattle.f11_bytes.specs.Words.{word_bytes}
use Rattle.f11_bytes.specs.Part.{with_bytes}
use Rattle.f11_dir.proofs.edit.put_words.Given as goal

abbrev pub invariant-loop-k : goal.invariant-loop-k
invariant-loop-k l = l.block ≡ with_bytes l.initial.block (16 * l.i) (flat_map word_bytes (take l.k l.words))
