use Rattle.std.proofs.Common.{arith}
use Rattle.f11_bytes.proofs.WordLemmas.{with_word-put_mid}
use Rattle.f11_bytes.proofs.words.write_word.Goals as goal

pub returns : goal.returns
returns c = with_word-put_mid _ _ _ _ _ (omega arith) (omega arith) (omega arith) c.write_u16.ensures
