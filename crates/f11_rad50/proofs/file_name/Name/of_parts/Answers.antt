use Rattle.std.proofs.Common.{rules}
use Rattle.f11_rad50.specs.Name.{IsProper}
use Rattle.f11_rad50.proofs.Words.{IsName-words_of, words_of-eq}
use Rattle.f11_rad50.proofs.file_name.Name.of_parts.Goals as goal

pub invariant_of-result : goal.invariant_of-result
invariant_of-result c =
    let proper : IsProper c.args.name.now c.args.kind.now c.args.version = search rules in
    rw (words_of-eq _ _ c.args.version _ _ _ _ c.word_at.ensures c.word_at-2.ensures c.word_at-3.ensures c.word_at-4.ensures)
    (IsName-words_of _ _ _ proper)

pub returns : goal.returns
returns c =
    (search rules, words_of-eq _ _ c.args.version _ _ _ _ c.word_at.ensures c.word_at-2.ensures c.word_at-3.ensures c.word_at-4.ensures)
