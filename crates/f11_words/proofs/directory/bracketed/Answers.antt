use Rattle.std.proofs.Common.{arith}
use Rattle.std.proofs.lemmas.Str.Pattern.{strip_prefix_char, strip_suffix_char}
use Rattle.f11_words.proofs.DirectoryLemmas.{not-bracketed}
use Rattle.f11_words.proofs.directory.bracketed.Goals as goal

pub returns-in-None-strip_suffix : goal.returns-in-None-strip_suffix
returns-in-None-strip_suffix c =
    let first = rw c.in-Some.is at (strip_prefix_char 91 c.args.text.now c.strip_prefix.result c.strip_prefix.ensures.cases (omega arith))
    in
    let last = rw c.in-None-strip_suffix.is at (strip_suffix_char 93 _ c.strip_suffix.result c.strip_suffix.ensures.cases (omega arith)) in
    not-bracketed _ _ first last

pub returns-in-None : goal.returns-in-None
returns-in-None c =
    let first = rw c.in-None.is at (strip_prefix_char 91 c.args.text.now c.strip_prefix.result c.strip_prefix.ensures.cases (omega arith))
    in λ t. first _
