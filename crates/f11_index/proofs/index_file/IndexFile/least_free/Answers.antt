use Rattle.std.proofs.Common.{sym, ◌∙◌, arith}
use Rattle.f11_index.specs.Kept.{index_kept}
use Rattle.f11_index.proofs.FreeLemmas.{between-all, least-free, word-first, word-none}
use Rattle.f11_index.proofs.index_file.IndexFile.least_free.Goals as goal

pub returns-in-Some : goal.returns-in-Some
returns-in-Some c =
    least-free (index_kept c.args.self.now) c.in-Some.n
    (sym (word-first (index_kept c.args.self.now) c.loop-word.word c.in-Some.n c.args.self.now.valid.first_slots (omega arith)
    c.loop-word.invariant c.in-Some.ensures))

pub loop-word-preserved : goal.loop-word-preserved
loop-word-preserved c =
    word-none (index_kept c.args.self.now) c.loop-word.word c.args.self.now.valid.first_slots (omega arith) c.loop-word.invariant
    c.in_default.ensures

pub returns : goal.returns
returns c = sym (between-all (index_kept c.args.self.now) c.loop-word.word (omega arith)) ∙ c.loop-word.invariant
