use Rattle.std.proofs.Common.{◌≡◌, ◌+◌, ◌*◌, ◌==◌, Bool, ℕ, sym, ap, ◌∙◌}
use Rattle.std.specs.Int.{bit_at}
use Rattle.f11_index.proofs.FreeLemmas.{bit-full, word-bits}
use Rattle.f11_index.proofs.slots.word_of.Goals as goal

pub returns-clause-all : goal.returns-clause-all
returns-clause-all c =
    λ is. bit-full c.args.block.now c.args.i (sym c.read_word.ensures ∙ is) (c.fits-block (2 * c.args.i)) (c.fits-block (2 * c.args.i + 1))

pub returns-clause-bits : goal.returns-clause-bits
returns-clause-bits c = λ k below.
    word-bits c.args.block.now c.args.i (c.fits-block (2 * c.args.i)) (c.fits-block (2 * c.args.i + 1)) k below
    ∙ ap (λ (x : ℕ). bit_at x k == 1) (sym c.read_word.ensures)
