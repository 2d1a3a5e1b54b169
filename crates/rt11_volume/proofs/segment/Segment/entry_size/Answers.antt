use Rattle.std.proofs.Common.{◌∙◌, List, ℕ, ap, sym, length}
use Rattle.rt11_volume.proofs.Rewriting.Words.{length-words_of}
use Rattle.rt11_volume.proofs.segment.Segment.entry_size.Goals as goal

pub returns-clause-words : goal.returns-clause-words
returns-clause-words c = ap (λ (ws : List ℕ). length ws) (sym c.self.view_is) ∙ length-words_of _
