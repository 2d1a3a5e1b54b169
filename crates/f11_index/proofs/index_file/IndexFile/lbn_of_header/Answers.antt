use Rattle.std.proofs.Common.{refl, ℕ, ap, ◌-◌, ◌∙◌, get_or, arith}
use Rattle.std.proofs.lemmas.List.{get_or_read_under}
use Rattle.f11_index.specs.IndexFile.{header_lbn}
use Rattle.f11_index.proofs.index_file.IndexFile.lbn_of_header.Goals as goal

pub returns : goal.returns
unfolding header_lbn
returns c =
    get_or_read_under c.args.self.now.headers.items _ _ _ 0 c.index.ensures (omega arith) refl
    ∙ ap (λ (n : ℕ). get_or c.args.self.now.headers.items (n - 1) 0) c.from.ensures
