use Rattle.std.proofs.Common.{◌≡◌, ℕ, List, length, take, ap, ◌∙◌, sym, arith}
use Rattle.rt11_text.proofs.FromHostLemmas.{crs-many, reads-on}
use Rattle.rt11_text.proofs.from_host.FromHost.fill.Goals as goal

pub returns-clause-keeps : goal.returns-clause-keeps
returns-clause-keeps g c =
    reads-on _ _ (take c.in_ok-count.count c.read.new.buf) _ _ _ _ c.requires.empty c.expand-self.ensures.bytes c.expand-self.ensures.behind
    c.in_ok-count.ensures.bytes.0

pub returns-clause-end : goal.returns-clause-end
returns-clause-end g c none =
    let piece = take c.in_ok-count.count c.read.new.buf in
    let made = ap (λ (l : List ℕ). length l) (sym c.expand-self.ensures.bytes ∙ none) in
    let zero : c.in_ok-count.count ≡ 0 =
    omega (arith, crs-many c.args.self.now.cr piece, made, c.in_ok-count.ensures.bound) in
    c.in_ok-count.ensures.bytes.1 zero (omega (arith, c.read.auto.buf))
