use Rattle.std.proofs.Common.{◌≡◌, ℕ, ◌∙◌, ◌+◌, ◌++◌, List, ap, arith, drop, length, sym, take}
use Rattle.rt11_text.proofs.FromHostLemmas.{copied-of}
use Rattle.rt11_text.proofs.from_host.FromHost.give.Goals as goal

pub returns-clause-gives : goal.returns-clause-gives
returns-clause-gives g c =
    let n = c.min-count.result in
    let items = c.args.self.now.text.items in
    let behind = drop n c.args.buf.now in
    let size = ap (λ (l : List ℕ). length l) c.left-left.ensures in
    let front : drop c.args.self.now.given items ≡ take n (c.copy_from_slice.new.self ++ behind) ++ drop (c.at.result + n) items =
    copied-of c.args.self.now.given n items c.copy_from_slice.new.self behind
    (c.copy_from_slice.ensures.after ∙ ap (λ (l : List ℕ). take n l) c.left-left.ensures)
    (omega (arith, size, c.min-count.ensures))
    ∙ ap (λ (k : ℕ). take n (c.copy_from_slice.new.self ++ behind) ++ drop (k + n) items) (sym c.at.ensures.at) in
    front
