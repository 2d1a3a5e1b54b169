use Rattle.std.proofs.Common.{◌≡◌, sym, subst, length, arith, List, ℕ}
use Rattle.f11_vfy.specs.Chain.{NextsTo, points_at}
use Rattle.f11_vfy.specs.Surveying.Count.{Shows, sum_to}
use Rattle.f11_vfy.proofs.ChainLemmas.{shows-chains}
use Rattle.f11_vfy.proofs.chains.find_chains.Goals as goal

pub returns-clause-shows : goal.returns-clause-shows
returns-clause-shows c = λ t is.
    let nexts : List ℕ = c.in_ok-nexts.nexts.items in
    let to : NextsTo t nexts t.slots = c.in_ok-nexts.ensures.nexts t is in
    let count : length nexts ≡ t.slots = omega (arith, c.in_ok-nexts.ensures.count, c.in_ok-nexts.nexts.ok.0, is.keeps.count) in
    shows-chains t _ is.fit count to
    (c.in_ok-in_file.ensures.marked t is (subst (λ (z : List ℕ). NextsTo t z t.slots) (sym c.deref.ensures.value) to))
    (subst (λ (n : ℕ). Shows c.in_ok-linked.linked (λ m. sum_to (λ k. points_at c.in_ok-in_file.in_file nexts k m) n)) count
    (subst (λ (z : List ℕ). Shows c.in_ok-linked.linked (λ m. sum_to (λ k. points_at c.in_ok-in_file.in_file z k m) (length z)))
    c.deref-2.ensures.value c.in_ok-linked.ensures.shows))
