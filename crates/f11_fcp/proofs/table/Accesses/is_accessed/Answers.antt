use Rattle.std.proofs.Common.{refl, ◌≡◌, rules, sym, ◌∙◌, length, arith, None}
use Rattle.f11_fcp.specs.Accesses.{any_mode}
use Rattle.f11_fcp.proofs.TableLemmas.{found-at, found-none, stands-at}
use Rattle.std.proofs.lemmas.List.{get_or_default}
use Rattle.f11_fcp.proofs.table.Accesses.is_accessed.Goals as goal

pub returns-then-held-file-2 : goal.returns-then-held-file-2
returns-then-held-file-2 c =
    let len : length c.args.self.now.places ≡ 32 = search rules in
    let is = get_or_default c.args.self.now.places c.loop-held.held-index None c.held-item.result (rw len c.loop-held-test.true)
    ∙ c.in-Some.is in
    sym (found-at any_mode c.args.file _ c.loop-held.held-index c.loop-held-test.true
    (stands-at any_mode c.args.file _ c.loop-held.held-index c.in-Some.held is c.if-held-file.true c.if-held-file-2.true refl))

pub returns : goal.returns
returns c =
    let h3 = c.loop-held-test.false in sym (found-none any_mode c.args.file _ (λ k low. c.loop-held.invariant k (omega arith)))
