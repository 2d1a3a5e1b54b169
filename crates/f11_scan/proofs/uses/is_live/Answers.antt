use Rattle.std.proofs.Common.{◌≡◌, ℕ, ap, sym, subst, ◌∙◌}
use Rattle.std.specs.Cmp.{both_ways}
use Rattle.f11_header.specs.Fields.{file_number}
use Rattle.f11_header.specs.Header.{IsHeader}
use Rattle.f11_scan.specs.Uses.{is_live}
use Rattle.f11_scan.proofs.UseLemmas.{live-from, live-is}
use Rattle.f11_scan.proofs.uses.is_live.Goals as goal

pub returns : goal.returns
returns c =
    let b = c.args.block.now in
    let number : c.id.result.number ≡ file_number b =
    (λ k. (c.id.ensures k).number) ∙ ap file_number c.new.ensures in
    both_ways c.is_ok.result (is_live b) (λ ok. live-from b c.id.result.number (c.check.ensures.valid.0 (sym c.is_ok.ensures.value ∙ ok)))
    (λ live. c.is_ok.ensures.value ∙ c.check.ensures.valid.1 (subst (λ (n : ℕ). IsHeader b n) (sym number) (live-is b live)))
