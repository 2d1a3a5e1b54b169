use Rattle.std.proofs.Common.{◌≡◌, ap, sym, ◌∙◌}
use Rattle.f11_header.specs.Fields.{file_sequence}
use Rattle.f11_scan.proofs.UseLemmas.{no-sequence}
use Rattle.f11_scan.proofs.uses.would_be_live.Goals as goal

pub returns-then-id-eq0 : goal.returns-then-id-eq0
returns-then-id-eq0 c =
    let b = c.args.block.now in
    let sequence : c.id.result.sequence ≡ file_sequence b =
    (λ k. (c.id.ensures k).sequence) ∙ ap file_sequence c.new.ensures in
    sym (no-sequence b (sym sequence ∙ c.if-id-eq0.true))
