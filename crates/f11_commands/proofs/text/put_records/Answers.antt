use Rattle.std.proofs.Common.{ap, refl, ◌∙◌}
use Rattle.std.proofs.KnownBytes.{Appends-nil}
use Rattle.std.proofs.lemmas.Result.{IfErr-weaker}
use Rattle.f11_header.specs.Fields.{attributes}
use Rattle.f11_commands.proofs.HandedLemmas.{error-is, found-then, refused-then}
use Rattle.f11_commands.proofs.TakingTextLemmas.{fails-to-write, no-records, reads-counted, uncounted, writes-good-text, writes-text}
use Rattle.f11_commands.proofs.text.put_records.Goals as goal

pub returns-in-Ok-clause-writes : goal.returns-in-Ok-clause-writes
returns-in-Ok-clause-writes g c =
    let e = c.in-Ok.ensures in
    let attr = c.attributes-attr.ensures ∙ ap attributes (c.new.ensures ∙ c.header.ensures.header) in
    let counts = c.in_ok-blocks.ensures.counts in
    found-then c.write_lines.result
    (λ _ writes. writes-text _ _ _ _ _ _ _ (g.met.D.Device.is_image c.args.device.now) counts attr _ e.starts e.rest _ _ _ _ _ writes)
    c.write_lines.ensures.writes

pub returns-in-Ok-clause-bad : goal.returns-in-Ok-clause-bad
returns-in-Ok-clause-bad g c =
    let e = c.in-Ok.ensures in
    let attr = c.attributes-attr.ensures ∙ ap attributes (c.new.ensures ∙ c.header.ensures.header) in
    let counts = c.in_ok-blocks.ensures.counts in
    refused-then c.write_lines.result
    (λ _ bad. writes-good-text _ _ _ _ _ _ _ (g.met.D.Device.is_image c.args.device.now) counts attr _ e.starts e.rest _ _ _ _ bad)
    c.write_lines.ensures.bad

pub returns-in-Ok-clause-failed : goal.returns-in-Ok-clause-failed
returns-in-Ok-clause-failed g c =
    let e = c.in-Ok.ensures in
    let attr = c.attributes-attr.ensures ∙ ap attributes (c.new.ensures ∙ c.header.ensures.header) in
    let counts = c.in_ok-blocks.ensures.counts in
    IfErr-weaker c.write_lines.result _ _
    (λ failure fails. fails-to-write _ _ _ _ _ _ _ (g.met.D.Device.is_image c.args.device.now) counts attr _ e.starts e.rest _ _ _ _
    failure fails)
    c.write_lines.ensures.failed

pub returns-in-Err-clause-bad : goal.returns-in-Err-clause-bad
returns-in-Err-clause-bad g c =
    let none = c.in-Err.ensures.bad.0 refl in
    let attr = c.attributes-attr.ensures ∙ ap attributes (c.new.ensures ∙ c.header.ensures.header) in
    let counts = c.in_ok-blocks.ensures.counts in
    record {
      takes = record {
        text = _;
        is = no-records _ _ _ _ _ _ _ (g.met.D.Device.is_image c.args.device.now) counts attr none;
        takes = Appends-nil _;
      };
      reads = reads-counted _ _ _ _ _ _ _ (g.met.D.Device.is_image c.args.device.now) counts attr none;
    }

pub returns-in_err-blocks-clause-failed : goal.returns-in_err-blocks-clause-failed
returns-in_err-blocks-clause-failed g c =
    error-is _ _ _ c.from_residual.ensures.1 (uncounted _ _ _ _ _ _ _ c.in_err-blocks.ensures.failed)
