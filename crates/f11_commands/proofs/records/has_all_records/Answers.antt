use Rattle.std.proofs.Common.{None, ap, refl, ◌∙◌}
use Rattle.std.proofs.lemmas.Result.{IfOk-weaker, on_err_weaker}
use Rattle.f11_bytes.proofs.ResultLemmas.{OnErr-given}
use Rattle.f11_header.specs.Fields.{attributes}
use Rattle.f11_commands.proofs.TakingTextLemmas.{no-lines, reads-counted, reads-of, reads-uncounted, skimmed}
use Rattle.f11_commands.proofs.records.has_all_records.Goals as goal

pub returns-in-Ok-clause-tells : goal.returns-in-Ok-clause-tells
returns-in-Ok-clause-tells g c =
    let e = c.in-Ok.ensures in
    let image = g.met.D.Device.is_image c.args.device.now in
    let attr = c.attributes-attr.ensures ∙ ap attributes (c.new.ensures ∙ c.header.ensures.header) in
    let counts = c.in_ok-blocks.ensures.counts in
    IfOk-weaker c.skim_file.result _ _ (λ answer skims. record {
      tells = skimmed _ _ None _ _ _ _ image counts attr c.in-Ok.text e.starts e.rest answer _ skims;
      reads = reads-of _ _ None _ _ _ _ image counts attr c.in-Ok.text e.starts e.rest 0 _ skims.reads;
    }) c.skim_file.ensures.skims

pub returns-in-Ok-clause-failed : goal.returns-in-Ok-clause-failed
returns-in-Ok-clause-failed g c =
    let e = c.in-Ok.ensures in
    let image = g.met.D.Device.is_image c.args.device.now in
    let attr = c.attributes-attr.ensures ∙ ap attributes (c.new.ensures ∙ c.header.ensures.header) in
    let counts = c.in_ok-blocks.ensures.counts in
    on_err_weaker c.skim_file.result
    (λ reads. reads-of _ _ None _ _ _ _ image counts attr c.in-Ok.text e.starts e.rest 1 _ reads)
    c.skim_file.ensures.failed

pub returns-in-Err-clause-tells : goal.returns-in-Err-clause-tells
returns-in-Err-clause-tells g c =
    let none = c.in-Err.ensures.bad.0 refl in
    let image = g.met.D.Device.is_image c.args.device.now in
    let attr = c.attributes-attr.ensures ∙ ap attributes (c.new.ensures ∙ c.header.ensures.header) in
    let counts = c.in_ok-blocks.ensures.counts in
    record {
      tells = λ honest. no-lines _ _ None _ _ _ _ image counts attr none honest;
      reads = reads-counted _ _ None _ _ _ _ image counts attr none;
    }

pub returns-in_err-blocks-clause-failed : goal.returns-in_err-blocks-clause-failed
returns-in_err-blocks-clause-failed g c = OnErr-given _ (reads-uncounted _ _ _ _ c.in_err-blocks.ensures.failed)
