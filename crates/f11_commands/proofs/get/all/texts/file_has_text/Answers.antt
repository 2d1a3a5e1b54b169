use Rattle.std.proofs.Common.{min, ap, ◌∙◌}
use Rattle.std.proofs.lemmas.Result.{IfOk-weaker, on_err_weaker}
use Rattle.std.specs.Int.{div_ceil}
use Rattle.std.specs.Prelude.{is_some}
use Rattle.f11_header.specs.Fields.{attributes}
use Rattle.f11_store.specs.File.{stated_end}
use Rattle.f11_commands.proofs.AllLemmas.{finds-missing, finds-records, looks-records}
use Rattle.f11_commands.proofs.get.all.texts.file_has_text.Goals as goal

pub returns-in-Ok-None-clause-finds : goal.returns-in-Ok-None-clause-finds
returns-in-Ok-None-clause-finds g c =
    let attr = c.attributes.ensures ∙ ap attributes (c.new.ensures ∙ c.header.ensures.header) in
    let there = c.min-there.ensures ∙ ap (min c.args.size) c.blocks-2.ensures.count in
    let blocks = c.div_ceil.ensures ∙ ap (λ end. div_ceil end 512) (c.stated_end-end.ensures.value ∙ ap stated_end attr) in
    IfOk-weaker c.has_all_records.result _ _ (λ answer tells. finds-records _ c.args.size c.args.by_header c.args.file.now _ _ _ _ _
    c.may_be_text.ensures c.if-not-may_be_text.false there blocks _ c.in-Ok-None.ensures.finds c.in-Ok-None.field-0-is answer _ tells)
    c.has_all_records.ensures.tells

pub returns-in-Ok-Some-clause-finds : goal.returns-in-Ok-Some-clause-finds
returns-in-Ok-Some-clause-finds g c =
    let attr = c.attributes.ensures ∙ ap attributes (c.new.ensures ∙ c.header.ensures.header) in
    let there = c.min-there.ensures ∙ ap (min c.args.size) c.blocks-2.ensures.count in
    let blocks = c.div_ceil.ensures ∙ ap (λ end. div_ceil end 512) (c.stated_end-end.ensures.value ∙ ap stated_end attr) in
    finds-missing _ c.args.size c.args.by_header c.args.file.now _ _ _ _ _ c.may_be_text.ensures c.if-not-may_be_text.false there blocks
    _ c.in-Ok-Some.ensures.finds (ap is_some c.in-Ok-Some.field-0-is)

pub returns-in-Ok-None-clause-failed : goal.returns-in-Ok-None-clause-failed
returns-in-Ok-None-clause-failed g c =
    on_err_weaker c.has_all_records.result (looks-records _ c.args.file.now _ _ _ 1 c.in-Ok-None.ensures.finds.looked)
    c.has_all_records.ensures.failed
