use Rattle.std.proofs.lemmas.Result.{IfOk-weaker}
use Rattle.std.proofs.Common.{◌≡◌}
use Rattle.std.specs.List.{concat}
use Rattle.f11_store.specs.File.{File, length_of}
use Rattle.f11_flx.specs.Records.{Which, all}
use Rattle.f11_flx.specs.ToText.{converted_by, text_by}
use Rattle.f11_flx.specs.declared.line_end.LineEnd.TheVariants.{CrLf}
use Rattle.f11_flx.proofs.to_text.ToText.new.Goals as goal

pub returns-clause-starts : goal.returns-clause-starts
returns-clause-starts c =
    IfOk-weaker c.ending.result (λ text. (which : Which) (file : File) → file.attr ≡ c.args.attr.now → length_of file ≡ c.args.allocation
    → text_by which text (concat file.blocks) ≡ converted_by CrLf which file) _ (λ text starts. starts all) c.ending.ensures.starts
