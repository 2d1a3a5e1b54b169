use Rattle.std.proofs.Common.{ap, ◌∙◌}
use Rattle.f11_header.specs.Fields.{file_sequence}
use Rattle.f11_store.specs.declared.files.FileId.{FileId}
use Rattle.f11_vfy.proofs.Frames.Parts.{judges-own}
use Rattle.f11_vfy.proofs.frame.own_files.is_own_file.Goals as goal

pub returns-in-Ok-clause-judges : goal.returns-in-Ok-clause-judges
returns-in-Ok-clause-judges g c =
    judges-own _ _ _ _ _ _ (ap (λ (i : FileId). i.sequence) c.id.ensures ∙ ap file_sequence c.new.ensures) c.in-Ok.ensures.reads
