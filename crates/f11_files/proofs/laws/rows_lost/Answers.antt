use Rattle.f11_files.proofs.Rows.{cut-rows, deleted-rows}
use Rattle.f11_files.proofs.laws.rows_lost.Goals as goal

pub returns : goal.returns
returns c = record { cut = cut-rows; deleted = deleted-rows }
