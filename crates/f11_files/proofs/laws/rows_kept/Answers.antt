use Rattle.f11_files.proofs.Rows.{altered-rows, created-rows, extended-rows, grown-rows, laid-rows, replaced-rows, stored-rows}
use Rattle.f11_files.proofs.laws.rows_kept.Goals as goal

pub returns : goal.returns
returns c = record {
  stored = stored-rows;
  altered = altered-rows;
  replaced = replaced-rows;
  created = created-rows;
  extended = extended-rows;
  laid = laid-rows;
  grown = grown-rows;
}
