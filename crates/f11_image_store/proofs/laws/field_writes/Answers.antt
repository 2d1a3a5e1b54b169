use Rattle.f11_image_store.proofs.FieldLemmas.{changes-file, changes-index}
use Rattle.f11_image_store.proofs.laws.field_writes.Goals as goal

pub returns : goal.returns
returns c = record { file = changes-file; index_file = changes-index }
