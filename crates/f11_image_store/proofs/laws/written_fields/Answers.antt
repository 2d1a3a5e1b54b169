use Rattle.f11_image_store.proofs.FieldLemmas.{attributes-replaced, ident-replaced, protection-replaced, delete-marked, contiguous-cleared}
use Rattle.f11_image_store.proofs.FieldLemmas.{contiguous-set}
use Rattle.f11_image_store.proofs.laws.written_fields.Goals as goal

pub returns : goal.returns
returns c = record {
  attributes = attributes-replaced;
  ident = ident-replaced;
  protection = protection-replaced;
  marked = delete-marked;
  unmarked = contiguous-cleared;
  contiguous = contiguous-set;
}
