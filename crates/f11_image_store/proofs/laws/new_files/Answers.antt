use Rattle.f11_image_store.proofs.NewFileLemmas.{free-stored, writes-first, enters-file}
use Rattle.f11_image_store.proofs.laws.new_files.Goals as goal

pub returns : goal.returns
returns c = record {
  free = free-stored;
  written = λ image home id owned protects ident attr empty block is new. writes-first id owned protects ident attr empty block new image
      home is;
  entered = λ image home id owned protects ident attr empty block after is new least next bit.
      enters-file id owned protects ident attr empty block new image home is least.high least.unused after bit least next;
}
