-- Room for more slots is no change of what is kept.
use Rattle.std.proofs.Common.{◌≡◌, ◌∙◌, length, subst, sym}
use Rattle.f11_dev.specs.Disk.{Disk}
use Rattle.f11_index.specs.IndexFile.{Index}
use Rattle.f11_index.specs.Kept.{index_kept, IndexLiesWithin}
use Rattle.f11_index.specs.declared.index_file.IndexFile.{IndexFile}
use Rattle.f11_files.specs.Structure.{index_in, IsStructureFor}
use Rattle.f11_files.specs.declared.structure.Structure.{Structure}

pub reserved-for : (s : Structure) (index : IndexFile) → index_kept index ≡ index_in s → (disk : Disk) → IsStructureFor s disk
    → IsStructureFor (record s { index = index }) disk
reserved-for s index kept disk for = record {
  lies = record {
    index = subst (λ (x : Index). IndexLiesWithin x (length disk.image)) (sym kept) for.lies.index;
    bitmap = for.lies.bitmap;
    volume = for.lies.volume;
  };
  sound = for.sound;
  keeps = λ honest. let keeps = for.keeps honest in
      record { index_is = kept ∙ keeps.index_is; bitmap_is = keeps.bitmap_is; storage = keeps.storage };
}
