-- The blocks of a file that was opened, and of a whole one.
use Rattle.std.proofs.Common.{ap, map}
use Rattle.f11_chain.specs.FileHeaders.{blocks_by, file_blocks}
use Rattle.f11_index.specs.Table.{first}
use Rattle.f11_volume.specs.Contents.{block_or_zeros, file_of}
use Rattle.f11_volume.proofs.FileLemmas.{reached-are}
use Rattle.f11_reader.specs.Laws.{OpenedHasItsBlocks, ReachedAreTheBlocks}

pub opened-has : OpenedHasItsBlocks
unfolding file_of
opened-has index id file old new opened honest = ap (map (block_or_zeros old.image)) (opened.blocks honest)

pub reached-blocks : ReachedAreTheBlocks
unfolding file_blocks
reached-blocks t f whole = ap (blocks_by t) (reached-are 256 t f whole (first whole.file))
