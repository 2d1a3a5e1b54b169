use Rattle.f11_image_store.proofs.AllocationLawLemmas.{cells-named, files-named, free-counted, gains-both}
use Rattle.f11_image_store.proofs.KeptBlocksLemmas.{file-keeps-blocks}
use Rattle.f11_image_store.proofs.laws.allocation.Goals as goal

pub returns : goal.returns
returns c = record { cells = cells-named; files = files-named; gains = gains-both; free = free-counted; kept = file-keeps-blocks }
