use Rattle.f11_chain.specs.index.Table.{first}
use Rattle.f11_volume.proofs.FileLemmas.{reached-are, file-headers-are, file-blocks-are}
use Rattle.f11_volume.proofs.laws.whole_files.Goals as goal

pub returns : goal.returns
returns c =
    record { reached = λ t f whole. reached-are 256 t f whole (first whole.file); headers = file-headers-are; blocks = file-blocks-are }
