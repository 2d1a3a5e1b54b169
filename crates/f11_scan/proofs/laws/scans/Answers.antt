use Rattle.f11_scan.proofs.KeepLemmas.{rest-fields}
use Rattle.f11_scan.proofs.ListLemmas.{scans-each}
use Rattle.f11_scan.proofs.UseLemmas.{use-exact}
use Rattle.f11_scan.proofs.laws.scans.Goals as goal

pub returns : goal.returns
returns c = record { use_is_exact = use-exact; killed = λ h n block header. rest-fields h block.size header.holds; each = scans-each }
