use Rattle.f11_files.specs.Open.{disk_in, home_in}
use Rattle.f11_fcp.specs.Places.{entry_of}
use Rattle.f11_fcp.proofs.ReachedLemmas.{next-kept}
use Rattle.f11_fcp.proofs.WindowLemmas.{as-window}
use Rattle.f11_fcp.proofs.windows.next_window.Goals as goal

pub returns-in-Some-clause-found : goal.returns-in-Some-clause-found
returns-in-Some-clause-found g c =
    let held = c.requires.held in
    next-kept (home_in c.args.files.now) (entry_of c.args.held.now) c.args.vbn (disk_in c.args.files.now) c.in-Some.ensures.holds
    held.keeps.on
    (λ honest. record { there = held.there honest; window = as-window _ _ _ (held.keeps.of_file honest) })
