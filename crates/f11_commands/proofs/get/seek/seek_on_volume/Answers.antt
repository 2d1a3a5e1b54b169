use Rattle.std.proofs.Common.{◌≡◌, Bool, ap, if◌then◌else◌, refl, sym, ◌∙◌}
use Rattle.f11_catalog.proofs.ListingLemmas.{reads-then}
use Rattle.f11_index.specs.IndexFile.{Index}
use Rattle.f11_index.specs.Kept.{index_kept}
use Rattle.f11_commands.proofs.GetLemmas.{volume-gives, volume-lacks}
use Rattle.f11_commands.proofs.HandedLemmas.{error-is}
use Rattle.f11_commands.specs.GetCommand.{cannot_be_read, lacks_file, tells_none}
use Rattle.f11_commands.proofs.get.seek.seek_on_volume.Goals as goal
use Rattle.f11_commands.proofs.get.seek.seek_on_volume.Goals.{then-found, else-found}

pub returns-after-found-clause-found : goal.returns-after-found-clause-found
returns-after-found-clause-found g c =
    let volume = rw c.in-Ok.is at c.in_ok-index.ensures.found in
    let found = c.in-Ok-2.found in
    let finds = rw c.in-Ok-2.is at c.in_ok-found-in-Ok.ensures.found in
    let either : Bool → Index = λ b. if b then index_kept c.in-Ok.index else index_kept c.in_ok-wide-in-Ok.wide in
    let chosen : index_kept c.if-found.result ≡ either found.in_use = elim c.if-found.branch [
      | then-found w ↦ ap index_kept w.result-is ∙ sym (ap either w.if-found.true)
      | else-found w ↦ ap index_kept w.result-is ∙ sym (ap either w.if-found.false)
    ] in
    let gives = volume-gives _ _ _ _ _ volume c.in_ok-wide-in-Ok.ensures _ _ _ found _ finds _ chosen in
    (refl, gives.0, gives.1)

pub returns-in_ok-writeln-in-Err-2-clause-none : goal.returns-in_ok-writeln-in-Err-2-clause-none
returns-in_ok-writeln-in-Err-2-clause-none g c =
    let volume = rw c.in-Ok.is at c.in_ok-index.ensures.found in
    let none = rw c.in-Err-2.is at c.in_ok-found-in-Ok.ensures.none in
    tells_none (record {
      is_fault = refl;
      refusal = _;
      lacks = volume-lacks _ _ _ _ _ volume c.in_ok-wide-in-Ok.ensures _ _ _ _ none;
      takes = c.in_ok-writeln-in-Err-2.ensures.bytes;
    })

pub returns-in_err-writeln-in-Err-2-clause-failed : goal.returns-in_err-writeln-in-Err-2-clause-failed
returns-in_err-writeln-in-Err-2-clause-failed g c =
    let volume = rw c.in-Ok.is at c.in_ok-index.ensures.found in
    let none = rw c.in-Err-2.is at c.in_ok-found-in-Ok.ensures.none in
    error-is _ _ _ c.from_residual-in_err-writeln-in-Err-2.ensures.1
    (lacks_file _ (volume-lacks _ _ _ _ _ volume c.in_ok-wide-in-Ok.ensures _ _ _ _ none))

pub returns-in_err-found-in-Ok-clause-failed : goal.returns-in_err-found-in-Ok-clause-failed
returns-in_err-found-in-Ok-clause-failed g c =
    let volume = rw c.in-Ok.is at c.in_ok-index.ensures.found in
    error-is _ _ _ c.from_residual-in_err-found-in-Ok.ensures.1
    (reads-then (_, volume.looked) c.in_err-found-in-Ok.ensures.failed, refl)

pub returns-in_err-wide-in-Ok-clause-failed : goal.returns-in_err-wide-in-Ok-clause-failed
returns-in_err-wide-in-Ok-clause-failed g c =
    let volume = rw c.in-Ok.is at c.in_ok-index.ensures.found in
    error-is _ _ _ c.from_residual-in_err-wide-in-Ok.ensures.1 ((_, volume.looked), refl)

pub returns-in_err-writeln-in-Err-clause-failed : goal.returns-in_err-writeln-in-Err-clause-failed
returns-in_err-writeln-in-Err-clause-failed g c =
    let fault = rw c.in-Err.is at c.in_ok-index.ensures.fault in
    let hinders = rw c.in-Err.is at c.in_ok-index.ensures.hinders in
    error-is _ _ _ c.from_residual-in_err-writeln-in-Err.ensures.1
    (cannot_be_read _ (record { hinders = hinders; has = fault.has; reads = (_, fault.looked) }))
