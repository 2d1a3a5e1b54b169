use Rattle.std.proofs.Common.{◌≡◌, ◌∙◌, ◌∷◌, [], Bool, ℕ, ap, refl, sym, subst}
use Rattle.f11_dev.specs.Went.{Went}
use Rattle.rt11_volume.specs.Entry.{protected_entry, protected_status, status}
use Rattle.rt11_volume.specs.Files.{HasEntryChanged}
use Rattle.rt11_volume.specs.Searching.Looking.{found_entry}
use Rattle.rt11_volume.specs.declared.lookup.entry.Found.{Found}
use Rattle.rt11_volume.specs.declared.refusal.RtRefusal.TheVariants.{DeviceFault}
use Rattle.rt11_volume.proofs.AnswerLemmas.{faults-handed_on}
use Rattle.rt11_volume.proofs.ChangeLemmas.{AreMeant, changed-written, status-harmless, went-changing}
use Rattle.rt11_volume.proofs.protect.protect_file.Goals as goal

-- the status that is put is meant
status-meant : (on : Bool) (found : Found) (w : ℕ) → w ≡ protected_status on (status (found_entry found))
    → AreMeant (protected_entry on) found 0 (w ∷ [])
status-meant on found w is =
    subst (λ n. AreMeant (protected_entry on) found 0 (n ∷ [])) (sym is)
    (record { same = refl; safe = λ long. status-harmless on (found_entry found) })

pub returns-in_err-overwrite-clause-went : goal.returns-in_err-overwrite-clause-went
returns-in_err-overwrite-clause-went g c =
    let old = g.D.Device.disk c.args.device.now in
    let status_is : c.protected_status-status.result ≡ protected_status c.args.on (status (found_entry c.in_ok-found.found)) =
    c.protected_status-status.ensures ∙ ap (protected_status c.args.on) c.entry.ensures.status in
    let finds = c.in_ok-found.ensures.found in
    subst (λ n. Went (HasEntryChanged (protected_entry c.args.on) c.args.name old) old (g.D.Device.disk c.overwrite.new.device) 63 n)
    (sym (faults-handed_on c.from_residual-in_err-overwrite.result DeviceFault c.from_residual-in_err-overwrite.ensures.1))
    (went-changing (protected_entry c.args.on) c.args.name c.in_ok-found.found 0 _ finds.is_first
    (status-meant c.args.on c.in_ok-found.found _ status_is) finds.looked c.in_err-overwrite.ensures.failed)

pub returns-clause-went : goal.returns-clause-went
returns-clause-went g c =
    let status_is : c.protected_status-status.result ≡ protected_status c.args.on (status (found_entry c.in_ok-found.found)) =
    c.protected_status-status.ensures ∙ ap (protected_status c.args.on) c.entry.ensures.status in
    let finds = c.in_ok-found.ensures.found in
    went-changing (protected_entry c.args.on) c.args.name c.in_ok-found.found 0 _ finds.is_first
    (status-meant c.args.on c.in_ok-found.found _ status_is) finds.looked c.in_ok-overwrite.ensures.went

pub returns-clause-protected : goal.returns-clause-protected
returns-clause-protected g c =
    let status_is : c.protected_status-status.result ≡ protected_status c.args.on (status (found_entry c.in_ok-found.found)) =
    c.protected_status-status.ensures ∙ ap (protected_status c.args.on) c.entry.ensures.status in
    let finds = c.in_ok-found.ensures.found in
    changed-written (protected_entry c.args.on) c.args.name c.in_ok-found.found 0 _ finds.is_first
    (status-meant c.args.on c.in_ok-found.found _ status_is) finds.looked c.in_ok-overwrite.ensures.written
