use Rattle.std.proofs.Common.{◌≡◌, List, ℕ, length, refl, sym, subst, arith, rules}
use Rattle.f11_dev.specs.Went.{Went}
use Rattle.f11_dev.proofs.LookedLemmas.{looked_more}
use Rattle.f11_dev.proofs.WentLemmas.{went_looked, went_more, went_within}
use Rattle.rt11_volume.specs.Entry.{renamed_entry}
use Rattle.rt11_volume.specs.Files.{FailsToRename, HasEntryChanged}
use Rattle.rt11_volume.specs.Searching.Looking.{found_entry}
use Rattle.rt11_volume.specs.declared.lookup.entry.Found.{Found}
use Rattle.rt11_volume.specs.declared.refusal.RtRefusal.{RtRefusal}
use Rattle.rt11_volume.specs.declared.refusal.RtRefusal.TheVariants.{DeviceFault}
use Rattle.rt11_volume.proofs.AnswerLemmas.{faults-handed_on, if-handed_on}
use Rattle.rt11_volume.proofs.ChangeLemmas.{AreMeant, changed-written, name-harmless, still-free, taken-unrenamed, went-changing}
use Rattle.rt11_volume.proofs.rename.rename_file.Goals as goal

-- the name that is put is meant
name-meant : (other : List ℕ) (found : Found) → length other ≡ 3 → AreMeant (renamed_entry other) found 1 other
name-meant other found three = record { same = refl; safe = λ long. name-harmless (found_entry found) other long three }

pub returns-in_err-refuse_taken-clause-went : goal.returns-in_err-refuse_taken-clause-went
returns-in_err-refuse_taken-clause-went g c =
    let old = g.D.Device.disk c.args.device.now in
    let found = c.in_ok-found.found in
    let finds = c.in_ok-found.ensures.found in
    let P = HasEntryChanged (renamed_entry c.args.other) c.args.name old in
    subst (λ n. Went P old (g.D.Device.disk c.refuse_taken.new.device) 126 n)
    (sym (faults-handed_on c.from_residual-in_err-refuse_taken.result c.in_err-refuse_taken.field-0.0
    c.from_residual-in_err-refuse_taken.ensures.1))
    (went_within P (went_more P (went_looked P finds.looked) (went_looked P c.in_err-refuse_taken.ensures.looked)) (omega arith))

pub returns-in_err-refuse_taken-clause-refused : goal.returns-in_err-refuse_taken-clause-refused
returns-in_err-refuse_taken-clause-refused g c =
    let old = g.D.Device.disk c.args.device.now in
    let found = c.in_ok-found.found in
    let finds = c.in_ok-found.ensures.found in
    if-handed_on (λ (r : RtRefusal). FailsToRename r c.args.name c.args.other old) c.from_residual-in_err-refuse_taken.result _
    c.from_residual-in_err-refuse_taken.ensures.1
    (taken-unrenamed c.args.name c.args.other found c.in_err-refuse_taken.field-0.0 finds.is_first finds.looked
    c.in_err-refuse_taken.ensures.refused)

pub returns-in_err-overwrite-clause-went : goal.returns-in_err-overwrite-clause-went
returns-in_err-overwrite-clause-went g c =
    let old = g.D.Device.disk c.args.device.now in
    let found = c.in_ok-found.found in
    let finds = c.in_ok-found.ensures.found in
    let P = HasEntryChanged (renamed_entry c.args.other) c.args.name old in
    let looked = looked_more finds.looked c.in_ok-refuse_taken.ensures.looked in
    let three : length c.args.other ≡ 3 = search rules in
    subst (λ n. Went P old (g.D.Device.disk c.overwrite.new.device) 126 n)
    (sym (faults-handed_on c.from_residual-in_err-overwrite.result DeviceFault c.from_residual-in_err-overwrite.ensures.1))
    (went_within P (went-changing (renamed_entry c.args.other) c.args.name found 1 c.args.other finds.is_first
    (name-meant c.args.other found three) looked c.in_err-overwrite.ensures.failed) (omega (arith, three)))

pub returns-clause-went : goal.returns-clause-went
returns-clause-went g c =
    let old = g.D.Device.disk c.args.device.now in
    let found = c.in_ok-found.found in
    let finds = c.in_ok-found.ensures.found in
    let P = HasEntryChanged (renamed_entry c.args.other) c.args.name old in
    let looked = looked_more finds.looked c.in_ok-refuse_taken.ensures.looked in
    let three : length c.args.other ≡ 3 = search rules in
    went_within P (went-changing (renamed_entry c.args.other) c.args.name found 1 c.args.other finds.is_first
    (name-meant c.args.other found three) looked c.in_ok-overwrite.ensures.went) (omega (arith, three))

pub returns-clause-renamed : goal.returns-clause-renamed
returns-clause-renamed g c = λ sound.
    let old = g.D.Device.disk c.args.device.now in
    let found = c.in_ok-found.found in
    let finds = c.in_ok-found.ensures.found in
    let P = HasEntryChanged (renamed_entry c.args.other) c.args.name old in
    let looked = looked_more finds.looked c.in_ok-refuse_taken.ensures.looked in
    let three : length c.args.other ≡ 3 = search rules in
    record {
      no_file = still-free c.args.other finds.looked c.in_ok-refuse_taken.ensures.free sound;
      changes = changed-written (renamed_entry c.args.other) c.args.name found 1 c.args.other finds.is_first
          (name-meant c.args.other found three) looked c.in_ok-overwrite.ensures.written sound;
    }
