use Rattle.std.proofs.Common.{◌≡◌, Some, false, inl, le-ltb, refl, subst, sym, true}
use Rattle.f11_flx.specs.fcp.Lists.{is_sound, store_of_volume}
use Rattle.f11_making.specs.Asking.{Who, who_asks}
use Rattle.f11_making.specs.Volume.{of_volume}
use Rattle.f11_flx.specs.Copying.{MayMake, MayMakeStated, is_whole}
use Rattle.f11_flx.specs.Ended.{Ends}
use Rattle.f11_flx.specs.Refusal.{is_lethal}
use Rattle.f11_host.specs.CopyTextFromHost.{FailsTextSpent, FailsToCopyTextFromHost, ReadsTexts, is_text_too_long}
use Rattle.f11_host.specs.Refusal.{as_copy, copy_result}
use Rattle.f11_host.specs.TextFilling.{attributes_of}
use Rattle.f11_host.specs.declared.refusal.HostRefusal.{HostRefusal}
use Rattle.f11_host.proofs.HostLemmas.{unmade}
use Rattle.f11_host.proofs.HostTextLemmas.{text-made-copied, text-made-files, text-made-host, text-made-order, text-made-spent}
use Rattle.f11_host.proofs.HostTextLemmas.{text-unmade-ends, text-unmade-files, text-unmade-host, text-unmade-order}
use Rattle.f11_host.proofs.HostTextLemmas.{text-unmade-refused, text-unmade-spent}
use Rattle.f11_host.proofs.HostTextLemmas.{unplanned-ends, unplanned-files, unplanned-host, unplanned-refused, unplanned-spent}
use Rattle.f11_host.proofs.text_copy.copy_judged.Goals as goal

pub returns-in-Err-clause-hosts : goal.returns-in-Err-clause-hosts
returns-in-Err-clause-hosts g c =
    subst (λ (e : HostRefusal). ReadsTexts c.args.bytes (unmade e) (g.R.Read.remaining c.args.first.now)
    (g.R.Read.remaining c.judge_text.new.host) (g.R.Read.remaining c.args.again.now) (g.R.Read.remaining c.args.again.now))
    (sym c.told.ensures)
    (unplanned-host c.args.bytes (g.R.Read.remaining c.args.first.now) (g.R.Read.remaining c.judge_text.new.host)
    (g.R.Read.remaining c.args.again.now) c.in-Err.refusal c.in-Err.ensures.fails)

pub returns-in-Err-clause-files : goal.returns-in-Err-clause-files
returns-in-Err-clause-files g c =
    let who : Who = who_asks c.args.by.now.task c.args.by.now.uic in
    subst (λ (e : HostRefusal). MayMakeStated (copy_result (unmade e)) who c.args.by.now.lun c.args.entry.now.dir c.args.entry.now.name
    c.args.entry.now.protection c.args.vol.now c.args.vol.now) (sym c.told.ensures)
    (unplanned-files who c.args.by.now.lun c.args.entry.now.dir c.args.entry.now.name c.args.entry.now.protection c.args.vol.now
    c.in-Err.refusal c.args.bytes _ _ c.in-Err.ensures.fails)

pub returns-in-Err-clause-order : goal.returns-in-Err-clause-order
returns-in-Err-clause-order g c = inl refl

pub returns-in-Err-clause-spent : goal.returns-in-Err-clause-spent
returns-in-Err-clause-spent g c = λ dead.
    let short : is_text_too_long c.args.bytes ≡ false = le-ltb 1073741312 c.args.bytes c.requires.few in
    subst (λ b. FailsTextSpent b c.told.result) (sym short)
    (subst (λ (e : HostRefusal). FailsTextSpent false e) (sym c.told.ensures)
    (unplanned-spent c.args.bytes _ _ (g.R.Read.remaining c.args.again.now) c.in-Err.refusal c.in-Err.ensures.fails))

pub returns-in-Err-clause-ended : goal.returns-in-Err-clause-ended
returns-in-Err-clause-ended g c =
    let who : Who = who_asks c.args.by.now.task c.args.by.now.uic in
    subst (λ (e : HostRefusal). is_lethal (as_copy e) ≡ true → Ends of_volume who (as_copy e) c.args.vol.now c.args.vol.now)
    (sym c.told.ensures)
    (unplanned-ends who c.args.by.now.lun c.args.entry.now.dir c.args.entry.now.name c.args.entry.now.protection c.args.vol.now
    c.in-Err.refusal c.args.bytes _ _ c.in-Err.ensures.fails)

pub returns-in-Err-clause-refused : goal.returns-in-Err-clause-refused
returns-in-Err-clause-refused g c = λ whole sound.
    let who : Who = who_asks c.args.by.now.task c.args.by.now.uic in
    let short : is_text_too_long c.args.bytes ≡ false = le-ltb 1073741312 c.args.bytes c.requires.few in
    subst (λ (e : HostRefusal). FailsToCopyTextFromHost e c.args.bytes (g.R.Read.remaining c.args.first.now)
    (g.R.Read.remaining c.judge_text.new.host) (g.R.Read.remaining c.args.again.now) (g.R.Read.remaining c.args.again.now) who
    c.args.by.now.lun c.args.entry.now.dir c.args.entry.now.name c.args.entry.now.protection (store_of_volume c.args.vol.now)
    (store_of_volume c.args.vol.now)) (sym c.told.ensures)
    (unplanned-refused c.args.bytes (g.R.Read.remaining c.args.first.now) (g.R.Read.remaining c.judge_text.new.host)
    (g.R.Read.remaining c.args.again.now) c.in-Err.refusal c.in-Err.ensures.fails who c.args.by.now.lun c.args.entry.now.dir
    c.args.entry.now.name c.args.entry.now.protection (store_of_volume c.args.vol.now) short)

pub returns-in-Ok-make_text-clause-hosts : goal.returns-in-Ok-make_text-clause-hosts
returns-in-Ok-make_text-clause-hosts g c =
    let who : Who = who_asks c.args.by.now.task c.args.by.now.uic in
    let k = c.in-Ok-make_text.ensures.makes in
    text-made-host who c.args.by.now.lun c.args.bytes c.in-Ok.plan c.args.entry.now.dir c.args.entry.now.name
    c.args.entry.now.protection (g.R.Read.remaining c.args.again.now) (g.R.Read.remaining c.make_text.new.host) k.0 c.args.vol.now
    c.make_text.new.service (g.R.Read.remaining c.args.first.now) (g.R.Read.remaining c.judge_text.new.host) c.in-Ok.ensures.plans k.1

pub returns-in-Ok-make_text-clause-files : goal.returns-in-Ok-make_text-clause-files
returns-in-Ok-make_text-clause-files g c =
    let who : Who = who_asks c.args.by.now.task c.args.by.now.uic in
    let k = c.in-Ok-make_text.ensures.makes in (
      attributes_of c.in-Ok.plan,
      text-made-files who c.args.by.now.lun c.args.bytes c.in-Ok.plan c.args.entry.now.dir c.args.entry.now.name
          c.args.entry.now.protection (g.R.Read.remaining c.args.again.now) (g.R.Read.remaining c.make_text.new.host) k.0 c.args.vol.now
          c.make_text.new.service c.in-Ok.plan.blocks k.1,
    )

pub returns-in-Ok-make_text-clause-order : goal.returns-in-Ok-make_text-clause-order
returns-in-Ok-make_text-clause-order g c =
    let who : Who = who_asks c.args.by.now.task c.args.by.now.uic in
    let k = c.in-Ok-make_text.ensures.makes in
    text-made-order who c.args.by.now.lun c.args.bytes c.in-Ok.plan c.args.entry.now.dir c.args.entry.now.name
    c.args.entry.now.protection (g.R.Read.remaining c.args.again.now) (g.R.Read.remaining c.make_text.new.host) k.0 c.args.vol.now
    c.make_text.new.service k.1

pub returns-in-Ok-make_text-clause-spent : goal.returns-in-Ok-make_text-clause-spent
returns-in-Ok-make_text-clause-spent g c = λ dead.
    let who : Who = who_asks c.args.by.now.task c.args.by.now.uic in
    let k = c.in-Ok-make_text.ensures.makes in
    absurd (text-made-spent who c.args.by.now.lun c.args.bytes c.in-Ok.plan c.args.entry.now.dir c.args.entry.now.name
    c.args.entry.now.protection (g.R.Read.remaining c.args.again.now) (g.R.Read.remaining c.make_text.new.host) k.0 c.args.vol.now
    c.make_text.new.service dead k.1)

pub returns-in-Ok-make_text-clause-copied : goal.returns-in-Ok-make_text-clause-copied
returns-in-Ok-make_text-clause-copied g c = λ sound.
    let who : Who = who_asks c.args.by.now.task c.args.by.now.uic in
    let k = c.in-Ok-make_text.ensures.makes in
    text-made-copied who c.args.by.now.lun c.args.bytes c.in-Ok.plan c.args.entry.now.dir c.args.entry.now.name
    c.args.entry.now.protection (g.R.Read.remaining c.args.again.now) (g.R.Read.remaining c.make_text.new.host) k.0 c.args.vol.now
    c.make_text.new.service sound k.1

pub returns-in-Err-make_text-clause-hosts : goal.returns-in-Err-make_text-clause-hosts
returns-in-Err-make_text-clause-hosts g c =
    let who : Who = who_asks c.args.by.now.task c.args.by.now.uic in
    let short : is_text_too_long c.args.bytes ≡ false = le-ltb 1073741312 c.args.bytes c.requires.few in
    let k = c.in-Err-make_text.ensures.fails in
    subst (λ (e : HostRefusal). ReadsTexts c.args.bytes (unmade e) (g.R.Read.remaining c.args.first.now)
    (g.R.Read.remaining c.judge_text.new.host) (g.R.Read.remaining c.args.again.now) (g.R.Read.remaining c.make_text.new.host))
    (sym c.told-in-Err-make_text.ensures)
    (text-unmade-host who c.args.by.now.lun c.args.bytes c.in-Ok.plan c.args.entry.now.dir c.args.entry.now.name
    c.args.entry.now.protection (g.R.Read.remaining c.args.again.now) (g.R.Read.remaining c.make_text.new.host) k.0 c.args.vol.now
    c.make_text.new.service (g.R.Read.remaining c.args.first.now) (g.R.Read.remaining c.judge_text.new.host) c.in-Ok.ensures.plans
    c.in-Err-make_text.refusal short k.1)

pub returns-in-Err-make_text-clause-files : goal.returns-in-Err-make_text-clause-files
returns-in-Err-make_text-clause-files g c =
    let who : Who = who_asks c.args.by.now.task c.args.by.now.uic in
    let k = c.in-Err-make_text.ensures.fails in (
      attributes_of c.in-Ok.plan,
      subst (λ (e : HostRefusal). MayMake (copy_result (unmade e)) who c.args.by.now.lun c.args.entry.now.dir c.args.entry.now.name
          c.args.entry.now.protection (Some (attributes_of c.in-Ok.plan)) c.args.vol.now c.make_text.new.service)
          (sym c.told-in-Err-make_text.ensures)
          (text-unmade-files who c.args.by.now.lun c.args.bytes c.in-Ok.plan c.args.entry.now.dir c.args.entry.now.name
          c.args.entry.now.protection (g.R.Read.remaining c.args.again.now) (g.R.Read.remaining c.make_text.new.host) k.0 c.args.vol.now
          c.make_text.new.service c.in-Err-make_text.refusal k.1),
    )

pub returns-in-Err-make_text-clause-order : goal.returns-in-Err-make_text-clause-order
returns-in-Err-make_text-clause-order g c =
    let who : Who = who_asks c.args.by.now.task c.args.by.now.uic in
    let k = c.in-Err-make_text.ensures.fails in
    text-unmade-order who c.args.by.now.lun c.args.bytes c.in-Ok.plan c.args.entry.now.dir c.args.entry.now.name
    c.args.entry.now.protection (g.R.Read.remaining c.args.again.now) (g.R.Read.remaining c.make_text.new.host) k.0 c.args.vol.now
    c.make_text.new.service c.in-Err-make_text.refusal k.1

pub returns-in-Err-make_text-clause-spent : goal.returns-in-Err-make_text-clause-spent
returns-in-Err-make_text-clause-spent g c = λ dead.
    let who : Who = who_asks c.args.by.now.task c.args.by.now.uic in
    let short : is_text_too_long c.args.bytes ≡ false = le-ltb 1073741312 c.args.bytes c.requires.few in
    let k = c.in-Err-make_text.ensures.fails in
    subst (λ b. FailsTextSpent b c.told-in-Err-make_text.result) (sym short)
    (subst (λ (e : HostRefusal). FailsTextSpent false e) (sym c.told-in-Err-make_text.ensures)
    (text-unmade-spent who c.args.by.now.lun c.args.bytes c.in-Ok.plan c.args.entry.now.dir c.args.entry.now.name
    c.args.entry.now.protection (g.R.Read.remaining c.args.again.now) (g.R.Read.remaining c.make_text.new.host) k.0 c.args.vol.now
    c.make_text.new.service c.in-Err-make_text.refusal dead k.1))

pub returns-in-Err-make_text-clause-ended : goal.returns-in-Err-make_text-clause-ended
returns-in-Err-make_text-clause-ended g c =
    let who : Who = who_asks c.args.by.now.task c.args.by.now.uic in
    let k = c.in-Err-make_text.ensures.fails in
    subst (λ (e : HostRefusal). is_lethal (as_copy e) ≡ true → Ends of_volume who (as_copy e) c.args.vol.now c.make_text.new.service)
    (sym c.told-in-Err-make_text.ensures)
    (text-unmade-ends who c.args.by.now.lun c.args.bytes c.in-Ok.plan c.args.entry.now.dir c.args.entry.now.name
    c.args.entry.now.protection (g.R.Read.remaining c.args.again.now) (g.R.Read.remaining c.make_text.new.host) k.0 c.args.vol.now
    c.make_text.new.service c.in-Err-make_text.refusal k.1)

pub returns-in-Err-make_text-clause-refused : goal.returns-in-Err-make_text-clause-refused
returns-in-Err-make_text-clause-refused g c =
    let who : Who = who_asks c.args.by.now.task c.args.by.now.uic in
    let short : is_text_too_long c.args.bytes ≡ false = le-ltb 1073741312 c.args.bytes c.requires.few in
    let k = c.in-Err-make_text.ensures.fails in
    subst (λ (e : HostRefusal). is_whole (copy_result (unmade e)) ≡ true → is_sound c.args.vol.now ≡ true
    → FailsToCopyTextFromHost e c.args.bytes (g.R.Read.remaining c.args.first.now)
    (g.R.Read.remaining c.judge_text.new.host) (g.R.Read.remaining c.args.again.now) (g.R.Read.remaining c.make_text.new.host) who
    c.args.by.now.lun c.args.entry.now.dir c.args.entry.now.name c.args.entry.now.protection (store_of_volume c.args.vol.now)
    (store_of_volume c.make_text.new.service)) (sym c.told-in-Err-make_text.ensures)
    (λ whole sound. text-unmade-refused who c.args.by.now.lun c.args.bytes c.in-Ok.plan c.args.entry.now.dir c.args.entry.now.name
    c.args.entry.now.protection (g.R.Read.remaining c.args.again.now) (g.R.Read.remaining c.make_text.new.host) k.0 c.args.vol.now
    c.make_text.new.service (g.R.Read.remaining c.args.first.now) (g.R.Read.remaining c.judge_text.new.host) c.in-Ok.ensures.plans
    c.in-Err-make_text.refusal short whole sound k.1)
