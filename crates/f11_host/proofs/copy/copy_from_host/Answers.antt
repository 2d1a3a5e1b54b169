use Rattle.std.proofs.Common.{◌≡◌, Some, arith, false, le-ltb, lt-ltb, refl, subst, sym, true}
use Rattle.f11_flx.specs.fcp.Lists.{is_sound, store_of_volume}
use Rattle.f11_flx.specs.fcp.Serving.{is_spent}
use Rattle.f11_making.specs.Asking.{Who, who_asks}
use Rattle.f11_making.specs.Volume.{of_volume}
use Rattle.f11_flx.specs.Copying.{MayMake, is_whole}
use Rattle.f11_flx.specs.Ended.{Ends}
use Rattle.f11_flx.specs.Refusal.{is_lethal}
use Rattle.f11_flx.specs.Stating.{unasked}
use Rattle.f11_host.specs.CopyFromHost.{FailsSpent, FailsToCopyFromHost, ReadsHost, image_attr, is_too_long}
use Rattle.f11_host.specs.Refusal.{as_copy, copy_result, of_copy}
use Rattle.f11_host.specs.declared.refusal.HostRefusal.{HostRefusal}
use Rattle.f11_host.proofs.HostLemmas.{count-as, made-as, made-copied, made-files, made-host, made-order, made-spent, too-long-files}
use Rattle.f11_host.proofs.HostLemmas.{too-long-host, too-long-refused, too-long-spent}
use Rattle.f11_host.proofs.HostLemmas.{unmade, unmade-as, unmade-ends, unmade-files, unmade-host, unmade-order, unmade-refused}
use Rattle.f11_host.proofs.HostLemmas.{unmade-spent}
use Rattle.f11_host.proofs.copy.copy_from_host.Goals as goal

pub returns-then-bytes-gt-MOST_BYTES-clause-files : goal.returns-then-bytes-gt-MOST_BYTES-clause-files
returns-then-bytes-gt-MOST_BYTES-clause-files g c =
    too-long-files (who_asks c.args.task c.args.uic) c.args.lun c.args.dir c.args.to.now c.args.protection (image_attr c.args.bytes)
    c.args.vol.now

pub returns-then-bytes-gt-MOST_BYTES-clause-host : goal.returns-then-bytes-gt-MOST_BYTES-clause-host
returns-then-bytes-gt-MOST_BYTES-clause-host g c = too-long-host c.args.bytes (g.R.Read.remaining c.args.host.now)

pub returns-then-bytes-gt-MOST_BYTES-clause-spent : goal.returns-then-bytes-gt-MOST_BYTES-clause-spent
returns-then-bytes-gt-MOST_BYTES-clause-spent g c = λ dead.
    let long : is_too_long c.args.bytes ≡ true = lt-ltb 4294967295 c.args.bytes c.if-bytes-gt-MOST_BYTES.true in
    too-long-spent (is_too_long c.args.bytes) long

pub returns-then-bytes-gt-MOST_BYTES-clause-refused : goal.returns-then-bytes-gt-MOST_BYTES-clause-refused
returns-then-bytes-gt-MOST_BYTES-clause-refused g c = λ whole sound.
    let long : is_too_long c.args.bytes ≡ true = lt-ltb 4294967295 c.args.bytes c.if-bytes-gt-MOST_BYTES.true in
    too-long-refused (is_too_long c.args.bytes) long c.args.bytes _ _ (who_asks c.args.task c.args.uic) c.args.lun c.args.dir
    c.args.to.now c.args.protection (store_of_volume c.args.vol.now)

pub returns-then-bytes-gt-MOST_BYTES-clause-order : goal.returns-then-bytes-gt-MOST_BYTES-clause-order
returns-then-bytes-gt-MOST_BYTES-clause-order g c = unasked refl

pub returns-in-Ok-clause-files : goal.returns-in-Ok-clause-files
returns-in-Ok-clause-files g c =
    let who : Who = who_asks c.args.task c.args.uic in
    let k = c.in-Ok.ensures.makes in
    let h = made-as who c.args.lun c.args.bytes c.args.dir c.args.to.now c.args.protection (g.R.Read.remaining c.args.host.now)
    (g.R.Read.remaining c.make.new.host) k.0 c.args.vol.now c.make.new.service _ k.1 (omega (arith, c.if-bytes-gt-MOST_BYTES.false)) in
    made-files who c.args.lun c.args.bytes c.args.dir c.args.to.now c.args.protection (g.R.Read.remaining c.args.host.now)
    (g.R.Read.remaining c.make.new.host) k.0 c.args.vol.now c.make.new.service c.in-Ok.blocks h

pub returns-in-Ok-clause-host : goal.returns-in-Ok-clause-host
returns-in-Ok-clause-host g c =
    let who : Who = who_asks c.args.task c.args.uic in
    let k = c.in-Ok.ensures.makes in
    let h = made-as who c.args.lun c.args.bytes c.args.dir c.args.to.now c.args.protection (g.R.Read.remaining c.args.host.now)
    (g.R.Read.remaining c.make.new.host) k.0 c.args.vol.now c.make.new.service _ k.1 (omega (arith, c.if-bytes-gt-MOST_BYTES.false)) in
    made-host who c.args.lun c.args.bytes c.args.dir c.args.to.now c.args.protection (g.R.Read.remaining c.args.host.now)
    (g.R.Read.remaining c.make.new.host) k.0 c.args.vol.now c.make.new.service c.in-Ok.blocks
    (count-as who c.args.lun c.args.bytes c.args.dir c.args.to.now c.args.protection (g.R.Read.remaining c.args.host.now)
    (g.R.Read.remaining c.make.new.host) k.0 c.args.vol.now c.make.new.service c.in-Ok.blocks _ c.in-Ok.ensures.count
    (omega (arith, c.if-bytes-gt-MOST_BYTES.false))) h

pub returns-in-Ok-clause-order : goal.returns-in-Ok-clause-order
returns-in-Ok-clause-order g c =
    let who : Who = who_asks c.args.task c.args.uic in
    let k = c.in-Ok.ensures.makes in
    let h = made-as who c.args.lun c.args.bytes c.args.dir c.args.to.now c.args.protection (g.R.Read.remaining c.args.host.now)
    (g.R.Read.remaining c.make.new.host) k.0 c.args.vol.now c.make.new.service _ k.1
    (omega (arith, c.if-bytes-gt-MOST_BYTES.false)) in
    made-order who c.args.lun c.args.bytes c.args.dir c.args.to.now c.args.protection (g.R.Read.remaining c.args.host.now)
    (g.R.Read.remaining c.make.new.host) k.0 c.args.vol.now c.make.new.service h

pub returns-in-Ok-clause-spent : goal.returns-in-Ok-clause-spent
returns-in-Ok-clause-spent g c = λ dead.
    let who : Who = who_asks c.args.task c.args.uic in
    let k = c.in-Ok.ensures.makes in
    let h = made-as who c.args.lun c.args.bytes c.args.dir c.args.to.now c.args.protection (g.R.Read.remaining c.args.host.now)
    (g.R.Read.remaining c.make.new.host) k.0 c.args.vol.now c.make.new.service _ k.1 (omega (arith, c.if-bytes-gt-MOST_BYTES.false)) in
    absurd (made-spent who c.args.lun c.args.bytes c.args.dir c.args.to.now c.args.protection (g.R.Read.remaining c.args.host.now)
    (g.R.Read.remaining c.make.new.host) k.0 c.args.vol.now c.make.new.service dead h)

pub returns-in-Ok-clause-copied : goal.returns-in-Ok-clause-copied
returns-in-Ok-clause-copied g c = λ sound.
    let who : Who = who_asks c.args.task c.args.uic in
    let k = c.in-Ok.ensures.makes in
    let h = made-as who c.args.lun c.args.bytes c.args.dir c.args.to.now c.args.protection (g.R.Read.remaining c.args.host.now)
    (g.R.Read.remaining c.make.new.host) k.0 c.args.vol.now c.make.new.service _ k.1 (omega (arith, c.if-bytes-gt-MOST_BYTES.false)) in
    made-copied who c.args.lun c.args.bytes c.args.dir c.args.to.now c.args.protection (g.R.Read.remaining c.args.host.now)
    (g.R.Read.remaining c.make.new.host) k.0 c.args.vol.now c.make.new.service sound h

pub returns-in-Err-clause-files : goal.returns-in-Err-clause-files
returns-in-Err-clause-files g c =
    let who : Who = who_asks c.args.task c.args.uic in
    let k = c.in-Err.ensures.fails in
    let h = unmade-as who c.args.lun c.args.bytes c.args.dir c.args.to.now c.args.protection (g.R.Read.remaining c.args.host.now)
    (g.R.Read.remaining c.make.new.host) k.0 c.args.vol.now c.make.new.service c.in-Err.refusal _ k.1
    (omega (arith, c.if-bytes-gt-MOST_BYTES.false)) in
    let short : is_too_long c.args.bytes ≡ false = le-ltb 4294967295 c.args.bytes (omega (arith, c.if-bytes-gt-MOST_BYTES.false)) in
    subst (λ (e : HostRefusal). MayMake (copy_result (unmade e)) who c.args.lun c.args.dir c.args.to.now c.args.protection
    (Some (image_attr c.args.bytes)) c.args.vol.now c.make.new.service) (sym c.told.ensures)
    (unmade-files who c.args.lun c.args.bytes c.args.dir c.args.to.now c.args.protection (g.R.Read.remaining c.args.host.now)
    (g.R.Read.remaining c.make.new.host) k.0 c.args.vol.now c.make.new.service c.in-Err.refusal h)

pub returns-in-Err-clause-host : goal.returns-in-Err-clause-host
returns-in-Err-clause-host g c =
    let who : Who = who_asks c.args.task c.args.uic in
    let k = c.in-Err.ensures.fails in
    let h = unmade-as who c.args.lun c.args.bytes c.args.dir c.args.to.now c.args.protection (g.R.Read.remaining c.args.host.now)
    (g.R.Read.remaining c.make.new.host) k.0 c.args.vol.now c.make.new.service c.in-Err.refusal _ k.1
    (omega (arith, c.if-bytes-gt-MOST_BYTES.false)) in
    let short : is_too_long c.args.bytes ≡ false = le-ltb 4294967295 c.args.bytes (omega (arith, c.if-bytes-gt-MOST_BYTES.false)) in
    subst (λ (e : HostRefusal). ReadsHost c.args.bytes (unmade e) (g.R.Read.remaining c.args.host.now) (g.R.Read.remaining c.make.new.host))
    (sym c.told.ensures)
    (unmade-host who c.args.lun c.args.bytes c.args.dir c.args.to.now c.args.protection (g.R.Read.remaining c.args.host.now)
    (g.R.Read.remaining c.make.new.host) k.0 c.args.vol.now c.make.new.service c.in-Err.refusal h)

pub returns-in-Err-clause-order : goal.returns-in-Err-clause-order
returns-in-Err-clause-order g c =
    let who : Who = who_asks c.args.task c.args.uic in
    let k = c.in-Err.ensures.fails in
    let h = unmade-as who c.args.lun c.args.bytes c.args.dir c.args.to.now c.args.protection (g.R.Read.remaining c.args.host.now)
    (g.R.Read.remaining c.make.new.host) k.0 c.args.vol.now c.make.new.service c.in-Err.refusal _ k.1
    (omega (arith, c.if-bytes-gt-MOST_BYTES.false)) in
    unmade-order who c.args.lun c.args.bytes c.args.dir c.args.to.now c.args.protection (g.R.Read.remaining c.args.host.now)
    (g.R.Read.remaining c.make.new.host) k.0 c.args.vol.now c.make.new.service c.in-Err.refusal h

pub returns-in-Err-clause-spent : goal.returns-in-Err-clause-spent
returns-in-Err-clause-spent g c =
    let who : Who = who_asks c.args.task c.args.uic in
    let k = c.in-Err.ensures.fails in
    let h = unmade-as who c.args.lun c.args.bytes c.args.dir c.args.to.now c.args.protection (g.R.Read.remaining c.args.host.now)
    (g.R.Read.remaining c.make.new.host) k.0 c.args.vol.now c.make.new.service c.in-Err.refusal _ k.1
    (omega (arith, c.if-bytes-gt-MOST_BYTES.false)) in
    let short : is_too_long c.args.bytes ≡ false = le-ltb 4294967295 c.args.bytes (omega (arith, c.if-bytes-gt-MOST_BYTES.false)) in
    subst (λ (e : HostRefusal). is_spent c.args.vol.now ≡ true → FailsSpent (is_too_long c.args.bytes) e) (sym c.told.ensures)
    (λ dead. subst (λ b. FailsSpent b (of_copy c.in-Err.refusal)) (sym short)
    (unmade-spent who c.args.lun c.args.bytes c.args.dir c.args.to.now c.args.protection (g.R.Read.remaining c.args.host.now)
    (g.R.Read.remaining c.make.new.host) k.0 c.args.vol.now c.make.new.service c.in-Err.refusal dead h))

pub returns-in-Err-clause-ended : goal.returns-in-Err-clause-ended
returns-in-Err-clause-ended g c =
    let who : Who = who_asks c.args.task c.args.uic in
    let k = c.in-Err.ensures.fails in
    let h = unmade-as who c.args.lun c.args.bytes c.args.dir c.args.to.now c.args.protection (g.R.Read.remaining c.args.host.now)
    (g.R.Read.remaining c.make.new.host) k.0 c.args.vol.now c.make.new.service c.in-Err.refusal _ k.1
    (omega (arith, c.if-bytes-gt-MOST_BYTES.false)) in
    let short : is_too_long c.args.bytes ≡ false = le-ltb 4294967295 c.args.bytes (omega (arith, c.if-bytes-gt-MOST_BYTES.false)) in
    subst (λ (e : HostRefusal). is_lethal (as_copy e) ≡ true → Ends of_volume who (as_copy e) c.args.vol.now c.make.new.service)
    (sym c.told.ensures)
    (unmade-ends who c.args.lun c.args.bytes c.args.dir c.args.to.now c.args.protection (g.R.Read.remaining c.args.host.now)
    (g.R.Read.remaining c.make.new.host) k.0 c.args.vol.now c.make.new.service c.in-Err.refusal h)

pub returns-in-Err-clause-refused : goal.returns-in-Err-clause-refused
returns-in-Err-clause-refused g c =
    let who : Who = who_asks c.args.task c.args.uic in
    let k = c.in-Err.ensures.fails in
    let h = unmade-as who c.args.lun c.args.bytes c.args.dir c.args.to.now c.args.protection (g.R.Read.remaining c.args.host.now)
    (g.R.Read.remaining c.make.new.host) k.0 c.args.vol.now c.make.new.service c.in-Err.refusal _ k.1
    (omega (arith, c.if-bytes-gt-MOST_BYTES.false)) in
    let short : is_too_long c.args.bytes ≡ false = le-ltb 4294967295 c.args.bytes (omega (arith, c.if-bytes-gt-MOST_BYTES.false)) in
    subst (λ (e : HostRefusal). is_whole (copy_result (unmade e)) ≡ true → is_sound c.args.vol.now ≡ true
    → FailsToCopyFromHost e c.args.bytes
    (g.R.Read.remaining c.args.host.now) (g.R.Read.remaining c.make.new.host) who c.args.lun c.args.dir c.args.to.now c.args.protection
    (store_of_volume c.args.vol.now) (store_of_volume c.make.new.service)) (sym c.told.ensures)
    (λ whole sound. unmade-refused who c.args.lun c.args.bytes c.args.dir c.args.to.now c.args.protection
    (g.R.Read.remaining c.args.host.now)
    (g.R.Read.remaining c.make.new.host) k.0 c.args.vol.now c.make.new.service c.in-Err.refusal short whole sound h)
