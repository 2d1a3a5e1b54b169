use Rattle.std.proofs.Common.{◌≡◌, [], inl, lt-ltb, refl, true}
use Rattle.f11_flx.specs.fcp.Lists.{store_of_volume}
use Rattle.f11_making.specs.Asking.{who_asks}
use Rattle.f11_host.specs.CopyTextFromHost.{is_text_too_long}
use Rattle.f11_host.proofs.HostLemmas.{too-long-files}
use Rattle.f11_host.proofs.HostTextLemmas.{long-text-host, long-text-refused, long-text-spent}
use Rattle.f11_host.proofs.text_copy.copy_text_from_host.Goals as goal

pub returns-then-bytes-gt-MOST_TEXT-clause-hosts : goal.returns-then-bytes-gt-MOST_TEXT-clause-hosts
returns-then-bytes-gt-MOST_TEXT-clause-hosts g c =
    let long : is_text_too_long c.args.bytes ≡ true = lt-ltb 1073741312 c.args.bytes c.if-bytes-gt-MOST_TEXT.true in
    long-text-host c.args.bytes (g.R.Read.remaining c.args.first.now) (g.R.Read.remaining c.args.again.now) long

pub returns-then-bytes-gt-MOST_TEXT-clause-files : goal.returns-then-bytes-gt-MOST_TEXT-clause-files
returns-then-bytes-gt-MOST_TEXT-clause-files g c =
    ([], too-long-files (who_asks c.args.task c.args.uic) c.args.lun c.args.dir c.args.to.now c.args.protection [] c.args.vol.now)

pub returns-then-bytes-gt-MOST_TEXT-clause-order : goal.returns-then-bytes-gt-MOST_TEXT-clause-order
returns-then-bytes-gt-MOST_TEXT-clause-order g c = inl refl

pub returns-then-bytes-gt-MOST_TEXT-clause-spent : goal.returns-then-bytes-gt-MOST_TEXT-clause-spent
returns-then-bytes-gt-MOST_TEXT-clause-spent g c = λ dead.
    let long : is_text_too_long c.args.bytes ≡ true = lt-ltb 1073741312 c.args.bytes c.if-bytes-gt-MOST_TEXT.true in
    long-text-spent (is_text_too_long c.args.bytes) long

pub returns-then-bytes-gt-MOST_TEXT-clause-refused : goal.returns-then-bytes-gt-MOST_TEXT-clause-refused
returns-then-bytes-gt-MOST_TEXT-clause-refused g c = λ whole sound.
    let long : is_text_too_long c.args.bytes ≡ true = lt-ltb 1073741312 c.args.bytes c.if-bytes-gt-MOST_TEXT.true in
    long-text-refused c.args.bytes (g.R.Read.remaining c.args.first.now) (g.R.Read.remaining c.args.again.now)
    (who_asks c.args.task c.args.uic) c.args.lun c.args.dir c.args.to.now c.args.protection (store_of_volume c.args.vol.now) long
