use Rattle.std.proofs.Common.{true, false}
use Rattle.std.proofs.lemmas.Result.{IfErr-weaker, on_ok_weaker}
use Rattle.f11_files.specs.Open.{disk_in, home_in, store_in}
use Rattle.f11_store.specs.Directory.{record_bytes}
use Rattle.f11_fcp.proofs.AppendLemmas.{full-of, none-left, place-of, placed, not-placed, room-left}
use Rattle.f11_fcp.proofs.HandedLemmas.{breaks-fatal, fatal-alive, fatal-never}
use Rattle.f11_fcp.proofs.append.put_entry.Goals as goal

pub replace_entry-requires-clause-there : goal.replace_entry-requires-clause-there
replace_entry-requires-clause-there g c = λ honest.
    let at = place-of c.args.found.now c.in-Some.spot (store_in c.args.files.now) c.args.directory c.args.empty c.in-Some.is
    (c.requires.known honest) in
    record { there = at.0; in_hand = at.1 }

pub returns-in-Some-clause-put : goal.returns-in-Some-clause-put
returns-in-Some-clause-put g c =
    on_ok_weaker c.replace_entry.result
    (placed (home_in c.args.files.now) c.args.directory (record_bytes c.args.file c.args.name.now) (disk_in c.args.files.now)
    (disk_in c.replace_entry.new.files) c.in-Some.spot c.in-Some.spot.within
    (λ honest. place-of c.args.found.now c.in-Some.spot (store_in c.args.files.now) c.args.directory c.args.empty c.in-Some.is
    (c.requires.known honest)))
    c.replace_entry.ensures.replaced

pub returns-in-Some-clause-refused : goal.returns-in-Some-clause-refused
returns-in-Some-clause-refused g c =
    IfErr-weaker c.replace_entry.result _ _
    (λ e. not-placed (home_in c.args.files.now) c.args.directory (record_bytes c.args.file c.args.name.now) (disk_in c.args.files.now)
    (disk_in c.replace_entry.new.files) c.in-Some.spot c.in-Some.spot.within
    (λ honest. place-of c.args.found.now c.in-Some.spot (store_in c.args.files.now) c.args.directory c.args.empty c.in-Some.is
    (c.requires.known honest)))
    c.replace_entry.ensures.refused

pub returns-in-Some-clause-counts : goal.returns-in-Some-clause-counts
returns-in-Some-clause-counts g c =
    fatal-never c.replace_entry.result (breaks-fatal _ _ _ _ c.replace_entry.result c.replace_entry.ensures.refused)

pub returns-in-Some-clause-alive : goal.returns-in-Some-clause-alive
returns-in-Some-clause-alive g c =
    fatal-alive c.replace_entry.result c.replace_entry.ensures.alive
    (breaks-fatal _ _ _ _ c.replace_entry.result c.replace_entry.ensures.refused)

pub append_in_block-requires-clause-full : goal.append_in_block-requires-clause-full
append_in_block-requires-clause-full g c = λ honest.
    let known = c.requires.known honest in
    full-of c.args.found.now (store_in c.args.files.now) c.args.directory false c.args.empty c.in-None.is known
    (room-left c.args.found.now (store_in c.args.files.now) c.args.directory known.end c.if-found.false)

pub append_in_new_block-requires-clause-full : goal.append_in_new_block-requires-clause-full
append_in_new_block-requires-clause-full g c = λ honest.
    let known = c.requires.known honest in
    full-of c.args.found.now (store_in c.args.files.now) c.args.directory true c.args.empty c.in-None.is known
    (none-left c.args.found.now (store_in c.args.files.now) c.args.directory known.end c.if-found.true)
