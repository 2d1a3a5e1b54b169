use Rattle.std.proofs.Common.{[], refl, ap}
use Rattle.std.proofs.lemmas.Result.{IfErr-weaker, on_ok_weaker}
use Rattle.f11_files.proofs.Extending.AppendRun.{sound-moment, fails-zeros, mid-come, then-for, then-last, then-gets, then-given, then-fits}
use Rattle.f11_files.proofs.Extending.AppendRun.{then-within, then-reserved, then-may, then-stays, appends-header, fails-header}
use Rattle.f11_files.proofs.Extending.AppendRun.{fails-named, appends-named}
use Rattle.f11_files.proofs.Extending.Growing.{breaks-stays}
use Rattle.f11_files.proofs.Extending.Zeroed.{mid-for, mid-last, mid-given, now-full}
use Rattle.std.specs.List.{range_with_len}
use Rattle.f11_files.proofs.Extending.Parts.{grows-behind, grows-same, grows-then, growth-named, growth-then, growth-zeroed}
use Rattle.f11_files.specs.declared.extend.tail.Tail.{Tail}
use Rattle.f11_files.proofs.structure.Structure.append_run.Goals as goal

pub returns-in-Err-clause-refused : goal.returns-in-Err-clause-refused
returns-in-Err-clause-refused g c =
    fails-zeros c.args.self.now c.args.tail.now c.args.lbn c.args.count _ c.requires.is_for c.requires.last c.requires.within
    c.requires.some c.requires.fits c.requires.unreferenced c.requires.reserved c.requires.may _ c.in-Err.ensures.failed

pub returns-in-Err-clause-stays : goal.returns-in-Err-clause-stays
returns-in-Err-clause-stays g c =
    breaks-stays (sound-moment c.args.self.now c.args.tail.now c.args.lbn c.args.count _ c.requires.is_for c.requires.last c.requires.within
    c.requires.some c.requires.fits c.requires.unreferenced c.requires.reserved c.requires.may) refl c.requires.is_for
    (fails-zeros c.args.self.now c.args.tail.now c.args.lbn c.args.count _ c.requires.is_for c.requires.last c.requires.within
    c.requires.some c.requires.fits c.requires.unreferenced c.requires.reserved c.requires.may _ c.in-Err.ensures.failed)

pub name_run-requires-clause-is_for : goal.name_run-requires-clause-is_for
name_run-requires-clause-is_for g c =
    mid-for c.args.self.now c.args.tail.now c.args.lbn c.args.count _ _ c.requires.is_for c.requires.last c.requires.within c.requires.some
    c.requires.fits c.requires.unreferenced c.in-Ok.ensures.zeroes

pub name_run-requires-clause-last : goal.name_run-requires-clause-last
name_run-requires-clause-last g c =
    mid-last c.args.self.now c.args.tail.now c.args.lbn c.args.count _ _ c.requires.is_for c.requires.last c.requires.within c.requires.some
    c.requires.fits c.requires.unreferenced c.in-Ok.ensures.zeroes

pub name_run-requires-clause-given : goal.name_run-requires-clause-given
name_run-requires-clause-given g c =
    mid-given c.args.self.now c.args.tail.now c.args.lbn c.args.count _ _ c.requires.is_for c.requires.last c.requires.within
    c.requires.some c.requires.fits c.requires.unreferenced c.in-Ok.ensures.zeroes

pub name_run-requires-clause-come : goal.name_run-requires-clause-come
name_run-requires-clause-come g c =
    mid-come c.args.self.now c.args.tail.now c.args.lbn c.args.count _ c.requires.is_for c.requires.last c.requires.within c.requires.some
    c.requires.fits c.requires.unreferenced c.requires.reserved c.requires.may _ c.in-Ok.ensures.zeroes

pub returns-in-Err-name_run-clause-refused : goal.returns-in-Err-name_run-clause-refused
returns-in-Err-name_run-clause-refused g c =
    fails-named c.args.self.now c.args.tail.now c.args.lbn c.args.count _ c.requires.is_for c.requires.last c.requires.within
    c.requires.some c.requires.fits c.requires.unreferenced c.requires.reserved c.requires.may _ c.in-Ok.ensures.zeroes _
    c.in-Err-name_run.ensures.failed

pub returns-in-Err-name_run-clause-stays : goal.returns-in-Err-name_run-clause-stays
returns-in-Err-name_run-clause-stays g c =
    breaks-stays (sound-moment c.args.self.now c.args.tail.now c.args.lbn c.args.count _ c.requires.is_for c.requires.last c.requires.within
    c.requires.some c.requires.fits c.requires.unreferenced c.requires.reserved c.requires.may) c.name_run.ensures.home
    c.requires.is_for
    (fails-named c.args.self.now c.args.tail.now c.args.lbn c.args.count _ c.requires.is_for c.requires.last c.requires.within
    c.requires.some c.requires.fits c.requires.unreferenced c.requires.reserved c.requires.may _ c.in-Ok.ensures.zeroes _
    c.in-Err-name_run.ensures.failed)

pub returns-then-named-clause-appended : goal.returns-then-named-clause-appended
returns-then-named-clause-appended g c =
    appends-named c.args.self.now c.args.tail.now c.args.lbn c.args.count _ c.requires.is_for c.requires.last c.requires.within
    c.requires.some c.requires.fits c.requires.unreferenced c.requires.reserved c.requires.may _ c.in-Ok.ensures.zeroes _ _ _
    (c.in-Ok-name_run.ensures.names c.if-named.true)

pub returns-then-named-clause-stays : goal.returns-then-named-clause-stays
returns-then-named-clause-stays g c = c.in-Ok-name_run.ensures.stays

pub add_header-requires-clause-is_for : goal.add_header-requires-clause-is_for
add_header-requires-clause-is_for g c =
    then-for c.args.self.now c.args.tail.now c.args.lbn c.args.count _ c.requires.is_for c.requires.last c.requires.within c.requires.some
    c.requires.fits c.requires.unreferenced c.requires.reserved c.requires.may
    _ c.in-Ok.ensures.zeroes _ _ (c.in-Ok-name_run.ensures.full c.if-named.false).1 _ (c.in-Ok-name_run.ensures.full c.if-named.false).0

pub add_header-requires-clause-last : goal.add_header-requires-clause-last
add_header-requires-clause-last g c =
    then-last c.args.self.now c.args.tail.now c.args.lbn c.args.count _ c.requires.is_for c.requires.last c.requires.within c.requires.some
    c.requires.fits c.requires.unreferenced c.requires.reserved c.requires.may
    _ c.in-Ok.ensures.zeroes _ _ (c.in-Ok-name_run.ensures.full c.if-named.false).1 _ (c.in-Ok-name_run.ensures.full c.if-named.false).0

pub add_header-requires-clause-gets : goal.add_header-requires-clause-gets
add_header-requires-clause-gets g c =
    then-gets c.args.self.now c.args.tail.now c.args.lbn c.args.count _ c.requires.is_for c.requires.last c.requires.within c.requires.some
    c.requires.fits c.requires.unreferenced c.requires.reserved c.requires.may
    _ c.in-Ok.ensures.zeroes _ _ (c.in-Ok-name_run.ensures.full c.if-named.false).1 _ (c.in-Ok-name_run.ensures.full c.if-named.false).0
    c.requires.gets

pub add_header-requires-clause-given : goal.add_header-requires-clause-given
add_header-requires-clause-given g c =
    then-given c.args.self.now c.args.tail.now c.args.lbn c.args.count _ c.requires.is_for c.requires.last c.requires.within c.requires.some
    c.requires.fits c.requires.unreferenced c.requires.reserved c.requires.may
    _ c.in-Ok.ensures.zeroes _ _ (c.in-Ok-name_run.ensures.full c.if-named.false).1 _ (c.in-Ok-name_run.ensures.full c.if-named.false).0

pub add_header-requires-clause-within : goal.add_header-requires-clause-within
add_header-requires-clause-within g c =
    then-within c.args.self.now c.args.tail.now c.args.lbn c.args.count _ c.requires.is_for c.requires.last c.requires.within
    c.requires.some c.requires.fits c.requires.unreferenced c.requires.reserved c.requires.may
    _ c.in-Ok.ensures.zeroes _ _ (c.in-Ok-name_run.ensures.full c.if-named.false).1 _ (c.in-Ok-name_run.ensures.full c.if-named.false).0

pub add_header-requires-clause-full : goal.add_header-requires-clause-full
add_header-requires-clause-full g c =
    now-full c.args.self.now c.args.tail.now c.args.lbn c.args.count _ _ c.requires.is_for c.requires.last c.requires.within c.requires.some
    c.requires.fits c.requires.unreferenced c.in-Ok.ensures.zeroes _ _ (c.in-Ok-name_run.ensures.full c.if-named.false).1

pub add_header-requires-clause-fits : goal.add_header-requires-clause-fits
add_header-requires-clause-fits g c =
    then-fits c.args.self.now c.args.tail.now c.args.lbn c.args.count _ c.requires.is_for c.requires.last c.requires.within c.requires.some
    c.requires.fits c.requires.unreferenced c.requires.reserved c.requires.may
    _ c.in-Ok.ensures.zeroes _ _ (c.in-Ok-name_run.ensures.full c.if-named.false).1 _ (c.in-Ok-name_run.ensures.full c.if-named.false).0

pub add_header-requires-clause-reserved : goal.add_header-requires-clause-reserved
add_header-requires-clause-reserved g c =
    then-reserved c.args.self.now c.args.tail.now c.args.lbn c.args.count _ c.requires.is_for c.requires.last c.requires.within
    c.requires.some c.requires.fits c.requires.unreferenced c.requires.reserved c.requires.may
    _ c.in-Ok.ensures.zeroes _ _ (c.in-Ok-name_run.ensures.full c.if-named.false).1 _ (c.in-Ok-name_run.ensures.full c.if-named.false).0

pub add_header-requires-clause-may : goal.add_header-requires-clause-may
add_header-requires-clause-may g c =
    then-may c.args.self.now c.args.tail.now c.args.lbn c.args.count _ c.requires.is_for c.requires.last c.requires.within c.requires.some
    c.requires.fits c.requires.unreferenced c.requires.reserved c.requires.may
    _ c.in-Ok.ensures.zeroes _ _ (c.in-Ok-name_run.ensures.full c.if-named.false).1 _ (c.in-Ok-name_run.ensures.full c.if-named.false).0

pub returns-clause-appended : goal.returns-clause-appended
returns-clause-appended g c =
    on_ok_weaker c.add_header.result
    (appends-header c.args.self.now c.args.tail.now c.args.lbn c.args.count _ c.requires.is_for c.requires.last c.requires.within
    c.requires.some c.requires.fits c.requires.unreferenced c.requires.reserved c.requires.may
    _ c.in-Ok.ensures.zeroes _ _ (c.in-Ok-name_run.ensures.full c.if-named.false).1 _ (c.in-Ok-name_run.ensures.full c.if-named.false).0 _ _
    _) c.add_header.ensures.appended

pub returns-clause-refused : goal.returns-clause-refused
returns-clause-refused g c =
    IfErr-weaker c.add_header.result _ _
    (λ r. fails-header c.args.self.now c.args.tail.now c.args.lbn c.args.count _ c.requires.is_for c.requires.last c.requires.within
    c.requires.some c.requires.fits c.requires.unreferenced c.requires.reserved c.requires.may
    _ c.in-Ok.ensures.zeroes _ _ (c.in-Ok-name_run.ensures.full c.if-named.false).1 _ (c.in-Ok-name_run.ensures.full c.if-named.false).0 _
    r) c.add_header.ensures.refused

pub returns-clause-stays : goal.returns-clause-stays
returns-clause-stays g c =
    then-stays c.args.self.now c.args.tail.now c.args.lbn c.args.count _ c.requires.is_for c.requires.last c.requires.within c.requires.some
    c.requires.fits c.requires.unreferenced c.requires.reserved c.requires.may
    _ c.in-Ok.ensures.zeroes _ _ (c.in-Ok-name_run.ensures.full c.if-named.false).1 _ (c.in-Ok-name_run.ensures.full c.if-named.false).0
    c.add_header.ensures.stays

pub returns-in-Err-clause-confined : goal.returns-in-Err-clause-confined
returns-in-Err-clause-confined g c = growth-zeroed c.args.self.now c.args.tail.now _ c.zero_run.ensures.confined

pub returns-in-Err-name_run-clause-confined : goal.returns-in-Err-name_run-clause-confined
returns-in-Err-name_run-clause-confined g c =
    growth-named c.args.self.now c.args.tail.now (range_with_len c.args.lbn c.args.count) c.zero_run.ensures.confined
    c.name_run.ensures.confined

pub returns-then-named-clause-confined : goal.returns-then-named-clause-confined
returns-then-named-clause-confined g c =
    growth-named c.args.self.now c.args.tail.now (range_with_len c.args.lbn c.args.count) c.zero_run.ensures.confined
    c.name_run.ensures.confined

pub returns-then-named-clause-places : goal.returns-then-named-clause-places
returns-then-named-clause-places g c =
    let there = c.in-Ok-name_run.ensures.places c.if-named.true in
    grows-behind c.args.self.now c.name_run.new.self c.args.tail.now c.name_run.new.tail c.args.lbn c.args.count there.0 there.1

pub returns-clause-confined : goal.returns-clause-confined
returns-clause-confined g c =
    let s = c.args.self.now in
    let t = c.name_run.new.self in
    let run = range_with_len c.args.lbn c.args.count in
    let full = c.in-Ok-name_run.ensures.full c.if-named.false in
    let same = ap (λ (x : Tail). x.number) full.1.tail_is in
    growth-then s t c.args.tail.now c.name_run.new.tail run [] (grows-same s t c.args.tail.now c.name_run.new.tail run full.0 same)
    (λ l _. refl)
    (growth-named s c.args.tail.now run c.zero_run.ensures.confined c.name_run.ensures.confined) c.add_header.ensures.confined

pub returns-clause-places : goal.returns-clause-places
returns-clause-places g c =
    let s = c.args.self.now in
    let t = c.name_run.new.self in
    let run = range_with_len c.args.lbn c.args.count in
    let full = c.in-Ok-name_run.ensures.full c.if-named.false in
    let same = ap (λ (x : Tail). x.number) full.1.tail_is in
    on_ok_weaker c.add_header.result
    (grows-then s t c.add_header.new.self c.args.tail.now c.name_run.new.tail c.add_header.new.tail run run (λ l out. out)
    (grows-same s t c.args.tail.now c.name_run.new.tail run full.0 same)) c.add_header.ensures.places
