use Rattle.std.proofs.Common.{◌==◌, refl}
use Rattle.f11_files.proofs.Extending.Written.{stays-behind}
use Rattle.f11_index.proofs.InUseLemmas.{in_use-some, in_use-slot}
use Rattle.f11_files.specs.Structure.{index_in}
use Rattle.f11_files.proofs.Extending.NameRun.{fails-name, named-order, names-run, names-stays, unnamed-order}
use Rattle.f11_files.proofs.Finding.First.{place-within}
use Rattle.f11_files.proofs.Confining.Parts.{only-failed, only-wrote}
use Rattle.f11_files.proofs.structure.Structure.name_run.Goals as goal

pub lbn_of_header-requires-clause-some : goal.lbn_of_header-requires-clause-some
lbn_of_header-requires-clause-some g c = in_use-some (index_in c.args.self.now) c.args.tail.now.number c.requires.last.header.in_use

pub lbn_of_header-requires-clause-slot : goal.lbn_of_header-requires-clause-slot
lbn_of_header-requires-clause-slot g c = in_use-slot (index_in c.args.self.now) c.args.tail.now.number c.requires.last.header.in_use

pub write-requires : goal.write-requires
write-requires g c =
    place-within c.args.self.now c.args.tail.now.number _ _ _ c.requires.is_for c.requires.last.header.in_use refl c.lbn_of_header.ensures

pub returns-in-Err-clause-failed : goal.returns-in-Err-clause-failed
returns-in-Err-clause-failed g c =
    fails-name c.args.self.now c.args.tail.now c.append_all.new.block c.args.lbn c.args.count (g.D.Device.disk c.args.device.now)
    c.requires.is_for c.requires.last c.requires.given (c.append_all.ensures.named c.if-not-append_all.false)
    c.requires.gets c.requires.within c.requires.come _ _ c.lbn_of_header.ensures c.in-Err.ensures.writes.err

pub returns-clause-names : goal.returns-clause-names
returns-clause-names g c = λ _.
    names-run c.args.self.now c.args.tail.now c.append_all.new.block c.args.lbn c.args.count (g.D.Device.disk c.args.device.now)
    c.requires.is_for c.requires.last c.requires.given (c.append_all.ensures.named c.if-not-append_all.false)
    c.requires.gets c.requires.within c.requires.come _ _ c.lbn_of_header.ensures c.keep_slots.new.index c.keep_slots.ensures.behind
    c.keep_slots.ensures.room c.in-Ok.ensures.writes.ok

pub returns-clause-stays : goal.returns-clause-stays
returns-clause-stays g c =
    names-stays c.args.self.now c.args.tail.now c.append_all.new.block c.args.lbn c.args.count (g.D.Device.disk c.args.device.now)
    c.requires.is_for c.requires.last c.requires.given (c.append_all.ensures.named c.if-not-append_all.false)
    c.requires.gets c.requires.within c.requires.come _ _ c.lbn_of_header.ensures c.keep_slots.new.index c.keep_slots.ensures.behind
    c.keep_slots.ensures.room c.in-Ok.ensures.writes.ok

pub returns-in-Err-clause-confined : goal.returns-in-Err-clause-confined
returns-in-Err-clause-confined g c =
    only-failed c.args.self.now c.args.tail.now.number _ _ _ _ c.requires.last.header.in_use c.lbn_of_header.ensures
    c.in-Err.ensures.writes.err
    (unnamed-order c.args.self.now c.args.tail.now c.append_all.new.block c.args.lbn c.args.count (g.D.Device.disk c.args.device.now)
    c.requires.is_for c.requires.last c.requires.given (c.append_all.ensures.named c.if-not-append_all.false)
    c.requires.gets c.requires.within c.requires.come _ _ c.lbn_of_header.ensures c.in-Err.ensures.writes.err)

pub returns-clause-confined : goal.returns-clause-confined
returns-clause-confined g c =
    only-wrote c.args.self.now c.args.tail.now.number _ _ _ _ c.requires.last.header.in_use c.lbn_of_header.ensures
    c.in-Ok.ensures.writes.ok
    (named-order c.args.self.now c.args.tail.now c.append_all.new.block c.args.lbn c.args.count (g.D.Device.disk c.args.device.now)
    c.requires.is_for c.requires.last c.requires.given (c.append_all.ensures.named c.if-not-append_all.false)
    c.requires.gets c.requires.within c.requires.come _ _ c.lbn_of_header.ensures c.in-Ok.ensures.writes.ok)

pub returns-clause-places : goal.returns-clause-places
returns-clause-places g c =
    λ _. (
      refl,
      stays-behind c.args.self.now c.keep_slots.new.index (c.args.tail.now.file.number == 1) c.args.lbn c.args.count
          c.keep_slots.ensures.behind,
    )
