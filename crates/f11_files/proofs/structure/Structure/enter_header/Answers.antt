use Rattle.std.proofs.Common.{length, refl, ap, arith}
use Rattle.f11_dev.specs.Disk.{Disk}
use Rattle.f11_index.proofs.InUseLemmas.{header-within}
use Rattle.f11_files.specs.Structure.{index_in}
use Rattle.f11_files.proofs.Extending.Enter.{bit-entered, entered-stays, enters-header, fails-bit, fails-first, fails-read}
use Rattle.f11_files.proofs.Extending.Enter.{header-unwritten, header-written, none-free}
use Rattle.f11_files.proofs.Extending.Growing.{taking-stays}
use Rattle.f11_files.proofs.Confining.SlotParts.{least-new, slot-entered, slot-unwritten}
use Rattle.f11_files.proofs.structure.Structure.enter_header.Goals as goal

pub returns-in_default-clause-refused : goal.returns-in_default-clause-refused
returns-in_default-clause-refused g c =
    none-free c.args.self.now c.args.tail.now c.args.lbn c.args.count (g.D.Device.disk c.args.device.now) c.requires.is_for c.requires.last
    c.requires.given c.requires.free c.in_default.ensures

pub read-requires : goal.read-requires
read-requires g c =
    let least = c.in-Some.ensures in
    rw c.lbn_of_header-at.ensures
    (header-within (index_in c.args.self.now) c.in-Some.number _ c.requires.is_for.lies.index (omega (arith, least.low)) least.high)

pub returns-in-Err-clause-refused : goal.returns-in-Err-clause-refused
returns-in-Err-clause-refused g c =
    fails-read c.args.self.now c.args.tail.now c.args.lbn c.args.count (g.D.Device.disk c.args.device.now) c.requires.is_for c.requires.last
    c.requires.given _ c.in-Err.ensures.reads.counts

pub write-requires : goal.write-requires
write-requires g c =
    let least = c.in-Some.ensures in
    rw (c.lbn_of_header-at.ensures, ap (λ (d : Disk). length d.image) c.in-Ok.ensures.reads.counts)
    (header-within (index_in c.args.self.now) c.in-Some.number _ c.requires.is_for.lies.index (omega (arith, least.low)) least.high)

pub returns-in-Err-write-clause-refused : goal.returns-in-Err-write-clause-refused
returns-in-Err-write-clause-refused g c =
    fails-first c.args.self.now c.args.tail.now c.args.lbn c.args.count (g.D.Device.disk c.args.device.now) c.requires.is_for
    c.requires.last c.requires.given
    c.in-Some.number _ _ c.read.new.into c.next_sequence.result c.in-Some.ensures c.lbn_of_header-at.ensures c.in-Ok.ensures.reads.counts
    c.in-Ok.ensures.reads.gives c.next_sequence.ensures.next
    c.fill_extension.new.block c.fill_extension.ensures _ c.in-Err-write.ensures.writes.err

pub returns-in-Err-write-clause-stays : goal.returns-in-Err-write-clause-stays
returns-in-Err-write-clause-stays g c =
    taking-stays refl c.requires.is_for
    (fails-first c.args.self.now c.args.tail.now c.args.lbn c.args.count (g.D.Device.disk c.args.device.now) c.requires.is_for
    c.requires.last c.requires.given
    c.in-Some.number _ _ c.read.new.into c.next_sequence.result c.in-Some.ensures c.lbn_of_header-at.ensures c.in-Ok.ensures.reads.counts
    c.in-Ok.ensures.reads.gives c.next_sequence.ensures.next
    c.fill_extension.new.block c.fill_extension.ensures _ c.in-Err-write.ensures.writes.err)

pub returns-in-Ok-set-clause-entered : goal.returns-in-Ok-set-clause-entered
returns-in-Ok-set-clause-entered g c =
    enters-header c.args.self.now c.args.tail.now c.args.lbn c.args.count (g.D.Device.disk c.args.device.now) c.requires.is_for
    c.requires.last c.requires.given
    c.in-Some.number _ _ c.read.new.into c.next_sequence.result c.in-Some.ensures c.lbn_of_header-at.ensures c.in-Ok.ensures.reads.counts
    c.in-Ok.ensures.reads.gives c.next_sequence.ensures.next
    c.fill_extension.new.block c.fill_extension.ensures _ c.in-Ok-write.ensures.writes.ok c.set.new.self _ c.in-Ok-set.ensures.done
    c.set.ensures.room

pub returns-in-Ok-set-clause-stays : goal.returns-in-Ok-set-clause-stays
returns-in-Ok-set-clause-stays g c =
    entered-stays c.args.self.now c.args.tail.now c.args.lbn c.args.count (g.D.Device.disk c.args.device.now) c.requires.is_for
    c.requires.last c.requires.given
    c.in-Some.number _ _ c.read.new.into c.next_sequence.result c.in-Some.ensures c.lbn_of_header-at.ensures c.in-Ok.ensures.reads.counts
    c.in-Ok.ensures.reads.gives c.next_sequence.ensures.next
    c.fill_extension.new.block c.fill_extension.ensures _ c.in-Ok-write.ensures.writes.ok c.set.new.self _ c.in-Ok-set.ensures.done

pub returns-in-Err-set-clause-refused : goal.returns-in-Err-set-clause-refused
returns-in-Err-set-clause-refused g c =
    fails-bit c.args.self.now c.args.tail.now c.args.lbn c.args.count (g.D.Device.disk c.args.device.now) c.requires.is_for c.requires.last
    c.requires.given
    c.in-Some.number _ _ c.read.new.into c.next_sequence.result c.in-Some.ensures c.lbn_of_header-at.ensures c.in-Ok.ensures.reads.counts
    c.in-Ok.ensures.reads.gives c.next_sequence.ensures.next
    c.fill_extension.new.block c.fill_extension.ensures _ c.in-Ok-write.ensures.writes.ok _ c.in-Err-set.ensures.failed

pub returns-in-Err-set-clause-stays : goal.returns-in-Err-set-clause-stays
returns-in-Err-set-clause-stays g c =
    taking-stays refl c.requires.is_for
    (fails-bit c.args.self.now c.args.tail.now c.args.lbn c.args.count (g.D.Device.disk c.args.device.now) c.requires.is_for c.requires.last
    c.requires.given
    c.in-Some.number _ _ c.read.new.into c.next_sequence.result c.in-Some.ensures c.lbn_of_header-at.ensures c.in-Ok.ensures.reads.counts
    c.in-Ok.ensures.reads.gives c.next_sequence.ensures.next
    c.fill_extension.new.block c.fill_extension.ensures _ c.in-Ok-write.ensures.writes.ok _ c.in-Err-set.ensures.failed)

pub returns-in-Err-write-clause-confined : goal.returns-in-Err-write-clause-confined
returns-in-Err-write-clause-confined g c =
    slot-unwritten c.args.self.now c.in-Some.number _ _ _ _ c.in-Some.ensures c.lbn_of_header-at.ensures c.in-Ok.ensures.reads.counts
    c.in-Err-write.ensures.writes.err
    (header-unwritten c.args.self.now c.args.tail.now c.args.lbn c.args.count (g.D.Device.disk c.args.device.now) c.requires.is_for
    c.requires.last c.requires.given
    c.in-Some.number _ _ c.read.new.into c.next_sequence.result c.in-Some.ensures c.lbn_of_header-at.ensures c.in-Ok.ensures.reads.counts
    c.in-Ok.ensures.reads.gives c.next_sequence.ensures.next
    c.fill_extension.new.block c.fill_extension.ensures _ c.in-Err-write.ensures.writes.err)

pub returns-in-Ok-set-clause-confined : goal.returns-in-Ok-set-clause-confined
returns-in-Ok-set-clause-confined g c =
    slot-entered c.args.self.now c.in-Some.number _ _ _ _ c.in-Some.ensures c.lbn_of_header-at.ensures c.in-Ok.ensures.reads.counts
    c.in-Ok-write.ensures.writes.ok c.in-Ok-set.ensures.done.went
    (header-written c.args.self.now c.args.tail.now c.args.lbn c.args.count (g.D.Device.disk c.args.device.now) c.requires.is_for
    c.requires.last c.requires.given
    c.in-Some.number _ _ c.read.new.into c.next_sequence.result c.in-Some.ensures c.lbn_of_header-at.ensures c.in-Ok.ensures.reads.counts
    c.in-Ok.ensures.reads.gives c.next_sequence.ensures.next
    c.fill_extension.new.block c.fill_extension.ensures _ c.in-Ok-write.ensures.writes.ok)
    (bit-entered c.args.self.now c.args.tail.now c.args.lbn c.args.count (g.D.Device.disk c.args.device.now) c.requires.is_for
    c.requires.last c.requires.given
    c.in-Some.number _ _ c.read.new.into c.next_sequence.result c.in-Some.ensures c.lbn_of_header-at.ensures c.in-Ok.ensures.reads.counts
    c.in-Ok.ensures.reads.gives c.next_sequence.ensures.next
    c.fill_extension.new.block c.fill_extension.ensures _ c.in-Ok-write.ensures.writes.ok _ c.in-Ok-set.ensures.done.went)

pub returns-in-Err-set-clause-confined : goal.returns-in-Err-set-clause-confined
returns-in-Err-set-clause-confined g c =
    slot-entered c.args.self.now c.in-Some.number _ _ _ _ c.in-Some.ensures c.lbn_of_header-at.ensures c.in-Ok.ensures.reads.counts
    c.in-Ok-write.ensures.writes.ok c.in-Err-set.ensures.failed
    (header-written c.args.self.now c.args.tail.now c.args.lbn c.args.count (g.D.Device.disk c.args.device.now) c.requires.is_for
    c.requires.last c.requires.given
    c.in-Some.number _ _ c.read.new.into c.next_sequence.result c.in-Some.ensures c.lbn_of_header-at.ensures c.in-Ok.ensures.reads.counts
    c.in-Ok.ensures.reads.gives c.next_sequence.ensures.next
    c.fill_extension.new.block c.fill_extension.ensures _ c.in-Ok-write.ensures.writes.ok)
    (bit-entered c.args.self.now c.args.tail.now c.args.lbn c.args.count (g.D.Device.disk c.args.device.now) c.requires.is_for
    c.requires.last c.requires.given
    c.in-Some.number _ _ c.read.new.into c.next_sequence.result c.in-Some.ensures c.lbn_of_header-at.ensures c.in-Ok.ensures.reads.counts
    c.in-Ok.ensures.reads.gives c.next_sequence.ensures.next
    c.fill_extension.new.block c.fill_extension.ensures _ c.in-Ok-write.ensures.writes.ok _ c.in-Err-set.ensures.failed)

pub returns-in-Ok-set-clause-places : goal.returns-in-Ok-set-clause-places
returns-in-Ok-set-clause-places g c = record { was_new = least-new c.in-Some.ensures; bit = c.in-Ok-set.ensures.done.bit; bitmap = refl }
