use Rattle.std.proofs.Common.{length, refl, ap, arith}
use Rattle.f11_dev.specs.Disk.{Disk}
use Rattle.f11_dev.proofs.LookedLemmas.{looked_none, looked_failed_read}
use Rattle.f11_index.proofs.InUseLemmas.{header-within}
use Rattle.f11_files.specs.Structure.{index_in}
use Rattle.f11_files.proofs.AnswerLemmas.{right-cause, right-fault, reads-looked}
use Rattle.f11_files.proofs.Creating.Create.{bit-entered, created-stays, creates, fails-bit, fails-bit-stays, fails-first}
use Rattle.f11_files.proofs.Creating.Create.{fails-first-stays, header-unwritten, header-written, none-free}
use Rattle.f11_files.proofs.WriteLemmas.{fails-unread}
use Rattle.f11_files.proofs.Confining.SlotParts.{slot-entered, slot-unwritten}
use Rattle.f11_files.proofs.structure.Structure.enter_file.Goals as goal

pub returns-in_default-clause-refused : goal.returns-in_default-clause-refused
returns-in_default-clause-refused g c =
    let old = g.D.Device.disk c.args.device.now in
    fails-unread (omega arith) (record {
      right = right-cause _ _ _ (λ is. omega (arith, is)) (λ is. omega (arith, is)) refl
          (λ honest. none-free c.args.self.now old c.requires.is_for honest c.in_default.ensures);
      reads = reads-looked (looked_none old);
    })

pub read-requires : goal.read-requires
read-requires g c =
    let least = c.in-Some.ensures in
    rw c.lbn_of_header-lbn.ensures
    (header-within (index_in c.args.self.now) c.in-Some.number _ c.requires.is_for.lies.index (omega (arith, least.low)) least.high)

pub returns-in-Err-clause-refused : goal.returns-in-Err-clause-refused
returns-in-Err-clause-refused g c =
    fails-unread (omega arith)
    (record { right = right-fault _ _; reads = reads-looked (looked_failed_read _ _ c.in-Err.ensures.reads.counts) })

pub write-requires : goal.write-requires
write-requires g c =
    let least = c.in-Some.ensures in
    rw (c.lbn_of_header-lbn.ensures, ap (λ (d : Disk). length d.image) c.in-Ok.ensures.reads.counts)
    (header-within (index_in c.args.self.now) c.in-Some.number _ c.requires.is_for.lies.index (omega (arith, least.low)) least.high)

pub returns-in-Err-write-clause-refused : goal.returns-in-Err-write-clause-refused
returns-in-Err-write-clause-refused g c =
    fails-first c.args.self.now c.args.owner c.args.protection c.args.ident.now c.args.attr.now c.in-Some.number _ _ _ c.read.new.into
    c.next_sequence.result c.requires.is_for c.in-Some.ensures c.lbn_of_header-lbn.ensures c.in-Ok.ensures.reads.counts
    c.in-Ok.ensures.reads.gives
    c.next_sequence.ensures.next _ _ c.fill_first.ensures _ c.in-Err-write.ensures.writes.err

pub returns-in-Err-write-clause-stays : goal.returns-in-Err-write-clause-stays
returns-in-Err-write-clause-stays g c =
    fails-first-stays c.args.self.now c.args.owner c.args.protection c.args.ident.now c.args.attr.now c.in-Some.number _ _ _ c.read.new.into
    c.next_sequence.result c.requires.is_for c.in-Some.ensures c.lbn_of_header-lbn.ensures c.in-Ok.ensures.reads.counts
    c.in-Ok.ensures.reads.gives
    c.next_sequence.ensures.next _ _ c.fill_first.ensures _ _ refl c.in-Err-write.ensures.writes.err

pub returns-in-Ok-set-clause-entered : goal.returns-in-Ok-set-clause-entered
returns-in-Ok-set-clause-entered g c =
    creates c.args.self.now c.args.owner c.args.protection c.args.ident.now c.args.attr.now c.in-Some.number _ _ _ c.read.new.into
    c.next_sequence.result c.requires.is_for c.in-Some.ensures c.lbn_of_header-lbn.ensures c.in-Ok.ensures.reads.counts
    c.in-Ok.ensures.reads.gives
    c.next_sequence.ensures.next _ _ c.fill_first.ensures _ c.in-Ok-write.ensures.writes.ok _ _ c.in-Ok-set.ensures.done

pub returns-in-Ok-set-clause-stays : goal.returns-in-Ok-set-clause-stays
returns-in-Ok-set-clause-stays g c =
    created-stays c.args.self.now c.args.owner c.args.protection c.args.ident.now c.args.attr.now c.in-Some.number _ _ _ c.read.new.into
    c.next_sequence.result c.requires.is_for c.in-Some.ensures c.lbn_of_header-lbn.ensures c.in-Ok.ensures.reads.counts
    c.in-Ok.ensures.reads.gives
    c.next_sequence.ensures.next _ _ c.fill_first.ensures _ c.in-Ok-write.ensures.writes.ok _ _ refl refl c.in-Ok-set.ensures.done

pub returns-in-Err-set-clause-refused : goal.returns-in-Err-set-clause-refused
returns-in-Err-set-clause-refused g c =
    fails-bit c.args.self.now c.args.owner c.args.protection c.args.ident.now c.args.attr.now c.in-Some.number _ _ _ c.read.new.into
    c.next_sequence.result c.requires.is_for c.in-Some.ensures c.lbn_of_header-lbn.ensures c.in-Ok.ensures.reads.counts
    c.in-Ok.ensures.reads.gives
    c.next_sequence.ensures.next _ _ c.fill_first.ensures _ c.in-Ok-write.ensures.writes.ok _ c.in-Err-set.ensures.failed

pub returns-in-Err-set-clause-stays : goal.returns-in-Err-set-clause-stays
returns-in-Err-set-clause-stays g c =
    fails-bit-stays c.args.self.now c.args.owner c.args.protection c.args.ident.now c.args.attr.now c.in-Some.number _ _ _ c.read.new.into
    c.next_sequence.result c.requires.is_for c.in-Some.ensures c.lbn_of_header-lbn.ensures c.in-Ok.ensures.reads.counts
    c.in-Ok.ensures.reads.gives
    c.next_sequence.ensures.next _ _ c.fill_first.ensures _ c.in-Ok-write.ensures.writes.ok _ _ refl c.in-Err-set.ensures.failed

pub returns-in-Err-write-clause-confined : goal.returns-in-Err-write-clause-confined
returns-in-Err-write-clause-confined g c =
    slot-unwritten c.args.self.now c.in-Some.number _ _ _ _ c.in-Some.ensures c.lbn_of_header-lbn.ensures c.in-Ok.ensures.reads.counts
    c.in-Err-write.ensures.writes.err
    (header-unwritten c.args.self.now c.args.owner c.args.protection c.args.ident.now c.args.attr.now c.in-Some.number _ _ _ c.read.new.into
    c.next_sequence.result c.requires.is_for c.in-Some.ensures c.lbn_of_header-lbn.ensures c.in-Ok.ensures.reads.counts
    c.in-Ok.ensures.reads.gives
    c.next_sequence.ensures.next _ _ c.fill_first.ensures _ c.in-Err-write.ensures.writes.err)

pub returns-in-Ok-set-clause-confined : goal.returns-in-Ok-set-clause-confined
returns-in-Ok-set-clause-confined g c =
    slot-entered c.args.self.now c.in-Some.number _ _ _ _ c.in-Some.ensures c.lbn_of_header-lbn.ensures c.in-Ok.ensures.reads.counts
    c.in-Ok-write.ensures.writes.ok c.in-Ok-set.ensures.done.went
    (header-written c.args.self.now c.args.owner c.args.protection c.args.ident.now c.args.attr.now c.in-Some.number _ _ _ c.read.new.into
    c.next_sequence.result c.requires.is_for c.in-Some.ensures c.lbn_of_header-lbn.ensures c.in-Ok.ensures.reads.counts
    c.in-Ok.ensures.reads.gives
    c.next_sequence.ensures.next _ _ c.fill_first.ensures _ c.in-Ok-write.ensures.writes.ok)
    (bit-entered c.args.self.now c.args.owner c.args.protection c.args.ident.now c.args.attr.now c.in-Some.number _ _ _ c.read.new.into
    c.next_sequence.result c.requires.is_for c.in-Some.ensures c.lbn_of_header-lbn.ensures c.in-Ok.ensures.reads.counts
    c.in-Ok.ensures.reads.gives
    c.next_sequence.ensures.next _ _ c.fill_first.ensures _ c.in-Ok-write.ensures.writes.ok _ c.in-Ok-set.ensures.done.went)

pub returns-in-Err-set-clause-confined : goal.returns-in-Err-set-clause-confined
returns-in-Err-set-clause-confined g c =
    slot-entered c.args.self.now c.in-Some.number _ _ _ _ c.in-Some.ensures c.lbn_of_header-lbn.ensures c.in-Ok.ensures.reads.counts
    c.in-Ok-write.ensures.writes.ok c.in-Err-set.ensures.failed
    (header-written c.args.self.now c.args.owner c.args.protection c.args.ident.now c.args.attr.now c.in-Some.number _ _ _ c.read.new.into
    c.next_sequence.result c.requires.is_for c.in-Some.ensures c.lbn_of_header-lbn.ensures c.in-Ok.ensures.reads.counts
    c.in-Ok.ensures.reads.gives
    c.next_sequence.ensures.next _ _ c.fill_first.ensures _ c.in-Ok-write.ensures.writes.ok)
    (bit-entered c.args.self.now c.args.owner c.args.protection c.args.ident.now c.args.attr.now c.in-Some.number _ _ _ c.read.new.into
    c.next_sequence.result c.requires.is_for c.in-Some.ensures c.lbn_of_header-lbn.ensures c.in-Ok.ensures.reads.counts
    c.in-Ok.ensures.reads.gives
    c.next_sequence.ensures.next _ _ c.fill_first.ensures _ c.in-Ok-write.ensures.writes.ok _ c.in-Err-set.ensures.failed)
