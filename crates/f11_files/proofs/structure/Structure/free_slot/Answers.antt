use Rattle.std.proofs.Common.{false, refl}
use Rattle.f11_index.proofs.InUseLemmas.{in_use-some, in_use-slot}
use Rattle.f11_files.specs.Structure.{index_in}
use Rattle.f11_files.proofs.Removing.FreeSlot.{cleared-order, fails-bit, fails-killed, freed-stays, frees_slot, killed-order}
use Rattle.f11_files.proofs.Removing.FreeSlot.{unkilled-order}
use Rattle.f11_files.proofs.Removing.Freeing.{broken-stays}
use Rattle.f11_files.proofs.Finding.First.{place-within}
use Rattle.f11_files.proofs.Confining.Parts.{bit-alike, only-failed}
use Rattle.f11_files.proofs.Confining.SlotParts.{slot-freed}
use Rattle.f11_files.proofs.structure.Structure.free_slot.Goals as goal

pub lbn_of_header-requires-clause-some : goal.lbn_of_header-requires-clause-some
lbn_of_header-requires-clause-some g c = in_use-some (index_in c.args.self.now) c.args.n c.requires.holds.in_use

pub lbn_of_header-requires-clause-slot : goal.lbn_of_header-requires-clause-slot
lbn_of_header-requires-clause-slot g c = in_use-slot (index_in c.args.self.now) c.args.n c.requires.holds.in_use

pub write-requires : goal.write-requires
write-requires g c = place-within c.args.self.now c.args.n _ _ _ c.requires.is_for c.requires.holds.in_use refl c.lbn_of_header.ensures

pub returns-in-Err-clause-refused : goal.returns-in-Err-clause-refused
returns-in-Err-clause-refused g c =
    fails-killed c.args.self.now c.args.n _ c.args.block.now _ _ c.requires.is_for c.requires.holds c.requires.may c.kill.ensures.block
    c.kill.ensures.dead c.lbn_of_header.ensures _ c.in-Err.ensures.writes.err

pub returns-in-Err-clause-stays : goal.returns-in-Err-clause-stays
returns-in-Err-clause-stays g c =
    broken-stays c.args.self.now _ _ _ _ refl c.requires.is_for
    (fails-killed c.args.self.now c.args.n _ c.args.block.now _ _ c.requires.is_for c.requires.holds c.requires.may c.kill.ensures.block
    c.kill.ensures.dead c.lbn_of_header.ensures _ c.in-Err.ensures.writes.err)

pub clear-requires-clause-slot : goal.clear-requires-clause-slot
clear-requires-clause-slot g c = (
  in_use-some (index_in c.args.self.now) c.args.n c.requires.holds.in_use,
  in_use-slot (index_in c.args.self.now) c.args.n
      c.requires.holds.in_use,
)

pub returns-in-Ok-clear-clause-freed : goal.returns-in-Ok-clear-clause-freed
returns-in-Ok-clear-clause-freed g c =
    frees_slot c.args.self.now c.args.n _ c.args.block.now _ _ c.requires.is_for c.requires.holds c.requires.may c.kill.ensures.block
    c.kill.ensures.dead c.lbn_of_header.ensures _ c.in-Ok.ensures.writes.ok _
    c.clear.new.self c.in-Ok-clear.ensures.done

pub returns-in-Ok-clear-clause-stays : goal.returns-in-Ok-clear-clause-stays
returns-in-Ok-clear-clause-stays g c =
    freed-stays c.args.self.now c.args.n _ c.args.block.now _ _ c.requires.is_for c.requires.holds c.requires.may c.kill.ensures.block
    c.kill.ensures.dead c.lbn_of_header.ensures _ c.in-Ok.ensures.writes.ok _
    c.clear.new.self c.in-Ok-clear.ensures.done

pub returns-in-Err-clear-clause-refused : goal.returns-in-Err-clear-clause-refused
returns-in-Err-clear-clause-refused g c =
    fails-bit c.args.self.now c.args.n _ c.args.block.now _ _ c.requires.is_for c.requires.holds c.requires.may c.kill.ensures.block
    c.kill.ensures.dead c.lbn_of_header.ensures _ c.in-Ok.ensures.writes.ok _
    c.in-Err-clear.ensures.failed

pub returns-in-Err-clear-clause-stays : goal.returns-in-Err-clear-clause-stays
returns-in-Err-clear-clause-stays g c =
    broken-stays c.args.self.now _ _ _ _ refl c.requires.is_for
    (fails-bit c.args.self.now c.args.n _ c.args.block.now _ _ c.requires.is_for c.requires.holds c.requires.may c.kill.ensures.block
    c.kill.ensures.dead c.lbn_of_header.ensures _ c.in-Ok.ensures.writes.ok _
    c.in-Err-clear.ensures.failed)

pub returns-in-Err-clause-confined : goal.returns-in-Err-clause-confined
returns-in-Err-clause-confined g c =
    only-failed c.args.self.now c.args.n _ _ _ _ c.requires.holds.in_use c.lbn_of_header.ensures c.in-Err.ensures.writes.err
    (unkilled-order c.args.self.now c.args.n _ c.args.block.now _ _ c.requires.is_for c.requires.holds c.requires.may c.kill.ensures.block
    c.kill.ensures.dead c.lbn_of_header.ensures _ c.in-Err.ensures.writes.err)

pub returns-in-Ok-clear-clause-confined : goal.returns-in-Ok-clear-clause-confined
returns-in-Ok-clear-clause-confined g c =
    slot-freed c.args.self.now c.args.n _ _ _ _ c.requires.holds.in_use c.lbn_of_header.ensures c.in-Ok.ensures.writes.ok
    c.in-Ok-clear.ensures.done.went
    (killed-order c.args.self.now c.args.n _ c.args.block.now _ _ c.requires.is_for c.requires.holds c.requires.may c.kill.ensures.block
    c.kill.ensures.dead c.lbn_of_header.ensures _ c.in-Ok.ensures.writes.ok)
    (cleared-order c.args.self.now c.args.n _ c.args.block.now _ _ c.requires.is_for c.requires.holds c.requires.may c.kill.ensures.block
    c.kill.ensures.dead c.lbn_of_header.ensures _ c.in-Ok.ensures.writes.ok _ c.in-Ok-clear.ensures.done.went)

pub returns-in-Ok-clear-clause-places : goal.returns-in-Ok-clear-clause-places
returns-in-Ok-clear-clause-places g c =
    bit-alike c.args.self.now (record c.args.self.now { index = c.clear.new.self }) false c.args.n c.in-Ok-clear.ensures.done.bit refl

pub returns-in-Err-clear-clause-confined : goal.returns-in-Err-clear-clause-confined
returns-in-Err-clear-clause-confined g c =
    slot-freed c.args.self.now c.args.n _ _ _ _ c.requires.holds.in_use c.lbn_of_header.ensures c.in-Ok.ensures.writes.ok
    c.in-Err-clear.ensures.failed
    (killed-order c.args.self.now c.args.n _ c.args.block.now _ _ c.requires.is_for c.requires.holds c.requires.may c.kill.ensures.block
    c.kill.ensures.dead c.lbn_of_header.ensures _ c.in-Ok.ensures.writes.ok)
    (cleared-order c.args.self.now c.args.n _ c.args.block.now _ _ c.requires.is_for c.requires.holds c.requires.may c.kill.ensures.block
    c.kill.ensures.dead c.lbn_of_header.ensures _ c.in-Ok.ensures.writes.ok _ c.in-Err-clear.ensures.failed)
