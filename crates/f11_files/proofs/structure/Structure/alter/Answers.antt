use Rattle.std.proofs.Common.{length, ap, arith}
use Rattle.f11_dev.specs.Disk.{Disk}
use Rattle.f11_dev.specs.Image.{Image}
use Rattle.f11_index.proofs.InUseLemmas.{in_use-slot}
use Rattle.f11_files.specs.Changing.Fields.{altered_by}
use Rattle.f11_files.specs.Structure.{index_in}
use Rattle.f11_files.proofs.Bounded.{one-failed}
use Rattle.f11_files.proofs.Changing.Alter.{alters, altered-order, altered-stays, fails-alter, fails-altered, unaltered-order}
use Rattle.f11_files.proofs.Finding.First.{place-within}
use Rattle.f11_files.proofs.Confining.Parts.{first-failed, first-wrote}
use Rattle.f11_files.proofs.LayingOut.Mark.{altered-gains}
use Rattle.f11_files.proofs.structure.Structure.alter.Goals as goal

pub lbn_of_header-requires-clause-slot : goal.lbn_of_header-requires-clause-slot
lbn_of_header-requires-clause-slot g c =
    in_use-slot (index_in c.args.self.now) c.args.f.number c.in_ok-get_first.ensures.found.holds.header.in_use

pub write-requires : goal.write-requires
write-requires g c =
    let found = c.in_ok-get_first.ensures.found in
    place-within c.args.self.now c.args.f.number _ _ _ c.requires.is_for found.holds.header.in_use
    (ap (λ (i : Image). length i) found.looked.image) c.lbn_of_header.ensures

pub returns-in-Ok-clause-altered : goal.returns-in-Ok-clause-altered
returns-in-Ok-clause-altered g c =
    alters c.args.self.now c.args.f (altered_by c.args.alteration) _ _ _ _ _ c.requires.is_for c.requires.own
    c.in_ok-get_first.ensures.found c.apply.ensures c.lbn_of_header.ensures _ c.in-Ok.ensures.writes.ok

pub returns-in-Ok-clause-gains : goal.returns-in-Ok-clause-gains
returns-in-Ok-clause-gains g c = λ is.
    altered-gains c.args.self.now c.args.f _ _ _ _ _ c.requires.is_for c.requires.own c.in_ok-get_first.ensures.found
    (rw is at c.apply.ensures) c.lbn_of_header.ensures _ c.in-Ok.ensures.writes.ok

pub returns-in-Ok-clause-stays : goal.returns-in-Ok-clause-stays
returns-in-Ok-clause-stays g c =
    altered-stays c.args.self.now c.args.f (altered_by c.args.alteration) _ _ _ _ _ c.requires.is_for c.requires.own
    c.in_ok-get_first.ensures.found c.apply.ensures c.lbn_of_header.ensures _ c.in-Ok.ensures.writes.ok

pub returns-in-Err-clause-refused : goal.returns-in-Err-clause-refused
returns-in-Err-clause-refused g c =
    fails-alter c.args.self.now c.args.f (altered_by c.args.alteration) _ _ _ _ _ c.requires.is_for c.requires.own
    c.in_ok-get_first.ensures.found c.apply.ensures c.lbn_of_header.ensures _ c.in-Err.ensures.writes.err

pub returns-in-Err-clause-stays : goal.returns-in-Err-clause-stays
returns-in-Err-clause-stays g c =
    fails-altered c.args.self.now c.args.f (altered_by c.args.alteration) _ _ _ _ _ c.requires.is_for c.requires.own
    c.in_ok-get_first.ensures.found c.apply.ensures c.lbn_of_header.ensures _ c.in-Err.ensures.writes.err

pub returns-in-Ok-clause-confined : goal.returns-in-Ok-clause-confined
returns-in-Ok-clause-confined g c =
    first-wrote c.args.self.now c.args.f _ _ _ _ _ _ c.in_ok-get_first.ensures.found c.lbn_of_header.ensures c.in-Ok.ensures.writes.ok
    (altered-order c.args.self.now c.args.f (altered_by c.args.alteration) _ _ _ _ _ c.requires.is_for c.requires.own
    c.in_ok-get_first.ensures.found c.apply.ensures c.lbn_of_header.ensures _ c.in-Ok.ensures.writes.ok)

pub returns-in-Err-clause-confined : goal.returns-in-Err-clause-confined
returns-in-Err-clause-confined g c =
    first-failed c.args.self.now c.args.f _ _ _ _ _ _ c.in_ok-get_first.ensures.found c.lbn_of_header.ensures c.in-Err.ensures.writes.err
    (unaltered-order c.args.self.now c.args.f (altered_by c.args.alteration) _ _ _ _ _ c.requires.is_for c.requires.own
    c.in_ok-get_first.ensures.found c.apply.ensures c.lbn_of_header.ensures _ c.in-Err.ensures.writes.err)

pub returns-in-Ok-clause-bounded : goal.returns-in-Ok-clause-bounded
returns-in-Ok-clause-bounded g c =
    let first = c.get_first.ensures.bounded in
    let then = ap (λ (d : Disk). d.transfers) c.in-Ok.ensures.writes.ok in
    omega (arith, first, then)

pub returns-in-Err-clause-bounded : goal.returns-in-Err-clause-bounded
returns-in-Err-clause-bounded g c =
    let first = c.get_first.ensures.bounded in
    let then = one-failed _ _ (g.D.Device.disk c.get_first.new.device) _ c.in-Err.ensures.writes.err in
    omega (arith, first, then)
