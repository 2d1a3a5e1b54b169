use Rattle.std.proofs.Common.{length, refl, ap}
use Rattle.f11_dev.specs.Image.{Image}
use Rattle.f11_index.proofs.InUseLemmas.{in_use-some, in_use-slot}
use Rattle.f11_files.specs.Structure.{index_in}
use Rattle.f11_files.proofs.AnswerLemmas.{handed, not-clean}
use Rattle.f11_files.proofs.Removing.Cut.{fails-written, written-for, unreferenced-now, fails-giving, behind-hangs, fails-behind, cuts-file}
use Rattle.f11_files.proofs.Removing.Freeing.{stays-for, stays-then, handed-stays}
use Rattle.f11_files.proofs.WriteLemmas.{failed-stays}
use Rattle.f11_files.proofs.Finding.First.{place-within}
use Rattle.f11_files.proofs.Removing.Parts.{cut-dropped, cut-failed, cut-given}
use Rattle.f11_files.proofs.structure.Structure.truncate.Goals as goal

pub lbn_of_header-requires-clause-some : goal.lbn_of_header-requires-clause-some
lbn_of_header-requires-clause-some g c = in_use-some (index_in c.args.self.now) c.in_ok-n.n c.in_ok-n.ensures.found.header.in_use

pub lbn_of_header-requires-clause-slot : goal.lbn_of_header-requires-clause-slot
lbn_of_header-requires-clause-slot g c = in_use-slot (index_in c.args.self.now) c.in_ok-n.n c.in_ok-n.ensures.found.header.in_use

pub write-requires : goal.write-requires
write-requires g c =
    let found = c.in_ok-n.ensures.found in
    place-within c.args.self.now c.in_ok-n.n _ _ _ c.requires.is_for found.header.in_use (ap (λ (i : Image). length i) found.looked.image)
    c.lbn_of_header.ensures

pub returns-in-Err-clause-refused : goal.returns-in-Err-clause-refused
returns-in-Err-clause-refused g c =
    fails-written c.args.self.now c.args.f c.args.to _ _ _ _ _ _ _ c.requires.is_for c.requires.own c.in_ok-n.ensures.found
    c.cut_off.ensures c.lbn_of_header.ensures
    (g.met.D.Device.is_image c.args.device.now) _ c.in-Err.ensures.writes.err

pub returns-in-Err-clause-stays : goal.returns-in-Err-clause-stays
returns-in-Err-clause-stays g c =
    failed-stays c.args.self.now c.args.self.now _ _ _ c.requires.is_for refl
    (fails-written c.args.self.now c.args.f c.args.to _ _ _ _ _ _ _ c.requires.is_for c.requires.own c.in_ok-n.ensures.found
    c.cut_off.ensures c.lbn_of_header.ensures
    (g.met.D.Device.is_image c.args.device.now) _ c.in-Err.ensures.writes.err).writes.went

pub give_from-requires-clause-is_for : goal.give_from-requires-clause-is_for
give_from-requires-clause-is_for g c =
    written-for c.args.self.now c.args.f c.args.to _ _ _ _ _ _ _ c.requires.is_for c.requires.own c.in_ok-n.ensures.found c.cut_off.ensures
    c.lbn_of_header.ensures
    (g.met.D.Device.is_image c.args.device.now) _ c.in-Ok.ensures.writes.ok

pub give_from-requires-clause-unreferenced : goal.give_from-requires-clause-unreferenced
give_from-requires-clause-unreferenced g c =
    unreferenced-now c.args.self.now c.args.f c.args.to _ _ _ _ _ _ _ c.requires.is_for c.requires.own c.in_ok-n.ensures.found
    c.cut_off.ensures c.lbn_of_header.ensures
    (g.met.D.Device.is_image c.args.device.now) _ c.in-Ok.ensures.writes.ok

pub returns-in_err-give_from-clause-refused : goal.returns-in_err-give_from-clause-refused
returns-in_err-give_from-clause-refused g c =
    handed _ c.from_residual-in_err-give_from.result _ c.from_residual-in_err-give_from.ensures.1
    (fails-giving c.args.self.now c.args.f c.args.to _ _ _ _ _ _ _ c.requires.is_for c.requires.own c.in_ok-n.ensures.found
    c.cut_off.ensures c.lbn_of_header.ensures
    (g.met.D.Device.is_image c.args.device.now) _ c.in-Ok.ensures.writes.ok _ (g.D.Device.disk c.give_from.new.device)
    c.in_err-give_from.ensures.refused)

pub drop_behind-requires-clause-is_for : goal.drop_behind-requires-clause-is_for
drop_behind-requires-clause-is_for g c = stays-for (rw c.in_ok-give_from.was at c.give_from.ensures.stays)

pub drop_behind-requires-clause-hangs : goal.drop_behind-requires-clause-hangs
drop_behind-requires-clause-hangs g c =
    behind-hangs c.args.self.now c.args.f c.args.to _ _ _ _ _ _ _ c.requires.is_for c.requires.own c.in_ok-n.ensures.found c.cut_off.ensures
    c.lbn_of_header.ensures
    (g.met.D.Device.is_image c.args.device.now) _ c.in-Ok.ensures.writes.ok c.give_from.new.self _ c.in_ok-give_from.ensures.given
    c.in_ok-give_from.ensures.stays.home
    (g.met.D.Device.is_image c.give_from.new.device)

pub returns-in_err-drop_behind-clause-refused : goal.returns-in_err-drop_behind-clause-refused
returns-in_err-drop_behind-clause-refused g c =
    handed _ c.from_residual-in_err-drop_behind.result _ c.from_residual-in_err-drop_behind.ensures.1
    (fails-behind c.args.self.now c.args.f c.args.to _ _ _ _ _ _ _ c.requires.is_for c.requires.own c.in_ok-n.ensures.found
    c.cut_off.ensures c.lbn_of_header.ensures
    (g.met.D.Device.is_image c.args.device.now) _ c.in-Ok.ensures.writes.ok c.give_from.new.self _ c.in_ok-give_from.ensures.given
    c.in_ok-give_from.ensures.stays.home
    (g.met.D.Device.is_image c.give_from.new.device) _ (g.D.Device.disk c.drop_behind.new.device) c.in_err-drop_behind.ensures.refused)

pub returns-clause-cut : goal.returns-clause-cut
returns-clause-cut g c = (
  refl,
  cuts-file c.args.self.now c.args.f c.args.to _ _ _ _ _ _ _ c.requires.is_for c.requires.own c.in_ok-n.ensures.found c.cut_off.ensures
      c.lbn_of_header.ensures
      (g.met.D.Device.is_image c.args.device.now) _ c.in-Ok.ensures.writes.ok c.give_from.new.self _ c.in_ok-give_from.ensures.given
      c.in_ok-give_from.ensures.stays.home
      (g.met.D.Device.is_image c.give_from.new.device) (g.D.Device.disk c.drop_behind.new.device) c.in_ok-drop_behind.ensures.dropped,
)

pub returns-clause-stays : goal.returns-clause-stays
returns-clause-stays g c = stays-then c.in_ok-give_from.ensures.stays.home (rw c.in_ok-drop_behind.was at c.drop_behind.ensures.stays)

pub returns-in-Err-clause-confined : goal.returns-in-Err-clause-confined
returns-in-Err-clause-confined g c = λ honest.
    cut-failed c.args.self.now c.args.f c.args.to _ _ _ _ _ _ _ c.requires.is_for c.requires.own c.in_ok-n.ensures.found c.cut_off.ensures
    c.lbn_of_header.ensures
    (g.met.D.Device.is_image c.args.device.now) honest _ c.in-Err.ensures.writes.err

pub returns-in_err-give_from-clause-confined : goal.returns-in_err-give_from-clause-confined
returns-in_err-give_from-clause-confined g c = λ honest.
    cut-given c.args.self.now c.args.f c.args.to _ _ _ _ _ _ _ c.requires.is_for c.requires.own c.in_ok-n.ensures.found c.cut_off.ensures
    c.lbn_of_header.ensures
    (g.met.D.Device.is_image c.args.device.now) honest _ c.in-Ok.ensures.writes.ok c.give_from.ensures.confined

pub returns-in_err-drop_behind-clause-confined : goal.returns-in_err-drop_behind-clause-confined
returns-in_err-drop_behind-clause-confined g c = λ honest.
    cut-dropped c.args.self.now c.args.f c.args.to _ _ _ _ _ _ _ c.requires.is_for c.requires.own c.in_ok-n.ensures.found c.cut_off.ensures
    c.lbn_of_header.ensures
    (g.met.D.Device.is_image c.args.device.now) honest _ c.in-Ok.ensures.writes.ok c.give_from.new.self _ _ c.in_ok-give_from.ensures.given
    c.in_ok-give_from.ensures.stays.home
    (g.met.D.Device.is_image c.give_from.new.device) c.in_ok-give_from.ensures.places c.give_from.ensures.confined
    c.drop_behind.ensures.confined

pub returns-clause-confined : goal.returns-clause-confined
returns-clause-confined g c = λ honest.
    cut-dropped c.args.self.now c.args.f c.args.to _ _ _ _ _ _ _ c.requires.is_for c.requires.own c.in_ok-n.ensures.found c.cut_off.ensures
    c.lbn_of_header.ensures
    (g.met.D.Device.is_image c.args.device.now) honest _ c.in-Ok.ensures.writes.ok c.give_from.new.self _ _ c.in_ok-give_from.ensures.given
    c.in_ok-give_from.ensures.stays.home
    (g.met.D.Device.is_image c.give_from.new.device) c.in_ok-give_from.ensures.places c.give_from.ensures.confined
    c.drop_behind.ensures.confined

pub returns-in_err-drop_behind-clause-counts : goal.returns-in_err-drop_behind-clause-counts
returns-in_err-drop_behind-clause-counts g c =
    not-clean c.from_residual-in_err-drop_behind.result _ c.from_residual-in_err-drop_behind.ensures.1
    c.in_err-drop_behind.ensures.refused.fatal

pub returns-in_err-drop_behind-clause-stays : goal.returns-in_err-drop_behind-clause-stays
returns-in_err-drop_behind-clause-stays g c =
    let fatal = c.in_err-drop_behind.ensures.refused.fatal in
    handed-stays c.from_residual-in_err-drop_behind.result _ _ _ _ c.from_residual-in_err-drop_behind.ensures.1 fatal
    (stays-then c.in_ok-give_from.ensures.stays.home (rw fatal at c.in_err-drop_behind.ensures.stays))
