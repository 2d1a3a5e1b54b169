use Rattle.std.proofs.Common.{[], arith}
use Rattle.f11_files.proofs.Extending.AddHeader.{names-these, may-come, within-then, fails-link, failed-link-stays, appends-linked}
use Rattle.f11_files.proofs.Extending.AddHeader.{linked-stays}
use Rattle.f11_files.proofs.AnswerLemmas.{handed}
use Rattle.f11_files.proofs.Extending.HeaderBlock.{segment-said}
use Rattle.f11_files.proofs.Removing.Freeing.{stays-for}
use Rattle.f11_files.proofs.Extending.NewHeader.{too-many, some-free, fails-enter}
use Rattle.f11_files.proofs.Confining.Parts.{to-parts}
use Rattle.f11_files.proofs.Extending.Parts.{all-taken-behind, grows-linked, grows-taken-behind, of-new}
use Rattle.f11_image_store.specs.Confines.{new_header}
use Rattle.f11_files.specs.Structure.{index_in}
use Rattle.f11_files.proofs.structure.Structure.add_header.Goals as goal

pub returns-then-segment-eq-LAST_SEGMENT-clause-refused : goal.returns-then-segment-eq-LAST_SEGMENT-clause-refused
returns-then-segment-eq-LAST_SEGMENT-clause-refused g c =
    let is = segment-said c.args.tail.now.block _ c.segment.result c.map.ensures c.segment.ensures in
    too-many c.args.self.now c.args.tail.now c.args.lbn c.args.count (g.D.Device.disk c.args.device.now) c.requires.is_for c.requires.last
    c.requires.given c.requires.full c.requires.may
    (omega (arith, is, c.if-segment-eq-LAST_SEGMENT.true))

pub enter_header-requires-clause-early : goal.enter_header-requires-clause-early
enter_header-requires-clause-early g c =
    let is = segment-said c.args.tail.now.block _ c.segment.result c.map.ensures c.segment.ensures in
    omega (arith, is, c.if-segment-eq-LAST_SEGMENT.false, c.requires.last.few)

pub enter_header-requires-clause-free : goal.enter_header-requires-clause-free
enter_header-requires-clause-free g c =
    some-free c.args.self.now c.args.tail.now c.args.lbn c.args.count (g.D.Device.disk c.args.device.now) c.requires.is_for c.requires.last
    c.requires.given c.requires.full c.requires.may

pub returns-in_err-id-clause-refused : goal.returns-in_err-id-clause-refused
returns-in_err-id-clause-refused g c =
    handed _ c.from_residual.result _ c.from_residual.ensures.1
    (fails-enter c.args.self.now c.args.tail.now c.args.lbn c.args.count (g.D.Device.disk c.args.device.now) c.requires.is_for
    c.requires.last c.requires.given c.requires.full c.requires.may
    _ _ c.in_err-id.ensures.refused)

pub link_tail-requires-clause-is_for : goal.link_tail-requires-clause-is_for
link_tail-requires-clause-is_for g c = stays-for c.in_ok-id.ensures.stays

pub link_tail-requires-clause-early : goal.link_tail-requires-clause-early
link_tail-requires-clause-early g c =
    let is = segment-said c.args.tail.now.block _ c.segment.result c.map.ensures c.segment.ensures in
    omega (arith, is, c.if-segment-eq-LAST_SEGMENT.false, c.requires.last.few)

pub link_tail-requires-clause-named : goal.link_tail-requires-clause-named
link_tail-requires-clause-named g c =
    names-these c.args.self.now c.args.tail.now c.args.lbn c.args.count (g.D.Device.disk c.args.device.now) c.requires.is_for
    c.requires.last c.requires.given c.requires.full c.requires.fits c.requires.reserved c.requires.may
    _ c.in_ok-id.id c.enter_header.new.block _ c.in_ok-id.ensures.entered c.in_ok-id.ensures.stays

pub link_tail-requires-clause-within : goal.link_tail-requires-clause-within
link_tail-requires-clause-within g c =
    within-then c.args.self.now c.args.tail.now c.args.lbn c.args.count (g.D.Device.disk c.args.device.now) c.requires.is_for
    c.requires.last c.requires.given c.requires.full c.requires.fits c.requires.reserved c.requires.may
    _ c.in_ok-id.id c.enter_header.new.block _ c.in_ok-id.ensures.entered c.in_ok-id.ensures.stays c.requires.within

pub link_tail-requires-clause-come : goal.link_tail-requires-clause-come
link_tail-requires-clause-come g c =
    may-come c.args.self.now c.args.tail.now c.args.lbn c.args.count (g.D.Device.disk c.args.device.now) c.requires.is_for c.requires.last
    c.requires.given c.requires.full c.requires.fits c.requires.reserved c.requires.may
    _ c.in_ok-id.id c.enter_header.new.block _ c.in_ok-id.ensures.entered c.in_ok-id.ensures.stays

pub returns-in-Err-clause-refused : goal.returns-in-Err-clause-refused
returns-in-Err-clause-refused g c =
    fails-link c.args.self.now c.args.tail.now c.args.lbn c.args.count (g.D.Device.disk c.args.device.now) c.requires.is_for c.requires.last
    c.requires.given c.requires.full c.requires.fits c.requires.reserved c.requires.may
    _ c.in_ok-id.id c.enter_header.new.block _ c.in_ok-id.ensures.entered c.in_ok-id.ensures.stays _ c.in-Err.ensures.failed

pub returns-in-Err-clause-stays : goal.returns-in-Err-clause-stays
returns-in-Err-clause-stays g c =
    failed-link-stays c.args.self.now c.args.tail.now c.args.lbn c.args.count (g.D.Device.disk c.args.device.now) c.requires.is_for
    c.requires.last c.requires.given c.requires.full c.requires.fits c.requires.reserved c.requires.may
    _ c.in_ok-id.id c.enter_header.new.block _ c.in_ok-id.ensures.entered c.in_ok-id.ensures.stays _ _ c.link_tail.ensures.home
    c.in-Err.ensures.failed

pub returns-clause-appended : goal.returns-clause-appended
returns-clause-appended g c =
    let is = segment-said c.args.tail.now.block _ c.segment.result c.map.ensures c.segment.ensures in
    appends-linked c.args.self.now c.args.tail.now c.args.lbn c.args.count (g.D.Device.disk c.args.device.now) c.requires.is_for
    c.requires.last c.requires.given c.requires.full c.requires.fits c.requires.reserved c.requires.may
    _ c.in_ok-id.id c.enter_header.new.block _ c.in_ok-id.ensures.entered c.in_ok-id.ensures.stays _ _ c.in-Ok.ensures.links
    c.in-Ok.ensures.stays
    (omega (arith, is, c.if-segment-eq-LAST_SEGMENT.false, c.requires.last.few)) _ _ _ c.link_tail.ensures.file

pub returns-clause-stays : goal.returns-clause-stays
returns-clause-stays g c =
    linked-stays c.args.self.now c.args.tail.now c.args.lbn c.args.count (g.D.Device.disk c.args.device.now) c.requires.is_for
    c.requires.last c.requires.given c.requires.full c.requires.fits c.requires.reserved c.requires.may
    _ c.in_ok-id.id c.enter_header.new.block _ c.in_ok-id.ensures.entered c.in_ok-id.ensures.stays _ _ c.in-Ok.ensures.links
    c.in-Ok.ensures.stays

pub returns-in-Err-clause-confined : goal.returns-in-Err-clause-confined
returns-in-Err-clause-confined g c =
    grows-linked c.args.self.now c.enter_header.new.self c.args.tail.now c.in_ok-id.id.number [] c.in_ok-id.ensures.places
    c.in_ok-id.ensures.confined c.link_tail.ensures.confined

pub returns-clause-confined : goal.returns-clause-confined
returns-clause-confined g c =
    grows-linked c.args.self.now c.enter_header.new.self c.args.tail.now c.in_ok-id.id.number [] c.in_ok-id.ensures.places
    c.in_ok-id.ensures.confined c.link_tail.ensures.confined

pub returns-in_err-id-clause-confined : goal.returns-in_err-id-clause-confined
returns-in_err-id-clause-confined g c =
    to-parts c.args.self.now _ (new_header (index_in c.args.self.now)) [] (of-new c.args.self.now c.args.tail.now)
    c.enter_header.ensures.confined

pub returns-clause-places : goal.returns-clause-places
returns-clause-places g c = record {
  grown = grows-taken-behind c.args.self.now c.enter_header.new.self c.link_tail.new.self c.args.tail.now c.in_ok-id.id.number c.args.lbn
      c.args.count c.in_ok-id.ensures.places c.in-Ok.ensures.places;
  all = all-taken-behind c.args.self.now c.enter_header.new.self c.link_tail.new.self c.in_ok-id.id.number c.args.lbn c.args.count
      c.in_ok-id.ensures.places c.in-Ok.ensures.places;
}
