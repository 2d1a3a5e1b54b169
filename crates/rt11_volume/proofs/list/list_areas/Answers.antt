use Rattle.std.proofs.Common.{◌≡◌, ◌∙◌, ◌+◌, length, ap, sym, subst, arith}
use Rattle.f11_dev.specs.Image.{Image}
use Rattle.f11_dev.proofs.LookedLemmas.{looked_none, looked_more, looked_within}
use Rattle.rt11_volume.specs.InHand.{ReadsSegment}
use Rattle.rt11_volume.specs.Searching.Looking.{Visits, IsOnDevice}
use Rattle.rt11_volume.specs.Verifying.Verdict.{IsSoundDisk}
use Rattle.rt11_volume.specs.Segment.{segment_words}
use Rattle.rt11_volume.proofs.Verifying.Sound.{sound_from}
use Rattle.rt11_volume.proofs.Walking.Walk.{IsNext, IsNext-first, visited-few}
use Rattle.rt11_volume.proofs.Searching.Looking.{on_read, next_read, ends_unread}
use Rattle.rt11_volume.proofs.ListLemmas.{listed-more, listed-all}
use Rattle.rt11_volume.proofs.list.list_areas.Goals as goal

pub loop-init : goal.loop-init
loop-init g c = record { next = λ sound. IsNext-first _; listed = λ sound. c.new-areas.ensures.items; looked = looked_none _ }

pub returns-in_default-clause-listed : goal.returns-in_default-clause-listed
returns-in_default-clause-listed g c = λ sound.
    let old = g.D.Device.disk c.args.device.now in
    let now = g.D.Device.disk c.loop.device in
    let new = g.D.Device.disk c.visit.new.device in
    let none : (IsOnDevice c.loop.number (length now.image) → ⊥) × (new ≡ now) = subst (λ o. Visits c.loop.number o now new) c.in_default.is
    c.in_ok-segment.ensures.visits in
    let image_is = c.loop.invariant.looked.image in
    listed-all old.image c.loop.counter c.loop.areas.items (sound_from old.image sound.accepted)
    (ends_unread old.image c.loop.counter c.loop.number (sound_from old.image sound.accepted) (omega (arith, c.loop-test.true))
    (c.loop.invariant.next sound)
    (λ on. none.0 (subst (λ (image : Image). IsOnDevice c.loop.number (length image)) (sym image_is) on)))
    (c.loop.invariant.listed sound)

pub loop-preserved : goal.loop-preserved
loop-preserved g c =
    let old = g.D.Device.disk c.args.device.now in
    let now = g.D.Device.disk c.loop.device in
    let new = g.D.Device.disk c.visit.new.device in
    let read : IsOnDevice c.loop.number (length now.image) × ReadsSegment c.loop.number c.in-Some.segment now new =
    subst (λ o. Visits c.loop.number o now new) c.in-Some.is c.in_ok-segment.ensures.visits in
    let so_far = c.loop.invariant.looked in
    let words = λ (sound : IsSoundDisk old). read.1.words_are (so_far.honest ∙ sound.honest)
    ∙ ap (λ (image : Image). segment_words image c.loop.number) so_far.image in
    record {
      next = λ sound.
          subst (IsNext old.image (c.loop.counter + 1)) (sym c.next-number.ensures)
          (next_read old.image c.loop.counter c.loop.number c.in-Some.segment (sound_from old.image sound.accepted)
          (omega (arith, c.loop-test.true)) (c.loop.invariant.next sound) read.0.some (words sound));
      listed = λ sound.
          c.in_ok-add_areas.ensures
          ∙ listed-more old.image c.loop.counter c.loop.number c.in-Some.segment c.loop.areas.items
          (on_read old.image c.loop.counter c.loop.number (sound_from old.image sound.accepted) (omega (arith, c.loop-test.true))
          (c.loop.invariant.next sound) read.0.some)
          (words sound) (c.loop.invariant.listed sound);
      looked = looked_within (looked_more so_far read.1.looked) (omega arith);
    }

pub returns-clause-listed : goal.returns-clause-listed
returns-clause-listed g c = λ sound.
    let old = g.D.Device.disk c.args.device.now in
    listed-all old.image c.loop.counter c.loop.areas.items (sound_from old.image sound.accepted) (omega (arith, visited-few old.image))
    (c.loop.invariant.listed sound)
