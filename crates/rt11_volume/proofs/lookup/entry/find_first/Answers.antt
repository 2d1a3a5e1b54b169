use Rattle.std.proofs.Common.{◌≡◌, ◌∙◌, ◌+◌, ℕ, Some, None, List, length, ap, sym, subst, arith}
use Rattle.f11_dev.specs.Disk.{Disk}
use Rattle.f11_dev.specs.Image.{Image}
use Rattle.f11_dev.specs.Looked.{Looked}
use Rattle.f11_dev.proofs.LookedLemmas.{looked_none, looked_more, looked_within}
use Rattle.rt11_volume.specs.InHand.{ReadsSegment}
use Rattle.rt11_volume.specs.Searching.Looking.{is_wanted, Visits, IsPlaceIn, IsOnDevice}
use Rattle.rt11_volume.specs.Verifying.Verdict.{IsSoundDisk}
use Rattle.rt11_volume.specs.Segment.{segment_words, entries, extra_bytes}
use Rattle.rt11_volume.proofs.Verifying.Sound.{sound_from}
use Rattle.rt11_volume.proofs.Walking.Walk.{IsNext, IsNext-first, visited-few}
use Rattle.rt11_volume.proofs.Searching.Looking.{HasNone-before, HasNoneBefore-more, on_read, next_read, ends_unread}
use Rattle.rt11_volume.proofs.lookup.entry.find_first.Goals as goal

pub loop-init : goal.loop-init
loop-init g c = record { next = λ sound. IsNext-first _; none = λ sound j k low. absurd (omega arith); looked = looked_none _ }

pub returns-in_default-clause-searches : goal.returns-in_default-clause-searches
returns-in_default-clause-searches g c =
    let old = g.D.Device.disk c.args.device.now in
    let now = g.D.Device.disk c.loop.device in
    let new = g.D.Device.disk c.visit.new.device in
    let none : (IsOnDevice c.loop.number (length now.image) → ⊥) × (new ≡ now) = subst (λ o. Visits c.loop.number o now new) c.in_default.is
    c.in_ok-segment.ensures.visits in
    let so_far = c.loop.invariant.looked in
    record {
      none = λ sound. HasNone-before (is_wanted c.args.wanted.now) old.image c.loop.counter
          (ends_unread old.image c.loop.counter c.loop.number (sound_from old.image sound.accepted) (omega (arith, c.loop-test.true))
          (c.loop.invariant.next sound)
          (λ on. none.0 (subst (λ (image : Image). IsOnDevice c.loop.number (length image)) (sym so_far.image) on)))
          (c.loop.invariant.none sound);
      looked = subst (λ (d : Disk). Looked old d 62 0) (sym none.1) (looked_within so_far (omega (arith, c.loop-test.true)));
    }

pub returns-in-Some-first_in-clause-searches : goal.returns-in-Some-first_in-clause-searches
returns-in-Some-first_in-clause-searches g c =
    let old = g.D.Device.disk c.args.device.now in
    let now = g.D.Device.disk c.loop.device in
    let new = g.D.Device.disk c.visit.new.device in
    let read : IsOnDevice c.loop.number (length now.image) × ReadsSegment c.loop.number c.in-Some.segment now new =
    subst (λ o. Visits c.loop.number o now new) c.in-Some.is c.in_ok-segment.ensures.visits in
    let so_far = c.loop.invariant.looked in
    let first = c.in-Some-first_in.ensures in
    record {
      inside = first.inside;
      on_device = subst (λ (image : Image). IsOnDevice c.loop.number (length image)) so_far.image read.0;
      is_first = λ sound.
          let words : c.in-Some.segment ≡ segment_words old.image c.loop.number = read.1.words_are (so_far.honest ∙ sound.honest)
          ∙ ap (λ (image : Image). segment_words image c.loop.number) so_far.image in
          record {
            place = c.loop.counter;
            visited_at = on_read old.image c.loop.counter c.loop.number (sound_from old.image sound.accepted)
                (omega (arith, c.loop-test.true)) (c.loop.invariant.next sound) read.0.some;
            words_are = words;
            first = subst (λ (s : List ℕ). IsPlaceIn (is_wanted c.args.wanted.now) (entries (extra_bytes s) s) (Some c.in-Some-first_in.i))
                words first;
            none_earlier = c.loop.invariant.none sound;
          };
      looked = looked_within (looked_more so_far read.1.looked) (omega (arith, c.loop-test.true));
    }

pub loop-preserved : goal.loop-preserved
loop-preserved g c =
    let old = g.D.Device.disk c.args.device.now in
    let now = g.D.Device.disk c.loop.device in
    let new = g.D.Device.disk c.visit.new.device in
    let read : IsOnDevice c.loop.number (length now.image) × ReadsSegment c.loop.number c.in-Some.segment now new =
    subst (λ o. Visits c.loop.number o now new) c.in-Some.is c.in_ok-segment.ensures.visits in
    let so_far = c.loop.invariant.looked in
    let words = λ (sound : IsSoundDisk old). read.1.words_are (so_far.honest ∙ sound.honest)
    ∙ ap (λ (image : Image). segment_words image c.loop.number) so_far.image in
    record {
      next = λ sound.
          subst (IsNext old.image (c.loop.counter + 1)) (sym c.next-number.ensures)
          (next_read old.image c.loop.counter c.loop.number c.in-Some.segment (sound_from old.image sound.accepted)
          (omega (arith, c.loop-test.true)) (c.loop.invariant.next sound) read.0.some (words sound));
      none = λ sound.
          HasNoneBefore-more (is_wanted c.args.wanted.now) old.image c.loop.counter c.loop.number
          (on_read old.image c.loop.counter c.loop.number (sound_from old.image sound.accepted) (omega (arith, c.loop-test.true))
          (c.loop.invariant.next sound) read.0.some)
          (subst (λ (s : List ℕ). IsPlaceIn (is_wanted c.args.wanted.now) (entries (extra_bytes s) s) None) (words sound)
          c.in_default-first_in.ensures)
          (c.loop.invariant.none sound);
      looked = looked_within (looked_more so_far read.1.looked) (omega arith);
    }

pub returns-clause-searches : goal.returns-clause-searches
returns-clause-searches g c =
    let old = g.D.Device.disk c.args.device.now in
    record {
      none = λ sound. HasNone-before (is_wanted c.args.wanted.now) old.image c.loop.counter (omega (arith, visited-few old.image))
          (c.loop.invariant.none sound);
      looked = looked_within c.loop.invariant.looked (omega arith);
    }
