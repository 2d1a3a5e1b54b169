use Rattle.std.proofs.Common.{◌≡◌, ◌∙◌, ◌+◌, ℕ, None, List, length, ap, sym, subst, arith}
use Rattle.f11_dev.specs.Image.{Image}
use Rattle.f11_dev.proofs.LookedLemmas.{looked_none, looked_more, looked_within}
use Rattle.rt11_volume.specs.Entry.{is_file_named}
use Rattle.rt11_volume.specs.InHand.{ReadsSegment}
use Rattle.rt11_volume.specs.Searching.Looking.{Visits, IsPlaceIn, IsFirstIn, IsOnDevice}
use Rattle.rt11_volume.specs.Verifying.Verdict.{IsSoundDisk}
use Rattle.rt11_volume.specs.Searching.Search.{is_empty_for}
use Rattle.rt11_volume.specs.Segment.{segment_words, entries, extra_bytes}
use Rattle.rt11_volume.specs.declared.lookup.entry.Found.{Found}
use Rattle.rt11_volume.proofs.Searching.File.{file-found}
use Rattle.rt11_volume.proofs.Searching.Looking.{HasNoneBefore-more, IsFoundSoFar-more, Surveys-found, place-some, place-none, on_read}
use Rattle.rt11_volume.proofs.Searching.Looking.{next_read, ends_unread}
use Rattle.rt11_volume.proofs.Verifying.Sound.{sound_from}
use Rattle.rt11_volume.proofs.Walking.Walk.{IsNext, IsNext-first, visited-few}
use Rattle.rt11_volume.proofs.create.room.survey.Goals as goal

pub loop-init : goal.loop-init
loop-init g c = record {
  next = λ sound. IsNext-first _;
  none = λ sound j k low. absurd (omega arith);
  found = λ sound j k low. absurd (omega arith);
  looked = looked_none _;
}

pub returns-in_default-clause-surveys : goal.returns-in_default-clause-surveys
returns-in_default-clause-surveys g c =
    let old = g.D.Device.disk c.args.device.now in
    let now = g.D.Device.disk c.loop.device in
    let new = g.D.Device.disk c.visit.new.device in
    let none : (IsOnDevice c.loop.number (length now.image) → ⊥) × (new ≡ now) = subst (λ o. Visits c.loop.number o now new) c.in_default.is
    c.in_ok-segment.ensures.visits in
    Surveys-found c.args.name c.args.blocks old c.loop.counter c.loop.area (λ sound.
    ends_unread old.image c.loop.counter c.loop.number (sound_from old.image sound.accepted) (omega (arith, c.loop-test.true))
    (c.loop.invariant.next sound)
    (λ on. none.0 (subst (λ (image : Image). IsOnDevice c.loop.number (length image)) (sym c.loop.invariant.looked.image) on)))
    c.loop.invariant.none c.loop.invariant.found

pub returns-then-is_some-clause-refused : goal.returns-then-is_some-clause-refused
returns-then-is_some-clause-refused g c = λ sound.
    let old = g.D.Device.disk c.args.device.now in
    let now = g.D.Device.disk c.loop.device in
    let new = g.D.Device.disk c.visit.new.device in
    let read : IsOnDevice c.loop.number (length now.image) × ReadsSegment c.loop.number c.in-Some.segment now new =
    subst (λ o. Visits c.loop.number o now new) c.in-Some.is c.in_ok-segment.ensures.visits in
    let so_far = c.loop.invariant.looked in
    let s = c.in-Some.segment in
    let words : s ≡ segment_words old.image c.loop.number = read.1.words_are (so_far.honest ∙ sound.honest)
    ∙ ap (λ (image : Image). segment_words image c.loop.number) so_far.image in
    let first = place-some (is_file_named c.args.name) (entries (extra_bytes s) s) c.first_in.result c.is_some.result c.is_some.ensures
    c.if-is_some.true c.first_in.ensures in
    let found : Found = record { number = c.loop.number; i = first.0; segment = s } in
    file-found c.args.name old.image found (record {
      place = c.loop.counter;
      visited_at = on_read old.image c.loop.counter c.loop.number (sound_from old.image sound.accepted) (omega (arith, c.loop-test.true))
          (c.loop.invariant.next sound) read.0.some;
      words_are = words;
      first = subst (λ (ws : List ℕ). IsFirstIn (is_file_named c.args.name) (entries (extra_bytes ws) ws) first.0) words first.1;
      none_earlier = c.loop.invariant.none sound;
    })

pub loop-preserved : goal.loop-preserved
loop-preserved g c =
    let old = g.D.Device.disk c.args.device.now in
    let now = g.D.Device.disk c.loop.device in
    let new = g.D.Device.disk c.visit.new.device in
    let read : IsOnDevice c.loop.number (length now.image) × ReadsSegment c.loop.number c.in-Some.segment now new =
    subst (λ o. Visits c.loop.number o now new) c.in-Some.is c.in_ok-segment.ensures.visits in
    let so_far = c.loop.invariant.looked in
    let s = c.in-Some.segment in
    let words = λ (sound : IsSoundDisk old). read.1.words_are (so_far.honest ∙ sound.honest)
    ∙ ap (λ (image : Image). segment_words image c.loop.number) so_far.image in
    let at = λ (sound : IsSoundDisk old). on_read old.image c.loop.counter c.loop.number (sound_from old.image sound.accepted)
    (omega (arith, c.loop-test.true)) (c.loop.invariant.next sound) read.0.some in
    let none = place-none (is_file_named c.args.name) (entries (extra_bytes s) s) c.first_in.result c.is_some.result c.is_some.ensures
    c.if-is_some.false c.first_in.ensures in
    record {
      next = λ sound.
          subst (IsNext old.image (c.loop.counter + 1)) (sym c.next-next.ensures)
          (next_read old.image c.loop.counter c.loop.number s (sound_from old.image sound.accepted) (omega (arith, c.loop-test.true))
          (c.loop.invariant.next sound) read.0.some (words sound));
      none = λ sound.
          HasNoneBefore-more (is_file_named c.args.name) old.image c.loop.counter c.loop.number (at sound)
          (subst (λ (ws : List ℕ). IsPlaceIn (is_file_named c.args.name) (entries (extra_bytes ws) ws) None) (words sound) none)
          (c.loop.invariant.none sound);
      found = IsFoundSoFar-more (is_empty_for c.args.blocks) old c.loop.counter c.loop.number s c.loop.area c.keep_first-area.result
          (subst (λ (image : Image). IsOnDevice c.loop.number (length image)) so_far.image read.0) at words c.keep_first-area.ensures
          c.loop.invariant.found;
      looked = looked_within (looked_more so_far read.1.looked) (omega arith);
    }

pub returns-clause-surveys : goal.returns-clause-surveys
returns-clause-surveys g c =
    let old = g.D.Device.disk c.args.device.now in
    Surveys-found c.args.name c.args.blocks old c.loop.counter c.loop.area (λ sound. omega (arith, visited-few old.image))
    c.loop.invariant.none c.loop.invariant.found
