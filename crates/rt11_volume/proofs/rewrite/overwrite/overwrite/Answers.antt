use Rattle.std.proofs.Common.{◌≡◌, ◌∙◌, ◌+◌, ◌-◌, List, ℕ, length, ap, sym, arith}
use Rattle.f11_dev.proofs.WentLemmas.{went_more, went_weaker, went_within}
use Rattle.rt11_volume.specs.Entry.{with_words}
use Rattle.rt11_volume.specs.Rewriting.Overwriting.{IsOverwriting, overwritten}
use Rattle.rt11_volume.specs.Segment.{entry_place, extra_bytes}
use Rattle.rt11_volume.proofs.FreshLemmas.{OnErr-given}
use Rattle.rt11_volume.proofs.Rewriting.Entries.{entries-few, entry_room-few}
use Rattle.rt11_volume.proofs.Rewriting.Overwriting.{entry-within, overwriting, overwriting-more, overwritten-one, overwritten-both}
use Rattle.rt11_volume.proofs.rewrite.overwrite.overwrite.Goals as goal

pub entry_place-requires : goal.entry_place-requires
entry_place-requires g c =
    let s = c.args.found.now.segment in
    omega (arith, c.requires.inside, entries-few (extra_bytes s) s, entry_room-few (extra_bytes s))

pub set_words-requires : goal.set_words-requires
set_words-requires g c =
    let s = c.args.found.now.segment in
    let n = c.args.from + length c.args.words.now in
    omega (
      arith,
      entry-within (extra_bytes s) s c.args.found.now.i n c.requires.inside (omega (arith, c.requires.few)),
      c.entry_place.ensures.place,
      c.requires.some,
    )

pub write_block_of-requires-clause-word : goal.write_block_of-requires-clause-word
write_block_of-requires-clause-word g c =
    let s = c.args.found.now.segment in
    let n = c.args.from + length c.args.words.now in
    omega (
      arith,
      entry-within (extra_bytes s) s c.args.found.now.i n c.requires.inside (omega (arith, c.requires.few)),
      c.entry_place.ensures.place,
      c.requires.some,
    )

pub write_block_of-requires-2-clause-word : goal.write_block_of-requires-2-clause-word
write_block_of-requires-2-clause-word g c =
    let s = c.args.found.now.segment in
    let n = c.args.from + length c.args.words.now in
    omega (
      arith,
      entry-within (extra_bytes s) s c.args.found.now.i n c.requires.inside (omega (arith, c.requires.few)),
      c.entry_place.ensures.place,
      c.requires.some,
    )

pub returns-in_err-write_block_of-clause-failed : goal.returns-in_err-write_block_of-clause-failed
returns-in_err-write_block_of-clause-failed g c =
    let found = c.args.found.now in
    let words : List ℕ = c.args.words.now in
    let old = g.D.Device.disk c.args.device.now in
    let put : c.set_words.new.self ≡ overwritten found c.args.from words = c.set_words.ensures.words
    ∙ (λ t. with_words (c.copy-segment.ensures t) (c.entry_place.ensures.place t + c.args.from) words) in
    OnErr-given _ _ (went_within (IsOverwriting found c.args.from words old.image)
    (went_weaker _ (IsOverwriting found c.args.from words old.image)
    (λ image has. overwriting found c.args.from words _ put _ old.image image has) c.in_err-write_block_of.ensures.failed)
    (omega (arith, c.requires.some)))

pub returns-then-first-last-clause-written : goal.returns-then-first-last-clause-written
returns-then-first-last-clause-written g c =
    let found = c.args.found.now in
    let words : List ℕ = c.args.words.now in
    let old = g.D.Device.disk c.args.device.now in
    let put : c.set_words.new.self ≡ overwritten found c.args.from words = c.set_words.ensures.words
    ∙ (λ t. with_words (c.copy-segment.ensures t) (c.entry_place.ensures.place t + c.args.from) words) in
    let at : ℕ = c.entry_place.result + c.args.from in
    let place : at ≡ entry_place (extra_bytes found.segment) found.i + c.args.from = ap (λ n. n + c.args.from) c.entry_place.ensures.place
    in
    let long : length found.segment ≡ 512 = ap (λ (s : List ℕ). length s) (sym c.copy-segment.ensures) ∙ c.set_words.ensures.long in
    let fits = entry-within (extra_bytes found.segment) found.segment found.i (c.args.from + length words) c.requires.inside
    (omega (arith, c.requires.few)) in
    overwritten-one found c.args.from words _ put at (at + length words - 1) old.image _ place long (omega (arith, fits, place))
    (omega (arith, c.requires.some)) c.if-first-last.true
    c.in_ok-write_block_of.ensures.written

pub returns-then-first-last-clause-went : goal.returns-then-first-last-clause-went
returns-then-first-last-clause-went g c =
    let found = c.args.found.now in
    let words : List ℕ = c.args.words.now in
    let old = g.D.Device.disk c.args.device.now in
    let put : c.set_words.new.self ≡ overwritten found c.args.from words = c.set_words.ensures.words
    ∙ (λ t. with_words (c.copy-segment.ensures t) (c.entry_place.ensures.place t + c.args.from) words) in
    went_within (IsOverwriting found c.args.from words old.image)
    (went_weaker _ (IsOverwriting found c.args.from words old.image)
    (λ image has. overwriting found c.args.from words _ put _ old.image image has) c.in_ok-write_block_of.ensures.went)
    (omega (arith, c.requires.some))

pub returns-in_err-write_block_of-2-clause-failed : goal.returns-in_err-write_block_of-2-clause-failed
returns-in_err-write_block_of-2-clause-failed g c =
    let found = c.args.found.now in
    let words : List ℕ = c.args.words.now in
    let old = g.D.Device.disk c.args.device.now in
    let put : c.set_words.new.self ≡ overwritten found c.args.from words = c.set_words.ensures.words
    ∙ (λ t. with_words (c.copy-segment.ensures t) (c.entry_place.ensures.place t + c.args.from) words) in
    let now = g.D.Device.disk c.write_block_of.new.device in
    let first = overwriting found c.args.from words _ put _ old.image now.image c.in_ok-write_block_of.ensures.written in
    OnErr-given _ _ (went_within (IsOverwriting found c.args.from words old.image)
    (went_more (IsOverwriting found c.args.from words old.image)
    (went_weaker _ (IsOverwriting found c.args.from words old.image)
    (λ image has. overwriting found c.args.from words _ put _ old.image image has) c.in_ok-write_block_of.ensures.went)
    (went_weaker _ (IsOverwriting found c.args.from words old.image)
    (λ image has. overwriting-more found c.args.from words _ put _ old.image now.image image first has)
    c.in_err-write_block_of-2.ensures.failed))
    (omega (arith, c.requires.some, c.if-first-last.false)))

pub returns-clause-written : goal.returns-clause-written
returns-clause-written g c =
    let found = c.args.found.now in
    let words : List ℕ = c.args.words.now in
    let old = g.D.Device.disk c.args.device.now in
    let put : c.set_words.new.self ≡ overwritten found c.args.from words = c.set_words.ensures.words
    ∙ (λ t. with_words (c.copy-segment.ensures t) (c.entry_place.ensures.place t + c.args.from) words) in
    let at : ℕ = c.entry_place.result + c.args.from in
    let place : at ≡ entry_place (extra_bytes found.segment) found.i + c.args.from = ap (λ n. n + c.args.from) c.entry_place.ensures.place
    in
    let long : length found.segment ≡ 512 = ap (λ (s : List ℕ). length s) (sym c.copy-segment.ensures) ∙ c.set_words.ensures.long in
    let fits = entry-within (extra_bytes found.segment) found.segment found.i (c.args.from + length words) c.requires.inside
    (omega (arith, c.requires.few)) in
    let now = g.D.Device.disk c.write_block_of.new.device in
    overwritten-both found c.args.from words _ put at (at + length words - 1) old.image now.image _ place long (omega (arith, fits, place))
    (omega (arith, c.requires.some)) (omega (arith, c.requires.few))
    c.in_ok-write_block_of.ensures.written
    c.in_ok-write_block_of-2.ensures.written

pub returns-clause-went : goal.returns-clause-went
returns-clause-went g c =
    let found = c.args.found.now in
    let words : List ℕ = c.args.words.now in
    let old = g.D.Device.disk c.args.device.now in
    let put : c.set_words.new.self ≡ overwritten found c.args.from words = c.set_words.ensures.words
    ∙ (λ t. with_words (c.copy-segment.ensures t) (c.entry_place.ensures.place t + c.args.from) words) in
    let now = g.D.Device.disk c.write_block_of.new.device in
    let first = overwriting found c.args.from words _ put _ old.image now.image c.in_ok-write_block_of.ensures.written in
    went_within (IsOverwriting found c.args.from words old.image)
    (went_more (IsOverwriting found c.args.from words old.image)
    (went_weaker _ (IsOverwriting found c.args.from words old.image)
    (λ image has. overwriting found c.args.from words _ put _ old.image image has) c.in_ok-write_block_of.ensures.went)
    (went_weaker _ (IsOverwriting found c.args.from words old.image)
    (λ image has. overwriting-more found c.args.from words _ put _ old.image now.image image first has)
    c.in_ok-write_block_of-2.ensures.went))
    (omega (arith, c.requires.some, c.if-first-last.false))
