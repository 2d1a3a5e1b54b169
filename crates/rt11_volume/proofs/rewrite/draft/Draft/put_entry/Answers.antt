use Rattle.std.proofs.Common.{◌≡◌, ◌∙◌, ◌+◌, take, [], get_or, slice_index, ap, sym, subst, arith}
use Rattle.rt11_volume.specs.Rewriting.Draft.{Puts}
use Rattle.rt11_volume.specs.Entry.{entry_size}
use Rattle.rt11_volume.specs.Segment.{entries, extra_bytes}
use Rattle.rt11_volume.proofs.Rewriting.Entries.{entries-few, entry_room-few}
use Rattle.rt11_volume.proofs.Rewriting.Draft.{length-entry_at, entry_word-at, Puts-word, Puts-all}
use Rattle.rt11_volume.proofs.rewrite.draft.Draft.put_entry.Goals as goal

pub entry_place-place-requires : goal.entry_place-place-requires
entry_place-place-requires c =
    omega (arith, c.requires.entry, entries-few (extra_bytes c.args.from.now) c.args.from.now, entry_room-few (extra_bytes c.args.from.now))

pub loop-k-preserved : goal.loop-k-preserved
loop-k-preserved c =
    let s = c.args.from.now in
    let x = extra_bytes s in
    let e = get_or (entries x s) c.args.i [] in
    let long = length-entry_at x s c.args.i [] c.entry_size-k-end.ensures.words c.requires.entry in
    let here = entry_word-at x s c.args.i c.loop-k.k [] c.requires.entry
    (omega (arith, c.loop-k-test.true, c.entry_size-k-end.ensures.size)) in
    let word = c.word.ensures ∙ ap (λ p. slice_index s (p + c.loop-k.k)) c.entry_place-place.ensures.place ∙ sym here in
    Puts-word _ _ _ e c.loop-k.k c.word.result (omega (arith, long, c.loop-k-test.true, c.entry_size-k-end.ensures.size)) word
    c.loop-k.invariant c.put.ensures

pub returns : goal.returns
returns c =
    let s = c.args.from.now in
    let x = extra_bytes s in
    let long = length-entry_at x s c.args.i [] c.entry_size-k-end.ensures.words c.requires.entry in
    let end : c.loop-k.k ≡ entry_size x = omega (arith, c.loop-k.auto, c.loop-k-test.false, c.entry_size-k-end.ensures.size) in
    Puts-all _ _ (get_or (entries x s) c.args.i []) (entry_size x) long
    (subst (λ k. Puts c.args.self.now c.loop-k.self (take k (get_or (entries x s) c.args.i [])) k) end c.loop-k.invariant)
