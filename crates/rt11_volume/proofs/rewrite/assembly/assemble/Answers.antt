use Rattle.std.proofs.Common.{◌≡◌, ◌∙◌, ◌+◌, ◌-◌, ◌*◌, ◌++◌, ◌∷◌, [], List, ℕ, length, map, take, slice_range, ap, sym, arith, rules}
use Rattle.rt11_volume.specs.Rewriting.Draft.{assembled, words_of_all, made_entry}
use Rattle.rt11_volume.specs.Entry.{entry_size}
use Rattle.rt11_volume.specs.Segment.{entries, extra_bytes, entry_place}
use Rattle.rt11_volume.proofs.Rewriting.Assembly.{rewritten, assembled-whole, length-assembled, assembled-words, place-of_pieces}
use Rattle.rt11_volume.proofs.rewrite.assembly.assemble.Goals as goal

pub returns : goal.returns
returns c =
    let s = c.args.from.now in
    let x : ℕ = extra_bytes s in
    let es : List (List ℕ) = entries x s in
    let a : ℕ = c.args.before.start in
    let first : ℕ = c.args.before.end in
    let heads : List (List ℕ) = c.args.heads.now in
    let end : ℕ = c.args.behind.start in
    let b : ℕ = c.args.behind.end in
    let header : List ℕ = c.args.header in
    let five : length header ≡ 5 = search rules in
    let made : entry_size c.extra.result ≡ entry_size x = ap entry_size c.extra.ensures in
    let count = length-assembled x es a first heads end b (omega (arith, c.requires.middle, c.requires.behind, c.requires.entries))
    c.requires.entries in
    let place : c.put_entries-2.new.self.at ≡ 5 + ((first - a) + (length heads + (b - end))) * entry_size x =
    place-of_pieces (first - a) (length heads) (b - end) (entry_size x) _ _ _ _ _ c.new-draft.ensures.at
    (c.put_all.ensures.at_is ∙ ap (λ n. c.new-draft.result.at + n) five)
    c.put_entries.ensures.at_is (c.put_made.ensures.at_is ∙ ap (λ n. c.put_entries.new.self.at + length heads * n) made)
    c.put_entries-2.ensures.at_is in
    let at : c.put_entries-2.new.self.at ≡ entry_place x (length (assembled x es a first heads end b)) = place
    ∙ ap (λ n. 5 + n * entry_size x) (sym count) in
    let words =
    c.finish.ensures.words ∙ ap (λ (ws : List ℕ). ws ++ 2048 ∷ [])
    (c.put_entries-2.ensures.words_are ∙ ap (λ (ws : List ℕ). ws ++ words_of_all (slice_range es end b))
    (c.put_made.ensures.words_are ∙ (λ i. c.put_entries.ensures.words_are i ++ words_of_all (map (made_entry (c.extra.ensures i)) heads))
    ∙ ap (λ (ws : List ℕ). (ws ++ words_of_all (slice_range es a first)) ++ words_of_all (map (made_entry x) heads))
    (c.put_all.ensures.words_are ∙ ap (λ (ws : List ℕ). ws ++ header) c.new-draft.ensures.words))) in
    rewritten header x (assembled x es a first heads end b) c.finish.result (record {
      header_long = five;
      extra_is = c.requires.extra;
      whole = assembled-whole x s a first heads end b c.entry_size.ensures.words c.requires.heads;
      room = omega (arith, at, place, c.requires.room);
      long = c.finish.ensures.long;
      words = ap (λ n. take (n + 1) c.finish.result) (sym at) ∙ assembled-words header _ x es a first heads end b words;
    })
