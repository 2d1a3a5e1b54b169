use Rattle.std.proofs.Common.{◌≡◌, ◌∙◌, ◌-◌, List, ℕ, length, ap, sym, rules}
use Rattle.rt11_volume.specs.Entry.{area_length}
use Rattle.rt11_volume.specs.Operations.{entry_at}
use Rattle.rt11_volume.specs.Segment.{entries, extra_bytes}
use Rattle.rt11_volume.proofs.Rewriting.Edit.{with-exact, with-rest, three_words}
use Rattle.rt11_volume.proofs.rewrite.edit.with_file.Goals as goal

pub returns-then-file-area : goal.returns-then-file-area
returns-then-file-area c =
    let s = c.args.segment.now in
    let x : ℕ = extra_bytes s in
    let es : List (List ℕ) = entries x s in
    let three : length c.args.file.name ≡ 3 = search rules in
    record {
      header_is = c.assemble.ensures.header_is;
      entries_are = c.assemble.ensures.entries_are
          ∙ with-exact x es c.args.range.start c.args.i c.args.range.end c.args.file.name _ _ _ c.args.file.blocks c.args.file.date
          c.requires.low c.requires.high (three_words c.args.file.name three)
          (c.if-file-area.true ∙ c.entry-area.ensures.length);
      ends = c.assemble.ensures.ends;
    }

pub returns : goal.returns
returns c =
    let s = c.args.segment.now in
    let x : ℕ = extra_bytes s in
    let es : List (List ℕ) = entries x s in
    let three : length c.args.file.name ≡ 3 = search rules in
    let long : c.entry-area.result.length ≡ area_length (entry_at es c.args.i) = c.entry-area.ensures.length in
    record {
      header_is = c.assemble-2.ensures.header_is;
      entries_are = c.assemble-2.ensures.entries_are
          ∙ with-rest x es c.args.range.start c.args.i c.args.range.end c.args.file.name _ _ _ c.args.file.blocks _ c.args.file.date
          c.requires.low c.requires.high (three_words c.args.file.name three)
          (λ same. c.if-file-area.false (same ∙ sym long)) (ap (λ n. n - c.args.file.blocks) long);
      ends = c.assemble-2.ensures.ends;
    }
