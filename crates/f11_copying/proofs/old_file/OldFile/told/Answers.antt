use Rattle.std.proofs.Common.{◌||◌, not, nat_lt, refl, ap, subst, ◌∙◌}
use Rattle.f11_reader.specs.Missing.{FindsMissing}
use Rattle.f11_reader.specs.Reading.{header_in_hand}
use Rattle.f11_index.specs.Kept.{index_kept}
use Rattle.f11_copying.specs.OldHeader.{file_told, there_of}
use Rattle.f11_copying.proofs.OldLemmas.{found-old, looked-thrice}
use Rattle.f11_copying.proofs.old_file.OldFile.told.Goals as goal

pub returns-clause-tells : goal.returns-clause-tells
returns-clause-tells g c =
    let index = index_kept c.args.self.now.index in
    let file = c.args.self.now.reader in
    let count = c.in_ok-count.count in
    let missing = c.in_ok-missing.missing in
    let whole = c.in_ok-is_whole.is_whole in
    let disk = g.D.Device.disk in
    let finds : FindsMissing index file c.args.size count missing (disk c.count.new.device) (disk c.first_missing.new.device) =
    subst (λ n. FindsMissing index file c.args.size n missing (disk c.count.new.device) (disk c.first_missing.new.device)) c.from.ensures
    c.in_ok-missing.ensures.finds in
    record {
      reader_is = refl;
      index_is = refl;
      file_is = λ honest.
          c.file_told.ensures ∙ ap (λ h. file_told h c.there_of-there.result c.is_cut.result) c.header.ensures.header
          ∙ ap (λ n. file_told (header_in_hand file) n c.is_cut.result) c.there_of-there.ensures
          ∙ ap (λ b. file_told (header_in_hand file) (there_of count missing) b)
          (c.is_cut.ensures ∙ ap (λ n. not whole || nat_lt n count) c.there_of-there.ensures)
          ∙ found-old index file c.args.size count missing whole (disk c.args.self.now.device) (disk c.count.new.device)
          (disk c.first_missing.new.device) (disk c.is_whole.new.device) c.in_ok-count.ensures.counts finds
          c.in_ok-is_whole.ensures.tells honest;
      looked = looked-thrice index file c.args.size count missing whole (disk c.args.self.now.device) (disk c.count.new.device)
          (disk c.first_missing.new.device) (disk c.is_whole.new.device) c.in_ok-count.ensures.counts finds
          c.in_ok-is_whole.ensures.tells;
    }
