use Rattle.std.proofs.Common.{refl}
use Rattle.f11_store.specs.Directory.{with_end}
use Rattle.f11_store.specs.File.{stated_end}
use Rattle.f11_flx.specs.Lines.{before_crlf, behind_crlf, lines_upto}
use Rattle.f11_flx.specs.Records.{first_record, layout_of, records_upto}
use Rattle.f11_flx.specs.Spelled.{variable_record}
use Rattle.f11_flx.proofs.worked.examples.Goals as goal

pub returns : goal.returns
unfolding with_end stated_end before_crlf behind_crlf lines_upto first_record layout_of records_upto variable_record
returns c = record {
  fixed_records = refl;
  fixed_record_cut = refl;
  variable_records = refl;
  length_word_cut = refl;
  bad_layouts = (refl, refl, refl, refl);
  text_of_records = refl;
  lines_of_text = refl;
  other_bytes = refl;
  records_of_lines = refl;
  longest_line = refl;
  edge_of_block = (refl, refl);
  image = refl;
  fixed_to_rt = (refl, refl);
  text_from_rt = (refl, refl, refl);
  nothing_copied = (refl, refl);
}
