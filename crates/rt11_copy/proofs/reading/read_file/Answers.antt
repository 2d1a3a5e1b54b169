use Rattle.rt11_copy.proofs.ReadLemmas.{area-there, date-failed, reads-as}
use Rattle.rt11_copy.proofs.reading.read_file.Goals as goal

pub returns-in-Err-clause-looked : goal.returns-in-Err-clause-looked
returns-in-Err-clause-looked g c = date-failed c.args.entry.now.blocks _ c.in-Err.ensures.why c.in-Err.ensures.looked

pub read_area-requires : goal.read_area-requires
read_area-requires g c = record {
  fits = c.requires.fits;
  there = area-there c.args.entry.now.first c.args.entry.now.blocks c.in-Ok.ensures.looked c.requires.there;
}

pub returns-in-Ok-read_area-clause-reads : goal.returns-in-Ok-read_area-clause-reads
returns-in-Ok-read_area-clause-reads g c = record {
  area = reads-as c.args.entry.now.first c.args.entry.now.blocks _ c.in-Ok.ensures.looked c.in-Ok-read_area.ensures.reads;
  date_is = c.in-Ok.ensures.read;
}
