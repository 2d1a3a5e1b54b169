use Rattle.f11_files.specs.Open.{disk_in, home_in, store_in}
use Rattle.f11_store.specs.Directory.{empty_record}
use Rattle.std.proofs.Common.{◌+◌}
use Rattle.std.proofs.lemmas.Result.{IfErr-weaker, on_ok_weaker}
use Rattle.f11_fcp.proofs.RowLemmas.{stored-leaves}
use Rattle.f11_fcp.proofs.EntryLemmas.{replaced, breaks-replacing, spot-within}
use Rattle.f11_fcp.proofs.entry.clear_entry.Goals as goal

pub write_known-requires-clause-there : goal.write_known-requires-clause-there
write_known-requires-clause-there g c =
    λ honest. spot-within (store_in c.args.files.now) c.args.directory c.args.spot.now (c.requires.there honest)

pub returns-clause-replaced : goal.returns-clause-replaced
returns-clause-replaced g c =
    on_ok_weaker c.write_known.result
    (replaced (home_in c.args.files.now) c.args.directory c.args.spot.now (empty_record) c.clear.new.block (disk_in c.args.files.now)
    (disk_in c.write_known.new.files) c.clear.ensures.bytes)
    c.write_known.ensures.written

pub returns-clause-refused : goal.returns-clause-refused
returns-clause-refused g c =
    IfErr-weaker c.write_known.result _ _
    (λ e. breaks-replacing (home_in c.args.files.now) c.args.directory c.args.spot.now (empty_record) c.clear.new.block e
    (disk_in c.args.files.now) (disk_in c.write_known.new.files) c.clear.ensures.bytes)
    c.write_known.ensures.refused

pub returns-clause-rows : goal.returns-clause-rows
returns-clause-rows g c =
    on_ok_weaker c.write_known.result
    (stored-leaves c.args.files.now c.write_known.new.files (g.met.D.Device.is_image c.args.files.now.device)
    (g.met.D.Device.is_image c.write_known.new.files.device) c.write_known.ensures.home c.args.directory (c.args.spot.now.number + 1) _)
    c.write_known.ensures.written
