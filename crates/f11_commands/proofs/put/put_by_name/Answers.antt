use Rattle.std.proofs.lemmas.Result.{err_from_is_err_and}
use Rattle.f11_host.specs.declared.refusal.HostRefusal.TheVariants.{Files}
use Rattle.f11_commands.proofs.HandedLemmas.{mapped-err, mapped-ok}
use Rattle.f11_commands.proofs.PutLemmas.{put-found, put-nowhere}
use Rattle.f11_commands.specs.PutCommand.{hosts}
use Rattle.f11_commands.proofs.put.put_by_name.Goals as goal

pub returns : goal.returns
returns g c =
    let found = mapped-ok _ c.find.result _ c.in_ok-dir.ensures.cases in
    record {
      puts = put-found c.args.put.now c.args.bytes (hosts (g.R.Read.remaining c.args.host.now)
          (g.R.Read.remaining c.args.again.now)) c.in_ok-dir.dir c.put_into.result (hosts (g.R.Read.remaining c.put_into.new.host)
          (g.R.Read.remaining c.put_into.new.again)) c.args.volume.now
          c.find.new.volume c.put_into.new.volume (rw found at c.find.ensures.found) c.put_into.ensures.puts;
    }

pub returns-in_err-dir : goal.returns-in_err-dir
returns-in_err-dir g c =
    let none = mapped-err Files c.find.result _ c.in_err-dir.ensures.cases in
    let p = err_from_is_err_and c.from_residual.result c.from_residual.ensures.1 in
    record {
      puts = rw (p.1, p.2, none.2)
          (put-nowhere c.args.put.now c.args.bytes (hosts (g.R.Read.remaining c.args.host.now)
          (g.R.Read.remaining c.args.again.now)) none.0 c.args.volume.now c.find.new.volume (rw none.1 at c.find.ensures.refused));
    }
