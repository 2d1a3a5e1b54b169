use Rattle.std.proofs.lemmas.Result.{err_from_is_err_and}
use Rattle.f11_host.specs.declared.refusal.HostRefusal.TheVariants.{Files}
use Rattle.f11_commands.proofs.HandedLemmas.{mapped-err, mapped-ok}
use Rattle.f11_commands.proofs.PutLemmas.{put-ready, put-unready}
use Rattle.f11_commands.specs.PutCommand.{hosts}
use Rattle.f11_commands.proofs.put.put_into.Goals as goal

pub returns : goal.returns
returns g c =
    let asked = mapped-ok _ c.ask_for_slots.result _ c.in_ok-map_err.ensures.cases in
    record {
      puts = put-ready c.args.put.now c.args.bytes (hosts (g.R.Read.remaining c.args.host.now) (g.R.Read.remaining c.args.again.now))
          c.args.dir c.args.volume.now c.make_file.result
          (hosts (g.R.Read.remaining c.make_file.new.host) (g.R.Read.remaining c.make_file.new.again)) c.slots_before-slots.result
          c.ask_for_slots.new.volume c.make_file.new.volume c.slots_before-slots.ensures (rw asked at c.ask_for_slots.ensures.asked)
          c.make_file.ensures.puts;
    }

pub returns-in_err-map_err : goal.returns-in_err-map_err
returns-in_err-map_err g c =
    let refused = mapped-err Files c.ask_for_slots.result _ c.in_err-map_err.ensures.cases in
    let fails = rw refused.1 at c.ask_for_slots.ensures.fails in
    let p = err_from_is_err_and c.from_residual.result c.from_residual.ensures.1 in
    record {
      puts = rw (p.1, p.2, refused.2)
          (put-unready c.args.put.now c.args.bytes (hosts (g.R.Read.remaining c.args.host.now) (g.R.Read.remaining c.args.again.now))
          c.args.dir c.args.volume.now c.slots_before-slots.result refused.0 c.ask_for_slots.new.volume c.slots_before-slots.ensures
          fails.0 fails.1);
    }
