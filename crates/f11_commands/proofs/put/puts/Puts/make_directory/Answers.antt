use Rattle.std.proofs.Common.{refl}
use Rattle.f11_making.specs.declared.action.Action.TheVariants.{MakeDirectory}
use Rattle.f11_commands.proofs.MadeLemmas.{carried-first}
use Rattle.f11_commands.proofs.put.puts.Puts.make_directory.Goals as goal

pub returns : goal.returns
returns g c = record {
  makes = record {
    made = c.carry_out-made.result;
    carries = carried-first (MakeDirectory c.args.name c.args.owner c.args.protection) c.carry_out-made.result c.first_task.result
        c.first_lun.result c.args.self.now.volume c.carry_out-made.new.vol c.first_task.ensures c.first_lun.ensures
        c.carry_out-made.ensures.carries;
    counts = refl;
    tells = c.tell_made.ensures.tells;
  };
}
