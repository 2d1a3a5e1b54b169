use Rattle.std.proofs.Common.{refl}
use Rattle.std.proofs.KnownBytes.{Appends-trans}
use Rattle.std.proofs.lemmas.Result.{on_ok_weaker}
use Rattle.f11_commands.proofs.dump.write_header.Goals as goal

-- the three pieces one after another
pub returns : goal.returns
returns g c =
    let fields = rw c.of-fields.ensures at c.in_ok-write_fields.ensures in
    let name = c.in_ok-write_name.ensures in
    on_ok_weaker c.write_runs.result (λ runs. record {
      text = _;
      is = record { name = name.text; is_name = name.is; is_text = refl };
      takes = Appends-trans _ _ _ _ _ fields (Appends-trans _ _ _ _ _ name.takes runs);
    }) (rw (c.of-map.ensures, c.new.ensures) at c.write_runs.ensures)
