use Rattle.std.proofs.Common.{sym, ◌∙◌}
use Rattle.f11_scan.proofs.UseLemmas.{use-killed, use-live, use-none, use-where}
use Rattle.f11_scan.proofs.uses.use_of.Goals as goal

pub returns-then-is_live : goal.returns-then-is_live
returns-then-is_live c =
    let is = use-live c.args.block.now (sym c.is_live.ensures ∙ c.if-is_live.true) in
    let means = use-where _ _ (record { size = c.told-block; bytes = c.fits-block }) is in
    record { live = means.0; killed = means.1; test = sym is }

pub returns-then-is_killed : goal.returns-then-is_killed
returns-then-is_killed c =
    let is = use-killed c.args.block.now (sym c.is_killed.ensures ∙ c.if-is_killed.true) in
    let means = use-where _ _ (record { size = c.told-block; bytes = c.fits-block }) is in
    record { live = means.0; killed = means.1; test = sym is }

pub returns-else-is_killed : goal.returns-else-is_killed
returns-else-is_killed c =
    let is = use-none c.args.block.now (sym c.is_live.ensures ∙ c.if-is_live.false) (sym c.is_killed.ensures ∙ c.if-is_killed.false) in
    let means = use-where _ _ (record { size = c.told-block; bytes = c.fits-block }) is in
    record { live = means.0; killed = means.1; test = sym is }
