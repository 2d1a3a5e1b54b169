use Rattle.std.proofs.Common.{◌∙◌}
use Rattle.f11_vfy.proofs.Frames.Earlier.{judges}
use Rattle.f11_vfy.proofs.frame.earlier.are_earlier_named.Goals as goal

pub returns-clause-judges : goal.returns-clause-judges
returns-clause-judges g c =
    judges _ _ _ _ _ _ _ (c.in_ok-named.ensures.limit ∙ c.candidate_count-count.ensures) c.in_ok-named.ensures.none
    c.in_ok-put_named.ensures.puts c.put_named.ensures.limit c.has_all.ensures
