use Rattle.std.proofs.Common.{ℕ, List}
use Rattle.f11_flx.specs.ToText.{rest_of}
use Rattle.f11_index.specs.Kept.{index_kept}
use Rattle.f11_commands.specs.TakingText.{GivesText}
use Rattle.f11_commands.proofs.TakingOutLemmas.{Taken}
use Rattle.f11_commands.proofs.records.skim_file.Given as goal

-- so many blocks were read, and converted
abbrev pub invariant-loop-reader : goal.invariant-loop-reader
invariant-loop-reader g l = record {
  k : ℕ;
  bytes : List ℕ;
  given : List ℕ;
  taken : Taken (index_kept l.index) l.fn.file l.reader (rest_of l.fn.text) (rest_of l.text) k bytes (g.D.Device.disk l.fn.device)
      (g.D.Device.disk l.device);
  held : GivesText l.fn.text l.text bytes given;
}

abbrev pub decreases-loop-reader : goal.decreases-loop-reader
decreases-loop-reader g l = rest_of l.text
