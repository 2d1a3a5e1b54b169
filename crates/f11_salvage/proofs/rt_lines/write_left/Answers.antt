use Rattle.std.proofs.Common.{List, ℕ, subst, sym}
use Rattle.std.specs.Io.KnownBytes.{Appends}
use Rattle.std.specs.Prelude.{OnOk}
use Rattle.f11_salvage.proofs.LineLemmas.{left-line-is}
use Rattle.f11_salvage.proofs.rt_lines.write_left.Goals as goal

pub returns-in_default : goal.returns-in_default
returns-in_default g c =
    subst (λ (text : List ℕ). OnOk c.writeln.result
    (Appends (g.W.Write.contents c.args.writer.now) (g.W.Write.contents c.writeln.new.self) text))
    (sym (left-line-is c.args.entry.now c.args.why c.in_default.not-NoFile)) c.writeln.ensures.bytes
