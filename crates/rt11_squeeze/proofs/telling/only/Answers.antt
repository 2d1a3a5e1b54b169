use Rattle.std.proofs.Common.{sym, ◌∙◌}
use Rattle.rt11_squeeze.proofs.TellLemmas.{found-twice}
use Rattle.rt11_squeeze.proofs.telling.only.Goals as goal

pub returns-then-is_some : goal.returns-then-is_some
returns-then-is_some c =
    let l = c.loop-i in
    sym (found-twice c.args.name.now c.args.entries.now l.i c.index-entries-i.result c.loop-i-test.true c.index-entries-i.is l.found
    (sym c.is_sound_file_named.ensures ∙ c.if-is_sound_file_named.true) (sym c.is_some.ensures ∙ c.if-is_some.true)
    l.invariant.so_far)
