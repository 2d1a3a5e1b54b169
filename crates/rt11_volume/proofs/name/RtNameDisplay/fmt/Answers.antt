use Rattle.std.proofs.Common.{◌≡◌, ◌-◌, take, rules}
use Rattle.rt11_volume.specs.RtName.{IsRtName, rt_name_text}
use Rattle.rt11_volume.proofs.TextLemmas.{text-front, ok_at_text}
use Rattle.rt11_volume.proofs.name.RtNameDisplay.fmt.Goals as goal

pub unwrap-requires : goal.unwrap-requires
unwrap-requires g c =
    let words = c.args.self.now in
    let name : IsRtName words = rw c.self.view_is at c.self.invariant in
    let front : take (c.spell-length.result - 2) c.spell-length.new.into ≡ rt_name_text words =
    text-front words _ _ c.spell-length.result c.spell-length.new.into name c.as_name.ensures c.spell-length.ensures.length
    c.spell-length.ensures.text in
    ok_at_text c.from_utf8.result _ _ _ words c.from_utf8.ensures.cases name front

pub returns-clause-writes : goal.returns-clause-writes
returns-clause-writes g c =
    let words = c.args.self.now in
    let name : IsRtName words = rw c.self.view_is at c.self.invariant in
    let front : take (c.spell-length.result - 2) c.spell-length.new.into ≡ rt_name_text words =
    text-front words _ _ c.spell-length.result c.spell-length.new.into name c.as_name.ensures c.spell-length.ensures.length
    c.spell-length.ensures.text in
    rw (← front) (search rules)
