use Rattle.std.proofs.Common.{take}
use Rattle.f11_actions.specs.Changes.{AreActions}
use Rattle.f11_actions.proofs.change.Change.actions.Given as goal

-- the actions of the names so far
abbrev pub invariant-loop-name : goal.invariant-loop-name
invariant-loop-name l = AreActions l.self l.directory l.names (take l.name-index l.those) l.actions.items
