use Rattle.std.proofs.Common.{◌∙◌, [], ap, arith, sym, Some}
use Rattle.std.specs.Str.{str_to_ascii_uppercase}
use Rattle.f11_numbers.proofs.RightsLemmas.{
  at_system,
  empty,
  from_group,
  from_owner,
  from_world,
  group_of,
  not_empty,
  owner_of,
  same_word,
  spells_word,
  system_of,
  world_of,
}
use Rattle.f11_numbers.proofs.rights.read_rights.Goals as goal

pub returns-in_err-system-clause-every : goal.returns-in_err-system-clause-every
returns-in_err-system-clause-every c word spells =
    let behind = at_system word spells c.as_bytes.ensures.value c.in_ok-rest.ensures in
    absurd (c.in_err-system.ensures.every (system_of word) (from_owner word) (omega arith) behind)

pub returns-in_err-owner-clause-every : goal.returns-in_err-owner-clause-every
returns-in_err-owner-clause-every c word spells =
    let behind = at_system word spells c.as_bytes.ensures.value c.in_ok-rest.ensures in
    let system = c.in_ok-system.ensures.every (system_of word) (from_owner word) (omega arith) behind in
    absurd (c.in_err-owner.ensures.every (owner_of word) (from_group word) (omega arith) system.1)

pub returns-in_err-group-clause-every : goal.returns-in_err-group-clause-every
returns-in_err-group-clause-every c word spells =
    let behind = at_system word spells c.as_bytes.ensures.value c.in_ok-rest.ensures in
    let system = c.in_ok-system.ensures.every (system_of word) (from_owner word) (omega arith) behind in
    let owner = c.in_ok-owner.ensures.every (owner_of word) (from_group word) (omega arith) system.1 in
    absurd (c.in_err-group.ensures.every (group_of word) (from_world word) (omega arith) owner.1)

pub returns-in_err-world-clause-every : goal.returns-in_err-world-clause-every
returns-in_err-world-clause-every c word spells =
    let behind = at_system word spells c.as_bytes.ensures.value c.in_ok-rest.ensures in
    let system = c.in_ok-system.ensures.every (system_of word) (from_owner word) (omega arith) behind in
    let owner = c.in_ok-owner.ensures.every (owner_of word) (from_group word) (omega arith) system.1 in
    let group = c.in_ok-group.ensures.every (group_of word) (from_world word) (omega arith) owner.1 in
    absurd (c.in_err-world.ensures.every (world_of word) [] (omega arith) group.1)

pub returns-then-not-is_empty-clause-every : goal.returns-then-not-is_empty-clause-every
returns-then-not-is_empty-clause-every c word spells =
    let behind = at_system word spells c.as_bytes.ensures.value c.in_ok-rest.ensures in
    let system = c.in_ok-system.ensures.every (system_of word) (from_owner word) (omega arith) behind in
    let owner = c.in_ok-owner.ensures.every (owner_of word) (from_group word) (omega arith) system.1 in
    let group = c.in_ok-group.ensures.every (group_of word) (from_world word) (omega arith) owner.1 in
    let world = c.in_ok-world.ensures.every (world_of word) [] (omega arith) group.1 in
    absurd (not_empty c.in_ok-world.rest.now c.if-not-is_empty.ensures world.1)

pub returns-clause-spelled : goal.returns-clause-spelled
returns-clause-spelled c =
    spells_word c.in_ok-system.ensures.four_bits c.in_ok-owner.ensures.four_bits c.in_ok-group.ensures.four_bits
    c.in_ok-world.ensures.four_bits
    (ap str_to_ascii_uppercase (sym c.as_bytes.ensures.value) ∙ c.in_ok-rest.ensures)
    c.in_ok-system.ensures.spelled c.in_ok-owner.ensures.spelled c.in_ok-group.ensures.spelled c.in_ok-world.ensures.spelled
    (empty c.in_ok-world.rest.now c.if-not-is_empty.ensures)

pub returns-clause-every : goal.returns-clause-every
returns-clause-every c word spells =
    let behind = at_system word spells c.as_bytes.ensures.value c.in_ok-rest.ensures in
    let system = c.in_ok-system.ensures.every (system_of word) (from_owner word) (omega arith) behind in
    let owner = c.in_ok-owner.ensures.every (owner_of word) (from_group word) (omega arith) system.1 in
    let group = c.in_ok-group.ensures.every (group_of word) (from_world word) (omega arith) owner.1 in
    let world = c.in_ok-world.ensures.every (world_of word) [] (omega arith) group.1 in
    ap Some (same_word word spells.at_most system.0 owner.0 group.0 world.0)
