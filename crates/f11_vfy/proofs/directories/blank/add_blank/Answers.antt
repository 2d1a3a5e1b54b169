use Rattle.std.proofs.Common.{arith}
use Rattle.std.proofs.lemmas.Bool.{both_ways}
use Rattle.f11_vfy.proofs.Directory.Blank.{adds-one, adds-none}
use Rattle.f11_vfy.proofs.directories.blank.add_blank.Goals as goal

pub returns-then-lbn-limit : goal.returns-then-lbn-limit
returns-then-lbn-limit c =
    adds-none c.args.lbn c.args.block.now c.args.blank.now (λ may. omega (arith, may.0, c.if-lbn-limit.true, c.limit.ensures))

pub returns-then-not-holds_no_record : goal.returns-then-not-holds_no_record
returns-then-not-holds_no_record c =
    adds-none c.args.lbn c.args.block.now c.args.blank.now
    (λ may. both_ways _ c.if-not-holds_no_record.true (c.holds_no_record.ensures.1 may.1))

pub returns : goal.returns
returns c =
    adds-one c.args.lbn c.args.block.now c.args.blank.now _
    (omega (arith, c.if-lbn-limit.false, c.limit.ensures), c.holds_no_record.ensures.0 c.if-not-holds_no_record.false)
    c.insert.ensures.limit c.insert.ensures.adds
