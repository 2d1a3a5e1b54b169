use Rattle.std.proofs.Common.{◌-◌, ◌+◌, ◌≤◌, arith}
use Rattle.f11_vfy.specs.Surveying.Slot.{kept_slot}
use Rattle.f11_vfy.proofs.Scanning.Contiguous.{along-begin, along-more, kept-lie, along-end, along-last}
use Rattle.f11_vfy.proofs.findings.contiguous.extent_of_file.Goals as goal
use Rattle.f11_vfy.proofs.findings.contiguous.extent_of_file.Goals.{then-n-eq0-via-then-n-eq0, then-n-eq0-via-else-n-eq0+then-n-slots}

pub loop-init : goal.loop-init
loop-init c = λ t keeps knows live. along-begin t c.args.first (knows.fit.low c.args.first live.in_use) live

pub loop-preserved : goal.loop-preserved
loop-preserved c = λ t keeps knows live.
    let along = c.loop.invariant t keeps knows live in
    let some : 1 ≤ c.loop.n = omega (arith, c.if-n-eq0.false) in
    along-more t c.args.first c.loop.extent (kept_slot c.args.slots.now (c.loop.n - 1)).extent c.join-extent.result c.loop.n
    (256 - c.loop.counter) (256 - (c.loop.counter + 1)) along some
    (omega (arith, c.loop-test.true)) (kept-lie t c.args.slots.now c.loop.n keeps (along.live some)) c.join-extent.ensures c.args.nexts.now
    c.from-n.result knows c.from-n.ensures

pub returns-then-n-eq0 : goal.returns-then-n-eq0
returns-then-n-eq0 c = λ t keeps knows live.
    let along = c.loop.invariant t keeps knows live in
    elim c.then-n-eq0.branch [
      | then-n-eq0-via-then-n-eq0 w ↦ along-end t c.args.first c.loop.extent c.loop.n (256 - c.loop.counter) along w.if-n-eq0.true
      | then-n-eq0-via-else-n-eq0+then-n-slots w ↦
          let high = keeps.fit.high c.loop.n (along.live (omega (arith, w.if-n-eq0.false))).in_use in
          absurd (omega (arith, high, keeps.keeps.count, w.if-n-slots.true))
    ]

pub returns : goal.returns
returns c =
    λ t keeps knows live. along-last t c.args.first c.loop.extent c.loop.n (256 - c.loop.counter) (c.loop.invariant t keeps knows live)
    (omega (arith, c.loop-test.false))
