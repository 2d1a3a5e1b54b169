use Rattle.std.proofs.Common.{◌-◌, false, refl, arith}
use Rattle.f11_dev.proofs.LookedLemmas.{looked_none}
use Rattle.f11_store.specs.Headroom.{slots_first}
use Rattle.f11_files.specs.GrowingIndex.Headroom.{FailsToReady}
use Rattle.f11_files.specs.Structure.{home_of, store_on}
use Rattle.f11_files.proofs.AnswerLemmas.{handed}
use Rattle.f11_files.proofs.GrowingIndex.First.{confined-looked}
use Rattle.f11_files.proofs.GrowingIndex.Ready.{confined-some, fails-ready, lacks-blocks, readies-none, readies-some}
use Rattle.f11_files.proofs.Opening.Space.{space-is}
use Rattle.f11_files.proofs.structure.Structure.ready_headers.Goals as goal

pub returns-in_err-get_slots-clause-refused : goal.returns-in_err-get_slots-clause-refused
returns-in_err-get_slots-clause-refused g c =
    let s = c.args.self.now in
    let old = g.D.Device.disk c.args.device.now in
    handed (λ r. FailsToReady false (home_of s) c.args.headers c.args.n r old (g.D.Device.disk c.get_slots.new.device))
    c.from_residual.result _ c.from_residual.ensures.1
    (fails-ready s c.args.headers c.args.n (c.args.headers - c.min.result) old c.requires.is_for
    (let one = c.min.ensures in let two = c.headers_for.ensures in omega (arith, one, two)) c.if-lacking-gt0.true _ _
    c.in_err-get_slots.ensures.refused)

pub returns-in_err-get_slots-clause-confined : goal.returns-in_err-get_slots-clause-confined
returns-in_err-get_slots-clause-confined g c =
    confined-some c.args.self.now c.args.headers c.args.n (c.args.headers - c.min.result) _ c.requires.is_for
    (let one = c.min.ensures in let two = c.headers_for.ensures in omega (arith, one, two)) c.if-lacking-gt0.true _
    c.get_slots.ensures.confined

pub returns-then-lacking-gt0-clause-ready : goal.returns-then-lacking-gt0-clause-ready
returns-then-lacking-gt0-clause-ready g c =
    readies-some c.args.self.now c.args.headers c.args.n (c.args.headers - c.min.result) _ c.requires.is_for
    (let one = c.min.ensures in let two = c.headers_for.ensures in omega (arith, one, two)) c.if-lacking-gt0.true _ _
    c.in_ok-get_slots.ensures.got c.in_ok-get_slots.ensures.stays

pub returns-then-lacking-gt0-clause-confined : goal.returns-then-lacking-gt0-clause-confined
returns-then-lacking-gt0-clause-confined g c =
    confined-some c.args.self.now c.args.headers c.args.n (c.args.headers - c.min.result) _ c.requires.is_for
    (let one = c.min.ensures in let two = c.headers_for.ensures in omega (arith, one, two)) c.if-lacking-gt0.true _
    c.get_slots.ensures.confined

pub returns-then-free-n-clause-refused : goal.returns-then-free-n-clause-refused
returns-then-free-n-clause-refused g c =
    lacks-blocks c.args.self.now c.args.headers c.args.n (c.args.headers - c.min.result) _ c.requires.is_for
    (let one = c.min.ensures in let two = c.headers_for.ensures in omega (arith, one, two)) c.free.result
    (let none = c.if-lacking-gt0.false in omega (arith, none))
    (λ honest. (space-is c.args.self.now _ c.requires.is_for honest _ _ _ c.free.ensures.free refl refl).blocks_are) c.if-free-n.true

pub returns-then-free-n-clause-confined : goal.returns-then-free-n-clause-confined
returns-then-free-n-clause-confined g c =
    λ honest. confined-looked (slots_first (store_on c.args.self.now (g.D.Device.disk c.args.device.now)) c.args.headers)
    (home_of c.args.self.now) _ _ (looked_none (g.D.Device.disk c.args.device.now))

pub returns-clause-ready : goal.returns-clause-ready
returns-clause-ready g c =
    readies-none c.args.self.now c.args.headers c.args.n (c.args.headers - c.min.result) _ c.requires.is_for
    (let one = c.min.ensures in let two = c.headers_for.ensures in omega (arith, one, two)) c.free.result
    (let none = c.if-lacking-gt0.false in omega (arith, none))
    (λ honest. (space-is c.args.self.now _ c.requires.is_for honest _ _ _ c.free.ensures.free refl refl).blocks_are) c.if-free-n.false

pub returns-clause-confined : goal.returns-clause-confined
returns-clause-confined g c =
    λ honest. confined-looked (slots_first (store_on c.args.self.now (g.D.Device.disk c.args.device.now)) c.args.headers)
    (home_of c.args.self.now) _ _ (looked_none (g.D.Device.disk c.args.device.now))
