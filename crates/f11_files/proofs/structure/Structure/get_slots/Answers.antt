use Rattle.std.proofs.Common.{IsTrue, length, refl, arith}
use Rattle.f11_index.specs.IndexFile.{slots, free_slots_in}
use Rattle.f11_files.specs.GrowingIndex.First.{if_fit, FailsToGetSlots}
use Rattle.f11_store.specs.Headroom.{may_get_slots}
use Rattle.f11_files.specs.Operations.{IsSpaceOf}
use Rattle.f11_files.specs.Structure.{home_of, index_in, store_on}
use Rattle.f11_files.proofs.AnswerLemmas.{each-err, each-ok, handed}
use Rattle.f11_files.proofs.Behind.{unread-wants}
use Rattle.f11_files.proofs.GrowingIndex.First.{confined-first, confined-looked, fails-first, got-first, lacks-fit, room-first}
use Rattle.f11_files.proofs.Opening.Kept.{looked-for}
use Rattle.f11_files.proofs.Opening.Space.{space-is}
use Rattle.f11_files.proofs.structure.Structure.get_slots.Goals as goal

pub returns-in_err-end-clause-refused : goal.returns-in_err-end-clause-refused
returns-in_err-end-clause-refused g c =
    handed (λ r. FailsToGetSlots (home_of c.args.self.now) c.args.slots c.args.n r (g.D.Device.disk c.args.device.now)
    (g.D.Device.disk c.find_index_end.new.device)) c.from_residual.result _ c.from_residual.ensures.1
    (unread-wants (omega arith) c.in_err-end.ensures.refused)

pub returns-in_err-judge_slots-clause-refused : goal.returns-in_err-judge_slots-clause-refused
returns-in_err-judge_slots-clause-refused g c =
    let s = c.args.self.now in
    let old = g.D.Device.disk c.args.device.now in
    let space : IsTrue old.honest
    → IsSpaceOf (store_on s old) c.free.result (length (free_slots_in (index_in s))) (slots (index_in s)) = λ honest.
    space-is s old c.requires.is_for honest _ _ _ c.free.ensures.free refl refl in
    handed (λ r. FailsToGetSlots (home_of s) c.args.slots c.args.n r old (g.D.Device.disk c.find_index_end.new.device))
    c.from_residual-in_err-judge_slots.result _ c.from_residual-in_err-judge_slots.ensures.1
    (lacks-fit s c.args.n c.args.slots old c.requires.is_for c.requires.some _ _ _ _ c.in_ok-end.ensures.end _ _ _ _ c.room_of.ensures
    c.slots_left.ensures c.do_fit-fit.ensures space _ c.in_err-judge_slots.ensures.refused)

pub grow_held-requires-clause-room : goal.grow_held-requires-clause-room
grow_held-requires-clause-room g c =
    let s = c.args.self.now in
    let old = g.D.Device.disk c.args.device.now in
    let space : IsTrue old.honest
    → IsSpaceOf (store_on s old) c.free.result (length (free_slots_in (index_in s))) (slots (index_in s)) = λ honest.
    space-is s old c.requires.is_for honest _ _ _ c.free.ensures.free refl refl in
    room-first s c.args.n c.args.slots old c.requires.is_for c.requires.some _ _ _ _ c.in_ok-end.ensures.end _ _ _ _ c.room_of.ensures
    c.slots_left.ensures c.do_fit-fit.ensures space c.in_ok-judge_slots.ensures.room

pub returns-clause-got : goal.returns-clause-got
returns-clause-got g c =
    let s = c.args.self.now in
    let old = g.D.Device.disk c.args.device.now in
    let space : IsTrue old.honest
    → IsSpaceOf (store_on s old) c.free.result (length (free_slots_in (index_in s))) (slots (index_in s)) = λ honest.
    space-is s old c.requires.is_for honest _ _ _ c.free.ensures.free refl refl in
    each-ok c.grow_held.result
    (got-first s c.args.n c.args.slots old c.requires.is_for c.requires.some _ _ _ _ c.in_ok-end.ensures.end _ _ _ _ c.room_of.ensures
    c.slots_left.ensures c.do_fit-fit.ensures space c.in_ok-judge_slots.ensures.room (g.D.Device.disk c.grow_held.new.device))
    c.grow_held.ensures.grown

pub returns-clause-refused : goal.returns-clause-refused
returns-clause-refused g c =
    let s = c.args.self.now in
    let old = g.D.Device.disk c.args.device.now in
    let space : IsTrue old.honest
    → IsSpaceOf (store_on s old) c.free.result (length (free_slots_in (index_in s))) (slots (index_in s)) = λ honest.
    space-is s old c.requires.is_for honest _ _ _ c.free.ensures.free refl refl in
    each-err c.grow_held.result
    (λ r. fails-first s c.args.n c.args.slots old c.requires.is_for c.requires.some _ _ _ _ c.in_ok-end.ensures.end _ _ _ _
    c.room_of.ensures c.slots_left.ensures c.do_fit-fit.ensures space c.in_ok-judge_slots.ensures.room r
    (g.D.Device.disk c.grow_held.new.device))
    c.grow_held.ensures.refused

pub returns-in_err-end-clause-confined : goal.returns-in_err-end-clause-confined
returns-in_err-end-clause-confined g c = λ honest.
    confined-looked (if_fit (may_get_slots (store_on c.args.self.now (g.D.Device.disk c.args.device.now)) c.args.slots) c.args.slots)
    (home_of c.args.self.now) _ _ c.in_err-end.ensures.refused.reads.looked

pub returns-in_err-judge_slots-clause-confined : goal.returns-in_err-judge_slots-clause-confined
returns-in_err-judge_slots-clause-confined g c = λ honest.
    confined-looked (if_fit (may_get_slots (store_on c.args.self.now (g.D.Device.disk c.args.device.now)) c.args.slots) c.args.slots)
    (home_of c.args.self.now) _ _ c.in_ok-end.ensures.end.ends.looked.looked

pub returns-clause-confined : goal.returns-clause-confined
returns-clause-confined g c = λ honest.
    let s = c.args.self.now in
    let old = g.D.Device.disk c.args.device.now in
    let space : IsTrue old.honest
    → IsSpaceOf (store_on s old) c.free.result (length (free_slots_in (index_in s))) (slots (index_in s)) = λ honest.
    space-is s old c.requires.is_for honest _ _ _ c.free.ensures.free refl refl in
    confined-first s c.args.n c.args.slots old c.requires.is_for c.requires.some _ _ _ _ c.in_ok-end.ensures.end _ _ _ _ c.room_of.ensures
    c.slots_left.ensures c.do_fit-fit.ensures space c.in_ok-judge_slots.ensures.room honest c.grow_held.ensures.confined

pub grow_held-requires-clause-is_for : goal.grow_held-requires-clause-is_for
grow_held-requires-clause-is_for g c =
    looked-for c.args.self.now _ _ _ _ c.requires.is_for c.in_ok-end.ensures.end.ends.looked.looked
