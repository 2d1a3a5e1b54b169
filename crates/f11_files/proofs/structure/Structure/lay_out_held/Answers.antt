use Rattle.std.proofs.Common.{refl, ◌∙◌}
use Rattle.f11_files.specs.LayingOut.Whole.{lost}
use Rattle.f11_files.proofs.AnswerLemmas.{handed, not-clean}
use Rattle.f11_files.proofs.LayingOut.Held.{taken-empty, taken-for, taken-last, taken-may, taken-within}
use Rattle.f11_files.proofs.LayingOut.Made.{lays-out-held}
use Rattle.f11_files.proofs.LayingOut.Parts.{laying-confined, marking-confined, taking-confined}
use Rattle.f11_files.proofs.LayingOut.Refused.{breaks-lay, breaks-mark, breaks-take, broken-stays, fails-held, fatal-unclean, finds-no-run}
use Rattle.f11_files.proofs.LayingOut.Refused.{held-stays}
use Rattle.f11_files.proofs.Removing.Freeing.{handed-stays, stays-for, stays-then}
use Rattle.f11_files.proofs.structure.Structure.lay_out_held.Goals as goal

pub returns-in-Ok-None-clause-refused : goal.returns-in-Ok-None-clause-refused
returns-in-Ok-None-clause-refused g c =
    finds-no-run c.args.self.now c.args.f c.args.n c.args.end _ _ _ c.requires.is_for c.requires.own c.requires.some c.requires.room
    (g.met.D.Device.is_image c.args.device.now) _ (rw c.in-Ok-None.field-0-is at c.in-Ok-None.ensures.none)

pub returns-in-Ok-None-clause-confined : goal.returns-in-Ok-None-clause-confined
returns-in-Ok-None-clause-confined g c = λ honest. taking-confined c.args.self.now _ _ c.take_whole_run.ensures.confined

pub returns-in-Err-clause-refused : goal.returns-in-Err-clause-refused
returns-in-Err-clause-refused g c =
    fails-held c.args.self.now c.args.f c.args.n c.args.end _ _ _ c.requires.is_for c.requires.own c.requires.some c.requires.room
    (g.met.D.Device.is_image c.args.device.now) _ _
    (breaks-take c.args.self.now c.args.f c.args.n c.args.end _ _ _ c.requires.is_for c.requires.own c.requires.some c.requires.room
    (g.met.D.Device.is_image c.args.device.now) _ c.in-Err.ensures.failed)

pub returns-in-Err-clause-stays : goal.returns-in-Err-clause-stays
returns-in-Err-clause-stays g c =
    held-stays c.args.self.now c.args.f c.args.n c.args.end _ _ _ c.requires.is_for c.requires.own c.requires.some c.requires.room
    (g.met.D.Device.is_image c.args.device.now) _ _ _ c.take_whole_run.ensures.home
    (breaks-take c.args.self.now c.args.f c.args.n c.args.end _ _ _ c.requires.is_for c.requires.own c.requires.some c.requires.room
    (g.met.D.Device.is_image c.args.device.now) _ c.in-Err.ensures.failed)

pub returns-in-Err-clause-confined : goal.returns-in-Err-clause-confined
returns-in-Err-clause-confined g c = λ honest. taking-confined c.args.self.now _ _ c.take_whole_run.ensures.confined

pub lay_run-requires-clause-is_for : goal.lay_run-requires-clause-is_for
lay_run-requires-clause-is_for g c =
    taken-for c.args.self.now c.args.f c.args.n c.args.end _ _ _ c.requires.is_for c.requires.own c.requires.room
    (g.met.D.Device.is_image c.args.device.now) _ c.tail_of-tail.ensures.tail _ _ _
    (rw c.in-Ok-Some.field-0-is at c.in-Ok-Some.ensures.taken) c.in-Ok-Some.ensures.stays

pub lay_run-requires-clause-last : goal.lay_run-requires-clause-last
lay_run-requires-clause-last g c =
    taken-last c.args.self.now c.args.f c.args.n c.args.end _ _ _ c.requires.is_for c.requires.own c.requires.room
    (g.met.D.Device.is_image c.args.device.now) _ c.tail_of-tail.ensures.tail _ _ _
    (rw c.in-Ok-Some.field-0-is at c.in-Ok-Some.ensures.taken) c.in-Ok-Some.ensures.stays

pub lay_run-requires-clause-own : goal.lay_run-requires-clause-own
lay_run-requires-clause-own g c = rw c.tail_of-tail.ensures.tail.file_is c.requires.own

pub lay_run-requires-clause-within : goal.lay_run-requires-clause-within
lay_run-requires-clause-within g c =
    taken-within c.args.self.now c.args.f c.args.n c.args.end _ _ _ c.requires.is_for c.requires.own c.requires.room
    (g.met.D.Device.is_image c.args.device.now) _ c.tail_of-tail.ensures.tail _ _ _
    (rw c.in-Ok-Some.field-0-is at c.in-Ok-Some.ensures.taken) c.in-Ok-Some.ensures.stays

pub lay_run-requires-clause-empty : goal.lay_run-requires-clause-empty
lay_run-requires-clause-empty g c =
    taken-empty c.args.self.now c.args.f c.args.n c.args.end _ _ _ c.requires.is_for c.requires.own c.requires.room
    (g.met.D.Device.is_image c.args.device.now) _ c.tail_of-tail.ensures.tail _ _ _
    (rw c.in-Ok-Some.field-0-is at c.in-Ok-Some.ensures.taken) c.in-Ok-Some.ensures.stays

pub lay_run-requires-clause-may : goal.lay_run-requires-clause-may
lay_run-requires-clause-may g c =
    taken-may c.args.self.now c.args.f c.args.n c.args.end _ _ _ c.requires.is_for c.requires.own c.requires.room
    (g.met.D.Device.is_image c.args.device.now) _ c.tail_of-tail.ensures.tail _ _ _
    (rw c.in-Ok-Some.field-0-is at c.in-Ok-Some.ensures.taken) c.in-Ok-Some.ensures.stays

pub returns-in_err-lay_run-clause-refused : goal.returns-in_err-lay_run-clause-refused
returns-in_err-lay_run-clause-refused g c =
    handed _ c.from_residual.result _ c.from_residual.ensures.1
    (fails-held c.args.self.now c.args.f c.args.n c.args.end _ _ _ c.requires.is_for c.requires.own c.requires.some c.requires.room
    (g.met.D.Device.is_image c.args.device.now) _ _
    (breaks-lay c.args.self.now c.args.f c.args.n c.args.end _ _ _ c.requires.is_for c.requires.own c.requires.some c.requires.room
    (g.met.D.Device.is_image c.args.device.now) _ c.tail_of-tail.ensures.tail _ _ _
    (rw c.in-Ok-Some.field-0-is at c.in-Ok-Some.ensures.taken) c.in-Ok-Some.ensures.stays _ _ c.in_err-lay_run.ensures.refused))

pub returns-in_err-lay_run-clause-stays : goal.returns-in_err-lay_run-clause-stays
returns-in_err-lay_run-clause-stays g c =
    handed-stays c.from_residual.result _ _ _ _ c.from_residual.ensures.1 c.in_err-lay_run.ensures.refused.fatal
    (held-stays c.args.self.now c.args.f c.args.n c.args.end _ _ _ c.requires.is_for c.requires.own c.requires.some c.requires.room
    (g.met.D.Device.is_image c.args.device.now) _ _ _ (c.lay_run.ensures.stays.home ∙ c.take_whole_run.ensures.home)
    (breaks-lay c.args.self.now c.args.f c.args.n c.args.end _ _ _ c.requires.is_for c.requires.own c.requires.some c.requires.room
    (g.met.D.Device.is_image c.args.device.now) _ c.tail_of-tail.ensures.tail _ _ _
    (rw c.in-Ok-Some.field-0-is at c.in-Ok-Some.ensures.taken) c.in-Ok-Some.ensures.stays _ _ c.in_err-lay_run.ensures.refused))

pub returns-in_err-lay_run-clause-counts : goal.returns-in_err-lay_run-clause-counts
returns-in_err-lay_run-clause-counts g c =
    not-clean c.from_residual.result _ c.from_residual.ensures.1 c.in_err-lay_run.ensures.refused.fatal

pub returns-in_err-lay_run-clause-confined : goal.returns-in_err-lay_run-clause-confined
returns-in_err-lay_run-clause-confined g c = λ honest.
    laying-confined c.args.self.now c.args.f c.args.end _ _ _ c.requires.is_for c.requires.room.ends honest _ _ _ _
    (rw c.in-Ok-Some.field-0-is at c.in-Ok-Some.ensures.taken) c.take_whole_run.ensures.places c.take_whole_run.ensures.confined _
    c.tail_of-tail.ensures.tail c.lay_run.ensures.confined

pub returns-in-Ok-clause-laid : goal.returns-in-Ok-clause-laid
returns-in-Ok-clause-laid g c =
    lays-out-held c.args.self.now c.args.f c.args.n c.args.end _ _ _ c.requires.is_for c.requires.own c.requires.room
    (g.met.D.Device.is_image c.args.device.now) _ c.tail_of-tail.ensures.tail _ _ _
    (rw c.in-Ok-Some.field-0-is at c.in-Ok-Some.ensures.taken) c.in-Ok-Some.ensures.stays c.lay_run.new.self _
    c.in_ok-lay_run.ensures.laid (rw c.in_ok-lay_run.was at c.lay_run.ensures.stays) (g.met.D.Device.is_image c.lay_run.new.device) _
    c.in-Ok.ensures.altered (c.in-Ok.ensures.gains refl)

pub returns-in-Ok-clause-stays : goal.returns-in-Ok-clause-stays
returns-in-Ok-clause-stays g c =
    stays-then (c.lay_run.ensures.stays.home ∙ c.take_whole_run.ensures.home) c.in-Ok.ensures.stays

pub returns-in-Ok-clause-confined : goal.returns-in-Ok-clause-confined
returns-in-Ok-clause-confined g c = λ honest.
    marking-confined c.args.self.now c.args.f c.args.end _ _ _ c.requires.is_for c.requires.room.ends honest _ _ _ _
    (rw c.in-Ok-Some.field-0-is at c.in-Ok-Some.ensures.taken) c.take_whole_run.ensures.places c.take_whole_run.ensures.confined _
    c.tail_of-tail.ensures.tail c.lay_run.ensures.confined _ _
    c.in_ok-lay_run.ensures.places c.alter.ensures.confined

pub returns-in-Err-alter-clause-refused : goal.returns-in-Err-alter-clause-refused
returns-in-Err-alter-clause-refused g c =
    rw c.when_found.ensures (fails-held c.args.self.now c.args.f c.args.n c.args.end _ _ _ c.requires.is_for c.requires.own c.requires.some
    c.requires.room (g.met.D.Device.is_image c.args.device.now) _ _
    (breaks-mark c.args.self.now c.args.f c.args.n c.args.end _ _ _ c.requires.is_for c.requires.own c.requires.some c.requires.room
    (g.met.D.Device.is_image c.args.device.now) _ c.tail_of-tail.ensures.tail _ _ _
    (rw c.in-Ok-Some.field-0-is at c.in-Ok-Some.ensures.taken) c.in-Ok-Some.ensures.stays c.lay_run.new.self _
    c.in_ok-lay_run.ensures.laid (rw c.in_ok-lay_run.was at c.lay_run.ensures.stays) (g.met.D.Device.is_image c.lay_run.new.device) _ _
    c.in-Err-alter.ensures.refused))

pub returns-in-Err-alter-clause-confined : goal.returns-in-Err-alter-clause-confined
returns-in-Err-alter-clause-confined g c = λ honest.
    marking-confined c.args.self.now c.args.f c.args.end _ _ _ c.requires.is_for c.requires.room.ends honest _ _ _ _
    (rw c.in-Ok-Some.field-0-is at c.in-Ok-Some.ensures.taken) c.take_whole_run.ensures.places c.take_whole_run.ensures.confined _
    c.tail_of-tail.ensures.tail c.lay_run.ensures.confined _ _
    c.in_ok-lay_run.ensures.places c.alter.ensures.confined

pub returns-in-Ok-None-clause-counts : goal.returns-in-Ok-None-clause-counts
returns-in-Ok-None-clause-counts g c = λ _. (rw c.in-Ok-None.field-0-is at c.in-Ok-None.ensures.counts)

pub alter-requires-clause-is_for : goal.alter-requires-clause-is_for
alter-requires-clause-is_for g c = stays-for (rw c.in_ok-lay_run.was at c.lay_run.ensures.stays)

pub alter-requires-clause-holds : goal.alter-requires-clause-holds
alter-requires-clause-holds g c = c.in_ok-lay_run.ensures.last.header

pub returns-in-Err-alter-clause-stays : goal.returns-in-Err-alter-clause-stays
returns-in-Err-alter-clause-stays g c =
    rw c.when_found.ensures (broken-stays c.args.self.now c.args.f c.args.n c.args.end _ _ _ c.requires.is_for c.requires.own
    c.requires.some c.requires.room (g.met.D.Device.is_image c.args.device.now) c.lay_run.new.self _ _
    (c.lay_run.ensures.stays.home ∙ c.take_whole_run.ensures.home)
    (breaks-mark c.args.self.now c.args.f c.args.n c.args.end _ _ _ c.requires.is_for c.requires.own c.requires.some c.requires.room
    (g.met.D.Device.is_image c.args.device.now) _ c.tail_of-tail.ensures.tail _ _ _
    (rw c.in-Ok-Some.field-0-is at c.in-Ok-Some.ensures.taken) c.in-Ok-Some.ensures.stays c.lay_run.new.self _
    c.in_ok-lay_run.ensures.laid (rw c.in_ok-lay_run.was at c.lay_run.ensures.stays) (g.met.D.Device.is_image c.lay_run.new.device) _ _
    c.in-Err-alter.ensures.refused))

pub returns-in-Err-alter-clause-counts : goal.returns-in-Err-alter-clause-counts
returns-in-Err-alter-clause-counts g c =
    rw c.when_found.ensures (λ clean. fatal-unclean (lost c.in-Err-alter.refusal)
    (breaks-mark c.args.self.now c.args.f c.args.n c.args.end _ _ _ c.requires.is_for c.requires.own c.requires.some c.requires.room
    (g.met.D.Device.is_image c.args.device.now) _ c.tail_of-tail.ensures.tail _ _ _
    (rw c.in-Ok-Some.field-0-is at c.in-Ok-Some.ensures.taken) c.in-Ok-Some.ensures.stays c.lay_run.new.self _
    c.in_ok-lay_run.ensures.laid (rw c.in_ok-lay_run.was at c.lay_run.ensures.stays) (g.met.D.Device.is_image c.lay_run.new.device) _
    (g.D.Device.disk c.alter.new.device) c.in-Err-alter.ensures.refused).fatal clean)
