use Rattle.f11_image_store.specs.FileLaws.{room_in}
use Rattle.f11_files.proofs.Extending.AddRun.{fails-take, fits-one, run-may, fails-append, adds-run}
use Rattle.f11_files.proofs.Extending.TakenRun.{run-last}
use Rattle.f11_files.proofs.AnswerLemmas.{handed}
use Rattle.f11_files.proofs.Extending.Parts.{grows-marked, grows-then, growth-run, run-free, growth-marked}
use Rattle.f11_files.proofs.Removing.Freeing.{handed-stays, stays-then}
use Rattle.f11_files.proofs.structure.Structure.add_run.Goals as goal

pub returns-in_err-lbn-clause-refused : goal.returns-in_err-lbn-clause-refused
returns-in_err-lbn-clause-refused g c =
    handed _ c.from_residual.result _ c.from_residual.ensures.1
    (fails-take c.args.self.now c.args.tail.now c.args.from c.args.most _ _ _ c.in_err-lbn.ensures.refused)

pub append_run-requires-clause-last : goal.append_run-requires-clause-last
append_run-requires-clause-last g c =
    run-last c.args.self.now _ c.args.tail.now c.args.from c.args.most _ _ _ _ c.requires.is_for c.requires.last
    (λ honest. (c.requires.may honest).places.has_room.blocks) c.in_ok-lbn.ensures.taken
    (rw c.in_ok-lbn.was at c.take_next_run.ensures.stays)

pub append_run-requires-clause-fits : goal.append_run-requires-clause-fits
append_run-requires-clause-fits g c = fits-one (room_in c.args.tail.now.block) _ c.in_ok-lbn.ensures.taken.within.short

pub append_run-requires-clause-may : goal.append_run-requires-clause-may
append_run-requires-clause-may g c =
    run-may c.args.self.now _ c.args.tail.now c.args.from c.args.most _ _ _ _ c.requires.is_for c.requires.last c.requires.may
    c.in_ok-lbn.ensures.taken (rw c.in_ok-lbn.was at c.take_next_run.ensures.stays)

pub returns-in_err-append_run-clause-refused : goal.returns-in_err-append_run-clause-refused
returns-in_err-append_run-clause-refused g c =
    handed _ c.from_residual-in_err-append_run.result _ c.from_residual-in_err-append_run.ensures.1
    (fails-append c.args.self.now _ c.args.tail.now c.args.from c.args.most _ _ _ _ c.requires.is_for c.requires.last c.requires.may
    c.in_ok-lbn.ensures.taken (rw c.in_ok-lbn.was at c.take_next_run.ensures.stays) _ _ c.in_err-append_run.ensures.refused)

pub returns-clause-added : goal.returns-clause-added
returns-clause-added g c =
    adds-run c.args.self.now _ c.args.tail.now c.args.from c.args.most _ _ _ _ c.requires.is_for c.requires.last c.requires.may
    c.in_ok-lbn.ensures.taken (rw c.in_ok-lbn.was at c.take_next_run.ensures.stays) _ _ _ c.in_ok-append_run.ensures.appended
    (rw c.in_ok-append_run.was at c.append_run.ensures.stays)

pub returns-in_err-lbn-clause-confined : goal.returns-in_err-lbn-clause-confined
returns-in_err-lbn-clause-confined g c = λ _. growth-marked c.args.self.now c.args.tail.now _ c.take_next_run.ensures.confined

pub returns-in_err-append_run-clause-confined : goal.returns-in_err-append_run-clause-confined
returns-in_err-append_run-clause-confined g c =
    λ honest. growth-run c.args.self.now c.take_next_run.new.self c.args.tail.now _ _ _ _ _ _ _ honest c.in_ok-lbn.ensures.taken
    c.take_next_run.ensures.places c.take_next_run.ensures.confined c.append_run.ensures.confined

pub returns-clause-confined : goal.returns-clause-confined
returns-clause-confined g c =
    λ honest. growth-run c.args.self.now c.take_next_run.new.self c.args.tail.now _ _ _ _ _ _ _ honest c.in_ok-lbn.ensures.taken
    c.take_next_run.ensures.places c.take_next_run.ensures.confined c.append_run.ensures.confined

pub returns-clause-places : goal.returns-clause-places
returns-clause-places g c = λ honest.
    let s = c.args.self.now in
    let taken = c.in_ok-lbn.ensures.taken in
    let marked = grows-marked s c.take_next_run.new.self c.args.tail.now _ taken.index c.take_next_run.ensures.places in
    grows-then s c.take_next_run.new.self c.append_run.new.self c.args.tail.now c.args.tail.now c.append_run.new.tail _ _
    (run-free s c.take_next_run.new.self _ _ _ _ _ _ honest taken) marked c.in_ok-append_run.ensures.places

pub returns-in_err-append_run-clause-stays : goal.returns-in_err-append_run-clause-stays
returns-in_err-append_run-clause-stays g c =
    let fatal = c.in_err-append_run.ensures.refused.fatal in
    handed-stays c.from_residual-in_err-append_run.result _ _ _ _ c.from_residual-in_err-append_run.ensures.1 fatal
    (stays-then c.in_ok-lbn.ensures.stays.home (rw fatal at c.in_err-append_run.ensures.stays))
