use Rattle.std.proofs.Common.{◌∙◌, ap, inl, refl}
use Rattle.f11_store.specs.declared.files.FileId.{FileId}
use Rattle.f11_files.specs.GrowingIndex.Runs.{index_id}
use Rattle.f11_files.proofs.AnswerLemmas.{each-err, each-ok}
use Rattle.f11_files.proofs.Extending.Cleared.{holds-last}
use Rattle.f11_files.proofs.Removing.Freeing.{stays-then}
use Rattle.f11_files.proofs.GrowingIndex.GrowIndex.{reserved-room, wants-memory, fails-clearing, stays-clearing, may-grow-index}
use Rattle.f11_files.proofs.GrowingIndex.GrowIndex.{fails-growing, grows-held}
use Rattle.f11_files.proofs.Extending.Reserved.{reserved-for}
use Rattle.f11_files.proofs.Extending.Parts.{clearing-confined, growing-confined}
use Rattle.f11_files.proofs.structure.Structure.grow_held.Goals as goal

pub returns-in-Err-clause-refused : goal.returns-in-Err-clause-refused
returns-in-Err-clause-refused g c =
    wants-memory c.args.self.now c.args.n _ _ _ (g.D.Device.disk c.args.device.now) c.requires.is_for c.requires.room

pub returns-in-Err-clear_mark-clause-refused : goal.returns-in-Err-clear_mark-clause-refused
returns-in-Err-clear_mark-clause-refused g c =
    fails-clearing (record c.args.self.now { index = c.reserve.new.self }) c.args.n _ _ _ (g.D.Device.disk c.args.device.now)
    (reserved-for c.args.self.now c.reserve.new.self c.reserve.ensures.kept _ c.requires.is_for)
    (reserved-room c.args.self.now c.reserve.new.self c.reserve.ensures.kept c.args.n _ _ _ _ c.requires.room) _
    (rw c.index_id.ensures at c.in-Err-clear_mark.ensures.failed)

pub returns-in-Err-clear_mark-clause-stays : goal.returns-in-Err-clear_mark-clause-stays
returns-in-Err-clear_mark-clause-stays g c =
    stays-then refl
    (stays-clearing (record c.args.self.now { index = c.reserve.new.self }) c.args.n _ _ _ (g.D.Device.disk c.args.device.now)
    (reserved-for c.args.self.now c.reserve.new.self c.reserve.ensures.kept _ c.requires.is_for)
    (reserved-room c.args.self.now c.reserve.new.self c.reserve.ensures.kept c.args.n _ _ _ _ c.requires.room) _
    (rw c.index_id.ensures at c.in-Err-clear_mark.ensures.failed))

pub grow_by-requires-clause-last : goal.grow_by-requires-clause-last
grow_by-requires-clause-last g c =
    holds-last (record c.args.self.now { index = c.reserve.new.self }) index_id _ _ _ (g.D.Device.disk c.args.device.now)
    (reserved-for c.args.self.now c.reserve.new.self c.reserve.ensures.kept _ c.requires.is_for)
    (reserved-room c.args.self.now c.reserve.new.self c.reserve.ensures.kept c.args.n _ _ _ _ c.requires.room).room.ends
    _ _ (rw c.index_id.ensures at c.in-Ok-clear_mark.ensures.clears) _ (rw c.index_id-2.ensures at c.tail_of-tail.ensures.tail)

pub grow_by-requires-clause-gets : goal.grow_by-requires-clause-gets
grow_by-requires-clause-gets g c = inl (ap (λ (f : FileId). f.number) (c.tail_of-tail.ensures.tail.file_is ∙ c.index_id-2.ensures))

pub grow_by-requires-clause-may : goal.grow_by-requires-clause-may
grow_by-requires-clause-may g c =
    rw c.tail_of-tail.ensures.tail.file_is (rw c.index_id-2.ensures (
    may-grow-index (record c.args.self.now { index = c.reserve.new.self }) c.args.n _ _ _ (g.D.Device.disk c.args.device.now)
    (reserved-for c.args.self.now c.reserve.new.self c.reserve.ensures.kept _ c.requires.is_for)
    (reserved-room c.args.self.now c.reserve.new.self c.reserve.ensures.kept c.args.n _ _ _ _ c.requires.room)
    _ _ (rw c.index_id.ensures at c.in-Ok-clear_mark.ensures.clears)))

pub returns-clause-refused : goal.returns-clause-refused
returns-clause-refused g c =
    each-err c.grow_by.result
    (λ r breaks.
    fails-growing (record c.args.self.now { index = c.reserve.new.self }) c.args.n _ _ _ (g.D.Device.disk c.args.device.now)
    (reserved-for c.args.self.now c.reserve.new.self c.reserve.ensures.kept _ c.requires.is_for)
    (reserved-room c.args.self.now c.reserve.new.self c.reserve.ensures.kept c.args.n _ _ _ _ c.requires.room)
    _ _ (rw c.index_id.ensures at c.in-Ok-clear_mark.ensures.clears) r (g.D.Device.disk c.grow_by.new.device)
    (rw c.index_id-2.ensures at (rw c.tail_of-tail.ensures.tail.file_is at breaks)))
    c.grow_by.ensures.refused

pub returns-clause-grown : goal.returns-clause-grown
returns-clause-grown g c =
    each-ok c.grow_by.result
    (λ grown.
    grows-held (record c.args.self.now { index = c.reserve.new.self }) c.args.n _ _ _ (g.D.Device.disk c.args.device.now)
    (reserved-for c.args.self.now c.reserve.new.self c.reserve.ensures.kept _ c.requires.is_for)
    (reserved-room c.args.self.now c.reserve.new.self c.reserve.ensures.kept c.args.n _ _ _ _ c.requires.room)
    _ _ (rw c.index_id.ensures at c.in-Ok-clear_mark.ensures.clears) _ (rw c.index_id-2.ensures at c.tail_of-tail.ensures.tail) _
    (rw c.index_id-2.ensures at (rw c.tail_of-tail.ensures.tail.file_is at grown)))
    c.grow_by.ensures.grown

pub returns-in-Err-clear_mark-clause-confined : goal.returns-in-Err-clear_mark-clause-confined
returns-in-Err-clear_mark-clause-confined g c =
    λ honest. clearing-confined c.args.self.now c.reserve.new.self index_id _ _ _ _ c.requires.is_for c.requires.room.room.ends
    c.reserve.ensures.kept honest (rw c.index_id.ensures at c.clear_mark.ensures.confined)

pub returns-clause-confined : goal.returns-clause-confined
returns-clause-confined g c = λ honest.
    growing-confined c.args.self.now c.reserve.new.self index_id _ _ _ _ c.requires.is_for c.requires.room.room.ends c.reserve.ensures.kept
    honest (rw c.index_id.ensures at c.in-Ok-clear_mark.ensures.clears) (rw c.index_id-2.ensures at c.tail_of-tail.ensures.tail)
    (rw c.index_id.ensures at c.clear_mark.ensures.confined) c.grow_by.ensures.confined
