use Rattle.f11_files.proofs.GrowingIndex.Room.{end-fails, end-gone}
use Rattle.f11_files.proofs.structure.Structure.find_index_end.Goals as goal

pub returns-in-Ok-clause-end : goal.returns-in-Ok-clause-end
returns-in-Ok-clause-end g c = rw c.index_id.ensures at c.in-Ok.ensures.end

pub returns-then-is_no_file-clause-refused : goal.returns-then-is_no_file-clause-refused
returns-then-is_no_file-clause-refused g c =
    end-gone c.args.self.now _ c.requires.is_for _ _ _ c.is_no_file.ensures c.if-is_no_file.true
    (rw c.index_id.ensures at c.in-Err.ensures.refused)

pub returns-else-is_no_file-clause-refused : goal.returns-else-is_no_file-clause-refused
returns-else-is_no_file-clause-refused g c =
    end-fails c.args.self.now _ c.requires.is_for _ _ _ c.is_no_file.ensures c.if-is_no_file.false
    (rw c.index_id.ensures at c.in-Err.ensures.refused)
