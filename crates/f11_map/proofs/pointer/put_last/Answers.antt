use Rattle.std.proofs.Common.{◌+◌, ◌*◌, ◌≤◌, length, arith}
use Rattle.f11_map.proofs.PointerLemmas.{Rewrites-last, runs_of-last, WritesPointers-from}
use Rattle.f11_map.proofs.pointer.put_last.Goals as goal

pub returns-clause-pointers : goal.returns-clause-pointers
returns-clause-pointers c =
    rw (c.put_words_in_use.ensures, c.put_pointer.ensures)
    (runs_of-last c.args.area.now c.args.i (c.args.lbn, c.args.count) (omega arith) (omega arith) c.requires.pointer)

pub returns-clause-rest : goal.returns-clause-rest
returns-clause-rest c =
    let room : 14 + 4 * c.args.i ≤ length c.args.area.now = omega arith in
    let writes = Rewrites-last c.args.area.now c.args.i (c.args.lbn, c.args.count) room in
    rw (c.put_words_in_use.ensures, c.put_pointer.ensures)
    (WritesPointers-from c.args.area.now _ c.args.i (c.args.i + 1) writes c.requires.is_map (omega arith))
