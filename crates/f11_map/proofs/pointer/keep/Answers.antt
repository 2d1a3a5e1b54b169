use Rattle.std.proofs.Common.{◌≤◌, arith}
use Rattle.f11_header.specs.MapFields.{places}
use Rattle.f11_map.proofs.MapLemmas.{length-runs_of-le}
use Rattle.f11_map.proofs.PointerLemmas.{Rewrites-kept, runs_of-kept, WritesPointers-from}
use Rattle.f11_map.proofs.pointer.keep.Goals as goal

pub returns-clause-pointers : goal.returns-clause-pointers
returns-clause-pointers c =
    rw c.put_words_in_use.ensures
    (runs_of-kept c.args.area.now _ c.args.pointers (Rewrites-kept c.args.area.now c.args.pointers c.requires.is_map.fields)
    c.requires.pointers)

pub returns-clause-rest : goal.returns-clause-rest
returns-clause-rest c =
    let few : c.args.pointers ≤ places c.args.area.now = omega (arith, length-runs_of-le c.args.area.now c.requires.is_map) in
    rw c.put_words_in_use.ensures
    (WritesPointers-from c.args.area.now _ c.args.pointers c.args.pointers
    (Rewrites-kept c.args.area.now c.args.pointers c.requires.is_map.fields) c.requires.is_map few)
