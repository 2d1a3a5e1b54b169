use Rattle.std.proofs.Common.{◌<◌, arith}
use Rattle.f11_bits.proofs.RoomLemmas.{first_room-on, first_room-next}
use Rattle.f11_bits.proofs.bits.next_room.Goals as goal

pub returns-then-clear-rest-clause-room : goal.returns-then-clear-rest-clause-room
returns-then-clear-rest-clause-room c = λ free are room.
    first_room-on free c.args.n c.args.begin c.args.start c.args.end c.min-rest.result c.args.block.now are c.requires.above
    (omega (arith, c.min-rest.ensures))
    (λ k low high. c.first_clear-clear.ensures.each k low (omega (arith, high, c.if-clear-rest.true))) room

pub returns-clause-room : goal.returns-clause-room
returns-clause-room c = λ free are room.
    let near : c.first_clear-clear.result < c.min-rest.result = omega (arith, c.first_clear-clear.ensures.within, c.if-clear-rest.false) in
    first_room-next free c.args.n c.args.begin c.args.start c.args.end c.min-rest.result c.first_clear-clear.result c.first_room.result
    c.args.block.now are c.requires.above (omega (arith, c.min-rest.ensures))
    near (c.first_clear-clear.ensures.ended near) c.first_room.ensures.room room
