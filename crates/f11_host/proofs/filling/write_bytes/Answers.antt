use Rattle.std.proofs.Common.{◌≡◌, ◌<◌, [], subst, arith}
use Rattle.f11_making.specs.Asking.{Who, who_asks}
use Rattle.f11_host.specs.Pieces.{blocks_for}
use Rattle.f11_host.proofs.FillLemmas.{written-all, written-lacks, written-more, written-none, written-stops}
use Rattle.f11_host.proofs.filling.write_bytes.Goals as goal

pub loop-place-init : goal.loop-place-init
loop-place-init g c =
    let who : Who = who_asks c.args.by.now.task c.args.by.now.uic in
    written-none g.S.Asked.service who c.args.by.now.lun c.args.bytes _ c.args.service.now

pub returns-in-Err-clause-fails : goal.returns-in-Err-clause-fails
returns-in-Err-clause-fails g c =
    let l = c.loop-place in
    let who : Who = who_asks c.args.by.now.task c.args.by.now.uic in
    let inside : l.place < blocks_for c.args.bytes = subst (λ n. l.place < n) c.requires.count c.loop-place-test.true in (
      [],
      written-lacks g.S.Asked.service who c.args.by.now.lun c.args.bytes _ c.args.service.now l.place l.left _ l.service l.invariant
          inside,
    )

pub returns-in-Err-write-clause-fails : goal.returns-in-Err-write-clause-fails
returns-in-Err-write-clause-fails g c =
    let l = c.loop-place in
    let who : Who = who_asks c.args.by.now.task c.args.by.now.uic in
    let inside : l.place < blocks_for c.args.bytes = subst (λ n. l.place < n) c.requires.count c.loop-place-test.true in
    written-stops g.S.Asked.service who c.args.by.now.lun c.args.bytes _ c.args.service.now l.place l.left _ l.service l.invariant
    c.min-count.result c.read_piece.new.block c.in-Err-write.refusal _ c.write.new.service inside c.min-count.ensures c.in-Ok.ensures.read
    c.in-Err-write.ensures.denied

pub loop-place-preserved : goal.loop-place-preserved
loop-place-preserved g c =
    let l = c.loop-place in
    let who : Who = who_asks c.args.by.now.task c.args.by.now.uic in
    let inside : l.place < blocks_for c.args.bytes = subst (λ n. l.place < n) c.requires.count c.loop-place-test.true in
    written-more g.S.Asked.service who c.args.by.now.lun c.args.bytes _ c.args.service.now l.place l.left _ l.service l.invariant
    c.min-count.result c.read_piece.new.block _ c.write.new.service inside c.min-count.ensures c.in-Ok.ensures.read
    c.in-Ok-write.ensures.granted

pub returns-clause-writes : goal.returns-clause-writes
returns-clause-writes g c =
    let l = c.loop-place in
    let who : Who = who_asks c.args.by.now.task c.args.by.now.uic in
    let all : l.place ≡ blocks_for c.args.bytes = omega (arith, c.loop-place-test.false, l.auto.place-end, c.requires.count) in
    written-all g.S.Asked.service who c.args.by.now.lun c.args.bytes _ c.args.service.now l.place l.left _ l.service l.invariant all
