use Rattle.std.proofs.Common.{◌≡◌, ◌∙◌, [], arith, refl, take}
use Rattle.std.proofs.lemmas.Result.{err_from_is_err_and}
use Rattle.f11_making.specs.Asking.{Who, who_asks}
use Rattle.f11_flx.specs.Filling.{out_of}
use Rattle.f11_host.proofs.TextLemmas.{reading-all, reading-fails, reading-few, reading-lacks, reading-more, reading-none}
use Rattle.rt11_text.specs.Crs.{crs_behind}
use Rattle.f11_host.proofs.text.read_text.Goals as goal

pub loop-left-init : goal.loop-left-init
loop-left-init g c =
    let who : Who = who_asks c.args.by.now.task c.args.by.now.uic in
    reading-none g.S.Asked.service who c.args.by.now.lun c.args.bytes c.args.lines.now (out_of c.args.out.now) _ c.args.service.now _ refl
    c.requires.to

pub returns-in-Err-clause-fails : goal.returns-in-Err-clause-fails
returns-in-Err-clause-fails g c =
    let l = c.loop-left in
    let who : Who = who_asks c.args.by.now.task c.args.by.now.uic in (
      [],
      reading-lacks g.S.Asked.service who c.args.by.now.lun c.args.bytes l.left l.cr c.args.lines.now l.lines (out_of c.args.out.now)
          (out_of l.out) _ _ c.args.service.now l.service l.invariant c.loop-left-test.true c.requires.place,
    )

pub write_lines-requires-clause-few : goal.write_lines-requires-clause-few
write_lines-requires-clause-few g c =
    let l = c.loop-left in
    let is : c.deref.result.now ≡ crs_behind l.cr (take c.min-count.result c.read_piece.new.block) =
    c.deref.ensures.0 ∙ c.expand-cr.ensures.bytes in
    let who : Who = who_asks c.args.by.now.task c.args.by.now.uic in
    reading-few g.S.Asked.service who c.args.by.now.lun c.args.bytes c.args.lines.now (out_of c.args.out.now) _ c.args.service.now l.left
    l.cr
    l.lines (out_of l.out) _ l.service l.invariant c.min-count.result c.read_piece.new.block c.deref.result.now _ c.in-Ok.ensures.read
    c.min-count.ensures is c.requires.few c.requires.begins c.requires.to c.requires.place

pub returns-in_err-write_lines-clause-fails : goal.returns-in_err-write_lines-clause-fails
returns-in_err-write_lines-clause-fails g c =
    let l = c.loop-left in
    let is : c.deref.result.now ≡ crs_behind l.cr (take c.min-count.result c.read_piece.new.block) =
    c.deref.ensures.0 ∙ c.expand-cr.ensures.bytes in
    let who : Who = who_asks c.args.by.now.task c.args.by.now.uic in
    let p = err_from_is_err_and c.from_residual.result c.from_residual.ensures.1 in rw (p.1, p.2) (
      _,
      reading-fails g.S.Asked.service who c.args.by.now.lun c.args.bytes c.args.lines.now (out_of c.args.out.now) _ c.args.service.now
          l.left
          l.cr l.lines (out_of l.out) _ l.service l.invariant c.min-count.result c.read_piece.new.block c.deref.result.now _
          c.in-Ok.ensures.read c.min-count.ensures is _
          c.write_lines.new.service c.in_err-write_lines.ensures.fails,
    )

pub loop-left-preserved : goal.loop-left-preserved
loop-left-preserved g c =
    let l = c.loop-left in
    let is : c.deref.result.now ≡ crs_behind l.cr (take c.min-count.result c.read_piece.new.block) =
    c.deref.ensures.0 ∙ c.expand-cr.ensures.bytes in
    let who : Who = who_asks c.args.by.now.task c.args.by.now.uic in
    reading-more g.S.Asked.service who c.args.by.now.lun c.args.bytes c.args.lines.now (out_of c.args.out.now) _ c.args.service.now l.left
    l.cr l.lines (out_of l.out) _ l.service l.invariant c.min-count.result c.read_piece.new.block c.deref.result.now _ c.in-Ok.ensures.read
    c.min-count.ensures is c.expand-cr.result c.write_lines.new.lines
    (out_of c.write_lines.new.out) c.write_lines.new.service c.expand-cr.ensures.behind c.in_ok-write_lines.ensures.writes
    c.in_ok-write_lines.ensures.room

pub returns-clause-reads : goal.returns-clause-reads
returns-clause-reads g c =
    let l = c.loop-left in
    let who : Who = who_asks c.args.by.now.task c.args.by.now.uic in (
      l.invariant.taken,
      reading-all g.S.Asked.service who c.args.by.now.lun c.args.bytes l.left l.cr c.args.lines.now l.lines (out_of c.args.out.now)
          (out_of l.out) _ _ c.args.service.now l.service l.invariant (omega (arith, c.loop-left-test.false)),
    )
