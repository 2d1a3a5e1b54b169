use Rattle.std.proofs.Common.{◌≡◌, length, arith, refl}
use Rattle.std.proofs.lemmas.List.{take_rest}
use Rattle.std.proofs.lemmas.Result.{err_from_is_err_and}
use Rattle.f11_flx.specs.Filling.{Out, out_of}
use Rattle.f11_flx.proofs.Texts.PourLemmas.{pouring-ends-at, pouring-few, pouring-gave, pouring-read, pouring-refused}
use Rattle.f11_flx.proofs.pour.pour.Goals as goal

pub returns-then-out-lt-BLOCK_SIZE-clause-pours : goal.returns-then-out-lt-BLOCK_SIZE-clause-pours
returns-then-out-lt-BLOCK_SIZE-clause-pours g c =
    let l = c.loop-read in
    let o : Out = record { block = c.convert.new.target; to = c.in-Ok.to; place = l.out.place } in
    let e = rw (take_rest c.args.source.now l.used) at c.in-Ok.ensures in
    let now = pouring-read g.T.Takes.took c.args.name.now c.args.text.now l.text c.convert.new.self c.args.source.now l.used c.in-Ok.read _
    (out_of c.args.out.now) (out_of l.out) o c.args.target.now l.target l.invariant.held e.converts e.puts refl refl in
    pouring-ends-at g.T.Takes.took c.args.name.now c.args.text.now c.convert.new.self c.args.source.now l.used c.in-Ok.read
    (out_of c.args.out.now) o c.args.target.now l.target now e.stops l.invariant.held.within c.requires.size c.requires.room
    c.if-out-lt-BLOCK_SIZE.true

pub give-requires : goal.give-requires
give-requires g c =
    let l = c.loop-read in
    omega (
      arith,
      pouring-few g.T.Takes.took c.args.name.now c.args.text.now l.text c.args.source.now l.used (out_of c.args.out.now)
          (out_of l.out) c.args.target.now l.target l.invariant.held,
      c.requires.size,
      c.requires.room,
      c.requires.few,
    )

pub loop-read-preserved : goal.loop-read-preserved
loop-read-preserved g c =
    let l = c.loop-read in
    let o : Out = record { block = c.convert.new.target; to = c.in-Ok.to; place = l.out.place } in
    let e = rw (take_rest c.args.source.now l.used) at c.in-Ok.ensures in
    let full : c.in-Ok.to ≡ 512 = omega (arith, e.room, c.if-out-lt-BLOCK_SIZE.false) in
    let size : length c.convert.new.target ≡ 512 = c.give.ensures.size in
    let now = pouring-read g.T.Takes.took c.args.name.now c.args.text.now l.text c.convert.new.self c.args.source.now l.used c.in-Ok.read _
    (out_of c.args.out.now) (out_of l.out) o c.args.target.now l.target l.invariant.held e.converts e.puts refl refl in
    record {
      held = pouring-gave g.T.Takes.took c.args.name.now c.args.text.now c.convert.new.self c.args.source.now _ (out_of c.args.out.now) o
          (out_of c.give.new.out) c.args.target.now l.target c.give.new.target now c.in_ok-give.ensures.taken full size;
      room = omega (arith, c.in_ok-give.ensures.taken.empty);
    }

pub returns-in_err-give-clause-fails : goal.returns-in_err-give-clause-fails
returns-in_err-give-clause-fails g c =
    let l = c.loop-read in
    let o : Out = record { block = c.convert.new.target; to = c.in-Ok.to; place = l.out.place } in
    let e = rw (take_rest c.args.source.now l.used) at c.in-Ok.ensures in
    let full : c.in-Ok.to ≡ 512 = omega (arith, e.room, c.if-out-lt-BLOCK_SIZE.false) in
    let size : length c.convert.new.target ≡ 512 = c.give.ensures.size in
    let now = pouring-read g.T.Takes.took c.args.name.now c.args.text.now l.text c.convert.new.self c.args.source.now l.used c.in-Ok.read _
    (out_of c.args.out.now) (out_of l.out) o c.args.target.now l.target l.invariant.held e.converts e.puts refl refl in
    let p = err_from_is_err_and c.from_residual.result c.from_residual.ensures.1 in rw (p.1, p.2)
    (pouring-refused g.T.Takes.took c.args.name.now g.T.Takes.refused c.args.text.now c.convert.new.self c.args.source.now _
    (out_of c.args.out.now) o _ c.args.target.now l.target c.give.new.target now full size
    c.in_err-give.ensures.refused)
