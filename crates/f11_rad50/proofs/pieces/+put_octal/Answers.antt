use Rattle.std.proofs.Common.{◌<◌, ◌+◌, ◌/◌, ◌%◌, ◌∷◌, [], arith, rules, sym}
use Rattle.f11_bytes.proofs.PartLemmas.{with_bytes-nil}
use Rattle.f11_rad50.specs.Name.{octal}
use Rattle.f11_rad50.proofs.Texts.{octal-zero, octal-step, length-octal-step}
use Rattle.f11_rad50.proofs.Places.{IsPut-append}
use Rattle.f11_rad50.proofs.pieces.+put_octal.Goals as goal

pub returns-then-number-eq0 : goal.returns-then-number-eq0
returns-then-number-eq0 t c = record {
  next_is = rw (c.if-number-eq0.true, octal-zero) (omega arith);
  written = rw (c.if-number-eq0.true, octal-zero) (sym (with_bytes-nil c.args.into.now c.args.at));
}

pub put_octal-last-requires : goal.put_octal-last-requires
put_octal-last-requires t c =
    let some : 0 < c.args.number = omega arith in
    (search (rules, arith), omega (arith, length-octal-step c.args.number some))

pub put-requires : goal.put-requires
put-requires t c =
    let some : 0 < c.args.number = omega arith in
    omega (arith, length-octal-step c.args.number some, c.put_octal-last.ensures.next_is)

pub returns : goal.returns
returns t c =
    let some : 0 < c.args.number = omega arith in
    rw (octal-step c.args.number some)
    (IsPut-append c.args.into.now c.put_octal-last.new.into c.put.new.into (octal (c.args.number / 8)) ((48 + c.args.number % 8) ∷ [])
    c.args.at c.put_octal-last.result c.put.result (omega arith) c.put_octal-last.ensures c.put.ensures)
