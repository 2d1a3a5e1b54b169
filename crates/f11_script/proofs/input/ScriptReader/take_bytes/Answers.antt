use Rattle.std.proofs.Common.{drop, take, length-drop, arith}
use Rattle.std.proofs.lemmas.List.{length-take-le}
use Rattle.f11_script.proofs.InputLemmas.{bytes_taken}
use Rattle.f11_script.proofs.input.ScriptReader.take_bytes.Goals as goal

pub returns : goal.returns
returns g c =
    let s = c.args.self.now in
    let stop = c.line_end-stop.result in
    record {
      bytes = drop s.at (take stop s.piece);
      taken = bytes_taken s.piece s.at stop s.end (g.R.Read.remaining s.reader) c.line_end-stop.ensures.above
          (omega (arith, c.line_end-stop.ensures.within, c.min-end.ensures)) s.whole;
      no_end = c.line_end-stop.ensures.none;
      number = omega (
        arith,
        length-drop s.at (take stop s.piece),
        length-take-le stop s.piece (omega (arith, c.line_end-stop.ensures.within, c.min-end.ensures, s.whole)),
      );
      kept = c.keep_bytes.ensures;
    }
