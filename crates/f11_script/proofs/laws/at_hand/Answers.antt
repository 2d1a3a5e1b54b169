use Rattle.f11_script.proofs.InputLemmas.{hand_empty, hand_has}
use Rattle.f11_script.proofs.laws.at_hand.Goals as goal

pub returns : goal.returns
returns g c =
    let s = c.args.script.now in
    record {
      none = λ empty. hand_empty s.piece s.at s.end (g.R.Read.remaining s.reader) s.in_piece s.whole empty;
      some = λ more. hand_has s.piece s.at s.end (g.R.Read.remaining s.reader) s.whole more;
    }
