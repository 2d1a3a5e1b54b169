use Rattle.std.proofs.Common.{◌∙◌, ◌%◌, ap, sym, arith, eqb, get_or}
use Rattle.std.specs.Int.{bit_at}
use Rattle.std.proofs.lemmas.List.{get_or_default}
use Rattle.f11_vfy.specs.Surveying.Bits.{has}
use Rattle.f11_vfy.proofs.survey.bits.Bits.word.Goals as goal

pub returns : goal.returns
unfolding has
returns c = λ j e.
    let here = c.index.ensures
    ∙ get_or_default c.args.self.now.words.items c.args.i c.index.result.now 0
    (omega (arith, c.args.self.now.words.ok.0, c.args.self.now.room, c.requires)) in
    ap (λ z. eqb (bit_at (get_or c.args.self.now.words.items z 0) (j % 64)) 1) e ∙ ap (λ z. eqb (bit_at z (j % 64)) 1) (sym here)
