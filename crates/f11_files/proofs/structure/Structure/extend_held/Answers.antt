use Rattle.std.proofs.Common.{◌∙◌, inr, refl, sym}
use Rattle.std.proofs.lemmas.Bool.{false≢true}
use Rattle.f11_files.proofs.AnswerLemmas.{each-err, each-ok}
use Rattle.f11_files.proofs.Extending.Cleared.{holds-last}
use Rattle.f11_files.proofs.Extending.Extend.{fails-clearing, stays-clearing, may-extend, fails-growing, extends-held}
use Rattle.f11_files.proofs.Extending.Written.{are-none}
use Rattle.f11_files.proofs.Extending.Parts.{clearing-confined, growing-confined}
use Rattle.f11_files.proofs.structure.Structure.extend_held.Goals as goal

pub returns-in-Err-clause-refused : goal.returns-in-Err-clause-refused
returns-in-Err-clause-refused g c =
    fails-clearing c.args.self.now c.args.f c.args.n _ _ _ _ c.requires.is_for c.requires.own c.requires.room _ c.in-Err.ensures.failed

pub returns-in-Err-clause-stays : goal.returns-in-Err-clause-stays
returns-in-Err-clause-stays g c =
    stays-clearing c.args.self.now c.args.f c.args.n _ _ _ _ c.requires.is_for c.requires.own c.requires.room _ c.in-Err.ensures.failed

pub grow_by-requires-clause-last : goal.grow_by-requires-clause-last
grow_by-requires-clause-last g c =
    holds-last c.args.self.now c.args.f _ _ _ _ c.requires.is_for c.requires.room.ends _ _ c.in-Ok.ensures.clears _
    c.tail_of-tail.ensures.tail

pub grow_by-requires-clause-gets : goal.grow_by-requires-clause-gets
grow_by-requires-clause-gets g c = rw c.tail_of-tail.ensures.tail.file_is (inr c.requires.own)

pub grow_by-requires-clause-reserved : goal.grow_by-requires-clause-reserved
grow_by-requires-clause-reserved g c =
    rw c.tail_of-tail.ensures.tail.file_is (λ is. absurd (false≢true (sym (are-none c.requires.own) ∙ is)))

pub grow_by-requires-clause-may : goal.grow_by-requires-clause-may
grow_by-requires-clause-may g c =
    rw c.tail_of-tail.ensures.tail.file_is
    (may-extend c.args.self.now c.args.f c.args.n _ _ _ _ c.requires.is_for c.requires.own c.requires.room _ _ c.in-Ok.ensures.clears)

pub returns-in-Err-clause-confined : goal.returns-in-Err-clause-confined
returns-in-Err-clause-confined g c =
    λ honest. clearing-confined c.args.self.now c.args.self.now.index c.args.f _ _ _ _ c.requires.is_for c.requires.room.ends refl honest
    c.clear_mark.ensures.confined

pub returns-clause-confined : goal.returns-clause-confined
returns-clause-confined g c =
    λ honest. growing-confined c.args.self.now c.args.self.now.index c.args.f _ _ _ _ c.requires.is_for c.requires.room.ends refl honest
    c.in-Ok.ensures.clears c.tail_of-tail.ensures.tail c.clear_mark.ensures.confined c.grow_by.ensures.confined

pub returns-clause-refused : goal.returns-clause-refused
returns-clause-refused g c =
    each-err c.grow_by.result
    (λ r breaks.
    fails-growing c.args.self.now c.args.f c.args.n _ _ _ _ c.requires.is_for c.requires.own c.requires.room _ _ c.in-Ok.ensures.clears r
    (g.D.Device.disk c.grow_by.new.device)
    (rw c.tail_of-tail.ensures.tail.file_is at breaks))
    c.grow_by.ensures.refused

pub returns-clause-extended : goal.returns-clause-extended
returns-clause-extended g c =
    each-ok c.grow_by.result
    (λ grown.
    extends-held c.args.self.now c.args.f c.args.n _ _ _ _ c.requires.is_for c.requires.own c.requires.room _ _ c.in-Ok.ensures.clears _
    c.tail_of-tail.ensures.tail _
    (rw c.tail_of-tail.ensures.tail.file_is at grown))
    c.grow_by.ensures.grown
