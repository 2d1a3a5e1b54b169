use Rattle.std.proofs.Common.{refl}
use Rattle.f11_files.proofs.Extending.Growing.{taking-stays}
use Rattle.f11_files.proofs.Extending.Take.{fails-taking, finds-none, take-stays, taken-order, takes-run}
use Rattle.f11_image_store.specs.Confines.{no_header}
use Rattle.f11_files.proofs.Confining.Parts.{keeps-went}
use Rattle.f11_files.proofs.structure.Structure.take_next_run.Goals as goal

pub returns-in-Ok-Some-clause-taken : goal.returns-in-Ok-Some-clause-taken
returns-in-Ok-Some-clause-taken g c =
    takes-run c.args.self.now c.args.from c.args.most _ c.requires.is_for _ _ _ c.requires.none_below
    (rw c.in-Ok-Some.field-0-is at c.in-Ok-Some.ensures.found).takes _ refl c.take.ensures.same refl

pub returns-in-Ok-Some-clause-stays : goal.returns-in-Ok-Some-clause-stays
returns-in-Ok-Some-clause-stays g c =
    take-stays c.args.self.now c.args.from c.args.most _ c.requires.is_for _ _ _ c.requires.none_below
    (rw c.in-Ok-Some.field-0-is at c.in-Ok-Some.ensures.found).takes _ c.take.ensures.same c.in-Ok-Some.ensures.storage

pub returns-in-Ok-None-clause-refused : goal.returns-in-Ok-None-clause-refused
returns-in-Ok-None-clause-refused g c =
    finds-none c.args.self.now c.args.from c.args.most _ c.requires.is_for _ c.requires.some c.requires.free c.requires.none_below
    (rw c.in-Ok-None.field-0-is at c.in-Ok-None.ensures.found).none

pub returns-in-Err-clause-refused : goal.returns-in-Err-clause-refused
returns-in-Err-clause-refused g c = fails-taking c.args.self.now c.args.from c.args.most _ c.requires.is_for _ c.in-Err.ensures.failed

pub returns-in-Err-clause-stays : goal.returns-in-Err-clause-stays
returns-in-Err-clause-stays g c =
    taking-stays refl c.requires.is_for (fails-taking c.args.self.now c.args.from c.args.most _ c.requires.is_for _ c.in-Err.ensures.failed)

pub returns-in-Ok-Some-clause-confined : goal.returns-in-Ok-Some-clause-confined
returns-in-Ok-Some-clause-confined g c =
    let takes = (rw c.in-Ok-Some.field-0-is at c.in-Ok-Some.ensures.found).takes in
    keeps-went c.args.self.now no_header (λ image is. is.keeps) takes.marked.went
    (taken-order c.args.self.now c.args.from c.args.most _ c.requires.is_for _ (λ image is. (_, _, is)) _ takes.marked.went)

pub returns-in-Err-clause-confined : goal.returns-in-Err-clause-confined
returns-in-Err-clause-confined g c =
    keeps-went c.args.self.now no_header (λ image is. is.changing.keeps) c.in-Err.ensures.failed
    (taken-order c.args.self.now c.args.from c.args.most _ c.requires.is_for _ (λ image is. (_, _, is.changing)) _ c.in-Err.ensures.failed)
