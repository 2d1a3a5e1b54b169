use Rattle.std.proofs.Common.{ap, length, refl}
use Rattle.f11_bits.specs.Storage.{count_of}
use Rattle.f11_bits.specs.declared.storage.Storage.{Storage}
use Rattle.f11_index.specs.IndexFile.{free_slots_in, slots}
use Rattle.f11_files.specs.Structure.{index_in}
use Rattle.f11_files.proofs.LayingOut.Take.{fails-run, no-run, no-run-stays, takes-whole, whole-stays}
use Rattle.f11_image_store.specs.Confines.{no_header}
use Rattle.f11_files.proofs.Confining.Parts.{keeps-went}
use Rattle.f11_files.proofs.Extending.Take.{taken-order}
use Rattle.f11_files.proofs.structure.Structure.take_whole_run.Goals as goal

pub returns-in-Ok-Some-clause-taken : goal.returns-in-Ok-Some-clause-taken
returns-in-Ok-Some-clause-taken g c =
    takes-whole c.args.self.now c.args.n _ c.requires.is_for _ _ c.requires.some
    (rw c.in-Ok-Some.field-0-is at c.in-Ok-Some.ensures.found).takes
    _ refl c.take_run.ensures.same refl

pub returns-in-Ok-Some-clause-stays : goal.returns-in-Ok-Some-clause-stays
returns-in-Ok-Some-clause-stays g c =
    whole-stays c.args.self.now c.args.n _ c.requires.is_for _ _ c.requires.some
    (rw c.in-Ok-Some.field-0-is at c.in-Ok-Some.ensures.found).takes
    _ c.take_run.ensures.same c.in-Ok-Some.ensures.storage

pub returns-in-Ok-None-clause-none : goal.returns-in-Ok-None-clause-none
returns-in-Ok-None-clause-none g c =
    no-run c.args.self.now c.args.n _ c.requires.is_for _ (rw c.in-Ok-None.field-0-is at c.in-Ok-None.ensures.found).none

pub returns-in-Ok-None-clause-stays : goal.returns-in-Ok-None-clause-stays
returns-in-Ok-None-clause-stays g c =
    no-run-stays c.args.self.now c.args.n _ c.requires.is_for _ _ (rw c.in-Ok-None.field-0-is at c.in-Ok-None.ensures.found).none
    c.take_run.ensures.same c.in-Ok-None.ensures.storage

pub returns-in-Err-clause-failed : goal.returns-in-Err-clause-failed
returns-in-Err-clause-failed g c = fails-run c.args.self.now c.args.n _ c.requires.is_for _ c.in-Err.ensures.failed

pub returns-in-Ok-None-clause-counts : goal.returns-in-Ok-None-clause-counts
returns-in-Ok-None-clause-counts g c =
    ap (λ (x : Storage). (count_of x, length (free_slots_in (index_in c.args.self.now)), slots (index_in c.args.self.now)))
    (rw c.in-Ok-None.field-0-is at c.in-Ok-None.ensures.found).kept

pub returns-in-Ok-Some-clause-confined : goal.returns-in-Ok-Some-clause-confined
returns-in-Ok-Some-clause-confined g c =
    let takes = (rw c.in-Ok-Some.field-0-is at c.in-Ok-Some.ensures.found).takes in
    keeps-went c.args.self.now no_header (λ image is. is.keeps) takes.marked.went
    (taken-order c.args.self.now 0 c.args.n _ c.requires.is_for _ (λ image is. (_, _, is)) _ takes.marked.went)

pub returns-in-Err-clause-confined : goal.returns-in-Err-clause-confined
returns-in-Err-clause-confined g c =
    keeps-went c.args.self.now no_header (λ image is. is.changing.keeps) c.in-Err.ensures.failed
    (taken-order c.args.self.now 0 c.args.n _ c.requires.is_for _ (λ image is. (_, _, is.changing)) _ c.in-Err.ensures.failed)
