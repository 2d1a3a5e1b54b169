use Rattle.std.proofs.Common.{◌≡◌, ◌<◌, ℕ, true, arith, refl}
use Rattle.f11_files.proofs.Removing.Freeing.{no-run, outside-run, run-order, run-used, gives-run, fails-run, run-stays, broken-stays}
use Rattle.f11_image_store.specs.Confines.{no_header}
use Rattle.f11_files.proofs.Confining.Parts.{marks-went}
use Rattle.f11_files.proofs.structure.Structure.give_run.Goals as goal

some : (n : ℕ) → ¬ (n ≡ 0) → 0 < n
some n is = omega (arith, is)

pub returns-then-count-eq0-clause-given : goal.returns-then-count-eq0-clause-given
returns-then-count-eq0-clause-given g c = no-run _ _ _ _ c.if-count-eq0.true

pub returns-then-lbn-count-clause-refused : goal.returns-then-lbn-count-clause-refused
returns-then-lbn-count-clause-refused g c =
    outside-run c.args.self.now c.args.lbn c.args.count _ c.requires.is_for
    (λ honest. c.requires.unreferenced honest (some _ c.if-count-eq0.false))
    (λ within. omega (arith, c.if-lbn-count.true, c.size.ensures, within))

pub give-requires-clause-used : goal.give-requires-clause-used
give-requires-clause-used g c =
    run-used c.args.self.now c.args.lbn c.args.count _ c.requires.is_for
    (λ honest. c.requires.unreferenced honest (some _ c.if-count-eq0.false))

pub returns-in-Ok-clause-given : goal.returns-in-Ok-clause-given
returns-in-Ok-clause-given g c =
    gives-run c.args.self.now c.args.lbn c.args.count _ c.requires.is_for
    (λ honest. c.requires.unreferenced honest (some _ c.if-count-eq0.false)) _ c.if-count-eq0.false c.requires.few c.in-Ok.ensures.gives

pub returns-in-Ok-clause-stays : goal.returns-in-Ok-clause-stays
returns-in-Ok-clause-stays g c =
    let gives = gives-run c.args.self.now c.args.lbn c.args.count _ c.requires.is_for
    (λ honest. c.requires.unreferenced honest (some _ c.if-count-eq0.false)) _ c.if-count-eq0.false c.requires.few c.in-Ok.ensures.gives
    in
    run-stays c.args.self.now c.args.lbn c.args.count _ c.requires.is_for
    (λ honest. c.requires.unreferenced honest (some _ c.if-count-eq0.false)) _ _ c.give.ensures.same c.in-Ok.ensures.storage gives

pub returns-in-Err-clause-refused : goal.returns-in-Err-clause-refused
returns-in-Err-clause-refused g c =
    fails-run c.args.self.now c.args.lbn c.args.count _ c.requires.is_for
    (λ honest. c.requires.unreferenced honest (some _ c.if-count-eq0.false)) _ c.requires.few c.in-Err.ensures.failed

pub returns-in-Err-clause-stays : goal.returns-in-Err-clause-stays
returns-in-Err-clause-stays g c =
    broken-stays c.args.self.now _ _ _ _ refl c.requires.is_for
    (fails-run c.args.self.now c.args.lbn c.args.count _ c.requires.is_for
    (λ honest. c.requires.unreferenced honest (some _ c.if-count-eq0.false)) _ c.requires.few c.in-Err.ensures.failed)

pub returns-in-Ok-clause-confined : goal.returns-in-Ok-clause-confined
returns-in-Ok-clause-confined g c =
    marks-went c.args.self.now no_header _ true c.args.lbn c.args.count c.in-Ok.ensures.gives.went
    (run-order c.args.self.now c.args.lbn c.args.count _ c.requires.is_for
    (λ honest. c.requires.unreferenced honest (some _ c.if-count-eq0.false)) _ c.in-Ok.ensures.gives.went)

pub returns-in-Err-clause-confined : goal.returns-in-Err-clause-confined
returns-in-Err-clause-confined g c =
    marks-went c.args.self.now no_header _ true c.args.lbn c.args.count c.in-Err.ensures.failed
    (run-order c.args.self.now c.args.lbn c.args.count _ c.requires.is_for
    (λ honest. c.requires.unreferenced honest (some _ c.if-count-eq0.false)) _ c.in-Err.ensures.failed)
