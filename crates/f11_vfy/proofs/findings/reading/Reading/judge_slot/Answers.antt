use Rattle.std.proofs.lemmas.Bool.{both_ways}
use Rattle.f11_chain.proofs.AlongLemmas.{handed-on}
use Rattle.f11_index.specs.Kept.{index_kept}
use Rattle.f11_vfy.proofs.Directory.Judging.{judges-none, looks-at, judges-directory}
use Rattle.f11_vfy.proofs.findings.reading.Reading.judge_slot.Goals as goal

pub returns-then-not-is_directory-clause-judges : goal.returns-then-not-is_directory-clause-judges
returns-then-not-is_directory-clause-judges g c =
    let old = g.D.Device.disk c.args.device.now in
    judges-none (index_kept c.args.index.now) c.args.self.now c.args.k c.index.result.now old old c.requires.slot c.index.ensures
    c.args.gathered.now (λ h. both_ways _ c.if-not-is_directory.true (c.is_directory.ensures.1 h))

pub returns-clause-judges : goal.returns-clause-judges
returns-clause-judges g c =
    judges-directory (index_kept c.args.index.now) c.args.self.now c.args.k c.index.result.now _ _ c.requires.slot c.index.ensures
    (c.is_directory.ensures.0 c.if-not-is_directory.false) _ _
    (rw (c.deref.ensures.value, c.deref-2.ensures.value) at c.in_ok-take_directory.ensures.takes)

pub returns-in_err-take_directory-clause-failed : goal.returns-in_err-take_directory-clause-failed
returns-in_err-take_directory-clause-failed g c = λ is.
    looks-at (index_kept c.args.index.now) c.args.self.now c.args.k c.index.result.now _ _ c.requires.slot c.index.ensures
    (c.is_directory.ensures.0 c.if-not-is_directory.false) 1
    (rw c.deref-2.ensures.value at (c.in_err-take_directory.ensures.failed (handed-on _ _ _ c.from_residual.ensures.1 is)))

pub returns-in_err-take_directory-clause-no_memory : goal.returns-in_err-take_directory-clause-no_memory
returns-in_err-take_directory-clause-no_memory g c = λ is.
    looks-at (index_kept c.args.index.now) c.args.self.now c.args.k c.index.result.now _ _ c.requires.slot c.index.ensures
    (c.is_directory.ensures.0 c.if-not-is_directory.false) 0
    (rw c.deref-2.ensures.value at (c.in_err-take_directory.ensures.no_memory (handed-on _ _ _ c.from_residual.ensures.1 is)))
