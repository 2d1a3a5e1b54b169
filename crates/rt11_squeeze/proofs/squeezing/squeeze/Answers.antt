use Rattle.std.proofs.Common.{◌≡◌, ◌+◌, Ok, Err, List, Vec, Global, refl, sym, take, subst, arith, ◌∙◌}
use Rattle.std.specs.List.{sum_by}
use Rattle.std.proofs.lemmas.List.{take_all}
use Rattle.rt11_squeeze.specs.Kept.{volume_disk}
use Rattle.rt11_squeeze.specs.Squeezing.{Preserves, SqueezesEach, file_transfers, squeeze_transfers}
use Rattle.rt11_squeeze.specs.declared.outcome.Squeezed.{Squeezed}
use Rattle.rt11_squeeze.specs.declared.moving.FileToMove.{FileToMove}
use Rattle.rt11_squeeze.proofs.SqueezeLemmas.{SqueezedSoFar, preserves-as, squeezed-early, squeezed-more, squeezed-none, squeezed-one}
use Rattle.rt11_squeeze.proofs.SqueezeLemmas.{squeezed-within}
use Rattle.rt11_squeeze.proofs.squeezing.squeeze.Goals as goal

pub loop-i-init : goal.loop-i-init
loop-i-init g c =
    let disk = g.D.Device.disk in
    let files = c.args.files.now in
    let v = c.args.volume.now in
    record {
      squeezed = subst (λ (outcomes : List Squeezed). SqueezedSoFar disk files 0 outcomes v v) (sym c.new-outcomes.ensures.items)
          (squeezed-none disk files v c.requires.fresh);
    }

pub squeeze_file-requires : goal.squeeze_file-requires
squeeze_file-requires g c = record { fresh = c.loop-i.invariant.squeezed.preserves.next }

pub returns-in-Err-clause-preserves : goal.returns-in-Err-clause-preserves
returns-in-Err-clause-preserves g c =
    let disk = g.D.Device.disk in
    let l = c.loop-i in
    let told = c.index-files-i.result in
    preserves-as disk {T = Squeezed} {U = Vec Squeezed Global} c.args.files.now _ _ (Err c.in-Err.refusal) (Err c.in-Err.refusal)
    c.args.volume.now c.squeeze_file.new.volume refl
    (squeezed-within c.args.files.now l.i told c.loop-i-test.true c.index-files-i.is)
    (squeezed-one disk c.args.files.now l.i l.outcomes.items told (Err c.in-Err.refusal) c.args.volume.now l.volume
    c.squeeze_file.new.volume c.loop-i-test.true c.index-files-i.is l.invariant.squeezed c.in-Err.ensures.preserves)

pub returns-in-Err-push_outcome-clause-preserves : goal.returns-in-Err-push_outcome-clause-preserves
returns-in-Err-push_outcome-clause-preserves g c =
    let disk = g.D.Device.disk in
    let l = c.loop-i in
    let told = c.index-files-i.result in
    preserves-as disk {T = Squeezed} {U = Vec Squeezed Global} c.args.files.now _ _ (Ok c.in-Ok.outcome) (Err _)
    c.args.volume.now c.squeeze_file.new.volume refl (squeezed-within c.args.files.now l.i told c.loop-i-test.true c.index-files-i.is)
    (squeezed-one disk c.args.files.now l.i l.outcomes.items told (Ok c.in-Ok.outcome) c.args.volume.now l.volume
    c.squeeze_file.new.volume c.loop-i-test.true c.index-files-i.is l.invariant.squeezed c.in-Ok.ensures.preserves)

pub loop-i-preserved : goal.loop-i-preserved
loop-i-preserved g c =
    let disk = g.D.Device.disk in
    let l = c.loop-i in
    let told = c.index-files-i.result in
    record {
      squeezed = subst (λ (outcomes : List Squeezed). SqueezedSoFar disk c.args.files.now (l.i + 1) outcomes c.args.volume.now
          c.squeeze_file.new.volume) (sym c.in-Ok-push_outcome.ensures)
          (squeezed-more disk c.args.files.now l.i l.outcomes.items told c.in-Ok.outcome c.args.volume.now l.volume
          c.squeeze_file.new.volume c.loop-i-test.true c.index-files-i.is l.invariant.squeezed c.in-Ok.ensures.preserves
          c.in-Ok.ensures.squeezes);
    }

pub returns-clause-preserves : goal.returns-clause-preserves
returns-clause-preserves g c =
    let disk = g.D.Device.disk in
    let l = c.loop-i in
    let files = c.args.files.now in
    let all : take l.i files ≡ files = take_all l.i files (omega (arith, c.loop-i-test.false)) in
    preserves-as disk {T = Unit} {U = Vec Squeezed Global} files (squeeze_transfers files) (squeeze_transfers files) (Ok tt)
    (Ok l.outcomes) c.args.volume.now l.volume refl (omega arith)
    (subst (λ (fs : List FileToMove). Preserves {T = Unit} files disk (sum_by file_transfers fs) (Ok tt) c.args.volume.now
    l.volume)
    all l.invariant.squeezed.preserves)

pub returns-clause-count : goal.returns-clause-count
returns-clause-count g c = c.loop-i.invariant.squeezed.count ∙ omega (arith, c.loop-i-test.false, c.loop-i.auto.i-end)

pub returns-clause-squeezes : goal.returns-clause-squeezes
returns-clause-squeezes g c = λ s are.
    let disk = g.D.Device.disk in
    let l = c.loop-i in
    let files = c.args.files.now in
    subst (λ (fs : List FileToMove). SqueezesEach fs l.outcomes.items (volume_disk disk c.args.volume.now) (volume_disk disk l.volume))
    (take_all l.i files (omega (arith, c.loop-i-test.false))) (l.invariant.squeezed.squeezes s are)

pub returns-in-Err-clause-refused : goal.returns-in-Err-clause-refused
returns-in-Err-clause-refused g c =
    let l = c.loop-i in
    squeezed-early g.D.Device.disk c.args.files.now l.i l.outcomes.items c.index-files-i.result c.in-Err.refusal c.args.volume.now l.volume
    c.loop-i-test.true c.index-files-i.is l.invariant.squeezed c.in-Err.ensures.refused
