use Rattle.std.proofs.Common.{◌≡◌, Bool, ap, if◌then◌else◌, sym}
use Rattle.std.proofs.lemmas.Result.{IfOk-weaker, on_err_weaker}
use Rattle.f11_catalog.proofs.ListingLemmas.{reads-then}
use Rattle.f11_index.specs.IndexFile.{Index}
use Rattle.f11_index.specs.Kept.{index_kept}
use Rattle.f11_commands.proofs.SizeLemmas.{size-read}
use Rattle.f11_commands.proofs.size.read_size.Goals as goal
use Rattle.f11_commands.proofs.size.read_size.Goals.{then-found, else-found}

pub returns-after-found-clause-reads : goal.returns-after-found-clause-reads
returns-after-found-clause-reads g c =
    let found = c.in-Ok.found in
    let opens = rw c.in-Ok.is at c.in_ok-found.ensures.found in
    let either : Bool → Index = λ b. if b then index_kept c.args.index.now else index_kept c.args.wide.now in
    let chosen : index_kept c.if-found.by.now ≡ either found.in_use = elim c.if-found.branch [
      | then-found w ↦ rw w.by-is (sym (ap either w.if-found.true))
      | else-found w ↦ rw w.by-is (sym (ap either w.if-found.false))
    ] in
    IfOk-weaker c.read_control.result _ _ (λ size reads. size-read _ _ found size _ _ _ opens _ chosen reads) c.read_control.ensures.reads

pub returns-after-found-clause-failed : goal.returns-after-found-clause-failed
returns-after-found-clause-failed g c =
    let opens = rw c.in-Ok.is at c.in_ok-found.ensures.found in
    on_err_weaker c.read_control.result (λ fails. reads-then opens.reads fails) c.read_control.ensures.failed
