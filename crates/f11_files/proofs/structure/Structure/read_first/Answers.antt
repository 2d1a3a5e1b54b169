use Rattle.std.proofs.Common.{refl, sym, ap, ◌∙◌, arith}
use Rattle.std.proofs.lemmas.Result.{on_ok_weaker, IfErr-weaker}
use Rattle.f11_dev.specs.Disk.{Disk}
use Rattle.f11_dev.proofs.LookedLemmas.{looked_none, looked_failed_read, looked_within}
use Rattle.f11_index.proofs.InUseLemmas.{in_use-some, in_use-slot, header-within}
use Rattle.f11_files.specs.Structure.{index_in}
use Rattle.f11_files.proofs.AnswerLemmas.{right-cause, right-fault, reads-looked}
use Rattle.f11_files.proofs.Finding.First.{unused-none, FindsFile-read}
use Rattle.f11_files.proofs.Finding.Named.{missing-first, read-refused}
use Rattle.f11_files.proofs.structure.Structure.read_first.Goals as goal

pub returns-then-not-in_use-clause-refused : goal.returns-then-not-in_use-clause-refused
returns-then-not-in_use-clause-refused g c =
    let old = g.D.Device.disk c.args.device.now in
    record {
      right = right-cause _ _ _ (λ is. omega (arith, is)) (λ is. omega (arith, is)) refl
          (λ honest. missing-first c.args.self.now c.args.f old c.requires.is_for honest
          (unused-none _ _ _ (sym c.in_use.ensures ∙ c.if-not-in_use.true)));
      reads = reads-looked (looked_within (looked_none old) (omega arith));
    }

pub lbn_of_header-requires-clause-some : goal.lbn_of_header-requires-clause-some
lbn_of_header-requires-clause-some g c =
    in_use-some (index_in c.args.self.now) c.args.f.number (sym c.in_use.ensures ∙ c.if-not-in_use.false)

pub lbn_of_header-requires-clause-slot : goal.lbn_of_header-requires-clause-slot
lbn_of_header-requires-clause-slot g c =
    in_use-slot (index_in c.args.self.now) c.args.f.number (sym c.in_use.ensures ∙ c.if-not-in_use.false)

pub read-requires : goal.read-requires
read-requires g c =
    let index = index_in c.args.self.now in
    let in_use = sym c.in_use.ensures ∙ c.if-not-in_use.false in
    rw c.lbn_of_header.ensures
    (header-within index c.args.f.number _ c.requires.is_for.lies.index (in_use-some index c.args.f.number in_use)
    (in_use-slot index c.args.f.number in_use))

pub returns-in-Ok-clause-found : goal.returns-in-Ok-clause-found
returns-in-Ok-clause-found g c =
    on_ok_weaker c.judge_first.result
    (FindsFile-read _ _ _ _ _ _ (sym c.in_use.ensures ∙ c.if-not-in_use.false) c.lbn_of_header.ensures c.in-Ok.ensures.reads.counts
    c.in-Ok.ensures.reads.gives)
    c.judge_first.ensures.first

pub returns-in-Ok-clause-refused : goal.returns-in-Ok-clause-refused
returns-in-Ok-clause-refused g c =
    IfErr-weaker c.judge_first.result _ _
    (read-refused c.args.self.now c.args.f _ _ _ _ c.requires.is_for (sym c.in_use.ensures ∙ c.if-not-in_use.false) c.lbn_of_header.ensures
    c.in-Ok.ensures.reads.counts c.in-Ok.ensures.reads.gives)
    c.judge_first.ensures.refused

pub returns-in-Err-clause-refused : goal.returns-in-Err-clause-refused
returns-in-Err-clause-refused g c =
    record { right = right-fault _ _; reads = reads-looked (looked_failed_read _ _ c.in-Err.ensures.reads.counts) }

pub returns-in-Ok-clause-bounded : goal.returns-in-Ok-clause-bounded
returns-in-Ok-clause-bounded g c =
    let once = ap (λ (d : Disk). d.transfers) c.in-Ok.ensures.reads.counts in omega (arith, once)

pub returns-in-Err-clause-bounded : goal.returns-in-Err-clause-bounded
returns-in-Err-clause-bounded g c =
    let once = ap (λ (d : Disk). d.transfers) c.in-Err.ensures.reads.counts in omega (arith, once)
