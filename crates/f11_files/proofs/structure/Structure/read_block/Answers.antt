use Rattle.std.proofs.Common.{◌∙◌, ap, arith}
use Rattle.f11_dev.specs.Disk.{Disk}
use Rattle.f11_dev.proofs.LookedLemmas.{looked_read, looked_failed_read}
use Rattle.f11_files.proofs.AnswerLemmas.{right-fault, reads-looked, reads-more}
use Rattle.f11_files.proofs.Finding.Locate.{block-read}
use Rattle.f11_files.proofs.structure.Structure.read_block.Goals as goal

pub returns-in-Ok-clause-read : goal.returns-in-Ok-clause-read
returns-in-Ok-clause-read g c =
    let found = c.in_ok-lbn.ensures.found in
    let looked = found.reads.looked in
    record {
      no_cause = found.no_cause;
      block_is = λ honest. block-read c.args.self.now c.args.f c.args.vbn _ _ _ _ c.requires.is_for found looked.image
          (c.in-Ok.ensures.reads.gives (looked.honest ∙ honest)) honest;
      reads = reads-more found.reads (reads-looked (looked_read _ _ c.in-Ok.ensures.reads.counts));
    }

pub returns-in-Err-clause-refused : goal.returns-in-Err-clause-refused
returns-in-Err-clause-refused g c = record {
  right = right-fault _ _;
  reads = reads-more c.in_ok-lbn.ensures.found.reads (reads-looked (looked_failed_read _ _ c.in-Err.ensures.reads.counts));
}

pub returns-in-Ok-clause-bounded : goal.returns-in-Ok-clause-bounded
returns-in-Ok-clause-bounded g c =
    let first = c.in_ok-lbn.ensures.bounded in
    let then = ap (λ (d : Disk). d.transfers) c.in-Ok.ensures.reads.counts in
    omega (arith, first, then)

pub returns-in-Err-clause-bounded : goal.returns-in-Err-clause-bounded
returns-in-Err-clause-bounded g c =
    let first = c.in_ok-lbn.ensures.bounded in
    let then = ap (λ (d : Disk). d.transfers) c.in-Err.ensures.reads.counts in
    omega (arith, first, then)
