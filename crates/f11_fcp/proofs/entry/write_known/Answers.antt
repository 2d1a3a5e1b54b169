use Rattle.std.proofs.Common.{◌+◌, sym, subst}
use Rattle.f11_files.specs.Answers.{Breaks, Meanwhile}
use Rattle.f11_files.specs.Finding.Blocks.{block_work}
use Rattle.f11_files.specs.Open.{disk_in, home_in, store_in}
use Rattle.f11_files.specs.Operations.{length_causes}
use Rattle.f11_store.specs.Cost.{header_count}
use Rattle.f11_store.specs.Store.{file_named}
use Rattle.f11_store.specs.declared.refusals.Refusal.{Refusal}
use Rattle.f11_fcp.proofs.EntryLemmas.{blocks-first}
use Rattle.f11_fcp.proofs.KnownLemmas.{known-breaks, known-length}
use Rattle.f11_fcp.proofs.entry.write_known.Goals as goal

pub returns-in-Err-clause-refused : goal.returns-in-Err-clause-refused
returns-in-Err-clause-refused g c =
    let s = store_in c.args.files.now in
    let home = home_in c.args.files.now in
    let work = block_work c.args.directory (c.args.number + 1) c.args.block.now in
    subst (λ (e : Refusal). Breaks (Meanwhile work home (disk_in c.args.files.now)) (header_count (file_named s c.args.directory) + 1) e
    (disk_in c.args.files.now) (disk_in c.write_block.new.self)) (sym c.of_known.ensures)
    (known-breaks (length_causes s c.args.directory (c.args.number + 1)) c.in-Err.refusal c.requires.alive
    (known-length s c.args.directory (c.args.number + 1) c.in-Err.refusal)
    (λ honest. blocks-first s c.args.directory (c.args.number + 1) (c.requires.there honest)) work home c.in-Err.ensures.refused)
