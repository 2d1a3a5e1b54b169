use Rattle.std.proofs.Common.{◌+◌, ◌/◌, [], false, sym, subst}
use Rattle.f11_files.specs.Answers.{FailsToRead}
use Rattle.f11_files.specs.Open.{disk_in, store_in}
use Rattle.f11_files.specs.Operations.{length_causes}
use Rattle.f11_store.specs.Cost.{header_count}
use Rattle.f11_store.specs.Store.{file_named}
use Rattle.f11_store.specs.declared.refusals.Refusal.{Refusal}
use Rattle.f11_fcp.proofs.AppendLemmas.{end-there}
use Rattle.f11_fcp.proofs.EntryLemmas.{blocks-first}
use Rattle.f11_fcp.proofs.KnownLemmas.{known-fails, known-length}
use Rattle.f11_fcp.proofs.append.end_block.Goals as goal

pub returns-in-Err-clause-refused : goal.returns-in-Err-clause-refused
returns-in-Err-clause-refused g c =
    let s = store_in c.args.files.now in
    let found = c.args.found.now in
    subst (λ (e : Refusal). FailsToRead false [] (header_count (file_named s c.args.directory) + 1) e (disk_in c.args.files.now)
    (disk_in c.read_block.new.self)) (sym c.of_known.ensures)
    (known-fails (length_causes s c.args.directory (found.count / 32 + 1)) c.in-Err.refusal c.requires.alive
    (known-length s c.args.directory (found.count / 32 + 1) c.in-Err.refusal)
    (λ honest. blocks-first s c.args.directory (found.count / 32 + 1)
    (end-there found s c.args.directory c.requires.room (c.requires.there honest))) c.in-Err.ensures.refused)
