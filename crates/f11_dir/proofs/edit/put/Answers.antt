use Rattle.std.proofs.Common.{◌*◌, ap, ◌∙◌}
use Rattle.f11_bytes.specs.Part.{with_bytes}
use Rattle.f11_dir.specs.Records.{record_of_bytes}
use Rattle.f11_dir.proofs.RecordWords.{record_bytes-words, record_of_bytes-record_bytes}
use Rattle.f11_dir.proofs.edit.put.Goals as goal

pub returns-clause-bytes : goal.returns-clause-bytes
returns-clause-bytes c =
    c.put_words.ensures.bytes
    ∙ ap (with_bytes c.args.block.now (16 * c.args.i)) (record_bytes-words c.args.id _ _ c.words.ensures.name c.words.ensures.value)

pub returns-clause-record : goal.returns-clause-record
returns-clause-record c = c.put_words.ensures.record ∙ record_bytes-words c.args.id _ _ c.words.ensures.name c.words.ensures.value

pub returns-clause-reads_back : goal.returns-clause-reads_back
returns-clause-reads_back c =
    ap record_of_bytes (returns-clause-record c) ∙ record_of_bytes-record_bytes c.args.id _ c.words.ensures.name
