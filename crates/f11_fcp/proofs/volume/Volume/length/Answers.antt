use Rattle.std.proofs.Common.{◌∙◌, sym}
use Rattle.f11_fcp.specs.Places.{access_table_of}
use Rattle.f11_fcp.proofs.NotedLemmas.{noted-open}
use Rattle.f11_fcp.proofs.OpenLemmas.{volume-open}
use Rattle.f11_fcp.proofs.volume.Volume.length.Goals as goal

pub length-answer-requires : goal.length-answer-requires
length-answer-requires g c = record { «open» = volume-open c.args.self.now (sym c.failed.ensures ∙ c.if-failed.false) }

pub invariant_of-self : goal.invariant_of-self
invariant_of-self g c =
    let still = noted-open (access_table_of c.args.self.now.accesses) c.length-answer.result c.length-answer.new.files c.note.new.self
    c.note.ensures c.length-answer.ensures.open in
    record { kept = λ clean. (still clean).kept; windows = λ clean. (still clean).windows }
