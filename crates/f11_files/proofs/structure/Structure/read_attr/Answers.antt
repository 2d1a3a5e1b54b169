use Rattle.std.proofs.Common.{◌∙◌}
use Rattle.f11_files.proofs.AnswerLemmas.{reads-looked}
use Rattle.f11_files.proofs.Finding.Named.{no-file-cause, attr-is}
use Rattle.f11_files.proofs.structure.Structure.read_attr.Goals as goal

pub returns-clause-read : goal.returns-clause-read
returns-clause-read g c =
    let old = g.D.Device.disk c.args.device.now in
    let found = c.in_ok-read_first.ensures.found in
    record {
      no_cause = no-file-cause c.args.self.now c.args.f _ old c.requires.is_for found.holds;
      attr_is = λ honest. c.attr_of.ensures ∙ attr-is c.args.self.now c.args.f _ old c.requires.is_for found.holds honest;
      reads = reads-looked found.looked;
    }
