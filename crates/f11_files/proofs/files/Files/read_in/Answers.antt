use Rattle.f11_files.proofs.Finding.Windows.{read-answered, read-refused-by, read-stays}
use Rattle.f11_files.proofs.Opening.Values.{files-for}
use Rattle.f11_files.proofs.Opening.Kept.{for-opened}
use Rattle.f11_writes.proofs.LostLemmas.{lost-none}
use Rattle.f11_files.specs.Answers.{is_fatal, is_refused}
use Rattle.f11_files.specs.Open.{disk_in, has_failed}
use Rattle.f11_files.proofs.Lost.Calls.{as-answered, read-beside}
use Rattle.f11_files.proofs.Finding.Reached.{seen-read}
use Rattle.f11_files.proofs.files.Files.read_in.Goals as goal

pub invariant_of-self : goal.invariant_of-self
invariant_of-self g c =
    let was = files-for c.args.self.now (g.met.D.Device.is_image c.args.self.now.device) c.if-self.false in
    let for = read-stays _ _ _ _ _ _ was c.read_in-answer.result c.read_in-answer.ensures.reads in
    let is = for-opened c.args.self.now.structure c.is_fatal-self.result _ (g.met.D.Device.is_image c.read_in-answer.new.device) for in
    record {
      lies = is.lies;
      accepted = is.accepted;
      home = is.home;
      keeps = is.keeps;
      lies_seen = λ _. seen-read _ _ _ _ _ _ _ c.read_in-answer.result c.read_in-answer.ensures.reads
          (c.args.self.now.lies_seen c.if-self.false);
    }

pub returns-clause-read : goal.returns-clause-read
returns-clause-read g c =
    let was = files-for c.args.self.now (g.met.D.Device.is_image c.args.self.now.device) c.if-self.false in
    read-answered _ _ _ _ _ _ was c.read_in-answer.result c.requires.on.first c.read_in-answer.ensures.reads

pub returns-clause-refused : goal.returns-clause-refused
returns-clause-refused g c =
    let was = files-for c.args.self.now (g.met.D.Device.is_image c.args.self.now.device) c.if-self.false in
    read-refused-by _ _ _ _ _ _ was _ c.read_in-answer.result c.read_in-answer.ensures.fault c.read_in-answer.ensures.reads

pub returns-then-self-clause-lost : goal.returns-then-self-clause-lost
returns-then-self-clause-lost g c = lost-none (has_failed c.args.self.now) (disk_in c.args.self.now)

pub returns-clause-lost : goal.returns-clause-lost
returns-clause-lost g c =
    as-answered _ c.is_fatal-self.result (is_refused is_fatal c.read_in-answer.result) (disk_in c.args.self.now) _ c.if-self.false
    c.is_fatal-self.ensures
    (read-beside (disk_in c.args.self.now) _ c.args.window.now c.args.vbn _ c.read_in-answer.result c.read_in-answer.ensures.reads)
