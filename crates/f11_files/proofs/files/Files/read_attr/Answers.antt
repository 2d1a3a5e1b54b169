use Rattle.f11_files.proofs.Opening.Values.{files-for}
use Rattle.f11_files.proofs.Opening.Kept.{looked-for, answered, for-opened}
use Rattle.f11_writes.proofs.LostLemmas.{lost-none}
use Rattle.f11_files.specs.Answers.{is_fatal, is_refused}
use Rattle.f11_files.specs.Open.{disk_in, has_failed}
use Rattle.f11_files.proofs.Lost.Beside.{reads-beside}
use Rattle.f11_files.proofs.Lost.Calls.{as-answered}
use Rattle.f11_files.proofs.Finding.Reached.{seen-looked}
use Rattle.f11_files.proofs.files.Files.read_attr.Goals as goal

pub read_attr-answer-requires : goal.read_attr-answer-requires
read_attr-answer-requires g c =
    record { is_for = files-for c.args.self.now (g.met.D.Device.is_image c.args.self.now.device) c.if-self.false }

pub invariant_of-self : goal.invariant_of-self
invariant_of-self g c =
    let was = files-for c.args.self.now (g.met.D.Device.is_image c.args.self.now.device) c.if-self.false in
    let for = answered c.read_attr-answer.result _ _ c.read_attr-answer.ensures.read c.read_attr-answer.ensures.refused
    (λ _ is. looked-for _ _ _ _ _ was is.reads.looked) (λ _ is. looked-for _ _ _ _ _ was is.reads.looked) in
    let is = for-opened c.args.self.now.structure c.is_fatal-self.result _ (g.met.D.Device.is_image c.read_attr-answer.new.device) for in
    record {
      lies = is.lies;
      accepted = is.accepted;
      home = is.home;
      keeps = is.keeps;
      lies_seen = λ _. answered c.read_attr-answer.result _ _ c.read_attr-answer.ensures.read c.read_attr-answer.ensures.refused
          (λ _ is. seen-looked _ _ _ _ is.reads.looked (c.args.self.now.lies_seen c.if-self.false))
          (λ _ is. seen-looked _ _ _ _ is.reads.looked (c.args.self.now.lies_seen c.if-self.false));
    }

pub returns-then-self-clause-lost : goal.returns-then-self-clause-lost
returns-then-self-clause-lost g c = lost-none (has_failed c.args.self.now) (disk_in c.args.self.now)

pub returns-clause-lost : goal.returns-clause-lost
returns-clause-lost g c =
    as-answered _ c.is_fatal-self.result (is_refused is_fatal c.read_attr-answer.result) (disk_in c.args.self.now) _ c.if-self.false
    c.is_fatal-self.ensures
    (answered c.read_attr-answer.result _ _ c.read_attr-answer.ensures.read c.read_attr-answer.ensures.refused
    (λ _ is. reads-beside _ is.reads.looked)
    (λ _ is. reads-beside _ is.reads.looked))
