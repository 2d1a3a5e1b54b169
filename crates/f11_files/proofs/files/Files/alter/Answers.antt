use Rattle.f11_files.specs.Open.{disk_in, has_failed, home_in}
use Rattle.f11_files.proofs.Opening.Values.{files-for}
use Rattle.f11_files.specs.Structure.{StaysFor}
use Rattle.f11_files.proofs.Opening.Kept.{stays-opened}
use Rattle.f11_files.proofs.WriteLemmas.{had-failed}
use Rattle.f11_writes.proofs.LostLemmas.{lost-none}
use Rattle.f11_files.specs.Answers.{is_fatal, is_refused}
use Rattle.f11_files.specs.Changing.Fields.{altered_by}
use Rattle.std.proofs.Common.{[]}
use Rattle.f11_image_store.specs.Confines.{only_header}
use Rattle.f11_files.proofs.Confining.Parts.{to-only}
use Rattle.f11_files.proofs.Lost.Calls.{as-answered, altered-beside}
use Rattle.f11_files.proofs.Rows.{alteration-held}
use Rattle.f11_files.proofs.files.Files.alter.Goals as goal

pub alter-answer-requires-clause-is_for : goal.alter-answer-requires-clause-is_for
alter-answer-requires-clause-is_for g c = files-for c.args.self.now (g.met.D.Device.is_image c.args.self.now.device) c.if-self.false

pub invariant_of-self : goal.invariant_of-self
invariant_of-self g c =
    let failed = c.is_fatal-self.result in
    let stays : StaysFor failed c.args.self.now.structure c.args.self.now.structure (g.D.Device.disk c.alter-answer.new.device) =
    rw c.is_fatal-self.ensures c.alter-answer.ensures.stays in
    let is = stays-opened _ _ failed _ (g.met.D.Device.is_image c.alter-answer.new.device) stays in
    record { lies = is.lies; accepted = is.accepted; home = is.home; keeps = is.keeps; lies_seen = λ _. tt }

pub returns-then-self-clause-refused : goal.returns-then-self-clause-refused
returns-then-self-clause-refused g c = had-failed _ c.if-self.true

pub returns-then-self-clause-lost : goal.returns-then-self-clause-lost
returns-then-self-clause-lost g c = lost-none (has_failed c.args.self.now) (disk_in c.args.self.now)

pub returns-clause-lost : goal.returns-clause-lost
returns-clause-lost g c =
    let for = files-for c.args.self.now (g.met.D.Device.is_image c.args.self.now.device) c.if-self.false in
    let old = disk_in c.args.self.now in
    let new = g.D.Device.disk c.alter-answer.new.device in
    as-answered _ c.is_fatal-self.result (is_refused is_fatal c.alter-answer.result) old new c.if-self.false c.is_fatal-self.ensures
    (altered-beside (home_in c.args.self.now) old new for.sound (altered_by c.args.alteration) (alteration-held c.args.alteration)
    c.args.f c.alter-answer.result
    c.alter-answer.ensures.altered c.alter-answer.ensures.refused
    (to-only c.args.self.now.structure (only_header c.args.f.number) [] old new for (λ _. c.alter-answer.ensures.confined)))
