use Rattle.std.proofs.Common.{sym, ◌∙◌}
use Rattle.f11_files.specs.Open.{disk_in, has_failed, home_in}
use Rattle.f11_files.proofs.Opening.Values.{files-for}
use Rattle.f11_files.specs.Structure.{StaysFor}
use Rattle.f11_files.proofs.Opening.Kept.{stays-opened}
use Rattle.f11_files.proofs.Changing.ByWindow.{had-failed-by}
use Rattle.f11_writes.proofs.LostLemmas.{lost-none}
use Rattle.f11_files.specs.Answers.{is_fatal, is_refused}
use Rattle.f11_files.proofs.Lost.Calls.{as-answered, window-beside}
use Rattle.f11_files.proofs.files.Files.write_in.Goals as goal

pub write_in-answer-requires-clause-is_for : goal.write_in-answer-requires-clause-is_for
write_in-answer-requires-clause-is_for g c = files-for c.args.self.now (g.met.D.Device.is_image c.args.self.now.device) c.if-self.false

pub invariant_of-self : goal.invariant_of-self
invariant_of-self g c =
    let failed = c.is_fatal-self.result in
    let stays : StaysFor failed c.args.self.now.structure c.args.self.now.structure (g.D.Device.disk c.write_in-answer.new.device) =
    rw c.is_fatal-self.ensures c.write_in-answer.ensures.stays in
    let is = stays-opened _ _ failed _ (g.met.D.Device.is_image c.write_in-answer.new.device) stays in
    record {
      lies = is.lies;
      accepted = is.accepted;
      home = is.home;
      keeps = is.keeps;
      lies_seen = λ alive. c.write_in-answer.ensures.seen (sym c.is_fatal-self.ensures ∙ alive) c.args.self.now.seen
          (c.args.self.now.lies_seen c.if-self.false);
    }

pub returns-then-self-clause-refused : goal.returns-then-self-clause-refused
returns-then-self-clause-refused g c = had-failed-by _ c.if-self.true

pub returns-then-self-clause-lost : goal.returns-then-self-clause-lost
returns-then-self-clause-lost g c = lost-none (has_failed c.args.self.now) (disk_in c.args.self.now)

pub returns-clause-lost : goal.returns-clause-lost
returns-clause-lost g c =
    let for = files-for c.args.self.now (g.met.D.Device.is_image c.args.self.now.device) c.if-self.false in
    let old = disk_in c.args.self.now in
    let new = g.D.Device.disk c.write_in-answer.new.device in
    as-answered _ c.is_fatal-self.result (is_refused is_fatal c.write_in-answer.result) old new c.if-self.false c.is_fatal-self.ensures
    (window-beside (home_in c.args.self.now) old new for.sound c.args.window.now c.args.vbn c.args.block.now c.write_in-answer.result
    (c.requires.of_file c.if-self.false) c.write_in-answer.ensures.stored c.write_in-answer.ensures.refused)
