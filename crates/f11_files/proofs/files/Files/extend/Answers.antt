use Rattle.std.proofs.Common.{arith}
use Rattle.f11_files.proofs.Opening.Values.{files-for}
use Rattle.f11_files.specs.Open.{disk_in, has_failed, home_in}
use Rattle.f11_files.specs.Structure.{StaysFor}
use Rattle.f11_files.proofs.Opening.Kept.{stays-opened}
use Rattle.f11_files.proofs.Confining.Confines.{confines-none}
use Rattle.f11_files.proofs.Readied.{unchanged-after}
use Rattle.f11_files.proofs.WriteLemmas.{as-wanting, had-failed}
use Rattle.f11_writes.proofs.LostLemmas.{lost-none}
use Rattle.f11_files.specs.Answers.{is_fatal, is_refused}
use Rattle.f11_files.proofs.Lost.Calls.{as-answered, extended-beside}
use Rattle.f11_files.proofs.files.Files.extend.Goals as goal

pub extend-answer-requires-clause-is_for : goal.extend-answer-requires-clause-is_for
extend-answer-requires-clause-is_for g c = files-for c.args.self.now (g.met.D.Device.is_image c.args.self.now.device) c.if-self.false

pub invariant_of-self : goal.invariant_of-self
invariant_of-self g c =
    let failed = c.is_fatal-self.result in
    let stays : StaysFor failed c.args.self.now.structure c.extend-answer.new.self (g.D.Device.disk c.extend-answer.new.device) =
    rw c.is_fatal-self.ensures c.extend-answer.ensures.stays in
    let is = stays-opened _ _ failed _ (g.met.D.Device.is_image c.extend-answer.new.device) stays in
    record { lies = is.lies; accepted = is.accepted; home = is.home; keeps = is.keeps; lies_seen = λ _. tt }

pub returns-then-self-clause-refused : goal.returns-then-self-clause-refused
returns-then-self-clause-refused g c = as-wanting (λ is. omega (arith, is)) (had-failed _ c.if-self.true)

pub returns-then-self-clause-confined : goal.returns-then-self-clause-confined
returns-then-self-clause-confined g c = unchanged-after _ _ _ _ (λ _. confines-none _ _ _ _ (disk_in c.args.self.now))

pub returns-then-self-clause-lost : goal.returns-then-self-clause-lost
returns-then-self-clause-lost g c = lost-none (has_failed c.args.self.now) (disk_in c.args.self.now)

pub returns-clause-lost : goal.returns-clause-lost
returns-clause-lost g c =
    let for = files-for c.args.self.now (g.met.D.Device.is_image c.args.self.now.device) c.if-self.false in
    let old = disk_in c.args.self.now in
    let new = g.D.Device.disk c.extend-answer.new.device in
    as-answered _ c.is_fatal-self.result (is_refused is_fatal c.extend-answer.result) old new c.if-self.false c.is_fatal-self.ensures
    (extended-beside (home_in c.args.self.now) old new for.sound c.args.f c.args.n c.extend-answer.result c.extend-answer.ensures.extended
    c.extend-answer.ensures.refused
    c.extend-answer.ensures.confined)
