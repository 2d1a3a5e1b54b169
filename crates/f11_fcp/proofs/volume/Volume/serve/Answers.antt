use Rattle.std.proofs.Common.{◌≡◌, ◌∙◌, ◌||◌, Bool, false, OnOk, refl, sym, ap, subst}
use Rattle.std.proofs.lemmas.Bool.{false≢true}
use Rattle.f11_dev.specs.Disk.{Disk}
use Rattle.f11_files.specs.Answers.{is_fatal, is_refused}
use Rattle.f11_files.specs.Open.{has_failed}
use Rattle.f11_files.specs.writes.Lost.{SparesLost}
use Rattle.f11_files.proofs.writes.LostLemmas.{lost-as, lost-none}
use Rattle.f11_fcp.specs.ByWindow.{TakesOneTransfer, WindowsAfter}
use Rattle.f11_fcp.specs.Handles.{Handles, IsUnwritten, State}
use Rattle.f11_fcp.specs.InOneRun.{InOneRun}
use Rattle.f11_fcp.specs.Places.{access_table_of}
use Rattle.f11_fcp.specs.Serving.{is_spent, state_in}
use Rattle.f11_fcp.proofs.ByWindowLemmas.{none-made}
use Rattle.f11_fcp.proofs.NotedLemmas.{noted-clean, noted-disk, noted-flag, noted-open, noted-state}
use Rattle.f11_fcp.proofs.OpenLemmas.{volume-open}
use Rattle.f11_fcp.proofs.volume.Volume.serve.Goals as goal

pub answer-answer-requires : goal.answer-answer-requires
answer-answer-requires g c = record { «open» = volume-open c.args.self.now (sym c.failed.ensures ∙ c.if-failed.false) }

pub invariant_of-self : goal.invariant_of-self
invariant_of-self g c =
    let still = noted-open (access_table_of c.answer-answer.new.self) c.answer-answer.result c.answer-answer.new.files c.note.new.self
    c.note.ensures c.answer-answer.ensures.open in
    record { kept = λ clean. (still clean).kept; windows = λ clean. (still clean).windows }

pub returns-clause-windows : goal.returns-clause-windows
returns-clause-windows g c =
    let same = noted-state (access_table_of c.answer-answer.new.self) c.answer-answer.result c.answer-answer.new.files c.note.new.self
    c.note.ensures in
    let old = state_in c.args.self.now in
    let told = c.answer-answer.ensures in
    record {
      once = subst (λ (s : State). TakesOneTransfer c.args.task c.args.request.now old s) same told.once;
      after = subst (λ (s : State). OnOk c.answer-answer.result (WindowsAfter c.args.task c.args.request.now old s)) same told.windows;
    }

pub returns-then-failed-clause-windows : goal.returns-then-failed-clause-windows
returns-then-failed-clause-windows g c = record { once = none-made c.args.task c.args.request.now (state_in c.args.self.now); after = tt }

pub returns-then-failed-clause-serves : goal.returns-then-failed-clause-serves
returns-then-failed-clause-serves g c =
    let spent = sym c.failed.ensures ∙ c.if-failed.true in
    record {
      refused = λ _. refl;
      untouched = λ _. (refl, refl);
      handled = λ alive. absurd (false≢true (sym alive ∙ spent));
      in_run = λ alive. absurd (false≢true (sym alive ∙ spent));
      lost = lost-none (is_spent c.args.self.now) (state_in c.args.self.now).disk;
      unwritten = λ _. record { image = refl; history = refl };
      spared = λ _. refl;
      next = spent ∙ sym (ap (λ (b : Bool). b || false) spent);
    }

pub returns-clause-serves : goal.returns-clause-serves
returns-clause-serves g c =
    let told = c.answer-answer.ensures in
    let result = c.answer-answer.result in
    let mid = c.answer-answer.new.files in
    let new = c.note.new.self in
    let t = access_table_of c.answer-answer.new.self in
    let old = state_in c.args.self.now in
    let alive = sym c.failed.ensures ∙ c.if-failed.false in
    let disk = sym (noted-disk t result mid new c.note.ensures) in
    let same = noted-state t result mid new c.note.ensures in
    record {
      refused = λ spent. absurd (false≢true (sym alive ∙ spent));
      untouched = λ spent. absurd (false≢true (sym alive ∙ spent));
      handled = λ _. subst
          (λ (s : State). Handles c.args.task c.args.caller c.args.request.now result old c.args.block.now s c.answer-answer.new.block) same
          told.handles;
      in_run = λ _. subst (λ (s : State). InOneRun c.args.task c.args.caller c.args.request.now result old s) same told.run;
      lost =
          lost-as _ _ _ _ _ _ alive (λ clean. (noted-clean t result mid new c.note.ensures clean).0)
          (subst (λ (d : Disk). SparesLost (has_failed c.args.self.now.files) (has_failed mid) old.disk d) disk told.lost);
      unwritten = λ reads. subst (λ (d : Disk). IsUnwritten old.disk d) disk (told.unwritten reads);
      spared = told.spared;
      next =
          c.note.ensures.next ∙ noted-flag (has_failed mid) (is_refused is_fatal result) (λ clean. (told.open clean).alive)
          ∙ sym (ap (λ (b : Bool). b || is_refused is_fatal result) alive);
    }
