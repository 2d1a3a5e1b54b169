use Rattle.f11_store.specs.declared.requests.Request.TheVariants as request
use Rattle.std.proofs.Common.{◌∙◌, ◌||◌, false, ap, sym, refl}
use Rattle.std.proofs.lemmas.Bool.{ne_eqb}
use Rattle.f11_files.specs.Answers.{is_fatal}
use Rattle.f11_fcp.specs.Handles.{state_of}
use Rattle.f11_fcp.specs.Places.{access_table_of, entry_of}
use Rattle.f11_fcp.specs.Accesses.{AccessTable, accesses}
use Rattle.f11_fcp.proofs.ByWindowLemmas.{none-made, one-transfer}
use Rattle.f11_fcp.proofs.WindowLemmas.{accesses-with, handled-on, windows-read}
use Rattle.f11_fcp.proofs.OpenLemmas.{open-with, there-open, stays-open}
use Rattle.f11_fcp.proofs.AccessedLemmas.{read-zero, read-none, read-done, read-refused, of-accessed-clean}
use Rattle.f11_fcp.proofs.HandleLemmas.{unwritten-looked, unwritten-none}
use Rattle.f11_fcp.proofs.table.Accesses.read_block.Goals as goal

pub returns-then-vbn-eq0-clause-handles : goal.returns-then-vbn-eq0-clause-handles
returns-then-vbn-eq0-clause-handles g c = read-zero c.args.task c.args.lun c.args.vbn c.args.caller _ _ c.if-vbn-eq0.true

pub returns-in-None-clause-handles : goal.returns-in-None-clause-handles
returns-in-None-clause-handles g c =
    read-none c.args.task c.args.lun c.args.vbn c.args.caller _ _ (ne_eqb _ _ c.if-vbn-eq0.false) (c.in-None.ensures.value)

pub read_by-requires-clause-held : goal.read_by-requires-clause-held
read_by-requires-clause-held g c =
    let t = access_table_of c.args.self.now in
    record {
      alive = c.requires.open.alive;
      there = there-open c.args.task c.args.lun (entry_of c.in-Some.held) c.requires.open c.in-Some.ensures.within
          (sym c.in-Some.ensures.value);
      keeps = c.requires.open.windows c.args.task c.args.lun (entry_of c.in-Some.held) c.in-Some.ensures.within.0 c.in-Some.ensures.within.1
          (sym c.in-Some.ensures.value);
    }

pub returns-in-Ok-clause-handles : goal.returns-in-Ok-clause-handles
returns-in-Ok-clause-handles g c =
    let t = access_table_of c.args.self.now in
    handled-on (access_table_of c.keep.new.self)
    (ap (λ (u : AccessTable). accesses u) c.keep.ensures.value ∙ accesses-with t c.args.task c.args.lun (entry_of c.in-Some.held)
    c.in-Ok.window (sym c.in-Some.ensures.value))
    (read-done c.args.task c.args.lun c.args.caller (state_of t c.args.files.now) (entry_of c.in-Some.held) (sym c.in-Some.ensures.value)
    c.args.vbn (ne_eqb _ _ c.if-vbn-eq0.false)
    (there-open c.args.task c.args.lun (entry_of c.in-Some.held) c.requires.open c.in-Some.ensures.within (sym c.in-Some.ensures.value))
    c.args.block.now c.read_by.new.block (state_of t c.read_by.new.files) c.in-Ok.ensures.read c.in-Ok.ensures.answers.home refl)

pub returns-in-Ok-clause-open : goal.returns-in-Ok-clause-open
returns-in-Ok-clause-open g c = λ clean.
    let t = access_table_of c.args.self.now in
    let H = returns-in-Ok-clause-handles g c in
    open-with t (access_table_of c.keep.new.self) c.args.files.now c.read_by.new.files c.args.task c.args.lun c.args.caller _ _
    c.args.block.now c.read_by.new.block (entry_of c.in-Some.held) c.in-Ok.window c.requires.open (λ _. tt) H (sym c.in-Some.ensures.value)
    c.keep.ensures.value c.in-Ok.ensures.next.keeps (c.in-Ok.ensures.answers.next ∙ ap (λ b. b || false) c.requires.open.alive)
    (windows-read t c.args.files.now c.read_by.new.files c.requires.open c.in-Ok.ensures.read.reads c.in-Ok.ensures.answers.home)

pub returns-in-Err-clause-handles : goal.returns-in-Err-clause-handles
returns-in-Err-clause-handles g c =
    let t = access_table_of c.args.self.now in
    read-refused c.args.task c.args.lun c.args.caller (state_of t c.args.files.now) (entry_of c.in-Some.held) (sym c.in-Some.ensures.value)
    c.args.vbn (ne_eqb _ _ c.if-vbn-eq0.false)
    (there-open c.args.task c.args.lun (entry_of c.in-Some.held) c.requires.open c.in-Some.ensures.within (sym c.in-Some.ensures.value))
    c.args.block.now c.read_by.new.block
    (state_of t c.read_by.new.files) c.in-Err.refusal c.of_accessed.result c.requires.open.alive c.in-Err.ensures.refused
    c.in-Err.ensures.answers.home refl c.in-Err.ensures.answers.counts c.in-Err.ensures.kept c.of_accessed.ensures

pub returns-in-Err-clause-open : goal.returns-in-Err-clause-open
returns-in-Err-clause-open g c =
    stays-open (access_table_of c.args.self.now) c.args.files.now c.read_by.new.files c.args.task c.args.caller _ _ c.args.block.now
    c.read_by.new.block c.requires.open (λ _. tt) (returns-in-Err-clause-handles g c)
    (λ clean. c.in-Err.ensures.answers.next ∙ ap (λ b. b || is_fatal c.in-Err.refusal) c.requires.open.alive
    ∙ of-accessed-clean c.in-Err.refusal (ap is_fatal (sym c.of_accessed.ensures) ∙ clean)) tt

pub returns-in-Ok-clause-windows : goal.returns-in-Ok-clause-windows
returns-in-Ok-clause-windows g c = record {
  entry = entry_of c.in-Some.held;
  held = (sym c.in-Some.ensures.value);
  window = c.in-Ok.window;
  next = c.in-Ok.ensures.next.next;
  table_is = c.keep.ensures.value;
}

pub returns-in-Ok-clause-once : goal.returns-in-Ok-clause-once
returns-in-Ok-clause-once g c =
    one-transfer c.args.task c.args.lun c.args.vbn (request.ReadBlock c.args.lun c.args.vbn)
    (state_of (access_table_of c.args.self.now) c.args.files.now) (state_of (access_table_of c.keep.new.self) c.read_by.new.files)
    (entry_of c.in-Some.held) refl (sym c.in-Some.ensures.value) c.in-Ok.ensures.once

pub returns-in-Err-clause-once : goal.returns-in-Err-clause-once
returns-in-Err-clause-once g c =
    one-transfer c.args.task c.args.lun c.args.vbn (request.ReadBlock c.args.lun c.args.vbn)
    (state_of (access_table_of c.args.self.now) c.args.files.now) (state_of (access_table_of c.args.self.now) c.read_by.new.files)
    (entry_of c.in-Some.held) refl (sym c.in-Some.ensures.value) c.in-Err.ensures.once

pub returns-then-vbn-eq0-clause-once : goal.returns-then-vbn-eq0-clause-once
returns-then-vbn-eq0-clause-once g c =
    none-made c.args.task (request.ReadBlock c.args.lun c.args.vbn) (state_of (access_table_of c.args.self.now) c.args.files.now)

pub returns-in-None-clause-once : goal.returns-in-None-clause-once
returns-in-None-clause-once g c =
    none-made c.args.task (request.ReadBlock c.args.lun c.args.vbn) (state_of (access_table_of c.args.self.now) c.args.files.now)

pub returns-then-vbn-eq0-clause-unwritten : goal.returns-then-vbn-eq0-clause-unwritten
returns-then-vbn-eq0-clause-unwritten g c = unwritten-none _

pub returns-in-None-clause-unwritten : goal.returns-in-None-clause-unwritten
returns-in-None-clause-unwritten g c = unwritten-none _

pub returns-in-Ok-clause-unwritten : goal.returns-in-Ok-clause-unwritten
returns-in-Ok-clause-unwritten g c = unwritten-looked c.in-Ok.ensures.read.reads.looked

pub returns-in-Err-clause-unwritten : goal.returns-in-Err-clause-unwritten
returns-in-Err-clause-unwritten g c = unwritten-looked c.in-Err.ensures.refused.reads.looked
