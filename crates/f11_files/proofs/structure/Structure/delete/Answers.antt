use Rattle.std.proofs.lemmas.Result.{on_ok_weaker, IfErr-weaker}
use Rattle.f11_files.proofs.AnswerLemmas.{handed}
use Rattle.f11_files.proofs.Removing.Gone.{behind-listed, gone-first, behind-hangs, deletes-file, gone-behind}
use Rattle.f11_files.proofs.Confining.Parts.{parts-then, to-parts}
use Rattle.std.proofs.Common.{◌∙◌, ℕ, List, [], ap}
use Rattle.f11_store.specs.Changes.{is_in}
use Rattle.f11_store.specs.Store.{file_named}
use Rattle.f11_files.specs.Structure.{store_on}
use Rattle.f11_files.proofs.Finding.Locate.{held-are}
use Rattle.f11_files.proofs.Removing.Parts.{first-parts}
use Rattle.f11_files.proofs.structure.Structure.delete.Goals as goal

pub returns-in_err-drop_header-clause-refused : goal.returns-in_err-drop_header-clause-refused
returns-in_err-drop_header-clause-refused g c =
    handed _ c.from_residual-in_err-drop_header.result _ c.from_residual-in_err-drop_header.ensures.1
    (gone-first c.args.self.now c.args.f _ _ _ c.requires.is_for c.requires.late c.in_ok-read_first.ensures.found
    (g.met.D.Device.is_image c.args.device.now) _ (g.D.Device.disk c.drop_header.new.device)
    c.in_err-drop_header.ensures.refused)

pub drop_behind-requires-clause-hangs : goal.drop_behind-requires-clause-hangs
drop_behind-requires-clause-hangs g c =
    behind-hangs c.args.self.now c.args.f _ _ _ c.requires.is_for c.requires.late c.in_ok-read_first.ensures.found
    (g.met.D.Device.is_image c.args.device.now) c.drop_header.new.self _
    c.in_ok-drop_header.ensures.dropped c.in_ok-drop_header.ensures.stays.home (g.met.D.Device.is_image c.drop_header.new.device)

pub returns-clause-deleted : goal.returns-clause-deleted
returns-clause-deleted g c =
    on_ok_weaker c.drop_behind.result
    (deletes-file c.args.self.now c.args.f _ _ _ c.requires.is_for c.requires.late c.in_ok-read_first.ensures.found
    (g.met.D.Device.is_image c.args.device.now) c.drop_header.new.self _
    c.in_ok-drop_header.ensures.dropped c.in_ok-drop_header.ensures.stays.home (g.met.D.Device.is_image c.drop_header.new.device)
    (g.D.Device.disk c.drop_behind.new.device))
    c.drop_behind.ensures.dropped

pub returns-clause-refused : goal.returns-clause-refused
returns-clause-refused g c =
    IfErr-weaker c.drop_behind.result _ _
    (λ r. gone-behind c.args.self.now c.args.f _ _ _ c.requires.is_for c.requires.late c.in_ok-read_first.ensures.found
    (g.met.D.Device.is_image c.args.device.now) c.drop_header.new.self _
    c.in_ok-drop_header.ensures.dropped c.in_ok-drop_header.ensures.stays.home (g.met.D.Device.is_image c.drop_header.new.device) r
    (g.D.Device.disk c.drop_behind.new.device))
    c.drop_behind.ensures.refused

pub returns-in_err-drop_header-clause-confined : goal.returns-in_err-drop_header-clause-confined
returns-in_err-drop_header-clause-confined g c =
    λ honest. first-parts c.args.self.now c.args.f _ _ _ c.requires.is_for c.in_ok-read_first.ensures.found honest
    c.drop_header.ensures.confined

pub returns-clause-confined : goal.returns-clause-confined
returns-clause-confined g c = λ honest.
    let s = c.args.self.now in
    let t = c.drop_header.new.self in
    let found = c.in_ok-read_first.ensures.found in
    let dropped = c.in_ok-drop_header.ensures.dropped in
    let held = (file_named (store_on s (g.D.Device.disk c.args.device.now)) c.args.f).held in
    let more = behind-listed s c.args.f _ _ _ c.requires.is_for c.requires.late found (g.met.D.Device.is_image c.args.device.now) t _
    dropped c.in_ok-drop_header.ensures.stays.home (g.met.D.Device.is_image c.drop_header.new.device) honest in
    parts-then s t (is_in held) c.in_ok-drop_header.ensures.places
    (first-parts s c.args.f _ _ _ c.requires.is_for c.in_ok-read_first.ensures.found honest c.drop_header.ensures.confined)
    (to-parts t (is_in held) _ []
    (λ m is. ap (λ (ns : List ℕ). is_in ns m) (held-are s c.args.f _ _ c.requires.is_for found.holds honest) ∙ more m is)
    (c.drop_behind.ensures.confined (dropped.writes.went.honest ∙ found.looked.honest ∙ honest)))
