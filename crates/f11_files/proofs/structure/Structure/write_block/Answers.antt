use Rattle.f11_files.proofs.AnswerLemmas.{handed}
use Rattle.f11_files.proofs.WriteLemmas.{fails-unread}
use Rattle.f11_files.proofs.Changing.Block.{in-blocks, stores-block, stored-order, stored-stays, stored-table, fails-store, fails-stays}
use Rattle.f11_files.proofs.Changing.Block.{unstored-order}
use Rattle.f11_files.proofs.Finding.Reached.{seen-as}
use Rattle.std.proofs.Common.{ap, arith, sym, ◌∙◌}
use Rattle.f11_store.proofs.StoreLemmas.{none_first}
use Rattle.f11_files.specs.Answers.{blocks_of}
use Rattle.f11_files.specs.Structure.{home_of}
use Rattle.f11_files.proofs.Confining.Parts.{other-failed, other-wrote, parts-looked, stands-same, stands-within, to-parts, to-then}
use Rattle.f11_image_store.specs.Confines.{no_header}
use Rattle.f11_dev.specs.Disk.{Disk}
use Rattle.f11_files.proofs.Bounded.{one-failed}
use Rattle.f11_files.proofs.structure.Structure.write_block.Goals as goal

pub returns-in-Ok-clause-stored : goal.returns-in-Ok-clause-stored
returns-in-Ok-clause-stored g c =
    stores-block c.args.self.now c.args.f c.args.vbn _ _ _ _ c.requires.is_for c.requires.own c.in_ok-lbn.ensures.found _
    c.in-Ok.ensures.writes.ok

pub returns-in-Ok-clause-stays : goal.returns-in-Ok-clause-stays
returns-in-Ok-clause-stays g c =
    stored-stays c.args.self.now c.args.f c.args.vbn _ _ _ _ c.requires.is_for c.requires.own c.in_ok-lbn.ensures.found _
    c.in-Ok.ensures.writes.ok

pub returns-in-Err-clause-refused : goal.returns-in-Err-clause-refused
returns-in-Err-clause-refused g c =
    fails-store c.args.self.now c.args.f c.args.vbn _ _ _ _ c.requires.is_for c.requires.own c.in_ok-lbn.ensures.found _
    c.in-Err.ensures.writes.err

pub returns-in-Err-clause-stays : goal.returns-in-Err-clause-stays
returns-in-Err-clause-stays g c =
    fails-stays c.args.self.now c.args.f c.args.vbn _ _ _ _ c.requires.is_for c.requires.own c.in_ok-lbn.ensures.found _
    c.in-Err.ensures.writes.err

pub returns-in-Ok-clause-confined : goal.returns-in-Ok-clause-confined
returns-in-Ok-clause-confined g c = λ honest.
    let s = c.args.self.now in
    let found = c.in_ok-lbn.ensures.found in
    let old = g.D.Device.disk c.args.device.now in
    let blocks = blocks_of (home_of s) c.args.f old.image in
    to-then s s no_header no_header blocks blocks (stands-within s s no_header no_header blocks (λ n is. is) (stands-same s)) (λ l out. out)
    (to-parts s no_header no_header blocks (λ n is. is) (parts-looked s no_header found.reads.looked))
    (other-wrote s no_header blocks c.in_ok-lbn.lbn _ _ _ (in-blocks (home_of s) c.args.f old.image c.args.vbn c.in_ok-lbn.lbn
    (none_first _ _ _ (found.no_cause honest)) (found.block_is honest))
    c.in-Ok.ensures.writes.ok
    (stored-order s c.args.f c.args.vbn _ _ _ _ c.requires.is_for c.requires.own found _ c.in-Ok.ensures.writes.ok))

pub returns-in-Err-clause-confined : goal.returns-in-Err-clause-confined
returns-in-Err-clause-confined g c = λ honest.
    let s = c.args.self.now in
    let found = c.in_ok-lbn.ensures.found in
    let old = g.D.Device.disk c.args.device.now in
    let blocks = blocks_of (home_of s) c.args.f old.image in
    to-then s s no_header no_header blocks blocks (stands-within s s no_header no_header blocks (λ n is. is) (stands-same s)) (λ l out. out)
    (to-parts s no_header no_header blocks (λ n is. is) (parts-looked s no_header found.reads.looked))
    (other-failed s no_header blocks c.in_ok-lbn.lbn _ _ _ (in-blocks (home_of s) c.args.f old.image c.args.vbn c.in_ok-lbn.lbn
    (none_first _ _ _ (found.no_cause honest)) (found.block_is honest))
    c.in-Err.ensures.writes.err
    (unstored-order s c.args.f c.args.vbn _ _ _ _ c.requires.is_for c.requires.own found _ c.in-Err.ensures.writes.err))

pub returns-in-Ok-clause-bounded : goal.returns-in-Ok-clause-bounded
returns-in-Ok-clause-bounded g c =
    let first = c.in_ok-lbn.ensures.bounded in
    let then = ap (λ (d : Disk). d.transfers) c.in-Ok.ensures.writes.ok in
    omega (arith, first, then)

pub returns-in-Err-clause-bounded : goal.returns-in-Err-clause-bounded
returns-in-Err-clause-bounded g c =
    let first = c.in_ok-lbn.ensures.bounded in
    let then = one-failed _ _ (g.D.Device.disk c.locate.new.device) _ c.in-Err.ensures.writes.err in
    omega (arith, first, then)

pub returns-in_err-lbn-clause-refused : goal.returns-in_err-lbn-clause-refused
returns-in_err-lbn-clause-refused g c =
    handed _ c.from_residual.result _ c.from_residual.ensures.1 (fails-unread (omega arith) c.in_err-lbn.ensures.refused)

pub returns-in-Ok-clause-seen : goal.returns-in-Ok-clause-seen
returns-in-Ok-clause-seen g c = λ _.
    let s = c.args.self.now in
    let old = g.D.Device.disk c.args.device.now in
    let written = c.in-Ok.ensures.writes.ok in
    let looked = c.in_ok-lbn.ensures.found.reads.looked in
    seen-as c.locate.new.seen (home_of s) old (g.D.Device.disk c.write.new.self)
    (λ honest. sym looked.honest ∙ sym (ap (λ (d : Disk). d.honest) written) ∙ honest)
    (stored-table s c.args.f c.args.vbn _ _ _ _ c.requires.is_for c.requires.own c.in_ok-lbn.ensures.found _ written)
    c.in_ok-lbn.ensures.seen
