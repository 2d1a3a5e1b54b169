use Rattle.std.proofs.lemmas.Result.{on_ok_weaker, IfErr-weaker}
use Rattle.f11_files.proofs.Removing.Drop.{drops-header, drop-breaks}
use Rattle.f11_files.proofs.Confining.Parts.{of-none, parts-then, stands-then, to-parts}
use Rattle.std.proofs.Common.{[]}
use Rattle.f11_image_store.specs.Confines.{no_header, only_header}
use Rattle.f11_files.proofs.structure.Structure.drop_header.Goals as goal

pub returns-clause-dropped : goal.returns-clause-dropped
returns-clause-dropped g c =
    on_ok_weaker c.give_from.result (drops-header _ _ _ _ _ _ _ c.in_ok-free_slot.ensures.stays.home c.in_ok-free_slot.ensures.freed)
    c.give_from.ensures.given

pub returns-clause-refused : goal.returns-clause-refused
returns-clause-refused g c =
    IfErr-weaker c.give_from.result _ _ (drop-breaks _ _ _ _ _ _ _ c.in_ok-free_slot.ensures.stays.home c.in_ok-free_slot.ensures.freed)
    c.give_from.ensures.refused

pub returns-clause-confined : goal.returns-clause-confined
returns-clause-confined g c =
    let only = only_header c.args.n in
    parts-then c.args.self.now c.free_slot.new.self only c.in_ok-free_slot.ensures.places c.in_ok-free_slot.ensures.confined
    (to-parts c.free_slot.new.self only no_header [] (of-none only) c.give_from.ensures.confined)

pub returns-clause-places : goal.returns-clause-places
returns-clause-places g c =
    on_ok_weaker c.give_from.result (stands-then c.args.self.now c.free_slot.new.self c.give_from.new.self c.in_ok-free_slot.ensures.places)
    c.give_from.ensures.places
