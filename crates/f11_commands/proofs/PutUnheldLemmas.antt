-- Behind a file that was to be made nobody holds an access, where nobody did before.
use Rattle.std.proofs.Common.{◌≡◌, inl, inr, ℕ, zero, suc, List, ◌++◌, Option, Some, None, Result, Ok, Err, ap, ◌∙◌}
use Rattle.f11_host.specs.CopyFromHost.{as_image}
use Rattle.f11_host.specs.TextFilling.{as_text}
use Rattle.f11_host.specs.declared.refusal.HostRefusal.{HostRefusal}
use Rattle.f11_flx.specs.declared.mode.CopyMode.{CopyMode}
use Rattle.f11_flx.specs.declared.mode.CopyMode.TheVariants as mode
use Rattle.f11_flx.proofs.FromRt.MadeLemmas.{such-made}
use Rattle.f11_making.specs.Asking.{Granted, Who, plain}
use Rattle.f11_making.specs.Making.{Making, creation, entry, filling, making_of, naming, new_id, opening, stating}
use Rattle.f11_making.proofs.AskingLemmas.{granted-parts}
use Rattle.f11_making.proofs.GainedLemmas.{enters-from}
use Rattle.f11_store.specs.Directory.{index_of_empty, record_bytes}
use Rattle.f11_store.specs.Store.{Store, file_named}
use Rattle.f11_store.specs.declared.files.FileId.{FileId}
use Rattle.f11_commands.specs.Copying.{operator}
use Rattle.f11_commands.specs.PutCommand.{Hosts, MakesFor, PutsByName, PutsInto}
use Rattle.f11_commands.specs.PutSlots.{AsksForSlots, slots_before}
use Rattle.f11_commands.specs.Stopping.{IsUnheld}
use Rattle.f11_commands.specs.declared.put.Putting.{Putting}
use Rattle.f11_commands.proofs.PutSlotsLemmas.{growth-unheld}

-- what tasks hold is as it was
abbrev KeepsHeld : Store → Store → Type 0
KeepsHeld s t = (task lun : ℕ) → t.access task lun ≡ s.access task lun

-- attributes are stated,
stated-held : (who : Who) (id : FileId) (stated : Option (List ℕ)) (s t : Store) → Granted plain who (stating stated id) s t → KeepsHeld s t
stated-held who id None s t g task lun = ap (λ (x : Store). x.access task lun) g
stated-held who id (Some attr) s t g task lun = ap (λ (x : Store). x.access task lun) (g.2 ∙ g.1.3.changes)

-- and the name entered
named-held : (who : Who) (making : Making) (id : FileId) (s t : Store) → Granted plain who (naming making id) s t → KeepsHeld s t
named-held who making id s t g task lun =
    let d = making.directory in
    let from = enters-from (index_of_empty (file_named s d)) s g.0 d (record_bytes id making.name) g.1.3.changes in
    ap (λ (x : Store). x.access task lun) (g.2.2 ∙ g.2.1.3.changes) ∙ ap (λ a. a task lun) (from.access ∙ from.is-ready.access)

-- a file that is made is given up
made-held : (making : Making) (who : Who) (s t : Store) → Granted plain who (making_of making 0 (new_id s)) s t → KeepsHeld s t
made-held making who s t g task lun =
    let id : FileId = new_id s in
    let one = granted-parts plain who (creation making id) (opening 0 id ++ (filling 0 making.blocks ++ entry making id)) s t g in
    let two = granted-parts plain who (opening 0 id) (filling 0 making.blocks ++ entry making id) one.0 t one.2 in
    let three = granted-parts plain who (filling 0 making.blocks) (entry making id) two.0 t two.2 in
    let four = granted-parts plain who (stating making.stated id) (naming making id) three.0 t three.2 in
    let such = such-made making who 0 s one.0 two.0 three.0 one.1 two.1 three.1 in
    named-held who making id four.0 t four.2 task lun ∙ stated-held who id making.stated three.0 four.0 four.1 task lun
    ∙ such.0.access task lun

for-held : (m : CopyMode) (bytes blocks : ℕ) (h h' : Hosts) (dir : FileId) (name : List ℕ) (s t : Store)
    → MakesFor m bytes blocks h h' dir name s t → KeepsHeld s t
for-held mode.Image bytes blocks h h' dir name s t made = made-held (as_image name dir 0 bytes made.pieces) operator s t made.asked
for-held mode.Text bytes blocks h h' dir name s t made = made-held (as_text name dir 0 made.plan made.pieces) operator s t made.asked

into-held : (p : Putting) (bytes : ℕ) (dir : FileId) (result : Result ℕ HostRefusal) (h h' : Hosts) (s t : Store)
    → PutsInto p bytes dir result h h' s t → KeepsHeld s t
into-held p bytes dir (Ok blocks) h h' s t made = for-held p.mode bytes blocks h h' dir p.name s t made
into-held p bytes dir (Err e) h h' s t left = left.undone.access

slots-unheld : (n : ℕ) (s t : Store) → AsksForSlots plain n s t → IsUnheld s → IsUnheld t
slots-unheld zero s t same unheld task lun = ap (λ (x : Store). x.access task lun) same ∙ unheld task lun
slots-unheld (suc n) s t asked unheld task lun = growth-unheld n s t asked unheld task lun

pub put-unheld : (p : Putting) (bytes : ℕ) (result : Result ℕ HostRefusal) (h h' : Hosts) (s t : Store)
    → PutsByName p bytes result h h' s t → IsUnheld s → IsUnheld t
put-unheld p bytes result h h' s t (inl puts) unheld task lun =
    let found : IsUnheld puts.found =
    λ k l. ap (λ (x : Store). x.access k l) (puts.finds.2 ∙ puts.finds.1.2.changes) ∙ unheld k l in
    let ready = slots-unheld (slots_before p.blocks puts.found) puts.found puts.puts.ready puts.puts.readies found in
    into-held p bytes puts.dir result h h' puts.puts.ready t puts.puts.puts task lun ∙ ready task lun
put-unheld p bytes result h h' s t (inr none) unheld task lun =
    ap (λ (x : Store). x.access task lun) none.not_found.2.store_stays ∙ unheld task lun
