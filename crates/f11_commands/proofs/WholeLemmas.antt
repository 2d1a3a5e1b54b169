-- A file that gets its attributes once it is filled, and whose making was stopped: it ends at its beginning, or has all its blocks.
use Rattle.std.proofs.Common.{◌≡◌, ◌⊎◌, inl, inr, ℕ, ◌==◌, Bool, true, false, if◌then◌else◌, List, [], ◌∷◌, ◌++◌, All, Option, Some, None}
use Rattle.std.proofs.Common.{Result, Ok, Err, refl, sym, ap, subst, ◌∙◌, arith}
use Rattle.std.proofs.lemmas.List.Elements.{All-head, All-tail}
use Rattle.f11_dev.specs.declared.device.Device.{Ghosts}
use Rattle.f11_serving.specs.fcp.Lists.{is_sound, store_of_volume}
use Rattle.f11_serving.specs.fcp.Serving.{is_spent, state_in}
use Rattle.f11_serving.specs.fcp.declared.volume.Volume.{Volume}
use Rattle.f11_making.proofs.AskingLemmas.{granted-parts}
use Rattle.f11_flx.proofs.FromRt.FromRtLemmas.{created-next}
use Rattle.f11_making.proofs.GainedLemmas.{not-index}
use Rattle.f11_flx.proofs.FromRt.MadeLemmas.{IsSuch, such-created, such-made}
use Rattle.f11_flx.proofs.Made.NewLemmas.{IsNewIn, new-made}
use Rattle.f11_flx.proofs.Made.SeenLemmas.{granted-seen}
use Rattle.f11_making.proofs.VolumeLemmas.{unused, volume-seen}
use Rattle.f11_making.specs.Asking.{Asking, Denies, Granted, Grants, Tried, asks, counts, plain, reads, told, writes}
use Rattle.f11_making.specs.Making.{Making, creation, filling, new_id, opening}
use Rattle.f11_making.specs.AsksFor.{IsMakingOf}
use Rattle.f11_making.specs.Volume.{of_volume}
use Rattle.f11_flx.specs.Stating.{AsksFinishing, AsksInOrder, FillsBy, FinishesBy, IsFilling, IsFinishing}
use Rattle.f11_flx.specs.Stating.{creating, finishing, unasked, unfinished}
use Rattle.f11_runs.proofs.AccessLemmas.{true-false}
use Rattle.f11_store.proofs.StepLags.{step_lags}
use Rattle.f11_store.specs.Causes.{first_refusal}
use Rattle.f11_store.specs.Changes.{is_due, with_access, with_replacement, with_slots_first}
use Rattle.f11_store.specs.Directory.{entry_count, index_of_empty, needs_block, record_bytes}
use Rattle.f11_store.specs.File.{File, end_of, need, stated_end}
use Rattle.f11_store.specs.Headroom.{slots_first}
use Rattle.f11_store.specs.Ident.{ident_with}
use Rattle.f11_store.specs.Lags.{IsLike, append_work, end_work, enter_work, extend_work, give_up_work, go_work, lengthen_work, mark_work}
use Rattle.f11_store.specs.Lags.{new_file_work, no_work, served_work, work_of}
use Rattle.f11_store.specs.Step.{Step}
use Rattle.f11_store.specs.Store.{Access, Store, file_named, id_held, is_accessed}
use Rattle.f11_store.specs.declared.files.Change.{Change}
use Rattle.f11_store.specs.declared.files.Change.TheVariants as change
use Rattle.f11_store.specs.declared.files.FileId.{FileId}
use Rattle.f11_store.specs.declared.refusals.Refusal.{Refusal}
use Rattle.f11_store.specs.declared.requests.Reply.{Reply}
use Rattle.f11_store.specs.declared.requests.Request.{Request}
use Rattle.f11_store.specs.declared.requests.Request.TheVariants as request
use Rattle.f11_making.proofs.AskedLemmas.{never}
use Rattle.f11_commands.proofs.LeavingLemmas.{AllLeave, Has, both-leave, extension-leaves, lag-leaves, slots-leave, work-leaves}
use Rattle.f11_commands.proofs.OthersLemmas.{HoldsOnly, IsHeldOf, all-behind, no-slot-0, none-index, own-holds, taken-unused, write-holds}
use Rattle.f11_commands.proofs.StoppingLemmas.{Stops, alive-of, one-stopped, stored, stops}
use Rattle.f11_commands.specs.Copying.{operator}
use Rattle.f11_commands.specs.Stopping.{EndsWhole, IsStopped, IsUnheld, LagsAsked, in_part, not_begun}

-- a file has these attributes, or these blocks
abbrev HasAttr : List ℕ → File → Type 0
HasAttr attr f = f.attr ≡ attr

abbrev HasBlocks : List (List ℕ) → File → Type 0
HasBlocks blocks f = f.blocks ≡ blocks

-- what fills a file sets no attributes
module _ (attr : List ℕ) (k lun : ℕ) (id : FileId) where
  fills-leave : (r : Request) (lent : List ℕ) (u : Store) → FillsBy lun id r
      → AllLeave (HasAttr attr) k (work_of u operator.task operator.caller r lent).parts
  fills-leave r lent u is =
      work-leaves (HasAttr attr) k (first_refusal u operator.task operator.caller r)
      (served_work u operator.task operator.caller r lent) (served r is)
    where
      given-up : (l : ℕ) (o : Option Access) → AllLeave (HasAttr attr) k (give_up_work u operator.task l o).parts
      given-up l None = tt
      given-up l (Some a) = by (is_due (with_access u operator.task l None) a.file)
        where
          by : (b : Bool) → AllLeave (HasAttr attr) k (if b then go_work a.file.number else no_work).parts
          by true = (tt, tt)
          by false = tt

      gone : (g : FileId) (b : Bool) → AllLeave (HasAttr attr) k (if b then mark_work g.number else go_work g.number).parts
      gone g true = ((λ at f h. h), tt)
      gone g false = (tt, tt)

      served : (r : Request) → FillsBy lun id r
          → AllLeave (HasAttr attr) k (served_work u operator.task operator.caller r lent).parts
      served (request.Access g mode l) is = tt
      served (request.Extend l n) is =
          let i : FileId = id_held u operator.task l in
          let room : ℕ = (file_named u i).room in
          slots-leave (HasAttr attr) k (slots_first u (need room n)) u (extend_work i.number room n) (λ f h. h)
          (extension-leaves (HasAttr attr) k i.number n (λ f h. h) (λ at f h. h))
      served (request.Deaccess l) is = given-up l (u.access operator.task l)
      served (request.Delete g) is = gone g (is_accessed u g)
      served _ is = absurd is

  write-leaves : (l vbn : ℕ) (block : List ℕ) (u : Store)
      → AllLeave (HasAttr attr) k (work_of u operator.task operator.caller (request.WriteBlock l vbn) block).parts
  write-leaves l vbn block u =
      work-leaves (HasAttr attr) k (first_refusal u operator.task operator.caller (request.WriteBlock l vbn))
      (served_work u operator.task operator.caller (request.WriteBlock l vbn) block) ((λ at f h. h), tt)

-- what finishes it changes no blocks but its directory's
module _ (making : Making) (blocks : List (List ℕ)) (k : ℕ) (id : FileId) (apart : (k == making.directory.number) ≡ false) where
  finishes-leave : (r : Request) (lent : List ℕ) (u : Store) → FinishesBy making id r
      → AllLeave (HasBlocks blocks) k (work_of u operator.task operator.caller r lent).parts
  finishes-leave r lent u is =
      work-leaves (HasBlocks blocks) k (first_refusal u operator.task operator.caller r)
      (served_work u operator.task operator.caller r lent) (served r is)
    where
      gone : (g : FileId) (b : Bool) → AllLeave (HasBlocks blocks) k (if b then mark_work g.number else go_work g.number).parts
      gone g true = ((λ at f h. h), tt)
      gone g false = (tt, tt)

      replaced : (c : Change) (f : File) → HasBlocks blocks f → HasBlocks blocks (with_replacement c f)
      replaced (change.Attr attr) f h = h
      replaced (change.Ident ident) f h = h
      replaced (change.Protect word) f h = h

      elsewhere : (d : FileId) → d ≡ making.directory → (k == d.number) ≡ true → ⊥
      elsewhere d same at = true-false (sym (ap (λ (i : FileId). k == i.number) (sym same) ∙ at) ∙ apart)

      ended : (d : FileId) (i : ℕ) (bytes : List ℕ) → d ≡ making.directory
          → AllLeave (HasBlocks blocks) k (end_work d.number i bytes).parts
      ended d i bytes same = ((λ at. absurd (elsewhere d same at)), ((λ at. absurd (elsewhere d same at)), tt))

      longer : (d : FileId) → d ≡ making.directory → AllLeave (HasBlocks blocks) k (lengthen_work u d 1).parts
      longer d same =
          let room : ℕ = (file_named u d).room in
          slots-leave (HasBlocks blocks) k (slots_first u (need room 1)) u (extend_work d.number room 1) (λ f h. h)
          (extension-leaves (HasBlocks blocks) k d.number 1 (λ f h. h) (λ at. absurd (elsewhere d same at)))

      appended : (d : FileId) (i : ℕ) (bytes : List ℕ) → d ≡ making.directory → (b : Bool)
          → AllLeave (HasBlocks blocks) k (append_work b u d i bytes).parts
      appended d i bytes same true =
          both-leave (HasBlocks blocks) k (lengthen_work u d 1).parts (end_work d.number i bytes).parts (longer d same)
          (ended d i bytes same)
      appended d i bytes same false = ended d i bytes same

      entered : (d : FileId) (bytes : List ℕ) → d ≡ making.directory → (o : Option ℕ)
          → AllLeave (HasBlocks blocks) k (enter_work o u d bytes).parts
      entered d bytes same (Some i) = ((λ at. absurd (elsewhere d same at)), tt)
      entered d bytes same None = appended d (entry_count (file_named u d)) bytes same (needs_block (file_named u d))

      served : (r : Request) → FinishesBy making id r
          → AllLeave (HasBlocks blocks) k (served_work u operator.task operator.caller r lent).parts
      served (request.WriteAttr g c) is = ((λ at. replaced c), tt)
      served (request.Enter d name g) is = entered d (record_bytes g name) is.0 (index_of_empty (file_named u d))
      served (request.Delete g) is = gone g (is_accessed u g)
      served _ is = absurd is

-- A store on the way: the file that is made is such, if it is there, and nothing is held but accesses to it.
record IsSoFar (P : File → Type 0) (id : FileId) (u : Store) : Type 0 where
  pub such : Has P (u.file id.number)
  pub held : HoldsOnly id u

-- What is asked on the way: it is of the making, and leaves the file such.
record Keeps (P : File → Type 0) (id : FileId) (Is : Asking → Type 0) : Type 0 where
  pub alike : (f g : File) → IsLike f g → P g → P f
  pub leaves : (r : Request) (lent : List ℕ) (u : Store) → Is (asks r)
      → AllLeave P id.number (work_of u operator.task operator.caller r lent).parts
  pub leaves-written : (l vbn : ℕ) (block : List ℕ) (u : Store) → Is (writes l vbn block)
      → AllLeave P id.number (work_of u operator.task operator.caller (request.WriteBlock l vbn) block).parts

module _ (making : Making) (id : FileId) (late : (id.number == 1) ≡ false) (P : File → Type 0) (Is : Asking → Type 0)
    (part : (x : Asking) → Is x → IsMakingOf 0 making.directory making.name making.protection making.stated id x)
    (keeps : Keeps P id Is) where
  -- a step
  step-so-far : (r : Request) (lent given : List ℕ) (result : Result Reply Refusal) (u w : Store)
      → AllLeave P id.number (work_of u operator.task operator.caller r lent).parts → IsSoFar P id u
      → Step u operator.task operator.caller r lent result w given → HoldsOnly id w → IsSoFar P id w
  step-so-far r lent given result u w leaves on h held = record {
    such = lag-leaves P id.number keeps.alike (work_of u operator.task operator.caller r lent) w u
        (step_lags u operator.task operator.caller r lent result w given (none-index id u late on.held) h) leaves on.such;
    held = held;
  }

  -- whatever was asked, granted or refused
  asked-so-far : (x : Asking) (u w : Store) → Is x → IsSoFar P id u
      → (Grants plain operator x u w) ⊎ ((e : Refusal) × Denies plain operator x e u w) → IsSoFar P id w
  asked-so-far (asks r) u w is on (inl g) =
      step-so-far r g.0 g.2 (Ok g.1) u w (keeps.leaves r g.0 u is) on g.3
      (own-holds making.directory making.name making.protection making.stated id r g.0 g.2 (Ok g.1) u w (part (asks r) is) g.3 on.held)
  asked-so-far (asks r) u w is on (inr d) =
      step-so-far r d.1.0 d.1.1 (Err d.0) u w (keeps.leaves r d.1.0 u is) on d.1.2
      (own-holds making.directory making.name making.protection making.stated id r d.1.0 d.1.1 (Err d.0) u w (part (asks r) is) d.1.2
      on.held)
  asked-so-far (writes l vbn block) u w is on (inl g) =
      step-so-far (request.WriteBlock l vbn) block g.1 (Ok g.0) u w (keeps.leaves-written l vbn block u is) on g.2
      (write-holds making.directory making.name making.protection making.stated id l vbn block g.1 (Ok g.0) u w g.2 on.held)
  asked-so-far (writes l vbn block) u w is on (inr d) =
      step-so-far (request.WriteBlock l vbn) block d.1.0 (Err d.0) u w (keeps.leaves-written l vbn block u is) on d.1.1
      (write-holds making.directory making.name making.protection making.stated id l vbn block d.1.0 (Err d.0) u w d.1.1 on.held)
  asked-so-far (told r a) u w is on h = absurd (part (told r a) is)
  asked-so-far (reads l vbn block) u w is on h = absurd (part (reads l vbn block) is)
  asked-so-far (counts l n) u w is on h = absurd (part (counts l n) is)

  all-so-far : (xs : List Asking) (u w : Store) → All Is xs → IsSoFar P id u → Tried plain operator xs u w → IsSoFar P id w
  all-so-far [] u w only on h = subst (IsSoFar P id) (sym h) on
  all-so-far (x ∷ xs) u w only on h =
      all-so-far xs h.0 w (All-tail Is x xs only) (asked-so-far x u h.0 (All-head Is x xs only) on h.1) h.2

  -- and what was stopped
  asked-lags : (x : Asking) (u t : Store) → Is x → IsSoFar P id u → LagsAsked x t u → Has P (t.file id.number)
  asked-lags (asks r) u t is on h =
      lag-leaves P id.number keeps.alike (work_of u operator.task operator.caller r h.0) t u h.1 (keeps.leaves r h.0 u is) on.such
  asked-lags (writes l vbn block) u t is on h =
      lag-leaves P id.number keeps.alike (work_of u operator.task operator.caller (request.WriteBlock l vbn) block) t u h
      (keeps.leaves-written l vbn block u is) on.such
  asked-lags (told r a) u t is on h = absurd (part (told r a) is)
  asked-lags (reads l vbn block) u t is on h = absurd (part (reads l vbn block) is)
  asked-lags (counts l n) u t is on h = absurd (part (counts l n) is)

  stopped-so-far : (x : Asking) (u t : Store) → Is x → IsSoFar P id u → IsStopped x u t → Has P (t.file id.number)
  stopped-so-far x u t is on (not_begun held same) = subst (Has P) (ap (λ (s : Store). s.file id.number) same) on.such
  stopped-so-far x u t is on (in_part h) = asked-lags x u t is on h

  -- so of a list of which one thing was stopped
  stops-such : (xs : List Asking) (u t : Store) → All Is xs → IsSoFar P id u → Stops xs u t → Has P (t.file id.number)
  stops-such xs u t only on h =
      let parts = all-behind Is h.asked h.last h.behind (subst (All Is) (sym h.are) only) in
      stopped-so-far h.last h.reached t parts.1 (all-so-far h.asked u h.reached parts.0 on h.tried) h.stopped

-- what fills a file, and what finishes it, is of its making
filling-part : (making : Making) (id : FileId) (x : Asking) → IsFilling 0 id x
    → IsMakingOf 0 making.directory making.name making.protection making.stated id x
filling-part making id (asks r) is = by r is
  where
    by : (r : Request) → FillsBy 0 id r → IsMakingOf 0 making.directory making.name making.protection making.stated id (asks r)
    by (request.Access f mode l) is = is
    by (request.Extend l n) is = is
    by (request.Deaccess l) is = is
    by (request.Delete f) is = is
    by _ is = absurd is
filling-part making id (told r a) is = absurd is
filling-part making id (reads l vbn block) is = absurd is
filling-part making id (writes l vbn block) is = is
filling-part making id (counts l n) is = absurd is

finishing-part : (making : Making) (id : FileId) (x : Asking) → IsFinishing making id x
    → IsMakingOf 0 making.directory making.name making.protection making.stated id x
finishing-part making id (asks r) is = by r is
  where
    by : (r : Request) → FinishesBy making id r → IsMakingOf 0 making.directory making.name making.protection making.stated id (asks r)
    by (request.WriteAttr f c) is = is
    by (request.Enter d name f) is = is
    by (request.Delete f) is = is
    by _ is = absurd is
finishing-part making id (told r a) is = absurd is
finishing-part making id (reads l vbn block) is = absurd is
finishing-part making id (writes l vbn block) is = absurd is
finishing-part making id (counts l n) is = absurd is

filling-keeps : (attr : List ℕ) (id : FileId) → Keeps (HasAttr attr) id (IsFilling 0 id)
filling-keeps attr id = record {
  alike = λ f g l h. l.attr ∙ h;
  leaves = λ r lent u is. fills-leave attr id.number 0 id r lent u is;
  leaves-written = λ l vbn block u is. write-leaves attr id.number 0 id l vbn block u;
}

finishing-keeps : (making : Making) (blocks : List (List ℕ)) (id : FileId) → (id.number == making.directory.number) ≡ false
    → Keeps (HasBlocks blocks) id (IsFinishing making id)
finishing-keeps making blocks id apart = record {
  alike = λ f g l h. l.blocks ∙ h;
  leaves = λ r lent u is. finishes-leave making blocks id.number id apart r lent u is;
  leaves-written = λ l vbn block u is. absurd is;
}

-- nobody holds anything in a store with a new file, where nobody did
new-unheld : (id : FileId) (s t : Store) → IsUnheld s → IsNewIn operator.caller id s.access s t → HoldsOnly id t
new-unheld id s t unheld new task lun = subst (IsHeldOf id) (sym (new.access task lun ∙ unheld task lun)) tt

late-of : (id : FileId) (s t : Store) → IsNewIn operator.caller id s.access s t → (id.number == 1) ≡ false
late-of id s t new = not-index id.number 6 (omega arith) new.low

-- a file that has the attributes that end at its beginning ends there
such-end : (attr : List ℕ) (o : Option File) (f : File) → stated_end attr ≡ 0 → Has (HasAttr attr) o → o ≡ Some f → end_of f ≡ 0
such-end attr o f none such there =
    let is : f.attr ≡ attr = subst (Has (HasAttr attr)) there such in
    let begins : stated_end f.attr ≡ 0 = ap stated_end is ∙ none in
    omega (arith, begins)

module _ {D : Type 0} {met : Ghosts D} (making : Making) (none : stated_end making.attr ≡ 0) (AreSuch : List (List ℕ) → Type 0)
    (v : Volume D met) (sound : is_sound v ≡ true) (unheld : IsUnheld (store_of_volume v)) where
  abbrev s : Store
  s = store_of_volume v

  -- its creation was stopped
  pub creation-ends : (t : Store) → IsStopped (asks (request.Create 0 (ident_with making.name) making.attr)) s t
      → EndsWhole making.directory AreSuch s t
  creation-ends t stopped = λ apart f there. inl (such-end making.attr (t.file (new_id s).number) f none (by stopped) there)
    where
      r : Request
      r = request.Create 0 (ident_with making.name) making.attr

      unused-slot : Has (HasAttr making.attr) (s.file (new_id s).number)
      unused-slot =
          subst (Has (HasAttr making.attr))
          (sym (unused v (new_id s).number (taken-unused s (no-slot-0 (state_in v).disk.image (state_in v).home)))) tt

      by : IsStopped (asks r) s t → Has (HasAttr making.attr) (t.file (new_id s).number)
      by (not_begun held same) = subst (Has (HasAttr making.attr)) (ap (λ (x : Store). x.file (new_id s).number) same) unused-slot
      by (in_part h) =
          lag-leaves (HasAttr making.attr) (new_id s).number (λ f g l is. l.attr ∙ is)
          (work_of s operator.task operator.caller r h.0) t s h.1
          (work-leaves (HasAttr making.attr) (new_id s).number (first_refusal s operator.task operator.caller r)
          (served_work s operator.task operator.caller r h.0)
          (slots-leave (HasAttr making.attr) (new_id s).number (slots_first s 1) s
          (new_file_work (with_slots_first s 1) operator.caller 0 (ident_with making.name) making.attr) (λ f is. is) (refl, tt)))
          unused-slot

  -- it was created, and what fills it was asked
  pub filling-ends : (id : FileId) (created : Volume D met) → Granted of_volume operator (creation making id) v created
      → (xs : List Asking) → All (IsFilling 0 id) xs → (t : Store) → Stops xs (store_of_volume created) t
      → EndsWhole making.directory AreSuch s t
  filling-ends id created creates xs only t stopped =
      let g = granted-seen of_volume store_of_volume is_sound volume-seen operator (creation making id) v created creates sound in
      let u : Store = store_of_volume created in
      let next : id ≡ new_id s = created-next making id operator s u g.0 in
      let new : IsNewIn operator.caller id s.access s u = new-made making id operator s u g.0 in
      let made : IsSuch making operator.caller [] (new_id s).number u =
      such-created making operator s u (subst (λ (i : FileId). Granted plain operator (creation making i) s u) next g.0) in
      let here : u.file id.number ≡ Some made.file = ap (λ (i : FileId). u.file i.number) next ∙ made.there in
      let on : IsSoFar (HasAttr making.attr) id u =
      record { such = subst (Has (HasAttr making.attr)) (sym here) made.attr_is; held = new-unheld id s u unheld new } in
      let such : Has (HasAttr making.attr) (t.file id.number) =
      stops-such making id (late-of id s u new) (HasAttr making.attr) (IsFilling 0 id) (filling-part making id)
      (filling-keeps making.attr id) xs u t only on stopped in
      λ apart f there. inl (such-end making.attr (t.file id.number) f none such (ap (λ (i : FileId). t.file i.number) next ∙ there))

  -- it was filled, and what finishes it was asked
  pub finishing-ends : (w : Volume D met) (m : AsksFinishing of_volume operator 0 making AreSuch v w) (t : Store)
      → Stops m.asked (store_of_volume m.filled) t → EndsWhole making.directory AreSuch s t
  finishing-ends w m t stopped =
      let all : List Asking = creation making m.id ++ (opening 0 m.id ++ filling 0 m.pieces) in
      let g = granted-seen of_volume store_of_volume is_sound volume-seen operator all v m.filled m.fills sound in
      let u : Store = store_of_volume m.filled in
      let one = granted-parts plain operator (creation making m.id) (opening 0 m.id ++ filling 0 m.pieces) s u g.0 in
      let two = granted-parts plain operator (opening 0 m.id) (filling 0 m.pieces) one.0 u one.2 in
      let next : m.id ≡ new_id s = created-next making m.id operator s one.0 one.1 in
      let such = such-made (record making { blocks = m.pieces }) operator 0 s one.0 two.0 u
      (subst (λ (i : FileId). Granted plain operator (creation making i) s one.0) next one.1)
      (subst (λ (i : FileId). Granted plain operator (opening 0 i) one.0 two.0) next two.1) two.2 in
      let new : IsNewIn operator.caller m.id s.access s u =
      subst (λ (i : FileId). IsNewIn operator.caller i s.access s u) (sym next) such.0 in
      let here : u.file m.id.number ≡ Some such.1.file = ap (λ (i : FileId). u.file i.number) next ∙ such.1.there in
      let on : IsSoFar (HasBlocks m.pieces) m.id u =
      record { such = subst (Has (HasBlocks m.pieces)) (sym here) such.1.blocks_are; held = new-unheld m.id s u unheld new } in
      λ apart f there.
      let other : (m.id.number == making.directory.number) ≡ false =
      ap (λ (i : FileId). i.number == making.directory.number) next ∙ apart in
      let has : Has (HasBlocks m.pieces) (t.file m.id.number) =
      stops-such making m.id (late-of m.id s u new) (HasBlocks m.pieces) (IsFinishing making m.id) (finishing-part making m.id)
      (finishing-keeps making m.pieces m.id other) m.asked u t m.only on stopped in
      let is : f.blocks ≡ m.pieces =
      subst (Has (HasBlocks m.pieces)) (ap (λ (i : FileId). t.file i.number) next ∙ there) has in
      inr (subst AreSuch (sym is) m.are_such)

  -- a request of it failed the volume
  pub ends-whole : (w : Volume D met) → is_spent w ≡ true → AsksInOrder of_volume operator 0 making AreSuch v w
      → EndsWhole making.directory AreSuch s (stored w)
  ends-whole w dead (unasked same) =
      never (sym (ap (λ (u : Volume D met). is_spent u) same) ∙ dead) (alive-of (state_in v).disk.honest (is_spent v) sound)
  ends-whole w dead (creating tried) =
      let r : Request = request.Create 0 (ident_with making.name) making.attr in
      creation-ends (stored w) (one-stopped (asks r) s (stored w) (stops (asks r ∷ []) v w tried sound dead))
  ends-whole w dead (unfinished m) =
      let g = granted-seen of_volume store_of_volume is_sound volume-seen operator (creation making m.id) v m.created m.creates sound in
      filling-ends m.id m.created m.creates m.asked m.only (stored w) (stops m.asked m.created w m.tried g.1 dead)
  ends-whole w dead (finishing m) =
      let g = granted-seen of_volume store_of_volume is_sound volume-seen operator
      (creation making m.id ++ (opening 0 m.id ++ filling 0 m.pieces)) v m.filled m.fills sound in
      finishing-ends w m (stored w) (stops m.asked m.filled w m.tried g.1 dead)
