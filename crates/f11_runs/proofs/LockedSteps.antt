-- A locked file through one step.
use Rattle.std.proofs.Common.{◌≡◌, ◌≢◌, ℕ, zero, suc, ◌<◌, ◌==◌, ◌&&◌, ◌||◌, Bool, true, false, not, List, [], ◌∷◌, Option, Some, None}
use Rattle.std.proofs.Common.{Result, Ok, Err, refl, sym, ◌∙◌, ap, subst, arith, ◌⊎◌, inl, inr, is_some, if◌then◌else◌, fold, nat_lt}
use Rattle.std.specs.List.{range_with_len}
use Rattle.std.proofs.lemmas.Bool.{eqb-true, and_parts, not-true, ne_eqb, eq-eqb, cases_eq, and_from, and_left, and_right}
use Rattle.f11_store.specs.declared.callers.Uic.{Uic}
use Rattle.f11_store.specs.declared.files.FileId.{FileId}
use Rattle.f11_store.specs.declared.files.Change.{Change}
use Rattle.f11_store.specs.declared.files.Change.TheVariants as change
use Rattle.f11_store.specs.declared.files.Mode.{Mode}
use Rattle.f11_store.specs.declared.files.Mode.TheVariants as mode
use Rattle.f11_store.specs.declared.protection.Right.TheVariants as right
use Rattle.f11_store.specs.declared.refusals.Refusal.{Refusal}
use Rattle.f11_store.specs.declared.requests.Reply.{Reply}
use Rattle.f11_store.specs.declared.requests.Request.{Request}
use Rattle.f11_store.specs.declared.requests.Request.TheVariants as request
use Rattle.f11_store.specs.Accesses.{FreeIsEmpty}
use Rattle.f11_store.specs.File.{File, is_marked}
use Rattle.f11_store.specs.Store.{Store, Access, file_named, id_in, id_held, least_free, is_same, is_held, is_accessed, bars}
use Rattle.f11_store.specs.Store.{bars_writing}
use Rattle.f11_store.specs.Causes.{is_missing, is_no_writer, cannot_write, first_refusal, is_bad, lacks, lacks_for}
use Rattle.f11_store.specs.Changes.{with_access, with_change, with_replacement, with_delete_mark, without_file_at, with_marked_file, is_due}
use Rattle.f11_store.specs.Changes.{after_giving_up, after_deaccess, after_delete, with_grown_file, GetsSlots, Grows, GrowsIndex}
use Rattle.f11_store.specs.Changes.{with_more_slots, EntersAt, EntersAtEnd, Extends, with_entry_at_end, Changes}
use Rattle.f11_store.specs.Step.{Step}
use Rattle.f11_store.proofs.FateLaws.{held-accesses, marked-there, Keeps}
use Rattle.f11_store.proofs.FateLaws as fate
use Rattle.f11_store.proofs.StepFates.{may-be-made, MayBeMade, replacement-sequence}
use Rattle.f11_store.specs.Directory.{entry_count, needs_block}
use Rattle.f11_store.proofs.StoreLemmas.{none_first, none_rest}
use Rattle.f11_runs.specs.Locked.{IsLocked, gives_up}
use Rattle.f11_runs.specs.Standing.{AccessesStand, is_lost, lun_of}
use Rattle.f11_runs.proofs.AccessLemmas.{IsThere, there-is, true-false, held-with}
use Rattle.f11_runs.proofs.LockedLemmas.{writer-apart, barred-apart, KeepsFile, keeps-other, keeps-change, stays-locked}

module _ (s : Store) (task lun : ℕ) (id : FileId) (blocks : List (List ℕ)) (low : task < 8) (small : lun < 4)
    (is : IsLocked s task lun id blocks) where
  -- where the accesses are the same
  same-accesses : (s' : Store) → KeepsFile s s' id.number → s'.access ≡ s.access → IsLocked s' task lun id blocks
  same-accesses s' kept access =
      stays-locked s s' task lun id blocks is kept (ap (λ (a : ℕ → ℕ → Option Access). a task lun) access)
      (held-accesses (bars mode.Locked) s' s id access ∙ is.alone)

  -- a file with another number is set
  set-other : (s' : Store) (k : ℕ) (o : Option File) → k ≢ id.number → s'.file id.number ≡ (if id.number == k then o else s.file id.number)
      → KeepsFile s s' id.number
  set-other s' k o other h =
      keeps-other s s' id.number (h ∙ ap (λ b. if b then o else s.file id.number) (ne_eqb id.number k (λ e. other (sym e))))

  other-there : (t : Store) (k : ℕ) (o : Option File) → k ≢ id.number → (if id.number == k then o else t.file id.number) ≡ t.file id.number
  other-there t k o other = ap (λ b. if b then o else t.file id.number) (ne_eqb id.number k (λ e. other (sym e)))

  -- one that is accessed to write
  module _ (t l : ℕ) (early : t < 8) (few : l < 4) (standing : AccessesStand s) where
    written-apart : cannot_write s t l ≡ false → (id_held s t l).number ≢ id.number
    written-apart can = by_access (s.access t l) refl can (standing t l early few)
      where
        by_access : (o : Option Access) → s.access t l ≡ o → is_no_writer o ≡ false → is_lost s o ≡ false → (id_in o).number ≢ id.number
        by_access None held h k = absurd (cc)
        by_access (Some a) held h k = writer-apart s task lun id blocks t l a is early few held h k

  -- an access of another lun or task is given up
  given-up : (t l : ℕ) → ((t == task) && (l == lun)) ≡ false → IsLocked (after_deaccess s t l) task lun id blocks
  given-up t l other = by_access (s.access t l)
    where
      here : ((task == t) && (lun == l)) ≡ false
      here = by_order (cases_eq task t) (cases_eq lun l)
        where
          by_order : (task ≡ t) ⊎ (task ≢ t) → (lun ≡ l) ⊎ (lun ≢ l) → ((task == t) && (lun == l)) ≡ false
          by_order (inl e) (inl f) =
              absurd (true-false (sym (and_from (t == task) (l == lun) (eq-eqb t task (sym e)) (eq-eqb l lun (sym f))) ∙ other))
          by_order (inr e) _ = and_left (task == t) (lun == l) (ne_eqb task t e)
          by_order _ (inr f) = and_right (task == t) (lun == l) (ne_eqb lun l f)

      u : Store
      u = with_access s t l None

      u-holds : u.access task lun ≡ s.access task lun
      u-holds = ap (λ b. if b then None else s.access task lun) here

      u-locked : IsLocked u task lun id blocks
      u-locked =
          stays-locked s u task lun id blocks is (keeps-other s u id.number refl) u-holds
          (held-with (bars mode.Locked) s t l None id is.alone refl)

      by_access : (o : Option Access) → IsLocked (after_giving_up s t l o) task lun id blocks
      by_access None = is
      by_access (Some a) = by_test (is_due u a.file) refl
        where
          by_test : (b : Bool) → is_due u a.file ≡ b → IsLocked (if b then without_file_at u a.file.number else u) task lun id blocks
          by_test false e = u-locked
          by_test true e =
              let due = and_parts (is_marked (file_named u a.file)) (not (is_accessed u a.file)) e in
              let nobody = not-true (is_accessed u a.file) due.1 in
              let apart = barred-apart u task lun id a.file blocks (λ _. true) refl u-locked low small (marked-there u a.file due.0) nobody
              in
              stays-locked u (without_file_at u a.file.number) task lun id blocks u-locked
              (keeps-other u (without_file_at u a.file.number) id.number
              (ap (λ b. if b then None else s.file id.number) (ne_eqb id.number a.file.number (λ e. apart (sym e)))))
              refl (held-accesses (bars mode.Locked) (without_file_at u a.file.number) u id refl ∙ u-locked.alone)

  -- file k grows, or is set
  grown-other : (s' : Store) (k n : ℕ) (more : List (List ℕ)) → k ≢ id.number → Grows s k n more s' → IsLocked s' task lun id blocks
  grown-other s' k n more other grows =
      same-accesses s' (set-other s' k _ other (ap (λ (x : Store). x.file id.number) grows.store_is))
      (ap (λ (x : Store). x.access) grows.store_is)

  altered : (s' : Store) (k : ℕ) (change : File → File) → ((f : File) → (change f).sequence ≡ f.sequence)
      → ((f : File) → (change f).blocks ≡ f.blocks) → s' ≡ with_change s k change
      → IsLocked s' task lun id blocks
  altered s' k change sequence same e =
      same-accesses s' (keeps-change s s' k id.number change sequence same e) (ap (λ (x : Store). x.access) e)

  altered-other : (s' : Store) (k : ℕ) (change : File → File) → k ≢ id.number → s' ≡ with_change s k change → IsLocked s' task lun id blocks
  altered-other s' k change other e =
      same-accesses s' (set-other s' k _ other (ap (λ (x : Store). x.file id.number) e)) (ap (λ (x : Store). x.access) e)

  unchanged : (s' : Store) → s' ≡ s → IsLocked s' task lun id blocks
  unchanged s' e = subst (λ (x : Store). IsLocked x task lun id blocks) (sym e) is

  replaced : (c : Change) (s' : Store) (k : ℕ) → s' ≡ with_change s k (with_replacement c) → IsLocked s' task lun id blocks
  replaced c s' k e = altered s' k (with_replacement c) (replacement-sequence c) (replacement-blocks c) e
    where
      replacement-blocks : (c : Change) (f : File) → (with_replacement c f).blocks ≡ f.blocks
      replacement-blocks (change.Attr a) f = refl
      replacement-blocks (change.Ident i) f = refl
      replacement-blocks (change.Protect p) f = refl

  -- the lun of another request gets an access
  accessed : (t l : ℕ) (m : Mode) (d : FileId) → s.access t l ≡ None → is_missing s d ≡ false → is_held (bars m) s d ≡ false
      → IsLocked (with_access s t l (Some (record { file = d; mode = m }))) task lun id blocks
  accessed t l m d free there none =
      stays-locked s _ task lun id blocks is (keeps-other s _ id.number refl) holds
      (held-with (bars mode.Locked) s t l _ id is.alone (by_mode m none))
    where
      holds : (if (task == t) && (lun == l) then Some (record { file = d; mode = m }) else s.access task lun) ≡ s.access task lun
      holds = by_test ((task == t) && (lun == l)) refl
        where
          by_test : (b : Bool) → ((task == t) && (lun == l)) ≡ b
              → (if b then Some (record { file = d; mode = m }) else s.access task lun) ≡ s.access task lun
          by_test false e = refl
          by_test true e =
              let parts = and_parts (task == t) (lun == l) e in
              let same : s.access task lun ≡ s.access t l = ap (λ (k : ℕ). s.access k lun) (eqb-true task t parts.0)
              ∙ ap (s.access t) (eqb-true lun l parts.1) in
              absurd (let no : None ≡ Some (record { file = id; mode = mode.Locked }) = sym free ∙ sym same ∙ is.holds in cc)

      by_mode : (m : Mode) → is_held (bars m) s d ≡ false → (is_same d id && bars mode.Locked m) ≡ false
      by_mode mode.Read h = and_right (is_same d id) false refl
      by_mode mode.Locked h = and_right (is_same d id) false refl
      by_mode mode.Write h = by_test (is_same d id) refl
        where
          by_test : (b : Bool) → is_same d id ≡ b → (b && true) ≡ false
          by_test false e = refl
          by_test true e =
              let parts = and_parts (d.number == id.number) (d.sequence == id.sequence) e in
              absurd (barred-apart s task lun id d blocks (bars mode.Write) refl is low small there h (eqb-true d.number id.number parts.0))

  -- a file that is deleted: marked where it is this one
  deleted : (d : FileId) → is_missing s d ≡ false → IsLocked (after_delete s d) task lun id blocks
  deleted d there = by_test (is_accessed s d) refl
    where
      by_test : (b : Bool) → is_accessed s d ≡ b
          → IsLocked (if b then with_marked_file s d.number else without_file_at s d.number) task lun id blocks
      by_test true e = altered (with_marked_file s d.number) d.number with_delete_mark (λ f. refl) (λ f. refl) refl
      by_test false e =
          let apart = barred-apart s task lun id d blocks (λ _. true) refl is low small there e in
          same-accesses (without_file_at s d.number) (set-other (without_file_at s d.number) d.number None apart refl) refl

  -- the index file grows, or does first
  index-grown : (s' : Store) (n : ℕ) → GrowsIndex s n s' → IsLocked s' task lun id blocks
  index-grown s' n h =
      let after : s' ≡ with_more_slots (with_grown_file s 1 h.grows.before n [] h.grows.added h.grows.pointers h.grows.room) n =
      h.store_is ∙ ap (λ (x : Store). with_more_slots x n) h.grows.store_is in
      same-accesses s' (set-other s' 1 _ (λ e. omega (arith, e, is.own)) (ap (λ (x : Store). x.file id.number) after))
      (ap (λ (x : Store). x.access) after)

  gained : (n : ℕ) (s' : Store) → GetsSlots n s s' → IsLocked s' task lun id blocks
  gained zero s' e = unchanged s' e
  gained (suc n) s' e = index-grown s' (suc n) e

  -- a record is entered in a block more
  entered-in-block : (grown : Store) (d : FileId) (i : ℕ) (r : List ℕ) (s' : Store) → d.number ≢ id.number → Extends s d.number 1 grown →
      s' ≡ with_entry_at_end grown d.number i r → IsLocked s' task lun id blocks
  entered-in-block grown d i r s' other grows e =
      same-accesses s'
      (keeps-other s s' id.number (ap (λ (x : Store). x.file id.number) e ∙ other-there grown d.number _ other
      ∙ ap (λ (x : Store). x.file id.number) grows.store_is ∙ other-there s d.number _ other))
      (ap (λ (x : Store). x.access) e ∙ ap (λ (x : Store). x.access) grows.store_is)

-- a record is entered
entered : (s : Store) (task lun : ℕ) (id : FileId) (blocks : List (List ℕ)) → task < 8 → lun < 4 → IsLocked s task lun id blocks →
    (o : Option ℕ) (d : FileId) (r : List ℕ) (s' : Store) → d.number ≢ id.number → EntersAt o s d r s' → IsLocked s' task lun id blocks
entered s task lun id blocks low small is (Some i) d r s' other e = altered-other s task lun id blocks low small is s' d.number _ other e
entered s task lun id blocks low small is None d r s' other e = at-end (needs_block (file_named s d)) e
  where
    at-end : (b : Bool) → EntersAtEnd b s d (entry_count (file_named s d)) r s' → IsLocked s' task lun id blocks
    at-end false e = altered-other s task lun id blocks low small is s' d.number _ other e
    at-end true (grown, h, e) =
        entered-in-block h.ready task lun id blocks low small (gained s task lun id blocks low small is _ h.ready h.gains) grown d _ r s'
        other h.makes e

-- what is given up lun after lun by another task
released : (luns : List ℕ) (s : Store) (task lun t : ℕ) (id : FileId) (blocks : List (List ℕ)) → task < 8 → lun < 4 → t ≢ task
    → IsLocked s task lun id blocks
    → IsLocked (fold (λ x l. after_deaccess x t l) s luns) task lun id blocks
released [] s task lun t id blocks low small other is = is
released (l ∷ luns) s task lun t id blocks low small other is =
    released luns (after_deaccess s t l) task lun t id blocks low small other
    (given-up s task lun id blocks low small is t l (and_left (t == task) (l == lun) (ne_eqb t task other)))

-- a request that is served
pub locked-served : (s : Store) (task lun : ℕ) (id : FileId) (blocks : List (List ℕ)) → task < 8 → lun < 4 → IsLocked s task lun id blocks
    → AccessesStand s → FreeIsEmpty s
    → (t : ℕ) (caller : Uic) (r : Request) (block : List ℕ) (s' : Store) → t < 8 → lun_of r < 4 → ((t == task) && gives_up lun r) ≡ false
    → first_refusal s t caller r ≡ None → Changes s t caller r block s' → IsLocked s' task lun id blocks
locked-served s task lun id blocks low small is standing empty t caller (request.Create word ident attr) block s' early few stays none h =
    same-accesses h.ready task lun id blocks low small locked s'
    (set-other h.ready task lun id blocks low small locked s' (least_free h.ready) _ (created-apart (there-is s id is.there))
    (ap (λ (x : Store). x.file id.number) h.makes))
    (ap (λ (x : Store). x.access) h.makes)
  where
    locked : IsLocked h.ready task lun id blocks
    locked = gained s task lun id blocks low small is _ h.ready h.gains

    made : MayBeMade s h.ready
    made = may-be-made s h.ready h.gains h.enough empty

    created-apart : IsThere s id → least_free h.ready ≢ id.number
    created-apart here same = by_kept (made.keeps id.number)
      where
        none-there : h.ready.file id.number ≡ None
        none-there = ap h.ready.file (sym same) ∙ made.empty (least_free h.ready) made.free.unused

        by_kept : Keeps s h.ready id.number → ⊥
        by_kept (fate.kept e) = let no : None ≡ Some here.file = sym none-there ∙ e ∙ here.is in cc
        by_kept (fate.changed f g was now alike marked) = let no : None ≡ Some g = sym none-there ∙ now in cc
locked-served s task lun id blocks low small is standing empty t caller (request.Extend l n) block s' early few stays none h =
    grown-other h.ready task lun id blocks low small (gained s task lun id blocks low small is _ h.ready h.gains) s' (id_held s t l).number
    n _
    (written-apart s task lun id blocks low small is t l early few standing
    (none_first (cannot_write s t l) _ _ (none_rest (n == 0) _ _ none))) h.makes
locked-served s task lun id blocks low small is standing empty t caller (request.Contiguous l n) block s' early few stays none h =
    same-accesses s task lun id blocks low small is s'
    (set-other s task lun id blocks low small is s' (id_held s t l).number _
    (written-apart s task lun id blocks low small is t l early few standing
    (none_first (cannot_write s t l) _ _ (none_rest (n == 0) _ _ none)))
    (ap (λ (x : Store). x.file id.number) h.store_is)) (ap (λ (x : Store). x.access) h.store_is)
locked-served s task lun id blocks low small is standing empty t caller (request.Truncate l to) block s' early few stays none h =
    same-accesses s task lun id blocks low small is s'
    (set-other s task lun id blocks low small is s' (id_held s t l).number _
    (written-apart s task lun id blocks low small is t l early few standing (none_first (cannot_write s t l) _ _ none))
    (ap (λ (x : Store). x.file id.number) h.store_is)) (ap (λ (x : Store). x.access) h.store_is)
locked-served s task lun id blocks low small is standing empty t caller (request.Delete d) block s' early few stays none h =
    subst (λ (x : Store). IsLocked x task lun id blocks) (sym h)
    (deleted s task lun id blocks low small is d
    (none_first (is_missing s d) _ _ (none_rest (nat_lt d.number 6) _ _ (none_rest (is_bad d) _ _ none))))
locked-served s task lun id blocks low small is standing empty t caller (request.GrowIndex n) block s' early few stays none h =
    index-grown s task lun id blocks low small is s' n h
locked-served s task lun id blocks low small is standing empty t caller (request.Access d m l) block s' early few stays none h =
    let one = none_rest (is_bad d) _ _ none in
    let two = none_rest (is_some (s.access t l)) _ _ one in
    let three = none_rest (nat_lt d.number 4) _ _ two in
    let four = none_rest (is_missing s d) _ _ three in
    let five = none_rest (is_marked (file_named s d)) _ _ four in
    let six = none_rest (lacks_for m caller (file_named s d)) _ _ five in
    subst (λ (x : Store). IsLocked x task lun id blocks) (sym h)
    (accessed s task lun id blocks low small is t l m d (none-held (s.access t l) (none_first (is_some (s.access t l)) _ _ one))
    (none_first (is_missing s d) _ _ three) (none_first (is_held (bars m) s d) _ _ six))
  where
    none-held : (o : Option Access) → is_some o ≡ false → o ≡ None
    none-held None e = refl
    none-held (Some a) e = absurd (cc)
locked-served s task lun id blocks low small is standing empty t caller (request.Deaccess l) block s' early few stays none h =
    subst (λ (x : Store). IsLocked x task lun id blocks) (sym h) (given-up s task lun id blocks low small is t l stays)
locked-served s task lun id blocks low small is standing empty t caller request.Release block s' early few stays none h =
    subst (λ (x : Store). IsLocked x task lun id blocks) (sym h)
    (released (range_with_len 0 4) s task lun t id blocks low small
    (λ e. true-false (sym (and_from (t == task) true (eq-eqb t task e) refl) ∙ stays)) is)
locked-served s task lun id blocks low small is standing empty t caller (request.ReadBlock l vbn) block s' early few stays none h =
    unchanged s task lun id blocks low small is s' h
locked-served s task lun id blocks low small is standing empty t caller (request.WriteBlock l vbn) block s' early few stays none h =
    altered-other s task lun id blocks low small is s' (id_held s t l).number _
    (written-apart s task lun id blocks low small is t l early few standing
    (none_first (cannot_write s t l) _ _ (none_rest (vbn == 0) _ _ none))) h
locked-served s task lun id blocks low small is standing empty t caller (request.Find d name) block s' early few stays none h =
    unchanged s task lun id blocks low small is s' h
locked-served s task lun id blocks low small is standing empty t caller (request.Enter d name f) block s' early few stays none h =
    let one = none_rest (is_bad d || is_bad f) _ _ none in
    let two = none_rest (nat_lt d.number 4) _ _ one in
    let three = none_rest (is_missing s d) _ _ two in
    let four = none_rest (is_marked (file_named s d)) _ _ three in
    let five = none_rest (lacks right.Write caller (file_named s d)) _ _ four in
    entered s task lun id blocks low small is _ d _ s'
    (barred-apart s task lun id d blocks bars_writing refl is low small (none_first (is_missing s d) _ _ two)
    (none_first (is_held bars_writing s d) _ _ five)) h
locked-served s task lun id blocks low small is standing empty t caller (request.Remove d name) block s' early few stays none h =
    let one = none_rest (is_bad d) _ _ none in
    let two = none_rest (nat_lt d.number 4) _ _ one in
    let three = none_rest (is_missing s d) _ _ two in
    let four = none_rest (is_marked (file_named s d)) _ _ three in
    let five = none_rest (lacks right.Write caller (file_named s d)) _ _ four in
    altered-other s task lun id blocks low small is s' d.number _
    (barred-apart s task lun id d blocks bars_writing refl is low small (none_first (is_missing s d) _ _ two)
    (none_first (is_held bars_writing s d) _ _ five)) h
locked-served s task lun id blocks low small is standing empty t caller (request.ReadAttr d) block s' early few stays none h =
    unchanged s task lun id blocks low small is s' h
locked-served s task lun id blocks low small is standing empty t caller (request.WriteAttr d c) block s' early few stays none h =
    replaced s task lun id blocks low small is c s' d.number h
locked-served s task lun id blocks low small is standing empty t caller request.Space block s' early few stays none h =
    unchanged s task lun id blocks low small is s' h

-- and any step that doesn't end it
pub locked-step : (s : Store) (task lun : ℕ) (id : FileId) (blocks : List (List ℕ)) → task < 8 → lun < 4 → IsLocked s task lun id blocks
    → AccessesStand s → FreeIsEmpty s
    → (t : ℕ) (caller : Uic) (r : Request) (block : List ℕ) (result : Result Reply Refusal) (s' : Store) (block' : List ℕ) → t < 8
    → lun_of r < 4 → ((t == task) && gives_up lun r) ≡ false
    → Step s t caller r block result s' block' → IsLocked s' task lun id blocks
locked-step s task lun id blocks low small is standing empty t caller r block (Ok a) s' block' early few stays h =
    locked-served s task lun id blocks low small is standing empty t caller r block s' early few stays h.no_cause h.changes
locked-step s task lun id blocks low small is standing empty t caller r block (Err e) s' block' early few stays h =
    unchanged s task lun id blocks low small is s' h.store_stays
