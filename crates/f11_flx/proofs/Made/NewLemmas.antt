-- A file that is made, and undone, over the plain store.
use Rattle.std.proofs.Common.{◌≡◌, ℕ, ◌+◌, ◌-◌, ◌<◌, ◌≤◌, ◌==◌, ◌&&◌, ◌||◌, not, Bool, true, false, nat_lt, if◌then◌else◌, List, [], ◌∷◌}
use Rattle.std.proofs.Common.{length, take, Option, Some, None, is_none, is_some, option_map, refl, sym, ap, ◌∙◌, subst, arith}
use Rattle.std.proofs.Common.{length-append}
use Rattle.std.specs.Prelude.{unwrap_or}
use Rattle.std.proofs.lemmas.Bool.{and_parts, eq-eqb, eqb-true, le-ltb, ltb-false, ne_eqb, or_right}
use Rattle.std.proofs.lemmas.List.{length-replicate, length-set}
use Rattle.f11_bytes.specs.Block.{zero_block}
use Rattle.f11_store.specs.Accesses.{FreeIsEmpty}
use Rattle.f11_store.specs.Causes.{Cause, ◌⇐◌, create_causes, first_of, first_refusal, cannot_write, holds_none, is_bad, is_missing, lacks}
use Rattle.f11_store.specs.Changes.{Extends, Lengthens, after_giving_up, file_created, grown_file, is_due, is_in, next_sequence}
use Rattle.f11_store.specs.Changes.{with_access, with_block, with_change, with_grown_file, with_marked_file, with_new_file, without_file}
use Rattle.f11_store.specs.Changes.{without_file_at}
use Rattle.f11_store.specs.File.{File, is_marked, length_of, need, no_file, zero_blocks}
use Rattle.f11_store.specs.Headroom.{slots_first}
use Rattle.f11_store.specs.Ident.{ident_with}
use Rattle.f11_store.specs.Rights.{is_of, may}
use Rattle.f11_store.specs.Step.{MayRefuse, next_id}
use Rattle.f11_store.specs.Store.{Access, Store, file_named, file_of, free_slots, file_held, id_held, id_in, is_accessed, is_held, is_to}
use Rattle.f11_store.specs.Store.{least_free}
use Rattle.f11_store.specs.declared.callers.Uic.{Uic}
use Rattle.f11_store.specs.declared.files.FileId.{FileId}
use Rattle.f11_store.specs.declared.files.Mode.{Mode}
use Rattle.f11_store.specs.declared.files.Mode.TheVariants as mode
use Rattle.f11_store.specs.declared.protection.Class.TheVariants as class
use Rattle.f11_store.specs.declared.protection.Right.TheVariants as right
use Rattle.f11_store.specs.declared.refusals.Refusal.{Refusal}
use Rattle.f11_store.specs.declared.refusals.Refusal.TheVariants.{BadArgument, DeviceFull, LunInUse, Marked, NoPrivilege, NoSuchAccess}
use Rattle.f11_store.specs.declared.refusals.Refusal.TheVariants.{NoSuchFile, SystemFile, TooManySegments}
use Rattle.f11_store.specs.declared.requests.Request.TheVariants as request
use Rattle.f11_store.proofs.FateLaws.{mark-of-cleared}
use Rattle.f11_store.proofs.FileLaws.{least_free_is_free, made_id}
use Rattle.f11_store.proofs.SlotsFirst.{gained-is-ready}
use Rattle.f11_store.specs.SlotsFirst.{IsReady}
use Rattle.f11_store.proofs.StoreLemmas.{none_first, none_rest, same_number}
use Rattle.f11_runs.specs.Standing.{AccessesStand, is_lost}
use Rattle.f11_runs.proofs.AccessLemmas.{held-none, there-file, there-is, true-false}
use Rattle.f11_runs.proofs.SlotLists.{in-one, in-two, taken-free}
use Rattle.f11_making.specs.Asking.{Denies, Granted, Grants, Who, asks, plain, writes}
use Rattle.f11_making.specs.AsBefore.{IndexAfter, IsAsBefore}
use Rattle.f11_making.specs.Making.{Making, creation}
use Rattle.f11_flx.proofs.FromRt.FromRtLemmas.{created-next}
use Rattle.f11_making.proofs.GainedLemmas.{index-gained, index-stays, index-then, not-index, ready-last, ready-slots}
use Rattle.f11_flx.proofs.SmallLemmas.{bad-not}

-- A store is s with one file more, which is the caller's and bars nobody, and with slots that its index file got first; accesses are these.
pub record IsNewIn (caller : Uic) (id : FileId) (accesses : ℕ → ℕ → Option Access) (s t : Store) : Type 0 where
  pub file : File
  pub there : t.file id.number ≡ Some file
  pub sequence : file.sequence ≡ id.sequence
  pub owner : file.owner ≡ caller
  pub open-to : file.protection ≡ 0
  pub unmarked : is_marked file ≡ false
  pub unused : s.in_use id.number ≡ false
  pub others : (n : ℕ) → (n == id.number) ≡ false → (n == 1) ≡ false → t.file n ≡ s.file n
  pub added : ℕ
  pub index : IndexAfter s t added
  pub free : t.free + (length_of file + added) ≡ s.free
  pub slots : t.slots ≡ s.slots + added
  pub bitmap-blocks : t.bitmap_blocks ≡ s.bitmap_blocks
  pub index-bitmap-blocks : t.index_bitmap_blocks ≡ s.index_bitmap_blocks
  pub limit : t.limit ≡ s.limit
  pub in-use : (n : ℕ) → (not (is_in file.held n) && t.in_use n) ≡ s.in_use n
  pub last : (n : ℕ) → s.in_use n ≡ true → n ≤ s.slots → t.last n ≡ s.last n
  pub low : 6 ≤ id.number
  pub volume : id.volume ≡ 0
  pub access : (task lun : ℕ) → t.access task lun ≡ accesses task lun

-- the accesses with that of a task by a lun
abbrev pub with-held : (ℕ → ℕ → Option Access) → ℕ → ℕ → Option Access → ℕ → ℕ → Option Access
with-held accesses task lun a = λ t l. if (t == task) && (l == lun) then a else accesses t l

-- a word of 0 denies nothing
open-to-all : (caller owner : Uic) → may caller owner 0 right.Delete ≡ true
open-to-all caller owner =
    or_right (is_of caller owner class.System && true) _
    (or_right (is_of caller owner class.Owner && true) _ (or_right (is_of caller owner class.Group && true) _ refl))

-- none of the causes holds
pub none-of : (c : Cause) (cs : List Cause) → c.holds ≡ false → first_of cs ≡ None → first_of (c ∷ cs) ≡ None
none-of c cs h k = ap (λ b. if b then Some c.refusal else first_of cs) h ∙ k

-- nobody accesses a file that isn't there
unheld : (test : Mode → Bool) (s : Store) (id : FileId) → AccessesStand s → s.file id.number ≡ None → (t l : ℕ) → t < 8 → l < 4
    → is_to test id (s.access t l) ≡ false
unheld test s id stand none t l low small = by (s.access t l) (stand t l low small)
  where
    apart : (a : Access) → is_missing s a.file ≡ false → (a.file.number == id.number) ≡ true → ⊥
    apart a there same =
        let here = there-is s a.file there in
        let is : None ≡ Some here.file = sym none ∙ ap s.file (sym (eqb-true a.file.number id.number same)) ∙ here.is in
        cc

    by_same : (a : Access) (b : Bool) → is_missing s a.file ≡ false → (a.file.number == id.number) ≡ b → is_to test id (Some a) ≡ false
    by_same a true there same = absurd (apart a there same)
    by_same a false there same = ap (λ c. (c && (a.file.sequence == id.sequence)) && test a.mode) same

    by : (o : Option Access) → is_lost s o ≡ false → is_to test id o ≡ false
    by None h = refl
    by (Some a) h = by_same a (a.file.number == id.number) h refl

pub unaccessed : (test : Mode → Bool) (s t : Store) (id : FileId) → AccessesStand s → s.file id.number ≡ None
    → ((task lun : ℕ) → t.access task lun ≡ s.access task lun) → is_held test t id ≡ false
unaccessed test s t id stand none same =
    held-none test t id (λ task lun low small. ap (λ o. is_to test id o) (same task lun) ∙ unheld test s id stand none task lun low small)

-- the slot of a new file isn't the index file's
pub other-index : (n : ℕ) → 6 ≤ n → (1 == n) ≡ false
other-index n low = ne_eqb 1 n (λ is. omega (arith, is, low))

-- blocks for the slots that come first are free
create-fits : (s : Store) → first_of (create_causes s) ≡ None → slots_first s 1 ≤ s.free
create-fits s none =
    let free : nat_lt s.free (0 + slots_first s 1) ≡ false = none_first (nat_lt s.free (0 + slots_first s 1)) DeviceFull _ none in
    omega (arith, ltb-false s.free (0 + slots_first s 1) free)

-- the file that was created
pub new-made : (making : Making) (id : FileId) (who : Who) (s t : Store) → Granted plain who (creation making id) s t
    → IsNewIn who.caller id s.access s t
new-made making id who s t h =
    let step = h.1.2 in
    let made = step.changes in
    let r : Store = made.ready in
    let ready : IsReady s (slots_first s 1) r = gained-is-ready s r 1 made.gains in
    let is : id ≡ next_id r = created-next making id who s t h ∙ made_id s r (slots_first s 1) ready in
    let free = least_free_is_free r made.enough in
    let fits : slots_first s 1 ≤ s.free = create-fits s step.no_cause in
    let file : File = file_created r (least_free r) who.caller 0 (ident_with making.name) making.attr in
    let same : t ≡ with_new_file r (least_free r) file = h.2 ∙ made.makes in
    let unused : s.in_use (least_free r) ≡ false = sym (ap (λ (used : ℕ → Bool). used (least_free r)) ready.in_use) ∙ free.unused in
    subst (λ i. IsNewIn who.caller i s.access s t) (sym is) (subst (λ x. IsNewIn who.caller (next_id r) s.access s x) (sym same) (record {
      file = file;
      there = ap (λ b. if b then Some file else r.file (least_free r)) (same_number (least_free r));
      sequence = refl;
      owner = refl;
      open-to = refl;
      unmarked = refl;
      unused = unused;
      others = λ n apart other. ap (λ b. if b then Some file else r.file n) apart ∙ ready.others n other;
      added = slots_first s 1;
      index = index-stays s r (with_new_file r (least_free r) file) (slots_first s 1)
          (ap (λ b. if b then Some file else r.file 1) (other-index (least_free r) free.low)) (index-gained s r 1 made.gains);
      free = omega (arith, fits, ready.free);
      slots = ready-slots s r (slots_first s 1) ready;
      bitmap-blocks = ready.limits.bitmap_blocks;
      index-bitmap-blocks = ready.limits.index_bitmap_blocks;
      limit = ready.limits.limit;
      in-use = λ n. used r n (is_in (least_free r ∷ []) n) refl free.unused ∙ ap (λ (used : ℕ → Bool). used n) ready.in_use;
      last = λ n used within. kept r n (is_in (least_free r ∷ []) n) refl (ap (λ (is : ℕ → Bool). is n) ready.in_use ∙ used) free.unused
          ∙ ready-last s r (slots_first s 1) n ready within;
      low = free.low;
      volume = refl;
      access = λ task lun. ap (λ (a : ℕ → ℕ → Option Access). a task lun) ready.access;
    }))
  where
    used : (r : Store) (n : ℕ) (b : Bool) → is_in (least_free r ∷ []) n ≡ b → r.in_use (least_free r) ≡ false
        → (not b && (b || r.in_use n)) ≡ r.in_use n
    used r n true in-it free = sym (ap r.in_use (sym (in-one (least_free r) n in-it)) ∙ free)
    used r n false in-it free = refl

    kept : (r : Store) (n : ℕ) (b : Bool) → is_in (least_free r ∷ []) n ≡ b → r.in_use n ≡ true → r.in_use (least_free r) ≡ false
        → (if b then next_sequence (r.last n) else r.last n) ≡ r.last n
    kept r n true in-it used free = absurd (true-false (sym used ∙ ap r.in_use (sym (in-one (least_free r) n in-it)) ∙ free))
    kept r n false in-it used free = refl

-- where the index file gets slots, so it is
gained-new : (caller : Uic) (id : FileId) (accesses : ℕ → ℕ → Option Access) (s t u : Store) (n : ℕ) → n ≤ t.free → IsReady t n u
    → IndexAfter t u n → IsNewIn caller id accesses s t → IsNewIn caller id accesses s u
gained-new caller id accesses s t u n fits ready index h = record {
  file = h.file;
  there = ready.others id.number (not-index id.number 6 (omega arith) h.low) ∙ h.there;
  sequence = h.sequence;
  owner = h.owner;
  open-to = h.open-to;
  unmarked = h.unmarked;
  unused = h.unused;
  others = λ m apart other. ready.others m other ∙ h.others m apart other;
  added = h.added + n;
  index = index-then s t u h.added n h.index index;
  free = omega (arith, h.free, ready.free, fits);
  slots = omega (arith, h.slots, ready-slots t u n ready);
  bitmap-blocks = ready.limits.bitmap_blocks ∙ h.bitmap-blocks;
  index-bitmap-blocks = ready.limits.index_bitmap_blocks ∙ h.index-bitmap-blocks;
  limit = ready.limits.limit ∙ h.limit;
  in-use = λ m. ap (λ (used : ℕ → Bool). not (is_in h.file.held m) && used m) ready.in_use ∙ h.in-use m;
  last = λ m used within. ready-last t u n m ready (omega (arith, within, h.slots)) ∙ h.last m used within;
  low = h.low;
  volume = h.volume;
  access = λ task lun. ap (λ (a : ℕ → ℕ → Option Access). a task lun) ready.access ∙ h.access task lun;
}

-- so many blocks are free as are asked for, and as the slots that come first take
enough-free : (t : Store) (who : Who) (lun n : ℕ) → first_refusal t who.task who.caller (request.Extend lun n) ≡ None
    → n + slots_first t (need (file_held t who.task lun).room n) ≤ t.free
enough-free t who lun n none =
    let headers : ℕ = need (file_held t who.task lun).room n in
    let growth = none_rest (lacks right.Extend who.caller (file_held t who.task lun)) NoPrivilege _
    (none_rest (cannot_write t who.task lun) NoSuchAccess _ (none_rest (n == 0) BadArgument _ none)) in
    let free = none_first (nat_lt t.free (n + slots_first t headers)) DeviceFull _
    (none_rest (nat_lt 256 (length (file_held t who.task lun).held + headers)) TooManySegments _ growth) in
    ltb-false t.free (n + slots_first t headers) free

pub length-zeros : (n : ℕ) → length (zero_blocks n) ≡ n
unfolding zero_blocks
length-zeros n = length-replicate n zero_block

-- slots that were free come into use
used-more : (held taken used before : Bool) → (taken ≡ true → used ≡ false) → (not held && used) ≡ before
    → (not (held || taken) && (taken || used)) ≡ before
used-more true taken used before free is = is
used-more false false used before free is = is
used-more false true used before free is = sym (free refl) ∙ is

kept-last : (taken held used : Bool) (now before : ℕ) → (taken ≡ true → used ≡ false) → (not held && used) ≡ true → now ≡ before
    → (if taken then next_sequence now else now) ≡ before
kept-last true held used now before free is same = absurd (no held used (free refl) is)
  where
    no : (a b : Bool) → b ≡ false → (not a && b) ≡ true → ⊥
    no true b h k = true-false (sym k)
    no false b h k = true-false (sym k ∙ h)
kept-last false held used now before free is same = same

module _ (caller : Uic) (id : FileId) (s : Store) where
  named : (accesses : ℕ → ℕ → Option Access) (t : Store) → (h : IsNewIn caller id accesses s t) → file_of t id ≡ Some h.file
  named accesses t h = there-file t id (record { file = h.file; is = h.there; sequence = h.sequence })

  -- it is deleted, and all is as before
  deletable : (t : Store) (task : ℕ) → AccessesStand s → IsNewIn caller id s.access s t
      → first_refusal t task caller (request.Delete id) ≡ None
  deletable t task stand h =
      let file : file_named t id ≡ h.file = ap (λ o. unwrap_or o no_file) (named s.access t h) in
      let bad : is_bad id ≡ false = bad-not (id.number == 0) (id.volume == 0) (ne_eqb id.number 0 (λ is. omega (arith, is, h.low)))
      (eq-eqb id.volume 0 h.volume) in
      let system : nat_lt id.number 6 ≡ false = le-ltb id.number 6 h.low in
      let missing : is_missing t id ≡ false = ap (λ o. is_none o) (named s.access t h) in
      let marked : (is_marked (file_named t id) && is_accessed t id) ≡ false = ap (λ f. is_marked f && is_accessed t id) file
      ∙ ap (λ b. b && is_accessed t id) h.unmarked in
      let barred : lacks right.Delete caller (file_named t id) ≡ false =
      ap (λ f. not (may caller f.owner f.protection right.Delete)) file ∙ ap (λ w. not (may caller h.file.owner w right.Delete)) h.open-to
      ∙ ap (λ b. not b) (open-to-all caller h.file.owner) in
      let five : List Cause = (NoPrivilege ⇐ lacks right.Delete caller (file_named t id)) ∷ [] in
      let four : List Cause = (Marked ⇐ (is_marked (file_named t id) && is_accessed t id)) ∷ five in
      let three : List Cause = (NoSuchFile ⇐ is_missing t id) ∷ four in
      let two : List Cause = (SystemFile ⇐ nat_lt id.number 6) ∷ three in
      none-of (BadArgument ⇐ is_bad id) two bad
      (none-of (SystemFile ⇐ nat_lt id.number 6) three system (none-of (NoSuchFile ⇐ is_missing t id) four missing
      (none-of (Marked ⇐ (is_marked (file_named t id) && is_accessed t id)) five marked
      (none-of (NoPrivilege ⇐ lacks right.Delete caller (file_named t id)) [] barred refl))))

  -- so it isn't refused
  pub undenied-delete : (who : Who) (t u : Store) (e : Refusal) → who.caller ≡ caller → AccessesStand s → IsNewIn caller id s.access s t
      → Denies plain who (asks (request.Delete id)) e t u → ⊥
  undenied-delete who t u e is stand h d =
      subst (λ o. MayRefuse o false false e)
      (subst (λ c. first_refusal t who.task c (request.Delete id) ≡ None) (sym is) (deletable t who.task stand h)) d.2.may_refuse

  pub deleted : (who : Who) (t u : Store) → FreeIsEmpty s → AccessesStand s → IsNewIn caller id s.access s t
      → Grants plain who (asks (request.Delete id)) t u → IsAsBefore s u
  deleted who t u tidy stand h g =
      let nowhere : s.file id.number ≡ None = tidy id.number h.unused in
      let nobody : is_accessed t id ≡ false = unaccessed (λ _. true) s t id stand nowhere h.access in
      let gone : u ≡ without_file_at t id.number = g.3.changes
      ∙ ap (λ b. if b then with_marked_file t id.number else without_file_at t id.number) nobody in
      let same : u ≡ without_file t id.number h.file = gone ∙ ap (λ o. without_file t id.number (unwrap_or o no_file)) h.there in
      subst (λ x. IsAsBefore s x) (sym same) (record {
        added = h.added;
        file = λ n other. at n (n == id.number) refl other;
        index = index-stays s t (without_file t id.number h.file) h.added
            (ap (λ b. if b then None else t.file 1) (other-index id.number h.low)) h.index;
        free = omega (arith, h.free);
        slots = h.slots;
        bitmap_blocks = h.bitmap-blocks;
        index_bitmap_blocks = h.index-bitmap-blocks;
        limit = h.limit;
        in_use = h.in-use;
        last = h.last;
        access = h.access;
      })
    where
      at : (n : ℕ) (b : Bool) → (n == id.number) ≡ b → (n == 1) ≡ false → (if b then None else t.file n) ≡ s.file n
      at n true is other = sym (ap s.file (eqb-true n id.number is) ∙ tidy id.number h.unused)
      at n false is other = h.others n is other

  -- it is accessed to be written, by a lun that held nothing
  pub opened : (who : Who) (lun : ℕ) (t u : Store) → IsNewIn caller id s.access s t
      → Grants plain who (asks (request.Access id mode.Write lun)) t u →
      IsNewIn caller id (with-held s.access who.task lun (Some (record { file = id; mode = mode.Write }))) s u
  opened who lun t u h g =
      let same : u ≡ with_access t who.task lun (Some (record { file = id; mode = mode.Write })) = g.3.changes in
      subst (λ x. IsNewIn caller id (with-held s.access who.task lun (Some (record { file = id; mode = mode.Write }))) s x) (sym same)
      (record {
        file = h.file;
        there = h.there;
        sequence = h.sequence;
        owner = h.owner;
        open-to = h.open-to;
        unmarked = h.unmarked;
        unused = h.unused;
        others = h.others;
        added = h.added;
        index = index-stays s t (with_access t who.task lun (Some (record { file = id; mode = mode.Write }))) h.added refl h.index;
        free = h.free;
        slots = h.slots;
        bitmap-blocks = h.bitmap-blocks;
        index-bitmap-blocks = h.index-bitmap-blocks;
        limit = h.limit;
        in-use = h.in-use;
        last = h.last;
        low = h.low;
        volume = h.volume;
        access = λ task l. ap (λ o. if (task == who.task) && (l == lun) then Some (record { file = id; mode = mode.Write }) else o)
            (h.access task l);
      })

  pub lun-was-free : (who : Who) (lun : ℕ) (t u : Store) → IsNewIn caller id s.access s t
      → Grants plain who (asks (request.Access id mode.Write lun)) t u → s.access who.task lun ≡ None
  lun-was-free who lun t u h g =
      none-held (s.access who.task lun)
      (ap (λ o. is_some o) (sym (h.access who.task lun)) ∙ none_first (is_some (t.access who.task lun)) LunInUse _
      (none_rest (is_bad id) BadArgument _ g.3.no_cause))
    where
      none-held : (o : Option Access) → is_some o ≡ false → o ≡ None
      none-held None e = refl
      none-held (Some a) e = absurd (true-false e)

  module _ (who : Who) (lun : ℕ) where
    abbrev held-now : ℕ → ℕ → Option Access
    held-now task l = with-held s.access who.task lun (Some (record { file = id; mode = mode.Write })) task l

    abbrev pub IsOpenIn : Store → Type 0
    IsOpenIn t = IsNewIn caller id (with-held s.access who.task lun (Some (record { file = id; mode = mode.Write }))) s t

    pub holds : (t : Store) → IsOpenIn t → t.access who.task lun ≡ Some (record { file = id; mode = mode.Write })
    holds t h =
        h.access who.task lun
        ∙ ap (λ b. if b && (lun == lun) then Some (record { file = id; mode = mode.Write }) else s.access who.task lun)
        (same_number who.task)
        ∙ ap (λ b. if b then Some (record { file = id; mode = mode.Write }) else s.access who.task lun) (same_number lun)

    -- it gets blocks, where headers for them are free
    grown-open : (n : ℕ) (t u : Store) → n ≤ t.free → IsOpenIn t → Extends t id.number n u → IsOpenIn u
    grown-open n t u fits h grows =
        let before : Some grows.before ≡ Some h.file = sym grows.was ∙ h.there in
        let same : grows.before ≡ h.file = cc in
        let grown : u ≡ with_grown_file t id.number h.file n (zero_blocks n) grows.added grows.pointers grows.room =
        grows.store_is ∙ ap (λ f. with_grown_file t id.number f n (zero_blocks n) grows.added grows.pointers grows.room) same in
        let file : File = grown_file t h.file (zero_blocks n) grows.added grows.pointers grows.room in
        let taken : List ℕ = take grows.added (free_slots t) in
        subst IsOpenIn (sym grown) (record {
          file = file;
          there = ap (λ b. if b then Some file else t.file id.number) (same_number id.number);
          sequence = h.sequence;
          owner = h.owner;
          open-to = h.open-to;
          unmarked = ap (λ b. b == 1) (mark-of-cleared h.file.characteristics) ∙ h.unmarked;
          unused = h.unused;
          others = λ m apart other. ap (λ b. if b then Some file else t.file m) apart ∙ h.others m apart other;
          added = h.added;
          index = index-stays s t (with_grown_file t id.number h.file n (zero_blocks n) grows.added grows.pointers grows.room) h.added
              (ap (λ b. if b then Some file else t.file 1) (other-index id.number h.low)) h.index;
          free = omega (arith, h.free, fits, length-append h.file.blocks (zero_blocks n), length-zeros n);
          slots = h.slots;
          bitmap-blocks = h.bitmap-blocks;
          index-bitmap-blocks = h.index-bitmap-blocks;
          limit = h.limit;
          in-use = λ m. ap (λ b. not b && (is_in taken m || t.in_use m)) (in-two h.file.held taken m)
              ∙ used-more (is_in h.file.held m) (is_in taken m) (t.in_use m) (s.in_use m) (taken-free t grows.added m) (h.in-use m);
          last = λ m used within. kept-last (is_in taken m) (is_in h.file.held m) (t.in_use m) (t.last m) (s.last m)
              (taken-free t grows.added m) (h.in-use m ∙ used) (h.last m used within);
          low = h.low;
          volume = h.volume;
          access = h.access;
        })

    -- and where the index file gets slots first
    pub extended : (n : ℕ) (t u : Store) → IsOpenIn t → Grants plain who (asks (request.Extend lun n)) t u → IsOpenIn u
    extended n t u h g =
        let at : id_held t who.task lun ≡ id = ap id_in (holds t h) in
        let headers : ℕ = need (file_named t id).room n in
        let grows : Lengthens t id n u = subst (λ (i : FileId). Lengthens t i n u) at g.3.changes in
        let fits : n + slots_first t headers ≤ t.free = subst (λ (i : FileId). n + slots_first t (need (file_named t i).room n) ≤ t.free) at
        (enough-free t who lun n g.3.no_cause) in
        let ready : IsReady t (slots_first t headers) grows.ready = gained-is-ready t grows.ready headers grows.gains in
        let open-then : IsOpenIn grows.ready = gained-new caller id held-now s t grows.ready (slots_first t headers) (omega (arith, fits))
        ready (index-gained t grows.ready headers grows.gains) h in
        grown-open n grows.ready u (omega (arith, fits, ready.free)) open-then grows.makes

    -- one of its blocks is written
    pub written : (vbn : ℕ) (block : List ℕ) (t u : Store) → IsOpenIn t → Grants plain who (writes lun vbn block) t u → IsOpenIn u
    written vbn block t u h g =
        let at : id_held t who.task lun ≡ id = ap id_in (holds t h) in
        let changed : u ≡ with_change t id.number (with_block vbn block) = g.2.changes
        ∙ ap (λ (i : FileId). with_change t i.number (with_block vbn block)) at in
        let file : File = with_block vbn block h.file in
        subst IsOpenIn (sym changed) (record {
          file = file;
          there = ap (λ b. if b then option_map (with_block vbn block) (t.file id.number) else t.file id.number) (same_number id.number)
              ∙ ap (option_map (with_block vbn block)) h.there;
          sequence = h.sequence;
          owner = h.owner;
          open-to = h.open-to;
          unmarked = h.unmarked;
          unused = h.unused;
          others = λ m apart other. ap (λ b. if b then option_map (with_block vbn block) (t.file id.number) else t.file m) apart
              ∙ h.others m apart other;
          added = h.added;
          index = index-stays s t (with_change t id.number (with_block vbn block)) h.added
              (ap (λ b. if b then option_map (with_block vbn block) (t.file id.number) else t.file 1) (other-index id.number h.low))
              h.index;
          free = omega (arith, h.free, length-set h.file.blocks (vbn - 1) block);
          slots = h.slots;
          bitmap-blocks = h.bitmap-blocks;
          index-bitmap-blocks = h.index-bitmap-blocks;
          limit = h.limit;
          in-use = h.in-use;
          last = h.last;
          low = h.low;
          volume = h.volume;
          access = h.access;
        })

    -- it is given up, which isn't refused
    pub undenied-deaccess : (t u : Store) (e : Refusal) → IsOpenIn t → Denies plain who (asks (request.Deaccess lun)) e t u → ⊥
    undenied-deaccess t u e h d =
        let held : holds_none t who.task lun ≡ false = ap (λ o. is_none o) (holds t h) in
        subst (λ o. MayRefuse o false false e) (none-of (NoSuchAccess ⇐ holds_none t who.task lun) [] held refl) d.2.may_refuse

    pub given-back : (t u : Store) → IsOpenIn t → Grants plain who (asks (request.Deaccess lun)) t u → u ≡ with_access t who.task lun None
    given-back t u h g =
        let w : Store = with_access t who.task lun None in
        let due : is_due w id ≡ false = ap (λ o. is_marked (unwrap_or o no_file) && not (is_accessed w id)) (named held-now t h)
        ∙ ap (λ b. b && not (is_accessed w id)) h.unmarked in
        g.3.changes ∙ ap (λ o. after_giving_up t who.task lun o) (holds t h) ∙ ap (λ b. if b then without_file_at w id.number else w) due

    pub closed : (t u : Store) → s.access who.task lun ≡ None → IsOpenIn t → Grants plain who (asks (request.Deaccess lun)) t u
        → IsNewIn caller id s.access s u
    closed t u free h g =
        let same : u ≡ with_access t who.task lun None = given-back t u h g in
        subst (λ x. IsNewIn caller id s.access s x) (sym same) (record {
          file = h.file;
          there = h.there;
          sequence = h.sequence;
          owner = h.owner;
          open-to = h.open-to;
          unmarked = h.unmarked;
          unused = h.unused;
          others = h.others;
          added = h.added;
          index = index-stays s t (with_access t who.task lun None) h.added refl h.index;
          free = h.free;
          slots = h.slots;
          bitmap-blocks = h.bitmap-blocks;
          index-bitmap-blocks = h.index-bitmap-blocks;
          limit = h.limit;
          in-use = h.in-use;
          last = h.last;
          low = h.low;
          volume = h.volume;
          access = λ task l. back task l ((task == who.task) && (l == lun)) refl (h.access task l);
        })
      where
        back : (task l : ℕ) (b : Bool) → ((task == who.task) && (l == lun)) ≡ b
            → t.access task l ≡ (if b then Some (record { file = id; mode = mode.Write }) else s.access task l)
            → (if b then None else t.access task l) ≡ s.access task l
        back task l true is k =
            let parts = and_parts (task == who.task) (l == lun) is in
            sym (ap (λ n. s.access n l) (eqb-true task who.task parts.0) ∙ ap (λ n. s.access who.task n) (eqb-true l lun parts.1) ∙ free)
        back task l false is k = k
