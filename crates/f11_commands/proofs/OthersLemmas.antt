-- What is asked for one file leaves all others as they are, but a directory and the index file: where it is granted, where it is refused,
-- and where it is stopped.
use Rattle.std.proofs.Common.{◌≡◌, ◌⊎◌, inl, inr, ℕ, zero, suc, ◌==◌, ◌&&◌, ◌||◌, Bool, true, false, List, [], ◌∷◌, ◌++◌, All}
use Rattle.std.proofs.Common.{Option, Some, None, Result, Ok, Err, length, nat_lt, refl, sym, ap, subst, ◌∙◌, arith, if◌then◌else◌}
use Rattle.std.specs.Prelude.{slice_index}
use Rattle.std.proofs.lemmas.Bool.{and_from, eq-eqb, eqb-true, ne_eqb}
use Rattle.std.proofs.lemmas.List.Elements.{All-cons, All-head, All-tail}
use Rattle.f11_dev.specs.Image.{Image}
use Rattle.f11_making.proofs.GainedLemmas.{enters-from, not-index}
use Rattle.f11_making.specs.Asking.{Asking, Denies, Grants, Tried, asks, counts, plain, reads, told, writes}
use Rattle.f11_making.specs.AsksFor.{Creates, IsMakingOf, MakesBy}
use Rattle.f11_home.specs.Home.{HomeFields}
use Rattle.f11_catalog.specs.image_store.StoreOf.{store_of}
use Rattle.f11_index.specs.IndexFile.{is_in_use}
use Rattle.f11_index.specs.Table.{table_in}
use Rattle.f11_runs.proofs.AccessLemmas.{there-is, true-false}
use Rattle.f11_store.proofs.FileLaws.{least_free_is_free, new_slot_was_free}
use Rattle.f11_store.proofs.SlotsFirst.{gained-is-ready}
use Rattle.f11_store.proofs.StepLags.{step_lags}
use Rattle.f11_store.proofs.StoreLemmas.{none_first, none_rest}
use Rattle.f11_store.specs.Accesses.{FreeIsEmpty}
use Rattle.f11_store.specs.Causes.{cannot_write, first_refusal, is_bad, is_missing, is_no_writer}
use Rattle.f11_store.specs.Changes.{Changes, after_giving_up, is_due, with_access, with_marked_file, with_slots_added, with_slots_first}
use Rattle.f11_store.specs.Changes.{without_file_at}
use Rattle.f11_store.specs.Directory.{entry_count, index_of_empty, needs_block, record_bytes}
use Rattle.f11_store.specs.File.{File, need}
use Rattle.f11_store.specs.Headroom.{slots_first}
use Rattle.f11_store.specs.Lags.{Work, after_slots, append_work, enter_work, extend_work, give_up_work, go_work}
use Rattle.f11_store.specs.Lags.{lengthen_work, mark_work, new_file_work, no_work, served_work, work_if, work_of}
use Rattle.f11_store.specs.Laws.{NoneHoldsIndex}
use Rattle.f11_store.specs.Step.{Step}
use Rattle.f11_store.specs.Store.{Access, Store, file_named, free_headers, free_slots, id_held, id_in, is_accessed, least_free}
use Rattle.f11_store.specs.declared.files.FileId.{FileId}
use Rattle.f11_store.specs.declared.refusals.Refusal.{Refusal}
use Rattle.f11_store.specs.declared.refusals.Refusal.TheVariants.{BadArgument, NoSuchAccess, NoSuchFile, SystemFile}
use Rattle.f11_store.specs.declared.requests.Reply.{Reply}
use Rattle.f11_store.specs.declared.requests.Reply.TheVariants as reply
use Rattle.f11_store.specs.declared.requests.Request.{Request}
use Rattle.f11_store.specs.declared.requests.Request.TheVariants as request
use Rattle.f11_commands.specs.Copying.{operator}
use Rattle.f11_commands.specs.Stopping.{IsStopped, IsUnheld, KeepsOthers, LagsAsked, StopsAt}
use Rattle.f11_commands.specs.Stopping.{after_creation, creating, in_part, is_directory_of, not_begun}

-- what is held is nothing, or an access to this file
abbrev pub IsHeldOf : FileId → Option Access → Type 0
IsHeldOf id None = Unit {0}
IsHeldOf id (Some a) = a.file ≡ id

-- so is all that is held
abbrev pub HoldsOnly : FileId → Store → Type 0
HoldsOnly id u = (task lun : ℕ) → IsHeldOf id (u.access task lun)

-- A file is none of these: one that is made in a directory, that directory, and the index file; nor is the one that is made the last.
record IsAnother (id dir : FileId) (n : ℕ) (f : File) : Type 0 where
  pub apart : (n == id.number) ≡ false
  pub elsewhere : is_directory_of dir n f.sequence ≡ false
  pub no-index : (n == 1) ≡ false
  pub late : (id.number == 1) ≡ false

-- A store on the way: this file is in it, and nothing is held but accesses to the one that is made.
record IsOnTheWay (id : FileId) (n : ℕ) (f : File) (u : Store) : Type 0 where
  pub there : u.file n ≡ Some f
  pub held : HoldsOnly id u

-- work that isn't done where there is a cause against it
pub if-served : (n : ℕ) (o : Option Refusal) (w : Work) → (o ≡ None → w.is_meant n ≡ false) → (work_if o w).is_meant n ≡ false
if-served n None w h = h refl
if-served n (Some e) w h = refl

-- the file isn't meant where another one gets blocks
lengthen-apart : (n : ℕ) (u : Store) (i : FileId) (k : ℕ) → (n == i.number) ≡ false → (n == 1) ≡ false
    → (lengthen_work u i k).is_meant n ≡ false
lengthen-apart n u i k apart no-index = by (slots_first u (need (file_named u i).room k))
  where
    by : (c : ℕ) → (after_slots c u (extend_work i.number (file_named u i).room k)).is_meant n ≡ false
    by zero = apart
    by (suc c) = ap (λ b. b || (n == i.number)) no-index ∙ apart

-- nor where a record is entered in another one
enter-apart : (n : ℕ) (u : Store) (d : FileId) (r : List ℕ) → (n == d.number) ≡ false → (n == 1) ≡ false → (o : Option ℕ)
    → (enter_work o u d r).is_meant n ≡ false
enter-apart n u d r apart no-index (Some i) = apart
enter-apart n u d r apart no-index None = by (needs_block (file_named u d))
  where
    by : (b : Bool) → (append_work b u d (entry_count (file_named u d)) r).is_meant n ≡ false
    by true = ap (λ b. b || (n == d.number)) (lengthen-apart n u d 1 apart no-index) ∙ apart
    by false = apart

-- what is held stays
same-held : (id : FileId) (u w : Store) → w.access ≡ u.access → HoldsOnly id u → HoldsOnly id w
same-held id u w same held = λ task l. subst (λ (a : ℕ → ℕ → Option Access). IsHeldOf id (a task l)) (sym same) (held task l)

-- or becomes this by one lun
now-held : (id : FileId) (u : Store) (task lun : ℕ) (o : Option Access) → IsHeldOf id o → HoldsOnly id u
    → HoldsOnly id (with_access u task lun o)
now-held id u task lun o h held = λ t l. by t l ((t == task) && (l == lun))
  where
    by : (t l : ℕ) (b : Bool) → IsHeldOf id (if b then o else u.access t l)
    by t l true = h
    by t l false = held t l

pub none-index : (id : FileId) (u : Store) → (id.number == 1) ≡ false → HoldsOnly id u → NoneHoldsIndex u
none-index id u late held = λ task lun. by (u.access task lun) (held task lun)
  where
    by : (o : Option Access) → IsHeldOf id o → ((id_in o).number == 1) ≡ false
    by None h = refl
    by (Some a) h = ap (λ (i : FileId). i.number == 1) h ∙ late

-- nothing else is held behind a request of what makes the file
module _ (dir : FileId) (to : List ℕ) (protection : ℕ) (stated : Option (List ℕ)) (id : FileId) where
  pub own-holds : (r : Request) (lent given : List ℕ) (result : Result Reply Refusal) (u w : Store)
      → MakesBy 0 dir to protection stated id r
      → Step u operator.task operator.caller r lent result w given → HoldsOnly id u → HoldsOnly id w
  own-holds r lent given (Err e) u w is h held = subst (HoldsOnly id) (sym h.store_stays) held
  own-holds r lent given (Ok a) u w is h held = changed r is h.changes
    where
      given-back : (l : ℕ) (o : Option Access) → HoldsOnly id (after_giving_up u operator.task l o)
      given-back l None = held
      given-back l (Some a) = by (is_due (with_access u operator.task l None) a.file)
        where
          v : Store
          v = with_access u operator.task l None

          by : (b : Bool) → HoldsOnly id (if b then without_file_at v a.file.number else v)
          by true = now-held id u operator.task l None tt held
          by false = now-held id u operator.task l None tt held

      gone : (g : FileId) (b : Bool) → (if b then with_marked_file u g.number else without_file_at u g.number).access ≡ u.access
      gone g true = refl
      gone g false = refl

      changed : (r : Request) → MakesBy 0 dir to protection stated id r → Changes u operator.task operator.caller r lent w → HoldsOnly id w
      changed (request.Access g mode l) is c =
          subst (HoldsOnly id) (sym c) (now-held id u operator.task l (Some (record { file = g; mode = mode })) is.0 held)
      changed (request.Extend l k) is c =
          let ready = gained-is-ready u c.ready (need (file_named u (id_held u operator.task l)).room k) c.gains in
          same-held id u w (ap (λ (s : Store). s.access) c.makes.store_is ∙ ready.access) held
      changed (request.Deaccess l) is c = subst (HoldsOnly id) (sym c) (given-back l (u.access operator.task l))
      changed (request.Enter d name g) is c =
          let from = enters-from (index_of_empty (file_named u d)) u w d (record_bytes g name) c in
          same-held id u w (from.access ∙ from.is-ready.access) held
      changed (request.WriteAttr g x) is c = same-held id u w (ap (λ (s : Store). s.access) c) held
      changed (request.Delete g) is c = same-held id u w (ap (λ (s : Store). s.access) c ∙ gone g (is_accessed u g)) held
      changed _ is c = absurd is

  pub write-holds : (l vbn : ℕ) (block given : List ℕ) (result : Result Reply Refusal) (u w : Store)
      → Step u operator.task operator.caller (request.WriteBlock l vbn) block result w given → HoldsOnly id u → HoldsOnly id w
  write-holds l vbn block given (Err e) u w h held = subst (HoldsOnly id) (sym h.store_stays) held
  write-holds l vbn block given (Ok a) u w h held = same-held id u w (ap (λ (s : Store). s.access) h.changes) held

-- what makes the file, once it is created
module _ (dir : FileId) (to : List ℕ) (stated : Option (List ℕ)) (id : FileId) (n : ℕ) (f : File) (other : IsAnother id dir n f) where
  held-apart : (o : Option Access) → IsHeldOf id o → is_no_writer o ≡ false → (n == (id_in o).number) ≡ false
  held-apart None h writing = absurd (true-false writing)
  held-apart (Some a) h writing = ap (λ (i : FileId). n == i.number) h ∙ other.apart

  -- a request of it doesn't mean the file
  own-unmeant : (r : Request) (lent : List ℕ) (u : Store) → MakesBy 0 dir to 0 stated id r → IsOnTheWay id n f u
      → (work_of u operator.task operator.caller r lent).is_meant n ≡ false
  own-unmeant r lent u is on =
      if-served n (first_refusal u operator.task operator.caller r) (served_work u operator.task operator.caller r lent) (served r is)
    where
      given-up : (l : ℕ) (o : Option Access) → IsHeldOf id o → (give_up_work u operator.task l o).is_meant n ≡ false
      given-up l None h = refl
      given-up l (Some a) h = by (is_due (with_access u operator.task l None) a.file)
        where
          by : (b : Bool) → (if b then go_work a.file.number else no_work).is_meant n ≡ false
          by true = ap (λ (i : FileId). n == i.number) h ∙ other.apart
          by false = refl

      gone : (g : FileId) → (n == g.number) ≡ false → (b : Bool) → (if b then mark_work g.number else go_work g.number).is_meant n ≡ false
      gone g apart true = apart
      gone g apart false = apart

      -- a name is entered into the directory alone: where another file has its number, it is refused
      entered : (d : FileId) (name : List ℕ) (g : FileId) → d ≡ dir
          → first_refusal u operator.task operator.caller (request.Enter d name g) ≡ None → (b : Bool) → (n == d.number) ≡ b
          → (enter_work (index_of_empty (file_named u d)) u d (record_bytes g name)).is_meant n ≡ false
      entered d name g same none false apart =
          enter-apart n u d (record_bytes g name) apart other.no-index (index_of_empty (file_named u d))
      entered d name g same none true here =
          let file = there-is u d (none_first (is_missing u d) NoSuchFile _ (none_rest (nat_lt d.number 4) SystemFile _
          (none_rest (is_bad d || is_bad g) BadArgument _ none))) in
          let files : Some f ≡ Some file.file = sym on.there ∙ ap u.file (eqb-true n d.number here) ∙ file.is in
          let one : f ≡ file.file = cc in
          let sequence : f.sequence ≡ dir.sequence =
          ap (λ (x : File). x.sequence) one ∙ file.sequence ∙ ap (λ (i : FileId). i.sequence) same in
          let number : (n == dir.number) ≡ true = ap (λ (i : FileId). n == i.number) (sym same) ∙ here in
          absurd (true-false (sym (and_from (n == dir.number) (f.sequence == dir.sequence) number
          (eq-eqb f.sequence dir.sequence sequence)) ∙ other.elsewhere))

      served : (r : Request) → MakesBy 0 dir to 0 stated id r → first_refusal u operator.task operator.caller r ≡ None
          → (served_work u operator.task operator.caller r lent).is_meant n ≡ false
      served (request.Access g mode l) is none = refl
      served (request.Extend l k) is none =
          lengthen-apart n u (id_held u operator.task l) k
          (held-apart (u.access operator.task l) (on.held operator.task l)
          (none_first (cannot_write u operator.task l) NoSuchAccess _ (none_rest (k == 0) BadArgument _ none)))
          other.no-index
      served (request.Deaccess l) is none = given-up l (u.access operator.task l) (on.held operator.task l)
      served (request.Enter d name g) is none = entered d name g is.0 none (n == d.number) refl
      served (request.WriteAttr g c) is none = ap (λ (i : FileId). n == i.number) is.0 ∙ other.apart
      served (request.Delete g) is none = gone g (ap (λ (i : FileId). n == i.number) is ∙ other.apart) (is_accessed u g)
      served _ is none = absurd is

  -- nor does a block that is written
  write-unmeant : (l vbn : ℕ) (block : List ℕ) (u : Store) → HoldsOnly id u
      → (work_of u operator.task operator.caller (request.WriteBlock l vbn) block).is_meant n ≡ false
  write-unmeant l vbn block u held =
      if-served n (first_refusal u operator.task operator.caller (request.WriteBlock l vbn))
      (served_work u operator.task operator.caller (request.WriteBlock l vbn) block)
      (λ none. held-apart (u.access operator.task l) (held operator.task l)
      (none_first (cannot_write u operator.task l) NoSuchAccess _ (none_rest (vbn == 0) BadArgument _ none)))

  -- so a step leaves the file as it is
  step-there : (r : Request) (lent given : List ℕ) (result : Result Reply Refusal) (u w : Store) → IsOnTheWay id n f u
      → Step u operator.task operator.caller r lent result w given
      → (work_of u operator.task operator.caller r lent).is_meant n ≡ false → w.file n ≡ Some f
  step-there r lent given result u w on h unmeant =
      (step_lags u operator.task operator.caller r lent result w given (none-index id u other.late on.held) h).others n unmeant ∙ on.there

  own-step : (r : Request) (lent given : List ℕ) (result : Result Reply Refusal) (u w : Store) → MakesBy 0 dir to 0 stated id r
      → IsOnTheWay id n f u → Step u operator.task operator.caller r lent result w given → IsOnTheWay id n f w
  own-step r lent given result u w is on h = record {
    there = step-there r lent given result u w on h (own-unmeant r lent u is on);
    held = own-holds dir to 0 stated id r lent given result u w is h on.held;
  }

  write-step : (l vbn : ℕ) (block given : List ℕ) (result : Result Reply Refusal) (u w : Store) → IsOnTheWay id n f u
      → Step u operator.task operator.caller (request.WriteBlock l vbn) block result w given → IsOnTheWay id n f w
  write-step l vbn block given result u w on h = record {
    there = step-there (request.WriteBlock l vbn) block given result u w on h (write-unmeant l vbn block u on.held);
    held = write-holds dir to 0 stated id l vbn block given result u w h on.held;
  }

  -- whatever was asked, granted or refused
  asked-step : (x : Asking) (u w : Store) → IsMakingOf 0 dir to 0 stated id x → IsOnTheWay id n f u
      → (Grants plain operator x u w) ⊎ ((e : Refusal) × Denies plain operator x e u w) → IsOnTheWay id n f w
  asked-step (asks r) u w is on (inl g) = own-step r g.0 g.2 (Ok g.1) u w is on g.3
  asked-step (asks r) u w is on (inr d) = own-step r d.1.0 d.1.1 (Err d.0) u w is on d.1.2
  asked-step (writes l vbn block) u w is on (inl g) = write-step l vbn block g.1 (Ok g.0) u w on g.2
  asked-step (writes l vbn block) u w is on (inr d) = write-step l vbn block d.1.0 (Err d.0) u w on d.1.1
  asked-step (told r a) u w is on h = absurd is
  asked-step (reads l vbn block) u w is on h = absurd is
  asked-step (counts l blocks) u w is on h = absurd is

  all-steps : (xs : List Asking) (u w : Store) → All (IsMakingOf 0 dir to 0 stated id) xs → IsOnTheWay id n f u
      → Tried plain operator xs u w
      → IsOnTheWay id n f w
  all-steps [] u w only on h = subst (IsOnTheWay id n f) (sym h) on
  all-steps (x ∷ xs) u w only on h =
      all-steps xs h.0 w (All-tail (IsMakingOf 0 dir to 0 stated id) x xs only)
      (asked-step x u h.0 (All-head (IsMakingOf 0 dir to 0 stated id) x xs only) on h.1) h.2

  -- and what was stopped
  asked-lags : (x : Asking) (u t : Store) → IsMakingOf 0 dir to 0 stated id x → IsOnTheWay id n f u → LagsAsked x t u → t.file n ≡ Some f
  asked-lags (asks r) u t is on h = h.1.others n (own-unmeant r h.0 u is on) ∙ on.there
  asked-lags (writes l vbn block) u t is on h = h.others n (write-unmeant l vbn block u on.held) ∙ on.there
  asked-lags (told r a) u t is on h = absurd is
  asked-lags (reads l vbn block) u t is on h = absurd is
  asked-lags (counts l blocks) u t is on h = absurd is

  stopped-there : (x : Asking) (u t : Store) → IsMakingOf 0 dir to 0 stated id x → IsOnTheWay id n f u → IsStopped x u t → t.file n ≡ Some f
  stopped-there x u t is on (not_begun held same) = sym (ap (λ (s : Store). s.file n) same) ∙ on.there
  stopped-there x u t is on (in_part h) = asked-lags x u t is on h

-- what of a list stands before another, and that one
pub all-behind : {X : Type 0} (P : X → Type 0) (xs : List X) (y : X) (ys : List X) → All P (xs ++ y ∷ ys) → All P xs × P y
all-behind P [] y ys h = (λ i d within. absurd (omega (arith, within)), All-head P y ys h)
all-behind P (x ∷ xs) y ys h =
    let rest = all-behind P xs y ys (All-tail P x (xs ++ y ∷ ys) h) in
    (All-cons P x xs (All-head P x (xs ++ y ∷ ys) h) rest.0, rest.1)

-- the least free slot isn't in use, or there is none, and it is 0
least-unused : (t : Store) → t.in_use 0 ≡ false → t.in_use (least_free t) ≡ false
least-unused t low = by (free_headers t) refl
  where
    none : (xs : List ℕ) → length xs ≡ 0 → slice_index xs 0 ≡ 0
    none [] h = refl
    none (x ∷ xs) h = absurd (omega (arith, h))

    by : (k : ℕ) → free_headers t ≡ k → t.in_use (least_free t) ≡ false
    by zero is = ap t.in_use (none (free_slots t) is) ∙ low
    by (suc k) is = (least_free_is_free t (omega (arith, is))).unused

-- the slot that is taken for a new file wasn't in use
pub taken-unused : (s : Store) → s.in_use 0 ≡ false → s.in_use (least_free (with_slots_first s 1)) ≡ false
taken-unused s low = by (slots_first s 1)
  where
    by : (c : ℕ) → s.in_use (least_free (with_slots_added c s)) ≡ false
    by zero = least-unused s low
    by (suc c) = least-unused (with_slots_added (suc c) s) low

-- a file is in another slot than one that isn't in use
in-another : (s : Store) → FreeIsEmpty s → (n k : ℕ) (f : File) → s.file n ≡ Some f → s.in_use k ≡ false → (n == k) ≡ false
in-another s tidy n k f there unused = ne_eqb n k (λ is. differ (sym there ∙ ap s.file is ∙ tidy k unused))
  where
    differ : Some f ≡ None → ⊥
    differ is = cc

-- the creation of a file, where nobody holds an access
module _ (s : Store) (tidy : FreeIsEmpty s) (low : s.in_use 0 ≡ false) (unheld : IsUnheld s) (n : ℕ) (f : File) (there : s.file n ≡ Some f)
    (no-index : (n == 1) ≡ false) where
  creation-unmeant : (to : List ℕ) (r : Request) (lent : List ℕ) → Creates to r
      → (work_of s operator.task operator.caller r lent).is_meant n ≡ false
  creation-unmeant to (request.Create word ident attr) lent is =
      if-served n (first_refusal s operator.task operator.caller (request.Create word ident attr))
      (served_work s operator.task operator.caller (request.Create word ident attr) lent) (λ none. by (slots_first s 1))
    where
      slot : ℕ
      slot = least_free (with_slots_first s 1)

      apart : (n == slot) ≡ false
      apart = in-another s tidy n slot f there (taken-unused s low)

      by : (c : ℕ) → (after_slots c s (new_file_work (with_slots_first s 1) operator.caller word ident attr)).is_meant n ≡ false
      by zero = apart
      by (suc c) = ap (λ b. b || (n == slot)) no-index ∙ apart
  creation-unmeant to _ lent is = absurd is

  none-held : (id : FileId) → HoldsOnly id s
  none-held id task lun = subst (IsHeldOf id) (sym (unheld task lun)) tt

  held-none : NoneHoldsIndex s
  held-none task lun = ap (λ (o : Option Access). (id_in o).number == 1) (unheld task lun)

  -- it was granted
  created-there : (to : List ℕ) (r : Request) (dir id : FileId) (t : Store) → Creates to r → is_directory_of dir n f.sequence ≡ false
      → Grants plain operator (told r (reply.Created id)) s t → IsAnother id dir n f × IsOnTheWay id n f t
  created-there to (request.Create word ident attr) dir id t is elsewhere g =
      let slot = new_slot_was_free s operator.task operator.caller word ident attr g.0 id t g.1 g.2 in
      let made = g.2.changes in
      let ready = gained-is-ready s made.ready 1 made.gains in (
        record {
          apart = in-another s tidy n id.number f there slot.2;
          elsewhere = elsewhere;
          no-index = no-index;
          late = not-index id.number 6 (omega arith) slot.0;
        },
        record {
          there = (step_lags s operator.task operator.caller (request.Create word ident attr) g.0 (Ok (reply.Created id)) t g.1 held-none
              g.2).others n (creation-unmeant to (request.Create word ident attr) g.0 is) ∙ there;
          held = same-held id s t (ap (λ (x : Store). x.access) made.makes ∙ ready.access) (none-held id);
        },
      )
  created-there to _ dir id t is elsewhere g = absurd is

  -- or stopped
  creation-stopped : (to : List ℕ) (r : Request) (t : Store) → Creates to r → IsStopped (asks r) s t → t.file n ≡ Some f
  creation-stopped to r t is (not_begun held same) = sym (ap (λ (x : Store). x.file n) same) ∙ there
  creation-stopped to r t is (in_part h) = h.1.others n (creation-unmeant to r h.0 is) ∙ there

-- wherever the making was stopped, the others are as they were
pub others-stay : (dir : FileId) (to : List ℕ) (stated : Option (List ℕ)) (s t : Store) → FreeIsEmpty s → s.in_use 0 ≡ false → IsUnheld s
    → StopsAt dir to stated s t
    → KeepsOthers dir s t
others-stay dir to stated s t tidy low unheld (creating r is stopped) =
    λ n f there elsewhere no-index. creation-stopped s tidy low unheld n f there no-index to r t is stopped
others-stay dir to stated s t tidy low unheld (after_creation h) = λ n f there elsewhere no-index. by n f there elsewhere no-index
  where
    by : (n : ℕ) (f : File) → s.file n ≡ Some f → is_directory_of dir n f.sequence ≡ false → (n == 1) ≡ false → t.file n ≡ Some f
    by n f there elsewhere no-index =
        let begun = created-there s tidy low unheld n f there no-index to h.request dir h.id h.created h.creates elsewhere h.granted in
        stopped-there dir to stated h.id n f begun.0 h.last h.reached t h.is
        (all-steps dir to stated h.id n f begun.0 h.asked h.created h.reached h.only begun.1 h.tried) h.stopped

-- no volume has a slot 0
pub no-slot-0 : (image : Image) (home : HomeFields) → (store_of image home).in_use 0 ≡ false
unfolding store_of table_in is_in_use
no-slot-0 image home = refl
