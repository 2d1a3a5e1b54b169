-- Requests on files that are accessed: read and written.
use Rattle.std.proofs.Common.{◌≡◌, ◌≢◌, ◌⊎◌, inl, inr, ℕ, ◌+◌, ◌-◌, ◌<◌, ◌≤◌, ◌==◌, ◌||◌, Bool, true, false, IsTrue, List, [], ◌∷◌}
use Rattle.std.proofs.Common.{Option, Some, None, Ok, Err, refl, sym, ◌∙◌, ap, subst, arith, is_none, option_map, if◌then◌else◌, nat_lt}
use Rattle.std.proofs.Common.{slice_index_or}
use Rattle.f11_dev.specs.Disk.{Disk}
use Rattle.f11_dev.proofs.WentLemmas.{went_looked}
use Rattle.f11_files.proofs.AnswerLemmas.{reads-within}
use Rattle.f11_files.proofs.WriteLemmas.{fails-unread}
use Rattle.std.proofs.lemmas.Bool.{eq-eqb, or_left, or_right}
use Rattle.std.proofs.lemmas.Option.{get_or_from_slice_get, same_Some}
use Rattle.f11_home.specs.Home.{HomeFields}
use Rattle.f11_store.specs.Causes.{Cause, ◌⇐◌, first_of, first_refusal, is_missing, is_no_write, is_no_writer, holds_none, cannot_write}
use Rattle.f11_store.specs.Changes.{with_change, with_block}
use Rattle.f11_store.specs.Cost.{cost, header_count}
use Rattle.f11_store.specs.File.{File, is_marked, length_of}
use Rattle.f11_store.specs.Refusal.{refusal_number}
use Rattle.f11_store.specs.Lags.{Work, no_work, served_work, work_if, work_of}
use Rattle.f11_store.specs.Store.{Store, id_in, id_held, file_held, file_of, file_named}
use Rattle.f11_store.specs.declared.callers.Uic.{Uic}
use Rattle.f11_store.specs.declared.files.FileId.{FileId}
use Rattle.f11_store.specs.declared.refusals.Refusal.{Refusal}
use Rattle.f11_store.specs.declared.refusals.Refusal.TheVariants.{BadArgument, NoSuchAccess, NoSuchFile, EndOfFile, DeviceFault, Damaged}
use Rattle.f11_store.specs.declared.refusals.Refusal.TheVariants.{VolumeFailed}
use Rattle.f11_store.specs.declared.requests.Reply.TheVariants as reply
use Rattle.f11_store.specs.declared.requests.Request.{Request}
use Rattle.f11_store.specs.declared.requests.Request.TheVariants as request
use Rattle.f11_files.specs.Answers.{ReadsAtMost, WritesAtMost, FailsToRead, FailsToWrite, is_among, is_cause, is_fatal, is_clean, faults_of}
use Rattle.f11_files.specs.Operations.{length_causes}
use Rattle.f11_files.specs.Finding.Blocks.{ReadsBlock, StoresBlock, FailsToStore, block_work}
use Rattle.f11_files.specs.image_store.StoreOf.{store_of}
use Rattle.f11_fcp.proofs.RequestLemmas.{still}
use Rattle.f11_fcp.specs.Accesses.{AccessTable, Entry, access_of, accesses, held_in, mark_there, mark_kept, HasAccessed}
use Rattle.f11_store.specs.Accesses.{mark_of}
use Rattle.f11_fcp.specs.Handles.{State, store_at, own_causes, WhileServing, Handles, of_accessed}
use Rattle.f11_fcp.proofs.HandleLemmas.{among-part, handled-served, same-store, handled-clean, handled-fatal, handled-refused, handled-does}
use Rattle.f11_fcp.proofs.HandleLemmas.{behind}
use Rattle.f11_fcp.proofs.HandleLemmas.{reads-none}
use Rattle.f11_fcp.proofs.KnownLemmas.{clean-faults}

-- a test that fails
pub drop-false : {A : Type 0} (b : Bool) (x rest : A) → b ≡ false → (if b then x else rest) ≡ rest
drop-false true x rest h = absurd (cc)
drop-false false x rest h = refl

pub take-true : {A : Type 0} (b : Bool) (x rest : A) → b ≡ true → (if b then x else rest) ≡ x
take-true true x rest h = refl
take-true false x rest h = absurd (cc)

-- a refusal for a cause
pub cause-clean : (e : Refusal) → is_cause e ≡ true → (is_fatal e ≡ false) × (e ≢ VolumeFailed)
cause-clean VolumeFailed h = absurd (cc)
cause-clean DeviceFault h = absurd (cc)
cause-clean Damaged h = absurd (cc)
cause-clean _ h = (refl, λ is. absurd (cc))

-- a call that only reads was refused for one, behind a look or before it
pub fails-clean : {m : ℕ} {causes : List Cause} {old new : Disk} (e : Refusal) → is_cause e ≡ true → is_among causes e ≡ true
    → (IsTrue old.honest → first_of causes ≡ Some e) → ReadsAtMost m old new 0 → FailsToRead false causes m e old new
fails-clean {m = m} {old = old} {new = new} e cause among first reads =
    let clean = cause-clean e cause in
    record {
      right = record {
        volume = λ v. absurd (clean.1 v);
        among = λ _. among;
        cause = λ honest _. first honest;
        undamaged = λ _ d. absurd (let no : true ≡ false = ap is_fatal (sym d) ∙ clean.0 in cc);
      };
      reads = subst (λ (k : ℕ). ReadsAtMost m old new k) (sym (clean-faults e clean.0)) reads;
    }

pub fails-early : {m : ℕ} {causes : List Cause} {old : Disk} (e : Refusal) → is_cause e ≡ true → is_among causes e ≡ true
    → (IsTrue old.honest → first_of causes ≡ Some e) → FailsToRead false causes m e old old
fails-early {old = old} e cause among first = fails-clean e cause among first (reads-within (omega arith) (reads-none old))

-- the only cause against reading a header is that there is no such file
pub among-file : (m : Bool) (e : Refusal) → is_among ((NoSuchFile ⇐ m) ∷ []) e ≡ true → e ≡ NoSuchFile
among-file m NoSuchFile h = refl
among-file m _ h = absurd (cc)

-- what doesn't fail the volume is no refusal of files that does
pub of-accessed-clean : (e : Refusal) → is_fatal (of_accessed e) ≡ false → is_fatal e ≡ false
of-accessed-clean NoSuchFile h = refl
of-accessed-clean _ h = h

-- NoSuchFile of a file that is accessed is damage, and any other refusal is itself
pub accessed-cases : (e : Refusal) → (e ≡ NoSuchFile) ⊎ (of_accessed e ≡ e)
accessed-cases NoSuchFile = inl refl
accessed-cases _ = inr refl

-- a file of which a mark is kept is there
pub there-marked : (s : Store) (id : FileId) (m : Bool) → mark_of s id ≡ Some m → is_missing s id ≡ false
there-marked s id m is = by_file (file_of s id) is
  where
    by_file : (o : Option File) → option_map (λ f. is_marked f) o ≡ Some m → is_none o ≡ false
    by_file None h = absurd (cc)
    by_file (Some f) h = refl

pub mark-held : (t : AccessTable) (s : Store) (task lun : ℕ) (e : Entry) → HasAccessed t s → task < 8 → lun < 4 → t task lun ≡ Some e
    → mark_of s e.file ≡ Some e.marked
mark-held t s task lun e kept low small held = subst (λ (o : Option Entry). mark_there s o ≡ mark_kept o) held (kept task lun low small)

-- so a file that is accessed is there
pub there-held : (t : AccessTable) (s : Store) (task lun : ℕ) (e : Entry) → HasAccessed t s → task < 8 → lun < 4 → t task lun ≡ Some e
    → is_missing s e.file ≡ false
there-held t s task lun e kept low small held =
    there-marked s e.file e.marked (subst (λ (o : Option Entry). mark_there s o ≡ mark_kept o) held (kept task lun low small))

-- the first of some causes is among them
among-step : (b : Bool) (x e : Refusal) (o : Option Refusal) (more : Bool) → (o ≡ Some e → more ≡ true) → (if b then Some x else o) ≡ Some e
    → ((refusal_number x == refusal_number e) || more) ≡ true
among-step true x e o more step h =
    or_left (refusal_number x == refusal_number e) more (eq-eqb (refusal_number x) (refusal_number e) (ap refusal_number (same_Some x e h)))
among-step false x e o more step h = or_right (refusal_number x == refusal_number e) more (step h)

pub first-among : (cs : List Cause) (e : Refusal) → first_of cs ≡ Some e → is_among cs e ≡ true
first-among [] e h = absurd (cc)
first-among (c ∷ cs) e h = among-step c.holds c.refusal e (first_of cs) (is_among cs e) (first-among cs e) h

-- a refusal of a call on a file that is accessed that isn't for want of the file is for one of the other causes
among-rest : (m : Bool) (rest : List Cause) (e : Refusal) → of_accessed e ≡ e → is_among ((NoSuchFile ⇐ m) ∷ rest) e ≡ true
    → is_among rest e ≡ true
among-rest m rest NoSuchFile same h = absurd (cc)
among-rest m rest _ same h = h

module _ (task : ℕ) (caller : Uic) (r : Request) (block : List ℕ) (old : State) where
  -- it was refused before any transfer
  pub refused-early : (e : Refusal) → is_cause e ≡ true → is_among (own_causes (store_at old) task caller r) e ≡ true
      → first_refusal (store_at old) task caller r ≡ Some e → Handles task caller r (Err e) old block old block
  refused-early e cause own first =
      let clean = cause-clean e cause in
      handled-clean task caller r block old e old clean.0 clean.1 own (λ _. first) (reads-within (omega arith) (reads-none old.disk)) refl
      refl refl

  -- blocks were read alone
  pub writes-looked : {m faults : ℕ} (new : Disk) → ReadsAtMost m old.disk new faults → m ≤ cost (store_at old) task r
      → WritesAtMost (WhileServing task caller r block old) (cost (store_at old) task r) old.disk new faults
  writes-looked new reads fewer = record {
    transfers = reads.reads;
    went = went_looked (WhileServing task caller r block old) reads.looked;
    few = λ honest. let few = reads.few honest in omega (arith, few, fewer);
  }

  -- a call on a file that is accessed was refused
  pub accessed-refused : (e : Refusal) (missing : Bool) (rest : List Cause) (work : Work) (mid new : State) (block' : List ℕ) {m n : ℕ}
      → ReadsAtMost m old.disk mid.disk 0 → mid.home ≡ old.home
      → mid.counts ≡ old.counts → FailsToWrite false ((NoSuchFile ⇐ missing) ∷ rest) n work mid.home e mid.disk new.disk
      → is_among rest NoSuchFile ≡ false → (is_among rest e ≡ true → is_among (own_causes (store_at old) task caller r) e ≡ true)
      → (IsTrue old.disk.honest → m + n ≤ cost (store_at old) task r) → (IsTrue old.disk.honest → missing ≡ false)
      → (IsTrue old.disk.honest → first_of ((NoSuchFile ⇐ missing) ∷ rest) ≡ first_refusal (store_at old) task caller r)
      → (IsTrue old.disk.honest → work ≡ served_work (store_at old) task caller r block)
      → new.home ≡ mid.home → new.table ≡ old.table → (is_clean e ≡ true → new.counts ≡ mid.counts) → (is_fatal e ≡ false → block' ≡ block)
      → Handles task caller r (Err (of_accessed e)) old block new block'
  accessed-refused e missing rest work mid new block' reads home counts fails apart own fewer there first works home' table counts' lent =
      by_case (accessed-cases e)
    where
      causes : List Cause
      causes = (NoSuchFile ⇐ missing) ∷ rest

      works-if : IsTrue old.disk.honest → work_if (first_of causes) work ≡ work_of (store_at old) task caller r block
      works-if honest = ap (λ o. work_if o work) (first honest) ∙ ap (work_if (first_refusal (store_at old) task caller r)) (works honest)

      never : IsTrue old.disk.honest → first_of causes ≢ Some NoSuchFile
      never honest is =
          let some : is_among rest NoSuchFile ≡ true = first-among rest NoSuchFile
          (sym (drop-false missing (Some NoSuchFile) (first_of rest) (there honest)) ∙ is) in
          let no : false ≡ true = sym apart ∙ some in cc

      by_case : (e ≡ NoSuchFile) ⊎ (of_accessed e ≡ e) → Handles task caller r (Err (of_accessed e)) old block new block'
      by_case (inr same) =
          subst (λ (x : Refusal). Handles task caller r (Err x) old block new block') (sym same)
          (handled-refused task caller r block old e causes work mid new block' reads home counts fails
          (λ among. own (among-rest missing rest e same among)) fewer first works home' table counts' lent)
      by_case (inl is) =
          subst (λ (x : Refusal). Handles task caller r (Err (of_accessed x)) old block new block') (sym is)
          (handled-fatal task caller r block old Damaged new block' refl
          (λ honest _. never honest (subst (λ (x : Refusal). first_of causes ≡ Some x) is
          (fails.right.cause (reads.looked.honest ∙ honest) (ap (λ x. is_cause x) is))))
          (subst (λ (x : Refusal). WritesAtMost (WhileServing task caller r block old) (cost (store_at old) task r) old.disk new.disk
          (faults_of x)) is
          (behind task caller r block old (work_if (first_of causes) work) mid new reads home works-if fails.writes fewer)) (home' ∙ home))

-- the file that the task accesses by the lun
module _ (task lun : ℕ) (old : State) (e : Entry) (held : old.table task lun ≡ Some e) where
  abbrev s : Store
  s = store_at old

  abbrev s0 : Store
  s0 = store_of old.disk.image old.home

  pub held-id : id_held s task lun ≡ e.file
  held-id = ap (λ (o : Option Entry). id_in (option_map access_of o)) held

  pub held-file : file_held s task lun ≡ file_named s0 e.file
  held-file = ap (λ (id : FileId). file_named s0 id) held-id

  pub held-writes : is_no_write e.mode ≡ false → cannot_write s task lun ≡ false
  held-writes writes = ap (λ (o : Option Entry). is_no_writer (option_map access_of o)) held ∙ writes

-- ReadBlock and WriteBlock
still-read : {failed : Bool} {causes : List Cause} {n : ℕ} {e : Refusal} {old new : Disk} → failed ≡ false
    → FailsToRead failed causes n e old new → FailsToRead false causes n e old new
still-read {causes = causes} {n = n} {e = e} {old = old} {new = new} alive fails =
    subst (λ (b : Bool). FailsToRead b causes n e old new) alive fails

module _ (task lun : ℕ) (caller : Uic) (old : State) (e : Entry) (held : old.table task lun ≡ Some e) (vbn : ℕ) (some : (vbn == 0) ≡ false)
    (there : IsTrue old.disk.honest → is_missing (store_of old.disk.image old.home) e.file ≡ false)
  where
    abbrev st : Store
    st = store_at old

    abbrev sb : Store
    sb = store_of old.disk.image old.home

    abbrev named : File
    named = file_named sb e.file

    abbrev past : Bool
    past = nat_lt (length_of named) vbn

    abbrev rest : List Cause
    rest = (EndOfFile ⇐ past) ∷ []

    at-end : (f : File) → f ≡ named → (if nat_lt (length_of f) vbn then Some EndOfFile else None) ≡ first_of rest
    at-end f is = ap (λ (g : File). if nat_lt (length_of g) vbn then Some EndOfFile else None) is

    read-first : IsTrue old.disk.honest → first_of (length_causes sb e.file vbn) ≡ first_refusal st task caller (request.ReadBlock lun vbn)
    read-first honest =
        drop-false (is_missing sb e.file) (Some NoSuchFile) (first_of rest) (there honest) ∙ sym (drop-false (vbn == 0) _ _ some
        ∙ drop-false (holds_none st task lun) _ _ (ap (λ (o : Option Entry). is_none (option_map access_of o)) held)
        ∙ at-end (file_held st task lun) (held-file task lun old e held))

    few : header_count named + 1 ≤ header_count (file_held st task lun) + 1
    few = subst (λ (f : File). header_count named + 1 ≤ header_count f + 1) (sym (held-file task lun old e held)) (omega arith)

    pub read-done : (block block' : List ℕ) (new : State) → ReadsBlock old.home e.file vbn block' old.disk new.disk → new.home ≡ old.home
        → new.table ≡ old.table → Handles task caller (request.ReadBlock lun vbn) (Ok reply.Done) old block new block'
    read-done block block' new is home table =
        handled-served task caller (request.ReadBlock lun vbn) block old reply.Done new block'
        (λ honest. sym (read-first honest) ∙ is.no_cause honest) (λ _. refl) (λ _. same-store old new is.reads.looked.image home table)
        (λ honest. sym (ap (λ (f : File). slice_index_or f.blocks (vbn - 1) []) (held-file task lun old e held)
        ∙ get_or_from_slice_get named.blocks (vbn - 1) block' [] (is.block_is honest)))
        (writes-looked task caller (request.ReadBlock lun vbn) block old new.disk is.reads few) home

    pub read-refused : {failed : Bool} (block block' : List ℕ) (new : State) (er res : Refusal) → failed ≡ false
        → FailsToRead failed (length_causes sb e.file vbn) (header_count named + 1) er old.disk new.disk
        → new.home ≡ old.home → new.table ≡ old.table → (is_clean er ≡ true → new.counts ≡ old.counts)
        → (is_fatal er ≡ false → block' ≡ block) → res ≡ of_accessed er
        → Handles task caller (request.ReadBlock lun vbn) (Err res) old block new block'
    read-refused block block' new er res alive fails home table counts lent res_is =
        subst (λ (x : Refusal). Handles task caller (request.ReadBlock lun vbn) (Err x) old block new block') (sym res_is)
        (accessed-refused task caller (request.ReadBlock lun vbn) block old er (is_missing sb e.file) rest no_work old new block'
        (reads-none old.disk) refl refl (fails-unread {n = header_count named + 1} (omega arith) (still-read alive fails))
        refl (among-part ((BadArgument ⇐ true) ∷ (NoSuchAccess ⇐ true) ∷ []) rest [] er) (λ _. omega (arith, few)) there read-first
        (λ _. refl) home table counts
        lent)

    module _ (writes : is_no_write e.mode ≡ false) (block : List ℕ) where
      write-first : IsTrue old.disk.honest → first_of (length_causes sb e.file vbn)
          ≡ first_refusal st task caller (request.WriteBlock lun vbn)
      write-first honest =
          drop-false (is_missing sb e.file) (Some NoSuchFile) (first_of rest) (there honest)
          ∙ sym (drop-false (vbn == 0) _ _ some ∙ drop-false (cannot_write st task lun) _ _ (held-writes task lun old e held writes)
          ∙ at-end (file_held st task lun) (held-file task lun old e held))

      write-work : block_work e.file vbn block ≡ served_work st task caller (request.WriteBlock lun vbn) block
      write-work = sym (ap (λ (id : FileId). block_work id vbn block) (held-id task lun old e held))

      pub wrote : (new : State) → StoresBlock old.home e.file vbn block old.disk new.disk → new.home ≡ old.home → new.table ≡ old.table
          → Handles task caller (request.WriteBlock lun vbn) (Ok reply.Done) old block new block
      wrote new does home table =
          handled-does task caller (request.WriteBlock lun vbn) block old reply.Done (length_causes sb e.file vbn)
          (block_work e.file vbn block) old new block (reads-none old.disk) refl does
          (λ _. omega (arith, few)) write-first (λ _. write-work) (λ _. refl)
          (λ _ makes. ap (λ (h : HomeFields). held_in new.table (store_of new.disk.image h)) home
          ∙ ap (λ (t : AccessTable). held_in t (store_of new.disk.image old.home)) table ∙ ap (held_in old.table) makes
          ∙ sym (ap (λ (id : FileId). with_change st id.number (with_block vbn block)) (held-id task lun old e held))) (λ _. refl) home

      pub not-written : {failed : Bool} (new : State) (er res : Refusal) → failed ≡ false
          → FailsToStore failed old.home e.file vbn block er old.disk new.disk
          → new.home ≡ old.home → new.table ≡ old.table → (is_clean er ≡ true → new.counts ≡ old.counts) → res ≡ of_accessed er
          → Handles task caller (request.WriteBlock lun vbn) (Err res) old block new block
      not-written new er res alive fails home table counts res_is =
          subst (λ (x : Refusal). Handles task caller (request.WriteBlock lun vbn) (Err x) old block new block) (sym res_is)
          (accessed-refused task caller (request.WriteBlock lun vbn) block old er (is_missing sb e.file) rest (block_work e.file vbn block)
          old new block (reads-none old.disk) refl refl
          (still alive fails) refl (among-part ((BadArgument ⇐ true) ∷ (NoSuchAccess ⇐ true) ∷ []) rest [] er) (λ _. omega (arith, few))
          there write-first
          (λ _. write-work) home table counts (λ _. refl))

pub read-zero : (task lun vbn : ℕ) (caller : Uic) (old : State) (block : List ℕ) → vbn ≡ 0
    → Handles task caller (request.ReadBlock lun vbn) (Err BadArgument) old block old block
read-zero task lun vbn caller old block is =
    refused-early task caller (request.ReadBlock lun vbn) block old BadArgument refl refl (take-true (vbn == 0) _ _ (eq-eqb vbn 0 is))

pub read-none : (task lun vbn : ℕ) (caller : Uic) (old : State) (block : List ℕ) → (vbn == 0) ≡ false → None ≡ old.table task lun
    → Handles task caller (request.ReadBlock lun vbn) (Err NoSuchAccess) old block old block
read-none task lun vbn caller old block some none =
    refused-early task caller (request.ReadBlock lun vbn) block old NoSuchAccess refl refl
    (drop-false (vbn == 0) _ _ some ∙ take-true (holds_none (store_at old) task lun) _ _
    (ap (λ (o : Option Entry). is_none (option_map access_of o)) (sym none)))

pub write-zero : (task lun vbn : ℕ) (caller : Uic) (old : State) (block : List ℕ) → vbn ≡ 0
    → Handles task caller (request.WriteBlock lun vbn) (Err BadArgument) old block old block
write-zero task lun vbn caller old block is =
    refused-early task caller (request.WriteBlock lun vbn) block old BadArgument refl refl (take-true (vbn == 0) _ _ (eq-eqb vbn 0 is))

pub write-none : (task lun vbn : ℕ) (caller : Uic) (old : State) (block : List ℕ) → (vbn == 0) ≡ false
    → is_no_writer (accesses old.table task lun) ≡ true
    → Handles task caller (request.WriteBlock lun vbn) (Err NoSuchAccess) old block old block
write-none task lun vbn caller old block some none =
    refused-early task caller (request.WriteBlock lun vbn) block old NoSuchAccess refl refl
    (drop-false (vbn == 0) _ _ some ∙ take-true (cannot_write (store_at old) task lun) _ _ none)
