-- A directory that is opened for a request, and looked through.
use Rattle.std.proofs.Common.{◌≡◌, ℕ, ◌+◌, ◌<◌, ◌≤◌, ◌==◌, Bool, true, false, not, IsTrue, List, [], ◌∷◌, ◌++◌, Some, None, refl, sym}
use Rattle.std.proofs.Common.{◌∙◌, ap, subst, arith, if◌then◌else◌, nat_lt}
use Rattle.std.specs.Int.{bit_at}
use Rattle.std.proofs.lemmas.Bool.{lt-ltb, le-ltb}
use Rattle.f11_dev.specs.Disk.{Disk}
use Rattle.f11_home.specs.Home.{HomeFields}
use Rattle.f11_store.specs.Causes.{Cause, ◌⇐◌, first_of, is_missing, lacks}
use Rattle.f11_store.specs.Cost.{header_count}
use Rattle.f11_store.specs.Directory.{entry_count, is_directory}
use Rattle.f11_store.specs.File.{File, is_marked, length_of}
use Rattle.f11_store.specs.Store.{Store, bars, file_named}
use Rattle.f11_store.specs.declared.callers.Uic.{Uic}
use Rattle.f11_store.specs.declared.files.Attr.{Attr}
use Rattle.f11_store.specs.declared.files.FileId.{FileId}
use Rattle.f11_store.specs.declared.files.Mode.TheVariants as mode
use Rattle.f11_store.specs.declared.protection.Right.TheVariants as right
use Rattle.f11_store.specs.declared.refusals.Refusal.{Refusal}
use Rattle.f11_store.specs.declared.refusals.Refusal.TheVariants.{SystemFile, NoSuchFile, Marked, NoPrivilege, Conflict, NotDirectory}
use Rattle.f11_entries.specs.Costs.{look_cost, reading_cost}
use Rattle.f11_entries.specs.Looks.{Tells, IsLastBlock}
use Rattle.f11_files.specs.Answers.{FailsToRead, ReadsAtMost, is_among}
use Rattle.f11_files.specs.Calls.{ReadsAttr}
use Rattle.f11_files.specs.Finding.Length.{CountsBlocks}
use Rattle.f11_files.specs.Operations.{attr_of, file_causes}
use Rattle.f11_files.specs.image_store.StoreOf.{store_of}
use Rattle.f11_files.proofs.AnswerLemmas.{fails-more, reads-more, reads-within}
use Rattle.f11_fcp.specs.Accesses.{AccessTable, is_held_in}
use Rattle.f11_fcp.specs.Directories.{right_for, lacks_for_purpose, is_barred_to, conflict_causes, opening_causes, OpensDirectory}
use Rattle.f11_fcp.specs.Directories.{LooksThroughDirectory, Searches, IsDirectoryOf}
use Rattle.f11_fcp.specs.declared.purpose.Purpose.{Purpose}
use Rattle.f11_fcp.specs.declared.purpose.Purpose.TheVariants as purpose
use Rattle.f11_fcp.specs.declared.search.Search.{Search}
use Rattle.f11_fcp.proofs.AccessedLemmas.{drop-false, fails-clean, fails-early, take-true}
use Rattle.f11_fcp.proofs.HandleLemmas.{within-when}
use Rattle.f11_fcp.proofs.NamedLemmas.{found, marks-read}

-- where a test is so, its negation isn't
not-so : (b : Bool) → true ≡ b → not b ≡ false
not-so true h = refl
not-so false h = absurd (cc)

-- the causes against a change of a directory, whatever is held of it
abbrev pub opening_barred : Bool → AccessTable → Store → Uic → FileId → List Cause
opening_barred barred t s caller d =
    (SystemFile ⇐ nat_lt d.number 4)
    ∷ (NoSuchFile ⇐ is_missing s d)
    ∷ (Marked ⇐ is_marked (file_named s d))
    ∷ (NoPrivilege ⇐ lacks right.Write caller (file_named s d))
    ∷ (Conflict ⇐ barred)
    ∷ (NotDirectory ⇐ not (is_directory (file_named s d)))
    ∷ []

-- a directory that was opened is there
pub opened-there : (p : Purpose) (t : AccessTable) (s : Store) (caller : Uic) (d : FileId) → 4 ≤ d.number
    → first_of (opening_causes p t s caller d) ≡ None → is_missing s d ≡ false
opened-there p t s caller d own none = by_test (is_missing s d) refl
  where
    by_test : (b : Bool) → is_missing s d ≡ b → b ≡ false
    by_test false is = refl
    by_test true is =
        let first : first_of (opening_causes p t s caller d) ≡ Some NoSuchFile = drop-false (nat_lt d.number 4) _ _ (le-ltb d.number 4 own)
        ∙ take-true (is_missing s d) _ _ is in
        let no : None ≡ Some NoSuchFile = sym none ∙ first in
        absurd (cc)

-- an access stands against it, or none does
conflict-among : (p : Purpose) (t : AccessTable) (s : Store) (caller : Uic) (d : FileId) → is_barred_to p t d ≡ true
    → is_among (opening_causes p t s caller d) Conflict ≡ true
conflict-among purpose.Look t s caller d h = absurd (cc)
conflict-among purpose.Change t s caller d h = refl

directory-among : (p : Purpose) (t : AccessTable) (s : Store) (caller : Uic) (d : FileId)
    → is_among (opening_causes p t s caller d) NotDirectory ≡ true
directory-among purpose.Look t s caller d = refl
directory-among purpose.Change t s caller d = refl

conflict-first : (p : Purpose) (t : AccessTable) (d : FileId) (rest : List Cause) → is_barred_to p t d ≡ true
    → first_of (conflict_causes p t d ++ rest) ≡ Some Conflict
conflict-first purpose.Look t d rest h = absurd (cc)
conflict-first purpose.Change t d rest h = take-true (is_held_in (bars mode.Write) t d) _ _ h

conflict-passed : (p : Purpose) (t : AccessTable) (d : FileId) (rest : List Cause) → is_barred_to p t d ≡ false
    → first_of (conflict_causes p t d ++ rest) ≡ first_of rest
conflict-passed purpose.Look t d rest h = refl
conflict-passed purpose.Change t d rest h = drop-false (is_held_in (bars mode.Write) t d) _ _ h

-- what a header says of its file
pub same-attr : (f : File) (attr : Attr) → attr ≡ attr_of f → f.attr ≡ attr.attr
same-attr f attr is = ap (λ (a : Attr). a.attr) (sym is)

pub same-ident : (f : File) (attr : Attr) → attr ≡ attr_of f → f.ident ≡ attr.ident
same-ident f attr is = ap (λ (a : Attr). a.ident) (sym is)

module _ (p : Purpose) (t : AccessTable) (caller : Uic) (d : FileId) (home : HomeFields) (old : Disk) where
  abbrev s0 : Store
  s0 = store_of old.image home

  abbrev f : File
  f = file_named s0 d

  abbrev causes : List Cause
  causes = opening_causes p t s0 caller d

  pub open-system : d.number < 4 → FailsToRead false causes 1 SystemFile old old
  open-system low = fails-early SystemFile refl refl (λ _. take-true (nat_lt d.number 4) _ _ (lt-ltb d.number 4 low))

  module _ (late : 4 ≤ d.number) where
    judged : first_of causes
        ≡ (if is_missing s0 d then Some NoSuchFile
        else (if is_marked f then Some Marked
        else (if lacks (right_for p) caller f then Some NoPrivilege else first_of
        (conflict_causes p t d ++ ((NotDirectory ⇐ not (is_directory f)) ∷ [])))))
    judged = drop-false (nat_lt d.number 4) _ _ (le-ltb d.number 4 late)

    among-opening : (e : Refusal) → is_among (file_causes s0 d) e ≡ true → is_among causes e ≡ true
    among-opening NoSuchFile h = refl
    among-opening _ h = absurd (cc)

    first-opening : (e : Refusal) (b : Bool) → is_missing s0 d ≡ b → (if b then Some NoSuchFile else None) ≡ Some e
        → first_of causes ≡ Some e
    first-opening e true missing h = judged ∙ take-true (is_missing s0 d) _ _ missing ∙ h
    first-opening e false missing h = absurd (cc)

    pub open-unread : {failed : Bool} {new : Disk} (e : Refusal) → failed ≡ false → FailsToRead failed (file_causes s0 d) 1 e old new
        → FailsToRead false causes 1 e old new
    open-unread {new = new} e alive fails =
        fails-more (among-opening e) (λ h. first-opening e (is_missing s0 d) refl h)
        (subst (λ (b : Bool). FailsToRead b (file_causes s0 d) 1 e old new) alive fails)

    module _ (attr : Attr) (new : Disk) (read : ReadsAttr home d attr old new) where
      there : IsTrue old.honest → is_missing s0 d ≡ false
      there honest = found (is_missing s0 d) (read.no_cause honest)

      past-file : (b : Bool) → (bit_at attr.characteristics 15 == 1) ≡ b → IsTrue old.honest
          → first_of causes ≡ (if b then Some Marked
          else (if lacks (right_for p) caller f then Some NoPrivilege else first_of
          (conflict_causes p t d ++ ((NotDirectory ⇐ not (is_directory f)) ∷ []))))
      past-file b is honest = judged ∙ drop-false (is_missing s0 d) _ _ (there honest)
          ∙ ap (λ (x : Bool). if x then Some Marked
          else (if lacks (right_for p) caller f then Some NoPrivilege else first_of
          (conflict_causes p t d ++ ((NotDirectory ⇐ not (is_directory f)) ∷ []))))
          (marks-read s0 d attr (read.attr_is honest) ∙ is)

      pub open-marked : (bit_at attr.characteristics 15 == 1) ≡ true → FailsToRead false causes 1 Marked old new
      open-marked marked = fails-clean Marked refl refl (past-file true marked) read.reads

      module _ (unmarked : (bit_at attr.characteristics 15 == 1) ≡ false) where
        lacking : IsTrue old.honest → lacks (right_for p) caller f ≡ lacks_for_purpose p caller attr.owner attr.protection
        lacking honest = ap (λ (a : Attr). lacks_for_purpose p caller a.owner a.protection) (sym (read.attr_is honest))

        pub open-unprivileged : lacks_for_purpose p caller attr.owner attr.protection ≡ true
            → FailsToRead false causes 1 NoPrivilege old new
        open-unprivileged lack =
            fails-clean NoPrivilege refl refl
            (λ honest. past-file false unmarked honest ∙ take-true (lacks (right_for p) caller f) _ _ (lacking honest ∙ lack))
            read.reads

        module _ (granted : lacks_for_purpose p caller attr.owner attr.protection ≡ false) where
          pub open-barred : is_barred_to p t d ≡ true → FailsToRead false causes 1 Conflict old new
          open-barred barred =
              fails-clean Conflict refl (conflict-among p t s0 caller d barred)
              (λ honest. past-file false unmarked honest ∙ drop-false (lacks (right_for p) caller f) _ _ (lacking honest ∙ granted)
              ∙ conflict-first p t d _ barred) read.reads

          module _ (unbarred : is_barred_to p t d ≡ false) where
            past-access : (b : Bool) → IsTrue old.honest → b ≡ is_directory f
                → first_of causes ≡ (if not b then Some NotDirectory else None)
            past-access b honest is =
                past-file false unmarked honest ∙ drop-false (lacks (right_for p) caller f) _ _ (lacking honest ∙ granted)
                ∙ conflict-passed p t d _ unbarred
                ∙ ap (λ (x : Bool). if not x then Some NotDirectory else None) (sym is)

            judged-as : {b : Bool} → ((h : File) → h.ident ≡ attr.ident → h.attr ≡ attr.attr → b ≡ is_directory h) → IsTrue old.honest
                → b ≡ is_directory f
            judged-as is honest = is f (same-ident f attr (read.attr_is honest)) (same-attr f attr (read.attr_is honest))

            pub open-other : (b : Bool) → b ≡ false → ((h : File) → h.ident ≡ attr.ident → h.attr ≡ attr.attr → b ≡ is_directory h)
                → FailsToRead false causes 1 NotDirectory old new
            open-other b other is =
                fails-clean NotDirectory refl (directory-among p t s0 caller d)
                (λ honest. past-access false honest (sym other ∙ judged-as is honest)) read.reads

            pub opened : (b : Bool) → b ≡ true → ((h : File) → h.ident ≡ attr.ident → h.attr ≡ attr.attr → b ≡ is_directory h)
                → OpensDirectory p t caller d attr home old new
            opened b one is =
                record {
                  no_cause = λ honest. past-access true honest (sym one ∙ judged-as is honest);
                  attr_is = read.attr_is;
                  own = late;
                  reads = read.reads;
                }

-- a header is read at least
pub first-read : (f : File) → 1 ≤ look_cost f
first-read f = omega arith

-- a part that fails the volume, behind a look
pub fails-behind : {old mid new : Disk} {m n : ℕ} {e : Refusal} (causes : List Cause) → ReadsAtMost m old mid 0
    → FailsToRead false [] n e mid new → FailsToRead false causes (m + n) e old new
fails-behind {old = old} {mid = mid} {e = e} causes reads fails = record {
  right = record {
    volume = fails.right.volume;
    among = λ cause. absurd (let no : false ≡ true = fails.right.among cause in cc);
    cause = λ _ cause. absurd (let no : false ≡ true = fails.right.among cause in cc);
    undamaged = λ honest. fails.right.undamaged (reads.looked.honest ∙ honest);
  };
  reads = reads-more reads fails.reads;
}

-- fewer than may be
pub fails-within : {old new : Disk} {m n : ℕ} {e : Refusal} {causes : List Cause} → m ≤ n → FailsToRead false causes m e old new
    → FailsToRead false causes n e old new
fails-within fewer fails = record { right = fails.right; reads = reads-within fewer fails.reads }

module _ (p : Purpose) (t : AccessTable) (caller : Uic) (d : FileId) (name : List ℕ) (home : HomeFields) {old mid : Disk} (attr : Attr)
    (opens : OpensDirectory p t caller d attr home old mid) where
  abbrev g : File
  g = file_named (store_of old.image home) d

  -- the directory is as it was
  pub search-same : store_of mid.image home ≡ store_of old.image home
  search-same = ap (λ i. store_of i home) opens.reads.looked.image

  -- its length wasn't counted
  pub search-uncounted : {next : Disk} {e : Refusal}
      → FailsToRead false [] (header_count (file_named (store_of mid.image home) d)) e mid next
      → FailsToRead false (opening_causes p t (store_of old.image home) caller d) (look_cost g) e old next
  search-uncounted {next = next} {e = e} fails =
      fails-within (omega arith)
      (fails-behind (opening_causes p t (store_of old.image home) caller d) opens.reads
      (subst (λ (s : Store). FailsToRead false [] (header_count (file_named s d)) e mid next) search-same fails))

  search-there : IsTrue old.honest → is_missing (store_of old.image home) d ≡ false
  search-there honest = opened-there p t (store_of old.image home) caller d opens.own (opens.no_cause honest)

  -- its header can be read again
  pub search-files : IsTrue mid.honest → first_of (file_causes (store_of mid.image home) d) ≡ None
  search-files sure =
      drop-false (is_missing (store_of mid.image home) d) (Some NoSuchFile) None
      (subst (λ (s : Store). is_missing s d ≡ false) (sym search-same) (search-there (sym opens.reads.looked.honest ∙ sure)))

  module _ {after : Disk} (length count : ℕ) (counts : CountsBlocks home d length mid after)
      (count-is : (h : File) → h.attr ≡ attr.attr → length_of h ≡ length → count ≡ entry_count h)
    where
      search-length : IsTrue old.honest → length ≡ length_of g
      search-length honest =
          counts.length_is (opens.reads.looked.honest ∙ honest) ∙ ap (λ (s : Store). length_of (file_named s d)) search-same

      search-count : IsTrue old.honest → count ≡ entry_count g
      search-count honest = count-is g (same-attr g attr (opens.attr_is honest)) (sym (search-length honest))

      -- both reads so far
      search-reads : ReadsAtMost (1 + header_count g) old after 0
      search-reads =
          reads-more opens.reads (subst (λ (s : Store). ReadsAtMost (header_count (file_named s d)) mid after 0) search-same counts.reads)

      search-after : store_of after.image home ≡ store_of old.image home
      search-after = ap (λ i. store_of i home) search-reads.looked.image

      -- it is a directory of so many records
      pub search-directory : IsTrue after.honest → IsDirectoryOf count (store_of after.image home) d
      search-directory sure =
          let honest : IsTrue old.honest = sym search-reads.looked.honest ∙ sure in
          subst (λ (s : Store). IsDirectoryOf count s d) (sym search-after)
          (record { there = search-there honest; count_is = sym (search-count honest) })

      enough : IsTrue old.honest → 1 + header_count g + reading_cost g count ≤ look_cost g
      enough honest = rw (search-count honest) (omega arith)

      -- the records weren't all read
      pub search-unread : {next : Disk} {e : Refusal}
          → FailsToRead false [] (reading_cost (file_named (store_of after.image home) d) count) e after next
          → FailsToRead false (opening_causes p t (store_of old.image home) caller d) (look_cost g) e old next
      search-unread {next = next} {e = e} fails =
          let behind = fails-behind (opening_causes p t (store_of old.image home) caller d) search-reads
          (subst (λ (s : Store). FailsToRead false [] (reading_cost (file_named s d) count) e after next) search-after fails) in
          record { right = behind.right; reads = within-when enough behind.reads }

      pub searched : {next : Disk} (found : Search) → found.attr ≡ attr → found.length ≡ length → found.count ≡ count
          → LooksThroughDirectory home d name found.looked found.last (reading_cost (file_named (store_of after.image home) d) count) after
          next → Searches p t caller d name found home old next
      searched {next = next} found attr-is length-is count-was looks = record {
        no_cause = opens.no_cause;
        attr_is = λ honest. attr-is ∙ opens.attr_is honest;
        length_is = λ honest. length-is ∙ search-length honest;
        count_is = λ honest. count-was ∙ search-count honest;
        tells = λ honest. subst (λ (s : Store). Tells name (file_named s d) found.looked) search-after
            (looks.tells (search-reads.looked.honest ∙ honest));
        last_is = λ honest. subst (λ (s : Store). IsLastBlock (file_named s d) found.looked found.last) search-after
            (looks.last_is (search-reads.looked.honest ∙ honest));
        own = opens.own;
        reads = within-when enough
            (reads-more search-reads
            (subst (λ (s : Store). ReadsAtMost (reading_cost (file_named s d) count) after next 0) search-after looks.reads));
      }
