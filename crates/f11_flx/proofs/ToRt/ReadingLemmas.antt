-- A file that is locked, read and given up, by the plain store.
use Rattle.std.proofs.Common.{◌≡◌, ◌⊎◌, inl, inr, ℕ, zero, suc, ◌+◌, ◌/◌, ◌<◌, ◌≤◌, ◌==◌, ◌&&◌, Bool, true, false, not, nat_lt, is_some}
use Rattle.std.proofs.Common.{is_none, if◌then◌else◌, List, [], ◌∷◌, ◌++◌, length, take, drop, Option, Some, None, refl, sym, ap, ◌∙◌}
use Rattle.std.proofs.Common.{subst, arith, length-take}
use Rattle.std.specs.Prelude.{slice_index_or}
use Rattle.std.proofs.lemmas.Bool.{eq-eqb, eqb-true, and_from, and_parts, le-ltb, ltb-false, ne_eqb}
use Rattle.f11_store.specs.Causes.{Cause, causes_of, first_of, first_refusal, holds_none, is_bad, is_missing}
use Rattle.f11_store.specs.Changes.{after_giving_up, is_due, with_access, without_file_at}
use Rattle.f11_store.specs.File.{File, end_of, is_marked, length_of}
use Rattle.f11_store.specs.Step.{MayRefuse, attributes_of, block_at}
use Rattle.f11_store.specs.Store.{Access, Store, file_held, file_named, id_in, is_accessed}
use Rattle.f11_store.specs.declared.files.Attr.{Attr}
use Rattle.f11_store.specs.declared.files.FileId.{FileId}
use Rattle.f11_store.specs.declared.files.Mode.TheVariants as mode
use Rattle.f11_store.specs.declared.refusals.Refusal.{Refusal}
use Rattle.f11_store.specs.declared.requests.Reply.TheVariants as reply
use Rattle.f11_store.specs.declared.requests.Request.TheVariants as request
use Rattle.f11_store.proofs.StoreLemmas.{none_first, none_rest}
use Rattle.f11_making.specs.Asking.{BreaksOffAsking, Denies, Granted, Grants, Who, asks, counts, plain, reads, reads_of, told}
use Rattle.f11_flx.specs.CopyToRt.{reading, reading_of, walked_of}
use Rattle.f11_flx.specs.CopyLaws.{AccessAloneIsRefused, IsNotAccessed, IsFileReading, ReadingIsOfFile, RefusedSourceStays, SourceStays}
use Rattle.f11_flx.specs.Spelled.{image_of}
use Rattle.f11_flx.specs.declared.mode.CopyMode.{CopyMode}
use Rattle.f11_flx.specs.declared.mode.CopyMode.TheVariants.{Image, Text}
use Rattle.f11_flx.specs.declared.refusal.FlxRefusal.TheVariants as refusal
use Rattle.f11_making.proofs.AskingLemmas.{breaks-parts, granted-parts}

-- The source may be accessed by the lun.
pub record IsFree (s : Store) (task lun : ℕ) (source : FileId) : Type 0 where
  pub free : s.access task lun ≡ None
  pub good : is_bad source ≡ false
  pub own : nat_lt source.number 4 ≡ false
  pub there : is_missing s source ≡ false
  pub unmarked : is_marked (file_named s source) ≡ false

none-of : {A : Type 0} (o : Option A) → is_some o ≡ false → o ≡ None
none-of None h = refl
none-of (Some x) h = absurd (cc)

-- none of these causes holds
abbrev pub HoldNone : List Cause → Type 0
HoldNone [] = Unit {0}
HoldNone (c ∷ cs) = (c.holds ≡ false) × HoldNone cs

pub causes-none : (cs : List Cause) → first_of cs ≡ None → HoldNone cs
causes-none [] h = tt
causes-none (c ∷ cs) h = (none_first c.holds c.refusal (first_of cs) h, causes-none cs (none_rest c.holds c.refusal (first_of cs) h))

pub none-first : (cs : List Cause) → HoldNone cs → first_of cs ≡ None
none-first [] h = refl
none-first (c ∷ cs) h = ap (λ b. if b then Some c.refusal else first_of cs) h.0 ∙ none-first cs h.1

module _ (who : Who) (lun : ℕ) (source : FileId) (s : Store) where
  abbrev pub access : Access
  access = record { file = source; mode = mode.Locked }

  -- the store with the access
  abbrev pub held : Store
  held = with_access s who.task lun (Some access)

  abbrev pub file : File
  file = file_named s source

  pub accessed : (s1 : Store) → Grants plain who (asks (request.Access source mode.Locked lun)) s s1
      → IsFree s who.task lun source × (s1 ≡ held)
  accessed s1 g =
      let n = causes-none (causes_of s who.task who.caller (request.Access source mode.Locked lun)) g.3.no_cause in (
        record { free = none-of (s.access who.task lun) n.1.0; good = n.0; own = n.1.1.0; there = n.1.1.1.0; unmarked = n.1.1.1.1.0 },
        g.3.changes,
      )

  here : ((who.task == who.task) && (lun == lun)) ≡ true
  here = and_from (who.task == who.task) (lun == lun) (eq-eqb who.task who.task refl) (eq-eqb lun lun refl)

  holds : held.access who.task lun ≡ Some access
  holds = ap (λ (b : Bool). if b then Some access else s.access who.task lun) here

  held-file : file_held held who.task lun ≡ file
  held-file = ap (λ (o : Option Access). file_named held (id_in o)) holds

  pub told-is : (of : Attr) (s2 : Store) → Grants plain who (told (request.ReadAttr source) (reply.Attr of)) held s2
      → (of ≡ attributes_of file) × (s2 ≡ held)
  told-is of s2 g = (let same : reply.Attr of ≡ reply.Attr (attributes_of file) = g.2.reply_is in cc, g.2.changes)

  pub counted : (n : ℕ) (s2 : Store) → Grants plain who (counts lun n) held s2 → (n ≡ length_of file) × (s2 ≡ held)
  counted n s2 g = (g.1 ∙ ap length_of held-file, g.2)

  -- a block that is read
  read-is : (vbn : ℕ) (b : List ℕ) (s2 : Store) → Grants plain who (reads lun vbn b) held s2
      → (b ≡ block_at file vbn) × (nat_lt (length_of file) vbn ≡ false) × (s2 ≡ held)
  read-is vbn b s2 g =
      let n = causes-none (causes_of held who.task who.caller (request.ReadBlock lun vbn)) g.2.no_cause in
      let within = n.1.1.0 in (
        g.2.block_is ∙ ap (λ (f : File). block_at f vbn) held-file,
        subst (λ (f : File). nat_lt (length_of f) vbn ≡ false) held-file within,
        g.2.changes,
      )

  not-below : (n k : ℕ) → nat_lt n (suc k) ≡ false → k < n
  not-below n k h = omega (arith, ltb-false n (suc k) h)

  drop-at : (k : ℕ) (xs : List (List ℕ)) → k < length xs → drop k xs ≡ slice_index_or xs k [] ∷ drop (suc k) xs
  drop-at k [] less = absurd (omega (arith, less))
  drop-at zero (x ∷ xs) less = refl
  drop-at (suc k) (x ∷ xs) less = drop-at k xs (omega (arith, less))

  pub reads-are : (k : ℕ) (blocks : List (List ℕ)) (s2 : Store) → Granted plain who (reads_of lun k blocks) held s2 →
      (blocks ≡ take (length blocks) (drop k file.blocks)) × (s2 ≡ held)
  reads-are k [] s2 g = (refl, g)
  reads-are k (b ∷ more) s2 g =
      let one = read-is (suc k) b g.0 g.1 in
      let rest = reads-are (suc k) more s2 (subst (λ x. Granted plain who (reads_of lun (suc k) more) x s2) one.2 g.2) in
      let less : k < length file.blocks = not-below (length file.blocks) k one.1 in
      let first : b ≡ slice_index_or file.blocks k [] = one.0 ∙ ap (λ n. slice_index_or file.blocks n []) (omega arith) in (
        ap (λ (x : List ℕ). x ∷ more) first ∙ ap (λ (l : List (List ℕ)). slice_index_or file.blocks k [] ∷ l) rest.0
            ∙ ap (take (suc (length more))) (sym (drop-at k file.blocks less)),
        rest.1,
      )

  pub given-up : IsFree s who.task lun source → (s2 : Store) → Grants plain who (asks (request.Deaccess lun)) held s2 → s2 ≡ s
  given-up is s2 g =
      let u = with_access held who.task lun None in
      let due : is_due u source ≡ false = ap (λ (b : Bool). b && not (is_accessed u source)) is.unmarked in
      g.3.changes ∙ ap (after_giving_up held who.task lun) holds ∙ ap (λ (b : Bool). if b then without_file_at u source.number else u) due
      ∙ (λ i. record s { access = λ t l. back t l i })
    where
      back : (t l : ℕ) → (with_access held who.task lun None).access t l ≡ s.access t l
      back t l = by ((t == who.task) && (l == lun)) refl
        where
          by : (b : Bool) → ((t == who.task) && (l == lun)) ≡ b
              → (if b then None else (if b then Some access else s.access t l)) ≡ s.access t l
          by true e =
              let both = and_parts (t == who.task) (l == lun) e in
              sym (ap (λ n. s.access n l) (eqb-true t who.task both.0) ∙ ap (s.access who.task) (eqb-true l lun both.1) ∙ is.free)
          by false e = refl

  -- nothing is refused to who has it locked
  some-held : holds_none held who.task lun ≡ false
  some-held = ap (λ (o : Option Access). is_none o) holds

  pub told-denied : IsFree s who.task lun source → (e : Refusal) (of : Attr) (s2 : Store)
      → Denies plain who (told (request.ReadAttr source) (reply.Attr of)) e held s2 → ⊥
  told-denied is e of s2 d =
      subst (λ (o : Option Refusal). MayRefuse o false false e)
      (none-first (causes_of held who.task who.caller (request.ReadAttr source)) (is.good, (is.there, tt))) d.2.may_refuse

  pub count-denied : (e : Refusal) (n : ℕ) (s2 : Store) → Denies plain who (counts lun n) e held s2 → ⊥
  count-denied e n s2 d = let none = d.0 in let some = some-held in absurd (cc)

  read-denied : (e : Refusal) (k : ℕ) (b : List ℕ) (s2 : Store) → k < length_of file → Denies plain who (reads lun (suc k) b) e held s2 → ⊥
  read-denied e k b s2 less d =
      let within : nat_lt (length_of (file_held held who.task lun)) (suc k) ≡ false =
      subst (λ (f : File). nat_lt (length_of f) (suc k) ≡ false) (sym held-file) (le-ltb (length_of file) (suc k) (omega (arith, less))) in
      subst (λ (o : Option Refusal). MayRefuse o false false e)
      (none-first (causes_of held who.task who.caller (request.ReadBlock lun (suc k)))
      (ne_eqb (suc k) 0 (λ h. omega (arith, h)), (some-held, (within, tt)))) d.2.may_refuse

  pub giving-denied : (e : Refusal) (s2 : Store) → Denies plain who (asks (request.Deaccess lun)) e held s2 → ⊥
  giving-denied e s2 d =
      subst (λ (o : Option Refusal). MayRefuse o false false e)
      (none-first (causes_of held who.task who.caller (request.Deaccess lun)) (some-held, tt)) d.2.may_refuse

  pub reads-denied : (k : ℕ) (blocks : List (List ℕ)) (e : Refusal) (s2 : Store) → k + length blocks ≤ length_of file
      → BreaksOffAsking plain who (reads_of lun k blocks) e held s2 → ⊥
  reads-denied k [] e s2 few d = d
  reads-denied k (b ∷ more) e s2 few (inl d) = read-denied e k b s2 (omega (arith, few)) d
  reads-denied k (b ∷ more) e s2 few (inr d) =
      reads-denied (suc k) more e s2 (omega (arith, few))
      (subst (λ x. BreaksOffAsking plain who (reads_of lun (suc k) more) e x s2) (read-is (suc k) b d.0 d.1).2 d.2)

  -- what is told of a file that is locked, and that it is given up then
  pub held-reading : (of : Attr) (n : ℕ) (walked copied : List (List ℕ)) (s' : Store) → IsFree s who.task lun source →
      Granted plain who (told (request.ReadAttr source) (reply.Attr of) ∷ counts lun n ∷
      (reads_of lun 0 walked ++ (reads_of lun 0 copied ++ asks (request.Deaccess lun) ∷ []))) held s' →
      IsFileReading source of n walked copied s s'
  held-reading of n walked copied s' free g =
      let told = told-is of g.0 g.1 in
      let g1 = subst (λ x. Granted plain who
      (counts lun n ∷ (reads_of lun 0 walked ++ (reads_of lun 0 copied ++ asks (request.Deaccess lun) ∷ []))) x s') told.1 g.2 in
      let size = counted n g1.0 g1.1 in
      let g2 = subst (λ x. Granted plain who (reads_of lun 0 walked ++ (reads_of lun 0 copied ++ asks (request.Deaccess lun) ∷ [])) x s')
      size.1 g1.2 in
      let p = granted-parts plain who (reads_of lun 0 walked) (reads_of lun 0 copied ++ asks (request.Deaccess lun) ∷ []) held s' g2 in
      let first = reads-are 0 walked p.0 p.1 in
      let q = granted-parts plain who (reads_of lun 0 copied) (asks (request.Deaccess lun) ∷ []) held s'
      (subst (λ x. Granted plain who (reads_of lun 0 copied ++ asks (request.Deaccess lun) ∷ []) x s') first.1 p.2) in
      let behind = reads-are 0 copied q.0 q.1 in
      let last = subst (λ x. Granted plain who (asks (request.Deaccess lun) ∷ []) x s') behind.1 q.2 in
      record {
        stays = last.2 ∙ given-up free last.0 last.1;
        of_is = told.0;
        blocks_are = size.0;
        walked_are = first.0;
        copied_are = behind.0;
      }

  -- and nothing of it is denied
  pub held-denied : (of : Attr) (n : ℕ) (walked copied : List (List ℕ)) (e : Refusal) (s' : Store) → IsFree s who.task lun source →
      length walked ≤ length_of file → length copied ≤ length_of file →
      BreaksOffAsking plain who
      (told (request.ReadAttr source) (reply.Attr of) ∷ counts lun n ∷
      (reads_of lun 0 walked ++ (reads_of lun 0 copied ++ asks (request.Deaccess lun) ∷ []))) e held s' → ⊥
  held-denied of n walked copied e s' free few less (inl d) = told-denied free e of s' d
  held-denied of n walked copied e s' free few less (inr g) =
      behind-told (subst (λ x.
      BreaksOffAsking plain who (counts lun n ∷ (reads_of lun 0 walked ++ (reads_of lun 0 copied ++ asks (request.Deaccess lun) ∷ []))) e x
      s') (told-is of g.0 g.1).1 g.2)
    where
      giving : BreaksOffAsking plain who (asks (request.Deaccess lun) ∷ []) e held s' → ⊥
      giving (inl d) = giving-denied e s' d
      giving (inr d) = d.2

      copying : ((BreaksOffAsking plain who (reads_of lun 0 copied) e held s')
          ⊎ ((w : Store) × (Granted plain who (reads_of lun 0 copied) held w)
          × (BreaksOffAsking plain who (asks (request.Deaccess lun) ∷ []) e w s'))) → ⊥
      copying (inl d) = reads-denied 0 copied e s' (omega (arith, less)) d
      copying (inr d) =
          giving (subst (λ x. BreaksOffAsking plain who (asks (request.Deaccess lun) ∷ []) e x s') (reads-are 0 copied d.0 d.1).1 d.2)

      walking : ((BreaksOffAsking plain who (reads_of lun 0 walked) e held s')
          ⊎ ((w : Store) × (Granted plain who (reads_of lun 0 walked) held w)
          × (BreaksOffAsking plain who (reads_of lun 0 copied ++ asks (request.Deaccess lun) ∷ []) e w s'))) → ⊥
      walking (inl d) = reads-denied 0 walked e s' (omega (arith, few)) d
      walking (inr d) =
          copying (breaks-parts plain who (reads_of lun 0 copied) (asks (request.Deaccess lun) ∷ []) e held s'
          (subst (λ x. BreaksOffAsking plain who (reads_of lun 0 copied ++ asks (request.Deaccess lun) ∷ []) e x s')
          (reads-are 0 walked d.0 d.1).1 d.2))

      behind-told : BreaksOffAsking plain who
          (counts lun n ∷ (reads_of lun 0 walked ++ (reads_of lun 0 copied ++ asks (request.Deaccess lun) ∷ []))) e held s' → ⊥
      behind-told (inl d) = count-denied e n s' d
      behind-told (inr d) =
          walking (breaks-parts plain who (reads_of lun 0 walked) (reads_of lun 0 copied ++ asks (request.Deaccess lun) ∷ []) e held s'
          (subst (λ x. BreaksOffAsking plain who (reads_of lun 0 walked ++ (reads_of lun 0 copied ++ asks (request.Deaccess lun) ∷ [])) e x
          s') (counted n d.0 d.1).1 d.2))

  -- the access itself is refused for a cause
  pub access-denied : (e : Refusal) (s' : Store) → Denies plain who (asks (request.Access source mode.Locked lun)) e s s'
      → IsNotAccessed who lun source e s s'
  access-denied e s' d =
      record {
        stays = d.2.store_stays;
        cause = of-cause (first_refusal s who.task who.caller (request.Access source mode.Locked lun))
            d.2.may_refuse;
      }
    where
      of-cause : (o : Option Refusal) → MayRefuse o false false e → o ≡ Some e
      of-cause None h = absurd h
      of-cause (Some first) h = ap Some (sym h)

  pub reading-of-file : (of : Attr) (n : ℕ) (walked copied : List (List ℕ)) (s' : Store)
      → Granted plain who (reading source lun of n walked copied) s s' → IsFileReading source of n walked copied s s'
  reading-of-file of n walked copied s' g =
      let a = accessed g.0 g.1 in
      held-reading of n walked copied s' a.0
      (subst (λ x. Granted plain who
      (told (request.ReadAttr source) (reply.Attr of) ∷ counts lun n ∷
      (reads_of lun 0 walked ++ (reads_of lun 0 copied ++ asks (request.Deaccess lun) ∷ []))) x s') a.1 g.2)

  pub few-image : length (image_of file) ≤ length_of file
  few-image = omega (arith, length-take {A = List ℕ} ((end_of file + 511) / 512) file.blocks)

  few-walked : (m : CopyMode) → length (walked_of m file) ≤ length_of file
  few-walked Image = omega arith
  few-walked Text = few-image

  pub access-alone : (m : CopyMode) (e : Refusal) (s' : Store) → BreaksOffAsking plain who (reading_of m source lun file) e s s'
      → IsNotAccessed who lun source e s s'
  access-alone m e s' (inl d) = access-denied e s' d
  access-alone m e s' (inr g) =
      let a = accessed g.0 g.1 in
      absurd (held-denied (attributes_of file) (length_of file) (walked_of m file) (image_of file) e s' a.0 (few-walked m) few-image
      (subst (λ x. BreaksOffAsking plain who
      (told (request.ReadAttr source) (reply.Attr (attributes_of file)) ∷ counts lun (length_of file) ∷
      (reads_of lun 0 (walked_of m file) ++ (reads_of lun 0 (image_of file) ++ asks (request.Deaccess lun) ∷ []))) e x s') a.1 g.2))

pub reading_is_of_file : ReadingIsOfFile
reading_is_of_file who lun source of n walked copied s s' g = reading-of-file who lun source s of n walked copied s' g

pub access_alone_is_refused : AccessAloneIsRefused
access_alone_is_refused m who lun source e s s' b = access-alone who lun source s m e s' b

pub source_stays : SourceStays
source_stays m who lun source name day blocks s s' t t' c =
    (reading_is_of_file who lun source (attributes_of (file_named s source)) (length_of (file_named s source))
    (walked_of m (file_named s source)) (image_of (file_named s source)) s s' c.asked).stays

pub refused_source_stays : RefusedSourceStays
refused_source_stays (refusal.Files e) m who lun source name s s' disk h = (access_alone_is_refused m who lun source e s s' h).stays
refused_source_stays (refusal.Rt e) m who lun source name s s' disk h =
    (reading_is_of_file who lun source (attributes_of (file_named s source)) (length_of (file_named s source)) h.0.walked [] s s'
    h.0.asked).stays
refused_source_stays refusal.BadRecord m who lun source name s s' disk h =
    (reading_is_of_file who lun source (attributes_of (file_named s source)) (length_of (file_named s source)) h.0.walked [] s s'
    h.0.asked).stays
refused_source_stays refusal.LineTooLong m who lun source name s s' disk h = absurd h
refused_source_stays refusal.Unread m who lun source name s s' disk h = absurd h
