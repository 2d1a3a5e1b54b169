-- A file that is made, as far as it has come, over the plain store.
use Rattle.std.proofs.Common.{◌≡◌, inl, inr, ℕ, ◌-◌, ◌≤◌, ◌==◌, ◌&&◌, not, Bool, true, false, if◌then◌else◌, List, [], ◌++◌}
use Rattle.std.proofs.Common.{Ok, Option, Some, None, is_some, option_map, refl, sym, ap, ◌∙◌, subst, arith}
use Rattle.std.specs.Int.{bit_at}
use Rattle.std.specs.Prelude.{slice_set, unwrap_or}
use Rattle.std.proofs.lemmas.Bool.{and_parts, eqb-true}
use Rattle.f11_store.specs.Causes.{is_bad}
use Rattle.f11_store.specs.Changes.{Lengthens, LaysOut, after_giving_up, file_created, grown_file, is_due, laid_file, with_access}
use Rattle.f11_store.specs.Changes.{with_block}
use Rattle.f11_store.specs.Changes.{with_change, with_replacement, without_file_at}
use Rattle.f11_store.specs.File.{File, is_marked, need, no_file, with_contiguous, without_contiguous, zero_blocks}
use Rattle.f11_store.specs.Headroom.{slots_first}
use Rattle.f11_store.specs.SlotsFirst.{IsReady}
use Rattle.f11_store.specs.Step.{next_id}
use Rattle.f11_store.specs.Store.{Access, Store, file_named, id_held, id_in, is_accessed, least_free}
use Rattle.f11_store.specs.declared.files.Change.TheVariants as change
use Rattle.f11_store.specs.declared.files.FileId.{FileId}
use Rattle.f11_store.specs.declared.files.Mode.TheVariants as mode
use Rattle.f11_store.specs.declared.refusals.Refusal.TheVariants.{BadArgument, LunInUse}
use Rattle.f11_store.specs.declared.requests.Reply.{Reply}
use Rattle.f11_store.specs.declared.requests.Reply.TheVariants as reply
use Rattle.f11_store.specs.declared.requests.Request.TheVariants as request
use Rattle.f11_store.proofs.FileLaws.{least_free_is_free, made_id}
use Rattle.f11_store.proofs.SlotsFirst.{gained-is-ready}
use Rattle.f11_store.proofs.StoreLemmas.{none_first, none_rest, same_number}
use Rattle.f11_runs.proofs.AccessLemmas.{there-file, true-false}
use Rattle.f11_making.specs.Asking.{Grants, Who, asks, plain}
use Rattle.f11_making.specs.Asking.{writes as writes_block}
use Rattle.f11_making.specs.FilesPlan.{AsksFile, file_in, for_user}
use Rattle.f11_making.proofs.GainedLemmas.{not-index}
use Rattle.f11_copying.specs.Copies.{without_end}
use Rattle.f11_copying.specs.Made.{HasMark}
use Rattle.f11_copying.specs.declared.file.FileToMake.{FileToMake}

cleared : (in_one_run : Bool) (word : ℕ) → HasMark in_one_run word → without_contiguous word ≡ 0
cleared in_one_run word (inl none) = ap without_contiguous none
cleared in_one_run word (inr set) = ap without_contiguous set.1

set-mark : (in_one_run : Bool) (word : ℕ) → HasMark in_one_run word → with_contiguous word ≡ 128
set-mark in_one_run word (inl none) = ap with_contiguous none
set-mark in_one_run word (inr set) = ap with_contiguous set.1

unmarked : (in_one_run : Bool) (word : ℕ) → HasMark in_one_run word → (bit_at word 15 == 1) ≡ false
unmarked in_one_run word (inl none) = ap (λ n. bit_at n 15 == 1) none
unmarked in_one_run word (inr set) = ap (λ n. bit_at n 15 == 1) set.1

-- So far a store is s with one file more: that is to be made, has these blocks and attributes, and no mark but the contiguous one, where it
-- is to lie in one run; and accesses are these.
pub record IsSuch (file : FileToMake) (id : FileId) (attr : List ℕ) (blocks : List (List ℕ)) (accesses : ℕ → ℕ → Option Access)
    (s t : Store) : Type 0
  where
    pub now : File
    pub there : t.file id.number ≡ Some now
    pub sequence : now.sequence ≡ id.sequence
    pub mark : HasMark file.in_one_run now.characteristics
    pub owner : now.owner ≡ file.owner
    pub ident : now.ident ≡ file.ident
    pub attr_is : now.attr ≡ attr
    pub blocks_are : now.blocks ≡ blocks
    pub unused : s.in_use id.number ≡ false
    pub low : 6 ≤ id.number
    pub volume : id.volume ≡ 0
    pub others : (n : ℕ) → (n == id.number) ≡ false → (n == 1) ≡ false → t.file n ≡ s.file n
    pub access : (task lun : ℕ) → t.access task lun ≡ accesses task lun

-- it is created
pub such-created : (file : FileToMake) (who : Who) (id : FileId) (s t : Store)
    → AsksFile plain (for_user file.owner who) (request.Create 0 file.ident (without_end file.attr)) (Ok id) s t
    → IsSuch file id (without_end file.attr) [] s.access s t
such-created file who id s t h =
    let step = h.2.2 in
    let made = step.changes in
    let r : Store = made.ready in
    let ready : IsReady s (slots_first s 1) r = gained-is-ready s r 1 made.gains in
    let free = least_free_is_free r made.enough in
    let new : File = file_created r (least_free r) file.owner 0 file.ident (without_end file.attr) in
    let is : id ≡ next_id r = named h.0 step.reply_is h.1 ∙ made_id s r (slots_first s 1) ready in
    subst (λ i. IsSuch file i (without_end file.attr) [] s.access s t) (sym is) (record {
      now = new;
      there = ap (λ (x : Store). x.file (least_free r)) made.makes
          ∙ ap (λ b. if b then Some new else r.file (least_free r)) (same_number (least_free r));
      sequence = refl;
      mark = inl refl;
      owner = refl;
      ident = refl;
      attr_is = refl;
      blocks_are = refl;
      unused = sym (ap (λ (used : ℕ → Bool). used (least_free r)) ready.in_use) ∙ free.unused;
      low = free.low;
      volume = refl;
      others = λ n apart other. ap (λ (x : Store). x.file n) made.makes ∙ ap (λ b. if b then Some new else r.file n) apart
          ∙ ready.others n other;
      access = λ task lun. ap (λ (x : Store). x.access task lun) made.makes ∙ ap (λ (a : ℕ → ℕ → Option Access). a task lun) ready.access;
    })
  where
    named : (a : Reply) → {next : FileId} → a ≡ reply.Created next
        → file_in (request.Create 0 file.ident (without_end file.attr)) a ≡ Some id → id ≡ next
    named a {next} is names = inside (sym names ∙ ap (file_in (request.Create 0 file.ident (without_end file.attr))) is)
      where
        inside : Some id ≡ Some next → id ≡ next
        inside same = cc

-- the accesses with that of a task by a lun
abbrev pub with-held : (ℕ → ℕ → Option Access) → ℕ → ℕ → Option Access → ℕ → ℕ → Option Access
with-held accesses task lun a = λ t l. if (t == task) && (l == lun) then a else accesses t l

module _ (file : FileToMake) (who : Who) (lun : ℕ) (id : FileId) (s : Store) where
  abbrev pub opened-by : ℕ → ℕ → Option Access
  opened-by = with-held s.access who.task lun (Some (record { file = id; mode = mode.Write }))

  abbrev Such : List ℕ → List (List ℕ) → (ℕ → ℕ → Option Access) → Store → Type 0
  Such attr blocks accesses t = IsSuch file id attr blocks accesses s t

  -- it becomes another, from a store in which all but it and the index file are as they were
  replaced : (attr attr' : List ℕ) (blocks blocks' : List (List ℕ)) (accesses : ℕ → ℕ → Option Access) (t u : Store)
      → (h : Such attr blocks accesses t) → (new : File) → u.file id.number ≡ Some new → new.sequence ≡ h.now.sequence
      → HasMark file.in_one_run new.characteristics → new.owner ≡ h.now.owner → new.ident ≡ h.now.ident → new.attr ≡ attr'
      → new.blocks ≡ blocks'
      → ((n : ℕ) → (n == id.number) ≡ false → (n == 1) ≡ false → u.file n ≡ t.file n) → u.access ≡ t.access
      → Such attr' blocks' accesses u
  replaced attr attr' blocks blocks' accesses t u h new there sequence mark owner ident attr-is blocks-are others access = record {
    now = new;
    there = there;
    sequence = sequence ∙ h.sequence;
    mark = mark;
    owner = owner ∙ h.owner;
    ident = ident ∙ h.ident;
    attr_is = attr-is;
    blocks_are = blocks-are;
    unused = h.unused;
    low = h.low;
    volume = h.volume;
    others = λ n apart other. others n apart other ∙ h.others n apart other;
    access = λ task l. ap (λ (a : ℕ → ℕ → Option Access). a task l) access ∙ h.access task l;
  }

  -- it is changed, and that alone
  there-changed : (t u : Store) (set : File → File) (f : File) → u ≡ with_change t id.number set → t.file id.number ≡ Some f
      → u.file id.number ≡ Some (set f)
  there-changed t u set f is there =
      ap (λ (x : Store). x.file id.number) is
      ∙ ap (λ b. if b then option_map set (t.file id.number) else t.file id.number) (same_number id.number) ∙ ap (option_map set) there

  others-changed : (t u : Store) (set : File → File) → u ≡ with_change t id.number set → (n : ℕ) → (n == id.number) ≡ false
      → u.file n ≡ t.file n
  others-changed t u set is n apart =
      ap (λ (x : Store). x.file n) is ∙ ap (λ b. if b then option_map set (t.file id.number) else t.file n) apart

  -- it is accessed to be written, by a lun that held nothing
  pub such-opened : (attr : List ℕ) (t u : Store) → Such attr [] s.access t
      → Grants plain who (asks (request.Access id mode.Write lun)) t u → Such attr [] opened-by u × (s.access who.task lun ≡ None)
  such-opened attr t u h g = (
    record {
      now = h.now;
      there = ap (λ (x : Store). x.file id.number) same ∙ h.there;
      sequence = h.sequence;
      mark = h.mark;
      owner = h.owner;
      ident = h.ident;
      attr_is = h.attr_is;
      blocks_are = h.blocks_are;
      unused = h.unused;
      low = h.low;
      volume = h.volume;
      others = λ n apart other. ap (λ (x : Store). x.file n) same ∙ h.others n apart other;
      access = λ task l. ap (λ (x : Store). x.access task l) same
          ∙ ap (λ o. if (task == who.task) && (l == lun) then Some (record { file = id; mode = mode.Write }) else o) (h.access task l);
    },
    none-held (s.access who.task lun)
        (ap (λ o. is_some o) (sym (h.access who.task lun)) ∙ none_first (is_some (t.access who.task lun)) LunInUse _
        (none_rest (is_bad id) BadArgument _ g.3.no_cause)),
  )
    where
      same : u ≡ with_access t who.task lun (Some (record { file = id; mode = mode.Write }))
      same = g.3.changes

      none-held : (o : Option Access) → is_some o ≡ false → o ≡ None
      none-held None e = refl
      none-held (Some a) e = absurd (true-false e)

  holds : (attr : List ℕ) (blocks : List (List ℕ)) (t : Store) → Such attr blocks opened-by t
      → t.access who.task lun ≡ Some (record { file = id; mode = mode.Write })
  holds attr blocks t h =
      h.access who.task lun
      ∙ ap (λ b. if b && (lun == lun) then Some (record { file = id; mode = mode.Write }) else s.access who.task lun) (same_number who.task)
      ∙ ap (λ b. if b then Some (record { file = id; mode = mode.Write }) else s.access who.task lun) (same_number lun)

  held : (attr : List ℕ) (blocks : List (List ℕ)) (t : Store) → Such attr blocks opened-by t → id_held t who.task lun ≡ id
  held attr blocks t h = ap id_in (holds attr blocks t h)

  -- it gets blocks of zeros,
  pub such-extended : (attr : List ℕ) (n : ℕ) (t u : Store) → Such attr [] opened-by t
      → Grants plain who (asks (request.Extend lun n)) t u → Such attr (zero_blocks n) opened-by u
  such-extended attr n t u h g =
      let longer : Lengthens t id n u = subst (λ (i : FileId). Lengthens t i n u) (held attr [] t h) g.3.changes in
      let r : Store = longer.ready in
      let grows = longer.makes in
      let headers : ℕ = need (file_named t id).room n in
      let ready : IsReady t (slots_first t headers) r = gained-is-ready t r headers longer.gains in
      let stays : r.file id.number ≡ t.file id.number = ready.others id.number (not-index id.number 6 (omega arith) h.low) in
      let before : Some grows.before ≡ Some h.now = sym grows.was ∙ stays ∙ h.there in
      let same : grows.before ≡ h.now = cc in
      let new : File = grown_file r grows.before (zero_blocks n) grows.added grows.pointers grows.room in
      replaced attr attr [] (zero_blocks n) opened-by t u h new
      (ap (λ (x : Store). x.file id.number) grows.store_is
      ∙ ap (λ b. if b then Some new else r.file id.number) (same_number id.number))
      (ap (λ (f : File). f.sequence) same)
      (inl (ap (λ (f : File). without_contiguous f.characteristics) same ∙ cleared file.in_one_run h.now.characteristics h.mark))
      (ap (λ (f : File). f.owner) same) (ap (λ (f : File). f.ident) same) (ap (λ (f : File). f.attr) same ∙ h.attr_is)
      (ap (λ (f : File). f.blocks ++ zero_blocks n) same ∙ ap (λ l. l ++ zero_blocks n) h.blocks_are)
      (λ m apart other. ap (λ (x : Store). x.file m) grows.store_is ∙ ap (λ b. if b then Some new else r.file m) apart
      ∙ ready.others m other)
      (ap (λ (x : Store). x.access) grows.store_is ∙ ready.access)

  -- in one run, maybe
  pub such-laid : (attr : List ℕ) (n : ℕ) (t u : Store) → file.in_one_run ≡ true → Such attr [] opened-by t
      → Grants plain who (asks (request.Contiguous lun n)) t u → Such attr (zero_blocks n) opened-by u
  such-laid attr n t u wanted h g =
      let lays : LaysOut t id.number n u = subst (λ (i : FileId). LaysOut t i.number n u) (held attr [] t h) g.3.changes in
      let before : Some lays.before ≡ Some h.now = sym lays.was ∙ h.there in
      let same : lays.before ≡ h.now = cc in
      let new : File = laid_file t lays.before n in
      replaced attr attr [] (zero_blocks n) opened-by t u h new
      (ap (λ (x : Store). x.file id.number) lays.store_is
      ∙ ap (λ b. if b then Some new else t.file id.number) (same_number id.number))
      (ap (λ (f : File). f.sequence) same)
      (inr (wanted, ap (λ (f : File). with_contiguous f.characteristics) same ∙ set-mark file.in_one_run h.now.characteristics h.mark))
      (ap (λ (f : File). f.owner) same) (ap (λ (f : File). f.ident) same) (ap (λ (f : File). f.attr) same ∙ h.attr_is) refl
      (λ m apart other. ap (λ (x : Store). x.file m) lays.store_is ∙ ap (λ b. if b then Some new else t.file m) apart)
      (ap (λ (x : Store). x.access) lays.store_is)

  -- one is written,
  pub such-written : (attr : List ℕ) (vbn : ℕ) (block : List ℕ) (blocks : List (List ℕ)) (t u : Store) → Such attr blocks opened-by t
      → Grants plain who (writes_block lun vbn block) t u → Such attr (slice_set blocks (vbn - 1) block) opened-by u
  such-written attr vbn block blocks t u h g =
      let set : File → File = with_block vbn block in
      let changed : u ≡ with_change t id.number set =
      g.2.changes ∙ ap (λ (i : FileId). with_change t i.number (with_block vbn block)) (held attr blocks t h) in
      replaced attr attr blocks (slice_set blocks (vbn - 1) block) opened-by t u h (set h.now)
      (there-changed t u set h.now changed h.there) refl h.mark refl refl h.attr_is (ap (λ l. slice_set l (vbn - 1) block) h.blocks_are)
      (λ n apart other. others-changed t u set changed n apart) (ap (λ (x : Store). x.access) changed)

  -- it is given up,
  pub such-closed : (attr : List ℕ) (blocks : List (List ℕ)) (t u : Store) → s.access who.task lun ≡ None
      → Such attr blocks opened-by t → Grants plain who (asks (request.Deaccess lun)) t u → Such attr blocks s.access u
  such-closed attr blocks t u free h g =
      let w : Store = with_access t who.task lun None in
      let named : file_named t id ≡ h.now = ap (λ o. unwrap_or o no_file)
      (there-file t id (record { file = h.now; is = h.there; sequence = h.sequence })) in
      let due : is_due w id ≡ false = ap (λ f. is_marked f && not (is_accessed w id)) named
      ∙ ap (λ b. b && not (is_accessed w id)) (unmarked file.in_one_run h.now.characteristics h.mark) in
      let same : u ≡ w = g.3.changes ∙ ap (λ o. after_giving_up t who.task lun o) (holds attr blocks t h)
      ∙ ap (λ b. if b then without_file_at w id.number else w) due in
      record {
        now = h.now;
        there = ap (λ (x : Store). x.file id.number) same ∙ h.there;
        sequence = h.sequence;
        mark = h.mark;
        owner = h.owner;
        ident = h.ident;
        attr_is = h.attr_is;
        blocks_are = h.blocks_are;
        unused = h.unused;
        low = h.low;
        volume = h.volume;
        others = λ n apart other. ap (λ (x : Store). x.file n) same ∙ h.others n apart other;
        access = λ task l. ap (λ (x : Store). x.access task l) same
            ∙ back task l ((task == who.task) && (l == lun)) refl (h.access task l);
      }
    where
      back : (task l : ℕ) (b : Bool) → ((task == who.task) && (l == lun)) ≡ b
          → t.access task l ≡ (if b then Some (record { file = id; mode = mode.Write }) else s.access task l)
          → (if b then None else t.access task l) ≡ s.access task l
      back task l true is k =
          let parts = and_parts (task == who.task) (l == lun) is in
          sym (ap (λ n. s.access n l) (eqb-true task who.task parts.0) ∙ ap (λ n. s.access who.task n) (eqb-true l lun parts.1) ∙ free)
      back task l false is k = k

  -- and gets its attributes
  pub such-stated : (attr attr' : List ℕ) (blocks : List (List ℕ)) (t u : Store) → Such attr blocks s.access t
      → Grants plain who (asks (request.WriteAttr id (change.Attr attr'))) t u → Such attr' blocks s.access u
  such-stated attr attr' blocks t u h g =
      let set : File → File = with_replacement (change.Attr attr') in
      replaced attr attr' blocks blocks s.access t u h (set h.now) (there-changed t u set h.now g.3.changes h.there) refl h.mark refl refl
      refl h.blocks_are (λ n apart other. others-changed t u set g.3.changes n apart) (ap (λ (x : Store). x.access) g.3.changes)
