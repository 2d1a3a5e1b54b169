-- A file that is made is the same file when a name was entered.
use Rattle.std.proofs.Common.{◌≡◌, inl, inr, ℕ, ◌≤◌, ◌==◌, ◌||◌, not, Bool, true, false, nat_lt, if◌then◌else◌, List, [], ◌∷◌, ◌++◌}
use Rattle.std.proofs.Common.{Option, Some, None, is_none, option_map, refl, sym, ap, ◌∙◌, subst, arith}
use Rattle.std.specs.Prelude.{unwrap_or}
use Rattle.std.proofs.lemmas.Bool.{and_from, eq-eqb, eqb-true, le-ltb, ne_eqb, or_right}
use Rattle.f11_store.specs.Causes.{Cause, ◌⇐◌, first_refusal, is_bad, is_missing, lacks_change}
use Rattle.f11_store.specs.Changes.{EntersAt, EntersAtEnd, Grows, grown_file, with_change, with_end_after, with_entry, with_grown_file}
use Rattle.f11_store.specs.Changes.{with_replacement}
use Rattle.f11_store.specs.Directory.{entry_count, index_of_empty, needs_block, record_bytes}
use Rattle.f11_store.specs.File.{File, is_marked, need, no_file, zero_blocks}
use Rattle.f11_store.specs.Rights.{is_of}
use Rattle.f11_store.specs.Step.{MayRefuse}
use Rattle.f11_store.specs.Store.{Store, file_named, file_of}
use Rattle.f11_store.specs.declared.callers.Uic.{Uic}
use Rattle.f11_store.specs.declared.files.Change.TheVariants as change
use Rattle.f11_store.specs.declared.files.FileId.{FileId}
use Rattle.f11_store.specs.declared.protection.Class.TheVariants as class
use Rattle.f11_store.specs.declared.refusals.Refusal.{Refusal}
use Rattle.f11_store.specs.declared.refusals.Refusal.TheVariants.{BadArgument, Marked, NoPrivilege, NoSuchFile, SystemFile}
use Rattle.f11_store.specs.declared.requests.Request.TheVariants as request
use Rattle.f11_store.proofs.FateLaws.{mark-of-cleared}
use Rattle.f11_store.proofs.SlotsFirst.{gained-is-ready}
use Rattle.f11_store.proofs.StoreLemmas.{same_number}
use Rattle.f11_runs.proofs.AccessLemmas.{there-file}
use Rattle.f11_making.specs.Asking.{BreaksOffAsking, Who, plain}
use Rattle.f11_making.specs.Making.{Making, entry, naming, stating}
use Rattle.f11_making.proofs.GainedLemmas.{index-stays, not-index}
use Rattle.f11_flx.proofs.Made.NewLemmas.{IsNewIn, none-of, other-index}
use Rattle.f11_flx.proofs.SmallLemmas.{bad-not}

-- A file is there, and is who's it was.
record StaysOwn (f : File) (t : Store) (k : ℕ) : Type 0 where
  pub now : File
  pub there : t.file k ≡ Some now
  pub sequence : now.sequence ≡ f.sequence
  pub owner : now.owner ≡ f.owner
  pub mark : is_marked now ≡ is_marked f

own-changed : (f : File) (t : Store) (k d : ℕ) (change : File → File) → ((g : File) → (change g).sequence ≡ g.sequence)
    → ((g : File) → (change g).owner ≡ g.owner) → ((g : File) → is_marked (change g) ≡ is_marked g) →
    StaysOwn f t k → StaysOwn f (with_change t d change) k
own-changed f t k d change a b c h = by (k == d) refl
  where
    by : (x : Bool) → (k == d) ≡ x → StaysOwn f (with_change t d change) k
    by true is = record {
      now = change h.now;
      there = ap (λ x. if x then option_map change (t.file d) else t.file k) is
          ∙ ap (option_map change) (ap t.file (sym (eqb-true k d is)) ∙ h.there);
      sequence = a h.now ∙ h.sequence;
      owner = b h.now ∙ h.owner;
      mark = c h.now ∙ h.mark;
    }
    by false is =
        record {
          now = h.now;
          there = ap (λ x. if x then option_map change (t.file d) else t.file k) is ∙ h.there;
          sequence = h.sequence;
          owner = h.owner;
          mark = h.mark;
        }

own-grown : (f : File) (t u : Store) (k d n : ℕ) (blocks : List (List ℕ)) → Grows t d n blocks u → StaysOwn f t k → StaysOwn f u k
own-grown f t u k d n blocks g h = subst (λ x. StaysOwn f x k) (sym g.store_is) (by (k == d) refl)
  where
    grown : File
    grown = grown_file t g.before blocks g.added g.pointers g.room

    by : (x : Bool) → (k == d) ≡ x → StaysOwn f (with_grown_file t d g.before n blocks g.added g.pointers g.room) k
    by true is =
        let files : Some g.before ≡ Some h.now = sym g.was ∙ ap t.file (sym (eqb-true k d is)) ∙ h.there in
        let same : g.before ≡ h.now = cc in
        record {
          now = grown_file t g.before blocks g.added g.pointers g.room;
          there = ap (λ x. if x then Some (grown_file t g.before blocks g.added g.pointers g.room) else t.file k) is;
          sequence = ap (λ (x : File). x.sequence) same ∙ h.sequence;
          owner = ap (λ (x : File). x.owner) same ∙ h.owner;
          mark = ap (λ b. b == 1) (mark-of-cleared g.before.characteristics) ∙ ap (λ (x : File). is_marked x) same ∙ h.mark;
        }
    by false is =
        record {
          now = h.now;
          there = ap (λ x. if x then Some (grown_file t g.before blocks g.added g.pointers g.room) else t.file k) is
              ∙ h.there;
          sequence = h.sequence;
          owner = h.owner;
          mark = h.mark;
        }

own-entered-at-end : (b : Bool) (f : File) (t u : Store) (k : ℕ) (d : FileId) (i : ℕ) (r : List ℕ) → (k == 1) ≡ false
    → EntersAtEnd b t d i r u → StaysOwn f t k → StaysOwn f u k
own-entered-at-end false f t u k d i r late e h =
    subst (λ x. StaysOwn f x k) (sym e)
    (own-changed f t k d.number (λ g. with_end_after i (with_entry i r g)) (λ g. refl) (λ g. refl) (λ g. refl) h)
own-entered-at-end true f t u k d i r late (v, longer, e) h =
    let ready = gained-is-ready t longer.ready (need (file_named t d).room 1) longer.gains in
    let here : StaysOwn f longer.ready k =
    record { now = h.now; there = ready.others k late ∙ h.there; sequence = h.sequence; owner = h.owner; mark = h.mark } in
    subst (λ x. StaysOwn f x k) (sym e)
    (own-changed f v k d.number (λ g. with_end_after i (with_entry i r g)) (λ g. refl) (λ g. refl) (λ g. refl)
    (own-grown f longer.ready v k d.number 1 (zero_blocks 1) longer.makes here))

own-entered : (o : Option ℕ) (f : File) (t u : Store) (k : ℕ) (d : FileId) (r : List ℕ) → (k == 1) ≡ false → EntersAt o t d r u
    → StaysOwn f t k → StaysOwn f u k
own-entered (Some i) f t u k d r late e h =
    subst (λ x. StaysOwn f x k) (sym e) (own-changed f t k d.number (with_entry i r) (λ g. refl) (λ g. refl) (λ g. refl) h)
own-entered None f t u k d r late e h =
    own-entered-at-end (needs_block (file_named t d)) f t u k d (entry_count (file_named t d)) r late e h

-- so its owner may protect it
protectable : (id : FileId) (f : File) (word : ℕ) (who : Who) (t : Store) → 6 ≤ id.number → id.volume ≡ 0 → f.sequence ≡ id.sequence
    → f.owner ≡ who.caller → is_marked f ≡ false → StaysOwn f t id.number →
    first_refusal t who.task who.caller (request.WriteAttr id (change.Protect word)) ≡ None
protectable id f word who t low volume sequence owner unmarked h =
    let named : file_of t id ≡ Some h.now = there-file t id (record { file = h.now; is = h.there; sequence = h.sequence ∙ sequence }) in
    let file : file_named t id ≡ h.now = ap (λ o. unwrap_or o no_file) named in
    let bad : is_bad id ≡ false = bad-not (id.number == 0) (id.volume == 0) (ne_eqb id.number 0 (λ is. omega (arith, is, low)))
    (eq-eqb id.volume 0 volume) in
    let missing : is_missing t id ≡ false = ap (λ o. is_none o) named in
    let marked : is_marked (file_named t id) ≡ false = ap (λ x. is_marked x) file ∙ h.mark ∙ unmarked in
    let barred : lacks_change (change.Protect word) who.caller (file_named t id) ≡ false =
    ap (λ (x : File). not (is_of who.caller x.owner class.System || is_of who.caller x.owner class.Owner)) file
    ∙ ap (λ o. not (is_of who.caller o class.System || is_of who.caller o class.Owner)) (h.owner ∙ owner)
    ∙ ap (λ b. not b) (or_right (is_of who.caller who.caller class.System) (is_of who.caller who.caller class.Owner)
    (and_from (who.caller.group == who.caller.group) (who.caller.member == who.caller.member) (same_number who.caller.group)
    (same_number who.caller.member))) in
    let five : List Cause = (NoPrivilege ⇐ lacks_change (change.Protect word) who.caller (file_named t id)) ∷ [] in
    let four : List Cause = (Marked ⇐ is_marked (file_named t id)) ∷ five in
    let three : List Cause = (NoSuchFile ⇐ is_missing t id) ∷ four in
    let two : List Cause = (SystemFile ⇐ nat_lt id.number 4) ∷ three in
    none-of (BadArgument ⇐ is_bad id) two bad
    (none-of (SystemFile ⇐ nat_lt id.number 4) three (le-ltb id.number 4 (omega (arith, low)))
    (none-of (NoSuchFile ⇐ is_missing t id) four missing
    (none-of (Marked ⇐ is_marked (file_named t id)) five marked
    (none-of (NoPrivilege ⇐ lacks_change (change.Protect word) who.caller (file_named t id)) [] barred refl))))

-- of entering and protecting a new file nothing is refused but the entry: then all is as it was
naming-refused : (making : Making) (who : Who) (id : FileId) (e : Refusal) (s t u : Store) → IsNewIn who.caller id s.access s t
    → BreaksOffAsking plain who (naming making id) e t u → u ≡ t
naming-refused making who id e s t u h (inl d) = d.2.store_stays
naming-refused making who id e s t u h (inr (v, g, inl d)) =
    let own : StaysOwn h.file t id.number = record { now = h.file; there = h.there; sequence = refl; owner = refl; mark = refl } in
    let here = own-entered (index_of_empty (file_named t making.directory)) h.file t v id.number making.directory
    (record_bytes id making.name) (not-index id.number 6 (omega arith) h.low) g.3.changes own in
    absurd (subst (λ o. MayRefuse o false false e)
    (protectable id h.file making.protection who v h.low h.volume h.sequence h.owner h.unmarked here) d.2.may_refuse)
naming-refused making who id e s t u h (inr (v, g, inr (w, k, none))) = absurd none

-- a new file that gets other attributes is new still
pub new-stated : (caller : Uic) (id : FileId) (attr : List ℕ) (s t : Store) → IsNewIn caller id s.access s t
    → IsNewIn caller id s.access s (with_change t id.number (with_replacement (change.Attr attr)))
new-stated caller id attr s t h =
    let set : File → File = with_replacement (change.Attr attr) in
    record {
      file = set h.file;
      there = ap (λ b. if b then option_map set (t.file id.number) else t.file id.number) (same_number id.number)
          ∙ ap (option_map set) h.there;
      sequence = h.sequence;
      owner = h.owner;
      open-to = h.open-to;
      unmarked = h.unmarked;
      unused = h.unused;
      others = λ n apart other. ap (λ b. if b then option_map set (t.file id.number) else t.file n) apart ∙ h.others n apart other;
      added = h.added;
      index = index-stays s t (with_change t id.number set) h.added
          (ap (λ b. if b then option_map set (t.file id.number) else t.file 1) (other-index id.number h.low)) h.index;
      free = h.free;
      slots = h.slots;
      bitmap-blocks = h.bitmap-blocks;
      index-bitmap-blocks = h.index-bitmap-blocks;
      limit = h.limit;
      in-use = h.in-use;
      last = h.last;
      low = h.low;
      volume = h.volume;
      access = h.access;
    }

-- where its attributes, its entry or its protection is refused, it is new still
pub entry-refused : (making : Making) (who : Who) (id : FileId) (e : Refusal) (s t u : Store) → IsNewIn who.caller id s.access s t
    → BreaksOffAsking plain who (entry making id) e t u → IsNewIn who.caller id s.access s u
entry-refused making who id e s t u h b = by making.stated b
  where
    by : (o : Option (List ℕ)) → BreaksOffAsking plain who (stating o id ++ naming making id) e t u → IsNewIn who.caller id s.access s u
    by None b = subst (λ x. IsNewIn who.caller id s.access s x) (sym (naming-refused making who id e s t u h b)) h
    by (Some attr) (inl d) = subst (λ x. IsNewIn who.caller id s.access s x) (sym d.2.store_stays) h
    by (Some attr) (inr (v, g, b)) =
        let k = subst (λ x. IsNewIn who.caller id s.access s x) (sym g.3.changes) (new-stated who.caller id attr s t h) in
        subst (λ x. IsNewIn who.caller id s.access s x) (sym (naming-refused making who id e s v u k b)) k
