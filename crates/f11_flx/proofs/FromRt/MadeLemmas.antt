-- What a making that is granted makes.
use Rattle.std.proofs.Common.{◌≡◌, ℕ, suc, ◌+◌, ◌-◌, ◌==◌, ◌||◌, Bool, true, false, nat_lt, if◌then◌else◌, List, [], ◌∷◌, ◌++◌, All, length}
use Rattle.std.proofs.Common.{Option, Some, None, unwrap_or, option_map, refl, sym, ap, ◌∙◌, subst, append_assoc, length-append, arith}
use Rattle.std.specs.Prelude.{slice_set}
use Rattle.std.specs.List.{concat}
use Rattle.std.proofs.Math.Seq.{set-append_seam}
use Rattle.std.proofs.lemmas.Bool.{eqb-true, ne_eqb}
use Rattle.f11_store.specs.Changes.{Lengthens, file_created, grown_file, with_block, with_change, with_replacement}
use Rattle.f11_store.specs.Directory.{index_of_empty, record_bytes}
use Rattle.f11_store.specs.File.{File, need, zero_blocks}
use Rattle.f11_store.specs.Ident.{ident_with}
use Rattle.f11_store.specs.Step.{next_id}
use Rattle.f11_store.specs.Headroom.{slots_first}
use Rattle.f11_store.specs.Causes.{first_refusal, is_bad}
use Rattle.f11_store.specs.Store.{Store, file_named, id_held, id_in, least_free}
use Rattle.f11_store.specs.declared.callers.Uic.{Uic}
use Rattle.f11_store.specs.declared.files.Change.TheVariants as change
use Rattle.f11_store.specs.declared.files.FileId.{FileId}
use Rattle.f11_store.specs.declared.requests.Request.TheVariants as request
use Rattle.f11_store.proofs.SlotsFirst.{gained-is-ready, no_index}
use Rattle.f11_store.proofs.StoreLemmas.{none_first, none_rest, same_number}
use Rattle.f11_store.specs.declared.refusals.Refusal.TheVariants.{BadArgument, SystemFile}
use Rattle.f11_runs.proofs.AccessLemmas.{true-false}
use Rattle.rt11_volume.specs.Files.{file_area}
use Rattle.rt11_volume.specs.Store.{RtStore}
use Rattle.f11_making.specs.Asking.{Granted, Grants, Who, asks, plain, writes, writes_of}
use Rattle.f11_making.specs.Making.{Making, as_file, creation, entry, filling, final_attr, giving_up, making_of}
use Rattle.f11_flx.specs.CopyFromRt.{CopiesFromRt}
use Rattle.f11_making.specs.Making.{naming, new_id, opening, stating}
use Rattle.f11_making.specs.Making.{extension}
use Rattle.f11_flx.specs.MakingLaws.{CopiedHolds, GrantedIsMade, HasCopyOf, HasMadeFile}
use Rattle.f11_flx.specs.declared.mode.CopyMode.{CopyMode}
use Rattle.f11_store.proofs.FileLaws.{made_id}
use Rattle.f11_flx.proofs.Made.ApartLemmas.{apart-from, copy-is-none}
use Rattle.f11_making.proofs.AskingLemmas.{granted-parts}
use Rattle.f11_flx.proofs.Made.EnteredLemmas.{new-stated}
use Rattle.f11_making.proofs.GainedLemmas.{enters-from, index-stays, index-then, not-index, ready-slots}
use Rattle.f11_flx.proofs.Made.NewLemmas.{IsNewIn, IsOpenIn, closed, given-back, holds, length-zeros, new-made, written}
use Rattle.f11_flx.proofs.FromRt.UndoneLemmas.{extension-stays, writes-stay}

-- what is made, with these attributes from the start
abbrev stated-with : Making → List ℕ → Making
stated-with making attr = record making { attr = attr; stated = None }

-- A file is there, with these blocks, and else as it was created.
pub record IsSuch (making : Making) (caller : Uic) (blocks : List (List ℕ)) (k : ℕ) (t : Store) : Type 0 where
  pub file : File
  pub there : t.file k ≡ Some file
  pub blocks_are : file.blocks ≡ blocks
  pub attr_is : file.attr ≡ making.attr
  pub ident_is : file.ident ≡ ident_with making.name
  pub owner_is : file.owner ≡ caller

such-stays : (making : Making) (caller : Uic) (blocks : List (List ℕ)) (k : ℕ) (t u : Store) → u.file k ≡ t.file k
    → IsSuch making caller blocks k t → IsSuch making caller blocks k u
such-stays making caller blocks k t u same h =
    record {
      file = h.file;
      there = same ∙ h.there;
      blocks_are = h.blocks_are;
      attr_is = h.attr_is;
      ident_is = h.ident_is;
      owner_is = h.owner_is;
    }

pub such-created : (making : Making) (who : Who) (s t : Store) → Granted plain who (creation making (new_id s)) s t
    → IsSuch making who.caller [] (new_id s).number t
such-created making who s t h =
    let made = h.1.2.changes in
    let r : Store = made.ready in
    let file : File = file_created r (least_free r) who.caller 0 (ident_with making.name) making.attr in
    let is : new_id s ≡ next_id r = made_id s r (slots_first s 1) (gained-is-ready s r 1 made.gains) in
    subst (λ (i : FileId). IsSuch making who.caller [] i.number t) (sym is)
    (record {
      file = file;
      there = ap (λ (x : Store). x.file (least_free r)) (h.2 ∙ made.makes)
          ∙ ap (λ b. if b then Some file else r.file (least_free r)) (same_number (least_free r));
      blocks_are = refl;
      attr_is = refl;
      ident_is = refl;
      owner_is = refl;
    })

module _ (making : Making) (who : Who) (lun : ℕ) (id : FileId) (s : Store) where
  -- blocks are allocated
  such-extended : (n : ℕ) (t u : Store) → IsOpenIn who.caller id s who lun t → IsSuch making who.caller [] id.number t
      → Granted plain who (extension lun n) t u → IsSuch making who.caller (zero_blocks n) id.number u
  such-extended n t u o h = by (n == 0) refl
    where
      none : (k : ℕ) → k ≡ 0 → [] ≡ zero_blocks k
      none k is = no-blocks (zero_blocks k) (length-zeros k ∙ is)
        where
          no-blocks : (xs : List (List ℕ)) → length xs ≡ 0 → [] ≡ xs
          no-blocks [] is = refl
          no-blocks (x ∷ xs) is = absurd (omega (arith, is))

      by : (b : Bool) → (n == 0) ≡ b → Granted plain who (if b then [] else asks (request.Extend lun n) ∷ []) t u
          → IsSuch making who.caller (zero_blocks n) id.number u
      by true is g =
          let k = such-stays making who.caller [] id.number t u (ap (λ (x : Store). x.file id.number) g) h in
          subst (λ l. IsSuch making who.caller l id.number u) (none n (eqb-true n 0 is)) k
      by false is g =
          let at : id_held t who.task lun ≡ id = ap id_in (holds who.caller id s who lun t o) in
          let longer : Lengthens t id n g.0 = subst (λ (i : FileId). Lengthens t i n g.0) at g.1.3.changes in
          let r : Store = longer.ready in
          let grows = longer.makes in
          let stays : r.file id.number ≡ t.file id.number =
          (gained-is-ready t r (need (file_named t id).room n) longer.gains).others id.number (not-index id.number 6 (omega arith) o.low) in
          let before : Some grows.before ≡ Some h.file = sym grows.was ∙ stays ∙ h.there in
          let same : grows.before ≡ h.file = cc in
          let grown : File = grown_file r grows.before (zero_blocks n) grows.added grows.pointers grows.room in
          record {
            file = grown;
            there = ap (λ (x : Store). x.file id.number) (g.2 ∙ grows.store_is)
                ∙ ap (λ b. if b then Some grown else r.file id.number) (same_number id.number);
            blocks_are = ap (λ (f : File). f.blocks ++ zero_blocks n) same ∙ ap (λ l. l ++ zero_blocks n) h.blocks_are;
            attr_is = ap (λ (f : File). f.attr) same ∙ h.attr_is;
            ident_is = ap (λ (f : File). f.ident) same ∙ h.ident_is;
            owner_is = ap (λ (f : File). f.owner) same ∙ h.owner_is;
          }

  -- one is written
  such-written : (vbn : ℕ) (block : List ℕ) (blocks : List (List ℕ)) (t u : Store) → IsOpenIn who.caller id s who lun t
      → IsSuch making who.caller blocks id.number t → Grants plain who (writes lun vbn block) t u →
      IsSuch making who.caller (slice_set blocks (vbn - 1) block) id.number u
  such-written vbn block blocks t u o h g =
      let at : id_held t who.task lun ≡ id = ap id_in (holds who.caller id s who lun t o) in
      let changed : u ≡ with_change t id.number (with_block vbn block) = g.2.changes
      ∙ ap (λ (i : FileId). with_change t i.number (with_block vbn block)) at in
      record {
        file = with_block vbn block h.file;
        there = ap (λ (x : Store). x.file id.number) changed
            ∙ ap (λ b. if b then option_map (with_block vbn block) (t.file id.number) else t.file id.number) (same_number id.number)
            ∙ ap (option_map (with_block vbn block)) h.there;
        blocks_are = ap (λ l. slice_set l (vbn - 1) block) h.blocks_are;
        attr_is = h.attr_is;
        ident_is = h.ident_is;
        owner_is = h.owner_is;
      }

  -- all are, one after another
  such-filled : (front pieces zs : List (List ℕ)) (t u : Store) → length zs ≡ length pieces → IsOpenIn who.caller id s who lun t
      → IsSuch making who.caller (front ++ zs) id.number t →
      Granted plain who (writes_of lun (length front) pieces) t u → IsSuch making who.caller (front ++ pieces) id.number u
  such-filled front [] [] t u size o h g =
      such-stays making who.caller (front ++ []) id.number t u (ap (λ (x : Store). x.file id.number) g) h
  such-filled front [] (z ∷ zs) t u size o h g = absurd (omega (arith, size))
  such-filled front (x ∷ more) [] t u size o h g = absurd (omega (arith, size))
  such-filled front (x ∷ more) (z ∷ zs) t u size o h g =
      let one = such-written (suc (length front)) x (front ++ z ∷ zs) t g.0 o h g.1 in
      let place : suc (length front) - 1 ≡ length front = omega arith in
      let set : slice_set (front ++ z ∷ zs) (suc (length front) - 1) x ≡ (front ++ x ∷ []) ++ zs =
      ap (λ n. slice_set (front ++ z ∷ zs) n x) place ∙ set-append_seam front z zs x ∙ sym (append_assoc front (x ∷ []) zs) in
      let next : length (front ++ x ∷ []) ≡ suc (length front) = omega (arith, length-append front (x ∷ [])) in
      let rest = such-filled (front ++ x ∷ []) more zs g.0 u (omega (arith, size))
      (written who.caller id s who lun (suc (length front)) x t g.0 o g.1)
      (subst (λ l. IsSuch making who.caller l id.number g.0) set one)
      (subst (λ n. Granted plain who (writes_of lun n more) g.0 u) (sym next) g.2) in
      subst (λ l. IsSuch making who.caller l id.number u) (append_assoc front (x ∷ []) more) rest

-- a name isn't entered into the index file
entered-own : (who : Who) (d : FileId) (name : List ℕ) (id : FileId) (t : Store)
    → first_refusal t who.task who.caller (request.Enter d name id) ≡ None → (d.number == 1) ≡ false
entered-own who d name id t none =
    no_index d (none_first (nat_lt d.number 4) SystemFile _ (none_rest (is_bad d || is_bad id) BadArgument _ none))

-- a file that is filled and closed, and then entered and protected
made-of : (making : Making) (who : Who) (id : FileId) (s t s' : Store) → (id.number == making.directory.number) ≡ false
    → IsNewIn who.caller id s.access s t → IsSuch (stated-with making (final_attr making)) who.caller making.blocks id.number t →
    Granted plain who (naming making id) t s' → HasMadeFile making who.caller id s s'
made-of making who id s t s' apart h k g =
    let v = g.0 in
    let enters = g.1.3.changes in
    let d = making.directory in
    let from = enters-from (index_of_empty (file_named t d)) t v d (record_bytes id making.name) enters in
    let r : Store = from.ready in
    let own : (d.number == 1) ≡ false = entered-own who d making.name id t g.1.3.no_cause in
    let late : (id.number == 1) ≡ false = not-index id.number 6 (omega arith) h.low in
    let protect = with_replacement (change.Protect making.protection) in
    let last : s' ≡ with_change v id.number protect = g.2.2 ∙ g.2.1.3.changes in
    let files : Some k.file ≡ Some h.file = sym k.there ∙ h.there in
    let same : k.file ≡ h.file = cc in
    let here : v.file id.number ≡ Some k.file = from.others id.number apart ∙ from.is-ready.others id.number late ∙ k.there in
    let index-file : s'.file 1 ≡ r.file 1 =
    ap (λ (x : Store). x.file 1) last ∙ ap (λ b. if b then option_map protect (v.file id.number) else v.file 1) (other-way id.number 1 late)
    ∙ from.others 1 (other-way d.number 1 own) in
    record {
      file = protect k.file;
      sequence_is = ap (λ (f : File). f.sequence) same ∙ h.sequence;
      was_free = h.unused;
      there = ap (λ (x : Store). x.file id.number) last
          ∙ ap (λ b. if b then option_map protect (v.file id.number) else v.file id.number) (same_number id.number)
          ∙ ap (option_map protect) here;
      blocks_are = k.blocks_are;
      attr_is = k.attr_is;
      ident_is = k.ident_is;
      owner_is = k.owner_is;
      protection_is = refl;
      entered = record {
        before = t;
        after = v;
        as_before = h.others d.number (other-way id.number d.number apart) own;
        enters = enters;
        as_after = ap (λ (x : Store). x.file d.number) last
            ∙ ap (λ b. if b then option_map protect (v.file id.number) else v.file d.number) (other-way id.number d.number apart);
      };
      others = λ n a b other.
          ap (λ (x : Store). x.file n) last ∙ ap (λ c. if c then option_map protect (v.file id.number) else v.file n) a ∙ from.others n b
          ∙ from.is-ready.others n other ∙ h.others n a other;
      added = h.added + from.added;
      index = index-stays s r s' (h.added + from.added) index-file (index-then s t r h.added from.added h.index from.index);
      slots = omega (arith, ap (λ (x : Store). x.slots) last, from.slots, ready-slots t r from.added from.is-ready, h.slots);
      access = λ task lun. ap (λ (x : Store). x.access task lun) last ∙ ap (λ a. a task lun) (from.access ∙ from.is-ready.access)
          ∙ h.access task lun;
    }
  where
    other-way : (a b : ℕ) → (a == b) ≡ false → (b == a) ≡ false
    other-way a b is = ne_eqb b a (λ same. true-false (sym (same_number a) ∙ ap (λ n. a == n) (sym same) ∙ is))

-- what was granted up to the entry: a file was filled and closed, and has these attributes
record IsFilled (making : Making) (attr : List ℕ) (who : Who) (s s' : Store) : Type 0 where
  pub before : Store
  pub new : IsNewIn who.caller (new_id s) s.access s before
  pub such : IsSuch (stated-with making attr) who.caller making.blocks (new_id s).number before
  pub entered : Granted plain who (naming making (new_id s)) before s'

-- it gets them where it had others
filled-stated : (making : Making) (who : Who) (s t s' : Store) → IsNewIn who.caller (new_id s) s.access s t
    → IsSuch making who.caller making.blocks (new_id s).number t → Granted plain who (entry making (new_id s)) t s'
    → IsFilled making (final_attr making) who s s'
filled-stated making who s t s' h k g = by making.stated g
  where
    by : (o : Option (List ℕ)) → Granted plain who (stating o (new_id s) ++ naming making (new_id s)) t s'
        → IsFilled making (unwrap_or o making.attr) who s s'
    by None g = record {
      before = t;
      new = h;
      such = record {
        file = k.file;
        there = k.there;
        blocks_are = k.blocks_are;
        attr_is = k.attr_is;
        ident_is = k.ident_is;
        owner_is = k.owner_is;
      };
      entered = g;
    }
    by (Some attr) g =
        let id : FileId = new_id s in
        let set : File → File = with_replacement (change.Attr attr) in
        let same : g.0 ≡ with_change t id.number set = g.1.3.changes in
        record {
          before = g.0;
          new = subst (λ x. IsNewIn who.caller id s.access s x) (sym same) (new-stated who.caller id attr s t h);
          such = record {
            file = set k.file;
            there = ap (λ (x : Store). x.file id.number) same
                ∙ ap (λ b. if b then option_map set (t.file id.number) else t.file id.number) (same_number id.number)
                ∙ ap (option_map set) k.there;
            blocks_are = k.blocks_are;
            attr_is = refl;
            ident_is = k.ident_is;
            owner_is = k.owner_is;
          };
          entered = g.2;
        }

-- a file that was created, filled and given up is new, and has these blocks
pub such-made : (making : Making) (who : Who) (lun : ℕ) (s created accessed filled : Store)
    → Granted plain who (creation making (new_id s)) s created → Granted plain who (opening lun (new_id s)) created accessed
    → Granted plain who (filling lun making.blocks) accessed filled
    → IsNewIn who.caller (new_id s) s.access s filled × IsSuch making who.caller making.blocks (new_id s).number filled
such-made making who lun s created accessed filled creates opens fills =
    let id : FileId = new_id s in
    let four = granted-parts plain who (extension lun (length making.blocks)) (writes_of lun 0 making.blocks ++ giving_up lun) accessed
    filled
    fills in
    let five = granted-parts plain who (writes_of lun 0 making.blocks) (giving_up lun) four.0 filled four.2 in
    let made = new-made making id who s created creates in
    let o = opened-at id created accessed made opens in
    let same : accessed.file id.number ≡ created.file id.number = ap (λ (x : Store). x.file id.number) (opens.2 ∙ opens.1.3.changes) in
    let begun = such-stays making who.caller [] id.number created accessed same (such-created making who s created creates) in
    let open2 = extension-stays who lun id s (length making.blocks) accessed four.0 o.0 four.1 in
    let zeros = such-extended making who lun id s (length making.blocks) accessed four.0 o.0 begun four.1 in
    let open3 = writes-stay who lun id s 0 making.blocks four.0 five.0 open2 five.1 in
    let full = such-filled making who lun id s [] making.blocks (zero_blocks (length making.blocks)) four.0 five.0
    (length-zeros (length making.blocks)) open2 zeros five.1 in
    let back : filled ≡ five.2.0 = five.2.2 in
    let kept : filled.file id.number ≡ five.0.file id.number =
    ap (λ (x : Store). x.file id.number) (back ∙ given-back who.caller id s who lun five.0 five.2.0 open3 five.2.1) in (
      subst (λ x. IsNewIn who.caller id s.access s x) (sym back) (closed who.caller id s who lun five.0 five.2.0 o.1 open3 five.2.1),
      such-stays making who.caller making.blocks id.number five.0 filled kept full,
    )
  where
    opened-at : (id : FileId) (t u : Store) → IsNewIn who.caller id s.access s t → Granted plain who (opening lun id) t u
        → IsOpenIn who.caller id s who lun u × (s.access who.task lun ≡ None)
    opened-at id t u h g = (
      subst (λ x. IsOpenIn who.caller id s who lun x) (sym g.2)
          (Rattle.f11_flx.proofs.Made.NewLemmas.opened who.caller id s who lun t g.0 h g.1),
      Rattle.f11_flx.proofs.Made.NewLemmas.lun-was-free who.caller id s who lun t g.0 h g.1,
    )

granted-is-filled : (making : Making) (who : Who) (lun : ℕ) (s s' : Store) → Granted plain who (making_of making lun (new_id s)) s s'
    → IsFilled making (final_attr making) who s s'
granted-is-filled making who lun s s' g =
    let id : FileId = new_id s in
    let one = granted-parts plain who (creation making id) (opening lun id ++ (filling lun making.blocks ++ entry making id)) s s' g in
    let two = granted-parts plain who (opening lun id) (filling lun making.blocks ++ entry making id) one.0 s' one.2 in
    let three = granted-parts plain who (filling lun making.blocks) (entry making id) two.0 s' two.2 in
    let such = such-made making who lun s one.0 two.0 three.0 one.1 two.1 three.1 in
    filled-stated making who s three.0 s' such.0 such.1 three.2

pub granted-is-made : GrantedIsMade
granted-is-made making who lun s s' apart g =
    let f = granted-is-filled making who lun s s' g in
    made-of making who (new_id s) s f.before s' apart f.new f.such f.entered

-- a copy is never entered into itself, and what it makes holds it
pub copy-of : (m : CopyMode) (name : List ℕ) (who : Who) (lun : ℕ) (dir : FileId) (to : List ℕ) (protection blocks : ℕ) (t : RtStore)
    (s s' : Store) → (h : CopiesFromRt m name who lun dir to protection blocks t s s') →
    HasCopyOf m name (as_file to dir protection h.attr h.pieces) who.caller (new_id s) blocks t s s'
copy-of m name who lun dir to protection blocks t s s' h =
    let making = as_file to dir protection h.attr h.pieces in
    let f = granted-is-filled making who lun s s' h.asked in
    let none = copy-is-none m (file_area h.has.file).contents h.has.copy f.such.file h.has.converted (f.such.attr_is ∙ h.has.attr_is) in
    let apart = apart-from who (new_id s) dir to f.such.file f.before f.entered.0 f.such.there none f.entered.1 in
    let made = made-of making who (new_id s) s f.before s' apart f.new f.such f.entered in
    record {
      source = h.has.file;
      copy = h.has.copy;
      converted = h.has.converted;
      made = made;
      holds = record { content = ap concat made.blocks_are ∙ h.has.content_is; attr = made.attr_is ∙ h.has.attr_is };
      blocks_are = ap (λ (l : List (List ℕ)). length l) made.blocks_are ∙ h.blocks_are;
      whole = subst (All (λ b. length b ≡ 512)) (sym made.blocks_are) h.has.whole;
    }

pub copied-holds : CopiedHolds
copied-holds m name who lun dir to protection blocks t s s' h = (h.attr, h.pieces, copy-of m name who lun dir to protection blocks t s s' h)
