-- What a file is that was made of the blocks of a source.
use Rattle.std.proofs.Common.{◌≡◌, ◌⊎◌, inl, inr, ℕ, suc, zero, ◌-◌, ◌==◌, ◌||◌, Bool, true, false, nat_lt, if◌then◌else◌}
use Rattle.std.proofs.Common.{List, [], ◌∷◌, ◌++◌, length}
use Rattle.std.proofs.Common.{Option, Some, None, Result, Ok, Err, option_map, refl, sym, ap, ◌∙◌, subst, arith, append_assoc}
use Rattle.std.proofs.Common.{length-append}
use Rattle.std.specs.Prelude.{slice_set}
use Rattle.std.proofs.Math.Seq.{set-append_seam}
use Rattle.std.proofs.lemmas.Bool.{eqb-true, ne_eqb}
use Rattle.std.proofs.lemmas.List.{length-replicate}
use Rattle.f11_bytes.specs.Block.{zero_block}
use Rattle.f11_store.specs.Causes.{first_refusal, is_bad}
use Rattle.f11_store.specs.Changes.{with_change, with_replacement}
use Rattle.f11_store.specs.Directory.{index_of_empty, record_bytes}
use Rattle.f11_store.specs.File.{File, zero_blocks}
use Rattle.f11_store.specs.Store.{Access, Store, file_named}
use Rattle.f11_store.specs.declared.files.Change.TheVariants as change
use Rattle.f11_store.specs.declared.files.FileId.{FileId}
use Rattle.f11_store.specs.declared.files.Mode.TheVariants as mode
use Rattle.f11_store.specs.declared.refusals.Refusal.TheVariants.{BadArgument, SystemFile}
use Rattle.f11_store.specs.declared.refusals.Refusal.{Refusal}
use Rattle.f11_store.specs.declared.requests.Request.{Request}
use Rattle.f11_store.specs.declared.requests.Request.TheVariants as request
use Rattle.f11_store.proofs.SlotsFirst.{no_index}
use Rattle.f11_store.proofs.StoreLemmas.{none_first, none_rest, same_number}
use Rattle.f11_runs.proofs.AccessLemmas.{true-false}
use Rattle.f11_making.specs.Asking.{Grants, Who, asks, plain}
use Rattle.f11_making.specs.FilesPlan.{AnswerOf, Asks, done, names_for, writes}
use Rattle.f11_making.specs.Plan.{gives}
use Rattle.f11_making.proofs.GainedLemmas.{enters-from, not-index}
use Rattle.f11_copying.specs.Copies.{allocates, enters, fills, fills_and_finishes, fills_if, finishes, on_block, pours, without_end}
use Rattle.f11_copying.specs.Courses.{Both, Course, Giving, Runs, as_copy, ask, both, if_granted, or_undone}
use Rattle.f11_copying.specs.Made.{HasMadeCopy, IsGiven, IsMadeOf, MadeIsMadeOf}
use Rattle.f11_copying.specs.declared.fault.CopyFault.{CopyFault}
use Rattle.f11_copying.specs.declared.fault.CopyFault.TheVariants.{Unread}
use Rattle.f11_copying.specs.declared.file.FileToMake.{FileToMake}
use Rattle.f11_copying.proofs.PartLemmas.{Other, ask-parts, else-parts, ok-not-err, ok-parts, undone-parts}
use Rattle.f11_copying.proofs.SuchLemmas.{IsSuch, opened-by, such-closed, such-created, such-extended, such-laid, such-opened, such-stated}
use Rattle.f11_copying.proofs.SuchLemmas.{such-written}

length-zeros : (n : ℕ) → length (zero_blocks n) ≡ n
unfolding zero_blocks
length-zeros n = length-replicate n zero_block

-- a file that is made without blocks has none
no-zeros : (n : ℕ) → n ≡ 0 → zero_blocks n ≡ []
no-zeros n is = no-blocks (zero_blocks n) (length-zeros n ∙ is)
  where
    no-blocks : (xs : List (List ℕ)) → length xs ≡ 0 → xs ≡ []
    no-blocks [] is = refl
    no-blocks (x ∷ xs) is = absurd (omega (arith, is))

other-way : (a b : ℕ) → (a == b) ≡ false → (b == a) ≡ false
other-way a b is = ne_eqb b a (λ same. true-false (sym (same_number a) ∙ ap (λ n. a == n) (sym same) ∙ is))

apart-from : (s : Store) (a b : ℕ) → s.in_use a ≡ false → s.in_use b ≡ true → (a == b) ≡ false
apart-from s a b unused used = ne_eqb a b (λ same. true-false (sym used ∙ ap s.in_use (sym same) ∙ unused))

-- a name isn't entered into the index file
entered-own : (who : Who) (d : FileId) (name : List ℕ) (id : FileId) (t : Store)
    → first_refusal t who.task who.caller (request.Enter d name id) ≡ None → (d.number == 1) ≡ false
entered-own who d name id t none =
    no_index d (none_first (nat_lt d.number 4) SystemFile _ (none_rest (is_bad d || is_bad id) BadArgument _ none))

module _ {H : Type 0} (K : Giving H) (who : Who) (file : FileToMake) (lun : ℕ) (id : FileId) (s : Store) where
  abbrev Such : List ℕ → List (List ℕ) → (ℕ → ℕ → Option Access) → Store → Type 0
  Such attr blocks accesses t = IsSuch file id attr blocks accesses s t

  abbrev open-now : ℕ → ℕ → Option Access
  open-now = opened-by file who lun id s

  -- So many blocks came of the source, and are those of the file.
  pub record Filled (attr : List ℕ) (front : List (List ℕ)) (n : ℕ) (accesses : ℕ → ℕ → Option Access) (v w : Both Store H) : Type 0
    where
      pub blocks : List (List ℕ)
      pub count : length blocks ≡ n
      pub given : IsGiven K blocks v.source w.source
      pub such : Such attr (front ++ blocks) accesses w.volume

  -- the rest is written behind any blocks
  abbrev Pours : List ℕ → List (List ℕ) → ℕ → Both Store H → Type 0
  Pours attr zs n w = (front : List (List ℕ)) (u : Both Store H) → length zs ≡ n → Such attr (front ++ zs) open-now u.volume
      → Runs plain K who (pours lun (length front) n) (Ok tt) u w → Filled attr front n open-now u w

  poured : (attr : List ℕ) (front zs : List (List ℕ)) (n : ℕ) (v w : Both Store H) → length zs ≡ n
      → Such attr (front ++ zs) open-now v.volume
      → Runs plain K who (pours lun (length front) n) (Ok tt) v w → Filled attr front n open-now v w
  poured attr front [] zero v w size h g = record {
    blocks = [];
    count = refl;
    given = ap (λ (b : Both Store H). b.source) g.1;
    such = subst (λ (b : Both Store H). Such attr (front ++ []) open-now b.volume) (sym g.1) h;
  }
  poured attr front (z ∷ zs) zero v w size h g = absurd (omega (arith, size))
  poured attr front [] (suc n) v w size h g = absurd (omega (arith, size))
  poured attr front (z ∷ zs) (suc n) v w size h g = by (λ front' u. poured attr front' zs n u w) g.0 g.1 g.2 g.3
    where
      more-of : Course (Result (Unit {0}) CopyFault)
      more-of = pours lun (suc (length front)) n

      by : Pours attr zs n w → (a : Option (List ℕ)) (m : Both Store H) → (K v.source a m.source) × (m.volume ≡ v.volume)
          → Runs plain K who (on_block lun (length front) more-of a) (Ok tt) m w → Filled attr front (suc n) open-now v w
      by again None m took rest = absurd (ok-not-err tt Unread rest.0)
      by again (Some x) m took rest =
          let parts = ok-parts plain K who (ask (writes lun (suc (length front)) x)) (λ y. more-of) tt m w rest in
          let one = ask-parts plain K who (writes lun (suc (length front)) x) parts.x m parts.w parts.first in
          let here : Such attr (front ++ z ∷ zs) open-now m.volume = subst (Such attr (front ++ z ∷ zs) open-now) (sym took.1) h in
          let written = such-written file who lun id s attr (suc (length front)) x (front ++ z ∷ zs) m.volume parts.w.volume here
          one.asked in
          let place : suc (length front) - 1 ≡ length front = omega arith in
          let set : slice_set (front ++ z ∷ zs) (suc (length front) - 1) x ≡ (front ++ x ∷ []) ++ zs =
          ap (λ k. slice_set (front ++ z ∷ zs) k x) place ∙ set-append_seam front z zs x ∙ sym (append_assoc front (x ∷ []) zs) in
          let next : length (front ++ x ∷ []) ≡ suc (length front) = omega (arith, length-append front (x ∷ [])) in
          let rest-of = again (front ++ x ∷ []) parts.w (omega (arith, size))
          (subst (λ l. Such attr l open-now parts.w.volume) set written)
          (subst (λ k. Runs plain K who (pours lun k n) (Ok tt) parts.w w) (sym next) parts.rest) in
          record {
            blocks = x ∷ rest-of.blocks;
            count = ap suc rest-of.count;
            given = (m.source, took.0, subst (λ k. IsGiven K rest-of.blocks k w.source) one.same rest-of.given);
            such = subst (λ l. Such attr l open-now w.volume) (append_assoc front (x ∷ []) rest-of.blocks) rest-of.such;
          }

  -- what was refused changed nothing
  refused-one : (r : Request) (e : CopyFault) (v w : Both Store H) → Runs plain K who (ask (done r)) (Err e) v w
      → (w.volume ≡ v.volume) × (w.source ≡ v.source)
  refused-one r e v w g = by g.0 g.1 g.2 g.3
    where
      by : (a : Result (AnswerOf (done r)) Refusal) (m : Both Store H)
          → (Asks plain who (done r) a v.volume m.volume) × (m.source ≡ v.source)
          → (Err e ≡ as_copy a) × (w ≡ m) → (w.volume ≡ v.volume) × (w.source ≡ v.source)
      by (Ok y) m asked rest = absurd (ok-not-err y e (sym rest.0))
      by (Err f) m asked rest = (
        ap (λ (b : Both Store H). b.volume) rest.1 ∙ asked.0.2.store_stays,
        ap (λ (b : Both Store H). b.source) rest.1 ∙ asked.1,
      )

  -- the blocks were allocated
  allocated : (in_one_run : Bool) (attr : List ℕ) (n : ℕ) (v w : Both Store H) → file.in_one_run ≡ in_one_run
      → Such attr [] open-now v.volume → Runs plain K who (allocates in_one_run lun n) (Ok tt) v w
      → Such attr (zero_blocks n) open-now w.volume × (w.source ≡ v.source)
  allocated false attr n v w wanted h g =
      let one = ask-parts plain K who (done (request.Extend lun n)) tt v w g in
      (such-extended file who lun id s attr n v.volume w.volume h one.asked, one.same)
  allocated true attr n v w wanted h g =
      by (else-parts plain K who (ask (done (request.Contiguous lun n))) (ask (done (request.Extend lun n))) tt v w g)
    where
      by : Runs plain K who (ask (done (request.Contiguous lun n))) (Ok tt) v w
          ⊎ Other plain K who (ask (done (request.Contiguous lun n))) (ask (done (request.Extend lun n))) tt v w
          → Such attr (zero_blocks n) open-now w.volume × (w.source ≡ v.source)
      by (inl k) =
          let one = ask-parts plain K who (done (request.Contiguous lun n)) tt v w k in
          (such-laid file who lun id s attr n v.volume w.volume wanted h one.asked, one.same)
      by (inr k) =
          let none = refused-one (request.Contiguous lun n) k.e v k.w k.first in
          let one = ask-parts plain K who (done (request.Extend lun n)) tt k.w w k.rest in (
            such-extended file who lun id s attr n k.w.volume w.volume (subst (Such attr [] open-now) (sym none.0) h) one.asked,
            one.same ∙ none.1,
          )

  -- the file was filled and given up
  filled : (in_one_run : Bool) (attr : List ℕ) (n : ℕ) (v w : Both Store H) → file.in_one_run ≡ in_one_run
      → s.access who.task lun ≡ None → Such attr [] open-now v.volume → Runs plain K who (fills in_one_run lun n) (Ok tt) v w
      → Filled attr [] n s.access v w
  filled in_one_run attr n v w wanted free h g =
      let one = ok-parts plain K who (allocates in_one_run lun n)
      (λ x. if_granted (pours lun 0 n) (λ y. ask (done (request.Deaccess lun)))) tt v w g in
      let laid = allocated in_one_run attr n v one.w wanted h one.first in
      let two = ok-parts plain K who (pours lun 0 n) (λ y. ask (done (request.Deaccess lun))) tt one.w w one.rest in
      let full = poured attr [] (zero_blocks n) n one.w two.w (length-zeros n) laid.0 two.first in
      let last = ask-parts plain K who (done (request.Deaccess lun)) tt two.w w two.rest in
      record {
        blocks = full.blocks;
        count = full.count;
        given = subst (λ k. IsGiven K full.blocks v.source k) (sym last.same)
            (subst (λ k. IsGiven K full.blocks k two.w.source) laid.1 full.given);
        such = such-closed file who lun id s attr full.blocks two.w.volume w.volume free full.such last.asked;
      }

  filled-if : (empty in_one_run : Bool) (attr : List ℕ) (n : ℕ) (v w : Both Store H) → (n == 0) ≡ empty → file.in_one_run ≡ in_one_run
      → Such attr [] s.access v.volume → Runs plain K who (fills_if empty in_one_run lun n id) (Ok tt) v w → Filled attr [] n s.access v w
  filled-if true in_one_run attr n v w none wanted h g = record {
    blocks = [];
    count = sym (eqb-true n 0 none);
    given = ap (λ (b : Both Store H). b.source) g.1;
    such = subst (λ (b : Both Store H). Such attr [] s.access b.volume) (sym g.1) h;
  }
  filled-if false in_one_run attr n v w some wanted h g =
      let one = ok-parts plain K who (ask (done (request.Access id mode.Write lun)))
      (λ x. or_undone (request.Deaccess lun) (fills in_one_run lun n)) tt v w g in
      let asked = ask-parts plain K who (done (request.Access id mode.Write lun)) tt v one.w one.first in
      let opened = such-opened file who lun id s attr v.volume one.w.volume h asked.asked in
      let full = filled in_one_run attr n one.w w wanted opened.1 opened.0
      (undone-parts plain K who (request.Deaccess lun) (fills in_one_run lun n) tt one.w w one.rest) in
      record {
        blocks = full.blocks;
        count = full.count;
        given = subst (λ k. IsGiven K full.blocks k w.source) asked.same full.given;
        such = full.such;
      }

  -- a file that has its blocks and attributes was entered and protected
  entered : (dir : FileId) (name : List ℕ) (blocks : List (List ℕ)) (t s' : Store) (v : Store)
      → (id.number == dir.number) ≡ false → (h : Such file.attr blocks s.access t)
      → Grants plain who (asks (request.Enter dir name id)) t v
      → Grants plain who (asks (request.WriteAttr id (change.Protect file.protection))) v s' → HasMadeCopy file dir name id blocks s s'
  entered dir name blocks t s' v apart h g k =
      let from = enters-from (index_of_empty (file_named t dir)) t v dir (record_bytes id name) g.3.changes in
      let r : Store = from.ready in
      let own : (dir.number == 1) ≡ false = entered-own who dir name id t g.3.no_cause in
      let late : (id.number == 1) ≡ false = not-index id.number 6 (omega arith) h.low in
      let protect : File → File = with_replacement (change.Protect file.protection) in
      let last : s' ≡ with_change v id.number protect = k.3.changes in
      let here : v.file id.number ≡ Some h.now = from.others id.number apart ∙ from.is-ready.others id.number late ∙ h.there in
      record {
        made = protect h.now;
        there = ap (λ (x : Store). x.file id.number) last
            ∙ ap (λ b. if b then option_map protect (v.file id.number) else v.file id.number) (same_number id.number)
            ∙ ap (option_map protect) here;
        sequence_is = h.sequence;
        was_free = h.unused;
        owner_is = h.owner;
        protection_is = refl;
        mark = h.mark;
        ident_is = h.ident;
        attr_is = h.attr_is;
        blocks_are = h.blocks_are;
        entered = record {
          before = t;
          after = v;
          as_before = h.others dir.number (other-way id.number dir.number apart) own;
          enters = g.3.changes;
          as_after = ap (λ (x : Store). x.file dir.number) last
              ∙ ap (λ b. if b then option_map protect (v.file id.number) else v.file dir.number) (other-way id.number dir.number apart);
        };
        others = λ n a b other. ap (λ (x : Store). x.file n) last
            ∙ ap (λ c. if c then option_map protect (v.file id.number) else v.file n) a ∙ from.others n b
            ∙ from.is-ready.others n other ∙ h.others n a other;
        access = λ task l. ap (λ (x : Store). x.access task l) last
            ∙ ap (λ (a : ℕ → ℕ → Option Access). a task l) (from.access ∙ from.is-ready.access) ∙ h.access task l;
      }

  -- it got its attributes, and then so
  finished : (dir : FileId) (name : List ℕ) (attr : List ℕ) (blocks : List (List ℕ)) (v w : Both Store H)
      → Such attr blocks s.access v.volume → Runs plain K who (finishes file dir name id) (Ok tt) v w
      → ((id.number == dir.number) ≡ false → HasMadeCopy file dir name id blocks s w.volume) × (w.source ≡ v.source)
  finished dir name attr blocks v w h g =
      let state = request.WriteAttr id (change.Attr file.attr) in
      let enter = request.Enter dir name id in
      let protect = request.WriteAttr id (change.Protect file.protection) in
      let one = ok-parts plain K who (ask (done state)) (λ x. enters file dir name id) tt v w g in
      let stated = ask-parts plain K who (done state) tt v one.w one.first in
      let two = ok-parts plain K who (ask (done enter)) (λ x. or_undone (request.Remove dir name) (ask (done protect))) tt one.w w one.rest
      in
      let named = ask-parts plain K who (done enter) tt one.w two.w two.first in
      let last = ask-parts plain K who (done protect) tt two.w w
      (undone-parts plain K who (request.Remove dir name) (ask (done protect)) tt two.w w two.rest) in (
        (λ apart. entered dir name blocks one.w.volume w.volume two.w.volume apart
            (such-stated file who lun id s attr file.attr blocks v.volume one.w.volume h stated.asked) named.asked last.asked),
        last.same ∙ named.same ∙ stated.same,
      )

pub made-is-made-of : {H : Type 0} (K : Giving H) → MadeIsMadeOf K
made-is-made-of {H} K who file lun dir name id s s' h k g =
    let creation = names_for file.owner (request.Create 0 file.ident (without_end file.attr)) in
    let one = ok-parts plain K who (ask creation)
    (λ i. if_granted (or_undone (request.Delete i) (fills_and_finishes file lun dir name i)) (λ x. gives (Ok i))) id (both s h) (both s' k)
    g in
    let made = ask-parts plain K who creation one.x (both s h) one.w one.first in
    let i : FileId = one.x in
    let two = ok-parts plain K who (or_undone (request.Delete i) (fills_and_finishes file lun dir name i)) (λ x. gives (Ok i)) id one.w
    (both s' k) one.rest in
    let same : id ≡ i = inside i (Ok i) two.rest.0 refl in
    let three = undone-parts plain K who (request.Delete i) (fills_and_finishes file lun dir name i) tt one.w two.w two.first in
    let four = ok-parts plain K who (fills_if (file.blocks == 0) file.in_one_run lun file.blocks i) (λ x. finishes file dir name i) tt one.w
    two.w three in
    let full = filled-if K who file lun i s (file.blocks == 0) file.in_one_run (without_end file.attr) file.blocks one.w four.w refl refl
    (such-created file who i s one.w.volume made.asked) four.first in
    let done = finished K who file lun i s dir name (without_end file.attr) full.blocks four.w two.w full.such four.rest in
    let ends : both s' k ≡ two.w = two.rest.1 in
    subst (λ (j : FileId). IsMadeOf K file dir name j s s' h k) (sym same) (record {
      blocks = full.blocks;
      count = full.count;
      given = subst (λ b. IsGiven K full.blocks h b) (sym (ap (λ (b : Both Store H). b.source) ends ∙ done.1))
          (subst (λ b. IsGiven K full.blocks b four.w.source) made.same full.given);
      makes = λ used. subst (λ b. HasMadeCopy file dir name i full.blocks s b) (sym (ap (λ (b : Both Store H). b.volume) ends))
          (done.0 (apart-from s i.number dir.number full.such.unused used));
    })
  where
    inside : (j : FileId) → (a : Result FileId CopyFault) → Ok id ≡ a → a ≡ Ok j → id ≡ j
    inside j a one other = cc
