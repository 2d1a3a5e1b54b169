-- A store that stands does so after each request.
use Rattle.std.proofs.Common.{◌≡◌, ℕ, zero, suc, ◌<◌, ◌==◌, ◌&&◌, ◌||◌, Bool, true, false, List, [], ◌∷◌, Option, Some, None, Result, Ok}
use Rattle.std.proofs.Common.{Err, refl, sym, ◌∙◌, ap, subst, is_none, is_some, option_map, take, if◌then◌else◌, fold, nat_lt}
use Rattle.std.specs.List.{range_with_len}
use Rattle.std.proofs.lemmas.Bool.{eq-eqb, eqb-true}
use Rattle.f11_store.specs.declared.callers.Uic.{Uic}
use Rattle.f11_store.specs.declared.files.FileId.{FileId}
use Rattle.f11_store.specs.declared.files.Change.{Change}
use Rattle.f11_store.specs.declared.files.Change.TheVariants as change
use Rattle.f11_store.specs.declared.refusals.Refusal.{Refusal}
use Rattle.f11_store.specs.declared.requests.Reply.{Reply}
use Rattle.f11_store.specs.declared.requests.Request.{Request}
use Rattle.f11_store.specs.declared.requests.Request.TheVariants as request
use Rattle.f11_store.specs.Accesses.{FreeIsEmpty}
use Rattle.f11_store.specs.File.{File}
use Rattle.f11_store.specs.Store.{Store, Access, id_held, least_free, is_same, is_accessed}
use Rattle.f11_store.specs.Causes.{is_missing, first_refusal, is_bad}
use Rattle.f11_store.specs.Changes.{is_in, with_access, with_change, with_block, with_replacement, with_delete_mark, without_file_at}
use Rattle.f11_store.specs.Changes.{with_marked_file, is_due, after_giving_up, after_deaccess, after_delete, GetsSlots, Grows, GrowsIndex}
use Rattle.f11_store.specs.Changes.{with_more_slots, EntersAt, EntersAtEnd, Changes}
use Rattle.f11_store.specs.Step.{Step}
use Rattle.f11_store.specs.Run.{Call, Answer}
use Rattle.f11_store.proofs.FateLaws.{Fate, fate-kept, gained-access, gained-keeps, stays, altered, new, gone, held-at, fate-given-up}
use Rattle.f11_store.proofs.FateLaws.{fate-gone, fate-grows}
use Rattle.f11_store.proofs.FileLaws.{least_free_is_free}
use Rattle.f11_store.proofs.StepFates.{fate-served, fate-create, replacement-sequence}
use Rattle.f11_store.proofs.StoreLemmas.{none_first, none_rest}
use Rattle.f11_runs.specs.Each.{Steps, Within}
use Rattle.f11_runs.specs.Laws.{StepStands, RunStands, UnaccessedStands, StandingIsEmpty, StandingRunIsTidy, AccessesStay}
use Rattle.f11_runs.specs.Standing.{AccessesStand, HoldApart, IsStanding, is_lost}
use Rattle.f11_runs.proofs.AccessLemmas.{IsThere, there-is, there-file, true-false}
use Rattle.f11_runs.proofs.EachLaws.{each-within, each-seen, run-is-steps}
use Rattle.f11_runs.proofs.ApartLemmas.{apart-stays, apart-change, apart-made, apart-grown, apart-laid, apart-cut, apart-gone}

-- no file is in a slot that isn't in use
pub apart-empty : (s : Store) → HoldApart s → FreeIsEmpty s
apart-empty s was n free = by_file (s.file n) refl
  where
    in-first : (xs : List ℕ) → take 1 xs ≡ n ∷ [] → is_in xs n ≡ true
    in-first [] h = absurd (cc)
    in-first (x ∷ xs) h = let e : x ≡ n = cc in ap (λ b. b || is_in xs n) (eq-eqb x n e)

    by_file : (o : Option File) → s.file n ≡ o → o ≡ None
    by_file None is = refl
    by_file (Some f) is =
        let own = was.each n f is in
        absurd (true-false (sym (own.used n (in-first f.held own.first)) ∙ free))

pub standing-is-empty : StandingIsEmpty
standing-is-empty s is = apart-empty s is.slots

pub unaccessed-stands : UnaccessedStands
unaccessed-stands s slots none = record { accesses = λ task lun low small. ap (is_lost s) (none task lun); slots = slots }

-- the slots after an access is given up
apart-given-up : (s : Store) (task lun : ℕ) (o : Option Access) → HoldApart s → HoldApart (after_giving_up s task lun o)
apart-given-up s task lun None was = was
apart-given-up s task lun (Some a) was = by_test (is_due t a.file)
  where
    t : Store
    t = with_access s task lun None

    here : HoldApart t
    here = apart-stays s t (λ n. refl) (λ n. refl) was

    by_test : (b : Bool) → HoldApart (if b then without_file_at t a.file.number else t)
    by_test false = here
    by_test true = apart-gone t a.file.number here

apart-released : (luns : List ℕ) (s : Store) (task : ℕ) → HoldApart s → HoldApart (fold (λ t lun. after_deaccess t task lun) s luns)
apart-released [] s task was = was
apart-released (l ∷ luns) s task was = apart-released luns (after_deaccess s task l) task (apart-given-up s task l (s.access task l) was)

-- the index file grows, or does first
apart-index : (s s' : Store) (n : ℕ) → HoldApart s → GrowsIndex s n s' → HoldApart s'
apart-index s s' n was h =
    subst HoldApart (sym h.store_is)
    (apart-stays h.grown (with_more_slots h.grown n) (λ m. refl) (λ m. refl) (apart-grown s h.grown 1 n [] was h.grows))

apart-gained : (n : ℕ) (s s' : Store) → HoldApart s → GetsSlots n s s' → HoldApart s'
apart-gained zero s s' was e = subst HoldApart (sym e) was
apart-gained (suc n) s s' was e = apart-index s s' (suc n) was e

-- a record is entered
apart-entered-at-end : (b : Bool) (s : Store) (d : FileId) (i : ℕ) (r : List ℕ) (s' : Store) → HoldApart s → EntersAtEnd b s d i r s'
    → HoldApart s'
apart-entered-at-end false s d i r s' was e = apart-change s s' d.number _ (λ f. refl) was e
apart-entered-at-end true s d i r s' was (grown, h, e) =
    apart-change grown s' d.number _ (λ f. refl) (apart-grown h.ready grown d.number 1 _ (apart-gained _ s h.ready was h.gains) h.makes) e

apart-entered : (o : Option ℕ) (s : Store) (d : FileId) (r : List ℕ) (s' : Store) → HoldApart s → EntersAt o s d r s' → HoldApart s'
apart-entered (Some i) s d r s' was e = apart-change s s' d.number _ (λ f. refl) was e
apart-entered None s d r s' was e = apart-entered-at-end _ s d _ r s' was e

apart-deleted : (s : Store) (id : FileId) → HoldApart s → HoldApart (after_delete s id)
apart-deleted s id was = by_test (is_accessed s id)
  where
    by_test : (b : Bool) → HoldApart (if b then with_marked_file s id.number else without_file_at s id.number)
    by_test true = apart-change s (with_marked_file s id.number) id.number with_delete_mark (λ f. refl) was refl
    by_test false = apart-gone s id.number was

replacement-held : (c : Change) (f : File) → (with_replacement c f).held ≡ f.held
replacement-held (change.Attr a) f = refl
replacement-held (change.Ident i) f = refl
replacement-held (change.Protect p) f = refl

-- the slots after a request that is served
apart-served : (s : Store) (task : ℕ) (caller : Uic) (r : Request) (block : List ℕ) (s' : Store) → HoldApart s
    → first_refusal s task caller r ≡ None → Changes s task caller r block s' → HoldApart s'
apart-served s task caller (request.Create word ident attr) block s' was none h =
    subst HoldApart (sym h.makes)
    (apart-made h.ready (least_free h.ready) _ refl (least_free_is_free h.ready h.enough).unused (apart-gained _ s h.ready was h.gains))
apart-served s task caller (request.Extend lun n) block s' was none h =
    apart-grown h.ready s' (id_held s task lun).number n _ (apart-gained _ s h.ready was h.gains) h.makes
apart-served s task caller (request.Contiguous lun n) block s' was none h = apart-laid s s' (id_held s task lun).number n was h
apart-served s task caller (request.Truncate lun to) block s' was none h = apart-cut s s' (id_held s task lun).number to was h
apart-served s task caller (request.Delete id) block s' was none h = subst HoldApart (sym h) (apart-deleted s id was)
apart-served s task caller (request.GrowIndex n) block s' was none h = apart-index s s' n was h
apart-served s task caller (request.Access id m lun) block s' was none h =
    subst HoldApart (sym h) (apart-stays s _ (λ n. refl) (λ n. refl) was)
apart-served s task caller (request.Deaccess lun) block s' was none h =
    subst HoldApart (sym h) (apart-given-up s task lun (s.access task lun) was)
apart-served s task caller request.Release block s' was none h = subst HoldApart (sym h) (apart-released (range_with_len 0 4) s task was)
apart-served s task caller (request.ReadBlock lun vbn) block s' was none h = subst HoldApart (sym h) was
apart-served s task caller (request.WriteBlock lun vbn) block s' was none h =
    apart-change s s' (id_held s task lun).number (with_block vbn block) (λ f. refl) was h
apart-served s task caller (request.Find d name) block s' was none h = subst HoldApart (sym h) was
apart-served s task caller (request.Enter d name id) block s' was none h = apart-entered _ s d _ s' was h
apart-served s task caller (request.Remove d name) block s' was none h = apart-change s s' d.number _ (λ f. refl) was h
apart-served s task caller (request.ReadAttr id) block s' was none h = subst HoldApart (sym h) was
apart-served s task caller (request.WriteAttr id c) block s' was none h =
    apart-change s s' id.number (with_replacement c) (replacement-held c) was h
apart-served s task caller request.Space block s' was none h = subst HoldApart (sym h) was

-- a file that was there and is accessed is there
abbrev pub KeepsThere : Store → Store → Type 0
KeepsThere s s' = (id : FileId) → is_missing s id ≡ false → is_accessed s' id ≡ true → is_missing s' id ≡ false

there-by-fate : (s s' : Store) → ((n : ℕ) → Fate s s' n) → KeepsThere s s'
there-by-fate s s' fates id there held = by_fate (there-is s id there) (fates id.number)
  where
    by_fate : IsThere s id → Fate s s' id.number → is_missing s' id ≡ false
    by_fate here (stays same) = ap is_none (there-file s' id (record { file = here.file; is = same ∙ here.is; sequence = here.sequence }))
    by_fate here (altered f g was now alike marked) =
        let same : f ≡ here.file = let files : Some f ≡ Some here.file = sym was ∙ here.is in cc in
        ap is_none (there-file s' id (record { file = g; is = now; sequence = alike ∙ ap (λ (x : File). x.sequence) same ∙ here.sequence }))
    by_fate here (new none) = absurd (let no : None ≡ Some here.file = sym none ∙ here.is in cc)
    by_fate here (gone f was nobody) =
        let same : f ≡ here.file = let files : Some f ≡ Some here.file = sym was ∙ here.is in cc in
        absurd (true-false (sym held ∙ nobody id refl (sym (ap (λ (x : File). x.sequence) same ∙ here.sequence))))

there-changed : (s s' : Store) (k : ℕ) (change : File → File) → ((f : File) → (change f).sequence ≡ f.sequence)
    → s' ≡ with_change s k change → KeepsThere s s'
there-changed s s' k change keeps is id there held =
    subst (λ (x : Store). is_missing x id ≡ false) (sym is) (by_number (id.number == k) refl (there-is s id there))
  where
    by_number : (b : Bool) → (id.number == k) ≡ b → IsThere s id → is_missing (with_change s k change) id ≡ false
    by_number false e here =
        ap is_none (there-file (with_change s k change) id
        (record {
          file = here.file;
          is = ap (λ b. if b then option_map change (s.file k) else s.file id.number) e ∙ here.is;
          sequence = here.sequence;
        }))
    by_number true e here =
        ap is_none (there-file (with_change s k change) id (record {
          file = change here.file;
          is = ap (λ b. if b then option_map change (s.file k) else s.file id.number) e
              ∙ ap (option_map change) (ap s.file (sym (eqb-true id.number k e)) ∙ here.is);
          sequence = keeps here.file ∙ here.sequence;
        }))

-- each access stands where it was to a file that was there
accesses-stand : (s s' : Store) → KeepsThere s s' → ((task lun : ℕ) → task < 8 → lun < 4 → is_lost s (s'.access task lun) ≡ false)
    → AccessesStand s'
accesses-stand s s' there before task lun low small = by_access (s'.access task lun) refl (before task lun low small)
  where
    by_access : (o : Option Access) → s'.access task lun ≡ o → is_lost s o ≡ false → is_lost s' o ≡ false
    by_access None is h = refl
    by_access (Some a) is h = there a.file h (held-at (λ _. true) s' task lun a a.file low small is (same-itself a.file) refl)
      where
        same-itself : (id : FileId) → is_same id id ≡ true
        same-itself id = ap (λ b. b && (id.sequence == id.sequence)) (eq-eqb id.number id.number refl) ∙ eq-eqb id.sequence id.sequence refl

-- and where the accesses are the same
same-stand : (s s' : Store) → AccessesStand s → KeepsThere s s' → s'.access ≡ s.access → AccessesStand s'
same-stand s s' was there same =
    accesses-stand s s' there (λ task lun low small. ap (λ (a : ℕ → ℕ → Option Access). is_lost s (a task lun)) same
    ∙ was task lun low small)

-- an access is taken or given up
stand-with : (s s' : Store) (task lun : ℕ) (o : Option Access) → AccessesStand s → is_lost s o ≡ false → KeepsThere s s'
    → s'.access ≡ (with_access s task lun o).access → AccessesStand s'
stand-with s s' task lun o was standing there same =
    accesses-stand s s' there (λ t l low small. ap (λ (a : ℕ → ℕ → Option Access). is_lost s (a t l)) same
    ∙ by_test ((t == task) && (l == lun)) (s.access t l) (was t l low small))
  where
    by_test : (b : Bool) (x : Option Access) → is_lost s x ≡ false → is_lost s (if b then o else x) ≡ false
    by_test true x h = standing
    by_test false x h = h

stand-given-up : (s : Store) (task lun : ℕ) (o : Option Access) → AccessesStand s → AccessesStand (after_giving_up s task lun o)
stand-given-up s task lun None was = was
stand-given-up s task lun (Some a) was =
    stand-with s (after_giving_up s task lun (Some a)) task lun None was refl (there-by-fate s _ (λ n. fate-given-up s task lun n (Some a)))
    (by_test (is_due (with_access s task lun None) a.file))
  where
    by_test : (b : Bool) → (if b then without_file_at (with_access s task lun None) a.file.number else with_access s task lun None).access
        ≡ (with_access s task lun None).access
    by_test true = refl
    by_test false = refl

stand-released : (luns : List ℕ) (s : Store) (task : ℕ) → AccessesStand s → AccessesStand (fold (λ t lun. after_deaccess t task lun) s luns)
stand-released [] s task was = was
stand-released (l ∷ luns) s task was = stand-released luns (after_deaccess s task l) task (stand-given-up s task l (s.access task l) was)

stand-changed : (s s' : Store) (k : ℕ) (change : File → File) → ((f : File) → (change f).sequence ≡ f.sequence) → AccessesStand s
    → s' ≡ with_change s k change → AccessesStand s'
stand-changed s s' k change keeps was is = same-stand s s' was (there-changed s s' k change keeps is) (ap (λ (x : Store). x.access) is)

stand-grown : (s s' : Store) (k n : ℕ) (blocks : List (List ℕ)) → AccessesStand s → Grows s k n blocks s' → AccessesStand s'
stand-grown s s' k n blocks was grows =
    same-stand s s' was (there-by-fate s s' (λ m. fate-grows s s' k n m blocks grows)) (ap (λ (x : Store). x.access) grows.store_is)

stand-gained : (n : ℕ) (s s' : Store) → AccessesStand s → GetsSlots n s s' → AccessesStand s'
stand-gained n s s' was e =
    same-stand s s' was (there-by-fate s s' (λ m. fate-kept s s' m (gained-keeps s s' n m e))) (gained-access s s' n e)

stand-entered-at-end : (b : Bool) (s : Store) (d : FileId) (i : ℕ) (r : List ℕ) (s' : Store) → AccessesStand s → EntersAtEnd b s d i r s'
    → AccessesStand s'
stand-entered-at-end false s d i r s' was e = stand-changed s s' d.number _ (λ f. refl) was e
stand-entered-at-end true s d i r s' was (grown, h, e) =
    stand-changed grown s' d.number _ (λ f. refl) (stand-grown h.ready grown d.number 1 _ (stand-gained _ s h.ready was h.gains) h.makes) e

stand-entered : (o : Option ℕ) (s : Store) (d : FileId) (r : List ℕ) (s' : Store) → AccessesStand s → EntersAt o s d r s' → AccessesStand s'
stand-entered (Some i) s d r s' was e = stand-changed s s' d.number _ (λ f. refl) was e
stand-entered None s d r s' was e = stand-entered-at-end _ s d _ r s' was e

stand-deleted : (s : Store) (id : FileId) → AccessesStand s → is_missing s id ≡ false → AccessesStand (after_delete s id)
stand-deleted s id was there = by_test (is_accessed s id) refl
  where
    by_test : (b : Bool) → is_accessed s id ≡ b → AccessesStand (if b then with_marked_file s id.number else without_file_at s id.number)
    by_test true e = stand-changed s (with_marked_file s id.number) id.number with_delete_mark (λ f. refl) was refl
    by_test false e = same-stand s (without_file_at s id.number) was (there-by-fate s _ (λ n. fate-gone s id n there e)) refl

-- the accesses after a request that is served
pub accesses-served : (s : Store) (task : ℕ) (caller : Uic) (r : Request) (block : List ℕ) (s' : Store) → FreeIsEmpty s → AccessesStand s
    → first_refusal s task caller r ≡ None
    → Changes s task caller r block s' → AccessesStand s'
accesses-served s task caller (request.Create word ident attr) block s' empty was none h =
    same-stand s s' was (there-by-fate s s' (λ n. fate-create s s' caller word ident attr n empty h))
    (ap (λ (x : Store). x.access) h.makes ∙ gained-access s h.ready _ h.gains)
accesses-served s task caller (request.Extend lun n) block s' empty was none h =
    stand-grown h.ready s' (id_held s task lun).number n _ (stand-gained _ s h.ready was h.gains) h.makes
accesses-served s task caller (request.Contiguous lun n) block s' empty was none h =
    same-stand s s' was (there-by-fate s s' (λ m. fate-served s task caller (request.Contiguous lun n) block s' m tt h tt))
    (ap (λ (x : Store). x.access) h.store_is)
accesses-served s task caller (request.Truncate lun to) block s' empty was none h =
    same-stand s s' was (there-by-fate s s' (λ n. fate-served s task caller (request.Truncate lun to) block s' n tt h tt))
    (ap (λ (x : Store). x.access) h.store_is)
accesses-served s task caller (request.Delete id) block s' empty was none h =
    subst AccessesStand (sym h)
    (stand-deleted s id was (none_first (is_missing s id) _ _ (none_rest (nat_lt id.number 6) _ _ (none_rest (is_bad id) _ _ none))))
accesses-served s task caller (request.GrowIndex n) block s' empty was none h =
    same-stand s s' was (there-by-fate s s' (λ m. fate-served s task caller (request.GrowIndex n) block s' m tt h tt))
    (ap (λ (x : Store). x.access) (h.store_is ∙ ap (λ (x : Store). with_more_slots x n) h.grows.store_is))
accesses-served s task caller (request.Access id m lun) block s' empty was none h =
    let one = none_rest (is_bad id) _ _ none in
    let two = none_rest (is_some (s.access task lun)) _ _ one in
    let three = none_rest (nat_lt id.number 4) _ _ two in
    stand-with s s' task lun (Some (record { file = id; mode = m })) was (none_first (is_missing s id) _ _ three)
    (there-by-fate s s' (λ n. stays (ap (λ (x : Store). x.file n) h))) (ap (λ (x : Store). x.access) h)
accesses-served s task caller (request.Deaccess lun) block s' empty was none h =
    subst AccessesStand (sym h) (stand-given-up s task lun (s.access task lun) was)
accesses-served s task caller request.Release block s' empty was none h =
    subst AccessesStand (sym h) (stand-released (range_with_len 0 4) s task was)
accesses-served s task caller (request.ReadBlock lun vbn) block s' empty was none h = subst AccessesStand (sym h) was
accesses-served s task caller (request.WriteBlock lun vbn) block s' empty was none h =
    stand-changed s s' (id_held s task lun).number (with_block vbn block) (λ f. refl) was h
accesses-served s task caller (request.Find d name) block s' empty was none h = subst AccessesStand (sym h) was
accesses-served s task caller (request.Enter d name id) block s' empty was none h = stand-entered _ s d _ s' was h
accesses-served s task caller (request.Remove d name) block s' empty was none h = stand-changed s s' d.number _ (λ f. refl) was h
accesses-served s task caller (request.ReadAttr id) block s' empty was none h = subst AccessesStand (sym h) was
accesses-served s task caller (request.WriteAttr id c) block s' empty was none h =
    stand-changed s s' id.number (with_replacement c) (replacement-sequence c) was h
accesses-served s task caller request.Space block s' empty was none h = subst AccessesStand (sym h) was

-- a step
pub step-accesses : (s s' : Store) (c : Call) (a : Answer) → FreeIsEmpty s → AccessesStand s → Steps s c a s' → AccessesStand s'
step-accesses s s' c a empty was h = by_answer a.result h
  where
    by_answer : (result : Result Reply Refusal) → Step s c.task c.caller c.request c.block result s' a.block → AccessesStand s'
    by_answer (Ok reply) k = accesses-served s c.task c.caller c.request c.block s' empty was k.no_cause k.changes
    by_answer (Err e) k = subst AccessesStand (sym k.store_stays) was

step-slots : (s s' : Store) (c : Call) (a : Answer) → HoldApart s → Steps s c a s' → HoldApart s'
step-slots s s' c a was h = by_answer a.result h
  where
    by_answer : (result : Result Reply Refusal) → Step s c.task c.caller c.request c.block result s' a.block → HoldApart s'
    by_answer (Ok reply) k = apart-served s c.task c.caller c.request c.block s' was k.no_cause k.changes
    by_answer (Err e) k = subst HoldApart (sym k.store_stays) was

pub step-stands : StepStands
step-stands s s' c a is h = record {
  accesses = step-accesses s s' c a (apart-empty s is.slots) is.accesses h;
  slots = step-slots s s' c a is.slots h;
}

-- and all the way
pub run-stands : RunStands
run-stands s s' cs bs is h =
    each-within Steps IsStanding (λ c. Unit {0}) (λ t u c a _ was one. step-stands t u c a was one) s s' cs bs (λ k d within. tt) is
    (run-is-steps s s' cs bs h)

pub standing-run-is-tidy : StandingRunIsTidy
standing-run-is-tidy s s' cs bs is h =
    each-seen (Within IsStanding Steps) (Within FreeIsEmpty Steps) (λ t. t)
    (λ t u c a (was, one, now). (standing-is-empty t was, one, standing-is-empty u now)) s s' cs bs
    (run-stands s s' cs bs is h).0

pub accesses-stay : AccessesStay
accesses-stay s s' cs bs was h =
    (each-within (Within FreeIsEmpty Steps) AccessesStand (λ c. Unit {0}) (λ t u c a _ so one. step-accesses t u c a one.0 so one.1) s s' cs
    bs (λ k d within. tt) was h).1
