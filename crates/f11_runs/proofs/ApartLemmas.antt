-- Files hold their slots apart, through each kind of change.
use Rattle.std.proofs.Common.{◌≡◌, ◌≢◌, ℕ, zero, suc, ◌-◌, ◌≤◌, ◌==◌, ◌&&◌, ◌||◌, ◌⊎◌, inl, inr, Bool, true, false, not, List, [], ◌∷◌}
use Rattle.std.proofs.Common.{◌++◌, take, drop, Option, Some, None, refl, sym, ◌∙◌, ap, subst, arith, option_map, unwrap_or, if◌then◌else◌}
use Rattle.std.proofs.lemmas.Bool.{eq-eqb, ne_eqb, cases_eq}
use Rattle.f11_store.specs.File.{File, no_file, run_need}
use Rattle.f11_store.specs.Store.{Store, free_slots}
use Rattle.f11_store.specs.Changes.{is_in, laid_file, with_change, with_file, with_new_file, with_slots, without_file_at, grown_file, Grows}
use Rattle.f11_store.specs.Changes.{LaysOut, Truncates}
use Rattle.f11_runs.specs.Standing.{AreDistinct, HoldsItsOwn, HoldApart}
use Rattle.f11_runs.proofs.AccessLemmas.{true-false}
use Rattle.f11_runs.proofs.SlotLists.{in-two, in-one, in-take, distinct-take, take-apart, distinct-two, taken-free, taken-distinct}
use Rattle.f11_runs.proofs.SlotLists.{fails-so, in-drop}

-- a file that holds what one held that did so
same-own : (s s' : Store) (n : ℕ) (f g : File) → g.held ≡ f.held
    → ((m : ℕ) → is_in f.held m ≡ true → s.in_use m ≡ true → s'.in_use m ≡ true) → HoldsItsOwn s n f → HoldsItsOwn s' n g
same-own s s' n f g same kept own = record {
  first = ap (take 1) same ∙ own.first;
  used = λ m h. let before : is_in f.held m ≡ true = sym (ap (λ xs. is_in xs m) same) ∙ h in kept m before (own.used m before);
  once = subst AreDistinct (sym same) own.once;
}

-- a file held the slot
abbrev pub Held : Store → ℕ → ℕ → Type 0
Held s n m = (f : File) × (s.file n ≡ Some f) × (is_in f.held m ≡ true)

-- what is true of file k, which becomes o, and of all others
module _ (s s' : Store) (k : ℕ) (o : Option File) (was : HoldApart s) (file_is : (n : ℕ) → s'.file n ≡ (if n == k then o else s.file n))
  where
    at-it : (n : ℕ) (g : File) → n ≡ k → s'.file n ≡ Some g → o ≡ Some g
    at-it n g e is = sym (ap (λ b. if b then o else s.file n) (eq-eqb n k e)) ∙ sym (file_is n) ∙ is

    at-other : (n : ℕ) (g : File) → n ≢ k → s'.file n ≡ Some g → s.file n ≡ Some g
    at-other n g e is = sym (ap (λ b. if b then o else s.file n) (ne_eqb n k e)) ∙ sym (file_is n) ∙ is

    pub set-apart : ((g : File) → o ≡ Some g → HoldsItsOwn s' k g)
        → ((g : File) → o ≡ Some g → (m : ℕ) → is_in g.held m ≡ true → Held s k m ⊎ (s.in_use m ≡ false)) →
        ((n m : ℕ) (f : File) → n ≢ k → s.file n ≡ Some f → is_in f.held m ≡ true → s'.in_use m ≡ true) → HoldApart s'
    set-apart new from others = record {
      each = λ n g is. own n g is (cases_eq n k);
      apart = λ n m x f g ne is so h. by_test n m x f g ne is so h (is_in g.held x) refl;
    }
      where
        own : (n : ℕ) (g : File) → s'.file n ≡ Some g → (n ≡ k) ⊎ (n ≢ k) → HoldsItsOwn s' n g
        own n g is (inl e) = subst (λ (i : ℕ). HoldsItsOwn s' i g) (sym e) (new g (at-it n g e is))
        own n g is (inr e) = same-own s s' n g g refl (λ m h used. others n m g e (at-other n g e is) h) (was.each n g (at-other n g e is))

        -- where it comes from
        source : (n m : ℕ) (g : File) → s'.file n ≡ Some g → is_in g.held m ≡ true → (n ≡ k) ⊎ (n ≢ k)
            → Held s n m ⊎ ((n ≡ k) × (s.in_use m ≡ false))
        source n m g is h (inr e) = inl (g, at-other n g e is, h)
        source n m g is h (inl e) = told (from g (at-it n g e is) m h)
          where
            told : Held s k m ⊎ (s.in_use m ≡ false) → Held s n m ⊎ ((n ≡ k) × (s.in_use m ≡ false))
            told (inl x) = inl (x.0, ap s.file e ∙ x.1, x.2)
            told (inr x) = inr (e, x)

        clash : (n m x : ℕ) → n ≢ m → Held s n x ⊎ ((n ≡ k) × (s.in_use x ≡ false)) → Held s m x ⊎ ((m ≡ k) × (s.in_use x ≡ false)) → ⊥
        clash n m x ne (inl a) (inl b) = true-false (sym b.2 ∙ was.apart n m x a.0 b.0 ne a.1 b.1 a.2)
        clash n m x ne (inl a) (inr b) = true-false (sym ((was.each n a.0 a.1).used x a.2) ∙ b.1)
        clash n m x ne (inr a) (inl b) = true-false (sym ((was.each m b.0 b.1).used x b.2) ∙ a.1)
        clash n m x ne (inr a) (inr b) = ne (a.0 ∙ sym b.0)

        by_test : (n m x : ℕ) (f g : File) → n ≢ m → s'.file n ≡ Some f → s'.file m ≡ Some g → is_in f.held x ≡ true → (b : Bool)
            → is_in g.held x ≡ b → is_in g.held x ≡ false
        by_test n m x f g ne is so h false e = e
        by_test n m x f g ne is so h true e = absurd (clash n m x ne (source n x f is h (cases_eq n k)) (source m x g so e (cases_eq m k)))

-- where files and slots stay
pub apart-stays : (s s' : Store) → ((n : ℕ) → s'.file n ≡ s.file n) → ((n : ℕ) → s'.in_use n ≡ s.in_use n) → HoldApart s → HoldApart s'
apart-stays s s' file kept was = record {
  each = λ n g is. same-own s s' n g g refl (λ m h used. kept m ∙ used) (was.each n g (sym (file n) ∙ is));
  apart = λ n m k f g ne is so. was.apart n m k f g ne (sym (file n) ∙ is) (sym (file m) ∙ so);
}

-- a file is changed, and holds what it held
pub apart-change : (s s' : Store) (k : ℕ) (change : File → File) → ((f : File) → (change f).held ≡ f.held) → HoldApart s
    → s' ≡ with_change s k change → HoldApart s'
apart-change s s' k change same was e = subst HoldApart (sym e) (
    set-apart s (with_change s k change) k (option_map change (s.file k)) was (λ n. refl)
    (λ g is. own g (before (s.file k) refl g is))
    (λ g is m h. held g m h (before (s.file k) refl g is))
    (λ n m f ne is h. (was.each n f is).used m h))
  where
    own : (g : File) → (f : File) × (s.file k ≡ Some f) × (g.held ≡ f.held) → HoldsItsOwn (with_change s k change) k g
    own g (f, is, alike) = same-own s (with_change s k change) k f g alike (λ m h used. used) (was.each k f is)

    held : (g : File) (m : ℕ) → is_in g.held m ≡ true → (f : File) × (s.file k ≡ Some f) × (g.held ≡ f.held)
        → Held s k m ⊎ (s.in_use m ≡ false)
    held g m h (f, is, alike) = inl (f, is, sym (ap (λ xs. is_in xs m) alike) ∙ h)

    before : (o : Option File) → s.file k ≡ o → (g : File) → option_map change o ≡ Some g
        → (f : File) × (s.file k ≡ Some f) × (g.held ≡ f.held)
    before None is g h = absurd (cc)
    before (Some f) is g h = let same_file : change f ≡ g = cc in (f, is, sym (ap (λ (x : File). x.held) same_file) ∙ same f)

-- a file is made in a slot that isn't in use
pub apart-made : (s : Store) (slot : ℕ) (f : File) → f.held ≡ slot ∷ [] → s.in_use slot ≡ false → HoldApart s
    → HoldApart (with_new_file s slot f)
apart-made s slot f held free was =
    set-apart s (with_new_file s slot f) slot (Some f) was (λ n. refl)
    (λ g is. let same : f ≡ g = cc in subst (λ (x : File). HoldsItsOwn (with_new_file s slot f) slot x) same own)
    (λ g is m h. let same : f ≡ g = cc in
    inr (let e : slot ≡ m = in-one slot m (sym (ap (λ xs. is_in xs m) held) ∙ ap (λ (x : File). is_in x.held m) same ∙ h) in
    sym (ap s.in_use e) ∙ free))
    (λ n m g ne is h. right (is_in (slot ∷ []) m) (s.in_use m) ((was.each n g is).used m h))
  where
    right : (b c : Bool) → c ≡ true → (b || c) ≡ true
    right true c h = refl
    right false c h = h

    own : HoldsItsOwn (with_new_file s slot f) slot f
    own = record {
      first = ap (take 1) held;
      used = λ m h. ap (λ b. b || s.in_use m) (sym (ap (λ xs. is_in xs m) held) ∙ h);
      once = subst AreDistinct (sym held) (refl, tt);
    }

-- a file gets the least free slots more
apart-more :
    (s : Store) (k added free : ℕ) (f g : File) → HoldApart s → s.file k ≡ Some f → g.held ≡ f.held ++ take added (free_slots s) →
    HoldApart (record (with_file (with_slots s (take added (free_slots s))) k (Some g)) { free = free })
apart-more s k added free f g was is holds =
    set-apart s _ k (Some g) was (λ n. refl)
    (λ h e. let held : f.held ++ more ≡ h.held = sym holds ∙ ap held_of e in record {
      first = sym (ap (take 1) held) ∙ first-stays f.held own.first;
      used = λ m x. used m (sym (in-two f.held more m) ∙ ap (λ xs. is_in xs m) held ∙ x);
      once = subst AreDistinct held (distinct-two f.held more own.once (taken-distinct s added) apart);
    })
    (λ h e m x. let held : f.held ++ more ≡ h.held = sym holds ∙ ap held_of e in
    where-from m (sym (in-two f.held more m) ∙ ap (λ xs. is_in xs m) held ∙ x))
    (λ n m h ne e x. right (is_in more m) (s.in_use m) ((was.each n h e).used m x))
  where
    more : List ℕ
    more = take added (free_slots s)

    held_of : Option File → List ℕ
    held_of o = (unwrap_or o no_file).held

    own : HoldsItsOwn s k f
    own = was.each k f is

    right : (b c : Bool) → c ≡ true → (b || c) ≡ true
    right true c h = refl
    right false c h = h

    first-stays : (xs : List ℕ) → take 1 xs ≡ k ∷ [] → take 1 (xs ++ more) ≡ k ∷ []
    first-stays [] h = absurd (cc)
    first-stays (x ∷ xs) h = h

    apart : (m : ℕ) → is_in f.held m ≡ true → is_in more m ≡ false
    apart m h = by_test (is_in more m) refl
      where
        by_test : (b : Bool) → is_in more m ≡ b → b ≡ false
        by_test false e = refl
        by_test true e = absurd (true-false (sym (own.used m h) ∙ taken-free s added m e))

    used : (m : ℕ) → (is_in f.held m || is_in more m) ≡ true → (is_in more m || s.in_use m) ≡ true
    used m h = by_test (is_in f.held m) (is_in more m) refl h
      where
        by_test : (b c : Bool) → is_in f.held m ≡ b → (b || c) ≡ true → (c || s.in_use m) ≡ true
        by_test b true e h = refl
        by_test true false e h = own.used m e
        by_test false false e h = absurd (cc)

    where-from : (m : ℕ) → (is_in f.held m || is_in more m) ≡ true → Held s k m ⊎ (s.in_use m ≡ false)
    where-from m h = by_test (is_in f.held m) (is_in more m) refl refl h
      where
        by_test : (b c : Bool) → is_in f.held m ≡ b → is_in more m ≡ c → (b || c) ≡ true → Held s k m ⊎ (s.in_use m ≡ false)
        by_test true c e d h = inl (f, is, e)
        by_test false true e d h = inr (taken-free s added m d)
        by_test false false e d h = absurd (cc)

-- a file grows
pub apart-grown : (s s' : Store) (k n : ℕ) (blocks : List (List ℕ)) → HoldApart s → Grows s k n blocks s' → HoldApart s'
apart-grown s s' k n blocks was grows =
    subst HoldApart (sym grows.store_is)
    (apart-more s k grows.added (s.free - n) grows.before (grown_file s grows.before blocks grows.added grows.pointers grows.room) was
    grows.was refl)

-- a file is laid out in one run
pub apart-laid : (s s' : Store) (k n : ℕ) → HoldApart s → LaysOut s k n s' → HoldApart s'
apart-laid s s' k n was laid =
    subst HoldApart (sym laid.store_is)
    (apart-more s k (run_need laid.before.room n) (s.free - n) laid.before (laid_file s laid.before n) was laid.was refl)

-- a slot of another file isn't among those that leave use
stays-in-use : (b c : Bool) → b ≡ false → c ≡ true → (not b && c) ≡ true
stays-in-use false true h k = refl
stays-in-use true c h k = absurd (cc)
stays-in-use false false h k = absurd (cc)

-- a file is cut
pub apart-cut : (s s' : Store) (k to : ℕ) → HoldApart s → Truncates s k to s' → HoldApart s'
apart-cut s s' k to was cut = subst HoldApart (sym cut.store_is) (
    set-apart s _ k _ was (λ n. refl)
    (λ g is. let held : take cut.headers f.held ≡ g.held = ap held_of is in record {
      first = sym (ap (take 1) held) ∙ first-stays cut.headers f.held cut.some_header own.first;
      used = λ m h. used m (ap (λ xs. is_in xs m) held ∙ h);
      once = subst AreDistinct held (distinct-take cut.headers f.held own.once);
    })
    (λ g is m h. let held : take cut.headers f.held ≡ g.held = ap held_of is in
    inl (f, cut.was, in-take cut.headers f.held m (ap (λ xs. is_in xs m) held ∙ h)))
    (λ n m g ne is h.
    stays-in-use (is_in (drop cut.headers f.held) m) (s.in_use m)
    (fails-so (is_in (drop cut.headers f.held) m) (is_in f.held m) (in-drop cut.headers f.held m) (was.apart n k m g f ne is cut.was h))
    ((was.each n g is).used m h)))
  where
    f : File
    f = cut.before

    held_of : Option File → List ℕ
    held_of o = (unwrap_or o no_file).held

    own : HoldsItsOwn s k f
    own = was.each k f cut.was

    first-stays : (i : ℕ) (xs : List ℕ) → 1 ≤ i → take 1 xs ≡ k ∷ [] → take 1 (take i xs) ≡ k ∷ []
    first-stays zero xs i h = absurd (omega arith)
    first-stays (suc i) [] le h = absurd (cc)
    first-stays (suc i) (x ∷ xs) le h = h

    used : (m : ℕ) → is_in (take cut.headers f.held) m ≡ true → (not (is_in (drop cut.headers f.held) m) && s.in_use m) ≡ true
    used m h =
        stays-in-use (is_in (drop cut.headers f.held) m) (s.in_use m) (take-apart cut.headers f.held m own.once h)
        (own.used m (in-take cut.headers f.held m h))

-- a file goes
pub apart-gone : (s : Store) (k : ℕ) → HoldApart s → HoldApart (without_file_at s k)
apart-gone s k was =
    set-apart s (without_file_at s k) k None was (λ n. refl) (λ g is. absurd (cc)) (λ g is m h. absurd (cc))
    (λ n m f ne is h.
    stays-in-use (is_in (unwrap_or (s.file k) no_file).held m) (s.in_use m) (of-it (s.file k) refl n m f ne is h)
    ((was.each n f is).used m h))
  where
    of-it : (o : Option File) → s.file k ≡ o → (n m : ℕ) (f : File) → n ≢ k → s.file n ≡ Some f → is_in f.held m ≡ true
        → is_in (unwrap_or o no_file).held m ≡ false
    of-it None e n m f ne is h = refl
    of-it (Some g) e n m f ne is h = was.apart n k m f g ne is e h
