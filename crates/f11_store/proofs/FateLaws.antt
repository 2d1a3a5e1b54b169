-- What a step makes of the files that are accessed.
use Rattle.std.proofs.Common.{◌≡◌, ℕ, ◌+◌, ◌<◌, ◌==◌, ◌&&◌, Bool, true, false, not, List, Option, Some, None, refl, sym, ◌∙◌, ap, subst}
use Rattle.std.proofs.Common.{arith, option_map, if◌then◌else◌, is_none, unwrap_or, zero, suc}
use Rattle.std.specs.List.{range_with_len, list_any}
use Rattle.std.specs.Option.{option_and_then}
use Rattle.std.specs.Int.{bit_at}
use Rattle.std.proofs.lemmas.Bool.{eqb-true, and_parts, not-true}
use Rattle.std.proofs.lemmas.List.Folds.{list_any_at}
use Rattle.std.proofs.lemmas.List.FromFn.{get_or-range_with_len, length-range_with_len}
use Rattle.std.proofs.lemmas.Nat.Bits.{bit_at_and, bit_at_or}
use Rattle.f11_store.specs.declared.files.FileId.{FileId}
use Rattle.f11_store.specs.declared.files.Mode.{Mode}
use Rattle.f11_store.specs.File.{File, no_file, is_marked, with_contiguous, without_contiguous}
use Rattle.f11_store.specs.Store.{Store, Access, of_sequence, file_of, is_same, is_to, is_held, is_accessed, file_named}
use Rattle.f11_store.specs.Causes.{is_missing}
use Rattle.f11_store.specs.Changes.{without_file_at, after_giving_up, is_due, with_change, with_access, Grows, LaysOut, Truncates}
use Rattle.f11_store.specs.Changes.{GetsSlots, GrowsIndex, with_more_slots}
use Rattle.f11_store.specs.Accesses.{mark_of}

-- one of the first numbers settles the answer
pub any-range : (p : ℕ → Bool) (n i : ℕ) → i < n → p i ≡ true → list_any p (range_with_len 0 n) ≡ true
any-range p n i below is =
    let at : 0 + i ≡ i = omega arith in
    list_any_at p (range_with_len 0 n) i 0 (omega (arith, length-range_with_len 0 n)) (ap p (get_or-range_with_len 0 n i 0 below ∙ at) ∙ is)

both-true : (b c : Bool) → b ≡ true → c ≡ true → (b && c) ≡ true
both-true b c is so = rw is so

-- an access that stands is found
pub held-at : (test : Mode → Bool) (s : Store) (task lun : ℕ) (a : Access) (id : FileId) → task < 8 → lun < 4 → s.access task lun ≡ Some a
    → is_same a.file id ≡ true → test a.mode ≡ true
    → is_held test s id ≡ true
unfolding is_held
held-at test s task lun a id low small is same passes =
    any-range (λ t. list_any (λ l. is_to test id (s.access t l)) (range_with_len 0 4)) 8 task low
    (any-range (λ l. is_to test id (s.access task l)) 4 lun small
    (ap (is_to test id) is ∙ both-true (is_same a.file id) (test a.mode) same passes))

-- what a step makes of the file under a number: it stays; it is changed, and is marked as it was; it is new; or it goes, and nobody
-- accesses it
pub data Fate (s s' : Store) (n : ℕ) : Type 0 where
  stays : s'.file n ≡ s.file n → Fate s s' n
  altered : (f g : File) → s.file n ≡ Some f → s'.file n ≡ Some g → g.sequence ≡ f.sequence → is_marked g ≡ is_marked f → Fate s s' n
  new : s.file n ≡ None → Fate s s' n
  gone : (f : File) → s.file n ≡ Some f → ((id : FileId) → id.number ≡ n → id.sequence ≡ f.sequence → is_accessed s' id ≡ false)
      → Fate s s' n

-- of a file that is there
seen : ℕ → Option File → Option Bool
seen q o = option_map is_marked (option_and_then (of_sequence q) o)

pub seen-some : (q : ℕ) (f : File) (m : Bool) → option_map is_marked (if f.sequence == q then Some f else None) ≡ Some m
    → (f.sequence == q) ≡ true
seen-some q f m is = by_test (f.sequence == q) is
  where
    by_test : (b : Bool) → option_map is_marked (if b then Some f else None) ≡ Some m → b ≡ true
    by_test true h = refl
    by_test false h = absurd (cc)

pub mark-stays : (s s' : Store) (id : FileId) (m : Bool) → Fate s s' id.number → mark_of s id ≡ Some m → is_accessed s' id ≡ true
    → mark_of s' id ≡ Some m
mark-stays s s' id m (stays same) is held = ap (λ o. option_map is_marked (option_and_then (of_sequence id.sequence) o)) same ∙ is
mark-stays s s' id m (altered f g was now alike marked) is held =
    rw now (at-same (f.sequence == id.sequence) (g.sequence == id.sequence) (ap (λ q. q == id.sequence) alike) (rw was at is))
  where
    at-same : (b c : Bool) → c ≡ b → option_map is_marked (if b then Some f else None) ≡ Some m
        → option_map is_marked (if c then Some g else None) ≡ Some m
    at-same true true e h = ap Some marked ∙ h
    at-same false false e h = h
    at-same true false e h = absurd (cc)
    at-same false true e h = absurd (cc)
mark-stays s s' id m (new none) is held = absurd (let e = rw none at is in cc)
mark-stays s s' id m (gone f was nobody) is held =
    let found = seen-some id.sequence f m (rw was at is) in
    let none = nobody id refl (sym (eqb-true f.sequence id.sequence found)) in absurd (cc)

-- Fates of each kind of change
pub fate-none : (s s' : Store) (n : ℕ) → s' ≡ s → Fate s s' n
fate-none s s' n is = stays (ap (λ (x : Store). x.file n) is)

-- a file that is changed, and keeps its sequence number and its mark
pub fate-change : (s s' : Store) (k n : ℕ) (change : File → File) → ((f : File) → (change f).sequence ≡ f.sequence)
    → ((f : File) → is_marked (change f) ≡ is_marked f)
    → s' ≡ with_change s k change → Fate s s' n
fate-change s s' k n change alike marked is = subst (λ (x : Store). Fate s x n) (sym is) (by_test (n == k) refl)
  where
    at-file : (o : Option File) → s.file k ≡ o → n ≡ k → (n == k) ≡ true → Fate s (with_change s k change) n
    at-file None none same e = stays (rw (e, none) (sym (ap s.file same ∙ none)))
    at-file (Some f) some same e = altered f (change f) (ap s.file same ∙ some) (rw (e, some) refl) (alike f) (marked f)

    by_test : (b : Bool) → (n == k) ≡ b → Fate s (with_change s k change) n
    by_test true e = at-file (s.file k) refl (eqb-true n k e) e
    by_test false e = stays (rw e refl)

-- a file that stays, or is changed and keeps its sequence number and its mark
pub data Keeps (s t : Store) (n : ℕ) : Type 0 where
  kept : t.file n ≡ s.file n → Keeps s t n
  changed : (f g : File) → s.file n ≡ Some f → t.file n ≡ Some g → g.sequence ≡ f.sequence → is_marked g ≡ is_marked f → Keeps s t n

pub fate-kept : (s t : Store) (n : ℕ) → Keeps s t n → Fate s t n
fate-kept s t n (kept e) = stays e
fate-kept s t n (changed f g was now alike marked) = altered f g was now alike marked

-- a file that is set anew, of one that was there
keeps-set : (s s' : Store) (k n : ℕ) (f g : File) → s.file k ≡ Some f → g.sequence ≡ f.sequence → is_marked g ≡ is_marked f
    → s'.file n ≡ (if n == k then Some g else s.file n) → Keeps s s' n
keeps-set s s' k n f g was alike marked is = by_test (n == k) refl is
  where
    by_test : (b : Bool) → (n == k) ≡ b → s'.file n ≡ (if b then Some g else s.file n) → Keeps s s' n
    by_test true e h = changed f g (ap s.file (eqb-true n k e) ∙ was) h alike marked
    by_test false e h = kept h

pub fate-set : (s s' : Store) (k n : ℕ) (f g : File) → s.file k ≡ Some f → g.sequence ≡ f.sequence → is_marked g ≡ is_marked f
    → s'.file n ≡ (if n == k then Some g else s.file n) → Fate s s' n
fate-set s s' k n f g was alike marked is = fate-kept s s' n (keeps-set s s' k n f g was alike marked is)

-- bit 15 stays where UC.CON is cleared
pub mark-of-cleared : (c : ℕ) → bit_at (without_contiguous c) 15 ≡ bit_at c 15
mark-of-cleared c = bit_at_and c 65407 15 ∙ omega arith

pub fate-grows : (s s' : Store) (k q n : ℕ) (blocks : List (List ℕ)) → Grows s k q blocks s' → Fate s s' n
fate-grows s s' k q n blocks grows =
    fate-set s s' k n grows.before _ grows.was refl (ap (λ b. b == 1) (mark-of-cleared grows.before.characteristics))
    (ap (λ (x : Store). x.file n) grows.store_is)

-- bit 15 stays where UC.CON is set
pub mark-of-marked : (c : ℕ) → bit_at (with_contiguous c) 15 ≡ bit_at c 15
mark-of-marked c = bit_at_or c 128 15 ∙ omega arith

pub fate-laid : (s s' : Store) (k q n : ℕ) → LaysOut s k q s' → Fate s s' n
fate-laid s s' k q n laid =
    fate-set s s' k n laid.before _ laid.was refl (ap (λ b. b == 1) (mark-of-marked laid.before.characteristics))
    (ap (λ (x : Store). x.file n) laid.store_is)

pub fate-cut : (s s' : Store) (k to n : ℕ) → Truncates s k to s' → Fate s s' n
fate-cut s s' k to n cut = fate-set s s' k n cut.before _ cut.was refl refl (ap (λ (x : Store). x.file n) cut.store_is)

held-volume : (test : Mode → Bool) (s : Store) (n q v w : ℕ) →
    is_held test s (record { number = n; sequence = q; volume = v }) ≡ is_held test s (record { number = n; sequence = q; volume = w })
unfolding is_held
held-volume test s n q v w = refl

-- accesses alone say who accesses a file
pub held-accesses : (test : Mode → Bool) (s t : Store) (id : FileId) → s.access ≡ t.access → is_held test s id ≡ is_held test t id
unfolding is_held
held-accesses test s t id same =
    ap (λ (a : ℕ → ℕ → Option Access). list_any (λ task. list_any (λ lun. is_to test id (a task lun)) (range_with_len 0 4))
    (range_with_len 0 8)) same

-- two identifications of one file are alike to whoever looks for accesses
pub held-alike : (test : Mode → Bool) (s : Store) (a b : FileId) → a.number ≡ b.number → a.sequence ≡ b.sequence
    → is_held test s a ≡ is_held test s b
held-alike test s a b number sequence =
    held-volume test s a.number a.sequence a.volume b.volume
    ∙ ap (λ q. is_held test s (record { number = a.number; sequence = q; volume = b.volume })) sequence
    ∙ ap (λ n. is_held test s (record { number = n; sequence = b.sequence; volume = b.volume })) number

-- a file that nobody accesses goes
pub fate-gone : (s : Store) (id : FileId) (n : ℕ) → is_missing s id ≡ false → is_accessed s id ≡ false
    → Fate s (without_file_at s id.number) n
fate-gone s id n there nobody = by_test (n == id.number) refl
  where
    by_file : (o : Option File) → s.file id.number ≡ o → is_none (option_and_then (of_sequence id.sequence) o) ≡ false → n ≡ id.number
        → Fate s (without_file_at s id.number) n
    by_file None none h same = absurd (cc)
    by_file (Some f) some h same =
        gone f (ap s.file same ∙ some)
        (λ other number sequence.
        held-alike (λ _. true) (without_file_at s id.number) other id (number ∙ same)
        (sequence ∙ eqb-true f.sequence id.sequence (at-sequence (f.sequence == id.sequence) h)) ∙ same-held)
      where
        at-sequence : (b : Bool) → is_none (if b then Some f else None) ≡ false → b ≡ true
        at-sequence true h = refl
        at-sequence false h = absurd (cc)

        same-held : is_held (λ _. true) (without_file_at s id.number) id ≡ false
        same-held = held-accesses (λ _. true) (without_file_at s id.number) s id refl ∙ nobody

    by_test : (b : Bool) → (n == id.number) ≡ b → Fate s (without_file_at s id.number) n
    by_test true e = by_file (s.file id.number) refl there (eqb-true n id.number e)
    by_test false e = stays (rw e refl)

-- a file that is marked is there
pub marked-there : (s : Store) (id : FileId) → is_marked (file_named s id) ≡ true → is_missing s id ≡ false
marked-there s id marked = by_file (file_of s id) marked
  where
    by_file : (o : Option File) → is_marked (unwrap_or o no_file) ≡ true → is_none o ≡ false
    by_file None h = absurd (cc)
    by_file (Some f) h = refl

-- an access that is given up
pub fate-given-up : (s : Store) (task lun n : ℕ) (o : Option Access) → Fate s (after_giving_up s task lun o) n
fate-given-up s task lun n None = stays refl
fate-given-up s task lun n (Some a) = by_test (is_due (with_access s task lun None) a.file) refl
  where
    t : Store
    t = with_access s task lun None

    from-here : (u : Store) → Fate t u n → Fate s u n
    from-here u (stays same) = stays same
    from-here u (altered f g was now alike marked) = altered f g was now alike marked
    from-here u (new none) = new none
    from-here u (gone f was nobody) = gone f was nobody

    by_test : (b : Bool) → is_due (with_access s task lun None) a.file ≡ b → Fate s (if b then without_file_at t a.file.number else t) n
    by_test false e = stays refl
    by_test true e =
        let parts = and_parts (is_marked (file_named t a.file)) (not (is_accessed t a.file)) e in
        from-here _ (fate-gone t a.file n (marked-there t a.file parts.0) (not-true (is_accessed t a.file) parts.1))

-- what becomes of a file that was kept
pub fate-after : (s t u : Store) (n : ℕ) → Keeps s t n → Fate t u n → Fate s u n
fate-after s t u n (kept e) (stays k) = stays (k ∙ e)
fate-after s t u n (kept e) (altered f g was now alike marked) = altered f g (sym e ∙ was) now alike marked
fate-after s t u n (kept e) (new none) = new (sym e ∙ none)
fate-after s t u n (kept e) (gone f was nobody) = gone f (sym e ∙ was) nobody
fate-after s t u n (changed f g was now alike marked) (stays k) = altered f g was (k ∙ now) alike marked
fate-after s t u n (changed f g was now alike marked) (altered f' g' was' now' alike' marked') =
    let e : g ≡ f' = let o : Some g ≡ Some f' = sym now ∙ was' in cc in
    altered f g' was now' (alike' ∙ ap (λ (x : File). x.sequence) (sym e) ∙ alike) (marked' ∙ ap is_marked (sym e) ∙ marked)
fate-after s t u n (changed f g was now alike marked) (new none) = absurd (let no : None ≡ Some g = sym none ∙ now in cc)
fate-after s t u n (changed f g was now alike marked) (gone f' was' nobody) =
    let e : g ≡ f' = let o : Some g ≡ Some f' = sym now ∙ was' in cc in
    gone f was (λ id number sequence. nobody id number (sequence ∙ sym alike ∙ ap (λ (x : File). x.sequence) e))

-- the index file that grows keeps them
grown-keeps : (s t : Store) (n m : ℕ) → GrowsIndex s n t → Keeps s t m
grown-keeps s t n m e =
    keeps-set s t 1 m e.grows.before _ e.grows.was refl (ap (λ b. b == 1) (mark-of-cleared e.grows.before.characteristics))
    (ap (λ (x : Store). x.file m) (e.store_is ∙ ap (λ (x : Store). with_more_slots x n) e.grows.store_is))

pub fate-grows-index : (s t : Store) (n m : ℕ) → GrowsIndex s n t → Fate s t m
fate-grows-index s t n m e = fate-kept s t m (grown-keeps s t n m e)

-- and so it does where it grows first
pub gained-keeps : (s t : Store) (n m : ℕ) → GetsSlots n s t → Keeps s t m
gained-keeps s t zero m e = kept (ap (λ (x : Store). x.file m) e)
gained-keeps s t (suc n) m e = grown-keeps s t (suc n) m e

-- and who accesses what stays
pub gained-access : (s t : Store) (n : ℕ) → GetsSlots n s t → t.access ≡ s.access
gained-access s t zero e = ap (λ (x : Store). x.access) e
gained-access s t (suc n) e = ap (λ (x : Store). x.access) (e.store_is ∙ ap (λ (x : Store). with_more_slots x (suc n)) e.grows.store_is)
