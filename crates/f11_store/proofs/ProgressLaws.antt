-- Exact progress, and what lags after it.
use Rattle.std.proofs.Common.{◌≡◌, ◌⊎◌, ℕ, ◌+◌, ◌≤◌, ◌==◌, Bool, true, false, List, [], ◌∷◌, ◌++◌, zero, suc, length, take, min, Option}
use Rattle.std.proofs.Common.{Some, None, option_map, if◌then◌else◌, refl, sym, ◌∙◌, ap, subst, arith, nat_le, inl}
use Rattle.std.proofs.lemmas.Bool.{leb-true, or_parts}
use Rattle.std.proofs.lemmas.Bool.Decides.{nat_tests}
use Rattle.std.proofs.lemmas.List.{take-append-le, take_min}
use Rattle.std.proofs.lemmas.List.Sums.{fold-append}
use Rattle.f11_store.specs.declared.files.FileId.{FileId}
use Rattle.f11_store.specs.File.{File, zero_blocks}
use Rattle.f11_store.specs.Store.{Store, file_named, free_slots, free_headers}
use Rattle.f11_store.specs.Changes.{next_sequence, with_change, with_grown_file, Extends}
use Rattle.f11_store.specs.Lags.{Part, file_changes, file_appears, file_goes, slot_appears, with_part, with_parts, Work, no_work}
use Rattle.f11_store.specs.Lags.{extend_work, AreLike, last_of, LagsBy}
use Rattle.f11_store.proofs.Frees.{Frees, same_limits, same_limits_then}
use Rattle.f11_store.proofs.Growth.{alike, StoresAlike, grown_alike, extend_and_slots, room-file_named}
use Rattle.f11_store.proofs.LagLaws.{did_taking, free_headers_grow, grown_takes, last_there}
use Rattle.f11_store.specs.Moments.{IsRespectful, AreRespectful, Did, MoreWorkLags, SameChangeLags, LagsAfter, DidBoth, ChangeDid}

pub more_work_lags : MoreWorkLags
more_work_lags t s w v rest is meant blocks headers lags =
    with_done (min lags.done (length w.parts))
    (ap (take (min lags.done (length w.parts))) is ∙ take-append-le (min lags.done (length w.parts)) w.parts rest (omega arith)
    ∙ take_min lags.done w.parts)
  where
    with_done : (n : ℕ) → take n v.parts ≡ take lags.done w.parts → LagsBy v t s
    with_done n e = record {
      done = n;
      files = λ m. subst (λ (ps : List Part). AreLike (t.file m) ((with_parts s ps).file m)) (sym e) (lags.files m);
      slots = lags.slots ∙ ap (λ (ps : List Part). (with_parts s ps).slots) (sym e);
      others = λ m out. lags.others m (meant m out);
      free_blocks = omega (arith, lags.free_blocks, blocks);
      headers = omega (arith, lags.headers, headers);
      last = lags.last;
      no_header = λ none. lags.no_header (omega (arith, none, headers));
      limits = lags.limits;
    }

-- the files after one of two changes that do the same to a file
pub same_change : (s : Store) (k : ℕ) (f : File) (c e : File → File) → s.file k ≡ Some f → c f ≡ e f → (m : ℕ)
    → (with_change s k c).file m ≡ (with_change s k e).file m
same_change s k f c e was same m = rw was (ap (λ (g : File). if m == k then Some g else s.file m) same)

pub same_change_lags : SameChangeLags
same_change_lags t s k f c e was same lags = record {
  done = lags.done;
  files = λ m. at m lags.done (lags.files m);
  slots = slots_at lags.done lags.slots;
  others = lags.others;
  free_blocks = lags.free_blocks;
  headers = lags.headers;
  last = lags.last;
  no_header = lags.no_header;
  limits = lags.limits;
}
  where
    at : (m n : ℕ) → AreLike (t.file m) ((with_parts s (take n (file_changes k c ∷ []))).file m)
        → AreLike (t.file m) ((with_parts s (take n (file_changes k e ∷ []))).file m)
    at m zero h = h
    at m (suc zero) h = subst (λ (o : Option File). AreLike (t.file m) o) (same_change s k f c e was same m) h
    at m (suc (suc n)) h = subst (λ (o : Option File). AreLike (t.file m) o) (same_change s k f c e was same m) h

    slots_at : (n : ℕ) → t.slots ≡ (with_parts s (take n (file_changes k c ∷ []))).slots
        → t.slots ≡ (with_parts s (take n (file_changes k e ∷ []))).slots
    slots_at zero h = h
    slots_at (suc zero) h = h
    slots_at (suc (suc n)) h = h

-- files that are like the same are alike
pub alike_then : (o p q : Option File) → AreLike o p → AreLike p q → AreLike o q
alike_then None None None h k = tt
alike_then None None (Some g) h k = absurd k
alike_then None (Some f) q h k = absurd h
alike_then (Some f) None q h k = absurd h
alike_then (Some f) (Some g) None h k = absurd k
alike_then (Some f) (Some g) (Some e) h k = record {
  sequence = h.sequence ∙ k.sequence;
  owner = h.owner ∙ k.owner;
  protection = h.protection ∙ k.protection;
  characteristics = h.characteristics ∙ k.characteristics;
  ident = h.ident ∙ k.ident;
  attr = h.attr ∙ k.attr;
  blocks = h.blocks ∙ k.blocks;
}

-- two stores have alike files, and as many slots
pub record AreAlike (a b : Store) : Type 0 where
  pub files : StoresAlike a b
  pub slots : a.slots ≡ b.slots

-- and so they do after a part, and after parts
part_alike : (p : Part) (a b : Store) → IsRespectful p → AreAlike a b → AreAlike (with_part a p) (with_part b p)
part_alike (file_changes k change) a b respects h =
    record { files = λ n. at (n == k) (a.file k) (b.file k) (h.files k) (a.file n) (b.file n) (h.files n); slots = h.slots }
  where
    mapped : (o p : Option File) → AreLike o p → AreLike (option_map change o) (option_map change p)
    mapped None None l = tt
    mapped None (Some g) l = absurd l
    mapped (Some f) None l = absurd l
    mapped (Some f) (Some g) l = respects f g l

    at : (x : Bool) (o p : Option File) → AreLike o p → (v w : Option File) → AreLike v w →
        AreLike (if x then option_map change o else v) (if x then option_map change p else w)
    at true o p l v w l' = mapped o p l
    at false o p l v w l' = l'
part_alike (file_appears k f) a b respects h = record { files = λ n. at (n == k) (a.file n) (b.file n) (h.files n); slots = h.slots }
  where
    at : (x : Bool) (v w : Option File) → AreLike v w → AreLike (if x then Some f else v) (if x then Some f else w)
    at true v w l = alike (Some f)
    at false v w l = l
part_alike (file_goes k) a b respects h = record { files = λ n. at (n == k) (a.file n) (b.file n) (h.files n); slots = h.slots }
  where
    at : (x : Bool) (v w : Option File) → AreLike v w → AreLike (if x then None else v) (if x then None else w)
    at true v w l = tt
    at false v w l = l
part_alike slot_appears a b respects h = record { files = h.files; slots = ap (λ n. n + 1) h.slots }

pub parts_alike : (ps : List Part) (a b : Store) → AreRespectful ps → AreAlike a b → AreAlike (with_parts a ps) (with_parts b ps)
parts_alike [] a b respects h = h
parts_alike (p ∷ ps) a b respects h = parts_alike ps (with_part a p) (with_part b p) respects.1 (part_alike p a b respects.0 h)

-- the first of them too
pub taken_respectful : (n : ℕ) (ps : List Part) → AreRespectful ps → AreRespectful (take n ps)
taken_respectful zero ps h = tt
taken_respectful (suc n) [] h = tt
taken_respectful (suc n) (p ∷ ps) h = (h.0, taken_respectful n ps h.1)

-- the first of two lists, and some of the second
pub take-both : (xs ys : List Part) (n : ℕ) → take (length xs + n) (xs ++ ys) ≡ xs ++ take n ys
take-both [] ys n = ap (λ k. take k ys) (let e : 0 + n ≡ n = omega arith in e)
take-both (x ∷ xs) ys n =
    ap (λ k. take k (x ∷ (xs ++ ys))) (let e : length (x ∷ xs) + n ≡ suc (length xs + n) = omega arith in e)
    ∙ ap (λ zs. x ∷ zs) (take-both xs ys n)

-- after the first work's parts, some of the second's
pub some_more : (s u : Store) (w : Work) (ps : List Part) → StoresAlike u (with_parts s w.parts) → u.slots ≡ (with_parts s w.parts).slots
    → AreRespectful ps →
    AreAlike (with_parts u ps) (with_parts s (w.parts ++ ps))
some_more s u w ps files slots respects =
    subst (λ (x : Store). AreAlike (with_parts u ps) x) (sym (fold-append with_part s w.parts ps))
    (parts_alike ps u (with_parts s w.parts) respects (record { files = files; slots = slots }))

-- what a slot was last given after the first work
last-done : (w : Work) (u s : Store) (n : ℕ) → Did w u s → (last_of u n ≡ last_of s n) ⊎ (last_of u n ≡ next_sequence (last_of s n))
last-done w u s n did = by_test (nat_le n u.slots) refl
  where
    by_test : (b : Bool) → nat_le n u.slots ≡ b →
        ((if b then u.last n else 0) ≡ last_of s n) ⊎ ((if b then u.last n else 0) ≡ next_sequence (last_of s n))
    by_test true there = did.last n (leb-true n u.slots there)
    by_test false above =
        let none : nat_le n s.slots ≡ false = grind (arith, nat_tests, above, did.no_fewer) in
        inl (sym (ap (λ (b : Bool). if b then s.last n else 0) none))

last-kept : (w : Work) (u s : Store) (n : ℕ) → Did w u s → w.headers ≡ 0 → last_of u n ≡ last_of s n
last-kept w u s n did none = by_test (nat_le n u.slots) refl
  where
    by_test : (b : Bool) → nat_le n u.slots ≡ b → (if b then u.last n else 0) ≡ last_of s n
    by_test true there = did.no_header none n (leb-true n u.slots there)
    by_test false above =
        let gone : nat_le n s.slots ≡ false = grind (arith, nat_tests, above, did.no_fewer) in
        sym (ap (λ (b : Bool). if b then s.last n else 0) gone)

pub lags_after : LagsAfter
lags_after w v t u s did none respects lags = record {
  done = length w.parts + lags.done;
  files = λ n. subst (λ (ps : List Part). AreLike (t.file n) ((with_parts s ps).file n)) (sym split)
      (alike_then (t.file n) ((with_parts u (take lags.done v.parts)).file n) ((with_parts s (w.parts ++ take lags.done v.parts)).file n)
      (lags.files n) (more.files n));
  slots = lags.slots ∙ more.slots ∙ ap (λ (ps : List Part). (with_parts s ps).slots) (sym split);
  others = λ n out. lags.others n (or_parts (w.is_meant n) (v.is_meant n) out).1
      ∙ did.others n (or_parts (w.is_meant n) (v.is_meant n) out).0;
  free_blocks = omega (arith, lags.free_blocks, did.free_blocks);
  headers = omega (arith, lags.headers, did.headers);
  last = λ n low fileless. subst (λ (q : ℕ). (q ≡ last_of s n) ⊎ (q ≡ next_sequence (last_of s n))) (sym (lags.no_header none n low))
      (last-done w u s n did);
  no_header = λ e n low. lags.no_header none n low ∙ last-kept w u s n did (omega (arith, e));
  limits = same_limits_then s u t did.limits lags.limits;
}
  where
    split : take (length w.parts + lags.done) (w.parts ++ v.parts) ≡ w.parts ++ take lags.done v.parts
    split = take-both w.parts v.parts lags.done

    more : AreAlike (with_parts u (take lags.done v.parts)) (with_parts s (w.parts ++ take lags.done v.parts))
    more = some_more s u w (take lags.done v.parts) did.files did.slots (taken_respectful lags.done v.parts respects)

pub did_both : DidBoth
did_both w v t u s did none respects next = record {
  files = λ n. alike_then (t.file n) ((with_parts u v.parts).file n) ((with_parts s (w.parts ++ v.parts)).file n) (next.files n)
      (more.files n);
  slots = next.slots ∙ more.slots;
  no_fewer = omega (arith, next.no_fewer, did.no_fewer);
  others = λ n out. next.others n (or_parts (w.is_meant n) (v.is_meant n) out).1
      ∙ did.others n (or_parts (w.is_meant n) (v.is_meant n) out).0;
  free_blocks = omega (arith, next.free_blocks, did.free_blocks);
  headers = omega (arith, next.headers, did.headers);
  last = λ n low. subst (λ (q : ℕ). (q ≡ last_of s n) ⊎ (q ≡ next_sequence (last_of s n))) (sym (next.no_header none n low))
      (last-done w u s n did);
  no_header = λ e n low. next.no_header none n low ∙ last-kept w u s n did (omega (arith, e));
  limits = same_limits_then s u t did.limits next.limits;
}
  where
    more : AreAlike (with_parts u v.parts) (with_parts s (w.parts ++ v.parts))
    more = some_more s u w v.parts did.files did.slots respects

-- a file that grew
pub extends_did : (u s : Store) (d : FileId) (n : ℕ) → Extends s d.number n u → Did (extend_work d.number (file_named s d).room n) u s
extends_did u s d n grows =
    subst (λ (x : Store). Did (extend_work d.number (file_named s d).room n) x s) (sym grows.store_is)
    (did_taking (extend_work d.number (file_named s d).room n) s
    (with_grown_file s d.number grows.before n (zero_blocks n) grows.added grows.pointers grows.room)
    (grown_alike s d.number n grows.before grows.added grows.pointers grows.room grows.was)
    (sym (extend_and_slots s d.number n))
    (grown_takes s d.number n grows.before (zero_blocks n) grows.added grows.pointers grows.room (file_named s d).room
    grows.may_grow (room-file_named s d grows.before grows.was)))

-- nothing was done
pub nothing_did : (s : Store) → Did no_work s s
nothing_did s = record {
  files = λ n. alike (s.file n);
  slots = refl;
  no_fewer = omega arith;
  others = λ n out. refl;
  free_blocks = omega arith;
  headers = omega arith;
  last = λ n h. inl (sym (last_there s n h));
  no_header = λ e n h. sym (last_there s n h);
  limits = same_limits refl refl refl;
}

-- the slots of a store are counted by those in use
same_headers : (s t : Store) → t.slots ≡ s.slots → t.in_use ≡ s.in_use → free_headers s ≤ free_headers t
unfolding free_slots
same_headers s t slots used = rw (slots, used) (omega arith)

pub change_did : ChangeDid
change_did s k change = record {
  files = λ n. alike ((with_change s k change).file n);
  slots = refl;
  no_fewer = omega arith;
  others = λ n out. rw out refl;
  free_blocks = omega arith;
  headers = omega (arith, same_headers s (with_change s k change) refl refl);
  last = λ n h. inl (sym (last_there s n h));
  no_header = λ e n h. sym (last_there s n h);
  limits = same_limits refl refl refl;
}

-- what takes nothing, and makes the files
pub frees_did :
    (w : Work) (u s : Store) → StoresAlike u (with_parts s w.parts) → u.slots ≡ (with_parts s w.parts).slots → Frees s w.is_meant u
    → Did w u s
frees_did w u s files slots frees = record {
  files = files;
  slots = slots;
  no_fewer = omega (arith, frees.slots);
  others = frees.others;
  free_blocks = omega (arith, frees.free);
  headers = omega (arith, free_headers_grow s u frees.unused frees.slots);
  last = λ n h. inl (same n h);
  no_header = λ e n h. same n h;
  limits = frees.limits;
}
  where
    same : (n : ℕ) → n ≤ u.slots → u.last n ≡ last_of s n
    same n h = frees.last n ∙ sym (last_there s n (omega (arith, h, frees.slots)))
