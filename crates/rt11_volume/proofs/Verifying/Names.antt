-- The names that were taken, and which entry repeats one.
use Rattle.std.proofs.Common.{◌≡◌, ◌↔◌, ◌⊎◌, ◌<◌, ◌+◌, inl, inr, ℕ, Bool, true, false, not, IsTrue, List, [], length, cond, Some}
use Rattle.std.proofs.Common.{refl, ap, sym, subst, ◌∙◌, arith}
use Rattle.std.proofs.lemmas.Bool.{both_ways, cases_lt}
use Rattle.std.proofs.lemmas.Map.Text.{is_eq-slice_cmp}
use Rattle.std.proofs.lemmas.Option.{slice_get_within, get_or_from_slice_get, slice_get-get_or}
use Rattle.std.proofs.lemmas.Slice.Eq.{bytes_eq-Decides}
use Rattle.std.specs.BTreeSet.{BTreeSet, Updates}
use Rattle.std.specs.Cmp.Lexicographic.{slice_cmp}
use Rattle.std.specs.List.{list_any, slice_get}
use Rattle.std.specs.Ordering.{is_eq, nat_cmp}
use Rattle.f11_dev.specs.Image.{Image}
use Rattle.rt11_volume.specs.Directory.{visited, segment_of}
use Rattle.rt11_volume.specs.Entry.{name_words, is_permanent}
use Rattle.rt11_volume.specs.Verifying.Names.{IsFileOf, KnowsNames, TakesName, has_name}
use Rattle.rt11_volume.specs.Verifying.Notes.{RepeatsName}
use Rattle.rt11_volume.specs.Verifying.Scans.{number_at, entry_of}

same-name : (a b : List ℕ) → is_eq (slice_cmp nat_cmp a b) ≡ true → a ≡ b
same-name a b is = (bytes_eq-Decides a b).0 (sym (is_eq-slice_cmp a b) ∙ is)

name-same : (a b : List ℕ) → a ≡ b → is_eq (slice_cmp nat_cmp a b) ≡ true
name-same a b same = is_eq-slice_cmp a b ∙ (bytes_eq-Decides a b).1 same

-- an entry that isn't a file's was passed over
pub name-passed : (words : List ℕ) (names : BTreeSet (List ℕ)) → is_permanent words ≡ false → TakesName words false names names
name-passed words names none = record {
  told = (λ no. absurd (both_ways false refl no), λ file. absurd (both_ways (is_permanent words) none file.0));
  taken = λ name. (
    λ has. inl has,
    λ which. elim which [
      | inl has ↦ has
      | inr file ↦ absurd (both_ways (is_permanent words) none file.0)
    ],
  );
}

twice : (had added : Bool) → added ≡ not had → IsTrue (not added) → had ≡ true
twice true added is _ = refl
twice false added is again = absurd (both_ways (not added) (ap not is) again)

once : (had added : Bool) → added ≡ not had → had ≡ true → IsTrue (not added)
once true added is _ = ap not is
once false added is had = absurd (both_ways false refl had)

-- a file's name was taken
module _ (words name : List ℕ) (old new : BTreeSet (List ℕ)) (is : name ≡ name_words words) (file : is_permanent words ≡ true)
    (update : Updates (slice_cmp nat_cmp) old new name true) where
  found : (q : List ℕ) (b : Bool) → b ≡ is_eq (slice_cmp nat_cmp name q) → cond b true (has_name old q) ≡ true
      → (has_name old q ≡ true) ⊎ IsFileOf words q
  found q true same has = inr (file, sym is ∙ same-name name q (sym same))
  found q false other has = inl has

  back : (q : List ℕ) → (has_name old q ≡ true) ⊎ IsFileOf words q → (b : Bool) → b ≡ is_eq (slice_cmp nat_cmp name q)
      → cond b true (has_name old q) ≡ true
  back q which true same = refl
  back q (inl has) false other = has
  back q (inr here) false other = absurd (both_ways _ (sym other) (name-same name q (is ∙ here.1)))

  pub name-taken : (added : Bool) → added ≡ not (has_name old name) → TakesName words (not added) old new
  name-taken added told = record {
    told = (
      λ yes. (file, subst (λ (n : List ℕ). has_name old n ≡ true) is (twice (has_name old name) added told yes)),
      λ again. once (has_name old name) added told (subst (λ (n : List ℕ). has_name old n ≡ true) (sym is) again.1),
    );
    taken = λ q. (λ has. found q _ refl (sym (update.0 q) ∙ has), λ which. update.0 q ∙ back q which _ refl);
  }

-- what repeats a name, seen from an entry further on, or from one before
moved : (image : Image) (j i k l : ℕ) (q : List ℕ) (r : RepeatsName image j i q)
    → (r.earlier_place < k) ⊎ ((r.earlier_place ≡ k) × (r.earlier < l)) → RepeatsName image k l q
moved image j i k l q r order = record {
  earlier_place = r.earlier_place;
  earlier_segment = r.earlier_segment;
  earlier = r.earlier;
  other = r.other;
  visited_at = r.visited_at;
  other_is = r.other_is;
  permanent = r.permanent;
  order = order;
  same_name = r.same_name;
}

-- it is one before this entry, or this one
split : (image : Image) (j i : ℕ) (q : List ℕ) → RepeatsName image j (i + 1) q
    → RepeatsName image j i q ⊎ IsFileOf (entry_of (segment_of image (number_at image j)) i) (name_words q)
split image j i q r = go r.order
  where
    e : List ℕ
    e = entry_of (segment_of image (number_at image j)) i

    here : r.earlier_place ≡ j → r.earlier ≡ i → r.other ≡ e
    here at is =
        let number = get_or_from_slice_get (visited image) r.earlier_place r.earlier_segment 0 r.visited_at in
        sym (get_or_from_slice_get (segment_of image r.earlier_segment).entries r.earlier r.other [] r.other_is)
        ∙ ap (λ n. entry_of (segment_of image n) r.earlier) (sym number)
        ∙ ap (λ l. entry_of (segment_of image (number_at image l)) r.earlier) at
        ∙ ap (entry_of (segment_of image (number_at image j))) is

    go : (r.earlier_place < j) ⊎ ((r.earlier_place ≡ j) × (r.earlier < i + 1)) → RepeatsName image j i q ⊎ IsFileOf e (name_words q)
    go (inl before) = inl (moved image j (i + 1) j i q r (inl before))
    go (inr (at, before)) = elim (cases_lt r.earlier i) [
      | inl less ↦ inl (moved image j (i + 1) j i q r (inr (at, less)))
      | inr more ↦
          let is = here at (omega (arith, before, more)) in
          inr (ap is_permanent (sym is) ∙ r.permanent, ap name_words (sym is) ∙ r.same_name)
    ]

pub names-none : (image : Image) (names : BTreeSet (List ℕ)) → names.keys ≡ [] → KnowsNames image 0 0 names
names-none image names none q = (
  λ has. absurd (both_ways (has_name names (name_words q))
      (ap (λ (ks : List (List ℕ)). list_any (λ (k : List ℕ). is_eq (slice_cmp nat_cmp (name_words q) k)) ks) none) has),
  λ (r : RepeatsName image 0 0 q). elim r.order [
    | inl before ↦ absurd (omega (arith, before))
    | inr at ↦ absurd (omega (arith, at.1))
  ],
)

-- entry i of the segment at a place was taken
module _ (image : Image) (j i : ℕ) (repeated : Bool) (old new : BTreeSet (List ℕ))
    (at : slice_get (visited image) j ≡ Some (number_at image j))
    (within : i < length (segment_of image (number_at image j)).entries)
    (takes : TakesName (entry_of (segment_of image (number_at image j)) i) repeated old new) (known : KnowsNames image j i old) where
  further : (q : List ℕ) (r : RepeatsName image j i q) → (r.earlier_place < j) ⊎ ((r.earlier_place ≡ j) × (r.earlier < i))
      → RepeatsName image j (i + 1) q
  further q r (inl before) = moved image j i j (i + 1) q r (inl before)
  further q r (inr (here, before)) = moved image j i j (i + 1) q r (inr (here, omega (arith, before)))

  so-far : (q : List ℕ) → (has_name old (name_words q) ≡ true) ⊎ IsFileOf (entry_of (segment_of image (number_at image j)) i) (name_words q)
      → RepeatsName image j (i + 1) q
  so-far q (inl has) = let r = (known q).0 has in further q r r.order
  so-far q (inr file) = record {
    earlier_place = j;
    earlier_segment = number_at image j;
    earlier = i;
    other = entry_of (segment_of image (number_at image j)) i;
    visited_at = at;
    other_is = slice_get-get_or (segment_of image (number_at image j)).entries i [] within;
    permanent = file.0;
    order = inr (refl, omega arith);
    same_name = file.1;
  }

  pub names-more : KnowsNames image j (i + 1) new
  names-more q = (
    λ has. so-far q ((takes.taken (name_words q)).0 has),
    λ again. (takes.taken (name_words q)).1 (elim (split image j i q again) [
      | inl before ↦ inl ((known q).1 before)
      | inr file ↦ inr file
    ]),
  )

  -- and its name was taken before where it repeats one
  pub name-repeats : IsTrue repeated ↔ ((is_permanent (entry_of (segment_of image (number_at image j)) i) ≡ true)
      × RepeatsName image j i (entry_of (segment_of image (number_at image j)) i))
  name-repeats =
      let e = entry_of (segment_of image (number_at image j)) i in (
        λ yes. let again = takes.told.0 yes in (again.0, (known e).0 again.1),
        λ again. takes.told.1 (again.0, (known e).1 again.1),
      )

-- all entries of the segment at a place were taken
pub names-next : (image : Image) (j n : ℕ) (names : BTreeSet (List ℕ)) → n ≡ length (segment_of image (number_at image j)).entries
    → KnowsNames image j n names → KnowsNames image (j + 1) 0 names
names-next image j n names all known q = (λ has. let r = (known q).0 has in further r r.order, λ again. (known q).1 (back again))
  where
    further : (r : RepeatsName image j n q) → (r.earlier_place < j) ⊎ ((r.earlier_place ≡ j) × (r.earlier < n))
        → RepeatsName image (j + 1) 0 q
    further r (inl before) = moved image j n (j + 1) 0 q r (inl (omega (arith, before)))
    further r (inr (here, before)) = moved image j n (j + 1) 0 q r (inl (omega (arith, here)))

    back : RepeatsName image (j + 1) 0 q → RepeatsName image j n q
    back r = moved image (j + 1) 0 j n q r (order r.order)
      where
        number : number_at image r.earlier_place ≡ r.earlier_segment
        number = get_or_from_slice_get (visited image) r.earlier_place r.earlier_segment 0 r.visited_at

        within : r.earlier_place ≡ j → r.earlier < n
        within here =
            let same : length (segment_of image r.earlier_segment).entries ≡ n =
            ap (λ k. length (segment_of image k).entries) (sym number)
            ∙ ap (λ p. length (segment_of image (number_at image p)).entries) here ∙ sym all in
            omega (arith, same, slice_get_within (segment_of image r.earlier_segment).entries r.earlier r.other r.other_is)

        order : (r.earlier_place < j + 1) ⊎ ((r.earlier_place ≡ j + 1) × (r.earlier < 0))
            → (r.earlier_place < j) ⊎ ((r.earlier_place ≡ j) × (r.earlier < n))
        order (inl before) = elim (cases_lt r.earlier_place j) [
          | inl less ↦ inl less
          | inr more ↦ let here : r.earlier_place ≡ j = omega (arith, before, more) in inr (here, within here)
        ]
        order (inr (_, none)) = absurd (omega (arith, none))
