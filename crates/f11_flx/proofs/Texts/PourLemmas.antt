-- A text that is converted into blocks, a step at a time.
use Rattle.std.proofs.Common.{◌≡◌, ◌⊎◌, inl, inr, ℕ, suc, ◌+◌, ◌-◌, ◌*◌, ◌<◌, ◌≤◌, List, [], ◌∷◌}
use Rattle.std.proofs.Common.{◌++◌, length, take, drop, Option, Some, None, All, refl, sym, ap, ◌∙◌, subst, append-nil, length-append}
use Rattle.std.proofs.Common.{length-drop, arith}
use Rattle.std.specs.Prelude.{slice_range, option_map}
use Rattle.std.specs.List.{concat}
use Rattle.std.proofs.Math.Seq.{drop-length, take-add, take-length}
use Rattle.std.proofs.lemmas.List.{drop-drop}
use Rattle.std.proofs.lemmas.List.Elements.{All-append, All-cons, All-head, All-nil, All-tail}
use Rattle.std.proofs.lemmas.List.Folds.{concat-append}
use Rattle.f11_flx.specs.Filling.{FailsToPour, Out, Pouring, Pours, Refusing, TakingBlocks, TakesNext, Took, out_text, pending}
use Rattle.f11_flx.specs.Puts.{PutsAt}
use Rattle.f11_flx.specs.Records.{all}
use Rattle.f11_flx.specs.ToText.{Converts, Stops, StopsAt, rest_of, text_left}
use Rattle.f11_flx.specs.declared.refusal.FlxRefusal.{FlxRefusal}
use Rattle.f11_flx.specs.declared.to_text.ToText.{ToText}
use Rattle.f11_flx.proofs.Texts.ConvertLemmas.{option_map-append}
use Rattle.f11_flx.proofs.Texts.TextLemmas.{ending_at-few}

-- blocks of 512 bytes have 512 times as many
pub whole-length : (pieces : List (List ℕ)) → All (λ b. length b ≡ 512) pieces → length (concat pieces) ≡ 512 * length pieces
whole-length [] whole = refl
whole-length (b ∷ more) whole =
    omega (
      arith,
      All-head (λ x. length x ≡ 512) b more whole,
      whole-length more (All-tail (λ x. length x ≡ 512) b more whole),
      length-append {A = ℕ} b (concat more),
    )

-- nothing before a text
pub option_map-nothing : (o : Option (List ℕ)) → option_map (λ (text : List ℕ). [] ++ text) o ≡ o
option_map-nothing None = refl
option_map-nothing (Some text) = refl

-- what stands before a text is part of it
pub option_map-longer : (a : List ℕ) (o : Option (List ℕ)) (text : List ℕ) → option_map (λ (t : List ℕ). a ++ t) o ≡ Some text
    → length a ≤ length text
option_map-longer a None text is = absurd (cc)
option_map-longer a (Some t) text is =
    let same : a ++ t ≡ text = cc in omega (arith, ap (λ (l : List ℕ). length l) same, length-append {A = ℕ} a t)

-- where no byte is to come, those that follow don't matter
text-of-none : (t : ToText) (xs ys : List ℕ) → rest_of t ≡ 0 → text_left t xs ≡ text_left t ys
text-of-none t xs ys none = cc

module _ {V : Type 0} (K : TakingBlocks V) (name : List ℕ) where
  pub took-append : (place : ℕ) (xs ys : List (List ℕ)) (old now new : V) → Took K name place xs old now
      → Took K name (place + length xs) ys now new → Took K name place (xs ++ ys) old new
  took-append place [] ys old now new h k =
      subst (λ v. Took K name place ys v new) h (subst (λ n. Took K name n ys now new) (omega arith) k)
  took-append place (x ∷ xs) ys old now new h k =
      (h.0, h.1, took-append (suc place) xs ys h.0 now new h.2 (subst (λ n. Took K name n ys now new) (omega arith) k))

  pub took-one : (place : ℕ) (xs : List (List ℕ)) (x : List ℕ) (old now new : V) → Took K name place xs old now
      → K name (place + length xs) x now new → Took K name place (xs ++ x ∷ []) old new
  took-one place xs x old now new h k = took-append place xs (x ∷ []) old now new h (new, k, refl)

  -- bytes are read, and more of the block is filled
  pub pouring-read : (t0 t t' : ToText) (source : List ℕ) (used read next : ℕ) (o0 o o' : Out) (v w : V) →
      Pouring K name t0 t source used o0 o v w → Converts t t' (drop used source) read o'.block o.to o'.to
      → PutsAt o.block o'.block o.to o'.to →
      o'.place ≡ o.place → next ≡ used + read → Pouring K name t0 t' source next o0 o' v w
  pouring-read t0 t t' source used read next o0 o o' v w h c p same is = record {
    pieces = h.pieces;
    took = h.took;
    place = same ∙ h.place;
    whole = h.whole;
    text = λ more long.
        let enough : rest_of t ≤ length (drop used source ++ more) =
        omega (
          arith,
          h.read,
          h.within,
          long,
          length-append {A = ℕ} source more,
          length-append {A = ℕ} (drop used source) more,
          length-drop {A = ℕ} used source,
        ) in
        let filled : pending o ++ slice_range o'.block o.to o'.to ≡ pending o' =
        ap (λ (b : List ℕ). b ++ slice_range o'.block o.to o'.to) (sym p.before) ∙ sym (take-add o.to (o'.to - o.to) o'.block)
        ∙ ap (λ (n : ℕ). take n o'.block) (omega (arith, c.order)) in
        let behind : drop read (drop used source) ≡ drop next source = drop-drop read used source
        ∙ ap (λ (n : ℕ). drop n source) (sym is) in
        h.text more long
        ∙ ap (λ (r : Option (List ℕ)). option_map (λ (text : List ℕ). concat h.pieces ++ text)
        (option_map (λ (text : List ℕ). pending o ++ text) r)) (c.text all more enough)
        ∙ ap (option_map (λ (text : List ℕ). concat h.pieces ++ text))
        (option_map-append (pending o) (slice_range o'.block o.to o'.to) (text_left t' (drop read (drop used source) ++ more)))
        ∙ ap (λ (b : List ℕ). option_map (λ (text : List ℕ). concat h.pieces ++ text)
        (option_map (λ (text : List ℕ). b ++ text) (text_left t' (drop read (drop used source) ++ more)))) filled
        ∙ ap (λ (b : List ℕ). option_map (λ (text : List ℕ). concat h.pieces ++ text) (out_text o' t' (b ++ more))) behind;
    read = omega (arith, h.read, c.read, is);
    within = omega (arith, h.within, c.within, length-drop {A = ℕ} used source, is);
    few = omega (arith, h.few, c.few, is);
  }

  -- a block that is full is given
  pub pouring-gave : (t0 t : ToText) (source : List ℕ) (used : ℕ) (o0 o o' : Out) (v w u : V) →
      Pouring K name t0 t source used o0 o v w → TakesNext K name o o' w u → o.to ≡ 512 → length o.block ≡ 512 →
      Pouring K name t0 t source used o0 o' v u
  pouring-gave t0 t source used o0 o o' v w u h n full size =
      let last : pending o ≡ o.block = ap (λ (k : ℕ). take k o.block) (full ∙ sym size) ∙ take-length o.block in
      let all : concat (h.pieces ++ o.block ∷ []) ≡ concat h.pieces ++ pending o =
      concat-append h.pieces (o.block ∷ []) ∙ ap (λ (b : List ℕ). concat h.pieces ++ b) (append-nil o.block ∙ sym last) in
      let more-by-one : length (h.pieces ++ o.block ∷ []) ≡ length h.pieces + 1 = length-append h.pieces (o.block ∷ []) in
      record {
        pieces = h.pieces ++ o.block ∷ [];
        took = took-one o0.place h.pieces o.block v w u h.took (subst (λ k. K name k o.block w u) h.place n.took);
        place = omega (arith, n.next, h.place, more-by-one);
        whole = All-append (λ b. length b ≡ 512) h.pieces (o.block ∷ []) h.whole
            (All-cons (λ b. length b ≡ 512) o.block [] size (All-nil (λ b. length b ≡ 512)));
        text = λ more long.
            h.text more long
            ∙ option_map-append (concat h.pieces) (pending o) (text_left t (drop used source ++ more))
            ∙ ap (λ (b : List ℕ). option_map (λ (text : List ℕ). b ++ text) (text_left t (drop used source ++ more))) (sym all)
            ∙ ap (option_map (λ (text : List ℕ). concat (h.pieces ++ o.block ∷ []) ++ text))
            (sym (option_map-nothing (text_left t (drop used source ++ more)))
            ∙ ap (λ (k : ℕ). option_map (λ (text : List ℕ). take k o'.block ++ text) (text_left t (drop used source ++ more)))
            (sym n.empty));
        read = h.read;
        within = h.within;
        few = omega (arith, h.few, n.empty, more-by-one, full);
      }

  -- nothing more comes for the source
  pub pouring-ends : (t0 t : ToText) (source : List ℕ) (used read : ℕ) (o0 o : Out) (v w : V) →
      Pouring K name t0 t source (used + read) o0 o v w → Stops t (drop used source) read → used ≤ length source → length source ≤ 512
      → o0.to < 512 →
      Pours K name t0 t source o0 o v w
  pouring-ends t0 t source used read o0 o v w h stops low size room = record {
    pieces = h.pieces;
    took = h.took;
    place = h.place;
    few = omega (arith, h.few, h.within, ending_at-few t0.place, size, room);
    whole = h.whole;
    text = λ more long. h.text more long
        ∙ ap (λ (r : Option (List ℕ)). option_map (λ (text : List ℕ). concat h.pieces ++ text)
        (option_map (λ (text : List ℕ). pending o ++ text) r)) (same stops.1 more);
    rest = rest stops.1;
    ended = stops.0;
  }
    where
      same : ((read ≡ length (drop used source)) ⊎ (rest_of t ≡ 0)) → (more : List ℕ)
          → text_left t (drop (used + read) source ++ more) ≡ text_left t more
      same (inl every) more =
          let whole : used + read ≡ length source = omega (arith, every, low, length-drop {A = ℕ} used source) in
          ap (λ (n : ℕ). text_left t (drop n source ++ more)) whole ∙ ap (λ (b : List ℕ). text_left t (b ++ more)) (drop-length source)
      same (inr none) more = text-of-none t (drop (used + read) source ++ more) more none

      rest : ((read ≡ length (drop used source)) ⊎ (rest_of t ≡ 0)) → rest_of t ≡ rest_of t0 - length source
      rest (inl every) = omega (arith, h.read, every, low, length-drop {A = ℕ} used source)
      rest (inr none) = omega (arith, h.read, none, h.within)

  -- a block is refused
  pub pouring-refused : (R : Refusing V) (t0 t : ToText) (source : List ℕ) (used : ℕ) (o0 o : Out) (e : FlxRefusal) (v w u : V) →
      Pouring K name t0 t source used o0 o v w → o.to ≡ 512 → length o.block ≡ 512 → R name o.place o.block e w u
      → FailsToPour K R name t0 source o0 e v u
  pouring-refused R t0 t source used o0 o e v w u h full size r = inr (record {
    pieces = h.pieces;
    last = o.block;
    between = w;
    took = h.took;
    refused = subst (λ k. R name k o.block e w u) h.place r;
    longer = λ more text long is.
        let last : length (pending o) ≡ 512 = ap (λ (k : ℕ). length (take k o.block)) (full ∙ sym size)
        ∙ ap (λ (l : List ℕ). length l) (take-length o.block) ∙ size in
        let all : option_map (λ (t : List ℕ). (concat h.pieces ++ pending o) ++ t) (text_left t (drop used source ++ more)) ≡ Some text =
        sym (option_map-append (concat h.pieces) (pending o) (text_left t (drop used source ++ more))) ∙ sym (h.text more long) ∙ is in
        omega (
          arith,
          option_map-longer (concat h.pieces ++ pending o) (text_left t (drop used source ++ more)) text all,
          length-append {A = ℕ} (concat h.pieces) (pending o),
          whole-length h.pieces h.whole,
          last,
        );
  })

  -- the block isn't full
  pub pouring-ends-at : (t0 t : ToText) (source : List ℕ) (used read : ℕ) (o0 o : Out) (v w : V) →
      Pouring K name t0 t source (used + read) o0 o v w → StopsAt t (drop used source) read o.to → used ≤ length source
      → length source ≤ 512 → o0.to < 512 → o.to < 512 →
      Pours K name t0 t source o0 o v w
  pouring-ends-at t0 t source used read o0 o v w h (inl full) low size room less = absurd (omega (arith, full, less))
  pouring-ends-at t0 t source used read o0 o v w h (inr stops) low size room less =
      pouring-ends t0 t source used read o0 o v w h stops low size room

  -- few blocks are given meanwhile
  pub pouring-few : (t0 t : ToText) (source : List ℕ) (used : ℕ) (o0 o : Out) (v w : V) → Pouring K name t0 t source used o0 o v w →
      512 * o.place ≤ 512 * o0.place + o0.to + 2 + 3 * length source
  pouring-few t0 t source used o0 o v w h = omega (arith, h.few, h.place, h.within, ending_at-few t0.place)
