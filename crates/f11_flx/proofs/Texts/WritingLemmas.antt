-- A text that is converted into the blocks of a file, a step at a time.
use Rattle.std.proofs.Common.{◌≡◌, inl, inr, ℕ, suc, ◌+◌, ◌-◌, ◌*◌, ◌<◌, ◌≤◌, List, [], ◌∷◌, ◌++◌, length, take, drop, refl, sym, ap, ◌∙◌}
use Rattle.std.proofs.Common.{subst, append_assoc, append-nil, length-append, length-drop, arith}
use Rattle.std.specs.Prelude.{slice_range}
use Rattle.std.specs.List.{concat}
use Rattle.std.proofs.Math.Seq.{drop-length, take-add, take-length}
use Rattle.std.proofs.lemmas.List.{drop-drop}
use Rattle.std.proofs.lemmas.List.Elements.{All-append, All-cons, All-nil}
use Rattle.std.proofs.lemmas.List.Folds.{concat-append}
use Rattle.f11_bytes.proofs.PartLemmas.{length-slice_range}
use Rattle.f11_store.specs.declared.refusals.Refusal.{Refusal}
use Rattle.f11_making.specs.Asking.{Denies, Granted, FilesService, Who, writes, writes_of}
use Rattle.f11_flx.specs.Filling.{Out, pending}
use Rattle.f11_flx.specs.Puts.{PutsAt}
use Rattle.f11_flx.specs.ToRecords.{ConvertsText, GivesBytes, StopsText, bytes_to_come}
use Rattle.f11_flx.specs.Writing.{FailsToWritePieces, Onward, WritesPieces, WritesNext, out_bytes}
use Rattle.f11_flx.specs.declared.refusal.FlxRefusal.TheVariants.{Files}
use Rattle.f11_flx.specs.declared.to_records.ToRecords.{ToRecords}
use Rattle.f11_making.proofs.AskingLemmas.{granted-append, writes-append}
use Rattle.f11_flx.proofs.Texts.PourLemmas.{whole-length}

abbrev pub is-whole : List ℕ → Type 0
is-whole b = length b ≡ 512

-- all lines that are read are read one after another
pub onward-same : (s : ToRecords) (bytes : List ℕ) (o : Out) → Onward s s bytes bytes o o []
onward-same s bytes o = record { bytes = refl; longest = refl; long = refl }

pub onward-then : (s t u : ToRecords) (a b c : List ℕ) (o p q : Out) (xs ys : List (List ℕ)) → Onward s t a b o p xs → Onward t u b c p q ys
    → Onward s u a c o q (xs ++ ys)
onward-then s t u a b c o p q xs ys h k = record {
  bytes = h.bytes ∙ ap (λ r. concat xs ++ r) k.bytes ∙ sym (append_assoc (concat xs) (concat ys) (out_bytes q u c))
      ∙ ap (λ r. r ++ out_bytes q u c) (sym (concat-append xs ys));
  longest = k.longest ∙ h.longest;
  long = k.long ∙ h.long;
}

-- a block is filled further
pub onward-fill : (s t : ToRecords) (a b : List ℕ) (o p : Out) → GivesBytes s t a b (slice_range p.block o.to p.to)
    → PutsAt o.block p.block o.to p.to → o.to ≤ p.to → Onward s t a b o p []
onward-fill s t a b o p g put order = record {
  bytes =
      let filled : pending o ++ slice_range p.block o.to p.to ≡ pending p =
      ap (λ (x : List ℕ). x ++ slice_range p.block o.to p.to) (sym put.before) ∙ sym (take-add o.to (p.to - o.to) p.block)
      ∙ ap (λ (n : ℕ). take n p.block) (omega (arith, order)) in
      ap (λ r. pending o ++ r) g.bytes ∙ sym (append_assoc (pending o) (slice_range p.block o.to p.to) (bytes_to_come t b))
      ∙ ap (λ r. r ++ bytes_to_come t b) filled;
  longest = g.longest;
  long = g.long;
}

-- one that is full is given
pub onward-give : (s : ToRecords) (a : List ℕ) (o p : Out) → o.to ≡ 512 → length o.block ≡ 512 → p.to ≡ 0
    → Onward s s a a o p (o.block ∷ [])
onward-give s a o p full size empty = record {
  bytes =
      let last : pending o ≡ o.block = ap (λ (k : ℕ). take k o.block) (full ∙ sym size) ∙ take-length o.block in
      let none : pending p ≡ [] = ap (λ (k : ℕ). take k p.block) empty in
      ap (λ r. r ++ bytes_to_come s a) last ∙ ap (λ r. r ++ bytes_to_come s a) (sym (append-nil o.block))
      ∙ ap (λ r. concat (o.block ∷ []) ++ (r ++ bytes_to_come s a)) (sym none);
  longest = refl;
  long = refl;
}

module _ {V : Type 0} (S : FilesService V) (who : Who) (lun : ℕ) where
  pub writes-start : (s : ToRecords) (source : List ℕ) (o : Out) (v : V) → WritesPieces S who lun s s source source o o v v
  writes-start s source o v = record {
    pieces = [];
    granted = refl;
    place = omega arith;
    whole = All-nil is-whole;
    onward = λ more. onward-same s (source ++ more) o;
    unended = omega arith;
  }

  -- bytes are read, and more of the block is filled
  pub writes-read : (s0 s s' : ToRecords) (source : List ℕ) (used read next : ℕ) (o0 o o' : Out) (v w : V) →
      WritesPieces S who lun s0 s source (drop used source) o0 o v w → ConvertsText s s' (drop used source) read o'.block o.to o'.to
      → PutsAt o.block o'.block o.to o'.to →
      o'.place ≡ o.place → next ≡ used + read → WritesPieces S who lun s0 s' source (drop next source) o0 o' v w
  writes-read s0 s s' source used read next o0 o o' v w h c p same is =
      let behind : drop read (drop used source) ≡ drop next source = drop-drop read used source ∙ ap (λ (n : ℕ). drop n source) (sym is) in
      record {
        pieces = h.pieces;
        granted = h.granted;
        place = same ∙ h.place;
        whole = h.whole;
        onward = λ more.
            let here : Onward s s' (drop used source ++ more) (drop next source ++ more) o o' [] =
            subst (λ b. Onward s s' (drop used source ++ more) (b ++ more) o o' []) behind
            (onward-fill s s' (drop used source ++ more) (drop read (drop used source) ++ more) o o' (c.goes_on more) p c.order) in
            subst (λ l. Onward s0 s' (source ++ more) (drop next source ++ more) o0 o' l) (append-nil h.pieces)
            (onward-then s0 s s' (source ++ more) (drop used source ++ more) (drop next source ++ more) o0 o o' h.pieces []
            (h.onward more) here);
        unended = omega (arith, h.unended, c.unended, c.within, is, length-drop {A = ℕ} used source, length-drop {A = ℕ} next source);
      }

  -- a block that is full is written
  pub writes-gave : (s0 s : ToRecords) (source rest : List ℕ) (o0 o o' : Out) (v w u : V) →
      WritesPieces S who lun s0 s source rest o0 o v w → WritesNext S who lun o o' w u → o.to ≡ 512 → length o.block ≡ 512
      → WritesPieces S who lun s0 s source rest o0 o' v u
  writes-gave s0 s source rest o0 o o' v w u h n full size = record {
    pieces = h.pieces ++ o.block ∷ [];
    granted = subst (λ l. Granted S who l v u) (sym (writes-append lun o0.place h.pieces (o.block ∷ [])))
        (granted-append S who (writes_of lun o0.place h.pieces) (writes_of lun (o0.place + length h.pieces) (o.block ∷ [])) v w u h.granted
        (subst (λ k. Granted S who (writes_of lun k (o.block ∷ [])) w u) h.place n.granted));
    place = omega (arith, n.next, h.place, length-append h.pieces (o.block ∷ []));
    whole = All-append is-whole h.pieces (o.block ∷ []) h.whole (All-cons is-whole o.block [] size (All-nil is-whole));
    onward = λ more. onward-then s0 s s (source ++ more) (rest ++ more) (rest ++ more) o0 o o' h.pieces (o.block ∷ []) (h.onward more)
        (onward-give s (rest ++ more) o o' full size n.empty);
    unended = h.unended;
  }

  -- all bytes were read
  pub writes-ends-at : (s0 s : ToRecords) (source : List ℕ) (used read : ℕ) (o0 o : Out) (v w : V)
      → WritesPieces S who lun s0 s source (drop (used + read) source) o0 o v w →
      StopsText s (drop used source) read o.to → used ≤ length source → o.to < 512 → WritesPieces S who lun s0 s source [] o0 o v w
  writes-ends-at s0 s source used read o0 o v w h (inl full) low less = absurd (omega (arith, full, less))
  writes-ends-at s0 s source used read o0 o v w h (inr stops) low less =
      let all : used + read ≡ length source = omega (arith, stops.1, low, length-drop {A = ℕ} used source) in
      subst (λ r. WritesPieces S who lun s0 s source r o0 o v w) (ap (λ (n : ℕ). drop n source) all ∙ drop-length source) h

  -- a block is refused
  pub writes-refused : (s0 s : ToRecords) (source rest : List ℕ) (o0 o : Out) (e : Refusal) (v w u : V)
      → WritesPieces S who lun s0 s source rest o0 o v w → o.to ≡ 512 → length o.block ≡ 512 →
      Denies S who (writes lun (suc o.place) o.block) e w u → FailsToWritePieces S who lun s0 source o0 (Files e) v u
  writes-refused s0 s source rest o0 o e v w u h full size d = record {
    pieces = h.pieces;
    last = o.block;
    between = w;
    granted = h.granted;
    denied = subst (λ k. Denies S who (writes lun (suc k) o.block) e w u) h.place d;
    whole = All-append is-whole h.pieces (o.block ∷ []) h.whole (All-cons is-whole o.block [] size (All-nil is-whole));
    begins = λ more.
        let empty : Out = record { block = []; to = 0; place = 0 } in
        let on = onward-then s0 s s (source ++ more) (rest ++ more) (rest ++ more) o0 o empty h.pieces (o.block ∷ []) (h.onward more)
        (onward-give s (rest ++ more) o empty full size refl) in
        (out_bytes empty s (rest ++ more), on.bytes);
  }

  -- few blocks are written meanwhile
  pub writes-few : (s0 s : ToRecords) (source rest : List ℕ) (o0 o : Out) (v w : V) → WritesPieces S who lun s0 s source rest o0 o v w →
      512 * o.place + length (out_bytes o s rest) ≡ 512 * o0.place + length (out_bytes o0 s0 source)
  writes-few s0 s source rest o0 o v w h =
      let on = (h.onward []).bytes in
      let front : out_bytes o0 s0 (source ++ []) ≡ out_bytes o0 s0 source = ap (λ b. out_bytes o0 s0 b) (append-nil source) in
      let behind : out_bytes o s (rest ++ []) ≡ out_bytes o s rest = ap (λ b. out_bytes o s b) (append-nil rest) in
      let all = ap (λ (l : List ℕ). length l) (sym front ∙ on ∙ ap (λ b. concat h.pieces ++ b) behind) in
      omega (arith, all, length-append {A = ℕ} (concat h.pieces) (out_bytes o s rest), whole-length h.pieces h.whole, h.place)

  pub writes-few-blocks : (s0 s : ToRecords) (source rest : List ℕ) (o0 o : Out) (v w : V)
      → WritesPieces S who lun s0 s source rest o0 o v w →
      512 * o0.place + length (out_bytes o0 s0 source) < 4294967295 → o.place < 4294967295
  writes-few-blocks s0 s source rest o0 o v w h few = omega (arith, writes-few s0 s source rest o0 o v w h, few)

pub within-more : (source : List ℕ) (used read : ℕ) → used ≤ length source → read ≤ length (drop used source) → used + read ≤ length source
within-more source used read low less = omega (arith, low, less, length-drop {A = ℕ} used source)

-- the bytes to come are fewer when a block was filled with some
pub fewer-to-come : (s s' : ToRecords) (source : List ℕ) (used read next : ℕ) (target : List ℕ) (from to : ℕ)
    → ConvertsText s s' (drop used source) read target from to →
    to ≡ 512 → length target ≡ 512 → from < 512 → next ≡ used + read
    → suc (length (bytes_to_come s' (drop next source))) ≤ length (bytes_to_come s (drop used source))
fewer-to-come s s' source used read next target from to c full size room is =
    let on = (c.goes_on []).bytes in
    let front : bytes_to_come s (drop used source ++ []) ≡ bytes_to_come s (drop used source) =
    ap (λ b. bytes_to_come s b) (append-nil (drop used source)) in
    let behind : bytes_to_come s' (drop read (drop used source) ++ []) ≡ bytes_to_come s' (drop next source) =
    ap (λ b. bytes_to_come s' b) (append-nil (drop read (drop used source)) ∙ drop-drop read used source
    ∙ ap (λ (n : ℕ). drop n source) (sym is)) in
    let all = ap (λ (l : List ℕ). length l) (sym front ∙ on ∙ ap (λ b. slice_range target from to ++ b) behind) in
    let given = length-slice_range target from to (omega (arith, full, size)) in
    omega (arith, all, given, full, room, length-append {A = ℕ} (slice_range target from to) (bytes_to_come s' (drop next source)))
