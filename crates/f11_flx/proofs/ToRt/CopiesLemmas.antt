-- Blocks that are read one by one, and given to a target as they are or as a text.
use Rattle.std.proofs.Common.{◌≡◌, inl, inr, ℕ, ◌+◌, ◌-◌, ◌*◌, ◌%◌, ◌<◌, ◌≤◌, false, List, [], ◌∷◌, ◌++◌, length, take, replicate, Option}
use Rattle.std.proofs.Common.{Some, None, All, refl, sym, ap, ◌∙◌, subst, append_assoc, append-nil, length-append, arith}
use Rattle.std.specs.Prelude.{option_map}
use Rattle.std.specs.List.{concat}
use Rattle.std.proofs.lemmas.List.{length-replicate, length-take-le}
use Rattle.std.proofs.lemmas.List.Elements.{All-append, All-cons, All-nil}
use Rattle.std.proofs.lemmas.List.Folds.{concat-append}
use Rattle.f11_store.specs.declared.refusals.Refusal.{Refusal}
use Rattle.f11_making.specs.Asking.{Denies, Granted, Grants, FilesService, Who, reads, reads_of}
use Rattle.f11_flx.specs.Copies.{CopiesBlocks, CopiesText, FailsToCopyBlocks, FailsToCopyText}
use Rattle.f11_flx.specs.Filling.{FailsToFinish, FailsToPour, FinishesBlocks, Out, Pours, Refusing, TakingBlocks, Took, out_text, padded}
use Rattle.f11_flx.specs.Filling.{pending}
use Rattle.f11_flx.specs.Lines.{in_whole_blocks}
use Rattle.f11_flx.specs.Records.{all}
use Rattle.f11_flx.specs.ToText.{ends_record, rest_of, text_left}
use Rattle.f11_flx.specs.declared.refusal.FlxRefusal.{FlxRefusal}
use Rattle.f11_flx.specs.declared.refusal.FlxRefusal.TheVariants.{Files}
use Rattle.f11_flx.specs.declared.to_text.ToText.{ToText}
use Rattle.f11_making.proofs.AskingLemmas.{reads-denied, reads-more}
use Rattle.f11_flx.proofs.Texts.ConvertLemmas.{option_map-append}
use Rattle.f11_flx.proofs.Texts.EndLemmas.{text_ends}
use Rattle.f11_flx.proofs.Texts.PourLemmas.{option_map-nothing, took-append, took-one, whole-length}
use Rattle.f11_flx.proofs.SmallLemmas.{some-one}

-- whole blocks stay as they are
whole-blocks : (bytes : List ℕ) (n : ℕ) → length bytes ≡ 512 * n → in_whole_blocks bytes ≡ bytes
whole-blocks bytes n size =
    let none : (512 - length bytes % 512) % 512 ≡ 0 = omega (arith, size) in
    ap (λ (k : ℕ). bytes ++ replicate k 0) none ∙ append-nil bytes

-- the last one is filled with zeros
padded-blocks : (bytes : List ℕ) (n to : ℕ) → length bytes ≡ 512 * n + to → 0 < to → to < 512
    → in_whole_blocks bytes ≡ bytes ++ replicate (512 - to) 0
padded-blocks bytes n to size some less =
    let rest : (512 - length bytes % 512) % 512 ≡ 512 - to = omega (arith, size, some, less) in
    ap (λ (k : ℕ). bytes ++ replicate k 0) rest

module _ {V W : Type 0} (S : FilesService V) (K : TakingBlocks W) (R : Refusing W) (who : Who) (lun : ℕ) (name : List ℕ) where
  pub blocks-start : (v : V) (w : W) → CopiesBlocks S K who lun name 0 v v w w
  blocks-start v w = record { given = []; count_is = refl; asked = refl; took = refl; whole = All-nil (λ b. length b ≡ 512) }

  pub blocks-more : (k : ℕ) (b : List ℕ) (v now u : V) (w x y : W) → CopiesBlocks S K who lun name k v now w x
      → Grants S who (reads lun (k + 1) b) now u →
      K name k b x y → length b ≡ 512 → CopiesBlocks S K who lun name (k + 1) v u w y
  blocks-more k b v now u w x y h g taken size = record {
    given = h.given ++ b ∷ [];
    count_is = omega (arith, length-append h.given (b ∷ []), h.count_is);
    asked = reads-more S who lun h.given b k v now u h.count_is h.asked g;
    took = took-one K name 0 h.given b w x y h.took (subst (λ n. K name n b x y) (omega (arith, h.count_is)) taken);
    whole = All-append (λ b. length b ≡ 512) h.given (b ∷ []) h.whole
        (All-cons (λ b. length b ≡ 512) b [] size (All-nil (λ b. length b ≡ 512)));
  }

  pub blocks-denied : (k count : ℕ) (b : List ℕ) (e : Refusal) (v now u : V) (w x : W) → CopiesBlocks S K who lun name k v now w x →
      Denies S who (reads lun (k + 1) b) e now u → k < count → FailsToCopyBlocks S K R who lun name count (Files e) v u w x
  blocks-denied k count b e v now u w x h d less = inl (record {
    refusal = e;
    is = refl;
    given = h.given ++ b ∷ [];
    few = omega (arith, length-append h.given (b ∷ []), h.count_is, less);
    breaks = reads-denied S who lun h.given b k e v now u h.count_is h.asked d;
    pieces = h.given;
    took = h.took;
  })

  pub blocks-refused : (k count : ℕ) (b : List ℕ) (e : FlxRefusal) (v now u : V) (w x y : W) → CopiesBlocks S K who lun name k v now w x →
      Grants S who (reads lun (k + 1) b) now u → R name k b e x y → k < count → FailsToCopyBlocks S K R who lun name count e v u w y
  blocks-refused k count b e v now u w x y h g r less = inr (record {
    given = h.given ++ b ∷ [];
    few = omega (arith, length-append h.given (b ∷ []), h.count_is, less);
    asked = reads-more S who lun h.given b k v now u h.count_is h.asked g;
    pieces = h.given;
    last = b;
    between = x;
    took = h.took;
    refused = subst (λ n. R name n b e x y) (sym h.count_is) r;
    longer = omega (arith, h.count_is, less);
  })

-- The first k blocks of the file were read, and their text is converted so far.
pub record TextSoFar {V W : Type 0} (S : FilesService V) (K : TakingBlocks W) (who : Who) (lun : ℕ) (name : List ℕ) (t0 t : ToText) (k : ℕ)
    (o : Out)
    (old now : V) (v w : W) : Type 0 where
  pub given : List (List ℕ)
  pub count_is : length given ≡ k
  pub asked : Granted S who (reads_of lun 0 given) old now
  pub sizes : All (λ b. length b ≡ 512) given
  pub pieces : List (List ℕ)
  pub took : Took K name 0 pieces v w
  pub place : o.place ≡ length pieces
  pub whole : All (λ b. length b ≡ 512) pieces
  pub text : (more : List ℕ) → rest_of t0 ≤ length (concat given ++ more) →
      text_left t0 (concat given ++ more) ≡ option_map (λ text. concat pieces ++ text) (out_text o t more)
  pub rest : rest_of t ≡ rest_of t0 - 512 * k
  pub ended : ends_record t ≡ false
  pub few : o.place ≤ 5 * k
  pub room : o.to < 512

module _ {V W : Type 0} (S : FilesService V) (K : TakingBlocks W) (R : Refusing W) (who : Who) (lun : ℕ) (name : List ℕ) (t0 : ToText) where
  pub text-start : (o : Out) (v : V) (w : W) → o.place ≡ 0 → o.to ≡ 0 → ends_record t0 ≡ false
      → TextSoFar S K who lun name t0 t0 0 o v v w w
  text-start o v w first empty ended = record {
    given = [];
    count_is = refl;
    asked = refl;
    sizes = All-nil (λ b. length b ≡ 512);
    pieces = [];
    took = refl;
    place = first;
    whole = All-nil (λ b. length b ≡ 512);
    text = λ more long.
        sym (option_map-nothing (out_text o t0 more)
        ∙ ap (λ (n : ℕ). option_map (λ (text : List ℕ). take n o.block ++ text) (text_left t0 more)) empty
        ∙ option_map-nothing (text_left t0 more));
    rest = omega arith;
    ended = ended;
    few = omega (arith, first);
    room = omega (arith, empty);
  }

  -- the bytes of one block more
  one-more : (given : List (List ℕ)) (b more : List ℕ) → concat (given ++ b ∷ []) ++ more ≡ concat given ++ (b ++ more)
  one-more given b more =
      ap (λ (l : List ℕ). l ++ more) (concat-append given (b ∷ []) ∙ ap (λ (l : List ℕ). concat given ++ l) (append-nil b))
      ∙ append_assoc (concat given) b more

  module _ (t : ToText) (k : ℕ) (b : List ℕ) (o : Out) (v now u : V) (w x : W) (h : TextSoFar S K who lun name t0 t k o v now w x)
      (g : Grants S who (reads lun (k + 1) b) now u) (size : length b ≡ 512)
    where
      -- what is to come behind a block that is read
      enough : (more : List ℕ) → rest_of t0 ≤ length (concat (h.given ++ b ∷ []) ++ more) → rest_of t ≤ length (b ++ more)
      enough more long =
          omega (
            arith,
            h.rest,
            long,
            ap (λ (l : List ℕ). length l) (one-more h.given b more),
            length-append {A = ℕ} (concat h.given) (b ++ more),
            whole-length h.given h.sizes,
            h.count_is,
          )

      behind : (more : List ℕ) → rest_of t0 ≤ length (concat (h.given ++ b ∷ []) ++ more) →
          text_left t0 (concat (h.given ++ b ∷ []) ++ more) ≡ option_map (λ text. concat h.pieces ++ text) (out_text o t (b ++ more))
      behind more long =
          ap (text_left t0) (one-more h.given b more)
          ∙ h.text (b ++ more) (omega (arith, long, ap (λ (l : List ℕ). length l) (one-more h.given b more)))

      pub text-more : (t' : ToText) (o' : Out) (y : W) → Pours K name t t' b o o' x y → o'.to < 512 →
          TextSoFar S K who lun name t0 t' (k + 1) o' v u w y
      text-more t' o' y p room = record {
        given = h.given ++ b ∷ [];
        count_is = omega (arith, length-append h.given (b ∷ []), h.count_is);
        asked = reads-more S who lun h.given b k v now u h.count_is h.asked g;
        sizes = All-append (λ b. length b ≡ 512) h.given (b ∷ []) h.sizes
            (All-cons (λ b. length b ≡ 512) b [] size (All-nil (λ b. length b ≡ 512)));
        pieces = h.pieces ++ p.pieces;
        took = took-append K name 0 h.pieces p.pieces w x y h.took
            (subst (λ n. Took K name n p.pieces x y) (omega (arith, h.place)) p.took);
        place = omega (arith, p.place, h.place, length-append h.pieces p.pieces);
        whole = All-append (λ b. length b ≡ 512) h.pieces p.pieces h.whole p.whole;
        text = λ more long.
            behind more long
            ∙ ap (option_map (λ (text : List ℕ). concat h.pieces ++ text)) (p.text more (enough more long))
            ∙ option_map-append (concat h.pieces) (concat p.pieces) (out_text o' t' more)
            ∙ ap (λ (l : List ℕ). option_map (λ (text : List ℕ). l ++ text) (out_text o' t' more)) (sym (concat-append h.pieces p.pieces));
        rest = omega (arith, p.rest, h.rest, size);
        ended = p.ended;
        few = omega (arith, p.place, p.few, h.few);
        room = room;
      }

      pub text-fails : (count : ℕ) (e : FlxRefusal) (y : W) → k < count → FailsToPour K R name t b o e x y
          → FailsToCopyText S K R who lun name t0 count e v u w y
      text-fails count e y less (inl bad) = inr (inl (record {
        is = bad.bad;
        given = h.given ++ b ∷ [];
        few = omega (arith, length-append h.given (b ∷ []), h.count_is, less);
        asked = reads-more S who lun h.given b k v now u h.count_is h.asked g;
        none = λ more long.
            behind more long
            ∙ ap (λ (r : Option (List ℕ)). option_map (λ (text : List ℕ). concat h.pieces ++ text)
            (option_map (λ (text : List ℕ). pending o ++ text) r)) (bad.none more (enough more long));
        pieces = h.pieces ++ bad.pieces;
        took = took-append K name 0 h.pieces bad.pieces w x y h.took
            (subst (λ n. Took K name n bad.pieces x y) (omega (arith, h.place)) bad.took);
      }))
      text-fails count e y less (inr stop) = inr (inr (record {
        given = h.given ++ b ∷ [];
        few = omega (arith, length-append h.given (b ∷ []), h.count_is, less);
        asked = reads-more S who lun h.given b k v now u h.count_is h.asked g;
        pieces = h.pieces ++ stop.pieces;
        last = stop.last;
        between = stop.between;
        took = took-append K name 0 h.pieces stop.pieces w x stop.between h.took
            (subst (λ n. Took K name n stop.pieces x stop.between) (omega (arith, h.place)) stop.took);
        refused = subst (λ n. R name n stop.last e stop.between y) (omega (arith, h.place, length-append h.pieces stop.pieces))
            stop.refused;
        longer = λ more bytes long is. longer-by (out_text o t (b ++ more)) bytes (sym (behind more long) ∙ is)
            (λ text is. stop.longer more text (enough more long) is);
      }))
        where
          longer-by : (r : Option (List ℕ)) (bytes : List ℕ) → option_map (λ (text : List ℕ). concat h.pieces ++ text) r ≡ Some bytes →
              ((text : List ℕ) → r ≡ Some text → 512 * length stop.pieces < length text)
              → 512 * length (h.pieces ++ stop.pieces) < length bytes
          longer-by None bytes is long = absurd (cc)
          longer-by (Some text) bytes is long =
              let same : concat h.pieces ++ text ≡ bytes = cc in
              omega (
                arith,
                ap (λ (l : List ℕ). length l) same,
                length-append {A = ℕ} (concat h.pieces) text,
                length-append h.pieces stop.pieces,
                whole-length h.pieces h.whole,
                long text refl,
              )

  pub text-denied : (t : ToText) (k count : ℕ) (b : List ℕ) (o : Out) (e : Refusal) (v now u : V) (w x : W)
      → TextSoFar S K who lun name t0 t k o v now w x →
      Denies S who (reads lun (k + 1) b) e now u → k < count → FailsToCopyText S K R who lun name t0 count (Files e) v u w x
  text-denied t k count b o e v now u w x h d less = inl (record {
    refusal = e;
    is = refl;
    given = h.given ++ b ∷ [];
    few = omega (arith, length-append h.given (b ∷ []), h.count_is, less);
    breaks = reads-denied S who lun h.given b k e v now u h.count_is h.asked d;
    pieces = h.pieces;
    took = h.took;
  })

  module _ (t : ToText) (count : ℕ) (o : Out) (v now : V) (w x : W) (h : TextSoFar S K who lun name t0 t count o v now w x)
      (whole : rest_of t0 ≤ 512 * count) (size : length o.block ≡ 512)
    where
      -- what was converted in all
      abbrev all-bytes : List ℕ
      all-bytes = concat h.pieces ++ pending o

      -- it is all of the text, whatever follows the blocks that were read
      all-of : (more : List ℕ) → text_left t0 (concat h.given ++ more) ≡ Some all-bytes
      all-of more =
          let none : rest_of t ≡ 0 = omega (arith, h.rest, whole) in
          let enough : rest_of t0 ≤ length (concat h.given ++ more) =
          omega (arith, whole, length-append {A = ℕ} (concat h.given) more, whole-length h.given h.sizes, h.count_is) in
          h.text more enough
          ∙ ap (λ (r : Option (List ℕ)). option_map (λ (text : List ℕ). concat h.pieces ++ text)
          (option_map (λ (text : List ℕ). pending o ++ text) r)) (text_ends all t more none h.ended)
          ∙ ap (λ (l : List ℕ). Some (concat h.pieces ++ l)) (append-nil (pending o))

      filled : length (pending o) ≡ o.to
      filled = length-take-le o.to o.block (omega (arith, size, h.room))

      all-length : length all-bytes ≡ 512 * length h.pieces + o.to
      all-length = omega (arith, length-append {A = ℕ} (concat h.pieces) (pending o), whole-length h.pieces h.whole, filled)

      all-left : text_left t0 (concat h.given) ≡ Some all-bytes
      all-left = ap (text_left t0) (sym (append-nil (concat h.given))) ∙ all-of []

      pub text-finishes : (blocks : ℕ) (y : W) → FinishesBlocks K name o blocks x y → CopiesText S K who lun name t0 count blocks v now w y
      text-finishes blocks y (inl f) = record {
        given = h.given;
        count_is = h.count_is;
        asked = h.asked;
        sizes = h.sizes;
        pieces = h.pieces;
        took = subst (λ z. Took K name 0 h.pieces w z) (sym f.stays) h.took;
        blocks_are = f.blocks_are ∙ h.place;
        whole = h.whole;
        bytes = all-bytes;
        converted = all-left;
        pieces_are =
            let same : all-bytes ≡ concat h.pieces = ap (λ (n : ℕ). concat h.pieces ++ take n o.block) f.none
            ∙ append-nil (concat h.pieces) in
            sym same ∙ sym (whole-blocks all-bytes (length h.pieces) (omega (arith, all-length, f.none)));
      }
      text-finishes blocks y (inr f) = record {
        given = h.given;
        count_is = h.count_is;
        asked = h.asked;
        sizes = h.sizes;
        pieces = h.pieces ++ padded o ∷ [];
        took = took-one K name 0 h.pieces (padded o) w x y h.took (subst (λ n. K name n (padded o) x y) (omega (arith, h.place)) f.took);
        blocks_are = omega (arith, f.blocks_are, h.place, length-append h.pieces (padded o ∷ []));
        whole = All-append (λ b. length b ≡ 512) h.pieces (padded o ∷ []) h.whole
            (All-cons (λ b. length b ≡ 512) (padded o) []
            (omega (
              arith,
              length-append {A = ℕ} (pending o) (replicate (512 - o.to) 0),
              filled,
              length-replicate {A = ℕ} (512 - o.to) 0,
              h.room,
            )) (All-nil (λ b. length b ≡ 512)));
        bytes = all-bytes;
        converted = all-left;
        pieces_are =
            concat-append h.pieces (padded o ∷ []) ∙ ap (λ (l : List ℕ). concat h.pieces ++ l) (append-nil (padded o))
            ∙ sym (append_assoc (concat h.pieces) (pending o) (replicate (512 - o.to) 0))
            ∙ sym (padded-blocks all-bytes (length h.pieces) o.to all-length f.some h.room);
      }

      pub text-unfinished : (e : FlxRefusal) (y : W) → FailsToFinish R name o e x y
          → FailsToCopyText S K R who lun name t0 count e v now w y
      text-unfinished e y f = inr (inr (record {
        given = h.given;
        few = omega (arith, h.count_is);
        asked = h.asked;
        pieces = h.pieces;
        last = padded o;
        between = x;
        took = h.took;
        refused = subst (λ n. R name n (padded o) e x y) h.place f.refused;
        longer = λ more bytes long is.
            let same : all-bytes ≡ bytes = some-one (sym (all-of more) ∙ is) in
            omega (arith, all-length, ap (λ (l : List ℕ). length l) same, f.some);
      }))
