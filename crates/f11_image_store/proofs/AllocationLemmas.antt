-- Which blocks headers name where headers change, and which are free.
use Rattle.std.proofs.Common.{◌≡◌, ◌≢◌, ◌⊎◌, ◌+◌, ◌-◌, ◌<◌, ◌≤◌, ℕ, zero, suc, Bool, true, false, cond, List, [], ◌∷◌, ◌++◌, inl, inr}
use Rattle.std.proofs.Common.{length, take, drop, refl, sym, ap, subst, ◌∙◌, ◌&&◌, append_assoc, arith, eqb}
use Rattle.std.specs.List.{filter, range_with_len}
use Rattle.std.proofs.Math.Seq.{drop-append_seam, take-add, take-append_seam}
use Rattle.std.proofs.lemmas.Bool.{both_ways, cases_Bool, cases_eq}
use Rattle.std.proofs.lemmas.List.{append-nil, drop-drop}
use Rattle.std.proofs.lemmas.List.Elements.{filter-append}
use Rattle.std.proofs.lemmas.List.FromFn.{length-range_with_len}
use Rattle.f11_dev.specs.Image.{Image}
use Rattle.f11_header.specs.Fields.{file_number, check_word, owner, protection, characteristics, attributes, ident_area, ident_room}
use Rattle.f11_header.specs.Header.{holds_header}
use Rattle.f11_bytes.specs.Words.{word_sum}
use Rattle.f11_volume.specs.home.Home.{HomeFields}
use Rattle.f11_store.proofs.RangeLemmas.{range_with_len-append}
use Rattle.f11_volume.specs.map.HeaderBlock.{link_of, blocks_named}
use Rattle.f11_index.specs.Headers.{is_live, IsInFile, IsLastOf}
use Rattle.f11_index.specs.IndexFile.{Index}
use Rattle.f11_index.specs.Table.{Table, table_of, IsFile, IsLive, IsNext, IsHeaderOf, first, next}
use Rattle.f11_index.proofs.ChainLemmas.{file_of-header, live_of-header}
use Rattle.f11_index.proofs.HeadersLemmas.{last-whole, link_number, listed-are}
use Rattle.f11_index.proofs.NextLemmas.{live-tested}
use Rattle.f11_volume.specs.chain.FileHeaders.{file_blocks}
use Rattle.f11_volume.proofs.chain.ChangeLemmas.{file-stays}
use Rattle.f11_store.specs.declared.callers.Uic.{Uic}
use Rattle.f11_volume.specs.Volume.{Volume}
use Rattle.f11_writes.specs.Kept.{KeepsButSlot}
use Rattle.f11_writes.specs.OtherSlots.{KeepsOtherSlots}
use Rattle.f11_writes.proofs.OtherSlotLemmas.{file-was, live-was, next-was, nowhere, turned}
use Rattle.f11_image_store.specs.Allocation.{named_by, free_list, ownership_in, AddsHeaders, AddsFileless, BeginsWith, GainsBlocksAs}
use Rattle.f11_image_store.specs.Allocation.{KeepsBlocks, KeepsSaying, LinksFileless, NamesMore, SaysOnly}
use Rattle.f11_image_store.specs.ExtensionLaws.{EntersExtension}
use Rattle.f11_image_store.specs.FileLaws.{LinksOnTo, NamesMoreOf, SaysAlike}
use Rattle.f11_image_store.proofs.FileLemmas.{HasWritten, linked, longer, m-stays, of-now, last-linked}

-- a live header names its blocks, and no other names any
pub named-live : (t : Table) (n : ℕ) → IsLive t n → named_by t n ≡ blocks_named (t.header n)
unfolding named_by
named-live t n live = ap (λ (b : Bool). cond b (blocks_named (t.header n)) []) ((live-tested t n).1 live)

pub named-dead : (t : Table) (n : ℕ) → ¬ IsLive t n → named_by t n ≡ []
unfolding named_by
named-dead t n dead = elim (cases_Bool (is_live t n)) [
  | inl is ↦ absurd (dead ((live-tested t n).0 is))
  | inr not ↦ ap (λ (b : Bool). cond b (blocks_named (t.header n)) []) not
]

pub named-unused : (t : Table) (n : ℕ) → t.in_use n ≡ false → named_by t n ≡ []
named-unused t n unused = named-dead t n (λ live. both_ways _ unused live.in_use)

-- what a slot's header names follows from its use and its block
abbrev named-in : ℕ → Bool → List ℕ → List ℕ
named-in n used b = cond (used && (eqb (file_number b) n && (holds_header b && eqb (check_word b) (word_sum b 255)))) (blocks_named b) []

named-as : (t : Table) (n : ℕ) → named_by t n ≡ named-in n (t.in_use n) (t.header n)
unfolding named_by is_live
named-as t n = refl

pub named-same : (t u : Table) (n : ℕ) → u.in_use n ≡ t.in_use n → (t.in_use n ≡ true → u.header n ≡ t.header n)
    → named_by u n ≡ named_by t n
named-same t u n used same = elim (cases_Bool (t.in_use n)) [
  | inl is ↦ named-as u n ∙ (λ i. named-in n (used i) (same is i)) ∙ sym (named-as t n)
  | inr not ↦ named-unused u n (used ∙ not) ∙ sym (named-unused t n not)
]

pub named-others : (t u : Table) (n m : ℕ) → KeepsOtherSlots n t u → m ≢ n → named_by u m ≡ named_by t m
named-others t u n m others away = named-same t u m (others.in_use m away) (others.header m away)

-- a volume whose headers and free blocks are the same
pub keeps-same : (v w : Volume) → w ≡ v → KeepsBlocks v w
keeps-same v w same =
    record {
      size = ap (λ (x : Volume). x.size) same;
      names = λ n. ap (λ (x : Volume). named_by x.table n) same;
      free = ap (λ (x : Volume). x.free) same;
    }

-- one whose header n names what it named, and all others, too
pub keeps-slot : (n : ℕ) (old new : Image) (home : HomeFields) → KeepsButSlot n home old new
    → named_by (table_of new home) n ≡ named_by (table_of old home) n
    → (m : ℕ) → named_by (table_of new home) m ≡ named_by (table_of old home) m
keeps-slot n old new home kept same m = elim (cases_eq m n) [
  | inl here ↦ subst (λ (k : ℕ). named_by (table_of new home) k ≡ named_by (table_of old home) k) (sym here) same
  | inr away ↦ named-others (table_of old home) (table_of new home) n m kept.others away
]

-- what a header says of its file where it stays, and where it changes twice
pub said-again : {was now : List ℕ} → now ≡ was → SaysAlike was now
said-again same = record {
  owner_is = ap owner same;
  protection_is = ap protection same;
  characteristics_are = ap characteristics same;
  ident_is = ap ident_area same;
  ident_room_is = ap ident_room same;
  attributes_are = ap attributes same;
}

said-then : {a b c : List ℕ} → SaysAlike a b → SaysAlike b c → SaysAlike a c
said-then one two = record {
  owner_is = two.owner_is ∙ one.owner_is;
  protection_is = two.protection_is ∙ one.protection_is;
  characteristics_are = two.characteristics_are ∙ one.characteristics_are;
  ident_is = two.ident_is ∙ one.ident_is;
  ident_room_is = two.ident_room_is ∙ one.ident_room_is;
  attributes_are = two.attributes_are ∙ one.attributes_are;
}

ownership-stay : {was now : List ℕ} → SaysAlike was now → ownership_in now ≡ ownership_in was
ownership-stay alike = λ i. (alike.owner_is i, alike.protection_is i)

only-still : {ownership : Uic × ℕ} {was now : List ℕ} → SaysOnly ownership was → SaysAlike was now → SaysOnly ownership now
only-still says alike = record {
  ownership_is = ownership-stay alike ∙ says.ownership_is;
  no_characteristics = alike.characteristics_are ∙ says.no_characteristics;
  no_attributes = alike.attributes_are ∙ says.no_attributes;
  no_ident = alike.ident_room_is ∙ says.no_ident;
}

-- one slot was written, and its header says what it said
saying-kept : (t u : Table) (n : ℕ) → KeepsOtherSlots n t u → IsLive u n → (IsLive t n → SaysAlike (t.header n) (u.header n))
    → KeepsSaying t u
saying-kept t u n others live says = record {
  live = λ m was. elim (cases_eq m n) [
    | inl here ↦ subst (IsLive u) (sym here) live
    | inr away ↦ live-was u t n (turned t u n others) m away was
  ];
  alike = λ m was. elim (cases_eq m n) [
    | inl here ↦ subst (λ (k : ℕ). IsLive t k → SaysAlike (t.header k) (u.header k)) (sym here) says was
    | inr away ↦ said-again (others.header m away was.in_use)
  ];
}

-- a file with headers more, where those that there were say what they said
adds-saying : (f : ℕ) (ownership : Uic × ℕ) (t u : Table) → IsFile t f
    → ((n : ℕ) → IsHeaderOf u f n → IsHeaderOf t f n ⊎ SaysOnly ownership (u.header n))
    → KeepsSaying t u → AddsHeaders f ownership t u
adds-saying f ownership t u file added stay = record {
  file = file;
  added = added;
  live = stay.live;
  alike = λ n live _. stay.alike n live;
  first = ownership-stay (stay.alike f file.live);
}

-- the last header of a file was written, and is one of it still: so are the others
module _ (t u : Table) (f n : ℕ) (others : KeepsOtherSlots n t u) (last : IsLastOf t f n) (of_now : IsHeaderOf u f n) where
  pub headers-stay : {m : ℕ} → IsHeaderOf t f m → IsHeaderOf u f m
  headers-stay (first file) = elim (cases_eq f n) [
    | inl same ↦ subst (IsHeaderOf u f) (sym same) of_now
    | inr away ↦ first (file-was u t n (turned t u n others) f away file)
  ]
  headers-stay (next {n = a} {m = b} of goes) = elim (cases_eq b n) [
    | inl same ↦ subst (IsHeaderOf u f) (sym same) of_now
    | inr away ↦
        next (headers-stay of) (next-was u t n (turned t u n others) a b (λ same. nowhere (ap (link_number t) same ∙ last.no_link) goes)
        away goes)
  ]

-- it names more blocks
module _ (old new : Image) (home : HomeFields) (f n : ℕ) (block : List ℕ) (more lbn count : ℕ) (wrote : HasWritten n block home old new)
    (may : NamesMoreOf (table_of old home) f n block more lbn count) where
  abbrev was : Table
  was = table_of old home

  abbrev now : Table
  now = table_of new home

  of-last : IsHeaderOf now f n
  of-last = of-now old new home f n block wrote may.stands

  own-more : named_by now n ≡ named_by was n ++ range_with_len lbn count
  own-more =
      named-live now n (live_of-header of-last) ∙ ap blocks_named wrote.header ∙ may.blocks
      ∙ ap (λ (l : List ℕ). l ++ range_with_len lbn count) (sym (named-live was n (live_of-header may.stands.of)))

  -- the file has no header more
  none-more : {m : ℕ} → IsHeaderOf now f m → IsHeaderOf was f m
  none-more of =
      let last : IsLastOf now f n = record { of = of-last; no_link = ap (λ (b : List ℕ). (link_of b).number) wrote.header ∙ may.no_link } in
      headers-stay now was f n (turned was now n wrote.slot.others) last may.stands.of of

  stay-more : KeepsSaying was now
  stay-more =
      saying-kept was now n wrote.slot.others (live_of-header of-last)
      (λ _. subst (SaysAlike (was.header n)) (sym wrote.header) may.stands.alike)

  pub names-more : (ownership : Uic × ℕ) → NamesMore f ownership (range_with_len lbn count) was now
  names-more ownership = record {
    blocks = (longer old new home f n block more lbn count wrote may).blocks;
    headers = λ m of. headers-stay was now f n wrote.slot.others (record { of = may.stands.of; no_link = may.last }) of-last of;
    own = λ m. elim (cases_eq m n) [
      | inl same ↦ subst (λ (k : ℕ). BeginsWith (named_by now k) (named_by was k)) (sym same) (range_with_len lbn count, own-more)
      | inr away ↦ ([], named-others was now n m wrote.slot.others away ∙ sym (append-nil (named_by was m)))
    ];
    others = λ m none. named-others was now n m wrote.slot.others (λ same. none (subst (IsHeaderOf now f) (sym same) of-last));
    says = adds-saying f ownership was now (file_of-header may.stands.of) (λ m of. inl (none-more of)) stay-more;
  }

-- it links to another
module _ (old new : Image) (home : HomeFields) (f n m : ℕ) (block : List ℕ) (wrote : HasWritten n block home old new)
    (may : LinksOnTo (table_of old home) f n m block) where
  abbrev v : Table
  v = table_of old home

  abbrev w : Table
  w = table_of new home

  of-linking : IsHeaderOf w f n
  of-linking = of-now old new home f n block wrote may.stands

  own-same : named_by w n ≡ named_by v n
  own-same =
      named-live w n (live_of-header of-linking) ∙ ap blocks_named wrote.header ∙ may.blocks
      ∙ sym (named-live v n (live_of-header may.stands.of))

  -- and the file has that one more
  one-next : (a b : ℕ) → IsHeaderOf v f a ⊎ (a ≡ m) → IsNext w a b → (b ≡ n) ⊎ (b ≢ n) → (a ≡ n) ⊎ (a ≢ n) → IsHeaderOf v f b ⊎ (b ≡ m)
  one-next a b (inl of) goes (inl same) _ = inl (subst (IsHeaderOf v f) (sym same) may.stands.of)
  one-next a b (inl of) goes (inr away) (inl here) =
      inr (sym goes.number ∙ ap (link_number w) here ∙ ap (λ (h : List ℕ). (link_of h).number) wrote.header ∙ may.number)
  one-next a b (inl of) goes (inr away) (inr apart) = inl (next of (next-was v w n wrote.slot.others a b apart away goes))
  one-next a b (inr same) goes _ _ =
      let last = ap (link_number w) same ∙ ap (λ (h : List ℕ). (link_of h).number) (m-stays old new home f n m block wrote may)
      ∙ may.no_link in
      absurd (nowhere last goes)

  one-more : {k : ℕ} → IsHeaderOf w f k → IsHeaderOf v f k ⊎ (k ≡ m)
  one-more (first _) = inl (first (file_of-header may.stands.of))
  one-more (next {n = a} {m = b} of goes) = one-next a b (one-more of) goes (cases_eq b n) (cases_eq a n)

  pub links-fileless : LinksFileless f m v w
  links-fileless = record {
    blocks = (linked old new home f n m block wrote may).blocks
        ∙ ap (λ (b : List ℕ). file_blocks v f ++ blocks_named b) (m-stays old new home f n m block wrote may);
    headers = λ k of. headers-stay v w f n wrote.slot.others (record { of = may.stands.of; no_link = may.last }) of-linking of;
    linked = (last-linked old new home f n m block wrote may).of;
    names = keeps-slot n old new home wrote.slot own-same;
    one_more = λ k of. one-more of;
    stay = saying-kept v w n wrote.slot.others (live_of-header of-linking)
        (λ _. subst (SaysAlike (v.header n)) (sym wrote.header) may.stands.alike);
  }

-- a slot that wasn't in use holds a header that none links to: a file has the headers that it had
module _ (t u : Table) (f n : ℕ) (others : KeepsOtherSlots n t u) (file : IsFile t f) (unused : t.in_use n ≡ false)
    (unlinked : (k : ℕ) → IsInFile u k → ¬ IsNext u k n) where
  none-entered : {k : ℕ} → IsHeaderOf u f k → IsHeaderOf t f k
  none-entered (first _) = first file
  none-entered (next {n = a} {m = b} of goes) =
      let before = none-entered of in
      let from : a ≢ n = λ here. both_ways _ unused (ap t.in_use (sym here) ∙ (live_of-header before).in_use) in
      let to : b ≢ n = λ here. unlinked a (record { file = f; of = of }) (subst (IsNext u a) here goes) in
      next before (next-was t u n others a b from to goes)

-- a header was written and entered, which is no file's yet
pub adds-fileless : (f n m : ℕ) (ownership : Uic × ℕ) (block : List ℕ) (after : Index) (home : HomeFields) (old mid new : Image)
    → IsLastOf (table_of old home) f n
    → (table_of old home).in_use m ≡ false → SaysOnly ownership block → EntersExtension m block after home old mid new
    → AddsFileless f m ownership (table_of old home) (table_of new home)
adds-fileless f n m ownership block after home old mid new last unused says enters =
    let t : Table = table_of old home in
    let u : Table = table_of new home in
    let file : IsFile t f = file_of-header last.of in
    let slots : KeepsOtherSlots m t u = record {
      in_use = λ k away. enters.bit.slot.others.in_use k away ∙ enters.header.slot.others.in_use k away;
      header = λ k away used. enters.others k used;
    } in
    record {
      file = file;
      none_more = λ k of. none-entered t u f m slots file unused enters.unlinked of;
      says = subst (SaysOnly ownership) (sym enters.block_is) says;
      stay = saying-kept t u m slots enters.live (λ live. absurd (both_ways _ unused live.in_use));
      blocks = (file-stays t u f (λ k listed. enters.others k (live_of-header (listed-are t f k (last-whole t f n last) listed)).in_use)).1;
      headers = enters.files f;
      none = named-unused t m unused;
      others = λ k away.
          named-others (table_of mid home) u m k enters.bit.slot.others away
          ∙ named-others t (table_of mid home) m k enters.header.slot.others away;
    }

-- and then the file has it
adds-header : (f m : ℕ) (ownership : Uic × ℕ) (t u w : Table) → IsLive u m → AddsFileless f m ownership t u → LinksFileless f m u w
    → AddsHeaders f ownership t w
adds-header f m ownership t u w live adds links = adds-saying f ownership t w adds.file (λ n of. has n (links.one_more n of)) (record {
  live = λ n was. links.stay.live n (adds.stay.live n was);
  alike = λ n was. said-then (adds.stay.alike n was) (links.stay.alike n (adds.stay.live n was));
})
  where
    has : (n : ℕ) → IsHeaderOf u f n ⊎ (n ≡ m) → IsHeaderOf t f n ⊎ SaysOnly ownership (w.header n)
    has n (inl of) = inl (adds.none_more n of)
    has n (inr same) = inr (subst (λ (k : ℕ). SaysOnly ownership (w.header k)) (sym same) (only-still adds.says (links.stay.alike m live)))

pub adds-linked : (f m : ℕ) (ownership : Uic × ℕ) (t u w : Table) → IsLive u m → AddsFileless f m ownership t u → LinksFileless f m u w
    → NamesMore f ownership (blocks_named (u.header m)) t w
adds-linked f m ownership t u w live adds links = record {
  blocks = links.blocks ∙ ap (λ (l : List ℕ). l ++ blocks_named (u.header m)) adds.blocks;
  headers = λ k of. links.headers k (adds.headers k of);
  own = λ k. elim (cases_eq k m) [
    | inl same ↦ subst (λ (j : ℕ). BeginsWith (named_by w j) (named_by t j)) (sym same)
        (named_by w m, ap (λ (l : List ℕ). l ++ named_by w m) (sym adds.none))
    | inr away ↦ ([], links.names k ∙ adds.others k away ∙ sym (append-nil (named_by t k)))
  ];
  others = λ k none. links.names k ∙ adds.others k (λ same. none (subst (IsHeaderOf w f) (sym same) links.linked));
  says = adds-header f m ownership t u w live adds links;
}

-- what passes a test among numbers in a row
none-pass : (p : ℕ → Bool) (a n : ℕ) → ((k : ℕ) → a ≤ k → k < a + n → p k ≡ false) → filter p (range_with_len a n) ≡ []
none-pass p a zero none = refl
none-pass p a (suc n) none =
    ap (λ (b : Bool). cond b (a ∷ filter p (range_with_len (a + 1) n)) (filter p (range_with_len (a + 1) n)))
    (none a (omega arith) (omega arith))
    ∙ none-pass p (a + 1) n (λ k low high. none k (omega (arith, low)) (omega (arith, high)))

all-pass : (p : ℕ → Bool) (a n : ℕ) → ((k : ℕ) → a ≤ k → k < a + n → p k ≡ true) → filter p (range_with_len a n) ≡ range_with_len a n
all-pass p a zero all = refl
all-pass p a (suc n) all =
    ap (λ (b : Bool). cond b (a ∷ filter p (range_with_len (a + 1) n)) (filter p (range_with_len (a + 1) n)))
    (all a (omega arith) (omega arith))
    ∙ ap (λ (l : List ℕ). a ∷ l) (all-pass p (a + 1) n (λ k low high. all k (omega (arith, low)) (omega (arith, high))))

same-pass : (p q : ℕ → Bool) (a n : ℕ) → ((k : ℕ) → a ≤ k → k < a + n → q k ≡ p k)
    → filter q (range_with_len a n) ≡ filter p (range_with_len a n)
same-pass p q a zero same = refl
same-pass p q a (suc n) same =
    let rest = same-pass p q (a + 1) n (λ k low high. same k (omega (arith, low)) (omega (arith, high))) in
    λ i. cond (same a (omega arith) (omega arith) i) (a ∷ rest i) (rest i)

from-zero : (a b : ℕ) → range_with_len 0 (a + b) ≡ range_with_len 0 a ++ range_with_len a b
from-zero a b =
    let same : 0 + a ≡ a = omega arith in range_with_len-append 0 a b ∙ ap (λ (k : ℕ). range_with_len 0 a ++ range_with_len k b) same

-- those before a run don't pass, and those of it do, but not then: the others pass as they did
pub lowest-taken : (p q : ℕ → Bool) (size lbn count : ℕ) → lbn + count ≤ size → ((k : ℕ) → k < lbn → p k ≡ false)
    → ((k : ℕ) → lbn ≤ k → k < lbn + count → p k ≡ true)
    → ((k : ℕ) → k < lbn + count → q k ≡ false) → ((k : ℕ) → lbn + count ≤ k → q k ≡ p k)
    → filter p (range_with_len 0 size) ≡ range_with_len lbn count ++ filter q (range_with_len 0 size)
lowest-taken p q size lbn count within below run gone after =
    let rest : ℕ = size - (lbn + count) in
    let whole : size ≡ lbn + count + rest = omega (arith, within) in
    let parts : (r : ℕ → Bool)
    → filter r (range_with_len 0 size) ≡ filter r (range_with_len 0 (lbn + count)) ++ filter r (range_with_len (lbn + count) rest) =
    λ r. ap (λ (n : ℕ). filter r (range_with_len 0 n)) whole ∙ ap (filter r) (from-zero (lbn + count) rest)
    ∙ filter-append r (range_with_len 0 (lbn + count)) (range_with_len (lbn + count) rest) in
    let front : filter p (range_with_len 0 (lbn + count)) ≡ range_with_len lbn count =
    ap (filter p) (from-zero lbn count) ∙ filter-append p (range_with_len 0 lbn) (range_with_len lbn count)
    ∙ (λ i. none-pass p 0 lbn (λ k _ high. below k (omega (arith, high))) i ++ all-pass p lbn count run i) in
    parts p ∙ ap (λ (l : List ℕ). l ++ filter p (range_with_len (lbn + count) rest)) front
    ∙ ap (λ (l : List ℕ). range_with_len lbn count ++ l)
    (sym (same-pass p q (lbn + count) rest (λ k low _. after k low))
    ∙ sym (parts q ∙ ap (λ (l : List ℕ). l ++ filter q (range_with_len (lbn + count) rest))
    (none-pass q 0 (lbn + count) (λ k _ high. gone k (omega (arith, high))))))

-- the free blocks follow from the size and the bits
pub free-same : (v w : Volume) → w.size ≡ v.size → w.free ≡ v.free → free_list w ≡ free_list v
unfolding free_list
free-same v w size free = λ i. filter (free i) (range_with_len 0 (size i))

-- a file that has no block more
pub gains-none : (f : ℕ) (ownership : Uic × ℕ) (v w : Volume) → ((n : ℕ) → IsHeaderOf v.table f n → IsHeaderOf w.table f n)
    → AddsHeaders f ownership v.table w.table
    → file_blocks w.table f ≡ file_blocks v.table f → KeepsBlocks v w → GainsBlocksAs f ownership 0 v w
gains-none f ownership v w headers says blocks keeps = record {
  size = keeps.size;
  names = record {
    blocks = blocks ∙ sym (append-nil (file_blocks v.table f));
    headers = headers;
    own = λ n. ([], keeps.names n ∙ sym (append-nil (named_by v.table n)));
    others = λ n _. keeps.names n;
    says = says;
  };
  free = free-same v w keeps.size keeps.free;
}

pub gains-nothing : (f : ℕ) (ownership : Uic × ℕ) (v : Volume) → IsFile v.table f → GainsBlocksAs f ownership 0 v v
gains-nothing f ownership v file =
    let says : AddsHeaders f ownership v.table v.table =
    adds-saying f ownership v.table v.table file (λ n of. inl of) (record { live = λ n live. live; alike = λ n live. said-again refl }) in
    gains-none f ownership v v (λ m of. of) says refl (keeps-same v v refl)

-- a run was marked used, and the file has it
pub gains-run : (f : ℕ) (ownership : Uic × ℕ) (lbn count : ℕ) (v w x : Volume) → w.table ≡ v.table
    → free_list v ≡ range_with_len lbn count ++ free_list w
    → NamesMore f ownership (range_with_len lbn count) w.table x.table → w.size ≡ v.size → x.size ≡ w.size → x.free ≡ w.free
    → GainsBlocksAs f ownership count v x
gains-run f ownership lbn count v w x same lowest names was size free =
    let count_is : length (range_with_len lbn count) ≡ count = length-range_with_len lbn count in
    let run : take count (free_list v) ≡ range_with_len lbn count =
    ap (take count) lowest ∙ ap (λ (n : ℕ). take n (range_with_len lbn count ++ free_list w)) (sym count_is)
    ∙ take-append_seam (range_with_len lbn count) (free_list w) in
    record {
      size = size ∙ was;
      names = subst (λ (l : List ℕ). NamesMore f ownership l v.table x.table) (sym run)
          (subst (λ (t : Table). NamesMore f ownership (range_with_len lbn count) t x.table) same names);
      free =
          free-same w x size free
          ∙ sym (ap (drop count) lowest ∙ ap (λ (n : ℕ). drop n (range_with_len lbn count ++ free_list w)) (sym count_is)
          ∙ drop-append_seam (range_with_len lbn count) (free_list w));
    }

-- what a file gains twice
says-twice : (f : ℕ) (ownership : Uic × ℕ) (t u w : Table) → AddsHeaders f ownership t u → AddsHeaders f ownership u w
    → AddsHeaders f ownership t w
says-twice f ownership t u w one two = record {
  file = one.file;
  added = λ n of. now n (two.added n of);
  live = λ n live. two.live n (one.live n live);
  alike = λ n live away. said-then (one.alike n live away) (two.alike n (one.live n live) away);
  first = two.first ∙ one.first;
}
  where
    before : (n : ℕ) → IsHeaderOf u f n → IsHeaderOf t f n ⊎ SaysOnly ownership (u.header n) → (n ≡ f) ⊎ (n ≢ f)
        → IsHeaderOf t f n ⊎ SaysOnly ownership (w.header n)
    before n of (inl was) _ = inl was
    before n of (inr says) (inl here) = inl (subst (IsHeaderOf t f) (sym here) (first one.file))
    before n of (inr says) (inr away) = inr (only-still says (two.alike n (live_of-header of) away))

    now : (n : ℕ) → IsHeaderOf u f n ⊎ SaysOnly ownership (w.header n) → IsHeaderOf t f n ⊎ SaysOnly ownership (w.header n)
    now n (inl of) = before n of (one.added n of) (cases_eq n f)
    now n (inr says) = inr says

pub names-twice : (f : ℕ) (ownership : Uic × ℕ) (one two : List ℕ) (t u w : Table) → NamesMore f ownership one t u
    → NamesMore f ownership two u w
    → NamesMore f ownership (one ++ two) t w
names-twice f ownership one two t u w first_more then_more = record {
  blocks = then_more.blocks ∙ ap (λ (l : List ℕ). l ++ two) first_more.blocks ∙ append_assoc (file_blocks t f) one two;
  headers = λ n of. then_more.headers n (first_more.headers n of);
  own = λ n.
      let a = first_more.own n in
      let b = then_more.own n in
      (a.0 ++ b.0, b.1 ∙ ap (λ (l : List ℕ). l ++ b.0) a.1 ∙ append_assoc (named_by t n) a.0 b.0);
  others = λ n none. then_more.others n none ∙ first_more.others n (λ of. none (then_more.headers n of));
  says = says-twice f ownership t u w first_more.says then_more.says;
}

pub gains-add : (f : ℕ) (ownership : Uic × ℕ) (a b : ℕ) (v w x : Volume) → GainsBlocksAs f ownership a v w → GainsBlocksAs f ownership b w x
    → GainsBlocksAs f ownership (a + b) v x
gains-add f ownership a b v w x one two = record {
  size = two.size ∙ one.size;
  names = subst (λ (l : List ℕ). NamesMore f ownership l v.table x.table) (sym (take-add a b (free_list v)))
      (names-twice f ownership (take a (free_list v)) (take b (drop a (free_list v))) v.table w.table x.table one.names
      (subst (λ (l : List ℕ). NamesMore f ownership (take b l) w.table x.table) one.free two.names));
  free = two.free ∙ ap (drop b) one.free ∙ drop-drop b a (free_list v);
}
