-- A file one of whose headers was written.
use Rattle.std.proofs.Common.{◌≡◌, ◌≢◌, ◌⊎◌, ◌≤◌, ◌<◌, ◌+◌, ◌-◌, inl, inr, ℕ, suc, Bool, List, [], ◌∷◌, ◌++◌, Some, refl, ap, sym, subst}
use Rattle.std.proofs.Common.{◌∙◌, length, length-append, map, take, get_or, arith}
use Rattle.std.specs.List.{range_with_len, slice_get, sum_by}
use Rattle.std.proofs.lemmas.Bool.{cases_eq}
use Rattle.std.proofs.lemmas.List.{map-append, take-map}
use Rattle.std.proofs.Math.Seq.{take-append_seam}
use Rattle.std.proofs.lemmas.List.Sums.{sum_by-append, sum_by-cons}
use Rattle.std.proofs.lemmas.Option.{slice_get_within, get_or_from_slice_get}
use Rattle.f11_dev.specs.Image.{Image}
use Rattle.f11_header.specs.Fields.{file_sequence, owner, protection, characteristics, attributes, ident_area, ident_room, map_area}
use Rattle.f11_header.specs.Header.{IsHeader}
use Rattle.f11_header.specs.MapFields.{places}
use Rattle.f11_volume.specs.home.Home.{HomeFields}
use Rattle.f11_index.specs.ChangeLaws.{IsAsGood}
use Rattle.f11_volume.specs.map.HeaderBlock.{segment_number, link_of, blocks_named}
use Rattle.f11_index.specs.Headers.{headers_of, headers_from, IsLastOf}
use Rattle.f11_index.specs.Table.{Table, table_in, table_of, IsLive, IsNext, IsHeaderOf, IsWholeFile, first, next}
use Rattle.f11_index.proofs.ChainLemmas.{file_of-header, live_of-header}
use Rattle.f11_index.specs.IndexFile.{index_of}
use Rattle.f11_index.proofs.InUseLemmas.{in_use-slot}
use Rattle.f11_index.proofs.HeadersLemmas.{Comes, Comes-header, Comes-last, Comes-split, last-whole, link_number, live-some, place-has}
use Rattle.f11_index.proofs.PlaceLemmas.{slice_get-append_front}
use Rattle.f11_volume.proofs.map.MapLemmas.{slice_get-append_back}
use Rattle.f11_index.proofs.UpLemmas.{header-up}
use Rattle.f11_volume.specs.chain.FileHeaders.{file_blocks, blocks_before}
use Rattle.f11_volume.specs.chain.Laws.{HasMore, HasHeaderMore}
use Rattle.f11_volume.proofs.chain.ChangeLemmas.{has-more, has-header, ends-with, is-cut}
use Rattle.f11_volume.specs.Contents.{block_or_zeros, file_of, headers_reached, pointer_count, room_left}
use Rattle.f11_volume.proofs.FileLemmas.{image-files, reached-are, file-blocks-are}
use Rattle.f11_volume.specs.Sound.{HasSoundVolume}
use Rattle.f11_writes.specs.Kept.{file_in, said_of, KeepsButSlot, WritesHeader, WritesGrowth}
use Rattle.f11_writes.proofs.OtherSlotLemmas.{stay-before, stay-up-to}
use Rattle.f11_image_store.specs.FileLaws.{SaysAlike, MayStand, NamesMoreOf, LinksOnTo, EndsThere, with_header_linked, with_header_more}
use Rattle.f11_image_store.specs.FileLaws.{with_first_headers, held_from, pointers_before, pointers_in, room_in}
use Rattle.f11_store.specs.Pieces.{with_more_blocks}

-- sums of what is equal for each
pub sum-same : (p q : ℕ → ℕ) (xs : List ℕ) → ((i x : ℕ) → slice_get xs i ≡ Some x → p x ≡ q x) → sum_by p xs ≡ sum_by q xs
sum-same p q [] same = refl
sum-same p q (x ∷ xs) same =
    let rest = sum-same p q xs (λ i y at. same (suc i) y at) in
    let here = same 0 x refl in
    sum_by-cons p x xs ∙ omega (arith, rest, here) ∙ sym (sum_by-cons q x xs)

-- the last of a list
pub last-behind : (xs : List ℕ) (n : ℕ) → get_or (xs ++ n ∷ []) (length (xs ++ n ∷ []) - 1) 0 ≡ n
last-behind xs n =
    let count = length-append xs (n ∷ []) in
    let place : length (xs ++ n ∷ []) - 1 ≡ length xs = omega (arith, count) in
    let none : length xs - length xs ≡ 0 = omega arith in
    ap (λ (i : ℕ). get_or (xs ++ n ∷ []) i 0) place
    ∙ get_or_from_slice_get (xs ++ n ∷ []) (length xs) n 0 (slice_get-append_back xs (n ∷ []) (length xs) (length xs) refl (omega arith)
    ∙ ap (slice_get (n ∷ [])) none)

-- This was written as header n, which is in use as it was. All else is as it was.
pub record HasWritten (n : ℕ) (block : List ℕ) (home : HomeFields) (old new : Image) : Type 0 where
  pub slot : KeepsButSlot n home old new
  pub header : (table_of new home).header n ≡ block
  pub in_use : (table_of new home).in_use n ≡ (table_of old home).in_use n

pub as-header : (n : ℕ) (block : List ℕ) (home : HomeFields) (old new : Image) → WritesHeader n block home old new
    → HasWritten n block home old new
as-header n block home old new wrote =
    record { slot = wrote.slot; header = wrote.index_file.header; in_use = ap (λ (g : ℕ → Bool). g n) wrote.in_use }

pub as-growth : (n : ℕ) (block : List ℕ) (lbn count : ℕ) (home : HomeFields) (old new : Image) → IsLive (table_of old home) n
    → WritesGrowth n block lbn count home old new → HasWritten n block home old new
unfolding table_in
as-growth n block lbn count home old new live wrote = record {
  slot = wrote.slot;
  header = wrote.index_file.header;
  in_use = wrote.index_file.in_use n (in_use-slot (index_of old home) n live.in_use);
}

module _ (old new : Image) (home : HomeFields) (f n : ℕ) (block : List ℕ) (wrote : HasWritten n block home old new)
    (stands : MayStand (table_of old home) f n block) where
  abbrev t : Table
  t = table_of old home

  abbrev u : Table
  u = table_of new home

  pub here : u.header n ≡ block
  here = wrote.header

  good-now : IsAsGood t u n
  good-now = record {
    in_use = wrote.in_use ∙ (live_of-header stands.of).in_use;
    valid = subst (λ (b : List ℕ). IsHeader b n) (sym here) stands.good.valid;
    sequence = ap file_sequence here ∙ stands.good.sequence;
    segment = ap segment_number here ∙ stands.good.segment;
  }

  pub of-now : IsHeaderOf u f n
  of-now = header-up t u f stands.of (stay-up-to t u f n stands.of wrote.slot.others good-now)

  -- what the file's first header says
  alike : (f ≡ n) ⊎ (f ≢ n) → SaysAlike (t.header f) (u.header f)
  alike (inl same) =
      subst (λ (k : ℕ). SaysAlike (t.header k) (u.header k)) (sym same)
      (subst (λ (b : List ℕ). SaysAlike (t.header n) b) (sym here) stands.alike)
  alike (inr apart) =
      let stays = wrote.slot.others.header f apart (file_of-header stands.of).live.in_use in
      record {
        owner_is = ap owner stays;
        protection_is = ap protection stays;
        characteristics_are = ap characteristics stays;
        ident_is = ap ident_area stays;
        ident_room_is = ap ident_room stays;
        attributes_are = ap attributes stays;
      }

  sequence-stays : (f ≡ n) ⊎ (f ≢ n) → file_sequence (u.header f) ≡ file_sequence (t.header f)
  sequence-stays (inl same) =
      ap (λ (k : ℕ). file_sequence (u.header k)) same ∙ good-now.sequence ∙ ap (λ (k : ℕ). file_sequence (t.header k)) (sym same)
  sequence-stays (inr apart) = ap file_sequence (wrote.slot.others.header f apart (file_of-header stands.of).live.in_use)

  -- the headers of a whole file are its own
  pub headers-are : (v : Table) → IsWholeFile v f → headers_reached v f ≡ headers_of v f
  headers-are v whole = reached-are 256 v f whole (first whole.file)

  -- the file is what it was but for its headers, and what they say
  module _ (whole : IsWholeFile u f) (held : List ℕ) (pointers room : ℕ) (held_is : headers_of u f ≡ held)
      (pointers_are : sum_by (pointer_count u) held ≡ pointers)
      (room_is : room_left u held ≡ room) where
    reached : headers_reached u f ≡ held
    reached = headers-are u whole ∙ held_is

    pub said-as : said_of home f new ≡ record (said_of home f old) { held = held; pointers = pointers; room = room }
    unfolding file_of
    said-as = λ i. record {
      sequence = sequence-stays (cases_eq f n) i;
      owner = (alike (cases_eq f n)).owner_is i;
      protection = (alike (cases_eq f n)).protection_is i;
      characteristics = (alike (cases_eq f n)).characteristics_are i;
      ident = (alike (cases_eq f n)).ident_is i;
      attr = (alike (cases_eq f n)).attributes_are i;
      held = reached i;
      pointers = (ap (sum_by (pointer_count u)) reached ∙ pointers_are) i;
      room = (ap (room_left u) reached ∙ room_is) i;
      blocks = [];
    }

    pub file-as : (blocks : List (List ℕ)) → 2 ≤ f → map (block_or_zeros old) (file_blocks u f) ≡ blocks
        → file_in home f new ≡ record (file_in home f old) { held = held; pointers = pointers; room = room; blocks = blocks }
    unfolding file_of
    file-as blocks late blocks_are =
        λ i. record (said-as i)
        { blocks = (wrote.slot.contents f (file_of-header of-now) (λ same. omega (arith, same, late)) ∙ blocks_are) i }

  -- header n behind the others
  pub before : (behind : List ℕ) × Comes t f n (segment_number (t.header n)) behind
  before = Comes-header stands.of stands.few

  some : 0 < n
  some = live-some (live_of-header stands.of)

  pub taken : take (segment_number (t.header n)) (headers_of t f) ≡ before.0
  taken =
      ap (take (segment_number (t.header n))) before.1.list
      ∙ ap (λ (c : ℕ). take c (before.0 ++ headers_from (256 - segment_number (t.header n)) t n)) (sym before.1.count)
      ∙ take-append_seam before.0 _

  pub up-taken : take (segment_number (t.header n) + 1) (headers_of t f) ≡ before.0 ++ n ∷ []
  up-taken =
      let rest : List ℕ = headers_from (255 - segment_number (t.header n)) t (link_number t n) in
      let count : length (before.0 ++ n ∷ []) ≡ segment_number (t.header n) + 1 = length-append before.0 (n ∷ [])
      ∙ ap (λ (c : ℕ). c + 1) before.1.count in
      ap (take (segment_number (t.header n) + 1)) (Comes-split t f n (segment_number (t.header n)) before.0 before.1 some stands.few)
      ∙ ap (λ (c : ℕ). take c ((before.0 ++ n ∷ []) ++ rest)) (sym count) ∙ take-append_seam (before.0 ++ n ∷ []) rest

  pub last-split : link_number t n ≡ 0 → headers_of t f ≡ before.0 ++ n ∷ []
  last-split none = Comes-last t f n (segment_number (t.header n)) before.0 before.1 some stands.few none

  -- the headers before it have the pointers that they had
  others-stay : IsWholeFile t f → (i m : ℕ) → slice_get before.0 i ≡ Some m → pointer_count u m ≡ pointer_count t m
  others-stay whole i m at =
      let early = slice_get_within before.0 i m at in
      let listed : slice_get (headers_of t f) i ≡ Some m = ap (λ (hs : List ℕ). slice_get hs i) before.1.list
      ∙ slice_get-append_front before.0 _ i m at in
      let is = place-has t f m i whole listed in
      ap pointers_in (stay-before t u f n wrote.slot.others m is.of (omega (arith, is.number, early, before.1.count)))

  pub front-pointers : IsWholeFile t f
      → sum_by (pointer_count u) (before.0 ++ n ∷ []) ≡ sum_by (pointer_count t) before.0 + pointers_in block
  front-pointers whole =
      let now = sum_by-append (pointer_count u) before.0 (n ∷ []) in
      let front = sum-same (pointer_count u) (pointer_count t) before.0 (others-stay whole) in
      let one = sum_by-cons (pointer_count u) n [] in
      let own = ap pointers_in here in
      omega (arith, now, front, one, own)

  pub was-pointers : sum_by (pointer_count t) (before.0 ++ n ∷ []) ≡ sum_by (pointer_count t) before.0 + pointer_count t n
  was-pointers = sum_by-append (pointer_count t) before.0 (n ∷ []) ∙ (let one = sum_by-cons (pointer_count t) n [] in omega (arith, one))

  pub front-room : room_left u (before.0 ++ n ∷ []) ≡ room_in block
  front-room = ap (λ (m : ℕ). places (map_area (u.header m)) - pointer_count u m) (last-behind before.0 n) ∙ ap room_in here

-- its last header names more blocks
module _ (old new : Image) (home : HomeFields) (f n : ℕ) (block : List ℕ) (more lbn count : ℕ) (wrote : HasWritten n block home old new)
    (may : NamesMoreOf (table_of old home) f n block more lbn count) where
  abbrev was : Table
  was = table_of old home

  abbrev now : Table
  now = table_of new home

  whole-was : IsWholeFile was f
  whole-was = last-whole was f n (record { of = may.stands.of; no_link = may.last })

  link-now : link_number now n ≡ 0
  link-now = ap (λ (b : List ℕ). (link_of b).number) wrote.header ∙ may.no_link

  whole-now : IsWholeFile now f
  whole-now = last-whole now f n (record { of = of-now old new home f n block wrote may.stands; no_link = link-now })

  pub longer : HasMore f (range_with_len lbn count) was now
  longer =
      has-more was now f n may.stands.of may.stands.few (stay-before was now f n wrote.slot.others) may.last (range_with_len lbn count)
      link-now (ap blocks_named wrote.header ∙ may.blocks)

  reached-were : headers_reached was f ≡ headers_of was f
  reached-were = headers-are old new home f n block wrote may.stands was whole-was

  split : headers_reached was f ≡ (before old new home f n block wrote may.stands).0 ++ n ∷ []
  split = reached-were ∙ last-split old new home f n block wrote may.stands may.last

  pointers-now : sum_by (pointer_count now) (headers_reached was f) ≡ (file_in home f old).pointers + more
  unfolding file_of
  pointers-now =
      ap (sum_by (pointer_count now)) split ∙ front-pointers old new home f n block wrote may.stands whole-was
      ∙ (let all = ap (sum_by (pointer_count was)) split ∙ was-pointers old new home f n block wrote may.stands in
      omega (arith, all, may.pointers.pointers))

  room-now : room_left now (headers_reached was f) ≡ (file_in home f old).room - more
  unfolding file_of
  room-now =
      let behind = (before old new home f n block wrote may.stands).0 in
      ap (room_left now) split ∙ front-room old new home f n block wrote may.stands
      ∙ (let all = ap (room_left was) split ∙ ap (λ (m : ℕ). places (map_area (was.header m)) - pointer_count was m) (last-behind behind n)
      in omega (arith, all, may.pointers.pointers, may.pointers.places_are))

  pub more-said : said_of home f new ≡ with_more_blocks more [] (said_of home f old)
  unfolding file_of
  more-said =
      said-as old new home f n block wrote may.stands whole-now (headers_reached was f) _ _ (longer.headers ∙ sym reached-were) pointers-now
      room-now

  pub more-file : 2 ≤ f → file_in home f new ≡ with_more_blocks more (held_from old lbn count) (file_in home f old)
  unfolding file_of
  more-file late =
      file-as old new home f n block wrote may.stands whole-now (headers_reached was f) _ _ (longer.headers ∙ sym reached-were) pointers-now
      room-now _ late
      (ap (map (block_or_zeros old)) longer.blocks ∙ map-append (block_or_zeros old) (file_blocks was f) (range_with_len lbn count)
      ∙ ap (λ (bs : List (List ℕ)). bs ++ held_from old lbn count) (sym (file-blocks-are old was f whole-was)))

pub file-more : (old new : Image) (home : HomeFields) (f n : ℕ) (block : List ℕ) (more lbn count : ℕ) → 2 ≤ f
    → WritesHeader n block home old new
    → NamesMoreOf (table_of old home) f n block more lbn count
    → file_in home f new ≡ with_more_blocks more (held_from old lbn count) (file_in home f old)
file-more old new home f n block more lbn count late wrote may =
    more-file old new home f n block more lbn count (as-header n block home old new wrote) may late

-- its last header links on to header m
module _ (old new : Image) (home : HomeFields) (f n m : ℕ) (block : List ℕ) (wrote : HasWritten n block home old new)
    (may : LinksOnTo (table_of old home) f n m block) where
  abbrev v : Table
  v = table_of old home

  abbrev w : Table
  w = table_of new home

  was-whole : IsWholeFile v f
  was-whole = last-whole v f n (record { of = may.stands.of; no_link = may.last })

  pub m-stays : w.header m ≡ v.header m
  m-stays = wrote.slot.others.header m may.other may.to.in_use

  m-live : IsLive w m
  m-live = record {
    in_use = wrote.slot.others.in_use m may.other ∙ may.to.in_use;
    valid = subst (λ (b : List ℕ). IsHeader b m) (sym m-stays) may.to.valid;
  }

  of-n : IsHeaderOf w f n
  of-n = of-now old new home f n block wrote may.stands

  goes : IsNext w n m
  goes = record {
    from = live_of-header of-n;
    to = m-live;
    number = ap (λ (b : List ℕ). (link_of b).number) wrote.header ∙ may.number;
    sequence = ap (λ (b : List ℕ). (link_of b).sequence) wrote.header ∙ may.sequence ∙ ap file_sequence (sym m-stays);
    segment = ap segment_number m-stays ∙ may.next_segment
        ∙ ap (λ (k : ℕ). k + 1) (sym (ap segment_number wrote.header ∙ may.stands.good.segment));
  }

  m-last : link_number w m ≡ 0
  m-last = ap (λ (b : List ℕ). (link_of b).number) m-stays ∙ may.no_link

  pub last-linked : IsLastOf w f m
  last-linked = record { of = next of-n goes; no_link = m-last }

  is-whole : IsWholeFile w f
  is-whole = last-whole w f m last-linked

  pub linked : HasHeaderMore f m v w
  linked =
      has-header v w f n may.stands.of may.stands.few (stay-before v w f n wrote.slot.others) may.last m may.early (live-some m-live)
      (ap (λ (b : List ℕ). (link_of b).number) wrote.header ∙ may.number) (ap blocks_named wrote.header ∙ may.blocks) m-last

  before-were : headers_reached v f ≡ headers_of v f
  before-were = headers-are old new home f n block wrote may.stands v was-whole

  parted : headers_reached v f ≡ (before old new home f n block wrote may.stands).0 ++ n ∷ []
  parted = before-were ∙ last-split old new home f n block wrote may.stands may.last

  headers-more : headers_of w f ≡ headers_reached v f ++ m ∷ []
  headers-more = linked.headers ∙ ap (λ (hs : List ℕ). hs ++ m ∷ []) (sym before-were)

  pointers-more : sum_by (pointer_count w) (headers_reached v f ++ m ∷ []) ≡ (file_in home f old).pointers + pointer_count v m
  unfolding file_of
  pointers-more =
      sum_by-append (pointer_count w) (headers_reached v f) (m ∷ [])
      ∙ (let one = sum_by-cons (pointer_count w) m [] in
      let own = ap pointers_in m-stays in
      let here_now = ap (sum_by (pointer_count w)) parted ∙ front-pointers old new home f n block wrote may.stands was-whole in
      let all = ap (sum_by (pointer_count v)) parted ∙ was-pointers old new home f n block wrote may.stands in
      omega (arith, one, own, here_now, all, may.pointers.pointers))

  room-there : room_left w (headers_reached v f ++ m ∷ []) ≡ places (map_area (v.header m)) - pointer_count v m
  room-there = ap (λ (k : ℕ). places (map_area (w.header k)) - pointer_count w k) (last-behind (headers_reached v f) m) ∙ ap room_in m-stays

  pub linked-said : said_of home f new ≡ with_header_linked v m (said_of home f old)
  unfolding file_of
  linked-said =
      said-as old new home f n block wrote may.stands is-whole (headers_reached v f ++ m ∷ []) _ _ headers-more pointers-more room-there

  pub linked-file : 2 ≤ f → file_in home f new ≡ with_header_more old v m (file_in home f old)
  unfolding file_of
  linked-file late =
      file-as old new home f n block wrote may.stands is-whole (headers_reached v f ++ m ∷ []) _ _ headers-more pointers-more room-there _
      late
      (ap (map (block_or_zeros old)) linked.blocks ∙ map-append (block_or_zeros old) (file_blocks v f) (blocks_named (w.header m))
      ∙ ap (λ (bs : List (List ℕ)). bs ++ map (block_or_zeros old) (blocks_named (w.header m))) (sym (file-blocks-are old v f was-whole))
      ∙ ap (λ (b : List ℕ). (file_of old v f).blocks ++ map (block_or_zeros old) (blocks_named b)) m-stays)

pub file-linked : (old new : Image) (home : HomeFields) (f n m : ℕ) (block : List ℕ) → 2 ≤ f → WritesHeader n block home old new
    → LinksOnTo (table_of old home) f n m block
    → file_in home f new ≡ with_header_more old (table_of old home) m (file_in home f old)
file-linked old new home f n m block late wrote may = linked-file old new home f n m block (as-header n block home old new wrote) may late

-- it ends at header n
module _ (old new : Image) (home : HomeFields) (f n : ℕ) (block : List ℕ) (left : ℕ) (late : 2 ≤ f)
    (wrote : HasWritten n block home old new) (is : HasSoundVolume old home)
    (may : EndsThere (table_of old home) f n block left) where
  abbrev x : Table
  x = table_of old home

  abbrev y : Table
  y = table_of new home

  x-whole : IsWholeFile x f
  x-whole = ((image-files old home is).each f (file_of-header may.stands.of)).whole

  x-here : y.header n ≡ block
  x-here = here old new home f n block wrote may.stands

  x-end : link_number y n ≡ 0
  x-end = ap (λ (b : List ℕ). (link_of b).number) x-here ∙ may.no_link

  ends-file : file_in home f new ≡ with_first_headers (segment_number (x.header n) + 1) (pointers_before x f n + pointers_in block)
      (room_in block) (blocks_before x f n + left) (file_in home f old)
  unfolding file_of
  ends-file =
      let stay = stay-before x y f n wrote.slot.others in
      let reached = headers-are old new home f n block wrote may.stands x x-whole in
      let up = up-taken old new home f n block wrote may.stands in
      let front = taken old new home f n block wrote may.stands in
      let ends = ends-with x y f n may.stands.of may.stands.few stay x-end in
      file-as old new home f n block wrote may.stands
      (last-whole y f n (record { of = of-now old new home f n block wrote may.stands; no_link = x-end }))
      (take (segment_number (x.header n) + 1) (headers_reached x f)) _ _
      (ends.headers ∙ ap (take (segment_number (x.header n) + 1)) (sym reached))
      (ap (sum_by (pointer_count y)) (ap (take (segment_number (x.header n) + 1)) reached ∙ up)
      ∙ front-pointers old new home f n block wrote may.stands x-whole
      ∙ ap (λ (hs : List ℕ). sum_by (pointer_count x) hs + pointers_in block) (sym front))
      (ap (room_left y) (ap (take (segment_number (x.header n) + 1)) reached ∙ up) ∙ front-room old new home f n block wrote may.stands) _
      late
      (ap (map (block_or_zeros old))
      (is-cut x y f n may.stands.of may.stands.few stay left x-end (ap blocks_named x-here ∙ may.blocks) may.within)
      ∙ sym (take-map (block_or_zeros old) (blocks_before x f n + left) (file_blocks x f))
      ∙ ap (take (blocks_before x f n + left)) (sym (file-blocks-are old x f x-whole)))

pub file-ends : (old new : Image) (home : HomeFields) (f n : ℕ) (block : List ℕ) (left : ℕ) → 2 ≤ f → WritesHeader n block home old new
    → HasSoundVolume old home
    → EndsThere (table_of old home) f n block left
    → file_in home f new ≡ with_first_headers (segment_number ((table_of old home).header n) + 1)
    (pointers_before (table_of old home) f n + pointers_in block) (room_in block)
    (blocks_before (table_of old home) f n + left) (file_in home f old)
file-ends old new home f n block left late wrote is may =
    ends-file old new home f n block left late (as-header n block home old new wrote) is may
