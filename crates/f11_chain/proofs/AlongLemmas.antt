-- What holds of a device while the headers of a file are read one after another.
use Rattle.std.proofs.Common.{◌≡◌, ◌≢◌, ℕ, ◌+◌, ◌-◌, ◌*◌, ◌<◌, ◌≤◌, IsTrue, List, [], ◌∷◌, ◌++◌, length, get_or, take, Some, Err, refl, sym}
use Rattle.std.proofs.Common.{ap}
use Rattle.std.proofs.Common.{false, subst, ◌∙◌, inl, inr, arith}
use Rattle.std.specs.Prelude.{Result, Ok, IsErrAnd, IsErrOf}
use Rattle.std.proofs.lemmas.Bool.{cases_lt}
use Rattle.std.specs.List.{slice_get}
use Rattle.std.proofs.lemmas.List.{length-append}
use Rattle.std.proofs.lemmas.Option.{slice_get-get_or, slice_get_within, get_or_from_slice_get}
use Rattle.std.proofs.lemmas.Grind.{flat_map-append}
use Rattle.f11_dev.specs.Disk.{Disk}
use Rattle.f11_dev.specs.Image.{Image, IsImage}
use Rattle.f11_dev.specs.Looked.{Looked}
use Rattle.f11_dev.proofs.LookedLemmas.{looked_none, looked_more}
use Rattle.f11_index.specs.header.Fields.{file_sequence}
use Rattle.f11_index.specs.header.Header.{IsHeader}
use Rattle.f11_index.specs.map.HeaderBlock.{segment_number, link_of, blocks_named}
use Rattle.f11_index.specs.Headers.{headers_of, IsLastOf}
use Rattle.f11_index.specs.IndexFile.{Index}
use Rattle.f11_index.specs.Table.{Table, table_in, IsLive, IsNext, IsHeaderOf, IsWholeFile, LinksRightly}
use Rattle.f11_index.proofs.InUseLemmas.{in_use-some}
use Rattle.f11_index.proofs.ChainLemmas.{live_of-header}
use Rattle.f11_index.proofs.SegmentLemmas.{table-bytes}
use Rattle.f11_index.proofs.HeadersLemmas.{Comes-first, Comes-count, Comes-count-next, last-ends, last-whole}
use Rattle.f11_chain.specs.FileHeaders.{blocks_by, blocks_before, file_blocks, block_by_vbn}
use Rattle.f11_chain.specs.Calls.{table, HoldsHeader, HoldsFirst, ReadsFirst, ReadsHeader, FindsNoFile, ReadsNext, FindsLast}
use Rattle.f11_chain.specs.Calls.{FindsWrongLink, IsNextOf}
use Rattle.f11_chain.specs.Calls.{FailsToReadNext, next_reads, LooksAlongFile, FailsAlong, FindsBreak, FindsDamage, HasBlockAt, ReadsLast}
use Rattle.f11_chain.specs.Calls.{IsHeaderAt, Locates, Seeks, FindsEnd}
use Rattle.f11_chain.specs.Windows.{Fills, FindsWindow, HoldsRuns, IsPast}
use Rattle.f11_chain.specs.declared.blocks.FileEnd.{FileEnd}
use Rattle.f11_chain.specs.declared.blocks.HeaderAt.{HeaderAt}
use Rattle.f11_chain.specs.declared.blocks.Place.{Place}
use Rattle.f11_chain.specs.declared.windows.Window.{Window}
use Rattle.f11_chain.proofs.StepLemmas.{table-in_use, wrong-link}
use Rattle.f11_chain.proofs.ChangeLemmas.{header-stands}
use Rattle.f11_chain.proofs.WindowLemmas.{row-has, holds-block, past-block}
use Rattle.f11_chain.proofs.ReachedLemmas.{Reached, Reached-at, Reached-first, Reached-next, blocks-last, blocks-behind, block-behind}

-- The block is header m, that of segment k of file n; of the headers up to it each was read once at most, beside those in hand, 0 or 1 of
-- them. These are the headers before it.
pub record AlongFrom (in_hand : ℕ) (index : Index) (n m k : ℕ) (behind : List ℕ) (block : List ℕ) (old now : Disk) : Type 0 where
  pub header : HoldsHeader index m block old
  pub segment : segment_number block ≡ k
  pub few : k < 256
  pub reached : IsTrue old.honest → Reached (table index old) n m k behind
  pub reads : ℕ
  pub count : reads + in_hand ≤ k + 1
  pub looked : Looked old now reads 0

-- each was read
abbrev pub Along : Index → ℕ → ℕ → ℕ → List ℕ → List ℕ → Disk → Disk → Type 0
Along = AlongFrom 0

-- a header in hand is live where the device is honest
pub HoldsHeader-live : (index : Index) (m : ℕ) (block : List ℕ) (disk : Disk) → HoldsHeader index m block disk → IsTrue disk.honest
    → IsLive (table index disk) m
HoldsHeader-live index m block disk holds honest = record {
  in_use = table-in_use index disk m ∙ holds.in_use;
  valid = subst (λ (b : List ℕ). IsHeader b m) (holds.block_is honest) holds.valid;
}

-- a device that was looked at has the headers that it had, and is as honest
module _ (index : Index) (old now : Disk) (most : ℕ) (looked : Looked old now most 0) where
  pub table-stays : table index now ≡ table index old
  table-stays = ap (λ (i : Image). table_in i index) looked.image

  pub honest-stays : IsTrue old.honest → IsTrue now.honest
  honest-stays honest = looked.honest ∙ honest

  pub holds-stays : (m : ℕ) (block : List ℕ) → HoldsHeader index m block now → HoldsHeader index m block old
  holds-stays m block holds = record {
    in_use = holds.in_use;
    valid = holds.valid;
    block_is = λ honest. holds.block_is (honest-stays honest) ∙ ap (λ (t : Table). t.header m) table-stays;
  }

-- the first header was read
reached-first : (index : Index) (n : ℕ) (block : List ℕ) (disk : Disk) → HoldsHeader index n block disk → segment_number block ≡ 0
    → IsTrue disk.honest → Reached (table index disk) n n 0 []
reached-first index n block disk holds is honest = Reached-first (table index disk) n (record {
  live = HoldsHeader-live index n block disk holds honest;
  first = ap segment_number (sym (holds.block_is honest)) ∙ is;
})

pub Along-first : (index : Index) (n : ℕ) (block : List ℕ) (old now : Disk) → ReadsFirst index n block old now
    → Along index n n 0 [] block old now
Along-first index n block old now reads = record {
  header = reads.header;
  segment = reads.first;
  few = omega arith;
  reached = reached-first index n block old reads.header reads.first;
  reads = 1;
  count = omega arith;
  looked = reads.looked;
}

-- or was in hand
pub Along-in-hand : (index : Index) (n : ℕ) (block : List ℕ) (disk : Disk) → HoldsFirst index n block disk
    → AlongFrom 1 index n n 0 [] block disk disk
Along-in-hand index n block disk holds = record {
  header = holds.header;
  segment = holds.first;
  few = omega arith;
  reached = reached-first index n block disk holds.header holds.first;
  reads = 0;
  count = omega arith;
  looked = looked_none disk;
}

-- so was any other header of a file; these are the headers before it
abbrev pub headers-before : Index → HeaderAt → List ℕ → Disk → List ℕ
headers-before index at block disk = take (segment_number block) (headers_of (table index disk) at.file)

pub Along-from : (index : Index) (at : HeaderAt) (block : List ℕ) (disk : Disk) → segment_number block < 256
    → HoldsHeader index at.number block disk
    → (IsTrue disk.honest → IsHeaderOf (table index disk) at.file at.number)
    → AlongFrom 1 index at.file at.number (segment_number block) (headers-before index at block disk) block disk disk
Along-from index at block disk few holds of = record {
  header = holds;
  segment = refl;
  few = few;
  reached = λ honest.
      let t : Table = table index disk in
      let same : segment_number (t.header at.number) ≡ segment_number block = ap segment_number (sym (holds.block_is honest)) in
      subst (λ (k : ℕ). Reached t at.file at.number k (take k (headers_of t at.file))) same
      (Reached-at t at.file at.number (of honest) (omega (arith, same, few)));
  reads = 0;
  count = omega arith;
  looked = looked_none disk;
}

pub blocks-before-are : (index : Index) (at : HeaderAt) (block : List ℕ) (disk : Disk) → HoldsHeader index at.number block disk
    → IsTrue disk.honest
    → blocks_before (table index disk) at.file at.number ≡ length (blocks_by (table index disk) (headers-before index at block disk))
blocks-before-are index at block disk holds honest =
    ap (λ (b : List ℕ). length (blocks_by (table index disk) (take (segment_number b) (headers_of (table index disk) at.file))))
    (sym (holds.block_is honest))

-- a file's first header is one of it, behind no blocks
pub first-at : (index : Index) (n : ℕ) (block : List ℕ) (disk : Disk) → HoldsFirst index n block disk → IsTrue disk.honest
    → IsHeaderAt (table index disk) (record { file = n; number = n; before = 0 })
first-at index n block disk holds honest =
    let reached = reached-first index n block disk holds.header holds.first honest in
    record { of_file = reached.of; before_is = sym (blocks-behind (table index disk) n n 0 [] reached) }

-- it wasn't one of a file, or couldn't be read
first-looked : (index : Index) (n : ℕ) (old new : Disk) (faults : ℕ) → 0 < n → Looked old new 1 faults
    → LooksAlongFile index n 0 old new faults
first-looked index n old new faults some looked = record {
  headers = 1;
  few = omega arith;
  each_once = λ honest. Comes-count (table index old) n n 0 [] (Comes-first (table index old) n) some (omega arith);
  looked = looked;
}

pub break-first : (index : Index) (n : ℕ) (old new : Disk) → 0 < n → FindsNoFile index n old new → FindsBreak index n 0 old new
break-first index n old new some finds = record {
  broken = λ honest whole. finds.no_file honest whole.file;
  looked = first-looked index n old new 0 some finds.looked;
}

pub failed-first : (index : Index) (n : ℕ) (old new : Disk) → 0 < n → Looked old new 1 1 → FailsAlong index n 0 old new
failed-first index n old new some looked = first-looked index n old new 1 some looked

-- a file that isn't whole is damaged
pub damage-break : (index : Index) (n : ℕ) (old new : Disk) → FindsBreak index n 0 old new → FindsDamage index n old new
damage-break index n old new finds = record { damaged = λ honest sound. finds.broken honest sound.whole; looked = finds.looked }

-- a call went on from a header that was read before it
module _ (index : Index) (n : ℕ) (old now : Disk) (one : Looked old now 1 0) where
  pub same : table index now ≡ table index old
  same = table-stays index old now 1 one

  pub honest-now : IsTrue old.honest → IsTrue now.honest
  honest-now = honest-stays index old now 1 one

  abbrev pub along-behind : (new : Disk) (faults : ℕ) → LooksAlongFile index n 1 now new faults → LooksAlongFile index n 0 old new faults
  along-behind new faults looks = record {
    headers = 1 + looks.headers;
    few = omega (arith, looks.few);
    each_once = λ honest. let once = subst (λ (t : Table). looks.headers + 1 ≤ length (headers_of t n)) same
        (looks.each_once (honest-now honest)) in omega (arith, once);
    looked = looked_more one looks.looked;
  }

  pub end-behind : (vbn : ℕ) (new : Disk) → FindsEnd index n 1 vbn now new → FindsEnd index n 0 vbn old new
  end-behind vbn new finds = record {
    whole = λ honest. subst (λ (t : Table). IsWholeFile t n) same (finds.whole (honest-now honest));
    fewer = λ honest. subst (λ (t : Table). length (file_blocks t n) < vbn) same (finds.fewer (honest-now honest));
    looked = along-behind new 0 finds.looked;
  }

  pub break-behind : (new : Disk) → FindsBreak index n 1 now new → FindsBreak index n 0 old new
  break-behind new finds = record {
    broken = λ honest. subst (λ (t : Table). ¬ IsWholeFile t n) same (finds.broken (honest-now honest));
    looked = along-behind new 0 finds.looked;
  }

  pub last-behind : (last : FileEnd) (after : List ℕ) (new : Disk) → ReadsLast index n 1 last after now new
      → ReadsLast index n 0 last after old new
  last-behind last after new goes = record {
    header = holds-stays index old now 1 one last.number after goes.header;
    no_link = goes.no_link;
    segment = goes.segment;
    few = goes.few;
    few_blocks = goes.few_blocks;
    is_last = λ honest. subst (λ (t : Table). IsLastOf t n last.number) same (goes.is_last (honest-now honest));
    whole = λ honest. subst (λ (t : Table). IsWholeFile t n) same (goes.whole (honest-now honest));
    headers_are = λ honest. subst (λ (t : Table). last.headers ≡ length (headers_of t n)) same (goes.headers_are (honest-now honest));
    blocks_are = λ honest. subst (λ (t : Table). last.blocks ≡ length (file_blocks t n)) same (goes.blocks_are (honest-now honest));
    looked = along-behind new 0 goes.looked;
    no_further = omega (arith, goes.no_further);
  }

  pub seeks-behind : (at : ℕ) (place : Place) (after : List ℕ) (new : Disk) → Seeks index n 1 at place after now new
      → Seeks index n 0 at place after old new
  seeks-behind at place after new goes = record {
    header = holds-stays index old now 1 one place.number after goes.header;
    segment = goes.segment;
    left_within = goes.left_within;
    left_low = goes.left_low;
    of_file = λ honest. subst (λ (t : Table). IsHeaderOf t n place.number) same (goes.of_file (honest-now honest));
    at_is = λ honest. subst (λ (t : Table). at ≡ blocks_before t n place.number + place.left) same (goes.at_is (honest-now honest));
    block_is = λ honest. subst (λ (t : Table). slice_get (file_blocks t n) at ≡ slice_get (blocks_named after) place.left) same
        (goes.block_is (honest-now honest));
    looked = along-behind new 0 goes.looked;
    no_further = omega (arith, goes.no_further);
  }

-- a place of the file was found
module _ (index : Index) (n vbn : ℕ) (place : Place) (after : List ℕ) (old new : Disk)
    (goes : Seeks index n 0 (vbn - 1) place after old new)
  where
    found : (lbn : ℕ) → slice_get (blocks_named after) place.left ≡ Some lbn → IsTrue old.honest
        → block_by_vbn (table index old) n vbn ≡ Some lbn
    found lbn is honest = goes.block_is honest ∙ is

    in-hand : IsTrue old.honest → after ≡ (table index old).header place.number
    in-hand = goes.header.block_is

    size : length new.image ≡ length old.image
    size = ap (λ (i : Image). length i) goes.looked.looked.image

    no-further : IsTrue old.honest → goes.looked.headers ≤ segment_number ((table index old).header place.number) + 1
    no-further honest = let segment = ap segment_number (in-hand honest) in omega (arith, goes.no_further, goes.segment, segment)

    pub locates : (lbn : ℕ) → HasBlockAt after place.left (length new.image) lbn → Locates index n vbn lbn old new
    locates lbn has = record {
      header = place.number;
      of_file = goes.of_file;
      named = λ honest.
          let here : List ℕ = blocks_named ((table index old).header place.number) in
          let at : slice_get here place.left ≡ Some lbn = ap (λ (b : List ℕ). slice_get (blocks_named b) place.left) (sym (in-hand honest))
          ∙ has.named in
          (place.left, slice_get_within here place.left lbn at, get_or_from_slice_get here place.left lbn lbn at);
      block_is = found lbn has.named;
      within = rw size at has.within;
      looked = goes.looked;
      no_further = no-further;
    }

    -- but it isn't on the device
    pub damage-outside : ((lbn : ℕ) → ¬ HasBlockAt after place.left (length new.image) lbn) → FindsDamage index n old new
    damage-outside none = record {
      damaged = λ honest sound.
          let lbn : ℕ = get_or (blocks_named after) place.left 0 in
          let is : slice_get (blocks_named after) place.left ≡ Some lbn = slice_get-get_or (blocks_named after) place.left 0
          goes.left_within in
          let at : slice_get (file_blocks (table index old) n) (vbn - 1) ≡ Some lbn = found lbn is honest in
          let within = sound.within (vbn - 1) 0 (slice_get_within _ _ _ at) in
          let here = get_or_from_slice_get (file_blocks (table index old) n) (vbn - 1) lbn 0 at in
          none lbn (record { named = is; within = omega (arith, within, here, size) });
      looked = goes.looked;
    }

    -- the window of that place
    module _ (some : 0 < vbn) where
      pub finds-window : (w : Window) → Fills after place.left vbn (length new.image) w → FindsWindow index n vbn w old new
      finds-window w fills = record {
        window_is = λ honest. record {
          header = place.number;
          of_file = goes.of_file honest;
          left = place.left;
          vbn_is = let at = goes.at_is honest in omega (arith, some, at);
          holds = subst (λ (b : List ℕ). HoldsRuns b place.left vbn w) (in-hand honest) fills.holds;
        };
        holds = holds-block after place.left vbn w fills.holds;
        on = rw size at fills.on;
        looked = goes.looked;
        no_further = no-further;
      }

      -- but it isn't on the device
      pub damage-past : IsImage old.image → IsPast after place.left (length new.image) → FindsDamage index n old new
      damage-past image past = record {
        damaged = λ honest sound.
            let t : Table = table index old in
            let (k, lbn, beyond, at) = past-block after place.left (length new.image) past in
            let of = goes.of_file honest in
            let few = table-bytes old.image index image place.number in
            let here : slice_get (blocks_named (t.header place.number)) k ≡ Some lbn = ap (λ (b : List ℕ). slice_get (blocks_named b) k)
            (sym (in-hand honest)) ∙ at in
            let row = header-stands t t n place.number of few (λ m of below. refl) in
            let there = row-has (file_blocks t n) (blocks_named (t.header place.number)) (blocks_before t n place.number) k row
            (slice_get_within _ k lbn here) ∙ here in
            let within = sound.within (blocks_before t n place.number + k) 0 (slice_get_within _ _ _ there) in
            let is = get_or_from_slice_get (file_blocks t n) (blocks_before t n place.number + k) lbn 0 there in
            absurd (omega (arith, within, is, beyond, size));
        looked = goes.looked;
      }

-- a header of the file couldn't be read, or isn't valid
module _ (index : Index) (at : HeaderAt) (old new : Disk) (image : IsImage old.image)
    (is : IsTrue old.honest → IsHeaderAt (table index old) at) where
  header-looked : (faults : ℕ) → Looked old new 1 faults → LooksAlongFile index at.file 0 old new faults
  header-looked faults looked = record {
    headers = 1;
    few = omega arith;
    each_once = λ honest.
        let t : Table = table index old in
        let few = table-bytes old.image index image at.number in
        let reached = Reached-at t at.file at.number (is honest).of_file few in
        let some = in_use-some index at.number (sym (table-in_use index old at.number) ∙ (live_of-header (is honest).of_file).in_use) in
        let count = Comes-count t at.file at.number _ _ reached.comes some few in
        omega (arith, count);
    looked = looked;
  }

  pub failed-header : Looked old new 1 1 → FailsAlong index at.file 0 old new
  failed-header = header-looked 1

  pub no-header : (block : List ℕ) → ReadsHeader index at.number false block old new → FindsBreak index at.file 0 old new
  no-header block reads = record {
    broken = λ honest. absurd (reads.not_live refl honest (live_of-header (is honest).of_file));
    looked = header-looked 0 reads.looked;
  }

-- an error handed on is the one that came
same_error : {T E : Type 0} (e f : E) → IsErrOf {T = T} (Err e) f → e ≡ f
same_error e f is = cc

pub handed-on : {T U E : Type 0} (r : Result T E) (e f : E) → IsErrAnd r (λ x. x ≡ e) → IsErrOf r f → IsErrOf {T = U} (Err e) f
handed-on (Ok x) e f is of = absurd is
handed-on (Err x) e f is of = ap Err (sym is ∙ same_error x f of)

module _ {in_hand : ℕ} (index : Index) (n m k : ℕ) (behind : List ℕ) (block : List ℕ) (old now : Disk)
    (along : AlongFrom in_hand index n m k behind block old now) where
  pub header-some : 0 < m
  header-some = in_use-some index m along.header.in_use

  -- it is the disk's
  pub block-is : IsTrue old.honest → block ≡ (table index old).header m
  block-is honest = along.header.block_is honest

  -- the headers read so far
  abbrev pub along-looked : LooksAlongFile index n in_hand old now 0
  along-looked = record {
    headers = along.reads;
    few = omega (arith, along.few, along.count);
    each_once = λ honest. let here = Comes-count (table index old) n m k behind (along.reached honest).comes header-some along.few in
        omega (arith, here, along.count);
    looked = along.looked;
  }

  -- and those read for the next one, where there is a link
  pub along-more : (new : Disk) (faults : ℕ) → (IsTrue old.honest → (link_of block).number ≢ 0) → Looked now new (next_reads block) faults
      → LooksAlongFile index n in_hand old new faults
  along-more new faults link looked = record {
    headers = along.reads + next_reads block;
    few = omega (arith, along.few, along.segment, along.count);
    each_once = λ honest. elim (cases_lt k 255) [
      | inl below ↦
          let here = Comes-count-next (table index old) n m k behind (along.reached honest).comes header-some below
          (λ none. link honest (ap (λ (b : List ℕ). (link_of b).number) (block-is honest) ∙ none)) in
          omega (arith, here, along.count)
      | inr last ↦
          let here = Comes-count (table index old) n m k behind (along.reached honest).comes header-some along.few in
          omega (arith, here, last, along.segment, along.count)
    ];
    looked = looked_more along.looked looked;
  }

  -- the next one was read
  pub Along-next : (to : ℕ) (after : List ℕ) (new : Disk) → ReadsNext index to block after now new
      → AlongFrom in_hand index n to (k + 1) (behind ++ m ∷ []) after old new
  Along-next to after new reads = record {
    header = header;
    segment = reads.segment ∙ ap (λ (s : ℕ). s + 1) along.segment;
    few = omega (arith, reads.not_last, along.segment);
    reached = λ honest. Reached-next (table index old) n m k behind (along.reached honest) header-some along.few to (is_next honest);
    reads = along.reads + 1;
    count = omega (arith, along.count);
    looked = looked_more along.looked reads.looked;
  }
    where
      header : HoldsHeader index to after old
      header = holds-stays index old now along.reads along.looked to after reads.header

      is_next : IsTrue old.honest → IsNext (table index old) m to
      is_next honest =
          let here : block ≡ (table index old).header m = block-is honest in
          let there : after ≡ (table index old).header to = header.block_is honest in
          record {
            from = HoldsHeader-live index m block old along.header honest;
            to = HoldsHeader-live index to after old header honest;
            number = ap (λ (b : List ℕ). (link_of b).number) (sym here) ∙ reads.number;
            sequence = ap (λ (b : List ℕ). (link_of b).sequence) (sym here) ∙ reads.sequence ∙ ap file_sequence there;
            segment = ap segment_number (sym there) ∙ reads.segment ∙ ap (λ (b : List ℕ). segment_number b + 1) here;
          }

  -- its link is wrong
  pub break-next : (new : Disk) → FindsWrongLink index block now new → FindsBreak index n in_hand old new
  break-next new finds = record {
    broken = λ honest whole. wrong honest (whole.links m (along.reached honest).of);
    looked = along-more new 0 (λ honest. finds.some_link) finds.looked;
  }
    where
      wrong : IsTrue old.honest → ¬ LinksRightly (table index old) m
      wrong honest =
          let same : table index now ≡ table index old = table-stays index old now along.reads along.looked in
          let none : (m : ℕ) → ¬ IsNextOf (table index old) block m =
          subst (λ (t : Table). (m : ℕ) → ¬ IsNextOf t block m) same
          (finds.wrong (honest-stays index old now along.reads along.looked honest)) in
          wrong-link (table index old) m block (block-is honest) finds.some_link none

  -- it couldn't be read
  pub failed-next : (new : Disk) → FailsToReadNext block now new → FailsAlong index n in_hand old new
  failed-next new fails = along-more new 1 (λ honest. fails.some_link) fails.looked

  -- the blocks named up to this header
  pub counted-more : (blocks here : ℕ) → (IsTrue old.honest → blocks ≡ length (blocks_by (table index old) behind))
      → here ≡ length (blocks_named block)
      → IsTrue old.honest → blocks + here ≡ length (blocks_by (table index old) (behind ++ m ∷ []))
  counted-more blocks here so_far is honest =
      let t : Table = table index old in
      let split = ap length (flat_map-append (λ (n : ℕ). blocks_named (t.header n)) behind (m ∷ []))
      ∙ length-append (blocks_by t behind) (blocks_by t (m ∷ [])) in
      let one = length-append (blocks_named (t.header m)) [] in
      let named = ap (λ (b : List ℕ). length (blocks_named b)) (block-is honest) in
      omega (arith, split, one, named, is, so_far honest)

  -- it is the last header
  ends-file : (link_of block).number ≡ 0 → IsTrue old.honest → IsLastOf (table index old) n m
  ends-file none honest = record {
    of = (along.reached honest).of;
    no_link = ap (λ (b : List ℕ). (link_of b).number) (sym (block-is honest)) ∙ none;
  }

  -- and the file's headers and blocks were counted
  pub reads-last : (blocks here : ℕ) (after : List ℕ) (new : Disk)
      → (IsTrue old.honest → blocks ≡ length (blocks_by (table index old) behind)) → here ≡ length (blocks_named block)
      → blocks ≤ 32512 * k → here ≤ 32512 → FindsLast block after now new
      → ReadsLast index n in_hand (record { number = m; headers = k + 1; blocks = blocks + here }) after old new
  reads-last blocks here after new so_far is fewer few finds = rw (finds.block_stays, finds.disk_stays) (record {
    header = along.header;
    no_link = finds.no_link;
    segment = ap (λ (s : ℕ). s + 1) (sym along.segment);
    few = omega (arith, along.few);
    few_blocks = omega (arith, fewer, few);
    is_last = ends-file finds.no_link;
    whole = λ honest. last-whole (table index old) n m (ends-file finds.no_link honest);
    headers_are = λ honest.
        let segment = (along.reached honest).segment in
        let all = last-ends (table index old) n m (ends-file finds.no_link honest) (omega (arith, segment, along.few)) in
        omega (arith, all, segment);
    blocks_are = λ honest.
        let t : Table = table index old in
        let all = ap length (blocks-last t n m k behind (along.reached honest) header-some along.few
        (ends-file finds.no_link honest).no_link) ∙ length-append (blocks_by t behind) (blocks_named (t.header m)) in
        let named = ap (λ (b : List ℕ). length (blocks_named b)) (block-is honest) in
        omega (arith, all, named, is, so_far honest);
    looked = along-looked;
    no_further = omega (arith, along.count);
  })

  -- it names the block
  pub seeks : (at left segment : ℕ) → (IsTrue old.honest → at ≡ length (blocks_by (table index old) behind) + left)
      → left < length (blocks_named block) → segment ≡ segment_number block → left ≤ at
      → Seeks index n in_hand at (record { number = m; segment = segment; left = left }) block old now
  seeks at left segment behind-is within is low = record {
    header = along.header;
    segment = is;
    left_within = within;
    left_low = low;
    of_file = λ honest. (along.reached honest).of;
    at_is = λ honest. let before = blocks-behind (table index old) n m k behind (along.reached honest) in
        omega (arith, before, behind-is honest);
    block_is = λ honest.
        let t : Table = table index old in
        let here : List ℕ = blocks_named (t.header m) in
        let same : blocks_named block ≡ here = ap blocks_named (block-is honest) in
        ap (slice_get (file_blocks t n)) (behind-is honest)
        ∙ block-behind t n m k behind (along.reached honest) header-some along.few left
        (subst (λ (bs : List ℕ). left < length bs) same within)
        ∙ ap (λ (bs : List ℕ). slice_get bs left) (sym same);
    looked = along-looked;
    no_further = omega (arith, is, along.segment, along.count);
  }

  -- it is the last, and names fewer blocks
  pub finds-end : (at left : ℕ) (after : List ℕ) (new : Disk)
      → (IsTrue old.honest → at ≡ length (blocks_by (table index old) behind) + left) → length (blocks_named block) ≤ left
      → FindsLast block after now new → FindsEnd index n in_hand (at + 1) old new
  finds-end at left after new behind-is few finds = rw finds.disk_stays (record {
    whole = λ honest. last-whole (table index old) n m (ends-file finds.no_link honest);
    fewer = λ honest.
        let t : Table = table index old in
        let all = ap length (blocks-last t n m k behind (along.reached honest) header-some along.few
        (ends-file finds.no_link honest).no_link) ∙ length-append (blocks_by t behind) (blocks_named (t.header m)) in
        let named = ap (λ (b : List ℕ). length (blocks_named b)) (block-is honest) in
        omega (arith, all, named, few, behind-is honest);
    looked = along-looked;
  })
