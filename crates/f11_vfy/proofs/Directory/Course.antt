-- A directory's headers, taken one after another.
use Rattle.std.proofs.Common.{◌≡◌, ◌≢◌, ◌≤◌, ◌<◌, ◌+◌, ◌-◌, ◌*◌, ◌/◌, inl, inr, ℕ, suc, refl, ap, sym, ◌∙◌, subst, arith, List, [], ◌++◌}
use Rattle.std.proofs.Common.{length, drop, get_or, Option, IsTrue}
use Rattle.std.proofs.lemmas.Bool.{cases_Bool, cond-true, cond-false}
use Rattle.std.proofs.Math.Seq.{drop-append_seam}
use Rattle.std.proofs.lemmas.List.{drop-drop, length-append, length-map, length-drop, get_or-drop, get_or_append_left, get_or-map}
use Rattle.f11_chain.specs.FileHeaders.{blocks_by}
use Rattle.f11_dev.specs.Disk.{Disk}
use Rattle.f11_dev.specs.Image.{Image}
use Rattle.f11_dev.specs.Looked.{Looked}
use Rattle.f11_dev.proofs.LookedLemmas.{looked_none, looked_more, looked_within}
use Rattle.f11_header.specs.Fields.{attributes}
use Rattle.f11_map.specs.HeaderBlock.{blocks_named}
use Rattle.f11_index.specs.Headers.{next_of}
use Rattle.f11_index.specs.IndexFile.{Index, is_in_use}
use Rattle.f11_index.specs.Table.{Table, table_in, IsLive}
use Rattle.f11_store.specs.Directory.{entry_count}
use Rattle.f11_store.specs.File.{stated_end}
use Rattle.f11_vfy.specs.Surveying.Bits.{limit_of}
use Rattle.f11_vfy.specs.Chain.{KeepsTable, KnowsNexts, numbered}
use Rattle.f11_volume.specs.Contents.{following, blocks_reached, block_or_zeros, file_of}
use Rattle.f11_vfy.specs.Directory.Blank.{HoldNoRecord}
use Rattle.f11_vfy.specs.Directory.Reading.{HasBlocks, HoldsDirectoryBlocks, HoldsHeaderBlocks, TakesBlocks, TakesHeader, TakesHeaders}
use Rattle.f11_vfy.specs.Directory.Reading.{TakesDirectory, LooksAtHeader, LooksAtHeaders, LooksFor, ComesTo, until, wanted}
use Rattle.f11_vfy.specs.Directory.Gathered.{Begins, TakesRecords}
use Rattle.f11_vfy.specs.Surveying.Headers.{ReadsSlot, reads_of}
use Rattle.f11_vfy.specs.declared.directories.contents.Directory.{Directory}
use Rattle.f11_vfy.specs.declared.directories.gathered.Gathered.{Gathered}
use Rattle.f11_vfy.specs.declared.survey.slot.Slot.{Slot}
use Rattle.f11_vfy.specs.declared.survey.slot.State.{State}
use Rattle.f11_vfy.specs.declared.survey.slot.State.TheVariants.{Live}
use Rattle.f11_vfy.proofs.FollowingLemmas.{numbered-some, next-kept, next-live, following-more, following-zero}
use Rattle.f11_vfy.proofs.Surveying.Slots.{live-to}
use Rattle.f11_vfy.proofs.Directory.Taking.{takes-same, takes-begin}
use Rattle.f11_vfy.proofs.Directory.Walk.{still}
use Rattle.f11_volume.proofs.FileLemmas.{following-none}

long : (image : Image) (t : Table) (d : ℕ) → length (file_of image t d).blocks ≡ length (blocks_reached t d)
unfolding file_of
long image t d = length-map (blocks_reached t d) (block_or_zeros image)

pub comes-begin : (t : Table) (nexts : List ℕ) (d : ℕ) → KnowsNexts t nexts → IsLive t d → ComesTo t d 0 d 256
comes-begin t nexts d knows live = record {
  within = omega arith;
  rest = ap (λ (n : Option ℕ). blocks_by t (following 256 t n)) (sym (numbered-some d (knows.fit.low d live.in_use)));
  live = λ some. live;
}

-- header n, which comes next
module _ (t : Table) (d at n most left : ℕ) (comes : ComesTo t d at n most) (some : 1 ≤ n) (step : most ≡ left + 1) where
  parts : drop at (blocks_reached t d) ≡ blocks_named (t.header n) ++ blocks_by t (following left t (next_of t n))
  parts =
      let one : most ≡ suc left = omega (arith, step) in
      comes.rest ∙ ap (λ (k : ℕ). blocks_by t (following k t (numbered n))) one ∙ ap (blocks_by t) (following-more t left n some)

  pub comes-within : at + length (blocks_named (t.header n)) ≤ length (blocks_reached t d)
  comes-within =
      omega (
        arith,
        comes.within,
        ap length parts,
        length-drop at (blocks_reached t d),
        length-append (blocks_named (t.header n)) (blocks_by t (following left t (next_of t n))),
      )

  pub comes-more : (nexts : List ℕ) (m count : ℕ) → KnowsNexts t nexts → m ≡ get_or nexts (n - 1) 0
      → count ≡ length (blocks_named (t.header n)) → ComesTo t d (at + count) m left
  comes-more nexts m count knows next is =
      let to : next_of t n ≡ numbered m = next-kept t nexts n knows (comes.live some) m next in
      record {
        within = omega (arith, is, comes-within);
        rest =
            sym (drop-drop count at (blocks_reached t d)) ∙ ap (drop count) parts
            ∙ ap (λ (k : ℕ). drop k (blocks_named (t.header n) ++ blocks_by t (following left t (next_of t n)))) is
            ∙ drop-append_seam (blocks_named (t.header n)) (blocks_by t (following left t (next_of t n)))
            ∙ ap (λ (o : Option ℕ). blocks_by t (following left t o)) to;
        live = next-live t n m to;
      }

  pub comes-has : (image : Image) → HasBlocks image (blocks_named (t.header n)) at (file_of image t d).blocks
  unfolding file_of
  comes-has image k below =
      let here : get_or (blocks_reached t d) (at + k) 0 ≡ get_or (blocks_named (t.header n)) k 0 =
      sym (get_or-drop at (blocks_reached t d) k 0) ∙ ap (λ (l : List ℕ). get_or l k 0) parts
      ∙ get_or_append_left (blocks_named (t.header n)) (blocks_by t (following left t (next_of t n))) 0 k below in
      get_or-map (block_or_zeros image) (blocks_reached t d) (at + k) 0 [] (omega (arith, below, comes-within))
      ∙ ap (block_or_zeros image) here

-- where no header comes next, or none may, or no block that is left holds a record before the end
pub comes-end : (t : Table) (d at n most : ℕ) → ComesTo t d at n most → n ≡ 0 → at ≡ length (blocks_reached t d)
comes-end t d at n most comes none =
    let rest : drop at (blocks_reached t d) ≡ [] = comes.rest ∙ ap (λ (k : ℕ). blocks_by t (following most t (numbered k))) none
    ∙ ap (blocks_by t) (following-none t most) in
    omega (arith, comes.within, ap length rest, length-drop at (blocks_reached t d))

pub comes-last : (t : Table) (d at n most : ℕ) → ComesTo t d at n most → most ≡ 0 → at ≡ length (blocks_reached t d)
comes-last t d at n most comes none =
    let rest : drop at (blocks_reached t d) ≡ [] = comes.rest ∙ ap (λ (k : ℕ). blocks_by t (following k t (numbered n))) none
    ∙ ap (blocks_by t) (following-zero t (numbered n)) in
    omega (arith, comes.within, ap length rest, length-drop at (blocks_reached t d))

-- a slot's header is one read at most
reads-most : (index : Index) (n : ℕ) → reads_of index n ≤ 1
reads-most index n = elim (cases_Bool (is_in_use index n)) [
  | inl used ↦ let e : reads_of index n ≡ 1 = cond-true (is_in_use index n) _ _ used in omega (arith, e)
  | inr none ↦ let e : reads_of index n ≡ 0 = cond-false (is_in_use index n) _ _ none in omega (arith, e)
]

pub slot-looked : (index : Index) (n : ℕ) {old new : Disk} {faults : ℕ} → Looked old new (reads_of index n) faults → Looked old new 1 faults
slot-looked index n looked = looked_within looked (reads-most index n)

-- header n was read
pub header-fails : (index : Index) (end at n : ℕ) (old new : Disk) (faults : ℕ) → Looked old new (reads_of index n) faults
    → LooksAtHeader index end at n old new faults
header-fails index end at n old new faults looked =
    record { count = 0; looked = looked_within (slot-looked index n looked) (omega arith); few = λ honest live. omega arith }

module _ (index : Index) (slots : List Slot) (dir : Directory) (at n : ℕ) (s : State) (b : List ℕ) (before : Gathered) (old now : Disk)
    (reads : ReadsSlot index n s b old now) where
  pub header-none : s ≢ Live → TakesHeader index slots dir at n 0 before before old now
  header-none dead = record {
    takes = record {
      limit = refl;
      takes = λ image t blocks first keeps holds taken.
          absurd (dead (live-to _ n s (reads.state_is holds.holds.0.0) holds.live));
    };
    count_is = λ honest live. absurd (dead (live-to _ n s (reads.state_is honest) live));
    few = omega arith;
    looked = looked_within (slot-looked index n reads.looked) (omega arith);
  }

  -- and it is live
  module _ (live : s ≡ Live) where
    named : IsTrue old.honest → length (blocks_named b) ≡ length (blocks_named ((table_in old.image index).header n))
    named honest = ap (λ (x : List ℕ). length (blocks_named x)) (reads.block_is honest live)

    pub header-looks : (new : Disk) (faults : ℕ) → Looked now new (wanted dir.end at (length (blocks_named b))) faults
        → LooksAtHeader index dir.end at n old new faults
    header-looks new faults looked = record {
      count = length (blocks_named b);
      looked = looked_more (slot-looked index n reads.looked) looked;
      few = λ honest _. omega (arith, named honest);
    }

    pub header-taken : (count : ℕ) (after : Gathered) (new : Disk) → count ≡ length (blocks_named b) → count ≤ 32512
        → TakesBlocks slots dir at (blocks_named b) before after now new
        → TakesHeader index slots dir at n count before after old new
    header-taken count after new is few takes = record {
      takes =
          takes-same slots dir.d (HoldsDirectoryBlocks now (blocks_named b) at) (HoldsHeaderBlocks index n at old) _ _ _ _ before after
          takes.takes refl (ap (λ (k : ℕ). until dir.end (at + k)) (sym is))
          (λ image blocks holds. (
            still old now image reads.looked holds.holds.0,
            subst (λ (x : List ℕ). HasBlocks image (blocks_named x) at blocks) (sym (reads.block_is holds.holds.0.0 live)) holds.holds.1,
          ));
      count_is = λ honest _. is ∙ named honest;
      few = few;
      looked = looked_more (slot-looked index n reads.looked)
          (subst (λ (k : ℕ). Looked now new (wanted dir.end at k) 0) (sym is) takes.looked);
    }

-- the headers so far from the second one on
pub record Courses (index : Index) (slots : List Slot) (nexts : List ℕ) (dir : Directory) (at second : ℕ) (before : Gathered) (old : Disk)
    (counter behind n : ℕ) (now : Gathered) (disk : Disk) : Type 0 where
  pub limit : limit_of now.entered ≡ limit_of before.entered
  pub order : at ≤ behind
  pub few : behind ≤ 32512 * counter
  pub comes : IsTrue old.honest → KnowsNexts (table_in old.image index) nexts → ComesTo (table_in old.image index) dir.d at second 255
      → ComesTo (table_in old.image index) dir.d behind n (256 - counter)
  pub takes : (first : Gathered) → IsTrue old.honest → KnowsNexts (table_in old.image index) nexts
      → KeepsTable (table_in old.image index) slots → ComesTo (table_in old.image index) dir.d at second 255
      → TakesRecords old.image (table_in old.image index) dir.d (file_of old.image (table_in old.image index) dir.d).blocks
      (until dir.end at) first before
      → TakesRecords old.image (table_in old.image index) dir.d (file_of old.image (table_in old.image index) dir.d).blocks
      (until dir.end behind) first now
  pub looked : Looked old disk (counter - 1 + (wanted dir.end 0 behind - wanted dir.end 0 at)) 0

module _ (index : Index) (slots : List Slot) (nexts : List ℕ) (dir : Directory) (at second : ℕ) (before : Gathered) (old : Disk) where
  abbrev pub t : Table
  t = table_in old.image index

  abbrev pub blocks : List (List ℕ)
  blocks = (file_of old.image t dir.d).blocks

  pub courses-begin : at ≤ 32512 → Courses index slots nexts dir at second before old 1 at second before old
  courses-begin few = record {
    limit = refl;
    order = omega arith;
    few = omega (arith, few);
    comes = λ honest knows comes. comes;
    takes = λ first honest knows keeps comes taken. taken;
    looked = looked_within (looked_none old) (omega arith);
  }

  module _ (counter behind n : ℕ) (now : Gathered) (disk : Disk)
      (is : Courses index slots nexts dir at second before old counter behind n now disk) (low : 1 ≤ counter) (high : counter ≤ 256) where
    pub courses-more : (m count : ℕ) (after : Gathered) (new : Disk) → counter < 256 → 1 ≤ n → m ≡ get_or nexts (n - 1) 0
        → TakesHeader index slots dir behind n count now after disk new
        → Courses index slots nexts dir at second before old (counter + 1) (behind + count) m after new
    courses-more m count after new below some next takes = record {
      limit = takes.takes.limit ∙ is.limit;
      order = omega (arith, is.order);
      few = omega (arith, is.few, takes.few);
      comes = λ honest knows comes. comes-more t dir.d behind n (256 - counter) (256 - (counter + 1)) (is.comes honest knows comes) some
          (omega (arith, below)) nexts m count knows next (counted honest ((is.comes honest knows comes).live some));
      takes = λ first honest knows keeps comes taken.
          let here = is.comes honest knows comes in
          takes.takes.takes old.image t blocks first keeps
          (record {
            live = subst (λ (x : Table). IsLive x n) (sym same) (here.live some);
            holds = ((is.looked.honest ∙ honest, is.looked.image), held here);
          })
          (is.takes first honest knows keeps comes taken);
      looked = looked_within (looked_more is.looked takes.looked) (omega (arith, is.order, low));
    }
      where
        same : table_in disk.image index ≡ t
        same = ap (λ (i : Image). table_in i index) is.looked.image

        counted : IsTrue old.honest → IsLive t n → count ≡ length (blocks_named (t.header n))
        counted honest live =
            subst (λ (x : Table). IsLive x n → count ≡ length (blocks_named (x.header n))) same (takes.count_is (is.looked.honest ∙ honest))
            live

        held : ComesTo t dir.d behind n (256 - counter)
            → HasBlocks old.image (blocks_named ((table_in disk.image index).header n)) behind blocks
        held here = subst (λ (x : Table). HasBlocks old.image (blocks_named (x.header n)) behind blocks) (sym same)
            (comes-has t dir.d behind n (256 - counter) (256 - (counter + 1)) here some (omega (arith, below)) old.image)

    -- a header more was looked at
    pub courses-fail : (new : Disk) (faults : ℕ) → counter < 256 → 1 ≤ n → LooksAtHeader index dir.end behind n disk new faults
        → LooksAtHeaders index nexts dir at second 255 old new faults
    courses-fail new faults below some looks = record {
      reads = counter - 1 + (wanted dir.end 0 behind - wanted dir.end 0 at) + (1 + wanted dir.end behind looks.count);
      looked = looked_more is.looked looks.looked;
      few = λ honest knows comes.
          let here = is.comes honest knows comes in
          let count = subst (λ (i : Image). IsLive (table_in i index) n → looks.count ≤ length (blocks_named ((table_in i index).header n)))
          is.looked.image (looks.few (is.looked.honest ∙ honest)) (here.live some) in
          omega (
            arith,
            count,
            comes-within t dir.d behind n (256 - counter) (256 - (counter + 1)) here some (omega (arith, below)),
            is.order,
            low,
            below,
          );
    }

    looked-at : LooksAtHeaders index nexts dir at second 255 old disk 0
    looked-at = record {
      reads = counter - 1 + (wanted dir.end 0 behind - wanted dir.end 0 at);
      looked = is.looked;
      few = λ honest knows comes. omega (arith, (is.comes honest knows comes).within, is.order, low, high);
    }

    -- and no other is to be
    pub courses-end : (IsTrue old.honest → KnowsNexts t nexts → ComesTo t dir.d behind n (256 - counter)
        → until dir.end behind ≡ until dir.end (length (blocks_reached t dir.d)))
        → TakesHeaders index slots nexts dir at second 255 before now old disk
    courses-end done = record {
      limit = is.limit;
      takes = λ first honest knows keeps comes taken.
          subst (λ (k : ℕ). TakesRecords old.image t dir.d blocks k first now)
          (done honest knows (is.comes honest knows comes) ∙ ap (until dir.end) (sym (long old.image t dir.d)))
          (is.takes first honest knows keeps comes taken);
      looked = looked-at;
    }

    pub courses-none : n ≡ 0 → TakesHeaders index slots nexts dir at second 255 before now old disk
    courses-none none = courses-end (λ honest knows comes. ap (until dir.end) (comes-end t dir.d behind n (256 - counter) comes none))

    pub courses-last : 256 ≤ counter → TakesHeaders index slots nexts dir at second 255 before now old disk
    courses-last last =
        courses-end (λ honest knows comes. ap (until dir.end) (comes-last t dir.d behind n (256 - counter) comes (omega (arith, last))))

    pub courses-past : 1 ≤ n → length nexts < n → TakesHeaders index slots nexts dir at second 255 before now old disk
    courses-past some past = courses-end (λ honest knows comes.
        let high : n ≤ t.slots = knows.fit.high n (comes.live some).in_use in
        absurd (omega (arith, knows.count, high, past)))

    pub courses-done : wanted dir.end behind 1 ≡ 0 → TakesHeaders index slots nexts dir at second 255 before now old disk
    courses-done none = courses-end (λ honest knows comes. omega (arith, comes.within, none))

-- the first header was read, and then the others
ended : (image : Image) (t : Table) (d end : ℕ) → end ≡ stated_end (attributes (t.header d)) / 16
    → until end (length (file_of image t d).blocks) ≡ entry_count (file_of image t d)
unfolding file_of
ended image t d end is = omega (arith, is)

module _ (index : Index) (slots : List Slot) (nexts : List ℕ) (d : ℕ) (s : State) (b : List ℕ) (before : Gathered) (old now : Disk)
    (reads : ReadsSlot index d s b old now) where
  pub dead-directory : s ≢ Live → TakesDirectory index slots nexts d before before old now
  dead-directory dead = record {
    limit = refl;
    takes = λ honest knows keeps live known. absurd (dead (live-to _ d s (reads.state_is honest) live));
    looked = record { reads = 1; looked = slot-looked index d reads.looked; few = λ honest knows live. omega arith };
  }

pub directory-fails : (index : Index) (nexts : List ℕ) (d : ℕ) (old new : Disk) (faults : ℕ) → Looked old new 1 faults
    → LooksFor index nexts d old new faults
directory-fails index nexts d old new faults looked = record { reads = 1; looked = looked; few = λ honest knows live. omega arith }

module _ (index : Index) (slots : List Slot) (nexts : List ℕ) (dir : Directory) (s : State) (b : List ℕ) (before : Gathered)
    (old now : Disk)
    (reads : ReadsSlot index dir.d s b old now) (live : s ≡ Live)
    (end_is : dir.end ≡ stated_end (attributes b) / 16) where
  abbrev pub of : Table
  of = table_in old.image index

  header-is : IsTrue old.honest → b ≡ of.header dir.d
  header-is honest = reads.block_is honest live

  named-is : IsTrue old.honest → length (blocks_named b) ≡ length (blocks_named (of.header dir.d))
  named-is honest = ap (λ (x : List ℕ). length (blocks_named x)) (header-is honest)

  first-within : IsTrue old.honest → KnowsNexts of nexts → IsLive of dir.d → length (blocks_named b) ≤ length (blocks_reached of dir.d)
  first-within honest knows alive =
      omega (
        arith,
        named-is honest,
        comes-within of dir.d 0 dir.d 256 255 (comes-begin of nexts dir.d knows alive)
            (knows.fit.low dir.d alive.in_use) (omega arith),
      )

  count-is : IsTrue old.honest → until dir.end (length (file_of old.image of dir.d).blocks) ≡ entry_count (file_of old.image of dir.d)
  count-is honest = ended old.image of dir.d dir.end (end_is ∙ ap (λ (x : List ℕ). stated_end (attributes x) / 16) (header-is honest))

  few-is : (n : ℕ) → IsTrue old.honest → n ≤ 256 + wanted dir.end 0 (length (blocks_reached of dir.d))
      → n ≤ 256 + (entry_count (file_of old.image of dir.d) + 31) / 32
  few-is n honest less = omega (arith, less, count-is honest, long old.image of dir.d)

  -- its blocks were looked at
  pub first-looks : (new : Disk) (faults : ℕ) → Looked now new (wanted dir.end 0 (length (blocks_named b))) faults
      → LooksFor index nexts dir.d old new faults
  first-looks new faults looked = record {
    reads = 1 + wanted dir.end 0 (length (blocks_named b));
    looked = looked_more (slot-looked index dir.d reads.looked) looked;
    few = λ honest knows alive. few-is _ honest (omega (arith, first-within honest knows alive));
  }

  module _ (begun mid : Gathered) (disk : Disk) (count second : ℕ) (begins : Begins before begun)
      (takes : TakesBlocks slots dir 0 (blocks_named b) begun mid now disk) (counted : count ≡ length (blocks_named b))
      (next : second ≡ get_or nexts (dir.d - 1) 0) where
    image-is : disk.image ≡ old.image
    image-is = takes.looked.image ∙ reads.looked.image

    honest-still : IsTrue old.honest → IsTrue disk.honest
    honest-still honest = takes.looked.honest ∙ (reads.looked.honest ∙ honest)

    comes-next : IsTrue old.honest → KnowsNexts of nexts → IsLive of dir.d → ComesTo of dir.d count second 255
    comes-next honest knows alive =
        let plain : 0 + count ≡ count = omega arith in
        subst (λ (k : ℕ). ComesTo of dir.d k second 255) plain
        (comes-more of dir.d 0 dir.d 256 255 (comes-begin of nexts dir.d knows alive) (knows.fit.low dir.d alive.in_use) (omega arith) nexts
        second count knows next (counted ∙ named-is honest))

    first-taken : IsTrue old.honest → KnowsNexts of nexts → KeepsTable of slots → IsLive of dir.d → HoldNoRecord before.blank old.image
        → TakesRecords old.image of dir.d (file_of old.image of dir.d).blocks (until dir.end count) before mid
    first-taken honest knows keeps alive known =
        let none : 0 ≡ until dir.end 0 = omega arith in
        let plain : until dir.end (0 + length (blocks_named b)) ≡ until dir.end count = omega (arith, counted) in
        let has : HasBlocks old.image (blocks_named (of.header dir.d)) 0 (file_of old.image of dir.d).blocks =
        comes-has of dir.d 0 dir.d 256 255 (comes-begin of nexts dir.d knows alive) (knows.fit.low dir.d alive.in_use) (omega arith)
        old.image in
        subst (λ (k : ℕ). TakesRecords old.image of dir.d (file_of old.image of dir.d).blocks k before mid) plain
        (takes.takes.takes old.image of (file_of old.image of dir.d).blocks before keeps (
          (reads.looked.honest ∙ honest, reads.looked.image),
          subst (λ (x : List ℕ). HasBlocks old.image (blocks_named x) 0 (file_of old.image of dir.d).blocks) (sym (header-is honest)) has,
        )
        (subst (λ (k : ℕ). TakesRecords old.image of dir.d (file_of old.image of dir.d).blocks k before begun) none
        (takes-begin old.image of dir.d (file_of old.image of dir.d).blocks before begun begins known)))

    pub others-look : (new : Disk) (faults : ℕ) → LooksAtHeaders index nexts dir count second 255 disk new faults
        → LooksFor index nexts dir.d old new faults
    others-look new faults looks = record {
      reads = 1 + wanted dir.end 0 (length (blocks_named b)) + looks.reads;
      looked = looked_more (looked_more (slot-looked index dir.d reads.looked) takes.looked) looks.looked;
      few = λ honest knows alive.
          let less = subst (λ (i : Image). KnowsNexts (table_in i index) nexts → ComesTo (table_in i index) dir.d count second 255
          → wanted dir.end 0 count + looks.reads ≤ 255 + wanted dir.end 0 (length (blocks_reached (table_in i index) dir.d))) image-is
          (looks.few (honest-still honest)) knows (comes-next honest knows alive) in
          few-is _ honest (omega (arith, less, counted));
    }

    pub directory-taken : (after : Gathered) (new : Disk) → TakesHeaders index slots nexts dir count second 255 mid after disk new
        → limit_of begun.entered ≡ limit_of before.entered
        → TakesDirectory index slots nexts dir.d before after old new
    directory-taken after new others limit = record {
      limit = others.limit ∙ takes.takes.limit ∙ limit;
      takes = λ honest knows keeps alive known.
          subst (λ (k : ℕ). TakesRecords old.image of dir.d (file_of old.image of dir.d).blocks k before after) (count-is honest)
          (subst (λ (i : Image). KnowsNexts (table_in i index) nexts → KeepsTable (table_in i index) slots
          → ComesTo (table_in i index) dir.d count second 255
          → TakesRecords i (table_in i index) dir.d (file_of i (table_in i index) dir.d).blocks (until dir.end count) before mid
          → TakesRecords i (table_in i index) dir.d (file_of i (table_in i index) dir.d).blocks
          (until dir.end (length (file_of i (table_in i index) dir.d).blocks)) before after)
          image-is (others.takes before (honest-still honest)) knows keeps (comes-next honest knows alive)
          (first-taken honest knows keeps alive known));
      looked = others-look new 0 others.looked;
    }
