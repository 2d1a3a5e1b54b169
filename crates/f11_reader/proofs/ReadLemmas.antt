-- What each header that is read tells of the blocks that are still to come.
use Rattle.std.proofs.Common.{◌≡◌, ℕ, suc, ◌+◌, ◌-◌, ◌<◌, ◌≤◌, true, IsTrue, List, [], ◌∷◌, ◌++◌, length, drop, map}
use Rattle.std.proofs.Common.{Option, Some, None, refl, sym, ap, subst, ◌∙◌, arith}
use Rattle.std.specs.List.{slice_get}
use Rattle.std.proofs.Common.{inl, inr, get_or}
use Rattle.std.proofs.Math.Seq.{drop-cons}
use Rattle.std.proofs.lemmas.Bool.{cases_lt}
use Rattle.std.proofs.lemmas.List.{drop_all, length-append, length-drop}
use Rattle.std.proofs.lemmas.Option.{none-some, slice_get-get_or, slice_get_within, get_or_from_slice_get}
use Rattle.f11_chain.specs.Calls.{FindsNoFile, HoldsHeader, ReadsFirst, ReadsNext, FindsLast, FindsWrongLink, table}
use Rattle.f11_chain.specs.FileHeaders.{blocks_by}
use Rattle.f11_chain.proofs.AlongLemmas.{HoldsHeader-live, table-stays, honest-stays}
use Rattle.f11_dev.specs.Disk.{Disk}
use Rattle.f11_dev.specs.Image.{Image}
use Rattle.f11_dev.specs.Looked.{Looked}
use Rattle.f11_dev.proofs.LookedLemmas.{looked_none, looked_more, looked_within}
use Rattle.f11_header.specs.Fields.{file_sequence}
use Rattle.f11_index.specs.Headers.{next_of}
use Rattle.f11_index.specs.IndexFile.{Index, is_in_use, slots}
use Rattle.f11_index.specs.Table.{Table, table_in, IsNext}
use Rattle.f11_index.proofs.HeadersLemmas.{live-some}
use Rattle.f11_index.proofs.InUseLemmas.{in_use-some, in_use-slot}
use Rattle.f11_index.proofs.NextLemmas.{next-found}
use Rattle.f11_map.specs.HeaderBlock.{segment_number, link_of, blocks_named}
use Rattle.f11_store.specs.declared.files.FileId.{FileId}
use Rattle.f11_volume.specs.Contents.{block_or_zeros, blocks_reached, following}
use Rattle.f11_volume.proofs.FileLemmas.{following-none}
use Rattle.f11_reader.specs.Reading.{IsReading, HasToCome, headers_left, headers_to_come, blocks_to_come, contents_to_come}
use Rattle.f11_reader.specs.Reading.{OpensFile, OpensSlot, id_in_hand, FindsNone, ReadsOn, HasEnded, FailsToReadOn}
use Rattle.f11_reader.specs.Steps.{ReadsOrZeros, StepsOn, StepsNowhere, FailsToStep, ComesTo}
use Rattle.f11_reader.specs.declared.file.FileReader.{FileReader}

-- a header in hand is still the disk's where that was only looked at
pub holds-on : {index : Index} {n : ℕ} {block : List ℕ} {old now : Disk} {most faults : ℕ} → Looked old now most faults
    → HoldsHeader index n block old → HoldsHeader index n block now
holds-on {index} {n} {block} {old} {now} looked holds = record {
  in_use = holds.in_use;
  valid = holds.valid;
  block_is = λ honest.
      let same : table index now ≡ table index old = ap (λ (i : Image). table_in i index) looked.image in
      holds.block_is (sym looked.honest ∙ honest) ∙ ap (λ (t : Table). t.header n) (sym same);
}

-- and was before
pub holds-before : {index : Index} {n : ℕ} {block : List ℕ} {old now : Disk} {most faults : ℕ} → Looked old now most faults
    → HoldsHeader index n block now → HoldsHeader index n block old
holds-before {index} {n} {block} {old} {now} looked holds = record {
  in_use = holds.in_use;
  valid = holds.valid;
  block_is = λ honest.
      let same : table index now ≡ table index old = ap (λ (i : Image). table_in i index) looked.image in
      holds.block_is (looked.honest ∙ honest) ∙ ap (λ (t : Table). t.header n) same;
}

-- a header that no other is the next of has none
pub no-next : (t : Table) (n : ℕ) → ((m : ℕ) → ¬ IsNext t n m) → next_of t n ≡ None
no-next t n none = go (next_of t n) refl
  where
    go : (o : Option ℕ) → next_of t n ≡ o → o ≡ None
    go None is = refl
    go (Some m) is = absurd (none m ((next-found t n m).0 is))

following-some : (most : ℕ) (t : Table) (n : ℕ) → following (suc most) t (Some n) ≡ n ∷ following most t (next_of t n)
unfolding following
following-some most t n = refl

following-zero : (t : Table) (at : Option ℕ) → following 0 t at ≡ []
unfolding following
following-zero t at = refl

-- One header of a file is in hand.
module _ (index : Index) (file : FileReader) (old : Disk) (reading : IsReading index file old) where
  abbrev t : Table
  t = table index old

  here : IsTrue old.honest → file.header ≡ t.header file.number
  here honest = reading.block_is honest

  no-more : IsTrue old.honest → ((m : ℕ) → ¬ IsNext t file.number m) → headers_to_come t file ≡ []
  no-more honest none =
      ap (following (headers_left file) t) (no-next t file.number none) ∙ following-none t (headers_left file)

  -- it is the last
  pub none-last : (header : List ℕ) (new : Disk) → FindsLast file.header header old new → StepsNowhere index file file old new
  none-last header new finds = record {
    stays = refl;
    none = λ honest. no-more honest (λ m next.
        let some : 0 < m = live-some next.to in
        let link = ap (λ (b : List ℕ). (link_of b).number) (here honest) in
        omega (arith, some, link, finds.no_link, next.number));
    looked = rw finds.disk_stays (looked_within (looked_none old) (omega arith));
  }

  -- or its link is wrong
  pub none-wrong : (new : Disk) → FindsWrongLink index file.header old new → StepsNowhere index file file old new
  none-wrong new finds = record {
    stays = refl;
    none = λ honest. no-more honest (λ m next. finds.wrong honest m record {
      to = next.to;
      number = ap (λ (b : List ℕ). (link_of b).number) (here honest) ∙ next.number;
      sequence = ap (λ (b : List ℕ). (link_of b).sequence) (here honest) ∙ next.sequence;
      segment = next.segment ∙ ap (λ (b : List ℕ). segment_number b + 1) (sym (here honest));
    });
    looked = finds.looked;
  }

  -- the next one was read
  steps-to : (later : FileReader) (new : Disk) → later.place ≡ 0
      → ReadsNext index later.number file.header later.header old new → StepsOn index file later old new
  steps-to later new first reads = record {
    next = λ honest.
        let there : later.header ≡ t.header later.number = reads.header.block_is honest in
        (next-found t file.number later.number).1 record {
          from = HoldsHeader-live index file.number file.header old reading honest;
          to = HoldsHeader-live index later.number later.header old reads.header honest;
          number = ap (λ (b : List ℕ). (link_of b).number) (sym (here honest)) ∙ reads.number;
          sequence = ap (λ (b : List ℕ). (link_of b).sequence) (sym (here honest)) ∙ reads.sequence ∙ ap file_sequence there;
          segment = ap segment_number (sym there) ∙ reads.segment ∙ ap (λ (b : List ℕ). segment_number b + 1) (here honest);
        };
    header_is = reads.header.block_is;
    first_block = first;
    segment = reads.segment;
    not_last = reads.not_last;
    looked = reads.looked;
  }

  pub steps-on : (later : FileReader) (m : ℕ) (header : List ℕ) (new : Disk) → later.number ≡ m → later.header ≡ header → later.place ≡ 0
      → ReadsNext index m file.header header old new → StepsOn index file later old new
  steps-on later m header new number is first reads =
      steps-to later new first (subst (λ (h : List ℕ). ReadsNext index later.number file.header h old new) (sym is)
      (subst (λ (k : ℕ). ReadsNext index k file.header header old new) (sym number) reads))

-- the next one, and those that follow it
pub headers-step : (index : Index) (file later : FileReader) (old new : Disk) → StepsOn index file later old new → IsTrue old.honest
    → headers_to_come (table index old) file ≡ later.number ∷ headers_to_come (table index old) later
headers-step index file later old new steps honest =
    let t : Table = table index old in
    let left : headers_left file ≡ suc (headers_left later) = omega (arith, steps.segment, steps.not_last) in
    ap (λ (k : ℕ). following k t (next_of t file.number)) left
    ∙ ap (following (suc (headers_left later)) t) (steps.next honest)
    ∙ following-some (headers_left later) t later.number

-- the blocks that follow those of a header are those of the next one, and those that follow these
pub blocks-step : (index : Index) (file later : FileReader) (old new : Disk) → StepsOn index file later old new → IsTrue old.honest
    → blocks_by (table index old) (headers_to_come (table index old) file) ≡ blocks_to_come (table index old) later
unfolding blocks_to_come
blocks-step index file later old new steps honest =
    let t : Table = table index old in
    ap (blocks_by t) (headers-step index file later old new steps honest)
    ∙ ap (λ (b : List ℕ). blocks_named b ++ blocks_by t (headers_to_come t later)) (sym (steps.header_is honest))
    ∙ ap (λ (k : ℕ). drop k (blocks_named later.header) ++ blocks_by t (headers_to_come t later)) (sym steps.first_block)

-- where all blocks of the header in hand were read, those that follow are to come
pub blocks-passed : (t : Table) (file : FileReader) → length (blocks_named file.header) ≤ file.place
    → blocks_to_come t file ≡ blocks_by t (headers_to_come t file)
unfolding blocks_to_come
blocks-passed t file all =
    ap (λ (front : List ℕ). front ++ blocks_by t (headers_to_come t file)) (drop_all file.place (blocks_named file.header) all)

-- a file whose first header is in hand has all its blocks to come
pub blocks-all : (t : Table) (file : FileReader) → segment_number file.header ≡ 0 → file.place ≡ 0
    → file.header ≡ t.header file.number → blocks_to_come t file ≡ blocks_reached t file.number
unfolding blocks_to_come
blocks-all t file first none is =
    let rest : List ℕ = blocks_by t (headers_to_come t file) in
    let left : headers_left file ≡ 255 = omega (arith, first) in
    ap (λ (k : ℕ). drop k (blocks_named file.header) ++ rest) none
    ∙ ap (λ (b : List ℕ). blocks_named b ++ rest) is
    ∙ ap (λ (k : ℕ). blocks_named (t.header file.number) ++ blocks_by t (following k t (next_of t file.number))) left
    ∙ ap (blocks_by t) (sym (following-some 255 t file.number))

-- how many blocks are to come
count-all : (t : Table) (file : FileReader) → length (blocks_to_come t file)
    ≡ length (blocks_named file.header) - file.place + length (blocks_by t (headers_to_come t file))
unfolding blocks_to_come
count-all t file =
    length-append (drop file.place (blocks_named file.header)) (blocks_by t (headers_to_come t file))
    ∙ ap (λ (k : ℕ). k + length (blocks_by t (headers_to_come t file))) (length-drop file.place (blocks_named file.header))

-- the element at a place, and those behind it
drop-at : (xs : List ℕ) (i x : ℕ) → slice_get xs i ≡ Some x → drop i xs ≡ x ∷ drop (i + 1) xs
drop-at xs i x at =
    let within : i < length xs = slice_get_within xs i x at in
    let here : get_or xs i 0 ≡ x = get_or_from_slice_get xs i x 0 at in
    let next : i + 1 ≡ suc i = omega arith in
    drop-cons xs i 0 within ∙ ap (λ (y : ℕ). y ∷ drop (suc i) xs) here ∙ ap (λ (k : ℕ). x ∷ drop k xs) (sym next)

-- where the header in hand names no block in a place, all that it names were read
pub none-left : (xs : List ℕ) (i : ℕ) → slice_get xs i ≡ None → length xs ≤ i
none-left xs i none = elim (cases_lt i (length xs)) [
  | inl within ↦ absurd (none-some _ (sym none ∙ slice_get-get_or xs i 0 within))
  | inr past ↦ past
]

-- So many headers were read behind the one of a file that was in hand.
pub record Gone (index : Index) (file later : FileReader) (k : ℕ) (old now : Disk) : Type 0 where
  pub reading : IsReading index later old
  pub segment : segment_number later.header ≡ segment_number file.header + k
  pub few : k ≤ headers_left file
  pub looked : Looked old now k 0

pub gone-none : (index : Index) (file : FileReader) (old : Disk) → IsReading index file old → Gone index file file 0 old old
gone-none index file old reading = record {
  reading = reading;
  segment = omega arith;
  few = omega arith;
  looked = looked_none old;
}

module _ (index : Index) (file later : FileReader) (k : ℕ) (old now : Disk) (gone : Gone index file later k old now) where
  abbrev table-old : Table
  table-old = table index old

  -- one more was read
  module _ (after : FileReader) (new : Disk) (steps : StepsOn index later after now new) where
    pub gone-more : IsReading index after new → Gone index file after (k + 1) old new
    gone-more reading = record {
      reading = holds-before (looked_more gone.looked steps.looked) reading;
      segment = omega (arith, steps.segment, gone.segment);
      few = omega (arith, steps.not_last, gone.segment);
      looked = looked_more gone.looked steps.looked;
    }

    pub gone-blocks : IsTrue old.honest
        → blocks_by table-old (headers_to_come table-old later) ≡ blocks_to_come table-old after
    gone-blocks honest = subst (λ (t : Table). blocks_by t (headers_to_come t later) ≡ blocks_to_come t after)
        (table-stays index old now k gone.looked)
        (blocks-step index later after now new steps (honest-stays index old now k gone.looked honest))

    -- it named none that is still to come
    pub same-more : HasToCome index file later old → length (blocks_named later.header) ≤ later.place → HasToCome index file after old
    same-more same all honest = sym (gone-blocks honest) ∙ sym (blocks-passed table-old later all) ∙ same honest

  -- none follows
  module _ (after : FileReader) (new : Disk) (steps : StepsNowhere index later after now new) where
    pub none-follows : IsTrue old.honest → headers_to_come table-old later ≡ []
    none-follows honest = subst (λ (t : Table). headers_to_come t later ≡ [])
        (table-stays index old now k gone.looked) (steps.none (honest-stays index old now k gone.looked honest))

    pub looked-to-end : Looked old new (headers_left file) 0
    looked-to-end = looked_within (looked_more gone.looked steps.looked) (omega (arith, gone.segment, gone.few))

    pub ends : HasToCome index file later old → length (blocks_named later.header) ≤ later.place → HasEnded index file after old new
    ends same all = record {
      none = λ honest. sym (same honest) ∙ blocks-passed table-old later all ∙ ap (blocks_by table-old) (none-follows honest);
      same = rw steps.stays same;
      looked = looked-to-end;
    }

  -- the next one couldn't be read
  module _ (after : FileReader) (new : Disk) (fails : FailsToStep later after now new) where
    pub fails-looked : Looked old new (headers_left file) 1
    fails-looked = looked_within (looked_more gone.looked fails.looked) (omega (arith, gone.segment, gone.few))

    pub fails-on : HasToCome index file later old → FailsToReadOn index file after old new
    fails-on same = record { same = rw fails.stays same; looked = looked_within fails-looked (omega arith) }

  -- the header names a block that is to come
  pub comes : (lbn : ℕ) → HasToCome index file later old → slice_get (blocks_named later.header) later.place ≡ Some lbn
      → ComesTo index file later lbn old now
  comes lbn same named = record {
    same = same;
    named = named;
    forward = omega (arith, gone.segment);
    few = omega (arith, gone.segment, gone.few);
    looked = looked_within gone.looked (omega (arith, gone.segment));
  }

-- those of the header in hand were counted
pub count-first : (t : Table) (file : FileReader)
    → file.named - file.place + length (blocks_by t (headers_to_come t file)) ≡ length (blocks_to_come t file)
count-first t file = let all = count-all t file in omega (arith, all, file.named_is)

-- and those of one more
pub count-more : (t : Table) (file later after : FileReader) (blocks : ℕ) → after.place ≡ 0
    → blocks + length (blocks_by t (headers_to_come t later)) ≡ length (blocks_to_come t file)
    → blocks_by t (headers_to_come t later) ≡ blocks_to_come t after
    → blocks + after.named + length (blocks_by t (headers_to_come t after)) ≡ length (blocks_to_come t file)
count-more t file later after blocks first so_far is =
    let all = ap length is ∙ count-all t after in
    omega (arith, all, so_far, first, after.named_is)

-- a header in hand names the next block
pub comes-first : (t : Table) (mid : FileReader) (lbn : ℕ) → slice_get (blocks_named mid.header) mid.place ≡ Some lbn
    → blocks_to_come t mid ≡ lbn ∷ (drop (mid.place + 1) (blocks_named mid.header) ++ blocks_by t (headers_to_come t mid))
unfolding blocks_to_come
comes-first t mid lbn named =
    ap (λ (front : List ℕ). front ++ blocks_by t (headers_to_come t mid)) (drop-at (blocks_named mid.header) mid.place lbn named)

-- which is passed: the others are to come
pub comes-next : (t : Table) (mid later : FileReader) (lbn : ℕ) → slice_get (blocks_named mid.header) mid.place ≡ Some lbn
    → later.header ≡ mid.header → later.number ≡ mid.number → later.place ≡ mid.place + 1
    → blocks_to_come t mid ≡ lbn ∷ blocks_to_come t later
unfolding blocks_to_come
comes-next t mid later lbn named header number place =
    let left : headers_to_come t mid ≡ headers_to_come t later =
    ap (λ (h : List ℕ). following (255 - segment_number h) t (next_of t mid.number)) (sym header)
    ∙ ap (λ (n : ℕ). following (headers_left later) t (next_of t n)) (sym number) in
    let rest : drop (mid.place + 1) (blocks_named mid.header) ≡ drop later.place (blocks_named later.header) =
    ap (λ (k : ℕ). drop k (blocks_named mid.header)) (sym place)
    ∙ ap (λ (h : List ℕ). drop later.place (blocks_named h)) (sym header) in
    comes-first t mid lbn named
    ∙ ap (λ (front : List ℕ). lbn ∷ (front ++ blocks_by t (headers_to_come t mid))) rest
    ∙ ap (λ (hs : List ℕ). lbn ∷ (drop later.place (blocks_named later.header) ++ blocks_by t hs)) left

-- the block was read
module _ (index : Index) (file mid later : FileReader) (lbn : ℕ) (block : List ℕ) (old now new : Disk)
    (comes : ComesTo index file mid lbn old now) where
  pub reads-on : later.header ≡ mid.header → later.number ≡ mid.number → later.place ≡ mid.place + 1 → ReadsOrZeros lbn block now new
      → ReadsOn index file later block old new
  reads-on header number place reads = record {
    next = λ honest.
        let t : Table = table index old in
        let image : Image = old.image in
        let is : block ≡ block_or_zeros image lbn =
        reads.block (comes.looked.honest ∙ honest) ∙ ap (λ (i : Image). block_or_zeros i lbn) comes.looked.image in
        ap (map (block_or_zeros image)) (sym (comes.same honest) ∙ comes-next t mid later lbn comes.named header number place)
        ∙ ap (λ (b : List ℕ). b ∷ contents_to_come index old later) (sym is);
    forward = omega (arith, comes.forward, segment);
    few = omega (arith, comes.few, segment);
    looked = looked_within (looked_more comes.looked reads.looked) (omega (arith, segment));
  }
    where
      segment : segment_number later.header ≡ segment_number mid.header
      segment = ap segment_number header

-- There is no such slot.
pub no-slot : (index : Index) (n : ℕ) (disk : Disk) → ¬ ((0 < n) × (n ≤ slots index)) → FindsNoFile index n disk disk
unfolding table_in
no-slot index n disk never = record {
  no_file = λ honest file.
      let in_use : is_in_use index n ≡ true = file.live.in_use in never (in_use-some index n in_use, in_use-slot index n in_use);
  looked = looked_within (looked_none disk) (omega arith);
}

-- An identification that can't be a file's.
pub finds-none : (index : Index) (id : FileId) (disk : Disk)
    → ¬ ((id.volume ≡ 0) × ((0 < id.number) × (id.number ≤ slots index))) → FindsNone index id disk disk
unfolding table_in
finds-none index id disk never = record {
  none = λ honest n is.
      let in_use : is_in_use index n ≡ true = is.file.live.in_use in
      never (
        is.here,
        (
          subst (λ (k : ℕ). 0 < k) (sym is.number) (in_use-some index n in_use),
          subst (λ (k : ℕ). k ≤ slots index) (sym is.number) (in_use-slot index n in_use),
        ),
      );
  looked = looked_within (looked_none disk) (omega arith);
}

-- The first header of the file with an identification was read.
pub opens : (index : Index) (id : FileId) (file : FileReader) (header : List ℕ) (old new : Disk)
    → file.number ≡ id.number → file.header ≡ header → file.place ≡ 0 → id.volume ≡ 0 → file_sequence header ≡ id.sequence
    → ReadsFirst index id.number header old new → OpensFile index id file old new
opens index id file header old new number is place here sequence reads = record {
  reading = holds-on reads.looked holds;
  number = number;
  first = first;
  is_id = λ honest. record {
    file = record {
      live = HoldsHeader-live index file.number file.header old holds honest;
      first = ap segment_number (sym (holds.block_is honest)) ∙ first;
    };
    number = sym number;
    sequence = sym sequence ∙ ap file_sequence (sym is) ∙ ap file_sequence (holds.block_is honest);
    here = here;
  };
  header_is = holds.block_is;
  blocks = λ honest. blocks-all (table index old) file first place (holds.block_is honest);
  looked = reads.looked;
}
  where
    holds : HoldsHeader index file.number file.header old
    holds = subst (λ (h : List ℕ). HoldsHeader index file.number h old) (sym is)
        (subst (λ (k : ℕ). HoldsHeader index k header old) (sym number) reads.header)

    first : segment_number file.header ≡ 0
    first = ap segment_number is ∙ reads.first

-- The first header of the file in a slot was read.
pub opens-slot : (index : Index) (n : ℕ) (file : FileReader) (header : List ℕ) (old new : Disk)
    → file.number ≡ n → file.header ≡ header → file.place ≡ 0 → ReadsFirst index n header old new → OpensSlot index n file old new
opens-slot index n file header old new number is place reads = record {
  number = number;
  opens = opens index (id_in_hand file) file header old new refl is place refl (ap file_sequence (sym is))
      (subst (λ (k : ℕ). ReadsFirst index k header old new) (sym number) reads);
}
