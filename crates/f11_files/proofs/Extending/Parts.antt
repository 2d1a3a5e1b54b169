-- Which headers are written where a file grows.
use Rattle.std.proofs.Common.{◌≡◌, ℕ, zero, suc, ◌<◌, ◌||◌, ◌==◌, ◌∙◌, Bool, true, false, not, IsTrue, List, [], refl, sym, ap, subst, inl}
use Rattle.std.proofs.Common.{inr, arith}
use Rattle.std.proofs.lemmas.Bool.{cases_eq, false≢true}
use Rattle.std.specs.List.{range_with_len}
use Rattle.f11_chain.specs.Calls.{table}
use Rattle.f11_chain.specs.declared.blocks.FileEnd.{FileEnd}
use Rattle.f11_dev.specs.Disk.{Disk}
use Rattle.f11_index.proofs.HeadersLemmas.{header-placed}
use Rattle.f11_index.specs.Calls.{SetsBit}
use Rattle.f11_map.specs.HeaderBlock.{segment_number, link_of}
use Rattle.f11_index.specs.Headers.{headers_of}
use Rattle.f11_index.specs.IndexFile.{Index, slot_bit, bit_of_slot}
use Rattle.f11_index.specs.Kept.{index_kept}
use Rattle.f11_index.specs.Table.{Table, table_of}
use Rattle.f11_index.specs.declared.index_file.IndexFile.{IndexFile}
use Rattle.f11_store.specs.Changes.{is_in}
use Rattle.f11_store.specs.declared.files.FileId.{FileId}
use Rattle.f11_volume.specs.Volume.{volume_of}
use Rattle.f11_image_store.specs.Allocation.{free_list}
use Rattle.f11_files.specs.Extending.Mark.{ClearsMark}
use Rattle.f11_image_store.specs.Confines.{no_header, only_header, new_header, either}
use Rattle.f11_files.specs.Extending.Runs.{IsTailOf}
use Rattle.f11_files.specs.Extending.Header.{TakesSlot}
use Rattle.f11_files.specs.Extending.Slots.{StaysBehind}
use Rattle.f11_files.specs.Extending.Room.{HoldsEnd}
use Rattle.f11_files.specs.Structure.{index_in, home_of, ConfinesTo, IsStructureFor, WritesParts, StandsAlike, StandsWithin}
use Rattle.f11_files.specs.Extending.Tail.{growth_headers, GrowthStandsWithin, ConfinesGrowth}
use Rattle.f11_files.specs.Extending.Take.{TakesNextRun}
use Rattle.f11_files.specs.declared.structure.Structure.{Structure}
use Rattle.f11_files.specs.declared.extend.tail.Tail.{Tail}
use Rattle.f11_files.proofs.Finding.First.{table-of}
use Rattle.f11_files.proofs.Removing.Gone.{first-listed}
use Rattle.f11_files.proofs.Confining.Parts.{at-in, bit-alike, fewer-free, in-one, in-other, of-either, of-none, of-only, out-front}
use Rattle.f11_files.proofs.Confining.Parts.{parts-none, parts-then, reserved-alike, stands-along, stands-same, stands-within, to-parts}
use Rattle.f11_files.proofs.Confining.Parts.{to-then, to-wider}

-- slots that aren't in use once one is taken weren't before
number-new : (before after : Index) (n m : ℕ) → 0 < m → SetsBit true n before after → new_header after m ≡ true → new_header before m ≡ true
number-new before after n m some set is = elim (cases_eq m n) [
  | inl same ↦ absurd (false≢true (ap not (sym (ap (slot_bit after) same ∙ set.bit)) ∙ is))
  | inr other ↦ ap not (sym (set.others m some other)) ∙ is
]

pub set-new : (before after : Index) (n : ℕ) → SetsBit true n before after → (m : ℕ) → new_header after m ≡ true
    → new_header before m ≡ true
unfolding bit_of_slot
set-new before after n set zero is = number-new before after n 1 (omega arith) set is
set-new before after n set (suc m) is = number-new before after n (suc m) (omega arith) set is

-- a header that was entered, and the last one before it
pub taken-alike : (s after : Structure) (n : ℕ) → TakesSlot s after n → StandsAlike s after
taken-alike s after n taken = bit-alike s after true n taken.bit taken.bitmap

pub taken-headers : (s after : Structure) (tail : Tail) (n : ℕ) → TakesSlot s after n → (m : ℕ)
    → either (only_header n) (new_header (index_in after)) m ≡ true → growth_headers s tail m ≡ true
taken-headers s after tail n taken = of-either (growth_headers s tail) (only_header n) (new_header (index_in after))
    (of-only (growth_headers s tail) n (in-other (only_header tail.number) (new_header (index_in s)) n taken.was_new))
    (λ m is. in-other (only_header tail.number) (new_header (index_in s)) m (set-new (index_in s) (index_in after) n taken.bit m is))

-- the last header is one of those that are written
pub of-tail : (s : Structure) (tail : Tail) (n : ℕ) → only_header tail.number n ≡ true → growth_headers s tail n ≡ true
of-tail s tail = in-one (only_header tail.number) (new_header (index_in s))

pub of-new : (s : Structure) (tail : Tail) (n : ℕ) → new_header (index_in s) n ≡ true → growth_headers s tail n ≡ true
of-new s tail = in-other (only_header tail.number) (new_header (index_in s))

-- a header is entered, and then the link to it written
pub grows-linked : (s t : Structure) (tail : Tail) (n : ℕ) (others : List ℕ) {a b c : Disk} → TakesSlot s t n
    → WritesParts s (new_header (index_in s)) a b → WritesParts t (only_header tail.number) b c → ConfinesGrowth s tail others a c
grows-linked s t tail n others taken one two =
    to-then s t (growth_headers s tail) (only_header tail.number) others []
    (stands-within s t (growth_headers s tail) (only_header tail.number) others (of-tail s tail) (taken-alike s t n taken))
    (λ l _. refl)
    (to-parts s (growth_headers s tail) (new_header (index_in s)) others (of-new s tail) one) two

-- then it is the last one
grows-taken : (s t : Structure) (tail : Tail) (n : ℕ) (others : List ℕ) → TakesSlot s t n
    → StandsWithin s (growth_headers s tail) others t (either (only_header n) (new_header (index_in t)))
grows-taken s t tail n others taken =
    stands-within s t (growth_headers s tail) (either (only_header n) (new_header (index_in t))) others (taken-headers s t tail n taken)
    (taken-alike s t n taken)

-- the same headers
pub same-headers : (s after : Structure) (tail later : Tail) → later.number ≡ tail.number → (index_in after).bitmap ≡ (index_in s).bitmap
    → (n : ℕ) → growth_headers after later n ≡ true → growth_headers s tail n ≡ true
same-headers s after tail later number bits n is =
    ap (λ (k : ℕ). (n == k) || not (bit_of_slot (index_in s).bitmap n)) (sym number)
    ∙ ap (λ (b : List (List ℕ)). (n == later.number) || not (bit_of_slot b n)) (sym bits) ∙ is

-- fewer headers, where each is where it was or is one of these blocks
fewer-behind : (s after : Structure) (headers fewer : ℕ → Bool) (lbn count : ℕ) → StaysBehind s after lbn count
    → ((n : ℕ) → fewer n ≡ true → headers n ≡ true) → StandsWithin s headers (range_with_len lbn count) after fewer
fewer-behind s after headers fewer lbn count behind may =
    stands-along s after after headers headers fewer (range_with_len lbn count) [] (λ l _. refl) (behind.within headers)
    (stands-within after after headers fewer [] may (stands-same after))

pub grows-behind : (s after : Structure) (tail later : Tail) (lbn count : ℕ) → later.number ≡ tail.number → StaysBehind s after lbn count
    → GrowthStandsWithin s tail (range_with_len lbn count) after later
grows-behind s after tail later lbn count same behind = record {
  grown = fewer-behind s after (growth_headers s tail) (growth_headers after later) lbn count behind
      (same-headers s after tail later same behind.bits);
  all = behind.within;
}

-- a slot is taken, and then the last header links to its
pub grows-taken-behind : (s t u : Structure) (tail : Tail) (n lbn count : ℕ) → TakesSlot s t n → StaysBehind t u lbn count
    → StandsWithin s (growth_headers s tail) (range_with_len lbn count) u (either (only_header n) (new_header (index_in u)))
grows-taken-behind s t u tail n lbn count taken behind =
    let run = range_with_len lbn count in
    let before = either (only_header n) (new_header (index_in t)) in
    let after = either (only_header n) (new_header (index_in u)) in
    let same : (m : ℕ) → after m ≡ true
    → before m ≡ true = λ m is. ap (λ (b : List (List ℕ)). (m == n) || not (bit_of_slot b m)) (sym behind.bits) ∙ is in
    stands-along s t u (growth_headers s tail) before after run run (λ l out. out) (grows-taken s t tail n run taken)
    (fewer-behind t u before after lbn count behind same)

pub all-taken-behind : (s t u : Structure) (n lbn count : ℕ) → TakesSlot s t n → StaysBehind t u lbn count → (headers : ℕ → Bool)
    → StandsWithin s headers (range_with_len lbn count) u headers
all-taken-behind s t u n lbn count taken behind headers =
    let run = range_with_len lbn count in
    stands-along s t u headers headers headers run run (λ l out. out)
    (stands-within s t headers headers run (λ m is. is) (taken-alike s t n taken)) (behind.within headers)

-- nothing is done
pub grows-same : (s t : Structure) (tail later : Tail) (others : List ℕ) → t ≡ s → later.number ≡ tail.number
    → GrowthStandsWithin s tail others t later
grows-same s t tail later others same number =
    subst (λ (x : Structure). GrowthStandsWithin s tail others x later) (sym same) (record {
      grown = stands-within s s (growth_headers s tail) (growth_headers s later) others (same-headers s s tail later number refl)
          (stands-same s);
      all = λ headers. stands-within s s headers headers others (λ m is. is) (stands-same s);
    })

-- blocks are marked used
pub grows-marked : (s t : Structure) (tail : Tail) (others : List ℕ) → index_in t ≡ index_in s → StandsAlike s t
    → GrowthStandsWithin s tail others t tail
grows-marked s t tail others same alike = record {
  grown = stands-within s t (growth_headers s tail) (growth_headers t tail) others
      (same-headers s t tail tail refl (ap (λ (x : Index). x.bitmap) same)) alike;
  all = λ headers. stands-within s t headers headers others (λ m is. is) alike;
}

-- one step of growth, and then another
pub grows-then : (s t u : Structure) (tail later last : Tail) (others more : List ℕ)
    → ((l : ℕ) → is_in others l ≡ false → is_in more l ≡ false) → GrowthStandsWithin s tail others t later
    → GrowthStandsWithin t later more u last → GrowthStandsWithin s tail others u last
grows-then s t u tail later last others more fewer one two = record {
  grown = stands-along s t u (growth_headers s tail) (growth_headers t later) (growth_headers u last) others more fewer one.grown two.grown;
  all = λ headers. stands-along s t u headers headers headers others more fewer (one.all headers) (two.all headers);
}

pub growth-then : (s t : Structure) (tail later : Tail) (others more : List ℕ) {a b c : Disk} → GrowthStandsWithin s tail others t later
    → ((l : ℕ) → is_in others l ≡ false → is_in more l ≡ false) → ConfinesGrowth s tail others a b → ConfinesGrowth t later more b c
    → ConfinesGrowth s tail others a c
growth-then s t tail later others more stands fewer one two =
    to-then s t (growth_headers s tail) (growth_headers t later) others more stands.grown fewer one two

-- no header is written: bits of the bitmap,
pub growth-marked : (s : Structure) (tail : Tail) (others : List ℕ) {a b : Disk} → WritesParts s no_header a b
    → ConfinesGrowth s tail others a b
growth-marked s tail others one = to-parts s (growth_headers s tail) no_header others (of-none (growth_headers s tail)) one

-- or zeros
pub growth-zeroed : (s : Structure) (tail : Tail) (run : List ℕ) {a b : Disk} → ConfinesTo s no_header run a b
    → ConfinesGrowth s tail run a b
growth-zeroed s tail run one = to-wider s (growth_headers s tail) no_header run run (of-none (growth_headers s tail)) (λ l out. out) one

-- zeros are written, and then the last header
pub growth-named : (s : Structure) (tail : Tail) (run : List ℕ) {a b c : Disk} → ConfinesTo s no_header run a b
    → WritesParts s (only_header tail.number) b c → ConfinesGrowth s tail run a c
growth-named s tail run one two =
    let all = growth_headers s tail in
    to-then s s all (only_header tail.number) run [] (stands-within s s all (only_header tail.number) run (of-tail s tail) (stands-same s))
    (λ l _. refl) (growth-zeroed s tail run one) two

-- blocks are marked used, and then it grows by them
pub growth-taken : (s t : Structure) (tail : Tail) (others run : List ℕ) {a b c : Disk} → index_in t ≡ index_in s → StandsAlike s t
    → ((l : ℕ) → is_in others l ≡ false → is_in run l ≡ false) → WritesParts s no_header a b → ConfinesGrowth t tail run b c
    → ConfinesGrowth s tail others a c
growth-taken s t tail others run same alike fewer one two =
    growth-then s t tail tail others run (grows-marked s t tail others same alike) fewer (growth-marked s tail others one) two

-- the headers of a file that grows are those that it had, and new ones
pub growth-of : (s t : Structure) (listed : ℕ → Bool) (tail : Tail) → listed tail.number ≡ true → index_in t ≡ index_in s → (n : ℕ)
    → growth_headers t tail n ≡ true → either listed (new_header (index_in s)) n ≡ true
growth-of s t listed tail is same =
    let all = either listed (new_header (index_in s)) in
    of-either all (only_header tail.number) (new_header (index_in t))
    (of-only all tail.number (in-one listed (new_header (index_in s)) tail.number is))
    (λ n new. in-other listed (new_header (index_in s)) n (ap (λ (x : Index). new_header x n) (sym same) ∙ new))

-- its last header is one of them
pub tail-listed : (s : Structure) (f : FileId) (end : FileEnd) (first last cleared : List ℕ) (old : Disk) (tail : Tail)
    → IsStructureFor s old → HoldsEnd s f end first last old → IsTailOf f cleared end.number last tail → IsTrue old.honest
    → is_in (headers_of (table_of old.image (home_of s)) f.number) tail.number ≡ true
tail-listed s f end first last cleared old tail for ends of honest = elim (cases_eq (link_of cleared).number 0) [
  | inl none ↦ ap (is_in (headers_of (table_of old.image (home_of s)) f.number)) (of.alone none).0
      ∙ first-listed s f first old for ends.holds honest
  | inr some ↦
      let u : Table = table (index_in s) old in
      let block = ap segment_number (ends.header.block_is honest) in
      let few : segment_number (u.header end.number) < 256 = omega (arith, block, ends.segment, ends.few) in
      let there : is_in (headers_of u f.number) end.number ≡ true = at-in (headers_of u f.number) (segment_number (u.header end.number))
      end.number (header-placed u f.number end.number (ends.is_last honest).of few) in
      ap (is_in (headers_of (table_of old.image (home_of s)) f.number)) (of.other some).0
      ∙ ap (λ (v : Table). is_in (headers_of v f.number) end.number) (sym (table-of s old for honest)) ∙ there
]

-- the blocks that were taken were free
pub run-free : (s t : Structure) (from most lbn count : ℕ) (old taken : Disk) → IsTrue old.honest
    → TakesNextRun s t from most lbn count old taken → (l : ℕ) → is_in (free_list (volume_of old.image (home_of s))) l ≡ false
    → is_in (range_with_len lbn count) l ≡ false
run-free s t from most lbn count old taken honest takes l out =
    out-front (range_with_len lbn count) (free_list (volume_of taken.image (home_of s))) l
    (ap (λ (xs : List ℕ). is_in xs l) (sym (takes.lowest honest)) ∙ out)

-- blocks are taken, and then the file grows by them
pub growth-run : (s t : Structure) (tail : Tail) (from most lbn count : ℕ) (old taken new : Disk) → IsTrue old.honest
    → TakesNextRun s t from most lbn count old taken → StandsAlike s t → WritesParts s no_header old taken
    → ConfinesGrowth t tail (range_with_len lbn count) taken new
    → ConfinesGrowth s tail (free_list (volume_of old.image (home_of s))) old new
growth-run s t tail from most lbn count old taken new honest takes alike one two =
    growth-taken s t tail (free_list (volume_of old.image (home_of s))) (range_with_len lbn count) takes.index alike
    (run-free s t from most lbn count old taken honest takes) one two

-- a file's first header is in hand, and its last, and room was reserved in the index file where that is the one
module _ (s : Structure) (index : IndexFile) (f : FileId) (end : FileEnd) (first last : List ℕ) (old : Disk) (for : IsStructureFor s old)
    (ends : HoldsEnd s f end first last old)
    (kept : index_kept index ≡ index_in s) (honest : IsTrue old.honest) where
  abbrev t : Structure
  t = record s { index = index }

  abbrev listed : ℕ → Bool
  listed = is_in (headers_of (table_of old.image (home_of s)) f.number)

  abbrev all : ℕ → Bool
  all = either listed (new_header (index_in s))

  abbrev free : List ℕ
  free = free_list (volume_of old.image (home_of s))

  -- the contiguous mark is cleared, or isn't
  pub clearing-confined : {now : Disk} → WritesParts t (only_header f.number) old now → ConfinesTo s all free old now
  clearing-confined one =
      let is = in-one listed (new_header (index_in s)) f.number (first-listed s f first old for ends.holds honest) in
      to-parts s all all free (λ k known. known)
      (parts-then s t all (reserved-alike s index kept) (parts-none s all old)
      (to-parts t all (only_header f.number) [] (of-only all f.number is) one))

  -- and then the file grows
  pub growing-confined : {cleared : List ℕ} {tail : Tail} {now new : Disk} → ClearsMark t f first cleared old now
      → IsTailOf f cleared end.number last tail → WritesParts t (only_header f.number) old now
      → (IsTrue now.honest → ConfinesGrowth t tail (free_list (volume_of now.image (home_of s))) now new) → ConfinesTo s all free old new
  growing-confined {cleared = cleared} {tail = tail} {now = now} clears of one two =
      let left = free_list (volume_of now.image (home_of s)) in
      let fewer : (l : ℕ) → is_in free l ≡ false → is_in left l ≡ false = fewer-free free left 0 (clears.gains honest).free in
      let more = growth-of s t listed tail (tail-listed s f end first last cleared old tail for ends of honest) kept in
      to-then s t all (growth_headers t tail) free left
      (stands-within s t all (growth_headers t tail) free more (reserved-alike s index kept)) fewer (clearing-confined one)
      (two (clears.went.honest ∙ honest))
