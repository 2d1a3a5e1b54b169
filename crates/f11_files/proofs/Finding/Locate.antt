-- A walk along a file's headers, in the words of the store.
use Rattle.std.proofs.Common.{◌≡◌, ◌-◌, ◌<◌, ◌≤◌, ℕ, Bool, false, cond, IsTrue, List, length, Some, None, option_map, refl, sym, ap, subst}
use Rattle.std.proofs.Common.{◌∙◌, ltb, arith}
use Rattle.std.proofs.lemmas.Bool.{lt-ltb, le-ltb}
use Rattle.std.proofs.lemmas.List.{length-map}
use Rattle.std.specs.List.{slice_get}
use Rattle.std.proofs.lemmas.Option.{slice_get_within, slice_get-map, get_or_from_slice_get}
use Rattle.f11_bytes.specs.Block.{zero_block}
use Rattle.f11_dev.specs.Disk.{Disk}
use Rattle.f11_dev.specs.Image.{Image}
use Rattle.f11_index.specs.Headers.{headers_of}
use Rattle.f11_index.specs.IndexFile.{Index}
use Rattle.f11_index.specs.Table.{Table, table_of, IsFile, IsWholeFile}
use Rattle.f11_chain.specs.Calls.{table, ReadsFirst, LooksAlongFile, FindsEnd, FindsBreak, FindsDamage, Locates, ReadsLast}
use Rattle.f11_chain.specs.FileHeaders.{file_blocks, block_by_vbn, IsSoundFile}
use Rattle.f11_chain.specs.declared.blocks.FileEnd.{FileEnd}
use Rattle.f11_chain.specs.declared.fault.ChainFault.{ChainFault}
use Rattle.f11_chain.specs.declared.fault.ChainFault.TheVariants as chain
use Rattle.f11_store.specs.Causes.{first_of}
use Rattle.f11_store.specs.Cost.{header_count}
use Rattle.f11_store.specs.File.{File, length_of}
use Rattle.f11_store.specs.Store.{file_named}
use Rattle.f11_store.specs.declared.files.FileId.{FileId}
use Rattle.f11_store.specs.declared.refusals.Refusal.{Refusal}
use Rattle.f11_store.specs.declared.refusals.Refusal.TheVariants.{NoSuchFile, EndOfFile, DeviceFault, Damaged}
use Rattle.f11_volume.specs.Contents.{block_or_zeros}
use Rattle.f11_volume.proofs.FileLemmas.{image-files, file-headers-are, file-blocks-are}
use Rattle.f11_writes.specs.Kept.{file_in}
use Rattle.f11_files.specs.Answers.{ReadsAtMost, FailsToRead, refusal_for}
use Rattle.f11_files.specs.Finding.Blocks.{FindsBlock}
use Rattle.f11_files.specs.Finding.First.{FindsFile, HoldsFile, IsFileOf}
use Rattle.f11_files.specs.Finding.Length.{CountsBlocks}
use Rattle.f11_files.specs.Operations.{file_causes, length_causes}
use Rattle.f11_files.specs.Structure.{index_in, home_of, store_on, IsStructureFor}
use Rattle.f11_files.specs.declared.structure.Structure.{Structure}
use Rattle.f11_files.proofs.AnswerLemmas.{right-cause, right-fault, right-damaged}
use Rattle.f11_files.proofs.Finding.First.{table-of}
use Rattle.f11_image_store.specs.StoreOf.{as_seen}
use Rattle.f11_files.proofs.Finding.Named.{is-file, found-named, no-file-cause, seen-same}
use Rattle.f11_image_store.proofs.StoreLemmas.{seen-own}

-- the first header was read
pub reads-first : (index : Index) (f : FileId) (block : List ℕ) (old new : Disk) → FindsFile index f block old new
    → ReadsFirst index f.number block old new
reads-first index f block old new finds = record { header = finds.holds.header; first = finds.holds.is_first.first; looked = finds.looked }

-- a file that is there, on an honest disk
module _ (s : Structure) (f : FileId) (disk : Disk) (for : IsStructureFor s disk) (honest : IsTrue disk.honest)
    (is : IsFileOf f (index_in s) disk) where
  abbrev t : Table
  t = table_of disk.image (home_of s)

  abbrev named : File
  named = file_named (store_on s disk) f

  same-table : table (index_in s) disk ≡ t
  same-table = table-of s disk for honest

  pub named-of : named ≡ as_seen f.number (file_in (home_of s) f.number disk.image)
  named-of = (found-named s f disk for honest is).1

  pub file-of : IsFile t f.number
  file-of = subst (λ (u : Table). IsFile u f.number) same-table is.file

  -- it is sound
  pub sound-of : IsSoundFile (table (index_in s) disk) f.number (length disk.image)
  sound-of =
      subst (λ (u : Table). IsSoundFile u f.number (length disk.image)) (sym same-table)
      ((image-files disk.image (home_of s) (for.sound honest)).each f.number file-of)

  pub whole-of : IsWholeFile t f.number
  whole-of = subst (λ (u : Table). IsWholeFile u f.number) same-table sound-of.whole

  -- the store has its headers,
  pub held-of : named.held ≡ headers_of t f.number
  held-of =
      ap (λ (g : File). g.held) named-of
      ∙ seen-same (λ (g : File). g.held) (λ g. refl) f.number (file_in (home_of s) f.number disk.image)
      ∙ file-headers-are disk.image t f.number whole-of

  pub counted-of : length (headers_of (table (index_in s) disk) f.number) ≤ header_count named
  counted-of =
      let count = ap (λ (u : Table). length (headers_of u f.number)) same-table in
      let held = ap (λ (hs : List ℕ). length hs) held-of in
      omega (arith, count, held)

  -- and where requests reach it, its blocks
  pub length-of : 4 ≤ f.number → length_of named ≡ length (file_blocks (table (index_in s) disk) f.number)
  length-of own =
      ap length_of (named-of ∙ seen-own f.number (file_in (home_of s) f.number disk.image) own)
      ∙ ap (λ (bs : List (List ℕ)). length bs) (file-blocks-are disk.image t f.number whole-of) ∙ length-map (file_blocks t f.number) _
      ∙ ap (λ (u : Table). length (file_blocks u f.number)) (sym same-table)

  -- the causes against a block of it
  pub causes-of : 4 ≤ f.number → (vbn : ℕ)
      → first_of (length_causes (store_on s disk) f vbn) ≡ cond (ltb (length (file_blocks (table (index_in s) disk) f.number)) vbn)
      (Some EndOfFile) None
  causes-of own vbn =
      ap (λ (b : Bool). cond b (Some NoSuchFile) (cond (ltb (length_of named) vbn) (Some EndOfFile) None))
      (found-named s f disk for honest is).0
      ∙ ap (λ (n : ℕ). cond (ltb n vbn) (Some EndOfFile) None) (length-of own)

-- so of one whose first header is in hand
module _ (s : Structure) (f : FileId) (block : List ℕ) (disk : Disk) (for : IsStructureFor s disk)
    (holds : HoldsFile (index_in s) f block disk) (honest : IsTrue disk.honest) where
  is : IsFileOf f (index_in s) disk
  is = is-file s f block disk for holds honest

  pub sound-file : IsSoundFile (table (index_in s) disk) f.number (length disk.image)
  sound-file = sound-of s f disk for honest is

  pub whole : IsWholeFile (table_of disk.image (home_of s)) f.number
  whole = whole-of s f disk for honest is

  pub held-are : (file_named (store_on s disk) f).held ≡ headers_of (table_of disk.image (home_of s)) f.number
  held-are = held-of s f disk for honest is

  pub length-named : 4 ≤ f.number → length_of (file_named (store_on s disk) f) ≡ length (file_blocks (table (index_in s) disk) f.number)
  length-named = length-of s f disk for honest is

  pub length-first : 4 ≤ f.number → (vbn : ℕ)
      → first_of (length_causes (store_on s disk) f vbn) ≡ cond (ltb (length (file_blocks (table (index_in s) disk) f.number)) vbn)
      (Some EndOfFile) None
  length-first = causes-of s f disk for honest is

-- headers of it were read, no more than there are
pub reads-headers : (s : Structure) (f : FileId) (old new : Disk) (faults : ℕ) → IsStructureFor s old
    → (IsTrue old.honest → IsFileOf f (index_in s) old) → LooksAlongFile (index_in s) f.number 0 old new faults
    → ReadsAtMost (header_count (file_named (store_on s old) f)) old new faults
reads-headers s f old new faults for there looks = record {
  reads = looks.headers;
  looked = looks.looked;
  few = λ honest. let once = looks.each_once honest in let count = counted-of s f old for honest (there honest) in
      omega (arith, once, count);
}

pub reads-along : (s : Structure) (f : FileId) (block : List ℕ) (old new : Disk) (faults : ℕ) → IsStructureFor s old
    → HoldsFile (index_in s) f block old → LooksAlongFile (index_in s) f.number 0 old new faults
    → ReadsAtMost (header_count (file_named (store_on s old) f)) old new faults
reads-along s f block old new faults for holds = reads-headers s f old new faults for (is-file s f block old for holds)

-- a walk to a block of it failed
module _ (s : Structure) (f : FileId) (old new : Disk) (for : IsStructureFor s old)
    (is-there : IsTrue old.honest → IsFileOf f (index_in s) old) (own : 4 ≤ f.number) (vbn : ℕ) where
  abbrev Fails : Refusal → Type 0
  Fails refusal = FailsToRead false (length_causes (store_on s old) f vbn) (header_count (file_named (store_on s old) f)) refusal old new

  pub fails-end : FindsEnd (index_in s) f.number 0 vbn old new → Fails EndOfFile
  fails-end finds = record {
    right = right-cause _ _ _ (λ is. omega (arith, is)) (λ is. omega (arith, is)) refl
        (λ honest. causes-of s f old for honest (is-there honest) own vbn ∙ ap (λ (b : Bool). cond b (Some EndOfFile) None)
        (lt-ltb _ _ (finds.fewer honest)));
    reads = reads-headers s f old new 0 for is-there finds.looked;
  }

  pub fails-damaged : FindsDamage (index_in s) f.number old new → Fails Damaged
  fails-damaged finds = record {
    right = right-damaged _ _ (λ honest. finds.damaged honest (sound-of s f old for honest (is-there honest)));
    reads = reads-headers s f old new 0 for is-there finds.looked;
  }

  pub fails-fault : LooksAlongFile (index_in s) f.number 0 old new 1 → Fails DeviceFault
  fails-fault looks = record { right = right-fault _ _; reads = reads-headers s f old new 1 for is-there looks }

  pub fails-walk : (fault : ChainFault) → (fault ≡ chain.EndOfFile → FindsEnd (index_in s) f.number 0 vbn old new)
      → (fault ≡ chain.Damaged → FindsDamage (index_in s) f.number old new)
      → (fault ≡ chain.DeviceFault → LooksAlongFile (index_in s) f.number 0 old new 1) → Fails (refusal_for fault)
  fails-walk chain.EndOfFile end damaged failed = fails-end (end refl)
  fails-walk chain.Damaged end damaged failed = fails-damaged (damaged refl)
  fails-walk chain.DeviceFault end damaged failed = fails-fault (failed refl)

  -- it found the block
  pub finds-block : (lbn : ℕ) → 0 < vbn → Locates (index_in s) f.number vbn lbn old new → FindsBlock (home_of s) f vbn lbn old new
  finds-block lbn some locates = record {
    no_cause = λ honest.
        let within : vbn - 1 < length (file_blocks (table (index_in s) old) f.number) = slice_get_within _ _ lbn (locates.block_is honest)
        in
        causes-of s f old for honest (is-there honest) own vbn
        ∙ ap (λ (b : Bool). cond b (Some EndOfFile) None) (le-ltb _ _ (omega (arith, within, some)));
    named = λ honest. named-of s f old for honest (is-there honest) ∙ seen-own f.number (file_in (home_of s) f.number old.image) own;
    file = λ honest. file-of s f old for honest (is-there honest);
    block_is = λ honest. subst (λ (u : Table). block_by_vbn u f.number vbn ≡ Some lbn) (table-of s old for honest)
        (locates.block_is honest);
    within = locates.within;
    reads = reads-headers s f old new 0 for is-there locates.looked;
  }

-- what was read there is the file's block
pub block-read : (s : Structure) (f : FileId) (vbn lbn : ℕ) (block : List ℕ) (old now : Disk) → IsStructureFor s old
    → FindsBlock (home_of s) f vbn lbn old now → now.image ≡ old.image
    → slice_get now.image lbn ≡ Some block → IsTrue old.honest → slice_get (file_named (store_on s old) f).blocks (vbn - 1) ≡ Some block
block-read s f vbn lbn block old now for finds same at honest =
    let t : Table = table_of old.image (home_of s) in
    let here : slice_get old.image lbn ≡ Some block = ap (λ (i : Image). slice_get i lbn) (sym same) ∙ at in
    let whole = ((image-files old.image (home_of s) (for.sound honest)).each f.number (finds.file honest)).whole in
    ap (λ (g : File). slice_get g.blocks (vbn - 1)) (finds.named honest)
    ∙ ap (λ (bs : List (List ℕ)). slice_get bs (vbn - 1)) (file-blocks-are old.image t f.number whole)
    ∙ slice_get-map (block_or_zeros old.image) (file_blocks t f.number) (vbn - 1)
    ∙ ap (option_map (block_or_zeros old.image)) (finds.block_is honest)
    ∙ ap Some (get_or_from_slice_get old.image lbn block zero_block here)

-- a walk to its last header
module _ (s : Structure) (f : FileId) (block : List ℕ) (old new : Disk) (for : IsStructureFor s old)
    (holds : HoldsFile (index_in s) f block old) where
  pub fails-last : (fault : ChainFault) → ¬ (fault ≡ chain.EndOfFile) → (fault ≡ chain.Damaged → FindsBreak (index_in s) f.number 0 old new)
      → (fault ≡ chain.DeviceFault → LooksAlongFile (index_in s) f.number 0 old new 1)
      → FailsToRead false (file_causes (store_on s old) f) (header_count (file_named (store_on s old) f)) (refusal_for fault) old new
  fails-last chain.EndOfFile never damaged failed = absurd (never refl)
  fails-last chain.Damaged never damaged failed = record {
    right = right-damaged _ _ (λ honest. (damaged refl).broken honest (sound-file s f block old for holds honest).whole);
    reads = reads-along s f block old new 0 for holds (damaged refl).looked;
  }
  fails-last chain.DeviceFault never damaged failed =
      record { right = right-fault _ _; reads = reads-along s f block old new 1 for holds (failed refl) }

  pub counts-last : 4 ≤ f.number → (last : FileEnd) (after : List ℕ) → ReadsLast (index_in s) f.number 0 last after old new
      → CountsBlocks (home_of s) f last.blocks old new
  counts-last own last after goes = record {
    no_cause = λ honest. no-file-cause s f block old for holds honest;
    length_is = λ honest. goes.blocks_are honest ∙ sym (length-named s f block old for holds honest own);
    few = let headers = goes.few in let blocks = goes.few_blocks in omega (arith, headers, blocks);
    reads = reads-along s f block old new 0 for holds goes.looked;
  }
