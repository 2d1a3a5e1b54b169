-- What truncating a file does.
use Rattle.std.specs.Prelude.{◌≡◌, ◌⊎◌, ℕ, ◌+◌, ◌-◌, ◌<◌, ◌≤◌, Bool, IsTrue, List, length, take, None}
use Rattle.f11_bytes.specs.Words.{word_sum}
use Rattle.f11_dev.specs.Disk.{Disk}
use Rattle.f11_dev.specs.Looked.{Looked}
use Rattle.f11_header.specs.Fields.{file_number, file_sequence, check_word}
use Rattle.f11_header.specs.Header.{holds_header}
use Rattle.f11_home.specs.Home.{HomeFields}
use Rattle.f11_map.specs.HeaderBlock.{segment_number, link_of, blocks_named}
use Rattle.f11_index.specs.IndexFile.{Index}
use Rattle.f11_index.specs.Table.{table_of, IsHeaderOf}
use Rattle.f11_chain.specs.Calls.{HoldsHeader}
use Rattle.f11_chain.specs.FileHeaders.{blocks_before}
use Rattle.f11_store.specs.Causes.{first_of}
use Rattle.f11_store.specs.Changes.{with_first_blocks, Truncates}
use Rattle.f11_store.specs.Cost.{cut_cost}
use Rattle.f11_store.specs.Lags.{Work, one_part, file_changes}
use Rattle.f11_store.specs.Store.{file_named, no_id}
use Rattle.f11_store.specs.declared.files.FileId.{FileId}
use Rattle.f11_store.specs.declared.refusals.Refusal.{Refusal}
use Rattle.f11_writes.specs.Kept.{file_in}
use Rattle.f11_image_store.specs.Allocation.{LosesBlocks}
use Rattle.f11_files.specs.Answers.{Does, FailsToWrite}
use Rattle.f11_image_store.specs.FileLaws.{SaysAlike, pointers_in}
use Rattle.f11_files.specs.Operations.{length_causes}
use Rattle.f11_image_store.specs.StoreOf.{store_of}

-- Header n of a file is in hand, the one that names the last of its first blocks, so many, of which it names this many itself; or the
-- first one, where none stays. The headers up to it were read.
pub record FindsLastKept (home : HomeFields) (index : Index) (f : FileId) (to n keep : ℕ) (block : List ℕ) (old new : Disk) : Type 0 where
  pub no_cause : IsTrue old.honest → first_of (length_causes (store_of old.image home) f to) ≡ None
  pub named : IsTrue old.honest → file_named (store_of old.image home) f ≡ file_in home f.number old.image
  pub header : HoldsHeader index n block old
  pub of_file : IsTrue old.honest → IsHeaderOf (table_of old.image home) f.number n
  pub to_is : IsTrue old.honest → to ≡ blocks_before (table_of old.image home) f.number n + keep
  pub within : keep ≤ length (blocks_named block)
  pub needed : (segment_number block ≡ 0) ⊎ (0 < keep)
  pub looked : Looked old new (segment_number block + 1) 0

-- A header was written with the first of its blocks, so many, and no link: sealed, and all else that it says is as it was.
pub record CutsOff (keep : ℕ) (old new : List ℕ) : Type 0 where
  pub holds : IsTrue (holds_header new)
  pub sum : check_word new ≡ word_sum new 255
  pub number : file_number new ≡ file_number old
  pub sequence : file_sequence new ≡ file_sequence old
  pub segment : segment_number new ≡ segment_number old
  pub alike : SaysAlike old new
  pub no_link : link_of new ≡ no_id
  pub blocks : blocks_named new ≡ take keep (blocks_named old)
  pub fewer : pointers_in new ≤ pointers_in old

-- the work of cutting a file
abbrev pub cut_work : FileId → ℕ → Work
cut_work f to = one_part f.number (file_changes f.number (with_first_blocks to))

-- A file was cut to so many of its first blocks: the others are free, and so are the slots of the headers behind the last that stays.
abbrev pub Cuts : HomeFields → FileId → ℕ → Disk → Disk → Type 0
Cuts home f to old new =
    let s = store_of old.image home in
    Does (length_causes s f to) (cut_work f to) (cut_cost (file_named s f) - 1) (Truncates s f.number to)
    (LosesBlocks f.number to) home old new

-- It was not, or not all of it.
abbrev pub FailsToCut : Bool → HomeFields → FileId → ℕ → Refusal → Disk → Disk → Type 0
FailsToCut failed home f to refusal old new =
    let s = store_of old.image home in
    FailsToWrite failed (length_causes s f to) (cut_cost (file_named s f) - 1) (cut_work f to) home refusal old new
