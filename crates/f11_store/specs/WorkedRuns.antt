-- Worked examples of files that are laid out in one run, on a small volume.
use Rattle.std.specs.Prelude.{◌≡◌, ℕ, ◌&&◌, nat_lt, true, false, [], ◌∷◌, Some, None, replicate}
use Rattle.f11_store.specs.Causes.{contiguous_causes, first_of}
use Rattle.f11_store.specs.Changes.{laid_file, with_laid_file}
use Rattle.f11_store.specs.Cost.{contiguous_cost}
use Rattle.f11_store.specs.declared.refusals.Refusal.TheVariants.{NotEmpty, TooManySegments, DeviceFull, NoHeader}
use Rattle.f11_store.specs.File.{File, run_need, run_pointers, with_contiguous, zero_block}
use Rattle.f11_store.specs.Lags.{contiguous_work, LagsBy}
use Rattle.f11_store.specs.Store.{Store}
use Rattle.f11_store.specs.Worked.{crowded_volume, mfd, directory_attr, own_file, small_volume}
use Rattle.f11_store.specs.WorkedLags.{a_file, files_with, volume_with_a, with_other_changed}

-- 256 blocks are in one pointer and 300 in two; 26112 fill the places of a header, and one more takes a header
pub record RunPointers : Type 0 where
  pub one : run_pointers 256 ≡ 1
  pub two : run_pointers 300 ≡ 2
  pub filled : run_need 102 26112 ≡ 0
  pub header : run_need 102 26113 ≡ 1
  pub full : run_need 0 256 ≡ 1
  pub headers : run_need 0 26113 ≡ 2

-- the mark is octal 200 of the characteristics, beside what else they say
pub record RunMark : Type 0 where
  pub set : with_contiguous 0 ≡ 128
  pub beside : with_contiguous 32768 ≡ 32896
  pub again : with_contiguous 128 ≡ 128

-- a file A.TXT;1 whose headers have no place left, and one with as many headers as may be
abbrev pub full_file : File
full_file = record a_file { room = 0 }

abbrev pub long_file : File
long_file = record full_file { held = replicate 256 6 }

-- What stands against n blocks in one run, in this order: a block that the file has, 256 headers, the free blocks, the free headers.
pub record RunCauses : Type 0 where
  pub block : first_of (contiguous_causes small_volume (own_file 4 mfd (directory_attr 5) 1 (zero_block ∷ [])) 379) ≡ Some NotEmpty
  pub segments : first_of (contiguous_causes small_volume long_file 379) ≡ Some TooManySegments
  pub full : first_of (contiguous_causes crowded_volume full_file 175) ≡ Some DeviceFull
  pub header : first_of (contiguous_causes crowded_volume full_file 174) ≡ Some NoHeader
  pub none : first_of (contiguous_causes crowded_volume a_file 174) ≡ None
  pub long : first_of (contiguous_causes small_volume (record long_file { room = 2 }) 378) ≡ None

-- transfers: 300 blocks in the places of a header, and one block in a new header
pub record RunCosts : Type 0 where
  pub places : contiguous_cost small_volume a_file 300 ≡ 313
  pub header : contiguous_cost small_volume full_file 1 ≡ 23

-- A.TXT;1 with a block in a new header, which takes the least free slot
pub record RunInHeader : Type 0 where
  pub file : laid_file volume_with_a full_file 1 ≡ record full_file {
    characteristics = 128;
    held = 6 ∷ 7 ∷ [];
    pointers = 1;
    room = 101;
    blocks = zero_block ∷ [];
  }
  pub used : (with_laid_file volume_with_a 6 full_file 1).in_use 7 ≡ true
  pub other : (with_laid_file volume_with_a 6 full_file 1).in_use 8 ≡ false
  pub given : (with_laid_file volume_with_a 6 full_file 1).last 7 ≡ 1
  pub free : (with_laid_file volume_with_a 6 full_file 1).free ≡ 377

-- the store with A.TXT;1 as this one
abbrev pub with_a_as : File → Store
with_a_as f = record volume_with_a { file = files_with 6 (Some f) volume_with_a.file }

-- t is none of what laying A.TXT;1 out in one run of n blocks may leave
abbrev pub IsNoRunLag : Store → ℕ → Type 0
IsNoRunLag t n = LagsBy (contiguous_work 6 102 n) t volume_with_a → ⊥

-- The mark comes behind all blocks; no block and no header more is taken than the run needs; no other file changes.
pub record RunMarksLast : Type 0 where
  pub first : IsNoRunLag (with_a_as (record a_file { characteristics = 128 })) 2
  pub midst : IsNoRunLag (with_a_as (record a_file { characteristics = 128; pointers = 1; room = 101; blocks = zero_block ∷ [] })) 2
  pub blocks : IsNoRunLag (record volume_with_a { free = 375 }) 2
  pub header : IsNoRunLag (record volume_with_a { in_use = λ n. nat_lt 0 n && nat_lt n 8 }) 2
  pub others : IsNoRunLag (with_other_changed volume_with_a) 2
