-- The next version of a file's name among the names of a directory: one above the highest, and 1 where there is none (RSX-11M-PLUS MCR
-- Operations Manual, file specifications). A version is at most 77777 in octal (Files-11 On-Disk Structure Level 1, file names).
use Rattle.std.specs.Prelude.{◌≡◌, ◌⊎◌, ℕ, ◌+◌, ◌<◌, ◌≤◌, List, [], ◌∷◌, Contains}
use Rattle.f11_rad50.specs.Name.{version_of}
use Rattle.f11_patterns.specs.Meant.{word_at}

-- the name and the type of a name, with this version
abbrev pub with_version : List ℕ → ℕ → List ℕ
with_version name version = word_at name 0 ∷ word_at name 1 ∷ word_at name 2 ∷ word_at name 3 ∷ version ∷ []

-- the directory has this version of it
abbrev pub HasVersion : List (List ℕ) → List ℕ → ℕ → Type 0
HasVersion names name version = Contains names (with_version name version)

-- The next version of a name: it has the name and the type, it is above each version that the directory has, and it is 1, or the directory
-- has the version below it.
pub record IsNext (names : List (List ℕ)) (name next : List ℕ) : Type 0 where
  pub alike : next ≡ with_version name (version_of next)
  pub above : (version : ℕ) → HasVersion names name version → version < version_of next
  pub least : (below : ℕ) → version_of next ≡ below + 1 → (below ≡ 0) ⊎ HasVersion names name below

-- The highest version of a name that the directory has, and 0 where it has none.
pub record IsTop (names : List (List ℕ)) (name : List ℕ) (top : ℕ) : Type 0 where
  pub few : top < 32768
  pub above : (version : ℕ) → HasVersion names name version → version ≤ top
  pub there : (top ≡ 0) ⊎ HasVersion names name top

-- the directory has the last version that there is, 32,767
abbrev pub HasLast : List (List ℕ) → List ℕ → Type 0
HasLast names name = HasVersion names name 32767
