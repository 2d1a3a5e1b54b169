-- What work in several steps leaves: exact progress by the steps that are done, and then what lags by the next (profile).
use Rattle.std.specs.Prelude.{◌≡◌, ℕ, ◌+◌, ◌≤◌, ◌==◌, ◌⊎◌, false, List, [], ◌∷◌, ◌++◌, Some}
use Rattle.f11_store.specs.declared.files.FileId.{FileId}
use Rattle.f11_store.specs.File.{File}
use Rattle.f11_store.specs.Store.{Store, free_headers}
use Rattle.f11_store.specs.Changes.{next_sequence, with_change, Lengthens}
use Rattle.f11_store.specs.Lags.{Part, file_changes, file_appears, file_goes, slot_appears, with_parts, Work, one_part}
use Rattle.f11_store.specs.Lags.{and_then, last_of, lengthen_work, IsLike, AreLike, SameLimits, LagsBy}

-- a change that makes files alike of files that are alike
abbrev pub Respects : (File → File) → Type 0
Respects change = (f g : File) → IsLike f g → IsLike (change f) (change g)

-- a part that does
abbrev pub IsRespectful : Part → Type 0
IsRespectful (file_changes k change) = Respects change
IsRespectful (file_appears k f) = Unit {0}
IsRespectful (file_goes k) = Unit {0}
IsRespectful slot_appears = Unit {0}

-- parts that do
abbrev pub AreRespectful : List Part → Type 0
AreRespectful [] = Unit {0}
AreRespectful (p ∷ ps) = IsRespectful p × AreRespectful ps

-- u is s with the work done, all of it, and no more taken than it may
pub record Did (work : Work) (u s : Store) : Type 0 where
  pub files : (n : ℕ) → AreLike (u.file n) ((with_parts s work.parts).file n)
  pub slots : u.slots ≡ (with_parts s work.parts).slots
  pub no_fewer : s.slots ≤ u.slots
  pub others : (n : ℕ) → work.is_meant n ≡ false → u.file n ≡ s.file n
  pub free_blocks : s.free ≤ u.free + work.blocks
  pub headers : free_headers s ≤ free_headers u + work.headers
  pub last : (n : ℕ) → n ≤ u.slots → (u.last n ≡ last_of s n) ⊎ (u.last n ≡ next_sequence (last_of s n))
  pub no_header : work.headers ≡ 0 → (n : ℕ) → n ≤ u.slots → u.last n ≡ last_of s n
  pub limits : SameLimits s u

-- what lags by work lags by more work
abbrev pub MoreWorkLags : Type 0
MoreWorkLags =
    (t s : Store) (w v : Work) (rest : List Part) → v.parts ≡ w.parts ++ rest → ((n : ℕ) → v.is_meant n ≡ false → w.is_meant n ≡ false) →
    w.blocks ≤ v.blocks → w.headers ≤ v.headers → LagsBy w t s → LagsBy v t s

-- two changes that do the same to a file are lagged by the same
abbrev pub SameChangeLags : Type 0
SameChangeLags =
    (t s : Store) (k : ℕ) (f : File) (c e : File → File) → s.file k ≡ Some f → c f ≡ e f →
    LagsBy (one_part k (file_changes k c)) t s → LagsBy (one_part k (file_changes k e)) t s

-- all of the work done is a lag
abbrev pub DidLags : Type 0
DidLags = (work : Work) (u s : Store) → Did work u s → LagsBy work u s

-- where work was done, what lags by more that takes no header lags by both
abbrev pub LagsAfter : Type 0
LagsAfter =
    (w v : Work) (t u s : Store) → Did w u s → v.headers ≡ 0 → AreRespectful v.parts → LagsBy v t u → LagsBy (and_then w v) t s

-- where work was done, and then more that takes no header, both were done
abbrev pub DidBoth : Type 0
DidBoth = (w v : Work) (t u s : Store) → Did w u s → v.headers ≡ 0 → AreRespectful v.parts → Did v t u → Did (and_then w v) t s

-- Extend does its work
abbrev pub LengthensDid : Type 0
LengthensDid = (u s : Store) (f : FileId) (n : ℕ) → (f.number == 1) ≡ false → Lengthens s f n u → Did (lengthen_work s f n) u s

-- a change of a file does its work
abbrev pub ChangeDid : Type 0
ChangeDid = (s : Store) (k : ℕ) (change : File → File) → Did (one_part k (file_changes k change)) (with_change s k change) s
