-- What each scan over slots or blocks finds, by what is kept of them.
use Rattle.std.specs.Prelude.{◌≡◌, ◌≢◌, ◌<◌, ◌≤◌, ◌+◌, ◌*◌, ◌&&◌, ℕ, List, min, zero, suc, Bool, true, false, not, nat_lt, if◌then◌else◌}
use Rattle.std.specs.Int.{bit_at}
use Rattle.f11_findings.specs.Finding.{finding}
use Rattle.f11_findings.specs.declared.finding.Finding.{Finding}
use Rattle.f11_vfy.specs.Surveying.Bits.{has, limit_of}
use Rattle.f11_findings.specs.Found.{Finds, FoundAmong}
use Rattle.f11_vfy.specs.declared.survey.bits.Bits.{Bits}
use Rattle.f11_vfy.specs.declared.findings.scans.Kind.{Kind}
use Rattle.f11_vfy.specs.declared.findings.scans.Kind.TheVariants.{
  BadHeader,
  WrongLink,
  LinkPastLast,
  LinkToVolume,
  DeadHeader,
  Orphan,
  Marked,
  NotClosed,
}
use Rattle.f11_vfy.specs.declared.survey.slot.Slot.{Slot}
use Rattle.f11_vfy.specs.declared.survey.slot.State.TheVariants.{Bad, Dead, Live}

-- the code of each kind, of a fault or of a note
abbrev pub code_of : Kind → ℕ
code_of BadHeader = 7
code_of WrongLink = 11
code_of LinkPastLast = 13
code_of LinkToVolume = 14
code_of DeadHeader = 2
code_of Orphan = 3
code_of Marked = 4
code_of NotClosed = 5

-- a header of a file, and it has a link
abbrev pub IsLinkedSlot : Slot → Bool → Type 0
IsLinkedSlot s in_file = (in_file ≡ true) × (s.link.number ≢ 0)

-- a file's first header
abbrev pub IsFileSlot : Slot → Type 0
IsFileSlot s = (s.state ≡ Live) × (s.segment ≡ 0)

-- what each kind says of a slot, of whether its header is one of a file, and of the number of its next one, 0 for none
abbrev pub Holds : Kind → Slot → Bool → ℕ → Type 0
Holds BadHeader s in_file next = s.state ≡ Bad
Holds WrongLink s in_file next = IsLinkedSlot s in_file × ((s.segment < 255) × (next ≡ 0))
Holds LinkPastLast s in_file next = IsLinkedSlot s in_file × (255 ≤ s.segment)
Holds LinkToVolume s in_file next = IsLinkedSlot s in_file × (s.link.volume ≢ 0)
Holds DeadHeader s in_file next = s.state ≡ Dead
Holds Orphan s in_file next = (s.state ≡ Live) × ((0 < s.segment) × (in_file ≡ false))
Holds Marked s in_file next = IsFileSlot s × (bit_at s.characteristics 15 ≡ 1)
Holds NotClosed s in_file next = IsFileSlot s × (bit_at s.characteristics 6 ≡ 1)

-- block k of the volume is neither free nor named
unfoldable pub is_lost : Bits → Bits → ℕ → Bool
is_lost named free k = nat_lt k (limit_of free) && (not (has named k) && not (has free k))

-- and the block behind it isn't lost
abbrev pub ends_lost : Bits → Bits → ℕ → Bool
ends_lost named free k = is_lost named free k && not (is_lost named free (k + 1))

-- where the numbers up to k for which the test holds without a gap begin: behind the last before k for which it fails
unfoldable pub start_of : (ℕ → Bool) → ℕ → ℕ
start_of test zero = 0
start_of test (suc k) = if test k then start_of test k else suc k

-- The runs of lost blocks that end in word i were found, and one that goes on behind it begins there.
pub record FindsLost (named free : Bits) (i next : ℕ) (old new : List Finding) : Type 0 where
  pub next_is : next ≡ start_of (is_lost named free) (min (64 * (i + 1)) (limit_of free))
  pub found : Finds (FoundAmong (λ k. (64 * i ≤ k) × (ends_lost named free k ≡ true))
      (λ k. finding 1 (start_of (is_lost named free) k) k) (min (64 * (i + 1)) (limit_of free))) old new
