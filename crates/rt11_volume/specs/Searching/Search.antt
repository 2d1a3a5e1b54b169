-- The first entry of a directory that passes a test (RT-11 Volume and File Formats Manual, "Directory Structure").
use Rattle.std.specs.Prelude.{◌≡◌, ℕ, ◌<◌, ◌&&◌, Bool, true, false, nat_le, List, Some, All}
use Rattle.std.specs.List.{slice_get}
use Rattle.rt11_volume.specs.Entry.{area_length, is_empty}
use Rattle.rt11_volume.specs.Segment.{Segment}

-- Entry i of the segment at this place of the link order passes, and none before it.
pub record IsFirst (test : List ℕ → Bool) (segments : List Segment) (place i : ℕ) (segment : Segment) (entry : List ℕ) : Type 0 where
  pub segment_is : slice_get segments place ≡ Some segment
  pub entry_is : slice_get segment.entries i ≡ Some entry
  pub passes : test entry ≡ true
  pub none_before : (j : ℕ) (e : List ℕ) → j < i → slice_get segment.entries j ≡ Some e → test e ≡ false
  pub none_earlier : (l : ℕ) (s : Segment) → l < place → slice_get segments l ≡ Some s → All (λ e. test e ≡ false) s.entries

-- no entry passes
abbrev pub HasNone : (List ℕ → Bool) → List Segment → Type 0
HasNone test segments = All (λ s. All (λ e. test e ≡ false) s.entries) segments

-- an entry is that of an empty area of at least so many blocks
abbrev pub is_empty_for : ℕ → List ℕ → Bool
is_empty_for blocks e = is_empty e && nat_le blocks (area_length e)
