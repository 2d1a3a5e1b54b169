-- Facts about room for n free blocks in a row, sought a bitmap block at a time.
use Rattle.std.proofs.Common.{◌≡◌, inl, inr, ℕ, ◌+◌, ◌-◌, ◌*◌, ◌<◌, ◌≤◌, min, Bool, true, false, List, get_or, Some, sym, ap, subst, ◌∙◌}
use Rattle.std.proofs.Common.{arith}
use Rattle.std.specs.List.{slice_get}
use Rattle.std.proofs.lemmas.Bool.{cases_lt, both_ways}
use Rattle.f11_dev.specs.bytes.Bits.{bit}
use Rattle.f11_dev.specs.Image.{Image}
use Rattle.f11_bits.specs.Bitmap.{Bitmap, is_free, free_blocks}
use Rattle.f11_bits.specs.Room.{IsRoom, IsFirstRoom}
use Rattle.f11_bits.specs.Run.{IsFirstRunOf, NoRunOf}
use Rattle.f11_bits.proofs.CountLemmas.{count_below-run}
use Rattle.f11_bits.proofs.BitmapLemmas.{is_free-past, is_free-bit, bitmap_bit-at}

-- a place with a used block behind it is none
no-room : (free : ℕ → Bool) (n end k used : ℕ) → free used ≡ false → k ≤ used → used < k + n → used < end → ¬ IsRoom free n end k
no-room free n end k used is low high below room = both_ways (free used) is (room used low high below)

-- what is no room up to an end is none up to a later one
later-room : (free : ℕ → Bool) (n end more k : ℕ) → IsRoom free n (end + more) k → IsRoom free n end k
later-room free n end more k room j low high below = room j low high (omega (arith, below))

-- these are the free blocks that a bitmap block tells, from block `begin` on
abbrev pub AreBits : (ℕ → Bool) → ℕ → ℕ → List ℕ → Type 0
AreBits free begin end block = (k : ℕ) → k < end → free (begin + k) ≡ bit block k

-- the first room goes on, up to where it has n blocks or the bitmap block ends
pub first_room-on : (free : ℕ → Bool) (n begin start end rest : ℕ) (block : List ℕ) → AreBits free begin end block → start ≤ begin
    → rest ≡ min end (n - (begin - start))
    → ((k : ℕ) → 0 ≤ k → k < rest → bit block k ≡ true) → IsFirstRoom free n 0 begin start → IsFirstRoom free n 0 (begin + end) start
first_room-on free n begin start end rest block are above rest_is each room = record {
  above = room.above;
  within = omega (arith, above);
  room = λ j low high below. elim (cases_lt j begin) [
    | inl early ↦ room.room j low high early
    | inr late ↦
        let at : j ≡ begin + (j - begin) = omega (arith, late) in
        let here : j - begin < end = omega (arith, late, below) in
        ap free at ∙ are (j - begin) here ∙ each (j - begin) (omega arith) (omega (arith, late, high, here, rest_is, above))
  ];
  first = λ j low high further. room.first j low high (later-room free n begin end j further);
}

-- a used block is within its reach, and the first room behind that is the first
pub first_room-next : (free : ℕ → Bool) (n begin start end rest used at : ℕ) (block : List ℕ) → AreBits free begin end block → start ≤ begin
    → rest ≡ min end (n - (begin - start))
    → used < rest → bit block used ≡ false → IsFirstRoom (bit block) n (used + 1) end at → IsFirstRoom free n 0 begin start
    → IsFirstRoom free n 0 (begin + end) (begin + at)
first_room-next free n begin start end rest used at block are above rest_is near is found room = record {
  above = omega arith;
  within = omega (arith, found.within);
  room = λ j low high below.
      let place : j ≡ begin + (j - begin) = omega (arith, low) in
      let here : j - begin < end = omega (arith, low, below) in
      ap free place ∙ are (j - begin) here ∙ found.room (j - begin) (omega (arith, low)) (omega (arith, low, high)) here;
  first = λ j low high. elim (cases_lt j start) [
    | inl early ↦ λ further. room.first j low early (later-room free n begin end j further)
    | inr late ↦ elim (cases_lt (begin + used) j) [
      | inl past ↦ λ further. found.first (j - begin) (omega (arith, past)) (omega (arith, past, high)) (λ k up down inside.
          sym (are k inside) ∙ further (begin + k) (omega (arith, up, past)) (omega (arith, down, past)) (omega (arith, inside)))
      | inr behind ↦ no-room free n (begin + end) j (begin + used) (are used (omega (arith, near, rest_is)) ∙ is) behind
          (omega (arith, near, rest_is, late, above)) (omega (arith, near, rest_is))
    ]
  ];
}

-- the bits of a bitmap block tell which of its blocks are free
are-bits : (image : Image) (bitmap : Bitmap) (index end : ℕ) (block : List ℕ) → end ≡ min (bitmap.size - 4096 * index) 4096
    → slice_get image (get_or bitmap.places index 0) ≡ Some block
    → AreBits (is_free image bitmap) (index * 4096) end block
are-bits image bitmap index end block end_is stands k below =
    let at : index * 4096 + k ≡ 4096 * index + k = omega arith in
    ap (is_free image bitmap) at ∙ is_free-bit image bitmap (4096 * index + k) (omega (arith, below, end_is))
    ∙ bitmap_bit-at image bitmap index k block (omega (arith, below, end_is)) stands

-- the first room, one bitmap block further
pub first_room-more : (image : Image) (bitmap : Bitmap) (n index start end next : ℕ) (block : List ℕ) → 4096 * index < bitmap.size
    → end ≡ min (bitmap.size - 4096 * index) 4096
    → slice_get image (get_or bitmap.places index 0) ≡ Some block
    → ((free : ℕ → Bool) → AreBits free (index * 4096) end block → IsFirstRoom free n 0 (index * 4096) start
    → IsFirstRoom free n 0 (index * 4096 + end) next)
    → IsFirstRoom (is_free image bitmap) n 0 (min (4096 * index) bitmap.size) start
    → IsFirstRoom (is_free image bitmap) n 0 (min (4096 * (index + 1)) bitmap.size) next
first_room-more image bitmap n index start end next block inside end_is stands further room =
    let begin : min (4096 * index) bitmap.size ≡ index * 4096 = omega (arith, inside) in
    let stop : index * 4096 + end ≡ min (4096 * (index + 1)) bitmap.size = omega (arith, inside, end_is) in
    let free : ℕ → Bool = is_free image bitmap in
    subst (λ (e : ℕ). IsFirstRoom free n 0 e next) stop
    (further free (are-bits image bitmap index end block end_is stands) (subst (λ (e : ℕ). IsFirstRoom free n 0 e start) begin room))

-- room that has its n blocks is the first run of n
pub IsFirstRunOf-found : (free : ℕ → Bool) (n end start : ℕ) → start + n ≤ end → IsFirstRoom free n 0 end start → IsFirstRunOf free n start
IsFirstRunOf-found free n end start whole room = record {
  each = λ k low high. room.room k low high (omega (arith, high, whole));
  first = λ k high run. room.first k (omega arith) high (λ j low near below. run j low near);
}

-- where the first room is too near the volume's end there is no such run
pub NoRunOf-found : (image : Image) (bitmap : Bitmap) (n end start : ℕ) → 0 < n → bitmap.size < start + n
    → IsFirstRoom (is_free image bitmap) n 0 end start → NoRunOf (is_free image bitmap) n
NoRunOf-found image bitmap n end start some short room k run = elim (cases_lt k start) [
  | inl early ↦ room.first k (omega arith) early (λ j low near below. run j low near)
  | inr late ↦ both_ways (is_free image bitmap (k + n - 1)) (is_free-past image bitmap (k + n - 1) (omega (arith, late, short)))
      (run (k + n - 1) (omega (arith, some)) (omega (arith, some)))
]

-- nor where fewer blocks are free
pub NoRunOf-few : (image : Image) (bitmap : Bitmap) (n : ℕ) → free_blocks image bitmap < n → NoRunOf (is_free image bitmap) n
NoRunOf-few image bitmap n few k run = elim (cases_lt bitmap.size (k + n)) [
  | inl past ↦ both_ways (is_free image bitmap (k + n - 1)) (is_free-past image bitmap (k + n - 1) (omega (arith, past)))
      (run (k + n - 1) (omega (arith, few)) (omega (arith, few)))
  | inr within ↦ absurd (omega (arith, few, count_below-run (is_free image bitmap) k n bitmap.size within run))
]
