-- The fault of a frame is one, or none.
use Rattle.std.proofs.Common.{◌≡◌, inl, inr, ℕ, refl, subst, arith}
use Rattle.std.proofs.lemmas.Bool.{cases_lt}
use Rattle.f11_dev.specs.Image.{Image}
use Rattle.f11_chain.specs.home.Home.{HomeFields}
use Rattle.f11_chain.proofs.home.HomeLemmas.{home-unique, home-some}
use Rattle.f11_chain.specs.index.IndexFile.{Index, IsFirstPast}
use Rattle.f11_chain.specs.index.Table.{Table}
use Rattle.f11_volume.specs.Faults.{IsFramed, IsFirstNoFile, IsFaultBehindHome, index_misplaced, own_file_bad, bitmap_file_bad}
use Rattle.f11_volume.specs.Faults.{control_block_wrong, bit_past_slots, IsFrameFault, no_home, behind_home}
use Rattle.f11_volume.specs.Laws.{IsFramedBefore, FrameFaultIsFirst}
use Rattle.f11_volume.specs.Verdict.{IsFault, of_frame, of_volume}

-- there is none where the frame is as it should be
none-behind : {image : Image} {home : HomeFields} {code a : ℕ} → IsFramed image home → ¬ IsFaultBehindHome image home code a
none-behind framed (index_misplaced not) = not framed.indexed
none-behind framed (own_file_bad n indexed first) = first.no_file (framed.own_files n first.low first.high)
none-behind framed (bitmap_file_bad indexed files not) = not framed.bitmap
none-behind framed (control_block_wrong indexed files bitmap not) = not framed.control
none-behind framed (bit_past_slots n indexed files bitmap control first) = framed.none_past n first.past

pub frame-none : (image : Image) (home : HomeFields) (code a : ℕ) → IsFramed image home → ¬ IsFrameFault image code a
frame-none image home code a framed (no_home none) = home-some image home framed.home_is none
frame-none image home code a framed (behind_home other c b is fault) =
    none-behind framed (subst (λ (h : HomeFields). IsFaultBehindHome image h c b) (home-unique image other home is framed.home_is) fault)

-- the least is one
first-file : (t : Table) (n m : ℕ) → IsFirstNoFile t n → IsFirstNoFile t m → n ≡ m
first-file t n m one other = elim (cases_lt n m) [
  | inl below ↦ absurd (one.no_file (other.first n one.low below))
  | inr least ↦ elim (cases_lt m n)
      [ inl above ↦ absurd (other.no_file (one.first m other.low above)) | inr same ↦ omega (arith, least, same) ]
]

first-past : (index : Index) (n m : ℕ) → IsFirstPast index n → IsFirstPast index m → n ≡ m
first-past index n m one other = elim (cases_lt n m) [
  | inl below ↦ absurd (other.first n below one.past)
  | inr least ↦ elim (cases_lt m n) [ inl above ↦ absurd (one.first m above other.past) | inr same ↦ omega (arith, least, same) ]
]

-- of two faults behind the home block each comes before the other
one-behind : {image : Image} {home : HomeFields} {code a other b : ℕ} → IsFaultBehindHome image home code a
    → IsFaultBehindHome image home other b → (code ≡ other) × (a ≡ b)
one-behind (index_misplaced x) (index_misplaced y) = (refl, refl)
one-behind (index_misplaced x) (own_file_bad yn yi yf) = absurd (x yi)
one-behind (index_misplaced x) (bitmap_file_bad yi yo y) = absurd (x yi)
one-behind (index_misplaced x) (control_block_wrong yi yo yb y) = absurd (x yi)
one-behind (index_misplaced x) (bit_past_slots yn yi yo yb yc yf) = absurd (x yi)
one-behind (own_file_bad xn xi xf) (index_misplaced y) = absurd (y xi)
one-behind (own_file_bad xn xi xf) (own_file_bad yn yi yf) = (refl, first-file _ xn yn xf yf)
one-behind (own_file_bad xn xi xf) (bitmap_file_bad yi yo y) = absurd (xf.no_file (yo xn xf.low xf.high))
one-behind (own_file_bad xn xi xf) (control_block_wrong yi yo yb y) = absurd (xf.no_file (yo xn xf.low xf.high))
one-behind (own_file_bad xn xi xf) (bit_past_slots yn yi yo yb yc yf) = absurd (xf.no_file (yo xn xf.low xf.high))
one-behind (bitmap_file_bad xi xo x) (index_misplaced y) = absurd (y xi)
one-behind (bitmap_file_bad xi xo x) (own_file_bad yn yi yf) = absurd (yf.no_file (xo yn yf.low yf.high))
one-behind (bitmap_file_bad xi xo x) (bitmap_file_bad yi yo y) = (refl, refl)
one-behind (bitmap_file_bad xi xo x) (control_block_wrong yi yo yb y) = absurd (x yb)
one-behind (bitmap_file_bad xi xo x) (bit_past_slots yn yi yo yb yc yf) = absurd (x yb)
one-behind (control_block_wrong xi xo xb x) (index_misplaced y) = absurd (y xi)
one-behind (control_block_wrong xi xo xb x) (own_file_bad yn yi yf) = absurd (yf.no_file (xo yn yf.low yf.high))
one-behind (control_block_wrong xi xo xb x) (bitmap_file_bad yi yo y) = absurd (y xb)
one-behind (control_block_wrong xi xo xb x) (control_block_wrong yi yo yb y) = (refl, refl)
one-behind (control_block_wrong xi xo xb x) (bit_past_slots yn yi yo yb yc yf) = absurd (x yc)
one-behind (bit_past_slots xn xi xo xb xc xf) (index_misplaced y) = absurd (y xi)
one-behind (bit_past_slots xn xi xo xb xc xf) (own_file_bad yn yi yf) = absurd (yf.no_file (xo yn yf.low yf.high))
one-behind (bit_past_slots xn xi xo xb xc xf) (bitmap_file_bad yi yo y) = absurd (y xb)
one-behind (bit_past_slots xn xi xo xb xc xf) (control_block_wrong yi yo yb y) = absurd (y xc)
one-behind (bit_past_slots xn xi xo xb xc xf) (bit_past_slots yn yi yo yb yc yf) = (refl, first-past _ xn yn xf yf)

frame-one : (image : Image) {code a other b : ℕ} → IsFrameFault image code a → IsFrameFault image other b → (code ≡ other) × (a ≡ b)
frame-one image (no_home none) (no_home nil) = (refl, refl)
frame-one image (no_home none) (behind_home home c b is fault) = absurd (home-some image home is none)
frame-one image (behind_home home c b is fault) (no_home none) = absurd (home-some image home is none)
frame-one image (behind_home home c b is fault) (behind_home other d e also second) =
    one-behind fault (subst (λ (h : HomeFields). IsFaultBehindHome image h d e) (home-unique image other home also is) second)

pub frame-only : (image : Image) (code a other b c : ℕ) → IsFrameFault image code a → IsFault image other b c
    → (code ≡ other) × (a ≡ b) × (c ≡ 0)
frame-only image code a other b c fault (of_frame d e second) = let one = frame-one image fault second in (one.0, one.1, refl)
frame-only image code a other b c fault (of_volume home d e f framed second) = absurd (frame-none image home code a framed fault)

-- what comes before it is as it should be
first-behind : {image : Image} {home : HomeFields} {code a : ℕ} → IsFaultBehindHome image home code a → IsFramedBefore image home code
first-behind (index_misplaced x) =
    record {
      indexed = λ h. absurd (omega (arith, h));
      own_files = λ h. absurd (omega (arith, h));
      bitmap = λ h. absurd (omega (arith, h));
      control = λ h. absurd (omega (arith, h));
    }
first-behind (own_file_bad n i f) =
    record {
      indexed = λ h. i;
      own_files = λ h. absurd (omega (arith, h));
      bitmap = λ h. absurd (omega (arith, h));
      control = λ h.
          absurd (omega (arith, h));
    }
first-behind (bitmap_file_bad i o x) =
    record { indexed = λ h. i; own_files = λ h. o; bitmap = λ h. absurd (omega (arith, h)); control = λ h. absurd (omega (arith, h)) }
first-behind (control_block_wrong i o b x) =
    record { indexed = λ h. i; own_files = λ h. o; bitmap = λ h. b; control = λ h. absurd (omega (arith, h)) }
first-behind (bit_past_slots n i o b c f) = record { indexed = λ h. i; own_files = λ h. o; bitmap = λ h. b; control = λ h. c }

pub frame-first : FrameFaultIsFirst
frame-first image home code a is (no_home none) = absurd (home-some image home is none)
frame-first image home code a is (behind_home other c b also fault) =
    subst (λ (h : HomeFields). IsFramedBefore image h c) (home-unique image other home also is) (first-behind fault)
