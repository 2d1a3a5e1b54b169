-- Headers that hang behind one in hand.
use Rattle.std.proofs.Common.{◌≡◌, ◌≢◌, ◌+◌, ◌-◌, ◌<◌, ◌≤◌, ℕ, zero, suc, List, [], ◌∷◌, ◌++◌, inl, inr, refl, sym, ap, subst, ◌∙◌, arith}
use Rattle.std.specs.List.{sum_by}
use Rattle.std.proofs.lemmas.Bool.{cases_eq, cases_lt}
use Rattle.std.proofs.lemmas.List.Sums.{sum_by-cons}
use Rattle.f11_dev.specs.Image.{Image}
use Rattle.f11_header.specs.Fields.{file_sequence}
use Rattle.f11_header.specs.Header.{IsHeader}
use Rattle.f11_home.specs.Home.{HomeFields}
use Rattle.f11_map.specs.HeaderBlock.{segment_number, link_of, blocks_named}
use Rattle.f11_index.specs.Headers.{headers_from, IsInFile, IsChained, HasByteSegments}
use Rattle.f11_index.specs.Table.{Table, table_of, IsLive, IsNext, IsHeaderOf, first, next, IsWholeFile}
use Rattle.f11_index.proofs.HeadersLemmas.{link_number, live-some, headers_from-some, headers_from-none}
use Rattle.f11_chain.specs.FileHeaders.{blocks_by}
use Rattle.f11_volume.specs.Contents.{pointer_count}
use Rattle.f11_volume.specs.Sound.{HasSoundVolume}
use Rattle.f11_writes.specs.OtherSlots.{KeepsOtherSlots}
use Rattle.f11_writes.proofs.OtherSlotLemmas.{next-was, header-was}
use Rattle.f11_files.specs.Removing.Drops.{headers_behind, HangsBehind}
use Rattle.f11_image_store.specs.FileLaws.{pointers_in}

-- no header of a file links to header n
abbrev pub IsUnlinked : Table → ℕ → Type 0
IsUnlinked t n = (m : ℕ) → IsInFile t m → ¬ IsNext t m n

-- none hangs behind a header without a link
pub behind-none : (t : Table) (before : List ℕ) → (link_of before).number ≡ 0 → headers_behind t before ≡ []
behind-none t before none = ap (headers_from (255 - segment_number before) t) none ∙ headers_from-none (255 - segment_number before) t

-- the next one, and those behind it
pub behind-some : (t : Table) (before : List ℕ) (n : ℕ) → (link_of before).number ≡ n → 0 < n → segment_number before < 255
    → segment_number (t.header n) ≡ segment_number before + 1
    → headers_behind t before ≡ n ∷ headers_behind t (t.header n)
behind-some t before n to some early segment =
    let fuel : 255 - segment_number before ≡ suc (255 - segment_number (t.header n)) = omega (arith, early, segment) in
    ap (λ (most : ℕ). headers_from most t (link_of before).number) fuel ∙ ap (headers_from (suc (255 - segment_number (t.header n))) t) to
    ∙ headers_from-some (255 - segment_number (t.header n)) t n some

-- what hangs behind a header is the list along the links
pub hangs-are : (t : Table) (before ns : List ℕ) → HasByteSegments t → HangsBehind t before ns → headers_behind t before ≡ ns
hangs-are t before [] bytes none = behind-none t before none
hangs-are t before (n ∷ ns) bytes (goes, unlinked, rest) =
    let byte = bytes n in
    behind-some t before n goes.number (live-some goes.to) (omega (arith, byte, goes.segment)) goes.segment
    ∙ ap (λ (ms : List ℕ). n ∷ ms) (hangs-are t (t.header n) ns bytes rest)

-- a header that no header of a file links to, and that isn't a first one, is one of no file
pub unlinked-none : (t : Table) (n : ℕ) → IsUnlinked t n → 0 < segment_number (t.header n) → ¬ IsInFile t n
unlinked-none t n unlinked some in_file = go in_file.of
  where
    go : {f : ℕ} → IsHeaderOf t f n → ⊥
    go (first file) = omega (arith, some, file.first)
    go {f} (next {n = m} of goes) = unlinked m (record { file = f; of = of }) goes

-- Slot n was written, and no live header of a later segment is header n.
module _ (t u : Table) (n low : ℕ) (others : KeepsOtherSlots n t u)
    (apart : (m : ℕ) → IsLive t m → low < segment_number (t.header m) → m ≢ n) where
  -- where it isn't live then, those that hang behind a header do so still
  pub hangs-kept : ¬ IsLive u n → (before ns : List ℕ) → low ≤ segment_number before → HangsBehind t before ns → HangsBehind u before ns
  hangs-kept gone before [] early none = none
  hangs-kept gone before (m ∷ ms) early (goes, unlinked, rest) =
      let away = apart m goes.to (omega (arith, goes.segment, early)) in
      let same = others.header m away goes.to.in_use in (
        record {
          to = record {
            in_use = others.in_use m away ∙ goes.to.in_use;
            valid = subst (λ (b : List ℕ). IsHeader b m) (sym same) goes.to.valid;
          };
          number = goes.number;
          sequence = goes.sequence ∙ ap file_sequence (sym same);
          segment = ap segment_number same ∙ goes.segment;
        },
        λ a in_file links.
            unlinked a (record { file = in_file.file; of = header-was t u n others in_file.file gone in_file.of })
            (next-was t u n others a m (λ is. gone (subst (IsLive u) is links.from)) away links),
        subst (λ (b : List ℕ). HangsBehind u b ms) (sym same) (hangs-kept gone (t.header m) ms (omega (arith, goes.segment, early)) rest),
      )

  -- their blocks and pointers are as they were
  pub hangs-blocks : (before ns : List ℕ) → low ≤ segment_number before → HangsBehind t before ns → blocks_by u ns ≡ blocks_by t ns
  hangs-blocks before [] early none = refl
  hangs-blocks before (m ∷ ms) early (goes, unlinked, rest) =
      let same = others.header m (apart m goes.to (omega (arith, goes.segment, early))) goes.to.in_use in
      ap (λ (b : List ℕ). blocks_named b ++ blocks_by u ms) same
      ∙ ap (λ (bs : List ℕ). blocks_named (t.header m) ++ bs) (hangs-blocks (t.header m) ms (omega (arith, goes.segment, early)) rest)

  pub hangs-pointers : (before ns : List ℕ) → low ≤ segment_number before → HangsBehind t before ns
      → sum_by (pointer_count u) ns ≡ sum_by (pointer_count t) ns
  hangs-pointers before [] early none = refl
  hangs-pointers before (m ∷ ms) early (goes, unlinked, rest) =
      let same = others.header m (apart m goes.to (omega (arith, goes.segment, early))) goes.to.in_use in
      let count = hangs-pointers (t.header m) ms (omega (arith, goes.segment, early)) rest in
      sum_by-cons (pointer_count u) m ms ∙ ap (λ (k : ℕ). k + sum_by (pointer_count u) ms) (ap pointers_in same)
      ∙ ap (λ (k : ℕ). pointer_count t m + k) count
      ∙ sym (sum_by-cons (pointer_count t) m ms)

-- a header of a sound volume that isn't a first one is none of the volume's own
pub late-header : (image : Image) (home : HomeFields) (n : ℕ) → HasSoundVolume image home → IsLive (table_of image home) n
    → 0 < segment_number ((table_of image home).header n) → 5 ≤ n
late-header image home n sound live some = elim (cases_lt 4 n) [
  | inl late ↦ omega (arith, late)
  | inr low ↦ elim (cases_eq n 1) [
    | inl one ↦
        let first_one = sound.framed.indexed.file.whole.file.first in
        let here = ap (λ (k : ℕ). segment_number ((table_of image home).header k)) one in
        absurd (omega (arith, some, first_one, here))
    | inr other ↦
        let own = (sound.framed.own_files n (let number = live-some live in omega (arith, number, other)) low).file.first in
        absurd (omega (arith, some, own))
  ]
]

-- Header n of a file was written, so that it links to none, or isn't live: those behind it hang there, and are of no file.
module _ (t u : Table) (f n : ℕ) (others : KeepsOtherSlots n t u) (chained : IsChained t) (bytes : HasByteSegments t)
    (whole : IsWholeFile t f) (of_file : IsHeaderOf t f n)
    (was : (m : ℕ) → m ≢ n → IsInFile u m → IsInFile t m) (ends : (m : ℕ) → ¬ IsNext u n m) where
  behind : (m p : ℕ) → IsNext t p m → segment_number (t.header n) ≤ segment_number (t.header p) → m ≢ n
  behind m p goes early same = let there = ap (λ (k : ℕ). segment_number (t.header k)) same in omega (arith, goes.segment, early, there)

  -- the next of a header that is of no file, or of the one that was written
  unlinked-next : (p : ℕ) → IsHeaderOf t f p → segment_number (t.header n) ≤ segment_number (t.header p) → (p ≢ n → ¬ IsInFile u p)
      → (m : ℕ) → IsNext t p m → IsUnlinked u m
  unlinked-next p of early fileless m goes a in_file links =
      let from : a ≢ n = λ is. ends m (subst (λ (k : ℕ). IsNext u k m) is links) in
      let here : a ≡ p = chained.one a p m (was a from in_file) (record { file = f; of = of })
      (next-was t u n others a m from (behind m p goes early) links) goes in
      fileless (λ is. from (here ∙ is)) (subst (IsInFile u) here in_file)

  hangs-on : (most p : ℕ) → IsHeaderOf t f p → most ≡ 255 - segment_number (t.header p)
      → segment_number (t.header n) ≤ segment_number (t.header p) → (p ≢ n → ¬ IsInFile u p)
      → HangsBehind u (t.header p) (headers_from most t (link_number t p))
  hangs-on zero p of fuel early fileless = elim (whole.links p of) [
    | inl none ↦ subst (HangsBehind u (t.header p)) (sym (ap (headers_from zero t) none ∙ headers_from-none zero t)) none
    | inr goes ↦ let byte = bytes (link_number t p) in absurd (omega (arith, fuel, byte, goes.segment))
  ]
  hangs-on (suc most) p of fuel early fileless = elim (whole.links p of) [
    | inl none ↦ subst (HangsBehind u (t.header p)) (sym (ap (headers_from (suc most) t) none ∙ headers_from-none (suc most) t)) none
    | inr goes ↦
        let m : ℕ = link_number t p in
        let same : u.header m ≡ t.header m = others.header m (behind m p goes early) goes.to.in_use in
        let unlinked : IsUnlinked u m = unlinked-next p of early fileless m goes in
        let later : 0 < segment_number (u.header m) = let here = ap segment_number same in omega (arith, here, goes.segment) in
        let rest = hangs-on most m (next of goes) (omega (arith, fuel, goes.segment)) (omega (arith, goes.segment, early))
        (λ _. unlinked-none u m unlinked later) in
        subst (HangsBehind u (t.header p)) (sym (headers_from-some most t m (live-some goes.to))) (
          record {
            to = record {
              in_use = others.in_use m (behind m p goes early) ∙ goes.to.in_use;
              valid = subst (λ (b : List ℕ). IsHeader b m) (sym same) goes.to.valid;
            };
            number = goes.number;
            sequence = goes.sequence ∙ ap file_sequence (sym same);
            segment = ap segment_number same ∙ goes.segment;
          },
          unlinked,
          subst (λ (b : List ℕ). HangsBehind u b (headers_from most t (link_number t m))) (sym same) rest,
        )
  ]

  pub hangs-from : HangsBehind u (t.header n) (headers_behind t (t.header n))
  hangs-from = hangs-on (255 - segment_number (t.header n)) n of_file refl (omega arith) (λ other. absurd (other refl))
