-- The headers of a file as a list.
use Rattle.std.proofs.Common.{◌≡◌, ◌≢◌, ℕ, zero, suc, ◌+◌, ◌-◌, ◌<◌, ◌≤◌, List, [], ◌∷◌, ◌++◌, length, Some, refl, sym, ap, subst, ◌∙◌, inl}
use Rattle.std.proofs.Common.{inr, arith, append_assoc}
use Rattle.std.specs.Prelude.{Contains}
use Rattle.std.specs.List.{slice_get}
use Rattle.std.proofs.lemmas.Bool.{cases_lt}
use Rattle.std.proofs.lemmas.List.{length-append}
use Rattle.std.proofs.lemmas.Option.{none-some, same_Some, slice_get-get_or, slice_get_within, get_or_from_slice_get}
use Rattle.f11_map.proofs.header.HeaderFacts.{header_facts}
use Rattle.f11_map.proofs.MapLemmas.{slice_get-append_back}
use Rattle.f11_map.specs.HeaderBlock.{segment_number, link_of}
use Rattle.f11_index.specs.Headers.{headers_from, headers_of, IsLastOf, IsChained, HasByteSegments}
use Rattle.f11_index.specs.HeaderLaws.{IsSegment, HasOneBefore}
use Rattle.f11_index.specs.Sound.{AreApart}
use Rattle.f11_index.specs.Table.{Table, IsLive, IsFile, IsNext, IsHeaderOf, first, next, IsWholeFile}
use Rattle.f11_index.proofs.ChainLemmas.{file_of-header, live_of-header, same-segment, links-before}

abbrev pub link_number : Table → ℕ → ℕ
link_number t n = (link_of (t.header n)).number

-- number 0 is no header's
pub live-some : {t : Table} {n : ℕ} → IsLive t n → 0 < n
live-some {t} {n} live = omega (arith, live.valid.number, (header_facts (t.header n) live.valid.holds).some_number)

pub headers_from-some : (most : ℕ) (t : Table) (n : ℕ) → 0 < n → headers_from (suc most) t n ≡ n ∷ headers_from most t (link_number t n)
unfolding headers_from
headers_from-some most t zero some = absurd (omega (arith, some))
headers_from-some most t (suc n) some = refl

pub headers_from-none : (most : ℕ) (t : Table) → headers_from most t 0 ≡ []
unfolding headers_from
headers_from-none zero t = refl
headers_from-none (suc most) t = refl

headers_from-end : (t : Table) (n : ℕ) → headers_from 0 t n ≡ []
unfolding headers_from
headers_from-end t n = refl

pub headers_from-few : (most : ℕ) (t : Table) (n : ℕ) → length (headers_from most t n) ≤ most
unfolding headers_from
headers_from-few zero t n = omega arith
headers_from-few (suc most) t zero = omega arith
headers_from-few (suc most) t (suc n) = let rest = headers_from-few most t (link_number t (suc n)) in omega (arith, rest)

pub headers-few : (t : Table) (f : ℕ) → length (headers_of t f) ≤ 256
headers-few t f = headers_from-few 256 t f

-- Number n stands at place k of the list of file f's headers, behind these, or the list ends there.
pub record Comes (t : Table) (f n k : ℕ) (behind : List ℕ) : Type 0 where
  pub list : headers_of t f ≡ behind ++ headers_from (256 - k) t n
  pub count : length behind ≡ k

pub Comes-first : (t : Table) (f : ℕ) → Comes t f f 0 []
Comes-first t f = record { list = refl; count = refl }

-- so many headers were passed
pub Comes-passed : {t : Table} {f n k : ℕ} {behind : List ℕ} → Comes t f n k behind → k ≤ length (headers_of t f)
Comes-passed {t} {f} {n} {k} {behind} at =
    let whole = ap length at.list ∙ length-append behind (headers_from (256 - k) t n) in
    omega (arith, whole, at.count)

module _ (t : Table) (f n k : ℕ) (behind : List ℕ) (at : Comes t f n k behind) (some : 0 < n) (few : k < 256) where
  -- the list before the header, it, and the list behind it
  pub Comes-split : headers_of t f ≡ (behind ++ n ∷ []) ++ headers_from (255 - k) t (link_number t n)
  Comes-split =
      let left : 256 - k ≡ suc (255 - k) = omega (arith, few) in
      at.list ∙ ap (λ (most : ℕ). behind ++ headers_from most t n) left
      ∙ ap (λ (rest : List ℕ). behind ++ rest) (headers_from-some (255 - k) t n some)
      ∙ sym (append_assoc behind (n ∷ []) (headers_from (255 - k) t (link_number t n)))

  pub Comes-next : (to : ℕ) → link_number t n ≡ to → Comes t f to (k + 1) (behind ++ n ∷ [])
  Comes-next to is =
      let fewer : 255 - k ≡ 256 - (k + 1) = omega arith in
      record {
        list = Comes-split ∙ ap (λ (most : ℕ). (behind ++ n ∷ []) ++ headers_from most t (link_number t n)) fewer
            ∙ ap (λ (from : ℕ). (behind ++ n ∷ []) ++ headers_from (256 - (k + 1)) t from) is;
        count = length-append behind (n ∷ []) ∙ ap (λ (c : ℕ). c + 1) at.count;
      }

  pub Comes-count : k + 1 ≤ length (headers_of t f)
  Comes-count = Comes-passed (Comes-next (link_number t n) refl)

  -- it stands there
  pub Comes-at : slice_get (headers_of t f) k ≡ Some n
  Comes-at =
      let rest : List ℕ = headers_from (255 - k) t (link_number t n) in
      let none : k - k ≡ 0 = omega arith in
      ap (λ (l : List ℕ). slice_get l k) (Comes-split ∙ append_assoc behind (n ∷ []) rest)
      ∙ slice_get-append_back behind (n ∷ rest) k k (sym at.count) (omega arith)
      ∙ ap (slice_get (n ∷ rest)) none

  -- it is the last of the list
  pub Comes-last : link_number t n ≡ 0 → headers_of t f ≡ behind ++ n ∷ []
  Comes-last none =
      let rest : headers_from (255 - k) t (link_number t n) ≡ [] = ap (headers_from (255 - k) t) none ∙ headers_from-none (255 - k) t in
      Comes-split ∙ append_assoc behind (n ∷ []) (headers_from (255 - k) t (link_number t n)) ∙ ap (λ (l : List ℕ). behind ++ n ∷ l) rest

-- and the header that it links to
pub Comes-count-next : (t : Table) (f n k : ℕ) (behind : List ℕ) → Comes t f n k behind → 0 < n → k < 255 → link_number t n ≢ 0
    → k + 2 ≤ length (headers_of t f)
Comes-count-next t f n k behind at some more link =
    let to = link_number t n in
    let there = Comes-next t f n k behind at some (omega (arith, more)) to refl in
    let count = Comes-count t f to (k + 1) (behind ++ n ∷ []) there (omega (arith, link)) (omega (arith, more)) in
    omega (arith, count)

-- each header of a file comes at the place of its segment
pub Comes-header : {t : Table} {f n : ℕ} → IsHeaderOf t f n → segment_number (t.header n) < 256
    → (behind : List ℕ) × Comes t f n (segment_number (t.header n)) behind
Comes-header {t} {f} (first file) few = ([], subst (λ (s : ℕ). Comes t f f s []) (sym file.first) (Comes-first t f))
Comes-header {t} {f} (next {n = p} {m = n} of is) few =
    let k = segment_number (t.header p) in
    let (behind, at) = Comes-header of (omega (arith, is.segment, few)) in (
      behind ++ p ∷ [],
      subst (λ (s : ℕ). Comes t f n s (behind ++ p ∷ [])) (sym is.segment)
          (Comes-next t f p k behind at (live-some is.from) (omega (arith, is.segment, few)) n is.number),
    )

pub header-placed : (t : Table) (f n : ℕ) → IsHeaderOf t f n → segment_number (t.header n) < 256
    → slice_get (headers_of t f) (segment_number (t.header n)) ≡ Some n
header-placed t f n of few =
    let (behind, at) = Comes-header of few in
    Comes-at t f n (segment_number (t.header n)) behind at (live-some (live_of-header of)) few

pub header-listed : (t : Table) (f n : ℕ) → IsHeaderOf t f n → segment_number (t.header n) < 256 → Contains (headers_of t f) n
header-listed t f n of few =
    let place = header-placed t f n of few in
    (segment_number (t.header n), slice_get_within (headers_of t f) _ _ place, get_or_from_slice_get (headers_of t f) _ n n place)

-- what stands in the list behind a header of a whole file
empty : (xs : List ℕ) (i m : ℕ) → xs ≡ [] → ¬ (slice_get xs i ≡ Some m)
empty xs i m none at = none-some m (sym (ap (λ (l : List ℕ). slice_get l i) none) ∙ at)

from-placed : (most : ℕ) {t : Table} {f n k : ℕ} → IsWholeFile t f → IsHeaderOf t f n → segment_number (t.header n) ≡ k
    → (i m : ℕ) → slice_get (headers_from most t n) i ≡ Some m → IsSegment t f m (k + i)
from-placed zero {t} {f} {n} whole of is i m at = absurd (empty _ i m (headers_from-end t n) at)
from-placed (suc most) {t} {f} {n} {k} whole of is zero m at =
    let same : n ≡ m = same_Some n m (sym (ap (λ (l : List ℕ). slice_get l 0) (headers_from-some most t n (live-some (live_of-header of))))
    ∙ at) in
    subst (λ (x : ℕ). IsSegment t f x (k + 0)) same (record { of = of; number = omega (arith, is) })
from-placed (suc most) {t} {f} {n} {k} whole of is (suc i) m at =
    let there : slice_get (headers_from most t (link_number t n)) i ≡ Some m =
    sym (ap (λ (l : List ℕ). slice_get l (suc i)) (headers_from-some most t n (live-some (live_of-header of)))) ∙ at in
    elim (whole.links n of) [
      | inl none ↦ absurd (empty _ i m (ap (headers_from most t) none ∙ headers_from-none most t) there)
      | inr goes ↦
          let rest = from-placed most whole (next of goes) (goes.segment ∙ ap (λ (s : ℕ). s + 1) is) i m there in
          record { of = rest.of; number = omega (arith, rest.number) }
    ]

pub place-has : (t : Table) (f n i : ℕ) → IsWholeFile t f → slice_get (headers_of t f) i ≡ Some n → IsSegment t f n i
place-has t f n i whole at =
    let is = from-placed 256 whole (first whole.file) whole.file.first i n at in record { of = is.of; number = omega (arith, is.number) }

pub listed-are : (t : Table) (f n : ℕ) → IsWholeFile t f → Contains (headers_of t f) n → IsHeaderOf t f n
listed-are t f n whole (i, within, is) = (place-has t f n i whole (slice_get-get_or (headers_of t f) i n within ∙ ap Some is)).of

pub headers-apart : (t : Table) (f : ℕ) → IsWholeFile t f → AreApart (headers_of t f)
headers-apart t f whole i j n one other = sym (place-has t f n i whole one).number ∙ (place-has t f n j whole other).number

-- a whole file's last header, from one of its headers on
last-from : (left : ℕ) {t : Table} {f n : ℕ} → HasByteSegments t → IsWholeFile t f → IsHeaderOf t f n
    → segment_number (t.header n) + left ≡ 256 → (m : ℕ) × IsLastOf t f m
last-from zero {t} {f} {n} bytes whole of end = absurd (omega (arith, end, bytes n))
last-from (suc left) {t} {f} {n} bytes whole of end = elim (whole.links n of) [
  | inl none ↦ (n, record { of = of; no_link = none })
  | inr goes ↦ last-from left bytes whole (next of goes) (omega (arith, goes.segment, end))
]

pub whole-last : (t : Table) (f : ℕ) → HasByteSegments t → IsWholeFile t f → (n : ℕ) × IsLastOf t f n
whole-last t f bytes whole = last-from 256 bytes whole (first whole.file) (omega (arith, whole.file.first))

-- its list ends there
links-end-from : (left more : ℕ) {t : Table} {f n : ℕ} → HasByteSegments t → IsWholeFile t f → IsHeaderOf t f n
    → segment_number (t.header n) + left ≡ 256
    → headers_from (left + more) t n ≡ headers_from left t n
links-end-from zero more {t} {f} {n} bytes whole of end = absurd (omega (arith, end, bytes n))
links-end-from (suc left) more {t} {f} {n} bytes whole of end =
    let some : 0 < n = live-some (live_of-header of) in
    let fuel : suc left + more ≡ suc (left + more) = omega arith in
    let rest : headers_from (left + more) t (link_number t n) ≡ headers_from left t (link_number t n) = elim (whole.links n of) [
      | inl none ↦
          ap (headers_from (left + more) t) none ∙ headers_from-none (left + more) t
          ∙ sym (ap (headers_from left t) none ∙ headers_from-none left t)
      | inr goes ↦ links-end-from left more bytes whole (next of goes) (omega (arith, goes.segment, end))
    ] in
    ap (λ (most : ℕ). headers_from most t n) fuel ∙ headers_from-some (left + more) t n some
    ∙ ap (λ (hs : List ℕ). n ∷ hs) rest ∙ sym (headers_from-some left t n some)

pub links-end : (t : Table) (f more : ℕ) → HasByteSegments t → IsWholeFile t f → headers_from (256 + more) t f ≡ headers_of t f
links-end t f more bytes whole = links-end-from 256 more bytes whole (first whole.file) (omega (arith, whole.file.first))

-- no header's segment is behind that of the last
pub last-highest : {t : Table} {f n m : ℕ} → IsLastOf t f n → IsHeaderOf t f m → segment_number (t.header m) ≤ segment_number (t.header n)
last-highest {t} {f} {n} {m} last of = elim (cases_lt (segment_number (t.header n)) (segment_number (t.header m))) [
  | inr within ↦ within
  | inl behind ↦
      let l = links-before (segment_number (t.header n)) of behind in
      let same : n ≡ l.from = same-segment last.of l.of (sym l.number) in
      let to : l.to ≡ 0 = sym l.goes.number ∙ ap (link_number t) (sym same) ∙ last.no_link in
      absurd (omega (arith, to, live-some l.goes.to))
]

pub last-one : (t : Table) (f n m : ℕ) → IsLastOf t f n → IsLastOf t f m → n ≡ m
last-one t f n m one other =
    let below = last-highest one other.of in
    let above = last-highest other one.of in
    same-segment one.of other.of (omega (arith, below, above))

pub last-ends : (t : Table) (f n : ℕ) → IsLastOf t f n → segment_number (t.header n) < 256
    → length (headers_of t f) ≡ segment_number (t.header n) + 1
last-ends t f n last few =
    let (behind, at) = Comes-header last.of few in
    ap length (Comes-last t f n (segment_number (t.header n)) behind at (live-some (live_of-header last.of)) few last.no_link)
    ∙ length-append behind (n ∷ []) ∙ ap (λ (c : ℕ). c + 1) at.count

pub last-whole : (t : Table) (f n : ℕ) → IsLastOf t f n → IsWholeFile t f
last-whole t f n last = record {
  file = file_of-header last.of;
  links = λ m of.
      let highest = last-highest last of in
      elim (cases_lt (segment_number (t.header m)) (segment_number (t.header n))) [
        | inl below ↦
            let l = links-before (segment_number (t.header m)) last.of below in
            let same : l.from ≡ m = same-segment l.of of l.number in
            let to : l.to ≡ link_number t m = sym l.goes.number ∙ ap (link_number t) same in
            inr (subst (λ (x : ℕ). IsNext t m x) to (subst (λ (x : ℕ). IsNext t x l.to) same l.goes))
        | inr least ↦
            let same : n ≡ m = same-segment last.of of (omega (arith, highest, least)) in
            inl (ap (link_number t) (sym same) ∙ last.no_link)
      ];
}

-- chained files
pub chained-whole : (t : Table) (f : ℕ) → IsChained t → IsFile t f → IsWholeFile t f
chained-whole t f chained file = record { file = file; links = λ n of. chained.links n (record { file = f; of = of }) }

pub chained-apart : {t : Table} {f g n : ℕ} → IsChained t → IsHeaderOf t f n → IsHeaderOf t g n → f ≡ g
chained-apart chained (first file) (first other) = refl
chained-apart chained (first file) (next of is) = absurd (omega (arith, file.first, is.segment))
chained-apart chained (next of is) (first file) = absurd (omega (arith, file.first, is.segment))
chained-apart {t} {f} {g} {n} chained (next {n = p} of is) (next {n = q} from goes) =
    let same : p ≡ q = chained.one p q n (record { file = f; of = of }) (record { file = g; of = from }) is goes in
    chained-apart chained of (subst (IsHeaderOf t g) (sym same) from)

pub chained-before : {t : Table} {f n : ℕ} → IsChained t → IsHeaderOf t f n → 0 < segment_number (t.header n) → HasOneBefore t f n
chained-before chained (first file) some = absurd (omega (arith, file.first, some))
chained-before {t} {f} {n} chained (next {n = p} of is) some = record {
  before = p;
  of = of;
  next = is;
  one = λ m in_file goes. chained.one m p n in_file (record { file = f; of = of }) goes is;
}
