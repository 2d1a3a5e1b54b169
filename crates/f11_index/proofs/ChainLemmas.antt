-- Facts about the headers of a file.
use Rattle.std.proofs.Common.{◌≡◌, ℕ, ◌<◌, refl, sym, ap, ◌∙◌, inl, inr, arith}
use Rattle.std.proofs.lemmas.Bool.{cases_eq}
use Rattle.f11_map.specs.HeaderBlock.{segment_number, link_of}
use Rattle.f11_index.specs.Table.{Table, IsLive, IsFile, IsNext, IsHeaderOf, first, next}

-- a file that has a header has its first one
pub file_of-header : {t : Table} {f n : ℕ} → IsHeaderOf t f n → IsFile t f
file_of-header (first file) = file
file_of-header (next of is) = file_of-header of

-- each of its headers is live
pub live_of-header : {t : Table} {f n : ℕ} → IsHeaderOf t f n → IsLive t n
live_of-header (first file) = file.live
live_of-header (next of is) = is.to

-- two headers of one file with the same segment number are one
pub same-segment : {t : Table} {f n m : ℕ} → IsHeaderOf t f n → IsHeaderOf t f m → segment_number (t.header n) ≡ segment_number (t.header m)
    → n ≡ m
same-segment (first file) (first other) same = refl
same-segment (first file) (next of is) same = absurd (omega (arith, file.first, is.segment))
same-segment (next of is) (first file) same = absurd (omega (arith, file.first, is.segment))
same-segment {t} (next of is) (next from goes) same =
    let before = same-segment of from (omega (arith, is.segment, goes.segment)) in
    sym is.number ∙ ap (λ (k : ℕ). (link_of (t.header k)).number) before ∙ goes.number

-- a header that links to another
pub record Links (t : Table) (f segment : ℕ) : Type 0 where
  pub from : ℕ
  pub to : ℕ
  pub of : IsHeaderOf t f from
  pub number : segment_number (t.header from) ≡ segment
  pub goes : IsNext t from to

-- each segment before that of a header is one of a header that links on
pub links-before : {t : Table} {f n : ℕ} (k : ℕ) → IsHeaderOf t f n → k < segment_number (t.header n) → Links t f k
links-before k (first file) before = absurd (omega (arith, file.first, before))
links-before {t} k (next {n} {m} of is) before = elim (cases_eq k (segment_number (t.header n))) [
  | inl same ↦ record { from = n; to = m; of = of; number = sym same; goes = is }
  | inr less ↦ links-before k of (omega (arith, is.segment, before, less))
]
