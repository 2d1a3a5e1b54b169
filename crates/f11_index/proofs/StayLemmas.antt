-- When the index file is still as it should be.
use Rattle.std.proofs.Common.{◌≡◌, ◌↔◌, ℕ, ◌<◌, List, length, sym, ap, subst, ◌∙◌, inl, inr, arith}
use Rattle.std.specs.List.{All}
use Rattle.f11_dev.specs.Image.{Image}
use Rattle.f11_home.specs.Home.{HomeFields}
use Rattle.f11_map.specs.store.declared.files.FileId.{FileId}
use Rattle.f11_map.specs.HeaderBlock.{link_of}
use Rattle.f11_index.specs.IndexFile.{index_file_blocks}
use Rattle.f11_index.specs.ChangeLaws.{StaysHeader}
use Rattle.f11_index.specs.Sound.{IsPlaced, IsIndexFile}
use Rattle.f11_index.specs.Table.{Table, table_of, IsHeaderOf, IsNext, first, next, LinksRightly, IsWholeFile}
use Rattle.f11_index.proofs.HeadersLemmas.{live-some}
use Rattle.f11_index.proofs.UpLemmas.{good-live, good-next, header-up}

-- a table in which each header of a file stays
module _ (old new : Table) (f : ℕ) (whole : IsWholeFile old f) (each : (n : ℕ) → IsHeaderOf old f n → StaysHeader old new n) where
  number : (n : ℕ) → IsHeaderOf old f n → (link_of (new.header n)).number ≡ (link_of (old.header n)).number
  number n of = ap (λ (i : FileId). i.number) (each n of).link

  -- it has the headers that it had
  headers_back : {n : ℕ} → IsHeaderOf new f n → IsHeaderOf old f n
  headers_back (first file) = first whole.file
  headers_back (next {n} {m} of goes) =
      let was = headers_back of in
      elim (whole.links n was) [
        | inl none ↦ let to : m ≡ 0 = sym goes.number ∙ number n was ∙ none in absurd (omega (arith, to, live-some goes.to))
        | inr on ↦ subst (IsHeaderOf old f) (sym (number n was) ∙ goes.number) (next was on)
      ]

  links_stay : (n : ℕ) → IsHeaderOf old f n → LinksRightly new n
  links_stay n of = elim (whole.links n of) [
    | inl none ↦ inl (number n of ∙ none)
    | inr on ↦
        let here = each n of in
        let goes = good-next here.good (each (link_of (old.header n)).number (next of on)).good here.link on in
        inr (subst (IsNext new n) (sym (number n of)) goes)
  ]

  pub whole-stays : IsWholeFile new f × ((n : ℕ) → IsHeaderOf new f n ↔ IsHeaderOf old f n)
  whole-stays =
      let here = (each f (first whole.file)).good in (
        record {
          file = record { live = good-live here; first = here.segment ∙ whole.file.first };
          links = λ n of. links_stay n (headers_back of);
        },
        λ n. (
          headers_back,
          λ of.
              header-up old new f of (record { good = λ m from below. (each m from).good; links = λ m from below. (each m from).link }),
        ),
      )

pub stays : (old new : Image) (home : HomeFields) → IsIndexFile old home → length new ≡ length old
    → index_file_blocks new home ≡ index_file_blocks old home
    → ((n : ℕ) → IsHeaderOf (table_of old home) 1 n → StaysHeader (table_of old home) (table_of new home) n) → IsIndexFile new home
stays old new home good size file each = record {
  whole = (whole-stays (table_of old home) (table_of new home) 1 good.whole each).0;
  sequence = (each 1 (first good.whole.file)).good.sequence ∙ good.sequence;
  within = subst (λ (xs : List ℕ). All (λ l. l < length new) xs) (sym file)
      (subst (λ (n : ℕ). All (λ l. l < n) (index_file_blocks old home)) (sym size) good.within);
  placed = subst (IsPlaced home) (sym file) good.placed;
}
