-- The headers of a file up to one, in a table in which they are as good.
use Rattle.std.proofs.Common.{◌≡◌, ℕ, ◌+◌, sym, ap, ◌∙◌, arith}
use Rattle.f11_map.specs.store.declared.files.FileId.{FileId}
use Rattle.f11_index.specs.ChangeLaws.{IsAsGood, StayUpTo}
use Rattle.f11_map.specs.HeaderBlock.{link_of}
use Rattle.f11_index.specs.Headers.{IsLastOf}
use Rattle.f11_index.specs.Table.{Table, IsLive, IsNext, IsHeaderOf, first, next}

pub good-live : {old new : Table} {n : ℕ} → IsAsGood old new n → IsLive new n
good-live good = record { in_use = good.in_use; valid = good.valid }

-- a header whose next one is as good, and which links as before, has it as its next still
pub good-next : {old new : Table} {n m : ℕ} → IsAsGood old new n → IsAsGood old new m → link_of (new.header n) ≡ link_of (old.header n)
    → IsNext old n m → IsNext new n m
good-next here there link is = record {
  from = good-live here;
  to = good-live there;
  number = ap (λ (i : FileId). i.number) link ∙ is.number;
  sequence = ap (λ (i : FileId). i.sequence) link ∙ is.sequence ∙ sym there.sequence;
  segment = there.segment ∙ is.segment ∙ ap (λ (k : ℕ). k + 1) (sym here.segment);
}

pub header-up : (old new : Table) (f : ℕ) {n : ℕ} → IsHeaderOf old f n → StayUpTo f n old new → IsHeaderOf new f n
header-up old new f (first file) stay =
    let here = stay.good f (first file) (omega arith) in
    first (record { live = good-live here; first = here.segment ∙ file.first })
header-up old new f (next {n = p} {m = n} of is) stay =
    let here = stay.good p of (omega (arith, is.segment)) in
    let there = stay.good n (next of is) (omega arith) in
    next (header-up old new f of (record {
      good = λ m from below. stay.good m from (omega (arith, below, is.segment));
      links = λ m from below. stay.links m from (omega (arith, below, is.segment));
    })) (good-next here there (stay.links p of (omega (arith, is.segment))) is)

pub header-last : (old new : Table) (f n : ℕ) → IsHeaderOf old f n → StayUpTo f n old new → (link_of (new.header n)).number ≡ 0
    → IsLastOf new f n
header-last old new f n of stay none = record { of = header-up old new f of stay; no_link = none }

pub next-last : (old new : Table) (f n m : ℕ) → IsHeaderOf old f n → StayUpTo f n old new → IsNext new n m
    → (link_of (new.header m)).number ≡ 0 → IsLastOf new f m
next-last old new f n m of stay goes none = record { of = next (header-up old new f of stay) goes; no_link = none }
