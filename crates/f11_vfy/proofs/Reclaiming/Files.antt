-- Which headers are those of files where headers of no file go.
use Rattle.std.proofs.Common.{◌≡◌, ◌≢◌, ◌+◌, ◌≤◌, ℕ, Bool, false, List, inl, inr, sym, ap, subst, ◌∙◌, arith}
use Rattle.std.proofs.lemmas.Bool.{both_ways, cases_eq}
use Rattle.f11_header.specs.Fields.{file_sequence}
use Rattle.f11_header.specs.Header.{IsDead, IsHeader}
use Rattle.f11_header.proofs.HeaderFacts.{dead-not-valid}
use Rattle.f11_map.specs.HeaderBlock.{segment_number, link_of}
use Rattle.f11_index.specs.Headers.{IsInFile}
use Rattle.f11_index.specs.Table.{Table, IsLive, IsHeaderOf, first, next}
use Rattle.f11_index.proofs.ChainLemmas.{live_of-header}
use Rattle.f11_index.proofs.HeadersLemmas.{live-some}
use Rattle.f11_image_store.specs.SlotLaws.{KeepsOtherBlocks}
use Rattle.f11_vfy.specs.Chain.{IsFit}
use Rattle.f11_vfy.specs.Reclaiming.Slots.{IsOrphan, IsIdle, KillsUpTo, ClearsUpTo}

-- Each header that is live was, and says what it said; and each header of a file is live.
pub record KeepsFiles (t u : Table) : Type 0 where
  pub was : (m : ℕ) → IsLive u m → IsLive t m × (u.header m ≡ t.header m)
  pub stays : (m : ℕ) → IsInFile t m → IsLive u m

module _ (t u : Table) (keeps : KeepsFiles t u) where
  of-old : {f m : ℕ} → IsHeaderOf u f m → IsHeaderOf t f m
  of-old {f} (first file) =
      let was = keeps.was f file.live in
      first (record { live = was.0; first = ap segment_number (sym was.1) ∙ file.first })
  of-old (next {n = n} {m = m} of goes) =
      let from = keeps.was n goes.from in
      let to = keeps.was m goes.to in
      next (of-old of) (record {
        from = from.0;
        to = to.0;
        number = ap (λ (b : List ℕ). (link_of b).number) (sym from.1) ∙ goes.number;
        sequence = ap (λ (b : List ℕ). (link_of b).sequence) (sym from.1) ∙ goes.sequence ∙ ap file_sequence to.1;
        segment = ap segment_number (sym to.1) ∙ goes.segment ∙ ap (λ (b : List ℕ). segment_number b + 1) from.1;
      })

  of-new : {f m : ℕ} → IsHeaderOf t f m → IsHeaderOf u f m
  of-new {f} (first file) =
      let live = keeps.stays f (record { file = f; of = first file }) in
      first (record { live = live; first = ap segment_number (keeps.was f live).1 ∙ file.first })
  of-new {f} (next {n = n} {m = m} of goes) =
      let from = keeps.stays n (record { file = f; of = of }) in
      let to = keeps.stays m (record { file = f; of = next of goes }) in
      let from_is = (keeps.was n from).1 in
      let to_is = (keeps.was m to).1 in
      next (of-new of) (record {
        from = from;
        to = to;
        number = ap (λ (b : List ℕ). (link_of b).number) from_is ∙ goes.number;
        sequence = ap (λ (b : List ℕ). (link_of b).sequence) from_is ∙ goes.sequence ∙ ap file_sequence (sym to_is);
        segment = ap segment_number to_is ∙ goes.segment ∙ ap (λ (b : List ℕ). segment_number b + 1) (sym from_is);
      })

  pub in-old : (m : ℕ) → IsInFile u m → IsInFile t m
  in-old m within = record { file = within.file; of = of-old within.of }

  pub in-new : (m : ℕ) → IsInFile t m → IsInFile u m
  in-new m within = record { file = within.file; of = of-new within.of }

  -- an orphan was one
  pub orphan-was : (m : ℕ) → IsOrphan u m → IsOrphan t m
  orphan-was m orphan = record { live = (keeps.was m orphan.live).0; of_none = λ within. orphan.of_none (in-new m within) }

-- the orphans so far were killed
module _ (n : ℕ) (t u : Table) (fit : IsFit t) (kills : KillsUpTo n t u) where
  used-alike : (m : ℕ) → u.in_use m ≡ t.in_use m
  used-alike m = ap (λ (f : ℕ → Bool). f m) kills.in_use

  pub killed-keeps : KeepsFiles t u
  killed-keeps = record {
    was = λ m live.
        let used = sym (used-alike m) ∙ live.in_use in
        let same = kills.others m (live-some live) (fit.high m used) (λ within orphan. kills.killed m within orphan live) in
        (record { in_use = used; valid = subst (λ (b : List ℕ). IsHeader b m) same live.valid }, same);
    stays = λ m within.
        let live = live_of-header within.of in
        let same = kills.others m (live-some live) (fit.high m live.in_use) (λ _ orphan. orphan.of_none within) in
        record { in_use = used-alike m ∙ live.in_use; valid = subst (λ (b : List ℕ). IsHeader b m) (sym same) live.valid };
  }

  -- the next one is as it was
  pub next-same : n + 1 ≤ t.slots → u.header (n + 1) ≡ t.header (n + 1)
  next-same few = kills.others (n + 1) (omega arith) few (λ within. absurd (omega (arith, within)))

  pub next-live : n + 1 ≤ t.slots → IsOrphan t (n + 1) → IsLive u (n + 1)
  next-live few orphan = record {
    in_use = used-alike (n + 1) ∙ orphan.live.in_use;
    valid = subst (λ (b : List ℕ). IsHeader b (n + 1)) (sym (next-same few)) orphan.live.valid;
  }

  -- and it is no orphan
  pub killed-other : ¬ IsOrphan t (n + 1) → KillsUpTo (n + 1) t u
  killed-other none = record {
    slots = kills.slots;
    in_use = kills.in_use;
    killed = λ m within orphan. elim (cases_eq m (n + 1)) [
      | inl same ↦ absurd (none (subst (IsOrphan t) same orphan))
      | inr apart ↦ kills.killed m (omega (arith, within, apart)) orphan
    ];
    others = λ m some few but. kills.others m some few (λ within. but (omega (arith, within)));
  }

  -- or it is, and was killed
  pub killed-more : (v : Table) (block : List ℕ) → v.in_use ≡ u.in_use → KeepsOtherBlocks (n + 1) u v → v.header (n + 1) ≡ block
      → IsDead block → IsOrphan t (n + 1)
      → KillsUpTo (n + 1) t v
  killed-more v block used blocks here dead orphan = record {
    slots = blocks.slots ∙ kills.slots;
    in_use = used ∙ kills.in_use;
    killed = λ m within is. elim (cases_eq m (n + 1)) [
      | inl same ↦ λ live. dead-not-valid block m dead (subst (λ (b : List ℕ). IsHeader b m) (ap v.header same ∙ here) live.valid)
      | inr apart ↦ λ live. kills.killed m (omega (arith, within, apart)) is (record {
        in_use = ap (λ (f : ℕ → Bool). f m) (sym used) ∙ live.in_use;
        valid = subst (λ (b : List ℕ). IsHeader b m)
            (blocks.header m (live-some live) (omega (arith, fit.high m is.live.in_use, kills.slots)) apart) live.valid;
      })
    ];
    others = λ m some few but.
        let apart : m ≢ n + 1 = λ same. but (omega (arith, same)) (subst (IsOrphan t) (sym same) orphan) in
        blocks.header m some (omega (arith, few, kills.slots)) apart ∙ kills.others m some few (λ within. but (omega (arith, within)));
  }

-- the idle slots so far left use
module _ (n : ℕ) (t u : Table) (clears : ClearsUpTo n t u) where
  header-alike : (m : ℕ) → u.header m ≡ t.header m
  header-alike m = ap (λ (f : ℕ → List ℕ). f m) clears.header

  pub cleared-keeps : KeepsFiles t u
  cleared-keeps = record {
    was = λ m live.
        let same = clears.others m (live-some live) (λ within idle. both_ways _ (clears.cleared m (live-some live) within idle) live.in_use)
        in (
          record { in_use = sym same ∙ live.in_use; valid = subst (λ (b : List ℕ). IsHeader b m) (header-alike m) live.valid },
          header-alike m,
        );
    stays = λ m within.
        let live = live_of-header within.of in
        let same = clears.others m (live-some live) (λ _ idle. idle.of_none within) in
        record { in_use = same ∙ live.in_use; valid = subst (λ (b : List ℕ). IsHeader b m) (sym (header-alike m)) live.valid };
  }

  -- the next one is in use as it was
  pub next-used : u.in_use (n + 1) ≡ t.in_use (n + 1)
  next-used = clears.others (n + 1) (omega arith) (λ within. absurd (omega (arith, within)))

  -- and isn't idle
  pub cleared-other : ¬ IsIdle t (n + 1) → ClearsUpTo (n + 1) t u
  cleared-other none = record {
    slots = clears.slots;
    header = clears.header;
    cleared = λ m some within idle. elim (cases_eq m (n + 1)) [
      | inl same ↦ absurd (none (subst (IsIdle t) same idle))
      | inr apart ↦ clears.cleared m some (omega (arith, within, apart)) idle
    ];
    others = λ m some but. clears.others m some (λ within. but (omega (arith, within)));
  }

  -- or is, and left use
  pub cleared-more : (v : Table) → v.slots ≡ u.slots → v.header ≡ u.header → v.in_use (n + 1) ≡ false
      → ((m : ℕ) → m ≢ n + 1 → v.in_use m ≡ u.in_use m) → IsIdle t (n + 1)
      → ClearsUpTo (n + 1) t v
  cleared-more v slots header here others idle = record {
    slots = slots ∙ clears.slots;
    header = header ∙ clears.header;
    cleared = λ m some within is. elim (cases_eq m (n + 1)) [
      | inl same ↦ ap v.in_use same ∙ here
      | inr apart ↦ others m apart ∙ clears.cleared m some (omega (arith, within, apart)) is
    ];
    others = λ m some but.
        let apart : m ≢ n + 1 = λ same. but (omega (arith, same)) (subst (IsIdle t) (sym same) idle) in
        others m apart ∙ clears.others m some (λ within. but (omega (arith, within)));
  }
