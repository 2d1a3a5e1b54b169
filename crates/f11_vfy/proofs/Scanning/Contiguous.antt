-- Files that are marked contiguous, and aren't.
use Rattle.std.proofs.Common.{◌≡◌, ◌≤◌, ◌<◌, ◌+◌, ◌-◌, ◌↔◌, ℕ, suc, refl, ap, sym, ◌∙◌, subst, arith, List, [], ◌++◌, length, get_or}
use Rattle.std.proofs.Common.{append-nil, append_assoc, IsTrue, Bool, false, eq-eqb, eqb-true}
use Rattle.std.specs.Int.{bit_at}
use Rattle.std.proofs.lemmas.Bool.{both_ways}
use Rattle.f11_chain.specs.FileHeaders.{blocks_by}
use Rattle.f11_dev.specs.Image.{Image}
use Rattle.f11_findings.specs.Finding.{finding}
use Rattle.f11_findings.specs.declared.finding.Finding.{Finding}
use Rattle.f11_index.specs.Headers.{next_of}
use Rattle.f11_index.specs.Table.{Table, IsLive, IsFile}
use Rattle.f11_map.specs.HeaderBlock.{blocks_named}
use Rattle.f11_store.specs.File.{has_contiguous_mark}
use Rattle.f11_vfy.specs.Chain.{KeepsTable, KnowsNexts, numbered}
use Rattle.f11_vfy.specs.Scanning.Contiguous.{IsMarkedContiguous, IsApart, IsLastNote}
use Rattle.f11_findings.specs.Found.{Finds, FoundAmong}
use Rattle.f11_vfy.specs.Scanning.Reading.{ShowsVolume}
use Rattle.f11_vfy.specs.Surveying.Extent.{LieAs}
use Rattle.f11_vfy.specs.Surveying.Slot.{KeepsSlot, kept_slot, unused_slot}
use Rattle.f11_vfy.specs.declared.findings.reading.Reading.{Reading}
use Rattle.f11_vfy.specs.declared.survey.extent.Extent.{Extent}
use Rattle.f11_vfy.specs.declared.survey.extent.Extent.TheVariants.{Empty, Scattered}
use Rattle.f11_vfy.specs.declared.survey.slot.Slot.{Slot}
use Rattle.f11_vfy.specs.declared.survey.slot.State.TheVariants.{Live}
use Rattle.f11_volume.specs.Contents.{following, blocks_reached, file_of}
use Rattle.f11_volume.specs.Notes.{AreContiguous, IsVolumeNote, blocks_lost, header_dead, orphan, marked, not_closed, in_no_directory}
use Rattle.f11_volume.specs.Notes.{names_no_file, name_repeated, no_name, not_contiguous}
use Rattle.f11_volume.specs.Volume.{Volume}
use Rattle.f11_volume.proofs.FileLemmas.{following-none}
use Rattle.f11_vfy.proofs.FollowingLemmas.{numbered-some, next-kept, next-live, following-more, following-zero}
use Rattle.f11_findings.proofs.FoundLemmas.{finds-same}
use Rattle.f11_vfy.proofs.Surveying.Extents.{lie-apart}
use Rattle.f11_vfy.proofs.Surveying.Slots.{live-from, live-to}

-- Of the blocks of the file that begins at a header those that came lie so; then come those of header n, 0 for none, and of those behind
-- it, so many at most.
pub record Along (t : Table) (first : ℕ) (e : Extent) (n most : ℕ) : Type 0 where
  pub front : List ℕ
  pub lie : LieAs front e
  pub rest : blocks_reached t first ≡ front ++ blocks_by t (following most t (numbered n))
  pub live : 1 ≤ n → IsLive t n

pub along-begin : (t : Table) (first : ℕ) → 1 ≤ first → IsLive t first → Along t first Empty first 256
along-begin t first some live = record {
  front = [];
  lie = refl;
  rest = ap (λ o. blocks_by t (following 256 t o)) (sym (numbered-some first some));
  live = λ _. live;
}

-- the blocks of one header more
pub along-more : (t : Table) (first : ℕ) (e one both : Extent) (n most left : ℕ) → Along t first e n most → 1 ≤ n → most ≡ left + 1
    → LieAs (blocks_named (t.header n)) one
    → ((front back : List ℕ) → LieAs front e → LieAs back one → LieAs (front ++ back) both) → (nexts : List ℕ) (m : ℕ) → KnowsNexts t nexts
    → m ≡ get_or nexts (n - 1) 0 → Along t first both m left
along-more t first e one both n most left along some step here join nexts m knows next =
    let to : next_of t n ≡ numbered m = next-kept t nexts n knows (along.live some) m next in
    let more : most ≡ suc left = omega (arith, step) in
    record {
      front = along.front ++ blocks_named (t.header n);
      lie = join along.front (blocks_named (t.header n)) along.lie here;
      rest =
          along.rest ∙ ap (λ (k : ℕ). along.front ++ blocks_by t (following k t (numbered n))) more
          ∙ ap (λ hs. along.front ++ blocks_by t hs) (following-more t left n some)
          ∙ sym (append_assoc along.front (blocks_named (t.header n)) (blocks_by t (following left t (next_of t n))))
          ∙ ap (λ o. (along.front ++ blocks_named (t.header n)) ++ blocks_by t (following left t o)) to;
      live = next-live t n m to;
    }

-- what is kept of its slot tells where they lie
pub kept-lie : (t : Table) (slots : List Slot) (n : ℕ) → KeepsTable t slots → IsLive t n
    → LieAs (blocks_named (t.header n)) (kept_slot slots (n - 1)).extent
kept-lie t slots n keeps live =
    let low : 1 ≤ n = keeps.fit.low n live.in_use in
    let high : n ≤ t.slots = keeps.fit.high n live.in_use in
    let same : n - 1 + 1 ≡ n = omega (arith, low) in
    let kept : KeepsSlot t n (kept_slot slots (n - 1)) = subst (λ (m : ℕ). KeepsSlot t m (kept_slot slots (n - 1))) same
    (keeps.keeps.each (n - 1) unused_slot (omega (arith, low, high))) in
    (kept.header (live-to t n (kept_slot slots (n - 1)).state kept.state live)).extent

-- there is no other
along-all : (t : Table) (first : ℕ) (e : Extent) (n most : ℕ) (along : Along t first e n most) → following most t (numbered n) ≡ []
    → LieAs (blocks_reached t first) e
along-all t first e n most along none =
    subst (λ (l : List ℕ). LieAs l e) (sym (along.rest ∙ ap (λ hs. along.front ++ blocks_by t hs) none ∙ append-nil along.front)) along.lie

pub along-end : (t : Table) (first : ℕ) (e : Extent) (n most : ℕ) → Along t first e n most → n ≡ 0 → LieAs (blocks_reached t first) e
along-end t first e n most along none =
    along-all t first e n most along (ap (λ (k : ℕ). following most t (numbered k)) none ∙ following-none t most)

pub along-last : (t : Table) (first : ℕ) (e : Extent) (n most : ℕ) → Along t first e n most → most ≡ 0 → LieAs (blocks_reached t first) e
along-last t first e n most along none =
    along-all t first e n most along (ap (λ (k : ℕ). following k t (numbered n)) none ∙ following-zero t (numbered n))

-- what is kept of a slot tells whether it has such a file
module _ (t : Table) (slots : List Slot) (k : ℕ) (below : k < length slots) (keeps : KeepsTable t slots) where
  kept : KeepsSlot t (k + 1) (kept_slot slots k)
  kept = keeps.keeps.each k unused_slot (omega (arith, below, keeps.keeps.count))

  marked-live : IsMarkedContiguous (kept_slot slots k) → IsLive t (k + 1)
  marked-live is = live-from t (k + 1) _ kept.state is.0.0

  apart-marked : IsApart t (k + 1) → IsMarkedContiguous (kept_slot slots k)
  apart-marked a =
      let alive : (kept_slot slots k).state ≡ Live = live-to t (k + 1) _ kept.state a.file.live in
      ((alive, (kept.header alive).segment ∙ a.file.first), ap (λ c. bit_at c 7) (kept.header alive).characteristics_are ∙ a.mark)

  pub apart-tested : (e : Extent) (b : Bool) → (IsTrue b ↔ (e ≡ Scattered)) → IsMarkedContiguous (kept_slot slots k)
      → (IsLive t (k + 1) → LieAs (blocks_reached t (k + 1)) e)
      → IsTrue b ↔ IsApart t (k + 1)
  apart-tested e b test is lie = (
    λ yes. record {
      file = record { live = marked-live is; first = sym (kept.header is.0.0).segment ∙ is.0.1 };
      mark = ap (λ c. bit_at c 7) (sym (kept.header is.0.0).characteristics_are) ∙ is.1;
      apart = subst (LieAs (blocks_reached t (k + 1))) (test.0 yes) (lie (marked-live is));
    },
    λ a. test.1 (lie-apart (blocks_reached t (k + 1)) e (lie (marked-live is)) a.apart),
  )

  pub apart-none : (b : Bool) → b ≡ false → ¬ IsMarkedContiguous (kept_slot slots k) → IsTrue b ↔ IsApart t (k + 1)
  apart-none b fails none = (λ yes. absurd (both_ways b fails yes), λ a. absurd (none (apart-marked a)))

-- what the scan finds are the last notes
module _ (image : Image) (v : Volume) (r : Reading) (is : ShowsVolume v r) where
  abbrev pub Apart : ℕ → ℕ → ℕ → Type 0
  Apart = FoundAmong (λ k. IsApart v.table (k + 1)) (λ k. finding 10 (k + 1) 0) (length r.survey.slots.items)

  apart-noted : (n : ℕ) → IsApart v.table n → IsVolumeNote image v 10 n 0
  unfolding file_of
  apart-noted n a = not_contiguous n a.file (eq-eqb _ _ a.mark) a.apart

  found-noted : (code a b : ℕ) → Apart code a b → IsLastNote image v code a b
  found-noted code a b f =
      subst (λ (g : Finding). IsLastNote image v g.code g.a g.b) (sym f.is)
      (record { last = omega arith; note = apart-noted (f.number + 1) f.holds })

  noted-apart : (n : ℕ) → IsFile v.table n → IsTrue (has_contiguous_mark (file_of image v.table n))
      → ¬ AreContiguous (blocks_reached v.table n) → IsApart v.table n
  unfolding file_of
  noted-apart n file mark apart = record { file = file; mark = eqb-true _ _ mark; apart = apart }

  noted-found : (code a b : ℕ) → IsVolumeNote image v code a b → 9 < code → Apart code a b
  noted-found code a b (blocks_lost low high run) last = absurd (omega (arith, last))
  noted-found code a b (header_dead n dead) last = absurd (omega (arith, last))
  noted-found code a b (orphan n live later none) last = absurd (omega (arith, last))
  noted-found code a b (marked n file mark) last = absurd (omega (arith, last))
  noted-found code a b (not_closed n file was) last = absurd (omega (arith, last))
  noted-found code a b (in_no_directory n file none) last = absurd (omega (arith, last))
  noted-found code a b (names_no_file d i bytes e none) last = absurd (omega (arith, last))
  noted-found code a b (name_repeated d i bytes e again) last = absurd (omega (arith, last))
  noted-found code a b (no_name d i bytes e none) last = absurd (omega (arith, last))
  noted-found code a b (not_contiguous n file mark apart) last =
      let low = is.fit.low n file.live.in_use in
      let high = is.fit.high n file.live.in_use in
      let same : n - 1 + 1 ≡ n = omega (arith, low) in
      record {
        number = n - 1;
        below = omega (arith, low, high, is.surveys.slots.count);
        holds = subst (IsApart v.table) (sym same) (noted-apart n file mark apart);
        is = ap (λ (m : ℕ). finding 10 m 0) (sym same);
      }

  pub last-found : (old new : List Finding) → Finds Apart old new → Finds (IsLastNote image v) old new
  last-found old new finds =
      finds-same Apart (IsLastNote image v) old new finds found-noted (λ code a b n. noted-found code a b n.note n.last)
