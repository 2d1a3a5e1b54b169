-- A header that is killed is dead, and what killing orphans one after another comes to.
use Rattle.std.proofs.Common.{◌≡◌, ℕ, false, List, length, inl, inr, set, ap, sym, subst, ◌∙◌, arith}
use Rattle.std.proofs.lemmas.Bool.{both_ways, cases_Bool, cases_lt}
use Rattle.std.proofs.lemmas.List.{get_or-set_same, get_or-set_other, get_or_past, length-set}
use Rattle.std.specs.Prelude.{slice_index}
use Rattle.f11_bytes.specs.Words.{word, with_word}
use Rattle.f11_bytes.proofs.WordLemmas.{word-with_word_apart}
use Rattle.f11_header.specs.Header.{IsDead, IsHeader}
use Rattle.f11_header.specs.Writing.{dead_header}
use Rattle.f11_header.proofs.HeaderFacts.{dead-not-valid}
use Rattle.f11_index.specs.Headers.{IsInFile}
use Rattle.f11_index.specs.Table.{Table, IsLive}
use Rattle.f11_vfy.specs.Reclaiming.Slots.{IsOrphan, IsKeptOrKilled, as_it_was, killed_orphan, KeepsOrKills, LeavesDead}

-- a byte that is made 0, or isn't there
byte-zeroed : (b : List ℕ) (i : ℕ) → slice_index (set b i 0) i ≡ 0
byte-zeroed b i = elim (cases_lt i (length b)) [
  | inl below ↦ get_or-set_same b i 0 0 below
  | inr past ↦ get_or_past (set b i 0) i 0 (omega (arith, past, length-set b i 0))
]

pub dead-is-dead : (b : List ℕ) → IsDead (dead_header b)
dead-is-dead b =
    let low : slice_index (with_word b 2 0) 2 ≡ 0 = get_or-set_other (set b 2 0) 3 2 0 0 (omega arith) ∙ byte-zeroed b 2 in
    let high : slice_index (with_word b 2 0) 3 ≡ 0 = byte-zeroed (set b 2 0) 3 in
    let number : word (with_word b 2 0) 2 ≡ 0 = omega (arith, low, high) in
    word-with_word_apart (with_word b 2 0) 510 0 2 (inl (omega arith)) ∙ number

-- one that is live was not killed
pub live-kept : (t u : Table) (n : ℕ) → IsKeptOrKilled t u n → IsLive u n → u.header n ≡ t.header n
live-kept t u n (as_it_was same) live = same
live-kept t u n (killed_orphan orphan dead) live =
    absurd (dead-not-valid (dead_header (t.header n)) n (dead-is-dead (t.header n)) (subst (λ (b : List ℕ). IsHeader b n) dead live.valid))

-- nor one of a file
pub in-file-kept : (t u : Table) (n : ℕ) → IsKeptOrKilled t u n → IsInFile t n → u.header n ≡ t.header n
in-file-kept t u n (as_it_was same) within = same
in-file-kept t u n (killed_orphan orphan dead) within = absurd (orphan.of_none within)

-- an orphan whose header is dead was killed
pub orphan-dead : (t u : Table) (n : ℕ) → IsKeptOrKilled t u n → IsOrphan t n → IsDead (u.header n) → u.header n ≡ dead_header (t.header n)
orphan-dead t u n (as_it_was same) orphan dead =
    absurd (dead-not-valid (u.header n) n dead (subst (λ (b : List ℕ). IsHeader b n) (sym same) orphan.live.valid))
orphan-dead t u n (killed_orphan was is) orphan dead = is

-- what is kept or killed twice is so once, where an orphan between was one before
pub kept-then : (t u v : Table) (n : ℕ) → (IsOrphan u n → IsOrphan t n) → IsKeptOrKilled t u n → IsKeptOrKilled u v n → IsKeptOrKilled t v n
kept-then t u v n was (as_it_was one) (as_it_was two) = as_it_was (two ∙ one)
kept-then t u v n was (killed_orphan orphan one) (as_it_was two) = killed_orphan orphan (two ∙ one)
kept-then t u v n was (as_it_was one) (killed_orphan orphan two) = killed_orphan (was orphan) (two ∙ ap dead_header one)
kept-then t u v n was (killed_orphan before one) (killed_orphan orphan two) =
    killed_orphan before (two ∙ ap dead_header (live-kept t u n (killed_orphan before one) orphan.live))

-- a slot that has left use, by its two steps
pub left-then : (t u v : Table) (n : ℕ) → (u.in_use n ≡ false → IsDead (u.header n)) → LeavesDead u v → IsKeptOrKilled u v n
    → v.in_use n ≡ false → IsDead (v.header n)
left-then t u v n one two (as_it_was same) gone = elim (cases_Bool (u.in_use n)) [
  | inl used ↦ two n used gone
  | inr unused ↦ subst IsDead (sym same) (one unused)
]
left-then t u v n one two (killed_orphan orphan dead) gone = two n orphan.live.in_use gone

-- the same table
pub same-kept : (t u : Table) → u ≡ t → KeepsOrKills t u
same-kept t u same n some few = as_it_was (ap (λ (x : Table). x.header n) same)

pub same-left : (t u : Table) → u ≡ t → LeavesDead t u
same-left t u same n used gone = absurd (both_ways _ gone (ap (λ (x : Table). x.in_use n) same ∙ used))
