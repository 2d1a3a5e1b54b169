-- What the notes have, and what they have not.
use Rattle.std.proofs.Common.{◌≡◌, inl, inr, ℕ, zero, suc, ◌+◌, ◌-◌, ◌<◌, ◌≤◌, sym, subst, arith}
use Rattle.std.proofs.lemmas.Bool.{cases_eq, cases_lt}
use Rattle.f11_dev.specs.Image.{Image}
use Rattle.f11_chain.specs.map.HeaderBlock.{segment_number}
use Rattle.f11_chain.specs.index.Headers.{IsInFile}
use Rattle.f11_chain.specs.index.Table.{first}
use Rattle.f11_volume.specs.Contents.{blocks_reached}
use Rattle.f11_volume.specs.Notes.{IsLost, IsLostRun, IsEntered, AreContiguous, IsVolumeNote, blocks_lost, orphan, in_no_directory}
use Rattle.f11_volume.specs.Notes.{not_contiguous}
use Rattle.f11_volume.specs.NoteLaws.{LostRunsAreApart, IsInNoRun, LostRunsHaveTheLost, OrphansAreNoFiles, OthersAreEntered, StandsFrom}
use Rattle.f11_volume.specs.NoteLaws.{OthersAreContiguous}
use Rattle.f11_volume.specs.Volume.{Volume}
use Rattle.f11_volume.proofs.ContiguousLemmas.{contiguous-stands, stands-contiguous}

-- what a note of this code says
run-noted : {image : Image} {v : Volume} {low high : ℕ} → IsVolumeNote image v 1 low high → IsLostRun v low high
run-noted (blocks_lost low high run) = run

orphan-noted : {image : Image} {v : Volume} {n : ℕ} → IsVolumeNote image v 3 n 0 → ¬ IsInFile v.table n
orphan-noted (orphan n live later none) = none

lonely-noted : {image : Image} {v : Volume} {n : ℕ} → IsVolumeNote image v 6 n 0 → ¬ IsEntered image v.table n
lonely-noted (in_no_directory n file none) = none

apart-noted : {image : Image} {v : Volume} {n : ℕ} → IsVolumeNote image v 10 n 0 → ¬ AreContiguous (blocks_reached v.table n)
apart-noted (not_contiguous n file mark apart) = apart

-- a run that begins before another ends before the block in front of that one
ends-before : (v : Volume) (low high next last : ℕ) → IsLostRun v low high → IsLostRun v next last → low < next → high + 1 < next
ends-before v low high next last one other begins = elim (cases_lt (high + 1) next) [
  | inl apart ↦ apart
  | inr near ↦ elim (cases_eq (high + 1) next) [
    | inl same ↦ absurd (one.after (subst (IsLost v) (sym same) (other.each next (omega arith) other.some)))
    | inr within ↦
        absurd (other.before (omega (arith, begins)) (one.each (next - 1) (omega (arith, begins)) (omega (arith, near, within))))
  ]
]

-- two that begin at one block end at one
ends-with : (v : Volume) (low high last : ℕ) → IsLostRun v low high → IsLostRun v low last → ¬ (high < last)
ends-with v low high last one other less =
    let some : low ≤ high = one.some in
    one.after (other.each (high + 1) (omega (arith, some)) (omega (arith, less)))

pub runs-apart : LostRunsAreApart
runs-apart image v low high next last one other = elim (cases_lt low next) [
  | inl front ↦ inr (inl (ends-before v low high next last (run-noted one) (run-noted other) front))
  | inr not ↦ elim (cases_lt next low) [
    | inl behind ↦ inr (inr (ends-before v next last low high (run-noted other) (run-noted one) behind))
    | inr nor ↦ let same : low ≡ next = omega (arith, not, nor) in inl (same, ends same)
  ]
]
  where
    ends : low ≡ next → high ≡ last
    ends same =
        let second : IsLostRun v low last = subst (λ (n : ℕ). IsLostRun v n last) (sym same) (run-noted other) in
        elim (cases_lt high last) [
          | inl less ↦ absurd (ends-with v low high last (run-noted one) second less)
          | inr not ↦ elim (cases_lt last high) [
            | inl more ↦ absurd (ends-with v low last high second (run-noted one) more)
            | inr nor ↦ omega (arith, not, nor)
          ]
        ]

-- the lost blocks from this one to n, with none in front
record Begins (v : Volume) (n : ℕ) : Type 0 where
  pub low : ℕ
  pub some : low ≤ n
  pub each : (lbn : ℕ) → low ≤ lbn → lbn ≤ n → IsLost v lbn
  pub before : 0 < low → ¬ IsLost v (low - 1)

-- and from n to this one, with none behind
record Ends (v : Volume) (n : ℕ) : Type 0 where
  pub high : ℕ
  pub some : n ≤ high
  pub each : (lbn : ℕ) → n ≤ lbn → lbn ≤ high → IsLost v lbn
  pub after : ¬ IsLost v (high + 1)

alone : (v : Volume) (n : ℕ) → IsLost v n → (lbn : ℕ) → n ≤ lbn → lbn ≤ n → IsLost v lbn
alone v n lost lbn low high = let same : n ≡ lbn = omega (arith, low, high) in subst (IsLost v) same lost

begins : (v : Volume) (n : ℕ) → IsLost v n → ¬ (¬ Begins v n)
begins v zero lost nowhere =
    nowhere (record { low = 0; some = omega arith; each = alone v 0 lost; before = λ above. absurd (omega (arith, above)) })
begins v (suc n) lost nowhere = nowhere (record {
  low = suc n;
  some = omega arith;
  each = alone v (suc n) lost;
  before = λ above. λ also. begins v n (let same : suc n - 1 ≡ n = omega arith in subst (IsLost v) same also) (λ b. nowhere (record {
    low = b.low;
    some = omega (arith, b.some);
    each = λ lbn low high. elim (cases_eq lbn (suc n)) [
      | inl same ↦ subst (IsLost v) (sym same) lost
      | inr not ↦ b.each lbn low (omega (arith, high, not))
    ];
    before = b.before;
  }));
})

ends : (v : Volume) (left n : ℕ) → n + left ≡ v.size → IsLost v n → ¬ (¬ Ends v n)
ends v zero n size lost nowhere = let inside : n < v.size = lost.inside in omega (arith, size, inside)
ends v (suc left) n size lost nowhere = nowhere (record {
  high = n;
  some = omega arith;
  each = alone v n lost;
  after = λ also. ends v left (n + 1) (omega (arith, size)) also (λ e. nowhere (record {
    high = e.high;
    some = omega (arith, e.some);
    each = λ lbn low high. elim (cases_eq lbn n) [
      | inl same ↦ subst (IsLost v) (sym same) lost
      | inr not ↦ e.each lbn (omega (arith, low, not)) high
    ];
    after = e.after;
  }));
})

-- both together are a run
joined : (v : Volume) (n : ℕ) (b : Begins v n) (e : Ends v n) → IsLostRun v b.low e.high
joined v n b e = record {
  some = omega (arith, b.some, e.some);
  each = λ lbn low high. elim (cases_lt n lbn) [ inl behind ↦ e.each lbn (omega (arith, behind)) high | inr not ↦ b.each lbn low not ];
  before = b.before;
  after = e.after;
}

pub runs-have : LostRunsHaveTheLost
runs-have image v lbn = (
  λ (none : IsInNoRun image v lbn). λ (lost : IsLost v lbn).
      begins v lbn lost (λ b. ends v (v.size - lbn) lbn (let inside : lbn < v.size = lost.inside in omega (arith, inside)) lost (λ e.
      none b.low e.high (blocks_lost b.low e.high (joined v lbn b e)) b.some e.some)),
  λ (not : ¬ IsLost v lbn). λ low high note under over. not ((run-noted note).each lbn under over),
)

pub orphans-are : OrphansAreNoFiles
orphans-are image v n live = (
  orphan-noted,
  λ (none : ¬ IsInFile v.table n). orphan n live (later none) none,
)
  where
    later : ¬ IsInFile v.table n → 0 < segment_number (v.table.header n)
    later none = elim (cases_eq (segment_number (v.table.header n)) 0) [
      | inl same ↦ absurd (none (record { file = n; of = first (record { live = live; first = same }) }))
      | inr not ↦ omega (arith, not)
    ]

pub others-are : OthersAreEntered
others-are image v n file = (lonely-noted, λ (none : ¬ IsEntered image v.table n). in_no_directory n file none)

pub contiguous-are : OthersAreContiguous
contiguous-are image v n file mark = (
  λ note. λ k stands. apart-noted note (stands-contiguous k (blocks_reached v.table n) stands),
  λ (nowhere : (k : ℕ) → ¬ StandsFrom k (blocks_reached v.table n)).
      not_contiguous n file mark (λ is. nowhere _ (contiguous-stands (blocks_reached v.table n) is)),
)
