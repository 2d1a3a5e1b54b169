-- Which candidates for the home block headers name.
use Rattle.std.proofs.Common.{◌≡◌, ◌≤◌, ◌<◌, ◌+◌, ◌⊎◌, ◌||◌, inl, inr, ℕ, refl, ap, sym, ◌∙◌, subst, arith, Bool, true, false, List, ◌++◌}
use Rattle.std.proofs.Common.{Some, length, take, min, eqb, eqb-true, eq-eqb, ◌↔◌}
use Rattle.std.specs.Prelude.{Contains, IsTrue}
use Rattle.std.specs.List.{slice_get, range_with_len}
use Rattle.std.proofs.lemmas.Bool.{cases_lt}
use Rattle.std.proofs.lemmas.List.{take_all}
use Rattle.f11_dev.specs.Disk.{Disk}
use Rattle.f11_dev.specs.Looked.{Looked}
use Rattle.f11_dev.proofs.LookedLemmas.{looked_more, looked_within}
use Rattle.f11_header.specs.Fields.{map_area}
use Rattle.f11_home.specs.Home.{candidate, candidates}
use Rattle.f11_home.proofs.HomeLemmas.{candidate-below, candidates-above}
use Rattle.f11_map.specs.MapArea.{runs_of, blocks_in}
use Rattle.f11_map.specs.HeaderBlock.{segment_number, link_of, blocks_named}
use Rattle.f11_index.specs.IndexFile.{Index}
use Rattle.f11_index.specs.Table.{Table, table_in, IsNext, IsHeaderOf}
use Rattle.f11_index.proofs.BlockLemmas.{blocks_in-more}
use Rattle.f11_index.proofs.ChainLemmas.{file_of-header, same-segment, Links, links-before}
use Rattle.f11_index.proofs.HeadersLemmas.{live-some}
use Rattle.f11_chain.specs.Calls.{table, FindsNoFile, FindsLast, FindsWrongLink, IsNextOf, next_reads}
use Rattle.f11_chain.proofs.AlongLemmas.{Along, block-is, table-stays, honest-stays}
use Rattle.f11_vfy.specs.Surveying.Bits.{has, limit_of}
use Rattle.f11_vfy.specs.Frames.Earlier.{Puts, PutsNamed, JudgesEarlier}
use Rattle.f11_volume.specs.Earlier.{IsNamedIn, AreNamedBefore}
use Rattle.f11_vfy.specs.declared.survey.bits.Bits.{Bits}
use Rattle.f11_volume.proofs.MemberLemmas.{in-front, in-back, in-either, in-range, range-has}

-- none, and some after others
pub puts-none : (P : ℕ → Type 0) (b : Bits) → ((k : ℕ) → ¬ P k) → Puts P b b
puts-none P b none = record { limit = refl; kept = λ k is. is; all = λ k below holds. absurd (none k holds); only = λ k is. inl is }

pub puts-then : (P Q R : ℕ → Type 0) (a b c : Bits) → Puts P a b → Puts Q b c → ((k : ℕ) → P k → R k) → ((k : ℕ) → Q k → R k)
    → ((k : ℕ) → R k → P k ⊎ Q k) → Puts R a c
puts-then P Q R a b c one two p q r = record {
  limit = two.limit ∙ one.limit;
  kept = λ k is. two.kept k (one.kept k is);
  all = λ k below holds. elim (r k holds) [
    | inl x ↦ two.kept k (one.all k below x)
    | inr y ↦ two.all k (omega (arith, below, one.limit)) y
  ];
  only = λ k is. elim (two.only k is) [
    | inr y ↦ inr (q k y)
    | inl was ↦ elim (one.only k was) [ inl before ↦ inl before | inr x ↦ inr (p k x) ]
  ];
}

pub puts-same : (P Q : ℕ → Type 0) (a b : Bits) → Puts P a b → ((k : ℕ) → P k → Q k) → ((k : ℕ) → k < limit_of a → Q k → P k) → Puts Q a b
puts-same P Q a b puts to from = record {
  limit = puts.limit;
  kept = puts.kept;
  all = λ k below holds. puts.all k below (from k below holds);
  only = λ k is. elim (puts.only k is) [ inl before ↦ inl before | inr x ↦ inr (to k x) ];
}

either-true : (b c : Bool) → (b || c) ≡ true → (b ≡ true) ⊎ (c ≡ true)
either-true true c is = inl refl
either-true false c is = inr is

true-left : (b c : Bool) → b ≡ true → (b || c) ≡ true
true-left true c is = refl
true-left false c is = cc

true-right : (b c : Bool) → c ≡ true → (b || c) ≡ true
true-right true c is = refl
true-right false c is = is

-- one number
puts-one : (a b : Bits) (n : ℕ) → limit_of b ≡ limit_of a → ((j : ℕ) → has b j ≡ (has a j || eqb j n)) → Puts (λ k. k ≡ n) a b
puts-one a b n limit adds = record {
  limit = limit;
  kept = λ k is. adds k ∙ true-left _ _ is;
  all = λ k below same. adds k ∙ true-right _ _ (eq-eqb k n same);
  only = λ k is. elim (either-true _ _ (sym (adds k) ∙ is)) [ inl before ↦ inl before | inr same ↦ inr (eqb-true k n same) ];
}

-- the numbers of a run, as far as they were put
pub record InRun (first k end j : ℕ) : Type 0 where
  pub low : first ≤ j
  pub so_far : j < k
  pub high : j < end

pub run-none : (first end : ℕ) (b : Bits) → Puts (InRun first first end) b b
run-none first end b = puts-none _ b (λ k r. omega (arith, r.low, r.so_far))

pub run-more : (first k end : ℕ) (a b c : Bits) → first ≤ k → k < end → Puts (InRun first k end) a b → limit_of c ≡ limit_of b
    → ((j : ℕ) → has c j ≡ (has b j || eqb j k))
    → Puts (InRun first (k + 1) end) a c
run-more first k end a b c low high puts limit adds =
    puts-then (InRun first k end) (λ j. j ≡ k) (InRun first (k + 1) end) a b c puts (puts-one b c k limit adds)
    (λ j r. record { low = r.low; so_far = omega (arith, r.so_far); high = r.high })
    (λ j same. record { low = omega (arith, same, low); so_far = omega (arith, same); high = omega (arith, same, high) })
    (λ j r. elim (cases_lt j k) [
      | inl before ↦ inl (record { low = r.low; so_far = before; high = r.high })
      | inr here ↦ inr (omega (arith, here, r.so_far))
    ])

pub run-all : (lbn end k stop : ℕ) (a b : Bits) → stop ≡ min (candidates end) (limit_of a) → stop ≤ k
    → Puts (InRun (candidates lbn) k stop) a b
    → Puts (λ j. (lbn ≤ candidate j) × (candidate j < end)) a b
run-all lbn end k stop a b is past puts =
    puts-same (InRun (candidates lbn) k stop) (λ j. (lbn ≤ candidate j) × (candidate j < end)) a b puts to from
  where
    to : (j : ℕ) → InRun (candidates lbn) k stop j → (lbn ≤ candidate j) × (candidate j < end)
    to j r = (
      elim (cases_lt (candidate j) lbn) [
        | inl below ↦ let counted = candidates-above j lbn below in absurd (omega (arith, counted, r.low))
        | inr above ↦ above
      ],
      candidate-below j end (omega (arith, r.high, is)),
    )

    from : (j : ℕ) → j < limit_of a → (lbn ≤ candidate j) × (candidate j < end) → InRun (candidates lbn) k stop j
    from j below r =
        let counted = candidates-above j end r.1 in
        let high : j < stop = omega (arith, counted, below, is) in
        record {
          low = elim (cases_lt j (candidates lbn)) [
            | inl before ↦ let early = candidate-below j lbn before in absurd (omega (arith, early, r.0))
            | inr least ↦ least
          ];
          so_far = omega (arith, high, past);
          high = high;
        }

-- the blocks of the pointers so far
pub header-none : (runs : List (ℕ × ℕ)) (b : Bits) → Puts (λ k. Contains (blocks_in (take 0 runs)) (candidate k)) b b
header-none runs b = puts-none (λ k. Contains (blocks_in (take 0 runs)) (candidate k)) b (λ k has. omega (arith, has.1))

pub header-more : (runs : List (ℕ × ℕ)) (i : ℕ) (run : ℕ × ℕ) (a b c : Bits) → slice_get runs i ≡ Some run
    → Puts (λ k. Contains (blocks_in (take i runs)) (candidate k)) a b
    → Puts (λ k. (run.0 ≤ candidate k) × (candidate k < run.0 + run.1)) b c
    → Puts (λ k. Contains (blocks_in (take (i + 1) runs)) (candidate k)) a c
header-more runs i run a b c at one two =
    let before : List ℕ = blocks_in (take i runs) in
    let here : List ℕ = range_with_len run.0 run.1 in
    let more : blocks_in (take (i + 1) runs) ≡ before ++ here = blocks_in-more runs i run at in
    subst (λ (xs : List ℕ). Puts (λ k. Contains xs (candidate k)) a c) (sym more)
    (puts-then (λ k. Contains before (candidate k)) (λ k. (run.0 ≤ candidate k) × (candidate k < run.0 + run.1))
    (λ k. Contains (before ++ here) (candidate k)) a b c one two
    (λ k has. in-front before here (candidate k) has)
    (λ k r. in-back before here (candidate k) (range-has run.0 run.1 (candidate k) r.0 r.1))
    (λ k has. elim (in-either before here (candidate k) has)
    [ inl front ↦ inl front | inr back ↦ inr (in-range run.0 run.1 (candidate k) back) ]))

pub header-all : (b : List ℕ) (n : ℕ) (old new : Bits) → length (runs_of (map_area b)) ≤ n
    → Puts (λ k. Contains (blocks_in (take n (runs_of (map_area b)))) (candidate k)) old new
    → Puts (λ k. Contains (blocks_named b) (candidate k)) old new
unfolding blocks_named
header-all b n old new all puts =
    subst (λ (rs : List (ℕ × ℕ)). Puts (λ k. Contains (blocks_in rs) (candidate k)) old new) (take_all n (runs_of (map_area b)) all) puts

module _ (t : Table) (f : ℕ) where
  -- a header of file f of a segment before this names candidate j
  pub record IsNamedBefore (k j : ℕ) : Type 0 where
    pub header : ℕ
    pub of : IsHeaderOf t f header
    pub before : segment_number (t.header header) < k
    pub names : Contains (blocks_named (t.header header)) (candidate j)

  pub file-none : (b : Bits) → Puts (IsNamedBefore 0) b b
  file-none b = puts-none (IsNamedBefore 0) b (λ k r. omega (arith, r.before))

  pub file-more : (m k : ℕ) (block : List ℕ) (a b c : Bits) → IsHeaderOf t f m → segment_number (t.header m) ≡ k → block ≡ t.header m
      → Puts (IsNamedBefore k) a b
      → Puts (λ j. Contains (blocks_named block) (candidate j)) b c → Puts (IsNamedBefore (k + 1)) a c
  file-more m k block a b c of segment is one two =
      puts-then (IsNamedBefore k) (λ j. Contains (blocks_named block) (candidate j)) (IsNamedBefore (k + 1)) a b c one two
      (λ j r. record { header = r.header; of = r.of; before = omega (arith, r.before); names = r.names })
      (λ j has. record {
        header = m;
        of = of;
        before = omega (arith, segment);
        names = subst (λ (x : List ℕ). Contains (blocks_named x) (candidate j)) is has;
      })
      (λ j r. elim (cases_lt (segment_number (t.header r.header)) k) [
        | inl early ↦ inl (record { header = r.header; of = r.of; before = early; names = r.names })
        | inr here ↦
            let same : r.header ≡ m = same-segment r.of of (omega (arith, here, r.before, segment)) in
            inr (subst (λ (x : List ℕ). Contains (blocks_named x) (candidate j)) (ap t.header same ∙ sym is) r.names)
      ])

  pub file-all : (m k : ℕ) (a b : Bits) → IsHeaderOf t f m → segment_number (t.header m) ≡ k → ((to : ℕ) → ¬ IsNext t m to)
      → Puts (IsNamedBefore (k + 1)) a b
      → Puts (λ j. IsNamedIn t f (candidate j)) a b
  file-all m k a b of segment last puts =
      puts-same (IsNamedBefore (k + 1)) (λ j. IsNamedIn t f (candidate j)) a b puts
      (λ j r. (r.header, r.of, r.names))
      (λ j below r. record {
        header = r.0;
        of = r.1;
        before = elim (cases_lt k (segment_number (t.header r.0))) [
          | inl behind ↦
              let before : Links t f (segment_number (t.header m)) = links-before (segment_number (t.header m)) r.1
              (omega (arith, behind, segment)) in
              absurd (last before.to (subst (λ (x : ℕ). IsNext t x before.to) (same-segment before.of of before.number) before.goes))
          | inr within ↦ omega (arith, within)
        ];
        names = r.2;
      })

-- headers of a file were read so far
module _ (index : Index) (n m k : ℕ) (behind : List ℕ) (block : List ℕ) (old now : Disk) (along : Along index n m k behind block old now)
  where
    pub along-puts : (a b c : Bits) → (IsTrue old.honest → Puts (IsNamedBefore (table index old) n k) a b)
        → Puts (λ j. Contains (blocks_named block) (candidate j)) b c
        → IsTrue old.honest → Puts (IsNamedBefore (table index old) n (k + 1)) a c
    along-puts a b c one two honest =
        let at = along.reached honest in
        file-more (table index old) n m k block a b c at.of at.segment (block-is index n m k behind block old now along honest) (one honest)
        two

    -- and as far as there are
    pub looked-on : (new : Disk) (faults : ℕ) → Looked now new (next_reads block) faults → Looked old new 256 faults
    looked-on new faults looked = looked_within (looked_more along.looked looked) (omega (arith, along.few, along.segment))

    no-next : (new : Disk) → FindsWrongLink index block now new → IsTrue old.honest → (to : ℕ) → ¬ IsNext (table index old) m to
    no-next new finds honest to next =
        let same : table index now ≡ table index old = table-stays index old now along.reads along.looked in
        let here : block ≡ (table index old).header m = block-is index n m k behind block old now along honest in
        let none : (x : ℕ) → ¬ IsNextOf (table index old) block x =
        subst (λ (t : Table). (x : ℕ) → ¬ IsNextOf t block x) same
        (finds.wrong (honest-stays index old now along.reads along.looked honest))
        in
        none to record {
          to = next.to;
          number = ap (λ (b : List ℕ). (link_of b).number) here ∙ next.number;
          sequence = ap (λ (b : List ℕ). (link_of b).sequence) here ∙ next.sequence;
          segment = next.segment ∙ ap (λ (b : List ℕ). segment_number b + 1) (sym here);
        }

    none-linked : (link_of block).number ≡ 0 → IsTrue old.honest → (to : ℕ) → ¬ IsNext (table index old) m to
    none-linked none honest to next =
        let here : block ≡ (table index old).header m = block-is index n m k behind block old now along honest in
        let zero_is = sym next.number ∙ ap (λ (b : List ℕ). (link_of b).number) (sym here) ∙ none in
        omega (arith, zero_is, live-some next.to)

    all-put : (a b : Bits) → (IsTrue old.honest → (to : ℕ) → ¬ IsNext (table index old) m to)
        → (IsTrue old.honest → Puts (IsNamedBefore (table index old) n (k + 1)) a b)
        → IsTrue old.honest → Puts (λ j. IsNamedIn (table index old) n (candidate j)) a b
    all-put a b last puts honest =
        let at = along.reached honest in file-all (table index old) n m k a b at.of at.segment (last honest) (puts honest)

-- the headers of file 3 were read
module _ (index : Index) (m k : ℕ) (behind : List ℕ) (block : List ℕ) (old now : Disk) (along : Along index 3 m k behind block old now)
    (a b : Bits)
    (puts : IsTrue old.honest → Puts (IsNamedBefore (table index old) 3 (k + 1)) a b) where
  pub puts-last : (after : List ℕ) (new : Disk) → FindsLast block after now new → PutsNamed index a b old new
  puts-last after new finds = rw finds.disk_stays (record {
    puts = all-put index 3 m k behind block old now along a b (none-linked index 3 m k behind block old now along finds.no_link) puts;
    looked = looked_within along.looked (omega (arith, along.few));
  })

  pub puts-wrong : (new : Disk) → FindsWrongLink index block now new → PutsNamed index a b old new
  puts-wrong new finds = record {
    puts = all-put index 3 m k behind block old now along a b (no-next index 3 m k behind block old now along new finds) puts;
    looked = looked-on index 3 m k behind block old now along new 0 finds.looked;
  }

-- there is no file 3
pub puts-absent : (index : Index) (b : Bits) (old new : Disk) → FindsNoFile index 3 old new → PutsNamed index b b old new
puts-absent index b old new finds = record {
  puts = λ honest. puts-none (λ j. IsNamedIn (table index old) 3 (candidate j)) b (λ j is. finds.no_file honest (file_of-header is.1));
  looked = looked_within finds.looked (omega arith);
}

-- it is known of each candidate before the LBN whether it is named
pub judges : (index : Index) (lbn : ℕ) (named : Bool) (a b : Bits) (old new : Disk) → limit_of a ≡ candidates lbn
    → ((k : ℕ) → has a k ≡ false) → PutsNamed index a b old new
    → limit_of b ≡ limit_of a → IsTrue named ↔ ((k : ℕ) → k < limit_of b → has b k ≡ true) → JudgesEarlier index lbn named old new
judges index lbn named a b old new limit none puts same is = record { right = right; looked = puts.looked }
  where
    sound : IsTrue old.honest → (k : ℕ) → has b k ≡ true → IsNamedIn (table index old) 3 (candidate k)
    sound honest k at = elim ((puts.puts honest).only k at) [ inl before ↦ let no = sym before ∙ none k in cc | inr x ↦ x ]

    right : IsTrue old.honest → IsTrue named ↔ AreNamedBefore (table_in old.image index) lbn
    right honest = (
      λ yes k below. sound honest k (is.0 yes k (let counted = candidates-above k lbn below in omega (arith, counted, limit, same))),
      λ all. is.1 (λ k below. (puts.puts honest).all k (omega (arith, below, same))
          (all k (candidate-below k lbn (omega (arith, below, same, limit))))),
    )

-- there is no candidate before it
pub judges-none : (index : Index) (lbn : ℕ) (old : Disk) → candidates lbn ≡ 0 → Looked old old 0 0 → JudgesEarlier index lbn true old old
judges-none index lbn old none looked = record {
  right = λ honest. (λ yes k below. let counted = candidates-above k lbn below in absurd (omega (arith, counted, none)), λ all. refl);
  looked = looked_within looked (omega arith);
}
