-- Parts of a frame, judged one after another.
use Rattle.std.proofs.Common.{◌≡◌, ◌≤◌, ◌<◌, ◌+◌, ◌-◌, inl, inr, ℕ, ap, sym, ◌∙◌, subst, arith, Bool, true, false, List, [], ◌∷◌, ◌++◌}
use Rattle.std.proofs.Common.{Some, length, take, drop, eqb, eqb-true, eq-eqb, ◌↔◌, append_assoc}
use Rattle.std.specs.Prelude.{All, IsTrue}
use Rattle.std.specs.List.{slice_get, range_with_len}
use Rattle.std.proofs.lemmas.Bool.{cases_lt, both_ways}
use Rattle.std.proofs.lemmas.List.{append-nil, take_all, take-append-drop, length-take}
use Rattle.std.proofs.lemmas.Grind.{flat_map-append}
use Rattle.f11_dev.specs.Disk.{Disk}
use Rattle.f11_dev.specs.Looked.{Looked}
use Rattle.f11_dev.proofs.LookedLemmas.{looked_more, looked_within}
use Rattle.f11_header.specs.Fields.{map_area, file_sequence}
use Rattle.f11_map.specs.MapArea.{runs_of, blocks_in}
use Rattle.f11_map.proofs.MapLemmas.{blocks_in-append}
use Rattle.f11_map.specs.HeaderBlock.{segment_number, link_of, blocks_named}
use Rattle.f11_index.specs.Headers.{headers_from, IsLastOf}
use Rattle.f11_index.specs.IndexFile.{Index}
use Rattle.f11_index.specs.Table.{Table, table_in}
use Rattle.f11_index.proofs.BlockLemmas.{blocks_in-more}
use Rattle.f11_index.proofs.HeadersLemmas.{link_number, last-whole}
use Rattle.f11_index.proofs.PlaceLemmas.{take-append_take, range-below}
use Rattle.f11_chain.specs.FileHeaders.{blocks_by, file_blocks}
use Rattle.f11_chain.specs.Calls.{table, ReadsFirst, FindsLast}
use Rattle.f11_chain.proofs.AlongLemmas.{Along, HoldsHeader-live, block-is, header-some, table-stays, honest-stays}
use Rattle.f11_chain.proofs.ReachedLemmas.{blocks-split, blocks-last}
use Rattle.f11_volume.specs.Faults.{IsOwnFile}
use Rattle.f11_vfy.specs.Frames.Parts.{JudgesOwnFile, FindsNoOwnFile, needed, KeepsIf, ReadsBitmapFile, FindsNoBitmapFile}
use Rattle.f11_volume.proofs.MemberLemmas.{all-append, all-front, all-back, all-take, run-below}

-- header n was read, as the first of a file
pub judges-own : (index : Index) (n sequence : ℕ) (block : List ℕ) (old new : Disk) → sequence ≡ file_sequence block
    → ReadsFirst index n block old new
    → JudgesOwnFile index n (eqb sequence n) old new
judges-own index n sequence block old new is reads = record {
  right = λ honest.
      let here : block ≡ (table index old).header n = reads.header.block_is honest in (
        λ same. record {
          file = record {
            live = HoldsHeader-live index n block old reads.header honest;
            first = ap segment_number (sym here)
                ∙ reads.first;
          };
          sequence = ap file_sequence (sym here) ∙ sym is ∙ eqb-true sequence n same;
        },
        λ own. eq-eqb sequence n (is ∙ ap file_sequence here ∙ own.sequence),
      );
  looked = reads.looked;
}

-- the files so far are their own, and this one is or isn't
module _ (index : Index) (n : ℕ) (own : Bool) (old now new : Disk)
    (before : IsTrue old.honest → (m : ℕ) → 2 ≤ m → m < n → IsOwnFile (table_in old.image index) m) (low : 2 ≤ n) (high : n ≤ 4)
    (looked : Looked old now (n - 2) 0) (judged : JudgesOwnFile index n own now new) where
  right : IsTrue old.honest → IsTrue own ↔ IsOwnFile (table_in old.image index) n
  right honest =
      subst (λ (t : Table). IsTrue own ↔ IsOwnFile t n) (table-stays index old now (n - 2) looked)
      (judged.right (honest-stays index old now (n - 2) looked honest))

  pub finds-none : own ≡ false → FindsNoOwnFile index n old new
  finds-none not = record {
    first = λ honest. record { low = low; high = high; no_file = λ is. both_ways own not ((right honest).1 is); first = before honest };
    looked = looked_within (looked_more looked judged.looked) (omega (arith, low, high));
  }

  pub own-more : own ≡ true → IsTrue old.honest → (m : ℕ) → 2 ≤ m → m < n + 1 → IsOwnFile (table_in old.image index) m
  own-more is honest m least below = elim (cases_lt m n) [
    | inl early ↦ before honest m least early
    | inr here ↦ subst (λ (k : ℕ). IsOwnFile (table_in old.image index) k) (omega (arith, here, below)) ((right honest).0 is)
  ]

-- blocks kept behind others
pub keeps-none : (runs : List (ℕ × ℕ)) (end : ℕ) (old : List ℕ) → length old ≤ 127
    → All (λ l. l < end) (blocks_in (take 0 runs)) × (old ≡ needed (old ++ blocks_in (take 0 runs)))
keeps-none runs end old few = (λ k d below. absurd (omega (arith, below)), sym (ap (take 127) (append-nil old) ∙ take_all 127 old few))

pub keeps-more : (runs : List (ℕ × ℕ)) (end i : ℕ) (run : ℕ × ℕ) (old now new : List ℕ) → slice_get runs i ≡ Some run → run.0 + run.1 ≤ end
    → All (λ l. l < end) (blocks_in (take i runs)) × (now ≡ needed (old ++ blocks_in (take i runs)))
    → new ≡ needed (now ++ range_with_len run.0 run.1)
    → All (λ l. l < end) (blocks_in (take (i + 1) runs)) × (new ≡ needed (old ++ blocks_in (take (i + 1) runs)))
keeps-more runs end i run old now new at within so_far is =
    let front : List ℕ = blocks_in (take i runs) in
    let here : List ℕ = range_with_len run.0 run.1 in
    let more : blocks_in (take (i + 1) runs) ≡ front ++ here = blocks_in-more runs i run at in (
      subst (All (λ l. l < end)) (sym more) (all-append (λ l. l < end) front here so_far.0 (range-below run.0 run.1 end within)),
      is ∙ ap (λ (xs : List ℕ). needed (xs ++ here)) so_far.1 ∙ take-append_take 127 (old ++ front) here
          ∙ ap needed (append_assoc old front here ∙ ap (λ (xs : List ℕ). old ++ xs) (sym more)),
    )

pub keeps-all : (b : List ℕ) (n end : ℕ) (old new : List ℕ) → length (runs_of (map_area b)) ≤ n
    → All (λ l. l < end) (blocks_in (take n (runs_of (map_area b)))) × (new ≡ needed (old ++ blocks_in (take n (runs_of (map_area b)))))
    → KeepsIf true (blocks_named b) end old new
unfolding blocks_named
keeps-all b n end old new all so_far =
    subst (λ (rs : List (ℕ × ℕ)). All (λ l. l < end) (blocks_in rs) × (new ≡ needed (old ++ blocks_in rs)))
    (take_all n (runs_of (map_area b)) all) so_far

-- nothing is kept
pub nothing-kept : (kept : List ℕ) → kept ≡ [] → kept ≡ needed []
nothing-kept kept is = is

pub none-within : (end : ℕ) (kept : List ℕ) → kept ≡ [] → All (λ l. l < end) kept
none-within end kept is = λ k d below. absurd (omega (arith, below, ap length is))

-- what is kept is on the device, and isn't more than is needed
pub kept-within : (end : ℕ) (more old new : List ℕ) → All (λ l. l < end) old → KeepsIf true more end old new → All (λ l. l < end) new
kept-within end more old new all keeps =
    subst (All (λ l. l < end)) (sym keeps.1) (all-take (λ l. l < end) 127 (old ++ more) (all-append (λ l. l < end) old more all keeps.0))

pub kept-few : (end : ℕ) (more old new : List ℕ) → KeepsIf true more end old new → length new ≤ 127
kept-few end more old new keeps = omega (arith, ap length keeps.1, length-take 127 (old ++ more))

-- a pointer's last block isn't on the device
pub past-end : (b : List ℕ) (i end : ℕ) (run : ℕ × ℕ) → slice_get (runs_of (map_area b)) i ≡ Some run → 0 < run.1 → end < run.0 + run.1
    → ¬ All (λ l. l < end) (blocks_named b)
unfolding blocks_named
past-end b i end run at some past all =
    let runs : List (ℕ × ℕ) = runs_of (map_area b) in
    let P : ℕ → Type 0 = λ l. l < end in
    let split : blocks_in runs ≡ blocks_in (take (i + 1) runs) ++ blocks_in (drop (i + 1) runs) =
    ap blocks_in (sym (take-append-drop (i + 1) runs)) ∙ blocks_in-append (take (i + 1) runs) (drop (i + 1) runs) in
    let front = all-front P (blocks_in (take (i + 1) runs)) (blocks_in (drop (i + 1) runs)) (subst (All P) split all) in
    let here = all-back P (blocks_in (take i runs)) (range_with_len run.0 run.1) (subst (All P) (blocks_in-more runs i run at) front) in
    let within = run-below run.0 run.1 end some here in
    omega (arith, within, past)

module _ (index : Index) (m k : ℕ) (behind : List ℕ) (block : List ℕ) (old now : Disk) (along : Along index 2 m k behind block old now)
  where
    abbrev t : Table
    t = table index old

    abbrev size : ℕ
    size = length old.image

    here-is : IsTrue old.honest → block ≡ t.header m
    here-is honest = block-is index 2 m k behind block old now along honest

    some : 0 < m
    some = header-some index 2 m k behind block old now along

    -- the blocks so far are those of the headers behind it
    pub kept-more : (kept after : List ℕ) → (IsTrue old.honest → kept ≡ needed (blocks_by t behind))
        → after ≡ needed (kept ++ blocks_named block)
        → IsTrue old.honest → after ≡ needed (blocks_by t (behind ++ m ∷ []))
    kept-more kept after so_far is honest =
        let named : ℕ → List ℕ = λ h. blocks_named (t.header h) in
        let all : blocks_by t (behind ++ m ∷ []) ≡ blocks_by t behind ++ blocks_named (t.header m) =
        flat_map-append named behind (m ∷ []) ∙ ap (λ (b : List ℕ). blocks_by t behind ++ b) (append-nil (blocks_named (t.header m))) in
        is ∙ ap (λ (xs : List ℕ). needed (xs ++ blocks_named block)) (so_far honest)
        ∙ take-append_take 127 (blocks_by t behind) (blocks_named block)
        ∙ ap (λ (b : List ℕ). needed (blocks_by t behind ++ blocks_named b)) (here-is honest) ∙ ap needed (sym all)

    pub within-more : (IsTrue old.honest → All (λ l. l < size) (blocks_by t behind)) → All (λ l. l < size) (blocks_named block)
        → IsTrue old.honest → All (λ l. l < size) (blocks_by t (behind ++ m ∷ []))
    within-more so_far all honest =
        let named : ℕ → List ℕ = λ h. blocks_named (t.header h) in
        let split : blocks_by t (behind ++ m ∷ []) ≡ blocks_by t behind ++ blocks_named (t.header m) =
        flat_map-append named behind (m ∷ []) ∙ ap (λ (b : List ℕ). blocks_by t behind ++ b) (append-nil (blocks_named (t.header m))) in
        subst (All (λ l. l < size)) (sym split)
        (all-append (λ l. l < size) (blocks_by t behind) (blocks_named (t.header m)) (so_far honest)
        (subst (λ (b : List ℕ). All (λ l. l < size) (blocks_named b)) (here-is honest) all))

    -- a block of it isn't on the device
    pub bad-block : ¬ All (λ l. l < size) (blocks_named block) → FindsNoBitmapFile index old now
    bad-block out = record {
      not = λ honest sound.
          let at = along.reached honest in
          let front : List ℕ = blocks_by t behind in
          let here : List ℕ = blocks_named (t.header m) in
          let rest : List ℕ = blocks_by t (headers_from (255 - k) t (link_number t m)) in
          let all : All (λ l. l < size) (front ++ (here ++ rest)) =
          subst (All (λ l. l < size)) (blocks-split t 2 m k behind at some along.few) sound.within in
          let there : All (λ l. l < size) here = all-front (λ l. l < size) here rest (all-back (λ l. l < size) front (here ++ rest) all) in
          out (subst (λ (b : List ℕ). All (λ l. l < size) (blocks_named b)) (sym (here-is honest)) there);
      looked = looked_within along.looked (omega (arith, along.few));
    }

    -- it is the last
    pub reads-file : (kept first : List ℕ) (after : List ℕ) (new : Disk) → (IsTrue old.honest → kept ≡ needed (blocks_by t behind))
        → (IsTrue old.honest → All (λ l. l < size) (blocks_by t behind))
        → All (λ l. l < size) kept → KeepsIf true (blocks_named block) size kept first → FindsLast block after now new
        → ReadsBitmapFile index first old new
    reads-file kept first after new so_far within on_device keeps finds = rw finds.disk_stays (record {
      sound = λ honest. record {
        whole = last-whole t 2 m (is-last honest);
        within = subst (All (λ l. l < size)) (sym (all honest)) (within-more within keeps.0 honest);
      };
      first_are = λ honest. kept-more kept first so_far keeps.1 honest ∙ ap needed (sym (all honest));
      within = kept-within size (blocks_named block) kept first on_device keeps;
      few = kept-few size (blocks_named block) kept first keeps;
      looked = looked_within along.looked (omega (arith, along.few));
    })
      where
        is-last : IsTrue old.honest → IsLastOf t 2 m
        is-last honest =
            record {
              of = (along.reached honest).of;
              no_link = ap (λ (b : List ℕ). (link_of b).number) (sym (here-is honest))
                  ∙ finds.no_link;
            }

        all : IsTrue old.honest → file_blocks t 2 ≡ blocks_by t (behind ++ m ∷ [])
        all honest =
            let named : ℕ → List ℕ = λ h. blocks_named (t.header h) in
            blocks-last t 2 m k behind (along.reached honest) some along.few (is-last honest).no_link
            ∙ sym (flat_map-append named behind (m ∷ []) ∙ ap (λ (b : List ℕ). blocks_by t behind ++ b)
            (append-nil (blocks_named (t.header m))))
