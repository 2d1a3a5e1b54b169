-- Which entries stand for a file that can be copied, and where it lies.
use Rattle.std.proofs.Common.{◌≡◌, ℕ, ◌+◌, ◌<◌, ◌≤◌, ◌==◌, ◌||◌, Bool, true, false, nat_le, List, length, Option}
use Rattle.std.proofs.Common.{Some, None, Ok, refl, subst, arith}
use Rattle.std.proofs.lemmas.Bool.{and_parts, eqb-true}
use Rattle.std.proofs.lemmas.Bool.Decides.{nat_tests}
use Rattle.f11_dev.specs.Disk.{Disk}
use Rattle.rt11_volume.specs.AnyDirectory.{fits}
use Rattle.rt11_volume.specs.declared.any_entries.RtEntry.{RtEntry}
use Rattle.rt11_volume.specs.declared.area.RtKind.{RtKind}
use Rattle.rt11_volume.specs.declared.area.RtKind.TheVariants.{Tentative, Empty, Permanent}
use Rattle.rt11_copy.specs.Entries.{lies_within, name_by_kind, name_if_there, name_to_copy}
use Rattle.rt11_copy.specs.Reading.{HasArea}

-- the blocks of a file whose name is told are there
there-if : (there : Bool) (name : Option (List ℕ)) (found : List ℕ) → name_if_there there name ≡ Ok found → there ≡ true
there-if true name found is = refl
there-if false None found is = absurd (cc)
there-if false (Some name) found is = absurd (cc)

there-by : (kind : Option RtKind) (there : Bool) (name : Option (List ℕ)) (found : List ℕ) → name_by_kind kind there name ≡ Ok found
    → there ≡ true
there-by None there name found is = absurd (cc)
there-by (Some Tentative) there name found is = absurd (cc)
there-by (Some Empty) there name found is = absurd (cc)
there-by (Some Permanent) there name found is = there-if there name found is

within-by : (first blocks size : ℕ) (b : Bool) → (blocks == 0) ≡ b → (b || nat_le (first + blocks) size) ≡ true → (place : ℕ)
    → place < blocks → first + place < size
within-by first blocks size true none is place inside =
    let zero : blocks ≡ 0 = eqb-true blocks 0 none in absurd (omega (arith, zero, inside))
within-by first blocks size false some is place inside =
    let most : first + blocks ≤ size = grind (arith, nat_tests) in omega (arith, most, inside)

-- Where the file of an entry lies.
pub record IsPlaced (e : RtEntry) (disk : Disk) : Type 0 where
  pub fitting : e.first + e.blocks ≤ 65535
  pub there : HasArea e.first e.blocks disk

pub placed-file : (e : RtEntry) (size : ℕ) (name : List ℕ) (disk : Disk) → size ≡ length disk.image → name_to_copy size e ≡ Ok name
    → IsPlaced e disk
placed-file e size name disk same is =
    let there = there-by e.kind (lies_within size e) e.name name is in
    let parts = and_parts (fits e) (e.blocks == 0 || nat_le (e.first + e.blocks) size) there in
    let low : fits e ≡ true = parts.0 in
    record {
      fitting = grind (arith, nat_tests);
      there = λ place inside.
          subst (λ n. e.first + place < n) same (within-by e.first e.blocks size (e.blocks == 0) refl parts.1 place inside);
    }
