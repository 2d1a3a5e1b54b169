-- Which file an identification is that of, and the records that are still to come of a directory.
use Rattle.std.proofs.Common.{◌≡◌, ◌+◌, ◌<◌, ◌==◌, ◌&&◌, ◌++◌, ℕ, zero, suc, Bool, true, false, List, [], ◌∷◌, length, drop, map, take}
use Rattle.std.proofs.Common.{Some, None, cond, refl, sym, ap, ◌∙◌, inl, inr, arith}
use Rattle.std.proofs.Math.Seq.{drop-cons}
use Rattle.std.proofs.lemmas.Bool.{cases_Bool, eq-eqb, eqb-true}
use Rattle.std.proofs.lemmas.List.{drop_all}
use Rattle.std.proofs.lemmas.List.Concat.{flat_map-cons}
use Rattle.std.proofs.lemmas.List.FromFn.{get_or-map-range_with_len, length-map-range_with_len}
use Rattle.std.specs.Cmp.Derive.{both_true}
use Rattle.std.specs.List.{range_with_len}
use Rattle.f11_dev.specs.Disk.{Disk}
use Rattle.f11_dev.specs.Image.{Image}
use Rattle.f11_dir.specs.Records.{records_in}
use Rattle.f11_image_store.proofs.StoreLemmas.{first-is-tested}
use Rattle.f11_image_store.specs.StoreOf.{is_first}
use Rattle.f11_index.specs.IndexFile.{Index}
use Rattle.f11_index.specs.Table.{Table, last_sequence}
use Rattle.f11_reader.specs.Reading.{contents_to_come}
use Rattle.f11_store.specs.Directory.{record_in}
use Rattle.f11_store.specs.declared.files.FileId.{FileId}
use Rattle.f11_volume.specs.Contents.{file_of}
use Rattle.f11_volume.specs.Notes.{IsIdOf}
use Rattle.f11_catalog.specs.Records.{all_records, file_named, is_id_of_file, records_to_come}
use Rattle.f11_catalog.specs.declared.directory.DirectoryReader.{DirectoryReader}

-- a test of three parts
left-true : (a b : Bool) → (a && b) ≡ true → a ≡ true
left-true true b both = refl
left-true false b both = cc

right-true : (a b : Bool) → (a && b) ≡ true → b ≡ true
right-true true b both = both
right-true false b both = cc

-- an identification that passes the test is a file's, and the other way round
pub tested-id : (t : Table) (id : FileId) → is_id_of_file t id ≡ true → IsIdOf t id id.number
unfolding is_id_of_file
tested-id t id passes =
    let here = left-true (id.volume == 0) _ passes in
    let both = right-true (id.volume == 0) _ passes in
    record {
      file = (first-is-tested t id.number).0 (left-true (is_first t id.number) _ both);
      number = refl;
      sequence = sym (eqb-true (last_sequence t id.number) id.sequence (right-true (is_first t id.number) _ both));
      here = eqb-true id.volume 0 here;
    }

pub id-passes : (t : Table) (id : FileId) (n : ℕ) → IsIdOf t id n → is_id_of_file t id ≡ true
unfolding is_id_of_file
id-passes t id n is =
    both_true (eq-eqb id.volume 0 is.here)
    (both_true (ap (is_first t) is.number ∙ (first-is-tested t n).1 is.file)
    (eq-eqb (last_sequence t id.number) id.sequence (ap (last_sequence t) is.number ∙ sym is.sequence)))

-- the file that it names
pub named-some : (image : Image) (t : Table) (id : FileId) (n : ℕ) → IsIdOf t id n → file_named image t id ≡ Some (file_of image t n)
named-some image t id n is =
    ap (λ (b : Bool). cond b (Some (file_of image t id.number)) None) (id-passes t id n is) ∙ ap (λ m. Some (file_of image t m)) is.number

pub named-none : (image : Image) (t : Table) (id : FileId) → ((n : ℕ) → ¬ IsIdOf t id n) → file_named image t id ≡ None
named-none image t id none = elim (cases_Bool (is_id_of_file t id)) [
  | inl passes ↦ absurd (none id.number (tested-id t id passes))
  | inr fails ↦ ap (λ (b : Bool). cond b (Some (file_of image t id.number)) None) fails
]

-- a block's records behind the first so many
pub records-long : (block : List ℕ) → length (records_in block 32) ≡ 32
unfolding records_in
records-long block = length-map-range_with_len (record_in block) 0 32

pub records-behind : (block : List ℕ) (at : ℕ) → at < 32
    → drop at (records_in block 32) ≡ record_in block at ∷ drop (at + 1) (records_in block 32)
unfolding records_in
records-behind block at low =
    let records = map (record_in block) (range_with_len 0 32) in
    let long = length-map-range_with_len (record_in block) 0 32 in
    let on : suc at ≡ at + 1 = omega arith in
    drop-cons records at [] (omega (arith, low, long))
    ∙ ap (λ r. r ∷ drop (suc at) records) (get_or-map-range_with_len (record_in block) 0 32 at at [] low (omega arith))
    ∙ ap (λ k. record_in block at ∷ drop k records) on

take-none : (k : ℕ) → ◌≡◌ {A = List (List ℕ)} (take k []) []
take-none zero = refl
take-none (suc k) = refl

-- Records of a directory are to come.
module _ (index : Index) (disk : Disk) (directory : DirectoryReader) where
  abbrev blocks : List (List ℕ)
  blocks = contents_to_come index disk directory.file

  -- those of other blocks alone, where the block in hand has no more
  pub coming-behind : directory.at ≡ 32 → records_to_come index disk directory ≡ take directory.left (all_records blocks)
  unfolding records_to_come
  coming-behind ended =
      ap (λ k. take directory.left (drop k (records_in directory.block 32) ++ all_records blocks)) ended
      ∙ ap (λ rs. take directory.left (rs ++ all_records blocks))
      (drop_all 32 (records_in directory.block 32) (let long = records-long directory.block in omega (arith, long)))

  -- those of the block in hand and of others, where none of it was read
  pub coming-begin : (block : List ℕ) → directory.at ≡ 0 → directory.block ≡ block → (left : ℕ) → directory.left ≡ left
      → take left (all_records (block ∷ blocks)) ≡ records_to_come index disk directory
  unfolding records_to_come
  coming-begin block at is left same =
      ap (take left) (flat_map-cons (λ b. records_in b 32) block blocks)
      ∙ ap (λ b. take left (records_in b 32 ++ all_records blocks)) (sym is)
      ∙ ap (λ k. take k (records_in directory.block 32 ++ all_records blocks)) (sym same)
      ∙ ap (λ k. take directory.left (drop k (records_in directory.block 32) ++ all_records blocks)) (sym at)

  -- none, behind the stated end
  pub coming-none : directory.left ≡ 0 → records_to_come index disk directory ≡ []
  unfolding records_to_come
  coming-none none = ap (λ k. take k (drop directory.at (records_in directory.block 32) ++ all_records blocks)) none

  -- nor behind the last block
  pub coming-ended : directory.at ≡ 32 → blocks ≡ [] → records_to_come index disk directory ≡ []
  coming-ended ended none = coming-behind ended ∙ ap (λ bs. take directory.left (all_records bs)) none ∙ take-none directory.left

  -- the next one of the block in hand, and then the others
  pub coming-next : (later : DirectoryReader) → directory.at < 32 → 0 < directory.left → later.block ≡ directory.block
      → later.at ≡ directory.at + 1 → later.left + 1 ≡ directory.left → later.file ≡ directory.file
      → records_to_come index disk directory ≡ record_in directory.block directory.at ∷ records_to_come index disk later
  unfolding records_to_come
  coming-next later low some same on fewer file =
      let one : directory.left ≡ suc later.left = sym fewer ∙ omega arith in
      ap (λ rs. take directory.left (rs ++ all_records blocks)) (records-behind directory.block directory.at low)
      ∙ ap (λ k. take k (record_in directory.block directory.at ∷ (rest ++ all_records blocks))) one
      ∙ ap (λ rs. record_in directory.block directory.at ∷ rs) same-rest
    where
      rest : List (List ℕ)
      rest = drop (directory.at + 1) (records_in directory.block 32)

      same-rest : take later.left (rest ++ all_records blocks)
          ≡ take later.left (drop later.at (records_in later.block 32) ++ all_records (contents_to_come index disk later.file))
      same-rest = ap (λ b. take later.left (drop (directory.at + 1) (records_in b 32) ++ all_records blocks)) (sym same)
          ∙ ap (λ k. take later.left (drop k (records_in later.block 32) ++ all_records blocks)) (sym on)
          ∙ ap (λ f. take later.left (drop later.at (records_in later.block 32) ++ all_records (contents_to_come index disk f))) (sym file)
