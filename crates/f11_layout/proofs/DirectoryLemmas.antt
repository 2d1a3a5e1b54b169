-- The records of a fresh volume's directory, put one after another.
use Rattle.std.proofs.Common.{◌≡◌, ◌≢◌, ◌<◌, ◌≤◌, ◌+◌, ◌-◌, ◌*◌, ℕ, List, ◌∷◌, ap, subst, ◌∙◌, inl, inr, arith, length}
use Rattle.std.specs.Prelude.{take}
use Rattle.std.specs.List.{flat_map}
use Rattle.std.proofs.lemmas.Bool.{cases_eq}
use Rattle.std.proofs.lemmas.List.{drop-replicate, take-replicate, length-replicate}
use Rattle.f11_bytes.specs.Words.{word_bytes}
use Rattle.f11_bytes.specs.Block.{zero_block}
use Rattle.f11_layout.specs.Files.{own_file}
use Rattle.f11_layout.specs.declared.files.OwnFile.{OwnFile}
use Rattle.f11_layout.specs.declared.layout.Layout.{Layout}
use Rattle.f11_map.specs.store.Directory.{record_in, record_bytes, empty_record}

-- the record of file i + 1
abbrev pub own_record : Layout → ℕ → List ℕ
own_record l i = record_bytes (record { number = i + 1; sequence = i + 1; volume = 0 }) (own_file l (i + 1)).name

-- so many records are put
pub record PutsRecords (l : Layout) (done : ℕ) (b : List ℕ) : Type 0 where
  pub size : length b ≡ 512
  pub front : (i : ℕ) → i < done → record_in b i ≡ own_record l i
  pub rest : (i : ℕ) → done ≤ i → i < 32 → record_in b i ≡ empty_record

zero-record : (i : ℕ) → i < 32 → record_in zero_block i ≡ empty_record
unfolding zero_block
zero-record i within = ap (take 16) (drop-replicate (16 * i) 512 0) ∙ take-replicate 16 (512 - 16 * i) 0 (omega (arith, within))

pub PutsRecords-none : (l : Layout) → PutsRecords l 0 zero_block
unfolding zero_block
PutsRecords-none l =
    record {
      size = length-replicate {A = ℕ} 512 0;
      front = λ i below. absurd (omega (arith, below));
      rest = λ i from within.
          zero-record i within;
    }

pub PutsRecords-more : (l : Layout) (done at : ℕ) (old new words : List ℕ) (file : OwnFile) → length new ≡ 512 → PutsRecords l done old
    → at ≡ done → file ≡ own_file l (done + 1)
    → words ≡ (done + 1) ∷ (done + 1) ∷ 0 ∷ file.name → record_in new at ≡ flat_map word_bytes words
    → ((i : ℕ) → i ≢ at → record_in new i ≡ record_in old i) → PutsRecords l (done + 1) new
unfolding record_bytes
PutsRecords-more l done at old new words file size puts here is said set others = record {
  size = size;
  front = λ i below. elim (cases_eq i done) [
    | inl same ↦ rw same (subst (λ (k : ℕ). record_in new k ≡ own_record l done) here
        (set ∙ ap (flat_map word_bytes) (said ∙ ap (λ (f : OwnFile). (done + 1) ∷ (done + 1) ∷ 0 ∷ f.name) is)))
    | inr differ ↦ others i (λ same. differ (same ∙ here)) ∙ puts.front i (omega (arith, below, differ))
  ];
  rest = λ i from within. others i (λ same. omega (arith, from, same, here)) ∙ puts.rest i (omega (arith, from)) within;
}
