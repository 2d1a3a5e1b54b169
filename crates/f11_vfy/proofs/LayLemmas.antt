-- A fresh volume's blocks, written one after another, the home block last.
use Rattle.std.proofs.Common.{◌≡◌, ◌≢◌, ◌<◌, ◌≤◌, ◌+◌, ◌-◌, inl, inr, ℕ, zero, suc, List, refl, sym, ap, subst, ◌∙◌, arith, length}
use Rattle.std.proofs.Common.{slice_set}
use Rattle.std.proofs.lemmas.Bool.{cases_eq}
use Rattle.std.proofs.lemmas.List.{length-set}
use Rattle.f11_dev.specs.Disk.{Disk}
use Rattle.f11_dev.specs.Image.{Image, image_block}
use Rattle.f11_dev.specs.Went.{Went}
use Rattle.f11_dev.proofs.WentLemmas.{went_looked, went_write, went_failed_write, went_more, went_within}
use Rattle.f11_dev.proofs.LookedLemmas.{looked_none}
use Rattle.f11_dev.proofs.ImageLemmas.{image_block-written, image_block-other}
use Rattle.f11_bits.proofs.BitmapLemmas.{slice_get-set_other}
use Rattle.f11_home.specs.Home.{candidate, HasNoHome, IsCandidate}
use Rattle.f11_home.specs.HomeBlock.{IsHomeBlock}
use Rattle.f11_volume.proofs.layout.NoHomeLemmas.{fresh-no-home}
use Rattle.f11_volume.specs.layout.Fresh.{IsFreshBlock}
use Rattle.f11_volume.specs.layout.declared.layout.Layout.{Layout}
use Rattle.f11_volume.specs.Fresh.{used_by, IsFreshVolume, KeepsBehind, MakesNoHome, MayStand}
use Rattle.f11_vfy.specs.Init.{Lays, FailsToLay, MakesFreshVolume, FailsToMakeFreshVolume}

-- So many blocks were written, but for the home block.
pub record LaysUpTo (l : Layout) (count : ℕ) (old now : Disk) : Type 0 where
  pub front : (lbn : ℕ) → lbn < count → lbn ≢ 1 → IsFreshBlock l lbn (image_block now.image lbn)
  pub keeps : KeepsBehind l old.image now.image
  pub no_home : MakesNoHome old.image now.image
  pub went : Went (MayStand l old.image) old now (count - 1) 0

pub LaysUpTo-none : (l : Layout) (disk : Disk) → LaysUpTo l 0 disk disk
LaysUpTo-none l disk = record {
  front = λ lbn below other. absurd (omega (arith, below));
  keeps = record { size = refl; behind = λ lbn from. refl };
  no_home = λ k is. refl;
  went = went_looked _ (looked_none disk);
}

keeps-more : (l : Layout) (old now : Image) (lbn : ℕ) (block : List ℕ) → lbn < used_by l → KeepsBehind l old now
    → KeepsBehind l old (slice_set now lbn block)
keeps-more l old now lbn block below keeps = record {
  size = length-set now lbn block ∙ keeps.size;
  behind = λ k from. slice_get-set_other now lbn k block (λ same. omega (arith, same, from, below)) ∙ keeps.behind k from;
}

-- all candidates but the first are high
high-candidate : (k : ℕ) → candidate k ≢ 1 → 256 ≤ candidate k
high-candidate zero other = absurd (other refl)
high-candidate (suc k) other = omega arith

-- a candidate of an image whose blocks are as many, and whose block is the same
candidate-same : (old new : Image) (k : ℕ) → length new ≡ length old → image_block new (candidate k) ≡ image_block old (candidate k)
    → IsCandidate new k → IsCandidate old k
candidate-same old new k size same is = record {
  within = subst (λ (n : ℕ). candidate k < n) size is.within;
  valid = subst (λ (n : ℕ). IsHomeBlock (image_block old (candidate k)) n) size (subst (λ (b : List ℕ). IsHomeBlock b
      (length new)) same is.valid);
}

-- a block of the front other than the home block, written
no_home-more : (l : Layout) (old now : Image) (lbn : ℕ) (block : List ℕ) → MakesNoHome old now → lbn ≢ 1 → lbn < used_by l
    → IsFreshBlock l lbn block → MakesNoHome old (slice_set now lbn block)
no_home-more l old now lbn block none other below fresh = λ k is. elim (cases_eq (candidate k) lbn) [
  | inl here ↦
      let stands : image_block (slice_set now lbn block) (candidate k) ≡ block =
      ap (image_block (slice_set now lbn block)) here ∙ image_block-written now lbn block (omega
      (arith, here, is.within, length-set now lbn block)) in
      let high : 256 ≤ candidate k = high-candidate k (λ first. other (sym here ∙ first)) in
      absurd (fresh-no-home l lbn (length (slice_set now lbn block)) block (omega (arith, high, here)) below fresh
      (subst (λ (b : List ℕ). IsHomeBlock b (length (slice_set now lbn block))) stands is.valid))
  | inr apart ↦
      let stands : image_block (slice_set now lbn block) (candidate k) ≡ image_block now (candidate k) = image_block-other now lbn
      (candidate k) block apart in
      stands ∙ none k (candidate-same now (slice_set now lbn block) k (length-set now lbn block) stands is)
]

-- an image on which no candidate became a home block has none, if the old one had none
pub no_home-kept : (old new : Image) → length new ≡ length old → HasNoHome old → MakesNoHome old new → HasNoHome new
no_home-kept old new size none makes = λ k is. none k (candidate-same old new k size (makes k is) is)

-- A block other than the home block: what may stand when it was written, and that so many more are then.
module _ (l : Layout) (count : ℕ) (old now : Disk) (laid : LaysUpTo l count old now) (lbn : ℕ) (other : lbn ≢ 1)
    (below : lbn < used_by l) where
  stands : (block : List ℕ) → IsFreshBlock l lbn block → MayStand l old.image (slice_set now.image lbn block)
  stands block fresh = record {
    keeps = keeps-more l old.image now.image lbn block below laid.keeps;
    home = inl (no_home-more l old.image now.image lbn block laid.no_home other below fresh);
  }

  pub LaysUpTo-more : (new : Disk) (next : ℕ) → lbn < length now.image → count - 1 + 1 ≤ next - 1 → ((k : ℕ) → k < next → k ≢ 1
      → k ≢ lbn → k < count)
      → Lays l lbn now new → LaysUpTo l next old new
  LaysUpTo-more new next within costs reaches lays =
      let image : new.image ≡ slice_set now.image lbn lays.block = ap (λ (d : Disk). d.image) lays.is in
      record {
        front = λ k under apart. elim (cases_eq k lbn) [
          | inl here ↦ subst (IsFreshBlock l k) (sym (ap (λ (i : Image). image_block i k) image ∙ ap (image_block
              (slice_set now.image lbn lays.block)) here ∙ image_block-written now.image lbn lays.block within))
              (subst (λ (j : ℕ). IsFreshBlock l j lays.block) (sym here) lays.fresh)
          | inr differ ↦ subst (IsFreshBlock l k) (sym (ap (λ (i : Image). image_block i k) image
              ∙ image_block-other now.image lbn k lays.block differ)) (laid.front k (reaches k under apart differ) apart)
        ];
        keeps = subst (KeepsBehind l old.image) (sym image) (keeps-more l old.image now.image lbn lays.block below laid.keeps);
        no_home = subst (MakesNoHome old.image) (sym image)
            (no_home-more l old.image now.image lbn lays.block laid.no_home other below lays.fresh);
        went = went_within _ (went_more _ laid.went (went_write _ now new lbn lays.block lays.is (stands lays.block lays.fresh))) costs;
      }

  pub LaysUpTo-failed : (new : Disk) → count - 1 + 1 ≤ used_by l → FailsToLay l lbn now new → FailsToMakeFreshVolume l old new
  LaysUpTo-failed new costs fails = went_within _ (went_more _ laid.went (went_failed_write _ now new lbn fails.block fails.is
      (stands fails.block fails.fresh))) costs

-- The home block behind all others.
module _ (l : Layout) (old now : Disk) (laid : LaysUpTo l (used_by l) old now) (within : 1 < length now.image) where
  whole : (block : List ℕ) → IsFreshBlock l 1 block → IsFreshVolume l old.image (slice_set now.image 1 block)
  whole block fresh = record {
    front = λ k under. elim (cases_eq k 1) [
      | inl here ↦ subst (IsFreshBlock l k) (sym (ap (image_block (slice_set now.image 1 block)) here
          ∙ image_block-written now.image 1 block within)) (subst (λ (j : ℕ). IsFreshBlock l j block) (sym here) fresh)
      | inr differ ↦ subst (IsFreshBlock l k) (sym (image_block-other now.image 1 k block differ)) (laid.front k under differ)
    ];
    keeps = keeps-more l old.image now.image 1 block (omega arith) laid.keeps;
  }

  made : (block : List ℕ) → IsFreshBlock l 1 block → MayStand l old.image (slice_set now.image 1 block)
  made block fresh = record { keeps = (whole block fresh).keeps; home = inr (whole block fresh) }

  pub LaysUpTo-home : (new : Disk) → Lays l 1 now new → MakesFreshVolume l old new
  LaysUpTo-home new lays = record {
    volume = subst (IsFreshVolume l old.image) (sym (ap (λ (d : Disk). d.image) lays.is)) (whole lays.block lays.fresh);
    went = went_within _ (went_more _ laid.went (went_write _ now new 1 lays.block lays.is (made lays.block lays.fresh))) (omega arith);
  }

  pub LaysUpTo-unmade : (new : Disk) → FailsToLay l 1 now new → FailsToMakeFreshVolume l old new
  LaysUpTo-unmade new fails = went_within _ (went_more _ laid.went (went_failed_write _ now new 1 fails.block fails.is
      (made fails.block fails.fresh))) (omega arith)
