-- Facts about the candidates for the home block.
use Rattle.std.proofs.Common.{◌≡◌, ℕ, zero, suc, ◌+◌, ◌/◌, ◌<◌, List, length, IsTrue, Some, inl, inr, refl, sym, ◌∙◌, ap, subst, arith}
use Rattle.std.specs.List.{slice_get}
use Rattle.std.proofs.lemmas.Bool.{cases_lt}
use Rattle.std.proofs.lemmas.Bool.Decides.{nat_tests}
use Rattle.std.proofs.lemmas.Option.{slice_get_within}
use Rattle.f11_dev.specs.Disk.{Disk}
use Rattle.f11_dev.specs.Looked.{Looked}
use Rattle.f11_dev.specs.Image.{Image, image_block}
use Rattle.f11_dev.proofs.ImageLemmas.{image_block-read}
use Rattle.f11_home.specs.HomeBlock.{IsHomeBlock}
use Rattle.f11_home.specs.Home.{HomeFields, candidate, candidates, fields_of, IsHomeOf, NoneBelow, HasNoHome}

-- the candidates that are counted are below the end
pub candidate-below : (k n : ℕ) → k < candidates n → candidate k < n
candidate-below zero n counted = grind (arith, nat_tests)
candidate-below (suc k) n counted = grind (arith, nat_tests)

-- and those below it are counted
pub candidates-above : (k n : ℕ) → candidate k < n → k < candidates n
candidates-above zero n below = grind (arith, nat_tests)
candidates-above (suc k) n below = grind (arith, nat_tests)

-- a candidate's number is read off its LBN
pub candidate-number : (k : ℕ) → candidate k / 256 ≡ k
candidate-number zero = refl
candidate-number (suc k) = omega arith

-- one candidate more that isn't valid
pub NoneBelow-more : (image : Image) (k : ℕ) (block : List ℕ) → NoneBelow image k → slice_get image (candidate k) ≡ Some block
    → ¬ IsHomeBlock block (length image)
    → NoneBelow image (k + 1)
NoneBelow-more image k block none reads bad j below is =
    elim (cases_lt j k) [
      | inl before ↦ none j before is
      | inr after ↦
          let same : j ≡ k = omega arith in
          let here : image_block image (candidate j) ≡ block = ap (λ (i : ℕ). image_block image (candidate i)) same
          ∙ image_block-read image (candidate k) block reads in
          bad (subst (λ b. IsHomeBlock b (length image)) here is.valid)
    ]

-- the first candidate that is valid is the home block
pub IsHomeOf-first : (image : Image) (k : ℕ) (block : List ℕ) (home : HomeFields) → NoneBelow image k
    → slice_get image (candidate k) ≡ Some block → IsHomeBlock block (length image)
    → home ≡ fields_of (candidate k) block → IsHomeOf image home
IsHomeOf-first image k block home none reads valid fields =
    let here : image_block image (candidate k) ≡ block = image_block-read image (candidate k) block reads in
    record {
      place = k;
      found = record {
        within = slice_get_within image (candidate k) block reads;
        valid = subst (λ b. IsHomeBlock b (length image)) (sym here) valid;
      };
      first = none;
      fields = fields ∙ ap (fields_of (candidate k)) (sym here);
    }

-- what an honest device gave for a candidate is the block that the image has had there from the start
pub candidate_read : (old now : Disk) (k lbn most : ℕ) (block : List ℕ) → Looked old now most 0 → lbn ≡ candidate k
    → (IsTrue now.honest → slice_get now.image lbn ≡ Some block)
    → IsTrue old.honest → slice_get old.image (candidate k) ≡ Some block
candidate_read old now k lbn most block looked is gives honest =
    sym (ap (λ (image : Image). slice_get image (candidate k)) looked.image) ∙ ap (slice_get now.image) (sym is)
    ∙ gives (looked.honest ∙ honest)

-- no candidate that is counted is valid, so none is
pub HasNoHome-all : (image : Image) → NoneBelow image (candidates (length image)) → HasNoHome image
HasNoHome-all image none k is = none k (candidates-above k (length image) is.within) is

-- an image has one home block at most
pub home-unique : (image : Image) (a b : HomeFields) → IsHomeOf image a → IsHomeOf image b → a ≡ b
home-unique image a b one other =
    let place : one.place ≡ other.place = elim (cases_lt one.place other.place) [
      | inl before ↦ absurd (other.first one.place before one.found)
      | inr after ↦ elim (cases_lt other.place one.place) [
        | inl behind ↦ absurd (one.first other.place behind other.found)
        | inr same ↦ omega arith
      ]
    ] in
    one.fields ∙ ap (λ (k : ℕ). fields_of (candidate k) (image_block image (candidate k))) place ∙ sym other.fields

-- an image that has a home block isn't one that has none
pub home-some : (image : Image) (home : HomeFields) → IsHomeOf image home → ¬ HasNoHome image
home-some image home is none = none is.place is.found
