-- The blocks of an area of an RT-11 volume, written one by one to a file of the host.
use Rattle.std.proofs.Common.{◌≡◌, ℕ, ◌+◌, ◌<◌, IsTrue, List, [], ◌∷◌, ◌++◌, Option, length, refl, sym, ap, ◌∙◌, subst, arith}
use Rattle.std.proofs.Common.{slice_index_or}
use Rattle.std.specs.List.{concat}
use Rattle.std.specs.Io.KnownBytes.{Appends}
use Rattle.std.proofs.KnownBytes.{Appends-trans}
use Rattle.std.proofs.lemmas.List.{append-nil, length-append}
use Rattle.std.proofs.lemmas.List.Elements.{All-nil, All-push}
use Rattle.std.proofs.lemmas.List.Folds.{concat-append}
use Rattle.std.proofs.lemmas.List.FromFn.{map-range_with_len_more}
use Rattle.f11_bytes.specs.Block.{zero_block}
use Rattle.f11_dev.specs.Disk.{Disk}
use Rattle.f11_dev.specs.Image.{Image}
use Rattle.f11_dev.specs.Looked.{Looked}
use Rattle.f11_dev.proofs.LookedLemmas.{looked_none, looked_more, looked_within}
use Rattle.rt11_volume.specs.AnyDirectory.{blocks_from}
use Rattle.f11_reader.specs.Steps.{ReadsOrZeros}
use Rattle.f11_commands.specs.RtTaking.{AreWhole, StopsTaking, TakesArea}

-- So many blocks from one on were read, and these are they.
pub record ReadsFirst (first place : ℕ) (given : List (List ℕ)) (old now : Disk) : Type 0 where
  pub count : length given ≡ place
  pub whole : AreWhole given
  pub are : IsTrue old.honest → given ≡ blocks_from old.image first place
  pub looked : Looked old now place 0

pub reads-none : (first : ℕ) (old : Disk) → ReadsFirst first 0 [] old old
reads-none first old = record {
  count = refl;
  whole = All-nil (λ (b : List ℕ). length b ≡ 512);
  are = λ honest. refl;
  looked = looked_none old;
}

module _ (first place : ℕ) (given : List (List ℕ)) (old now : Disk) (reads : ReadsFirst first place given old now) where
  -- the next one was read
  pub reads-more : (lbn : ℕ) (block : List ℕ) (new : Disk) → lbn ≡ first + place → length block ≡ 512 → ReadsOrZeros lbn block now new
      → ReadsFirst first (place + 1) (given ++ block ∷ []) old new
  reads-more lbn block new at size one = record {
    count = length-append given (block ∷ []) ∙ ap (λ n. n + 1) reads.count;
    whole = All-push (λ (b : List ℕ). length b ≡ 512) given block reads.whole size;
    are = λ honest.
        let f = λ (i : ℕ). slice_index_or old.image (first + i) zero_block in
        let here : block ≡ f place = one.block (reads.looked.honest ∙ honest)
        ∙ ap (λ (i : Image). slice_index_or i lbn zero_block) reads.looked.image
        ∙ ap (λ n. slice_index_or old.image n zero_block) at in
        (λ t. reads.are honest t ++ here t ∷ []) ∙ sym (map-range_with_len_more f 0 place place (omega arith));
    looked = looked_more reads.looked one.looked;
  }

  -- and the host's file took no more
  pub reads-within : (lbn blocks : ℕ) (block : List ℕ) (new : Disk) → place < blocks → ReadsOrZeros lbn block now new
      → Looked old new blocks 0
  reads-within lbn blocks block new inside one = looked_within (looked_more reads.looked one.looked) (omega (arith, inside))

  module _ {H : Type 0} (blocks : ℕ) (contents : H → Option (List ℕ)) (before after : H)
      (text : Appends (contents before) (contents after) (concat given)) where
    -- a transfer failed
    pub stops-reading : (new : Disk) → place < blocks → Looked now new 1 1 → StopsTaking first blocks place old new contents before after
    stops-reading new inside looked = record {
      few = inside;
      given = given;
      count = reads.count;
      whole = reads.whole;
      are = reads.are;
      takes = text;
      looked = looked_within (looked_more reads.looked looked) (omega (arith, inside));
    }

    -- all were read
    pub takes-out : place ≡ blocks → TakesArea first blocks old now contents before after
    takes-out all = record {
      given = given;
      count = reads.count ∙ all;
      whole = reads.whole;
      are = λ honest. reads.are honest ∙ ap (blocks_from old.image first) all;
      takes = text;
      looked = subst (λ n. Looked old now n 0) all reads.looked;
    }

-- the text of one block more
pub text-more : {H : Type 0} (contents : H → Option (List ℕ)) (before between after : H) (given : List (List ℕ)) (block : List ℕ)
    → Appends (contents before) (contents between) (concat given) → Appends (contents between) (contents after) block
    → Appends (contents before) (contents after) (concat (given ++ block ∷ []))
text-more contents before between after given block first then =
    subst (Appends (contents before) (contents after))
    (sym (concat-append given (block ∷ []) ∙ ap (λ (l : List ℕ). concat given ++ l) (append-nil block)))
    (Appends-trans _ _ _ _ _ first then)
