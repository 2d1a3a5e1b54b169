-- What was loaded is what the image's index file says.
use Rattle.std.proofs.Common.{◌≡◌, ℕ, ◌+◌, ◌<◌, ◌≤◌, IsTrue, List, length, drop, sym, ap, subst, ◌∙◌, arith}
use Rattle.std.specs.List.{All}
use Rattle.std.proofs.lemmas.List.Elements.{All-take, All-drop}
use Rattle.std.proofs.lemmas.Option.{slice_get_within}
use Rattle.f11_dev.specs.Disk.{Disk}
use Rattle.f11_dev.specs.Image.{Image}
use Rattle.f11_dev.specs.Looked.{Looked}
use Rattle.f11_home.specs.Home.{HomeFields, IsSound}
use Rattle.f11_index.specs.Calls.{ReadsIndex, LoadsIndex, FindsMisplaced, FindsPast, LooksThrough}
use Rattle.f11_index.specs.IndexFile.{Index, index_of, index_file_blocks, headers_among, most_slots, IsFirstPast, HasNonePast}
use Rattle.f11_index.specs.Sound.{IsPlaced, IsIndexFile}
use Rattle.f11_index.specs.Walk.{first_place, ReadsBitmap, Follows}
use Rattle.f11_index.specs.declared.blocks.Blocks.{Blocks}
use Rattle.f11_index.proofs.BlockLemmas.{IsPlaced-fit, All-fit}
use Rattle.f11_index.proofs.FollowLemmas.{HomeFacts, home_facts, Adds-start, looks-behind}

module _ (old now new : Disk) (home : HomeFields) (bitmap : List (List ℕ)) (blocks : Blocks) (sound : IsSound home (length old.image))
    (reads : ReadsBitmap home bitmap old now) (f : Follows home blocks now new) where
  looks-all : LooksThrough home old new 0
  looks-all = looks-behind old now new home home.index_blocks 0 reads.looked f.looked

  looked : Looked old new (home.index_blocks + looks-all.headers) 0
  looked = looks-all.looked

  facts : HomeFacts home (length old.image)
  facts = home_facts home (length old.image) sound

  headers_are : blocks.headers.items ≡ headers_among home f.lbns
  headers_are = (Adds-start home f.lbns f.adds).1

  file_is : IsTrue old.honest → f.lbns ≡ index_file_blocks old.image home
  file_is honest = f.is_file (reads.looked.honest ∙ honest) ∙ ap (λ (image : Image). index_file_blocks image home) reads.looked.image

  -- too few blocks
  pub finds_few : blocks.places < first_place home + 16 → FindsMisplaced home old new
  finds_few few = record {
    misplaced = λ honest good.
        let last = slice_get_within (index_file_blocks old.image home) _ _
        (good.placed.bitmap_and_headers (home.index_blocks + 15) (omega arith)) in
        absurd (omega (arith, last, few, (Adds-start home f.lbns f.adds).0, ap length (file_is honest)));
    looked = looks-all;
  }

  module _ (enough : first_place home + 16 ≤ blocks.places) where
    placed : IsPlaced home f.lbns
    placed = IsPlaced-fit home (length now.image) f.lbns f.fit (omega (arith, enough, (Adds-start home f.lbns f.adds).0))

    good : IsTrue old.honest → IsIndexFile old.image home
    good honest =
        let is = f.is_file (reads.looked.honest ∙ honest) in
        let one = f.whole (reads.looked.honest ∙ honest) placed in
        subst (λ (image : Image). IsIndexFile image home) reads.looked.image record {
          whole = one.whole;
          sequence = one.sequence;
          within = subst (All (λ lbn. lbn < length now.image)) is (All-fit home (length now.image) f.lbns f.fit);
          placed = subst (IsPlaced home) is placed;
        }

    -- what is kept then
    abbrev kept : Index
    kept = record { bitmap_lbn = home.index_lbn; bitmap = bitmap; headers = blocks.headers.items }

    kept_is : IsTrue old.honest → kept ≡ index_of old.image home
    unfolding index_of
    kept_is honest =
        ap (λ (b : List (List ℕ)). record { bitmap_lbn = home.index_lbn; bitmap = b; headers = blocks.headers.items }) (reads.blocks honest)
        ∙ ap (λ (h : List ℕ). record { bitmap_lbn = home.index_lbn; bitmap = (index_of old.image home).bitmap; headers = h })
        (headers_are ∙ ap (headers_among home) (file_is honest))

    pub reads_all : ReadsIndex home kept old new
    reads_all = record {
      sound = good;
      is_for = record {
        within = record {
          bitmap = omega (arith, ap length looked.image, reads.size, facts.within);
          headers = subst (All (λ lbn. lbn < length new.image)) (sym headers_are)
              (All-take (λ lbn. lbn < length new.image) (most_slots home) (drop (2 + home.index_blocks) f.lbns)
              (All-drop (λ lbn. lbn < length new.image) (2 + home.index_blocks) f.lbns
              (subst (λ (n : ℕ). All (λ lbn. lbn < n) f.lbns) (sym (ap length f.looked.looked.image))
              (All-fit home (length now.image) f.lbns f.fit))));
        };
        keeps = λ honest. kept_is (sym looked.honest ∙ honest) ∙ ap (λ (image : Image). index_of image home) (sym looked.image);
      };
      looked = looks-all;
    }

-- a bit past the slots is 1
pub finds_past : (home : HomeFields) (index : Index) (old new : Disk) (n : ℕ) → ReadsIndex home index old new → IsFirstPast index n
    → FindsPast home n old new
finds_past home index old new n reads is = record {
  sound = reads.sound;
  first = λ honest. subst (λ (i : Index). IsFirstPast i n)
      (reads.is_for.keeps (reads.looked.looked.honest ∙ honest) ∙ ap (λ (image : Image). index_of image home) reads.looked.looked.image) is;
  looked = reads.looked;
}

-- none is
pub loads : (home : HomeFields) (index : Index) (old new : Disk) → ReadsIndex home index old new → HasNonePast index
    → LoadsIndex home index old new
loads home index old new reads none = record { sound = reads.sound; none_past = none; is_for = reads.is_for; looked = reads.looked }
