-- Blocks 0 to 5 of an RT-11 volume, which calls spare.
use Rattle.std.proofs.Common.{◌≡◌, ℕ, ◌+◌, List, [], ◌++◌, inl, refl, sym, ap, ◌∙◌, append_assoc, arith}
use Rattle.std.proofs.lemmas.List.Elements.{All-append, All-nil}
use Rattle.f11_dev.specs.Disk.{Disk}
use Rattle.f11_dev.specs.Image.{Image, image_block}
use Rattle.f11_dev.specs.Went.{Went}
use Rattle.f11_dev.proofs.ImageLemmas.{image_block-other}
use Rattle.f11_dev.proofs.WentLemmas.{went_last, went_weaker}
use Rattle.rt11_volume.specs.Files.{HasBlockWritten, KeepsFiles, file_area}
use Rattle.rt11_volume.specs.Verifying.Verdict.{IsSoundDisk}
use Rattle.f11_flx.specs.Target.{KeepsFront, SparesFront}

-- an image that stays
pub front-same : (old new : Disk) → new.image ≡ old.image → new.history ≡ old.history → SparesFront old new
front-same old new image history = record {
  since = [];
  history = history;
  each = All-nil (KeepsFront old.image);
  last = λ lbn low. ap (λ (i : Image). image_block i lbn) image;
}

-- one that keeps them at each moment
pub front-went : (P : Image → Type 0) (old new : Disk) {most faults : ℕ} → ((image : Image) → P image → KeepsFront old.image image)
    → Went P old new most faults → SparesFront old new
front-went P old new keeps went =
    let kept = went_weaker P (KeepsFront old.image) keeps went in
    record {
      since = kept.since;
      history = kept.history;
      each = kept.each;
      last = went_last (KeepsFront old.image) kept (λ lbn low. refl);
    }

-- one call after another
pub front-then : (a b c : Disk) → SparesFront a b → SparesFront b c → SparesFront a c
front-then a b c one two = record {
  since = two.since ++ one.since;
  history = two.history ∙ ap (λ (h : List Image). two.since ++ h) one.history ∙ sym (append_assoc two.since one.since a.history);
  each = All-append (KeepsFront a.image) two.since one.since (λ k image at lbn low. two.each k image at lbn low ∙ one.last lbn low)
      one.each;
  last = λ lbn low. two.last lbn low ∙ one.last lbn low;
}

-- what making and deleting a file leaves
pub files-front : (old : Disk) → IsSoundDisk old → (image : Image) → KeepsFiles old image → KeepsFront old.image image
files-front old s image keeps lbn low = keeps s lbn (inl low)

-- and writing a block of one, which lies behind the directory
pub block-front : (name : List ℕ) (place : ℕ) (block : List ℕ) (old : Disk) → IsSoundDisk old → (image : Image)
    → HasBlockWritten name place block old image → KeepsFront old.image image
block-front name place block old s image written lbn low =
    let w = written s in
    ap (λ (i : Image). image_block i lbn) w.image_is
    ∙ image_block-other old.image ((file_area w.file).start + place) lbn block (λ same. omega (arith, same, low, w.behind))
