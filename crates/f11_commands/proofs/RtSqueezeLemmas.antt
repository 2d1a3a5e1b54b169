-- Files of an RT-11 volume that are brought to lower blocks, and their lines.
use Rattle.std.proofs.Common.{◌≡◌, ◌∙◌, ℕ, zero, suc, ◌+◌, ◌≤◌, List, [], ◌∷◌, Option, Some, length, min, sym, take, ap, subst}
use Rattle.std.proofs.Common.{Result, Vec}
use Rattle.std.specs.Global.{Global}
use Rattle.std.specs.Io.KnownBytes.{Appends}
use Rattle.std.specs.List.{flat_map, slice_get, zip}
use Rattle.std.specs.Prelude.{IfErr, IfOk, Ok, Err, unwrap_or}
use Rattle.std.proofs.lemmas.List.{take_all}
use Rattle.std.proofs.lemmas.Slice.Zip.{length-zip}
use Rattle.f11_catalog.proofs.ListingLemmas.{appends-then}
use Rattle.f11_dev.specs.Disk.{Disk}
use Rattle.f11_dev.specs.Image.{Image}
use Rattle.f11_dev.specs.declared.device.Device.{Ghosts}
use Rattle.f11_dev.proofs.LookedLemmas.{looked_more}
use Rattle.f11_dev.proofs.WentLemmas.{went_weaker}
use Rattle.rt11_squeeze.specs.Kept.{volume_disk, volume_store}
use Rattle.rt11_squeeze.specs.Squeezing.{AreTold, EndsEarly, OnSound, Preserves, SqueezesEach, squeeze_transfers}
use Rattle.rt11_squeeze.specs.Telling.{TellsAll}
use Rattle.rt11_squeeze.specs.declared.moving.FileToMove.{FileToMove}
use Rattle.rt11_squeeze.specs.declared.outcome.Squeezed.{Squeezed}
use Rattle.rt11_squeeze.proofs.TellLemmas.{are-told}
use Rattle.rt11_volume.specs.Store.{rt_store_of}
use Rattle.rt11_volume.specs.Verifying.Verdict.{IsRtAccepted, IsSoundDisk}
use Rattle.rt11_volume.specs.declared.refusal.RtRefusal.{RtRefusal}
use Rattle.rt11_volume.specs.declared.volume.RtAccepted.{RtAccepted}
use Rattle.f11_commands.specs.CopyCommand.{VerifiesRt}
use Rattle.f11_commands.specs.RtSqueeze.{SqueezesAll, SqueezesFiles}
use Rattle.f11_commands.proofs.LineLemmas.{lines-more}

-- two elements at the same place
zip-at : {A B : Type 0} (xs : List A) (ys : List B) (i : ℕ) (x : A) (y : B) → slice_get xs i ≡ Some x → slice_get ys i ≡ Some y
    → slice_get (zip xs ys) i ≡ Some (x, y)
zip-at [] ys i x y at too = absurd (cc)
zip-at (a ∷ xs) [] i x y at too = absurd (cc)
zip-at {A} {B} (a ∷ xs) (b ∷ ys) zero x y at too =
    ap (λ (z : A). Some (z, b)) (ap (λ (o : Option A). unwrap_or o a) at)
    ∙ ap (λ (z : B). Some (x, z)) (ap (λ (o : Option B). unwrap_or o b) too)
zip-at (a ∷ xs) (b ∷ ys) (suc i) x y at too = zip-at xs ys i x y at too

module _ {A B : Type 0} (line : A → B → List ℕ) (xs : List A) (ys : List B) (before : Option (List ℕ)) where
  abbrev pub both : A × B → List ℕ
  both one = line one.0 one.1

  -- the lines of so many pairs are written, and one more
  pub pairs-more : (i : ℕ) (x : A) (y : B) (now after : Option (List ℕ)) → slice_get xs i ≡ Some x → slice_get ys i ≡ Some y
      → Appends before now (flat_map both (take i (zip xs ys))) → Appends now after (line x y)
      → Appends before after (flat_map both (take (i + 1) (zip xs ys)))
  pairs-more i x y now after at too so_far one =
      subst (λ (l : List ℕ). Appends before after l) (sym (lines-more both (zip xs ys) i (x, y) (zip-at xs ys i x y at too)))
      (appends-then before now after (flat_map both (take i (zip xs ys))) (line x y) so_far one)

  -- or those of all
  pub pairs-all : (i : ℕ) (now : Option (List ℕ)) → min (length xs) (length ys) ≤ i
      → Appends before now (flat_map both (take i (zip xs ys))) → Appends before now (flat_map both (zip xs ys))
  pairs-all i now all so_far =
      subst (λ (l : List (A × B)). Appends before now (flat_map both l))
      (take_all i (zip xs ys) (subst (λ n. n ≤ i) (sym (length-zip xs ys)) all)) so_far

-- which files may be moved is so still when the volume is verified
pub told-still : (files : List FileToMove) (a b c : Disk) → TellsAll files a b → VerifiesRt b c → IsSoundDisk c
    → AreTold files (rt_store_of c.image)
told-still files a b c tells verified s =
    let looked = looked_more tells.looked verified.1.looked in
    subst (λ (i : Image). AreTold files (rt_store_of i)) (sym looked.image)
    (are-told files a tells.tells (record { honest = sym looked.honest ∙ s.honest; accepted = subst IsRtAccepted looked.image s.accepted }))

-- files that are as they are told where the disk is sound were brought to lower blocks
pub squeezes-files : {D : Type 0} {met : Ghosts D} (disk : D → Disk) (files : List FileToMove)
    (squeezed : Result (Vec Squeezed Global) RtRefusal) (old new : RtAccepted D met)
    → (IsSoundDisk (volume_disk disk old) → AreTold files (volume_store disk old))
    → Preserves files disk (squeeze_transfers files) squeezed old new
    → IfOk squeezed (λ outcomes. OnSound (AreTold files) (volume_disk disk old) (SqueezesEach files outcomes.items (volume_disk disk old)
    (volume_disk disk new)))
    → IfErr squeezed (λ e. OnSound (AreTold files) (volume_disk disk old) (EndsEarly e))
    → SqueezesFiles files squeezed (volume_disk disk old) (volume_disk disk new)
squeezes-files disk files squeezed old new told preserves squeezes refused = record {
  went = went_weaker _ _ (λ image spares s. spares (told s) s) preserves.went;
  kept = λ none s. preserves.kept none s (told s);
  each = λ s. by squeezed squeezes refused s;
}
  where
    by : (r : Result (Vec Squeezed Global) RtRefusal)
        → IfOk r (λ outcomes. OnSound (AreTold files) (volume_disk disk old) (SqueezesEach files outcomes.items (volume_disk disk old)
        (volume_disk disk new)))
        → IfErr r (λ e. OnSound (AreTold files) (volume_disk disk old) (EndsEarly e)) → IsSoundDisk (volume_disk disk old)
        → SqueezesAll files r (volume_disk disk old) (volume_disk disk new)
    by (Ok outcomes) squeezes refused s = squeezes s (told s)
    by (Err e) squeezes refused s = refused s (told s)
