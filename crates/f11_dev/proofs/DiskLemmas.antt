-- Facts about disks and images.
use Rattle.std.proofs.Common.{Bool, true, false, if◌then◌else◌, refl, ◌≡◌, ℕ, ◌+◌, ◌^◌, ◌<◌, lit<, replicate, reverse, List, [], ◌∷◌, ◌++◌}
use Rattle.std.proofs.Common.{inl, inr, subst, sym, ◌∙◌, ap, arith}
use Rattle.std.proofs.Math.ListN.{set, get_or}
use Rattle.std.proofs.lemmas.List.{set-set, set-get_or, length-replicate, get_or-replicate, get_or_past, reverse-append}
use Rattle.std.proofs.lemmas.List.{replicate-append-replicate}
use Rattle.std.proofs.lemmas.Option.{slice_get_within, get_or_from_slice_get}
use Rattle.std.proofs.lemmas.Bool.{cases_lt}
use Rattle.f11_bytes.specs.Block.{IsBlock, zero_block}
use Rattle.f11_dev.specs.Image.{Image, IsImage, zero_image}
use Rattle.f11_dev.specs.Disk.{Disk, with_block_at}
use Rattle.f11_dev.specs.Memory.{images_back}
use Rattle.f11_dev.specs.Written.{written_disk}
use Rattle.f11_dev.specs.declared.memory.Replaced.{Replaced}
use Rattle.f11_dev.specs.declared.written.Written.{Written, Nothing, Then'}

pub IsBlock-zero_block : IsBlock zero_block
unfolding zero_block
IsBlock-zero_block = record { size = length-replicate {A = ℕ} 512 0; bytes = zeros 512 }
  where
    zeros : (n i : ℕ) → get_or (replicate n 0) i 0 < 256
    zeros n i = elim (cases_lt i n) [
      | inl within ↦ subst (λ b. b < 256) (sym (get_or-replicate n i 0 0 within)) (lit< tt)
      | inr past ↦ subst (λ b. b < 256) (sym (get_or_past (replicate n 0) i 0 (omega (arith, past, length-replicate {A = ℕ} n 0))))
          (lit< tt)
    ]

pub IsImage-zero_image : (n : ℕ) → n < 2 ^ 32 → IsImage (zero_image n)
IsImage-zero_image n fits = record {
  size = omega (arith, fits, length-replicate n zero_block);
  each = λ l b at.
      let within : l < n = omega (arith, slice_get_within (zero_image n) l b at, length-replicate n zero_block) in
      subst IsBlock (sym (get_or-replicate n l zero_block b within) ∙ get_or_from_slice_get (zero_image n) l b b at) IsBlock-zero_block;
}

-- what a write replaced, put back, gives the image before it
pub images_back-push : (image : Image) (replaced : List Replaced) (lbn : ℕ) (from old : List ℕ) → old ≡ get_or image lbn old
    → images_back (set image lbn from) (reverse (replaced ++ record { lbn = lbn; block = old } ∷ [])) ≡ set image lbn from ∷ images_back
    image (reverse replaced)
images_back-push image replaced lbn from old is =
    ap (images_back (set image lbn from)) (reverse-append replaced (record { lbn = lbn; block = old } ∷ []))
    ∙ ap (λ (before : Image). set image lbn from ∷ images_back before (reverse replaced))
    (set-set image lbn from old ∙ ap (set image lbn) is ∙ set-get_or image lbn old)

-- one more copy at the end
pub replicate-push : (xs : Image) (n : ℕ) (b z : List ℕ) → xs ≡ replicate n z → b ≡ z → xs ++ b ∷ [] ≡ replicate (n + 1) z
replicate-push xs n b z so_far is = let more = replicate-append-replicate n 1 z in cc

-- writes change nothing of whether a disk is honest
pub written_disk-honest : (d : Disk) (writes : Written) → (written_disk d writes).honest ≡ d.honest
written_disk-honest d Nothing = refl
written_disk-honest d (Then' shape earlier entry) = stays entry.landed.value (written_disk-honest d earlier)
  where
    stays : (landed : Bool) → (written_disk d earlier).honest ≡ d.honest
        → (if landed then with_block_at entry.lbn.value entry.block.value (written_disk d earlier) else written_disk d earlier).honest
        ≡ d.honest
    stays true h = h
    stays false h = h
