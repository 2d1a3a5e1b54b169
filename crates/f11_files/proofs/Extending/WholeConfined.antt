-- Which blocks are changed where a file is extended.
use Rattle.std.proofs.Common.{◌≡◌, ◌⊎◌, ℕ, IsTrue, inl, inr, refl, sym, ap, subst, ◌∙◌}
use Rattle.f11_dev.specs.Disk.{Disk}
use Rattle.f11_dev.specs.Image.{Image}
use Rattle.f11_dev.specs.Looked.{Looked}
use Rattle.f11_dev.proofs.LookedLemmas.{looked_none}
use Rattle.f11_home.specs.Home.{HomeFields}
use Rattle.f11_image_store.specs.StoreOf.{store_of}
use Rattle.f11_store.specs.Headroom.{slots_first}
use Rattle.f11_files.specs.Answers.{WritesMoreOf}
use Rattle.f11_files.specs.GrowingIndex.Headroom.{ConfinesSlots, HasGotSlots, HasReadied, WritesAfterSlots, WritesSlots}
use Rattle.f11_files.proofs.Behind.{more-looked, slots-behind}
use Rattle.f11_files.proofs.GrowingIndex.First.{confined-looked}

-- none where blocks were read
pub after-read : (home : HomeFields) (headers f : ℕ) (a b : Disk) {most faults : ℕ} → Looked a b most faults
    → WritesAfterSlots headers (WritesMoreOf f home) home a b
after-read home headers f a b looked = record {
  ready = b;
  slots = λ honest. confined-looked (slots_first (store_of a.image home) headers) home a b looked;
  readied = inl refl;
  rest = more-looked home f (looked_none b);
}

-- those of slots that come first, and then those of the file
pub after-slots : (home : HomeFields) (headers h f : ℕ) (a b c d : Disk) {most faults : ℕ} → Looked a b most faults
    → (IsTrue a.honest → headers ≡ h) → WritesSlots h home b c → (d ≡ c) ⊎ HasReadied h home b c → WritesMoreOf f home c d
    → WritesAfterSlots headers (WritesMoreOf f home) home a d
after-slots home headers h f a b c d looked same slots readied rest = record {
  ready = c;
  slots = λ honest.
      slots-behind (slots_first (store_of a.image home) headers) home a b c looked
      (subst (λ (k : ℕ). ConfinesSlots k home b c)
      (ap (λ (i : Image). slots_first (store_of i home) h) looked.image ∙ ap (slots_first (store_of a.image home)) (sym (same honest)))
      (slots (looked.honest ∙ honest)));
  readied = elim readied [
    | inl unwritten ↦ inl unwritten
    | inr has ↦ inr (λ honest.
        subst (λ (k : ℕ). HasGotSlots (slots_first (store_of a.image home) k) home a.image c.image) (sym (same honest))
        (subst (λ (i : Image). HasGotSlots (slots_first (store_of i home) h) home i c.image) looked.image (has (looked.honest ∙ honest))))
  ];
  rest = rest;
}
