-- The texts of a fresh home block, put one after another.
use Rattle.std.proofs.Common.{◌≡◌, ℕ, List, refl}
use Rattle.std.specs.Prelude.{codes, replicate}
use Rattle.f11_bytes.specs.Part.{with_bytes}
use Rattle.f11_layout.specs.FreshHome.{with_texts}
use Rattle.f11_layout.specs.Layout.{label_in}
use Rattle.f11_layout.specs.Texts.{owner_text}
use Rattle.f11_layout.specs.declared.layout.Layout.{Layout}

pub texts-put : (l : Layout) (b one two three four five six name again owner : List ℕ) → name ≡ label_in l → again ≡ label_in l
    → owner ≡ owner_text l.owner
    → one ≡ with_bytes b 14 name → two ≡ with_bytes one 60 l.date → three ≡ with_bytes two 472 (replicate 12 32)
    → four ≡ with_bytes three 472 again
    → five ≡ with_bytes four 484 owner → six ≡ with_bytes five 496 (codes "DECFILE11A  ") → six ≡ with_texts l b
unfolding with_texts
texts-put l b one two three four five six name again owner is same owned a c d e f g =
    rw g (rw f (rw e (rw d (rw c (rw a (rw is (rw same (rw owned refl))))))))
