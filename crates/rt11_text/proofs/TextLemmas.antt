-- What the bytes of a text give.
use Rattle.std.proofs.Common.{◌≡◌, ◌≢◌, ℕ, zero, suc, ◌≤◌, ◌==◌, ◌&&◌, Bool, true, false, not, List, [], ◌∷◌, ◌++◌, length, refl, sym, ap}
use Rattle.std.proofs.Common.{◌∙◌, arith}
use Rattle.std.proofs.Common.{if◌then◌else◌, append_assoc}
use Rattle.std.proofs.lemmas.Bool.{eqb-true, ne_eqb}
use Rattle.std.proofs.lemmas.List.Elements.{All-head, All-tail}
use Rattle.std.specs.Prelude.{All, replicate}
use Rattle.rt11_text.specs.Crs.{crs_behind}
use Rattle.rt11_text.specs.Laws.{IsPlain, TextWorks, ThereAndBack}
use Rattle.rt11_text.specs.Text.{begins_with_lf, host_text, meant, without_crs}

-- the CR that is given before a byte, and the byte
abbrev pub before : Bool → ℕ → List ℕ
before cr c = if cr && not (c == 10) then 13 ∷ [] else []

abbrev pub itself : ℕ → List ℕ
itself c = if not (c == 13) then c ∷ [] else []

abbrev pub held : Bool → List ℕ
held cr = if cr then 13 ∷ [] else []

-- a byte behind a CR that is kept back, or not: LF drops it
pub behind-cr : (cr : Bool) (c : ℕ) (text : List ℕ) → without_crs (held cr ++ c ∷ text) ≡ before cr c ++ without_crs (c ∷ text)
unfolding without_crs
behind-cr false c text = refl
behind-cr true c text = choose (c == 10)
  where
    choose : (lf : Bool) → (if true && lf then without_crs (c ∷ text) else 13 ∷ without_crs (c ∷ text))
        ≡ (if true && not lf then 13 ∷ [] else []) ++ without_crs (c ∷ text)
    choose true = refl
    choose false = refl

-- a byte that is CR is kept back, another isn't
pub kept-or-given : (c : ℕ) (text : List ℕ) → without_crs (c ∷ text) ≡ itself c ++ without_crs (held (c == 13) ++ text)
unfolding without_crs
kept-or-given c text = choose (c == 13) refl
  where
    choose : (cr : Bool) → (c == 13) ≡ cr
        → without_crs (c ∷ text) ≡ (if not cr then c ∷ [] else []) ++ without_crs (held cr ++ text)
    choose true is = ap (λ (n : ℕ). without_crs (n ∷ text)) (eqb-true c 13 is)
    choose false is = (λ t. if (is t) && begins_with_lf text then without_crs text else c ∷ without_crs text)

pub one-byte : (cr : Bool) (c : ℕ) (out text : List ℕ)
    → out ++ without_crs (held cr ++ c ∷ text) ≡ ((out ++ before cr c) ++ itself c) ++ without_crs (held (c == 13) ++ text)
one-byte cr c out text =
    ap (λ (l : List ℕ). out ++ l) (behind-cr cr c text ∙ ap (λ (l : List ℕ). before cr c ++ l) (kept-or-given c text))
    ∙ sym (append_assoc out (before cr c) (itself c ++ without_crs (held (c == 13) ++ text)))
    ∙ sym (append_assoc (out ++ before cr c) (itself c) (without_crs (held (c == 13) ++ text)))

pub at-most-one : (b : Bool) (c : ℕ) → length (if b then c ∷ [] else []) ≤ 1
at-most-one true c = omega arith
at-most-one false c = omega arith

-- what NUL, CTRL/Z and another byte mean
pub nul-means-nothing : (c : ℕ) (rest : List ℕ) → c ≡ 0 → meant (c ∷ rest) ≡ meant rest
unfolding meant
nul-means-nothing c rest is = ap (λ (n : ℕ). meant (n ∷ rest)) is

pub end-ends : (c : ℕ) (rest : List ℕ) → c ≡ 26 → meant (c ∷ rest) ≡ []
unfolding meant
end-ends c rest is = ap (λ (n : ℕ). meant (n ∷ rest)) is

pub another-stays : (c : ℕ) (rest : List ℕ) → c ≢ 26 → c ≢ 0 → meant (c ∷ rest) ≡ c ∷ meant rest
unfolding meant
another-stays c rest end nul =
    let no-end : (c == 26) ≡ false = ne_eqb c 26 end in
    let no-nul : (c == 0) ≡ false = ne_eqb c 0 nul in
    (λ t. if (no-end t) then [] else (if c == 0 then meant rest else c ∷ meant rest))
    ∙ (λ t. if (no-nul t) then meant rest else c ∷ meant rest)

-- a CR that is kept back is all that the end of a text gives
pub end-gives : (cr ended : Bool) → without_crs (held cr ++ (if ended then [] else meant [])) ≡ held cr
unfolding meant without_crs
end-gives false false = refl
end-gives false true = refl
end-gives true false = refl
end-gives true true = refl

-- what a text is on its way to an RT-11 volume and back
pub pads-mean-nothing : (pads : ℕ) → meant (replicate pads 0) ≡ []
unfolding meant
pads-mean-nothing zero = refl
pads-mean-nothing (suc pads) = pads-mean-nothing pads

back-to-none : (pads : ℕ) → host_text (crs_behind false [] ++ replicate pads 0) ≡ []
unfolding crs_behind without_crs
back-to-none pads = ap without_crs (pads-mean-nothing pads)

lf-comes-back : (text rest : List ℕ) → host_text (crs_behind false (10 ∷ text) ++ rest) ≡ 10 ∷ host_text (crs_behind false text ++ rest)
unfolding crs_behind without_crs meant
lf-comes-back text rest = refl

other-comes-back : (c : ℕ) (text rest : List ℕ) → IsPlain c → (c == 10) ≡ false
    → host_text (crs_behind false (c ∷ text) ++ rest) ≡ c ∷ host_text (crs_behind false text ++ rest)
unfolding crs_behind without_crs
other-comes-back c text rest plain no-lf =
    let no-cr : (c == 13) ≡ false = ne_eqb c 13 plain.1 in
    (λ t. host_text (((if (no-lf t) && true then 13 ∷ [] else []) ++ (c ∷ crs_behind (no-cr t) text)) ++ rest))
    ∙ ap without_crs (another-stays c (crs_behind false text ++ rest) plain.2 plain.0)
    ∙ (let all = crs_behind false text ++ rest in
    λ t. if (no-cr t) && begins_with_lf (meant all) then without_crs (meant all) else c ∷ without_crs (meant all))

pub there-and-back : ThereAndBack
there-and-back [] pads plain = back-to-none pads
there-and-back (c ∷ text) pads plain = choose (c == 10) refl (there-and-back text pads (All-tail IsPlain c text plain))
  where
    choose : (lf : Bool) → (c == 10) ≡ lf → host_text (crs_behind false text ++ replicate pads 0) ≡ text
        → host_text (crs_behind false (c ∷ text) ++ replicate pads 0) ≡ c ∷ text
    choose true is later =
        let ten = eqb-true c 10 is in
        ap (λ n. host_text (crs_behind false (n ∷ text) ++ replicate pads 0)) ten ∙ lf-comes-back text (replicate pads 0)
        ∙ (λ t. sym ten t ∷ later t)
    choose false is later =
        other-comes-back c text (replicate pads 0) (All-head IsPlain c text plain) is ∙ ap (λ (l : List ℕ). c ∷ l) later

pub text-works : TextWorks
unfolding without_crs meant
text-works = refl
