-- A text of the host whose missing CRs are put in.
use Rattle.std.proofs.Common.{◌≡◌, ℕ, suc, ◌+◌, ◌*◌, ◌<◌, ◌≤◌, ◌==◌, ◌&&◌, Bool, true, false, not, List, [], ◌∷◌, ◌++◌, length, take, refl}
use Rattle.std.proofs.Common.{sym}
use Rattle.std.proofs.Common.{if◌then◌else◌, ap, ◌∙◌, append_assoc, length-append, arith}
use Rattle.std.proofs.Math.Seq.{take-suc}
use Rattle.std.specs.Prelude.{get_or}
use Rattle.rt11_text.specs.Crs.{crs_behind, ends_in_cr, missing_cr}

-- a text and then more of it
pub crs-append : (cr : Bool) (a b : List ℕ) → crs_behind cr (a ++ b) ≡ crs_behind cr a ++ crs_behind (ends_in_cr cr a) b
unfolding crs_behind ends_in_cr
crs-append cr [] b = refl
crs-append cr (c ∷ a) b =
    ap (λ (l : List ℕ). missing_cr cr c ++ (c ∷ l)) (crs-append (c == 13) a b)
    ∙ sym (append_assoc (missing_cr cr c) (c ∷ crs_behind (c == 13) a) (crs_behind (ends_in_cr (c == 13) a) b))

pub ends-append : (cr : Bool) (a b : List ℕ) → ends_in_cr cr (a ++ b) ≡ ends_in_cr (ends_in_cr cr a) b
unfolding ends_in_cr
ends-append cr [] b = refl
ends-append cr (c ∷ a) b = ends-append (c == 13) a b

few-missing : (b : Bool) (c : ℕ) → length ((if b then 13 ∷ [] else []) ++ c ∷ []) ≤ 2
few-missing true c = omega arith
few-missing false c = omega arith

-- it gets at most as many as it has bytes
pub crs-few : (cr : Bool) (text : List ℕ) → length (crs_behind cr text) ≤ 2 * length text
unfolding crs_behind
crs-few cr [] = omega arith
crs-few cr (c ∷ text) =
    let both = length-append (missing_cr cr c) (c ∷ crs_behind (c == 13) text) in
    let one = length-append {A = ℕ} (missing_cr cr c) (c ∷ []) in
    omega (arith, both, one, few-missing (c == 10 && not cr) c, crs-few (c == 13) text)

-- So many bytes of a block were gone over.
pub record Expands (source : List ℕ) (cr : Bool) (at : ℕ) (text : List ℕ) (behind : Bool) : Type 0 where
  pub bytes : text ≡ crs_behind cr (take at source)
  pub behind_is : behind ≡ ends_in_cr cr (take at source)
  pub few : length text ≤ 2 * at

pub expands-none : (source : List ℕ) (cr : Bool) (text : List ℕ) → text ≡ [] → Expands source cr 0 text cr
unfolding crs_behind ends_in_cr
expands-none source cr text empty = record { bytes = empty; behind_is = refl; few = omega (arith, ap (λ (l : List ℕ). length l) empty) }

pub expands-more : (source : List ℕ) (cr : Bool) (at byte : ℕ) (text text' : List ℕ) (behind behind' : Bool)
    → Expands source cr at text behind → at < length source → byte ≡ get_or source at 0
    → text' ≡ text ++ (missing_cr behind byte ++ byte ∷ []) → behind' ≡ (byte == 13) → Expands source cr (at + 1) text' behind'
unfolding crs_behind ends_in_cr
expands-more source cr at byte text text' behind behind' h inside is put next = record {
  bytes =
      put ∙ ap (λ (l : List ℕ). l ++ (missing_cr behind byte ++ byte ∷ [])) h.bytes
      ∙ ap (λ (b : Bool). crs_behind cr (take at source) ++ (missing_cr b byte ++ byte ∷ [])) h.behind_is
      ∙ sym (crs-append cr (take at source) (byte ∷ []))
      ∙ ap (λ (l : List ℕ). crs_behind cr l) (sym one);
  behind_is = next ∙ sym (ends-append cr (take at source) (byte ∷ [])) ∙ ap (λ (l : List ℕ). ends_in_cr cr l) (sym one);
  few =
      let size = ap (λ (l : List ℕ). length l) put in
      let all = length-append {A = ℕ} text (missing_cr behind byte ++ byte ∷ []) in
      omega (arith, size, all, h.few, few-missing (byte == 10 && not behind) byte);
}
  where
    one : take (at + 1) source ≡ take at source ++ byte ∷ []
    one =
        let up : at + 1 ≡ suc at = omega arith in
        ap (λ (n : ℕ). take n source) up ∙ take-suc source at 0 inside
        ∙ ap (λ (b : ℕ). take at source ++ b ∷ []) (sym is)
