use Rattle.std.proofs.Common.{◌≡◌, List, ℕ, Bool, ◌↔◌, IsTrue, Result, Ok, Err}
use Rattle.f11_rad50.specs.Name.{Spells}
use Rattle.f11_rad50.proofs.Spelled.{words_spelled-every}
use Rattle.f11_patterns.specs.Lent.{parts_of}
use Rattle.f11_patterns.specs.Parts.{Parts}
use Rattle.f11_patterns.specs.Pattern.{IsPattern, Fits, TextFits}
use Rattle.f11_patterns.proofs.PatternLemmas.{TextFits-one}
use Rattle.f11_patterns.proofs.tests.text_fits.Goals as goal

-- texts fit where what they are does
text-fits : (text name : List ℕ) (parts : Parts) (words : List ℕ) (b : Bool) → IsPattern text parts → Spells name words
    → IsTrue b ↔ Fits parts words → IsTrue b ↔ TextFits text name
text-fits text name parts words b is spells decides = (
  λ fits. record { parts = parts; words = words; is_pattern = is; spells = spells; fits = decides.0 fits },
  λ fits. decides.1 (TextFits-one text name parts words is (words_spelled-every name words spells) fits),
)

refused : {T E : Type 0} (e : E) (x : T) (r : Result T E) → r ≡ Err e → r ≡ Ok x → ⊥
refused e x r is_err is_ok = cc

pub returns-in-Ok-parse-clause-fits : goal.returns-in-Ok-parse-clause-fits
returns-in-Ok-parse-clause-fits c =
    let is : IsPattern c.args.pattern.now (parts_of c.in-Ok.pattern) = rw c.as_bytes.ensures.value at c.in-Ok.ensures.pattern in
    let spells : Spells c.args.name.now c.in-Ok-parse.name = rw c.as_bytes-in-Ok.ensures.value at c.in-Ok-parse.ensures.spelled in
    text-fits _ _ _ _ _ is spells c.fits.ensures.fits

pub returns-in-Err-parse-clause-none : goal.returns-in-Err-parse-clause-none
returns-in-Err-parse-clause-none c = λ text.
    refused _ text.words c.parse-in-Ok.result c.in-Err-parse.is
    (c.parse-in-Ok.ensures.every text.words (rw c.as_bytes-in-Ok.ensures.value text.spells))

pub returns-in-Err-clause-none : goal.returns-in-Err-clause-none
returns-in-Err-clause-none c = λ text. c.in-Err.ensures.every text.parts (rw c.as_bytes.ensures.value text.is_pattern)
