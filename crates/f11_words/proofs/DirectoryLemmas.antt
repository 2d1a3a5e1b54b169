-- What stands in brackets, and how long a name is.
use Rattle.std.proofs.Common.{◌≡◌, ◌≢◌, ◌≤◌, ◌+◌, ◌++◌, ◌∷◌, [], ℕ, List, Option, Some, None, length, option_map}
use Rattle.std.proofs.Common.{sym, ap, ◌∙◌, arith}
use Rattle.std.proofs.lemmas.List.{append_cancel_right, length-append}
use Rattle.f11_rad50.specs.Name.{Spells}
use Rattle.f11_numbers.specs.Octal.{SpellsUic}
use Rattle.f11_store.specs.declared.callers.Uic.{Uic}
use Rattle.f11_words.specs.declared.directory.Directory.{Directory}
use Rattle.f11_words.specs.declared.directory.Directory.TheVariants.{Named, Of}
use Rattle.f11_words.specs.Directory.{IsNoUic, IsWithin, SpellsBare, bare, bracketed, full_name}

-- only one text stands within another
pub within-one : (text a b : List ℕ) → IsWithin text a → IsWithin text b → a ≡ b
within-one text a b (bracketed one) (bracketed other) =
    append_cancel_right a b (93 ∷ []) (let same : 91 ∷ (a ++ (93 ∷ [])) ≡ 91 ∷ (b ++ (93 ∷ [])) = sym one ∙ other in cc)
within-one text a b (bracketed one) (bare none other) = absurd (none a one)
within-one text a b (bare none one) (bracketed other) = absurd (none b other)
within-one text a b (bare none one) (bare none' other) = sym one ∙ other

-- nothing ends with a bracket behind one
pub not-bracketed : (text rest : List ℕ) → text ≡ 91 ∷ rest → ((front : List ℕ) → rest ≢ front ++ (93 ∷ [])) → (t : List ℕ)
    → text ≢ 91 ∷ (t ++ (93 ∷ []))
not-bracketed text rest first none t is =
    let same : 91 ∷ rest ≡ 91 ∷ (t ++ (93 ∷ [])) = sym first ∙ is in none t cc

-- a name has at most 19 characters
pub spelled-short : (text words : List ℕ) → Spells text words → length text ≤ 19
spelled-short text words s =
    let name : length s.name ≤ 9 = s.proper.name_length in
    let type : length s.type ≤ 3 = s.proper.type_length in
    let digits : length s.digits ≤ 5 = s.version.five_digits in
    let long : length text ≡ length s.name + length (46 ∷ (s.type ++ (59 ∷ s.digits))) =
    ap length s.is_text ∙ length-append s.name (46 ∷ (s.type ++ (59 ∷ s.digits))) in
    let behind : length (s.type ++ (59 ∷ s.digits)) ≡ length s.type + length (59 ∷ s.digits) = length-append s.type (59 ∷ s.digits) in
    grind arith

-- a text that spells a code spells no name, and the other way round
pub only-user : (text : List ℕ) (user : Uic) → SpellsUic text user → ((other : Uic) → SpellsUic text other → Some user ≡ Some other)
    → (directory : Directory) → SpellsBare text directory → Some (Of user) ≡ Some directory
only-user text user spells one (Of other) spelled = let both = one other spelled in cc
only-user text user spells one (Named words) spelled = absurd (spelled.0 user spells)

pub no-user : (text : List ℕ) → ((uic : Uic) → SpellsUic text uic → None ≡ Some uic) → IsNoUic text
no-user text none uic spells = let never = none uic spells in absurd cc

pub only-name : (text : List ℕ) → IsNoUic text → (found : Option (List ℕ))
    → ((words : List ℕ) → Spells (full_name text) words → found ≡ Some words) → (directory : Directory) → SpellsBare text directory
    → option_map Named found ≡ Some directory
only-name text none found every (Of uic) spelled = absurd (none uic spelled)
only-name text none found every (Named words) spelled = ap (option_map Named) (every words spelled.1)
