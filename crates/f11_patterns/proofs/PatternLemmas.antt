-- The parts of a text that is a pattern, and those of the text of a name.
use Rattle.std.proofs.Common.{◌≡◌, ◌≢◌, ℕ, List, [], ◌∷◌, ◌++◌, drop, All, refl, sym, subst, ◌∙◌, ap, Some}
use Rattle.std.proofs.lemmas.List.Elements.{All-head, All-tail}
use Rattle.f11_rad50.specs.Name.{IsName, name_of, type_of, version_of, name_text, octal, words_spelled}
use Rattle.f11_rad50.proofs.Spelled.{words_spelled-every}
use Rattle.f11_patterns.specs.declared.versions.Versions.{Versions}
use Rattle.f11_patterns.specs.Parts.{Parts}
use Rattle.f11_patterns.specs.Split.{IsStopped, IsSplit}
use Rattle.f11_patterns.specs.Pattern.{BehindAsksFor, IsPattern, Fits, TextFits}
use Rattle.f11_patterns.proofs.SplitLemmas.{split-parts, split-one, dot_stops, semicolon_stops, names-pass}
use Rattle.f11_patterns.proofs.VersionLemmas.{BehindAsksFor-one}

pub same-parts : (a b : Parts) → a.name ≡ b.name → a.kind ≡ b.kind → a.versions ≡ b.versions → a ≡ b
same-parts a b name kind versions = λ i. record { name = name i; kind = kind i; versions = versions i }

-- what stands behind a type begins with no character of a pattern
pub BehindAsksFor-stopped : (behind : List ℕ) (versions : Versions) → BehindAsksFor behind versions → IsStopped behind
BehindAsksFor-stopped [] versions ask = tt
BehindAsksFor-stopped (c ∷ digits) versions ask = rw ask.0 semicolon_stops

-- a pattern is cut behind its name
pub pattern-front : (text front back : List ℕ) (parts : Parts) → IsSplit text front back → (is : IsPattern text parts)
    → (front ≡ parts.name) × (back ≡ 46 ∷ (parts.kind ++ is.behind))
pattern-front text front back parts cut is =
    split-parts text front back parts.name (46 ∷ (parts.kind ++ is.behind)) cut is.is_text is.proper.name_characters dot_stops

-- and what stands behind the dot is cut behind its type
pub pattern-cut : (text front back typed kind behind : List ℕ) (parts : Parts) → IsSplit text front back → back ≡ 46 ∷ typed
    → IsSplit typed kind behind → (is : IsPattern text parts) → (front ≡ parts.name) × (kind ≡ parts.kind) × (behind ≡ is.behind)
pattern-cut text front back typed kind behind parts cut dot cut_behind is =
    let at_dot = pattern-front text front back parts cut is in
    let same : typed ≡ parts.kind ++ is.behind = ap (drop 1) (sym dot ∙ at_dot.1) in
    let at_type = split-parts typed kind behind parts.kind is.behind cut_behind same is.proper.kind_characters
    (BehindAsksFor-stopped is.behind parts.versions is.asks) in
    (at_dot.0, at_type.0, at_type.1)

-- a text is a pattern with one list of parts at most
pub IsPattern-one : (text : List ℕ) (a b : Parts) → IsPattern text a → IsPattern text b → a ≡ b
IsPattern-one text a b x y =
    let front = split-one a.name (46 ∷ (a.kind ++ x.behind)) b.name (46 ∷ (b.kind ++ y.behind)) x.proper.name_characters dot_stops
    y.proper.name_characters dot_stops (sym x.is_text ∙ y.is_text) in
    let typed : a.kind ++ x.behind ≡ b.kind ++ y.behind = ap (drop 1) front.1 in
    let back = split-one a.kind x.behind b.kind y.behind x.proper.kind_characters (BehindAsksFor-stopped x.behind a.versions x.asks)
    y.proper.kind_characters (BehindAsksFor-stopped y.behind b.versions y.asks) typed in
    same-parts a b front.0 back.0
    (BehindAsksFor-one y.behind a.versions b.versions (subst (λ behind. BehindAsksFor behind a.versions) back.1 x.asks) y.asks
    x.version y.version)

-- the text of a name is cut behind its name and behind its type
pub name_text-parts : (text front back kind behind words : List ℕ) → IsSplit text front back → IsSplit (drop 1 back) kind behind
    → IsName words → text ≡ name_text words → (front ≡ name_of words) × (kind ≡ type_of words)
unfolding name_text
name_text-parts text front back kind behind words cut cut_behind name is =
    let typed : List ℕ = type_of words ++ (59 ∷ octal (version_of words)) in
    let parts : (front ≡ name_of words) × (back ≡ 46 ∷ (type_of words ++ (59 ∷ octal (version_of words)))) =
    split-parts text front back (name_of words) _ cut is (names-pass (name_of words) name.proper.name_characters) dot_stops in
    let types = split-parts (drop 1 back) kind behind (type_of words) (59 ∷ octal (version_of words)) cut_behind (ap (drop 1) parts.1)
    (names-pass (type_of words) name.proper.type_characters) semicolon_stops in
    (parts.0, types.0)

-- a text without a dot is no pattern
dot_within : (front back : List ℕ) → All (λ c. c ≢ 46) (front ++ (46 ∷ back)) → ⊥
dot_within [] back none = All-head (λ c. c ≢ 46) 46 back none refl
dot_within (c ∷ front) back none = dot_within front back (All-tail (λ c. c ≢ 46) c (front ++ (46 ∷ back)) none)

pub no-dot : (text : List ℕ) (parts : Parts) → All (λ c. c ≢ 46) text → IsPattern text parts → ⊥
no-dot text parts none is = dot_within parts.name (parts.kind ++ is.behind) (subst (All (λ c. c ≢ 46)) is.is_text none)

-- where texts fit, what they are does
pub TextFits-one : (pattern name : List ℕ) (parts : Parts) (words : List ℕ) → IsPattern pattern parts → words_spelled name ≡ Some words
    → TextFits pattern name → Fits parts words
TextFits-one pattern name parts words is spelled text =
    let same : text.parts ≡ parts = IsPattern-one pattern text.parts parts text.is_pattern is in
    let found : Some text.words ≡ Some words = sym (words_spelled-every name text.words text.spells) ∙ spelled in
    let same_words : text.words ≡ words = cc in
    subst (λ p. Fits p words) same (subst (λ w. Fits text.parts w) same_words text.fits)
