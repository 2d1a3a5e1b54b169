-- `*` alone, and patterns without `*` and `%`.
use Rattle.std.proofs.Common.{◌≡◌, ◌≢◌, ℕ, ◌<◌, ◌==◌, ◌↔◌, false, List, [], ◌∷◌, length, get_or, drop, All, arith, refl, sym, ◌∙◌}
use Rattle.std.specs.Char.{to_ascii_uppercase}
use Rattle.std.specs.Str.{str_to_ascii_uppercase}
use Rattle.std.proofs.lemmas.Bool.Decides.{nat_tests}
use Rattle.std.proofs.lemmas.List.Elements.{All-head, All-tail}
use Rattle.std.proofs.Math.Nat.{le_refl}
use Rattle.std.proofs.Math.Seq.{drop-length}
use Rattle.f11_rad50.specs.Name.{IsName, name_of, type_of, version_of}
use Rattle.f11_patterns.specs.declared.versions.Versions.{Versions}
use Rattle.f11_patterns.specs.declared.versions.Versions.TheVariants.{Highest, Each, Exactly}
use Rattle.f11_patterns.specs.Like.{AsksFor, IsLike}
use Rattle.f11_patterns.specs.Parts.{Parts}
use Rattle.f11_patterns.specs.Pattern.{Fits, IsAmong, IsPlain, IsOne}

pub star-like : (text : List ℕ) → IsLike (42 ∷ []) text
star-like text = (length text, (le_refl (length text), drop-length text))

-- a plain character asks for its capital alone
plain-cons : (p : ℕ) (pattern text : List ℕ) → IsPlain p
    → IsLike (p ∷ pattern) text
    ≡ ((0 < length text) × (AsksFor p (get_or text 0 0) × IsLike pattern (drop 1 text)))
plain-cons p pattern text plain =
    let other : (p == 42) ≡ false = grind (arith, nat_tests, plain.0) in
    rw other refl

plain-to : (pattern text : List ℕ) → All IsPlain pattern → IsLike pattern text → text ≡ str_to_ascii_uppercase pattern
plain-to [] text plain like = like
plain-to (p ∷ pattern) [] plain like =
    let here = All-head IsPlain p pattern plain in
    let parts = rw (plain-cons p pattern [] here) at like in
    absurd (omega (arith, parts.0))
plain-to (p ∷ pattern) (x ∷ text) plain like =
    let here = All-head IsPlain p pattern plain in
    let parts = rw (plain-cons p pattern (x ∷ text) here) at like in
    let first : x ≡ to_ascii_uppercase p = parts.1.0 here.1 in
    rw (first, plain-to pattern text (All-tail IsPlain p pattern plain) parts.1.1) refl

plain-from : (pattern : List ℕ) → All IsPlain pattern → IsLike pattern (str_to_ascii_uppercase pattern)
plain-from [] plain = refl
plain-from (p ∷ pattern) plain =
    let here = All-head IsPlain p pattern plain in
    rw (plain-cons p pattern (str_to_ascii_uppercase (p ∷ pattern)) here)
    (omega arith, ((λ other. refl), plain-from pattern (All-tail IsPlain p pattern plain)))

pub plain-like : (pattern text : List ℕ) → All IsPlain pattern → IsLike pattern text ↔ (text ≡ str_to_ascii_uppercase pattern)
plain-like pattern text plain = (plain-to pattern text plain, λ same. rw same (plain-from pattern plain))

pub one-means-one : (parts : Parts) (a b : List ℕ) → IsOne parts → Fits parts a → Fits parts b
    → (name_of a ≡ name_of b) × (type_of a ≡ type_of b)
one-means-one parts a b one x y = (
  plain-to parts.name (name_of a) one.name x.name ∙ sym (plain-to parts.name (name_of b) one.name y.name),
  plain-to parts.kind (type_of a) one.kind x.kind ∙ sym (plain-to parts.kind (type_of b) one.kind y.kind),
)

-- a version that is neither the highest nor each is one
same-version : (versions : Versions) (a b : ℕ) → versions ≢ Highest → versions ≢ Each → IsAmong a versions → IsAmong b versions → a ≡ b
same-version Highest a b not_highest not_each x y = absurd (not_highest refl)
same-version Each a b not_highest not_each x y = absurd (not_each refl)
same-version (Exactly version) a b not_highest not_each x y = x ∙ sym y

pub exactly-means-one : (parts : Parts) (a b : List ℕ) → IsName a → IsName b → IsOne parts → parts.versions ≢ Highest → Fits parts a
    → Fits parts b → a ≡ b
exactly-means-one parts a b name_a name_b one not_highest x y =
    let parts_same = one-means-one parts a b one x y in
    let version = same-version parts.versions (version_of a) (version_of b) not_highest one.version x.version y.version in
    sym name_a.same_words ∙ rw (parts_same.0, parts_same.1, version) name_b.same_words
