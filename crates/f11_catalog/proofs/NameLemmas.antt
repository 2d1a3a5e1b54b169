-- What is shown of a directory's name.
use Rattle.std.proofs.Common.{◌≡◌, ◌++◌, ◌≤◌, ℕ, List, length, take, drop, ap, subst, ◌∙◌, refl}
use Rattle.std.proofs.Math.Seq.{take-append_seam}
use Rattle.std.proofs.lemmas.List.{take-append-le}
use Rattle.std.proofs.lemmas.Str.{IsAscii-take, IsUtf8-from_ascii}
use Rattle.std.specs.Prelude.{Result, Ok, Err, IsOk, MatchResult}
use Rattle.std.specs.Str.{IsAscii, IsUtf8}
use Rattle.f11_rad50.proofs.Texts.{IsAscii-name_text}
use Rattle.f11_rad50.proofs.Words.{IsName-from_parts}
use Rattle.f11_rad50.specs.Name.{IsName, Spells, name_text}
use Rattle.f11_catalog.specs.DirectoryNames.{directory_shown, shown_length}

-- what is known of a value
pub in-ok : {T E : Type 0} (r : Result T E) (x : T) (P : T → Type 0) (Q : E → Type 0) → MatchResult r P Q → r ≡ Ok x → P x
in-ok {T} {E} r x P Q cases is = subst (λ (r : Result T E). MatchResult r P Q) is cases

-- a name's text was put at the front of a buffer, and so much of it is to be shown
module _ (words old new : List ℕ) (count shown : ℕ) (put : new ≡ name_text words ++ drop count old)
    (is-count : count ≡ length (name_text words))
    (is-shown : shown ≡ shown_length (take count new)) (within : shown ≤ length (take count new)) where
  front : take count new ≡ name_text words
  front = rw (put, is-count) (take-append_seam (name_text words) _)

  pub shown-text : take shown new ≡ directory_shown words
  unfolding directory_shown
  shown-text =
      let few : shown ≤ length (name_text words) = rw front at within in
      ap (take shown) put
      ∙ take-append-le shown (name_text words) (drop count old) few
      ∙ ap (λ (n : ℕ). take n (name_text words)) (is-shown ∙ ap shown_length front)

shown-ascii : (words : List ℕ) → IsName words → IsAscii (directory_shown words)
unfolding directory_shown
shown-ascii words named = IsAscii-take (name_text words) (shown_length (name_text words)) (IsAscii-name_text words named)

-- what fails only at other than UTF-8 succeeds at a part of a name's text
pub shown-is-text : {T E : Type 0} (r : Result T E) (P : T → Type 0) (Q : E → Type 0) (bytes words : List ℕ)
    → MatchResult r P (λ e. ¬ (IsUtf8 bytes) × Q e) → Spells (name_text words) words → bytes ≡ directory_shown words → IsOk r
shown-is-text (Ok x) P Q bytes words h spells is = refl
shown-is-text (Err y) P Q bytes words h spells is =
    absurd (h.0 (rw is (IsUtf8-from_ascii (directory_shown words)
    (shown-ascii words (IsName-from_parts words spells.name spells.type _ spells.proper
    spells.same_words)))))
