-- A conversion into a text, a step at a time.
use Rattle.std.proofs.Common.{◌≡◌, ℕ, ◌+◌, ◌≤◌, List, ◌++◌, length, drop, Option, Some, None, refl, sym, ap, ◌∙◌, append_assoc}
use Rattle.std.proofs.Common.{length-append, length-drop, arith}
use Rattle.std.specs.Prelude.{slice_range, option_map, option_to_list}
use Rattle.f11_flx.specs.ToText.{rest_of, text_by, Converts, HasNoText, IsTextStep, MeetsBad}
use Rattle.f11_flx.specs.Records.{all}
use Rattle.f11_flx.specs.declared.to_text.ToText.{ToText}

-- two pieces of text before what is to come
pub option_map-append : (a b : List ℕ) (o : Option (List ℕ))
    → option_map (λ (text : List ℕ). a ++ text) (option_map (λ (text : List ℕ). b ++ text) o) ≡ option_map
    (λ (text : List ℕ). (a ++ b) ++ text) o
option_map-append a b None = refl
option_map-append a b (Some text) = ap Some (sym (append_assoc a b text))

-- what is to come of a file behind bytes that were read
enough-behind : (old now : ToText) (source more : List ℕ) (used : ℕ) → rest_of now + used ≡ rest_of old → used ≤ length source
    → rest_of old ≤ length (source ++ more) → rest_of now ≤ length (drop used source ++ more)
enough-behind old now source more used read within long =
    omega (
      arith,
      read,
      within,
      long,
      length-append {A = ℕ} source more,
      length-append {A = ℕ} (drop used source) more,
      length-drop {A = ℕ} used source,
    )

-- one step more
pub Converts-more : (old now new : ToText) (source : List ℕ) (used next : ℕ) (target target' : List ℕ) (from to to' : ℕ) (given : Option ℕ)
    → Converts old now source used target from to → IsTextStep now new source used next given
    → slice_range target' from to' ≡ slice_range target from to ++ option_to_list given → to' ≡ to + length (option_to_list given)
    → Converts old new source next target' from to'
Converts-more old now new source used next target target' from to to' given held step put put_at = record {
  text = λ which more long.
      held.text which more long
      ∙ ap (option_map (λ (text : List ℕ). slice_range target from to ++ text))
      (step.text which more (enough-behind old now source more used held.read held.within long))
      ∙ option_map-append (slice_range target from to) (option_to_list given) (text_by which new (drop next source ++ more))
      ∙ ap (λ (b : List ℕ). option_map (λ (text : List ℕ). b ++ text) (text_by which new (drop next source ++ more))) (sym put);
  read = omega (arith, held.read, step.read);
  within = step.within;
  order = omega (arith, held.order, put_at);
  few = omega (arith, held.few, step.few, put_at);
}

-- no text is to come where a bad record is met behind what was converted
pub none-behind : (old new : ToText) (source target : List ℕ) (used from to : ℕ) → Converts old new source used target from to
    → MeetsBad new (drop used source) → HasNoText old source
none-behind old new source target used from to held bad more long =
    held.text all more long
    ∙ ap (option_map (λ (text : List ℕ). slice_range target from to ++ text))
    (bad all more (enough-behind old new source more used held.read held.within long))
