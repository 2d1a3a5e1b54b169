-- Conversions that are done.
use Rattle.std.proofs.Common.{◌≡◌, inl, inr, ℕ, ◌≤◌, true, false, List, [], ◌∷◌, ◌++◌, length, take, drop, max, Option, Some, None, refl}
use Rattle.std.proofs.Common.{sym, ap, ◌∙◌, arith}
use Rattle.std.specs.Prelude.{slice_range, option_map}
use Rattle.std.proofs.lemmas.List.{append-nil}
use Rattle.f11_flx.specs.Laws.{HasNoMore}
use Rattle.f11_flx.specs.Lines.{has_long_line, lines_of, lines_upto}
use Rattle.f11_flx.specs.Place.{text_in, text_from, is_ending, wanted_at}
use Rattle.f11_flx.specs.Records.{Which, all, good, good_upto, records_upto}
use Rattle.f11_flx.specs.Spelled.{variable_records, longest_of}
use Rattle.f11_flx.specs.Stage.{given_in, is_given, lines_from, text_so_far, with_cr}
use Rattle.f11_flx.specs.ToRecords.{gives, lines_left, open_of}
use Rattle.f11_flx.specs.ToText.{ends_record, rest_of, text_by, text_left, Converts, StopsAt}
use Rattle.f11_flx.specs.declared.layout.Layout.{Layout}
use Rattle.f11_flx.specs.declared.line_end.LineEnd.{LineEnd}
use Rattle.f11_flx.specs.declared.place.Place.{Place}
use Rattle.f11_flx.specs.declared.place.Place.TheVariants as place
use Rattle.f11_flx.specs.declared.stage.Stage.{Stage}
use Rattle.f11_flx.specs.declared.stage.Stage.TheVariants.{Reading, Giving}
use Rattle.f11_flx.specs.declared.to_text.ToText.{ToText}
use Rattle.f11_flx.specs.declared.to_records.ToRecords.{ToRecords}
use Rattle.f11_flx.proofs.Texts.TextLemmas.{some-left}

-- no bytes have no text
text_in-none : (ends : LineEnd) (which : Which) (layout : Layout) → text_in ends which layout [] ≡ Some []
unfolding text_in records_upto good_upto
text_in-none ends all layout = refl
text_in-none ends good layout = refl

-- nothing is to come behind the last byte
text_from-none : (ends : LineEnd) (which : Which) (layout : Layout) (at : Place) → wanted_at at ≤ 0 → is_ending at ≡ false
    → text_from ends which layout at [] ≡ Some []
text_from-none ends which layout place.Record few more = text_in-none ends which layout
text_from-none ends which layout (place.High low) few more = absurd (omega arith)
text_from-none ends which layout (place.Within left pad) few more = absurd (omega (arith, some-left left more))
text_from-none ends which layout (place.LineFeed pad) few more = absurd (differ more)
  where
    differ : true ≡ false → ⊥
    differ is = cc
text_from-none ends which layout place.Pad few more = text_in-none ends which layout

pub text_ends : (which : Which) (s : ToText) (bytes : List ℕ) → rest_of s ≡ 0 → ends_record s ≡ false → text_by which s bytes ≡ Some []
text_ends which s bytes none more =
    ap (λ (n : ℕ). text_from s.ends which s.layout s.place (take n bytes)) none
    ∙ text_from-none s.ends which s.layout s.place (omega (arith, s.wanted)) more

-- a text that is to come has one before it
no_text : (given : List ℕ) (before after : Option (List ℕ)) → before ≡ option_map (λ (text : List ℕ). given ++ text) after → before ≡ None
    → after ≡ Some [] → ⊥
no_text given before after is none some = absurd (none_is (sym none ∙ is ∙ ap (option_map (λ (text : List ℕ). given ++ text)) some))
  where
    none_is : {x : List ℕ} → None ≡ Some x → ⊥
    none_is is = cc

pub text_is_refused : (old new : ToText) (source target : List ℕ) (used from to : ℕ) → Converts old new source used target from to
    → StopsAt new source used to
    → rest_of old ≤ length source → text_left old source ≡ None → to ≡ 512
text_is_refused old new source target used from to (done) (inl full) enough none = full
text_is_refused old new source target used from to done (inr stops) enough none =
    let rest : rest_of new ≡ 0 = elim stops.1 [
      | inl read ↦ omega (arith, done.read, read)
      | inr none ↦ none
    ] in
    let whole : source ++ [] ≡ source = append-nil source in
    absurd (no_text (slice_range target from to) (text_left old (source ++ [])) (text_left new (drop used source ++ []))
    (done.text all [] (omega (arith, ap length whole)))
    (ap (text_left old) whole ∙ none) (text_ends all new (drop used source ++ []) rest stops.0))

-- no line is to come where none is open
lines_from-none : (line : List ℕ) (at : Stage) → length (text_so_far line at) ≡ 0 → is_given at ≡ false → lines_from line at [] ≡ []
unfolding lines_upto
lines_from-none line (Reading cr) none more = ap lines_of (append-nil (with_cr line cr) ∙ nothing (with_cr line cr) none)
  where
    nothing : (text : List ℕ) → length text ≡ 0 → text ≡ []
    nothing [] none = refl
    nothing (c ∷ text) none = absurd (omega arith)
lines_from-none line (Giving given) none more = absurd (differ more)
  where
    differ : true ≡ false → ⊥
    differ is = cc

given_in-none : (at : Stage) → is_given at ≡ false → given_in at ≡ 0
given_in-none (Reading cr) more = refl
given_in-none (Giving given) more = absurd (differ more)
  where
    differ : true ≡ false → ⊥
    differ is = cc

pub records_end : (s : ToRecords) → open_of s ≡ 0 → gives s ≡ false → HasNoMore s
records_end s none more =
    let lines = lines_from-none s.line.items s.stage none more in
    record {
      bytes = ap (λ (n : ℕ). drop n (variable_records (lines_left s []))) (given_in-none s.stage more) ∙ ap variable_records lines;
      longest = ap (λ (all : List (List ℕ)). max s.longest (longest_of all)) lines ∙ omega arith;
      long = ap has_long_line lines;
    }
