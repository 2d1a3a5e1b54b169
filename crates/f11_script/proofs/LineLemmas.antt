-- What a line is, case by case.
use Rattle.std.proofs.Common.{◌≡◌, ◌⊎◌, inl, inr, ℕ, ◌<◌, ◌≤◌, true, false, List, length, Option, Some, None, option_map, refl, sym, ◌∙◌}
use Rattle.std.proofs.Common.{ap}
use Rattle.std.proofs.lemmas.Bool.{lt-ltb, le-ltb, cases_lt}
use Rattle.f11_store.specs.Run.{Call}
use Rattle.f11_script.specs.Reading.{words_between}
use Rattle.f11_script.specs.Input.{CutLineIsAlike}
use Rattle.f11_script.specs.Lines.{Line, no_request, bad_line, request_line, call_of, is_comment, line_of_call, line_of}

pub too_long : (line block : List ℕ) → 1200 < length line → bad_line ≡ line_of line block
unfolding line_of
too_long line block h = rw (lt-ltb 1200 (length line) h) refl

pub comment : (line block : List ℕ) → length line ≤ 1200 → is_comment line ≡ true → no_request ≡ line_of line block
unfolding line_of
comment line block short h = rw (le-ltb 1200 (length line) short, h) refl

-- a line that is neither is a call or a bad line
other : (line block : List ℕ) → length line ≤ 1200 → is_comment line ≡ false
    → line_of line block ≡ line_of_call (call_of (words_between line) block)
unfolding line_of
other line block short h = rw (le-ltb 1200 (length line) short, h) refl

pub call : (line block : List ℕ) (words : List (List ℕ)) (o : Option Line) → length line ≤ 1200 → is_comment line ≡ false
    → words ≡ words_between line →
    option_map request_line (call_of words block) ≡ o → (l : Line) → o ≡ Some l → l ≡ line_of line block
call line block words o short plain same is l there =
    by_call (call_of words block) (is ∙ there) ∙ ap (λ ws. line_of_call (call_of ws block)) same ∙ sym (other line block short plain)
  where
    by_call : (c : Option Call) → option_map request_line c ≡ Some l → l ≡ line_of_call c
    by_call None e = absurd (cc)
    by_call (Some x) e = let same : request_line x ≡ l = cc in sym same

pub no_call : (line block : List ℕ) (words : List (List ℕ)) → length line ≤ 1200 → is_comment line ≡ false → words ≡ words_between line →
    option_map request_line (call_of words block) ≡ None → bad_line ≡ line_of line block
no_call line block words short plain same none =
    by_call (call_of words block) none ∙ ap (λ ws. line_of_call (call_of ws block)) same ∙ sym (other line block short plain)
  where
    by_call : (c : Option Call) → option_map request_line c ≡ None → bad_line ≡ line_of_call c
    by_call None e = refl
    by_call (Some x) e = absurd (cc)

-- a line that was cut short is bad either way
pub cut_line_is_alike : CutLineIsAlike
cut_line_is_alike given line block h = by_length (cases_lt 1200 (length line))
  where
    by_length : (1200 < length line) ⊎ (length line ≤ 1200) → line_of given block ≡ line_of line block
    by_length (inl long) = sym (too_long given block (h.long long)) ∙ too_long line block long
    by_length (inr short) = ap (λ l. line_of l block) (h.short short)
