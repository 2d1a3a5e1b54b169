-- A word of a date: its numbers, and the word of these.
use Rattle.std.proofs.Common.{◌≡◌, ℕ, ◌≤◌, true, Some, refl, arith, ap, sym, ◌∙◌, subst, ◌==◌, eqb-true}
use Rattle.std.proofs.lemmas.Option.{cond_some}
use Rattle.f11_dates.specs.Calendar.{Day, IsDay, is_date}
use Rattle.f11_dates.specs.Rt11.{day_word, day_in_word, word_spelled, word_held, WordSpells, HoldsWord}
use Rattle.f11_dates.proofs.CalendarLemmas.{same_day, day_few, is_date-complete, is_date-sound}
use Rattle.f11_dates.proofs.HeldLemmas.{held-Holds}

-- the numbers of a day's word are the day's
day_in_word-day_word : (d : Day) → IsDay d → 1972 ≤ d.year → day_in_word (day_word d) ≡ d
day_in_word-day_word d is from =
    let few = day_few d is in
    same_day _ d (omega (arith, is.0, is.1, few)) (omega (arith, is.0, is.1, few)) (omega (arith, is.0, is.1, few))

-- the word of a word's numbers is the word
day_word-day_in_word : (w : ℕ) → day_word (day_in_word w) ≡ w
day_word-day_in_word w = omega arith

-- what a word spells, it is the word of
pub word_spelled-sound : (w : ℕ) (d : Day) → word_spelled w ≡ Some d → WordSpells w d
unfolding word_spelled
word_spelled-sound w d found =
    let parts = cond_some (is_date (day_in_word w).year (day_in_word w).month (day_in_word w).day) (day_in_word w) d found in
    subst (WordSpells w) parts.1 (is_date-sound _ _ _ parts.0, omega arith, day_word-day_in_word w)

-- and it spells every day whose word it is
pub word_spelled-complete : (w : ℕ) (d : Day) → WordSpells w d → word_spelled w ≡ Some d
unfolding word_spelled
word_spelled-complete w d spells =
    let same : day_in_word w ≡ d = ap day_in_word (sym spells.2) ∙ day_in_word-day_word d spells.0 spells.1 in
    let test : is_date (day_in_word w).year (day_in_word w).month (day_in_word w).day ≡ true =
    ap (λ x. is_date x.year x.month x.day) same ∙ is_date-complete d.year d.month d.day spells.0 in
    rw (test, same) refl

pub HoldsWord-word_held : (w : ℕ) → HoldsWord w (word_held w)
HoldsWord-word_held w =
    held-Holds (w ≡ 0) (WordSpells w) (w == 0) (word_spelled w) (λ e. rw e refl) (eqb-true w 0) (word_spelled-sound w)
    (word_spelled-complete w)
