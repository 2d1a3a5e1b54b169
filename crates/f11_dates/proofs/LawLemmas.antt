-- Dates there and back, and worked values.
use Rattle.std.proofs.Common.{◌≡◌, ℕ, ◌+◌, ◌-◌, ◌/◌, ◌%◌, ◌==◌, false, List, ◌∷◌, ◌++◌, length, take, drop, Option, Some, None, IfSome}
use Rattle.std.proofs.Common.{MatchOption, refl, arith, ap, sym, ◌∙◌, subst, take_at, drop_at}
use Rattle.std.proofs.lemmas.Bool.Decides.{nat_tests}
use Rattle.std.proofs.lemmas.Bool.{false≢true}
use Rattle.std.proofs.lemmas.Option.{same_Some}
use Rattle.std.specs.Prelude.{IsTrue, replicate, ⊤}
use Rattle.f11_dates.specs.Calendar.{Day, Clock, IsDay, IsClock}
use Rattle.f11_dates.specs.Dated.{Holds}
use Rattle.f11_dates.specs.Files11.{month_name, day_bytes, clock_bytes, day_held, clock_held, day_spelled, clock_spelled, with_zero}
use Rattle.f11_dates.specs.Files11.{is_blank, SpellsDay, SpellsClock, HoldsDay, HoldsClock}
use Rattle.f11_dates.specs.Laws.{DateBack, TimeBack, MomentBack, WordBack, DateSame, TimeSame, MomentSame, WordSame, OneDate, OneTime}
use Rattle.f11_dates.specs.Laws.{OneWord}
use Rattle.f11_dates.specs.Laws.{MomentWorks, YearsWork, LeapDaysWork, WordsWork, WordsRefused}
use Rattle.f11_dates.specs.Moments.{moment_bytes, moment_held, moment_of}
use Rattle.f11_dates.specs.Rt11.{day_word, word_held, word_spelled, HoldsWord, WordSpells}
use Rattle.f11_dates.specs.Text.{two_digits}
use Rattle.f11_dates.specs.declared.dated.Dated.{Dated}
use Rattle.f11_dates.specs.declared.dated.Dated.TheVariants.{Unset, Set, Invalid}
use Rattle.f11_dates.specs.declared.moment.Moment.{Moment}
use Rattle.f11_dates.proofs.ClockLemmas.{HoldsClock-clock_held, clock_spelled-complete}
use Rattle.f11_dates.proofs.DayLemmas.{HoldsDay-day_held, day_letters, day_spelled-complete}
use Rattle.f11_dates.proofs.Rt11Lemmas.{HoldsWord-word_held, word_spelled-complete}

-- a relation that holds of two answers, where what is spelled is found, holds of one
held_once : {A : Type 0} (Empty : Type 0) (Spells : A → Type 0) (found : Option A) (a b : Dated A)
    → ((x : A) → Spells x → found ≡ Some x) → Holds Empty Spells a → Holds Empty Spells b → a ≡ b
held_once Empty Spells found Unset Unset every h k = refl
held_once Empty Spells found Unset (Set y) every h k = absurd (k.0 h)
held_once Empty Spells found Unset Invalid every h k = absurd (k.0 h)
held_once Empty Spells found (Set x) Unset every h k = absurd (h.0 k)
held_once Empty Spells found (Set x) (Set y) every h k = ap Set (same_Some x y (sym (every x h.1) ∙ every y k.1))
held_once Empty Spells found (Set x) Invalid every h k = absurd (k.1 x h.1)
held_once Empty Spells found Invalid Unset every h k = absurd (h.0 k)
held_once Empty Spells found Invalid (Set y) every h k = absurd (h.1 y k.1)
held_once Empty Spells found Invalid Invalid every h k = refl

pub one_date : OneDate
one_date bs a h =
    held_once _ (SpellsDay bs) (day_spelled (with_zero bs)) a (day_held bs)
    (λ d spells. day_spelled-complete (with_zero bs) d spells.0 spells.1) h (HoldsDay-day_held bs)

pub one_time : OneTime
one_time bs a h = held_once _ (SpellsClock bs) (clock_spelled bs) a (clock_held bs) (clock_spelled-complete bs) h (HoldsClock-clock_held bs)

pub one_word : OneWord
one_word w a h = held_once _ (WordSpells w) (word_spelled w) a (word_held w) (word_spelled-complete w) h (HoldsWord-word_held w)

pub date_same : DateSame
date_same bs d e = (subst (HoldsDay bs) e (HoldsDay-day_held bs)).1.1

pub time_same : TimeSame
time_same bs t e = (subst (HoldsClock bs) e (HoldsClock-clock_held bs)).1.1

pub word_same : WordSame
word_same w d e = (subst (HoldsWord w) e (HoldsWord-word_held w)).1.2

-- what is known of a moment's date and time where both are read
abbrev Keeps : List ℕ → List ℕ → Dated Moment → Type 0
Keeps front back Unset = ⊤
Keeps front back (Set m) = (day_bytes m.date ≡ with_zero front) × MatchOption m.time (IsTrue (is_blank back)) (λ t. clock_bytes t ≡ back)
Keeps front back Invalid = ⊤

keeps : (front back : List ℕ) (a : Dated Day) (b : Dated Clock) → HoldsDay front a → HoldsClock back b → Keeps front back (moment_of a b)
keeps front back Unset Unset h k = tt
keeps front back Unset (Set t) h k = tt
keeps front back Unset Invalid h k = tt
keeps front back (Set d) Unset h k = (h.1.1, k)
keeps front back (Set d) (Set t) h k = (h.1.1, k.1.1)
keeps front back (Set d) Invalid h k = tt
keeps front back Invalid Unset h k = tt
keeps front back Invalid (Set t) h k = tt
keeps front back Invalid Invalid h k = tt

pub moment_same : MomentSame
moment_same bs m e =
    subst (Keeps (take 7 bs) (drop 7 bs)) e
    (keeps (take 7 bs) (drop 7 bs) _ _ (HoldsDay-day_held (take 7 bs)) (HoldsClock-clock_held (drop 7 bs)))

-- bytes that begin with a digit aren't blank, and have no space at the front
digit_first : (n : ℕ) (l : List ℕ) → is_blank ((48 + n) ∷ l) ≡ false
digit_first n l =
    let nul : (48 + n == 0) ≡ false = grind (arith, nat_tests) in
    let space : (48 + n == 32) ≡ false = grind (arith, nat_tests) in
    rw (nul, space) refl

digit_stays : (n : ℕ) (l : List ℕ) → with_zero ((48 + n) ∷ l) ≡ (48 + n) ∷ l
digit_stays n l = let space : (48 + n == 32) ≡ false = grind (arith, nat_tests) in rw space refl

pub date_back : DateBack
date_back d is =
    let behind = (48 + d.day % 10) ∷ (month_name d.month ++ two_digits (d.year - 1900)) in
    let some : ¬ IsTrue (is_blank (day_bytes d)) = λ blank. false≢true (sym (digit_first (d.day / 10) behind) ∙ blank) in
    sym (one_date (day_bytes d) (Set d) (some, (is, sym (digit_stays (d.day / 10) behind))))

pub time_back : TimeBack
time_back t is =
    let behind = (48 + t.hour % 10) ∷ (two_digits t.minute ++ two_digits t.second) in
    let some : ¬ IsTrue (is_blank (clock_bytes t)) = λ blank. false≢true (sym (digit_first (t.hour / 10) behind) ∙ blank) in
    sym (one_time (clock_bytes t) (Set t) (some, (is, refl)))

pub word_back : WordBack
word_back d is from =
    sym (one_word (day_word d) (Set d) (λ none. absurd (omega (arith, none, is.1)), (is, from, refl)))

-- a date and what is behind it
parts_back : (d : Day) (back : List ℕ) → IsDay d → moment_held (day_bytes d ++ back) ≡ moment_of (Set d) (clock_held back)
parts_back d back is =
    let seven : length (day_bytes d) ≡ 7 = ap length (day_letters d is.1) in
    ap (λ front. moment_of (day_held front) (clock_held (drop 7 (day_bytes d ++ back)))) (take_at (day_bytes d) back 7 seven)
    ∙ ap (λ rest. moment_of (day_held (day_bytes d)) (clock_held rest)) (drop_at (day_bytes d) back 7 seven)
    ∙ ap (λ a. moment_of a (clock_held back)) (date_back d is)

back_of : (d : Day) (time : Option Clock) → IsDay d → IfSome time IsClock
    → moment_held (moment_bytes (record { date = d; time = time })) ≡ Set (record { date = d; time = time })
back_of d None is none = parts_back d (replicate 6 0) is
back_of d (Some t) is clock = parts_back d (clock_bytes t) is ∙ ap (moment_of (Set d)) (time_back t clock)

pub moment_back : MomentBack
moment_back m is = back_of m.date m.time is.0 is.1

pub moment_works : MomentWorks
unfolding day_spelled clock_spelled
moment_works = (refl, refl)

pub years_work : YearsWork
unfolding day_spelled
years_work = (refl, refl, refl, refl, refl)

pub leap_days_work : LeapDaysWork
unfolding day_spelled
leap_days_work = (refl, refl, refl)

pub words_work : WordsWork
unfolding word_spelled
words_work = (refl, refl, refl, refl, refl)

pub words_refused : WordsRefused
unfolding word_spelled
words_refused = (refl, refl, refl, refl, refl)
