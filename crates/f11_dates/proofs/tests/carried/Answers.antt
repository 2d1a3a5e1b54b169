use Rattle.std.proofs.Common.{◌≡◌, ◌≤◌, ℕ, Option, Some, None, SomeIff, ap, sym, ◌∙◌, subst, refl}
use Rattle.f11_dates.specs.Calendar.{Day}
use Rattle.f11_dates.specs.Files11.{day_bytes, day_held}
use Rattle.f11_dates.specs.Rt11.{day_word, WordSpells}
use Rattle.f11_dates.specs.declared.dated.Dated.{Dated}
use Rattle.f11_dates.specs.declared.dated.Dated.TheVariants.{Unset, Set, Invalid}
use Rattle.f11_dates.proofs.LawLemmas.{date_back}
use Rattle.f11_dates.proofs.tests.carried.Goals as goal

-- the day that is set, or another one
set_or : Day → Dated Day → Day
set_or other Unset = other
set_or other (Set d) = d
set_or other Invalid = other

-- the day that comes back is the one that was written, so its word is the same
word_carried : (word : ℕ) (d back : Day) (again : Option ℕ) → WordSpells word d → Set back ≡ day_held (day_bytes d)
    → SomeIff again (1972 ≤ back.year) (day_word back) → again ≡ Some word
unfolding set_or
word_carried word d back (Some x) spells e written =
    let same : back ≡ d = ap (set_or back) (e ∙ date_back d spells.0) in
    ap Some (written.1 ∙ ap day_word same ∙ spells.2)
word_carried word d back None spells e written =
    let same : back ≡ d = ap (set_or back) (e ∙ date_back d spells.0) in
    absurd (written (subst (λ x. 1972 ≤ x.year) (sym same) spells.1))

pub returns-in-Set-read_date-clause-every : goal.returns-in-Set-read_date-clause-every
returns-in-Set-read_date-clause-every c d is =
    word_carried c.args.word c.in-Set.date c.in-Set-read_date.back c.write_rt_date.result c.in-Set.ensures.held.1
    (rw c.write_date.ensures.bytes at c.in-Set-read_date.ensures.exact) c.write_rt_date.ensures.word

pub returns-in-Set-read_date-clause-same : goal.returns-in-Set-read_date-clause-same
returns-in-Set-read_date-clause-same c =
    rw (word_carried c.args.word c.in-Set.date c.in-Set-read_date.back c.write_rt_date.result c.in-Set.ensures.held.1
    (rw c.write_date.ensures.bytes at c.in-Set-read_date.ensures.exact) c.write_rt_date.ensures.word) refl
