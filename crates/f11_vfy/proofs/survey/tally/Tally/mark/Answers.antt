use Rattle.std.proofs.Common.{◌∙◌, ap, sym}
use Rattle.f11_vfy.specs.Surveying.Bits.{has}
use Rattle.f11_vfy.proofs.Surveying.Tally.{inside-more, once_stays, once_set, twice_stays, twice_set}
use Rattle.f11_vfy.proofs.survey.tally.Tally.mark.Goals as goal

pub returns-then-contains-clause-shows : goal.returns-then-contains-clause-shows
returns-then-contains-clause-shows c = λ n s. record {
  once = λ l. once_stays c.args.k l (n l) _ (s.once l)
      (λ e. ap (has c.args.self.now.once) e ∙ (sym c.contains.ensures ∙ c.if-contains.true));
  twice = λ l. c.insert.ensures.adds l
      ∙ twice_set c.args.k l (n l) _ (s.twice l)
      (λ e. sym (s.once l) ∙ (ap (has c.args.self.now.once) e ∙ (sym c.contains.ensures ∙ c.if-contains.true)));
  inside = λ l. inside-more c.args.k l (n l) _ c.requires (s.inside l);
}

pub returns-else-contains-clause-shows : goal.returns-else-contains-clause-shows
returns-else-contains-clause-shows c = λ n s. record {
  once = λ l. c.insert-else-contains.ensures.adds l ∙ once_set c.args.k l (n l) _ (s.once l);
  twice = λ l. twice_stays c.args.k l (n l) _ (s.twice l)
      (λ e. sym (s.once l) ∙ (ap (has c.args.self.now.once) e ∙ (sym c.contains.ensures ∙ c.if-contains.false)));
  inside = λ l some. rw (← c.insert-else-contains.ensures.limit) at (inside-more c.args.k l (n l) _ c.requires (s.inside l) some);
}
