use Rattle.std.proofs.Common.{◌≡◌, get_or, arith, sym, ◌∙◌}
use Rattle.std.proofs.lemmas.Bool.{false≢true}
use Rattle.f11_patterns.proofs.LikeLemmas.{star-rest, star-star}
use Rattle.f11_patterns.proofs.like.+is_like.Goals as goal

pub returns-in-len1-up-text : goal.returns-in-len1-up-text
returns-in-len1-up-text t c =
    let star : get_or c.args.pattern.now 0 0 ≡ 42 = omega arith in
    let rest = star-rest c.args.pattern.now c.args.text.now c.in-42.len_at_least star c.in-len1-up-text.len_at_least (λ like.
    false≢true (sym c.if-is_like.false ∙ c.is_like.ensures.1 like)) in (
      λ found. rest.0 (c.is_like-in-len1-up-text.ensures.0 found),
      λ like. c.is_like-in-len1-up-text.ensures.1 (rest.1 like),
    )

pub returns-then-begins_with_star : goal.returns-then-begins_with_star
returns-then-begins_with_star t c =
    let star : get_or c.args.pattern.now 0 0 ≡ 42 = omega arith in
    let again = c.begins_with_star.ensures.0 c.if-begins_with_star.true in (
      λ never. absurd (false≢true never),
      λ like. absurd (false≢true (sym c.if-is_like.false
          ∙ c.is_like.ensures.1 (star-star c.args.pattern.now c.args.text.now c.in-42.len_at_least star again.0 again.1 like))),
    )
