use Rattle.std.proofs.Common.{◌≡◌, ℕ, List, [], ◌++◌, Bool, ap, ◌∙◌, sym, subst, take, arith}
use Rattle.std.specs.Prelude.{option_map}
use Rattle.std.specs.Io.KnownBytes.{IsAtEnd, Consumes}
use Rattle.rt11_text.specs.Crs.{crs_behind}
use Rattle.rt11_text.specs.FromHost.{left_in, text_to_come}
use Rattle.rt11_text.proofs.FromHostLemmas.{at-end, gives-on, keeps-consumes}
use Rattle.rt11_text.proofs.from_host.FromHostRead.read.Goals as goal

pub returns-clause-bytes : goal.returns-clause-bytes
returns-clause-bytes g c =
    let made = c.make_ready.new.self in
    let now = c.give.new.self in
    let given = take c.give.result c.give.new.buf in
    let gives : Consumes (text_to_come g.R.Read.remaining made) (text_to_come g.R.Read.remaining now) given =
    subst (λ h. Consumes (text_to_come g.R.Read.remaining made)
    (option_map (λ (t : List ℕ). left_in now ++ crs_behind now.cr t) (g.R.Read.remaining h))
    given) (sym c.give.ensures.host)
    (subst (λ (b : Bool). Consumes (text_to_come g.R.Read.remaining made)
    (option_map (λ (t : List ℕ). left_in now ++ crs_behind b t) (g.R.Read.remaining made.host))
    given) (sym c.give.ensures.cr)
    (gives-on (left_in made) (left_in now) given made.cr (g.R.Read.remaining made.host) c.give.ensures.gives)) in (
      keeps-consumes _ _ _ _ c.in_ok-make_ready.ensures.keeps gives,
      λ none some.
          let spent = c.give.ensures.some none some in
          let left : left_in now ≡ [] =
          sym (ap (λ k. take k c.give.new.buf ++ left_in now) none) ∙ sym c.give.ensures.gives ∙ spent in
          at-end (left_in now) now.cr (g.R.Read.remaining now.host) left
          (subst (λ h. IsAtEnd (g.R.Read.remaining h)) (sym c.give.ensures.host)
          (c.in_ok-make_ready.ensures.end (omega (arith, some)) spent)),
    )
