use Rattle.std.proofs.Common.{List, ℕ, ◌*◌, min, take, sym, ap, ◌∙◌}
use Rattle.std.specs.List.{concat}
use Rattle.f11_store.specs.File.{stated_end}
use Rattle.f11_flx.specs.Place.{text_in}
use Rattle.f11_flx.specs.Records.{layout_of}
use Rattle.f11_flx.proofs.Texts.TextLemmas.{converted_by-in}
use Rattle.f11_flx.proofs.to_text.ToText.ending.Goals as goal

pub returns-clause-starts : goal.returns-clause-starts
returns-clause-starts c = λ which file attr allocation.
    let end = c.end.ensures ∙ ap (λ (a : List ℕ). min (stated_end a) (512 * c.args.allocation)) (sym attr)
    ∙ ap (λ (n : ℕ). min (stated_end file.attr) (512 * n)) (sym allocation) in
    ap (λ (n : ℕ). text_in c.args.ends which c.in-Some.layout (take n (concat file.blocks))) end
    ∙ converted_by-in c.args.ends which file c.in-Some.layout (ap layout_of attr ∙ sym c.layout.ensures.layout ∙ c.in-Some.is)
