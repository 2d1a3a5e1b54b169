use Rattle.std.proofs.Common.{sym, ◌∙◌, ap, map, string_bytes, drop, codes}
use Rattle.std.specs.Str.{bytes_eq}
use Rattle.f11_words.proofs.HostsLemmas.{mode-behind}
use Rattle.f11_words.specs.Hosts.{behind_options}
use Rattle.f11_words.proofs.hosts.+behind_options.Goals as goal

pub returns-then-words-gt1 : goal.returns-then-words-gt1
returns-then-words-gt1 t c =
    c.behind_options.ensures
    ∙ ap (λ ws. behind_options (map string_bytes ws)) (c.without_first-then-words-gt1.ensures ∙ ap (drop 1) c.without_first.ensures)
    ∙ mode-behind string_bytes c.args.words.now c.word-item.result c.if-words-gt1.true
    (ap (λ w. bytes_eq (string_bytes w) (codes "--mode")) (sym c.word-item.is)
    ∙ ap (λ t. bytes_eq t (codes "--mode")) (sym c.as_str.ensures.value) ∙ sym c.eq.ensures ∙ c.if-eq.true)
