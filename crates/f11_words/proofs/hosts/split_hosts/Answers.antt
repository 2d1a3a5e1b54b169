use Rattle.std.proofs.Common.{◌≡◌, ◌-◌, ℕ, length, sym, ◌∙◌, ap, drop, map, min, string_bytes}
use Rattle.f11_words.proofs.HostsLemmas.{others-behind, stand-behind}
use Rattle.f11_words.specs.Hosts.{behind_options}
use Rattle.f11_words.proofs.hosts.split_hosts.Goals as goal

pub returns-in_default-clause-behind : goal.returns-in_default-clause-behind
returns-in_default-clause-behind c = stand-behind

pub returns-clause-behind : goal.returns-clause-behind
returns-clause-behind c = stand-behind

pub returns-clause-others : goal.returns-clause-others
returns-clause-others c =
    let before = c.in-Some.before in
    let least : c.min.result ≡ min (length c.behind_options-places.result.now - before) (length c.args.words.now) =
    c.min.ensures ∙ ap (λ (n : ℕ). min n (length c.args.words.now)) c.saturating_sub-others.ensures
    in
    ap (map string_bytes) (c.split_at-2.ensures.back ∙ ap (λ (n : ℕ). drop (length c.args.words.now - n) c.args.words.now) least)
    ∙ others-behind string_bytes c.args.words.now c.behind_options-places.result.now before
    (sym c.places_in.ensures ∙ c.in-Some.is)
    (c.behind_options-places.ensures
    ∙ ap (λ ws. behind_options (map string_bytes ws)) (c.without_first-2.ensures ∙ ap (drop 1) c.without_first.ensures))
