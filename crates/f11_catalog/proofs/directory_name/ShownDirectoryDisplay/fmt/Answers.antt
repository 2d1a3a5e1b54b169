use Rattle.std.proofs.Common.{◌≡◌, take, sym, ◌∙◌}
use Rattle.f11_catalog.specs.DirectoryNames.{directory_shown}
use Rattle.f11_catalog.proofs.NameLemmas.{in-ok, shown-is-text, shown-text}
use Rattle.f11_catalog.proofs.directory_name.ShownDirectoryDisplay.fmt.Goals as goal

pub unwrap-requires : goal.unwrap-requires
unwrap-requires g c =
    let spelled = c.spell-length.ensures in
    shown-is-text c.from_utf8.result _ _ _ c.args.self.now.0 c.from_utf8.ensures.cases spelled.reads_back
    (shown-text c.args.self.now.0 _ _ _ _ spelled.text spelled.length c.shown_of-shown.ensures.shown c.shown_of-shown.ensures.within)

pub returns-clause-writes : goal.returns-clause-writes
returns-clause-writes g c = λ plain done.
    let spelled = c.spell-length.ensures in
    let part : c.unwrap.result.now ≡ take c.shown_of-shown.result c.spell-length.new.into =
    (in-ok c.from_utf8.result c.unwrap.result _ _ c.from_utf8.ensures.cases c.unwrap.ensures).0 in
    let shown : take c.shown_of-shown.result c.spell-length.new.into ≡ directory_shown c.args.self.now.0 =
    shown-text c.args.self.now.0 _ _ _ _ spelled.text spelled.length c.shown_of-shown.ensures.shown c.shown_of-shown.ensures.within in
    rw (sym (part ∙ shown)) (c.write_str.ensures.writes plain done)
