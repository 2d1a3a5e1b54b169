use Rattle.f11_patterns.specs.Lent.{parts_of}
use Rattle.f11_patterns.proofs.NamingLemmas.{made-fits, one-proper}
use Rattle.f11_patterns.proofs.pattern.Pattern.name_with.Goals as goal

pub name_of_parts-requires : goal.name_of_parts-requires
name_of_parts-requires c = record {
  proper = one-proper _ _ c.args.version c.args.self.now.parts c.requires.one.name c.requires.one.kind c.requires.version.0
      c.requires.version.1;
}

pub returns : goal.returns
returns c =
    let parts = parts_of c.args.self.now in
    made-fits parts c.args.version c.requires.one
    (one-proper _ _ c.args.version c.args.self.now.parts c.requires.one.name c.requires.one.kind c.requires.version.0
    c.requires.version.1)
    c.name_of_parts.result c.name_of_parts.ensures
