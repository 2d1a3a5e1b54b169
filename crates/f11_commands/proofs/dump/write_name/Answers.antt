use Rattle.std.proofs.Common.{◌∙◌, [], ap, refl, sym}
use Rattle.std.proofs.KnownBytes.{Appends-nil}
use Rattle.std.proofs.lemmas.Result.{on_ok_weaker}
use Rattle.f11_header.specs.Fields.{map_area}
use Rattle.f11_catalog.specs.map.MapArea.{segment}
use Rattle.f11_commands.proofs.dump.write_name.Goals as goal

-- no line
pub returns-then-segment-ne0 : goal.returns-then-segment-ne0
returns-then-segment-ne0 g c =
    let same = c.segment.ensures ∙ ap segment (c.of.ensures ∙ ap map_area c.new-header.ensures) in
    record {
      text = [];
      is = record { first = λ zero. absurd (c.if-segment-ne0.true (same ∙ zero)); extension = λ _. refl };
      takes = Appends-nil _;
    }

-- the line without a name
pub returns-in-None : goal.returns-in-None
returns-in-None g c =
    let same = c.segment.ensures ∙ ap segment (c.of.ensures ∙ ap map_area c.new-header.ensures) in
    let none = rw (c.name_words.ensures, c.ident.ensures.area, c.new-header.ensures) at c.in-None.ensures.name in
    on_ok_weaker c.writeln.result (λ line. record {
      text = _;
      is = record {
        first = λ _. record { name = λ name. absurd (none name); no_name = λ _. refl };
        extension = λ more. absurd (more (sym same ∙ c.if-segment-ne0.false));
      };
      takes = line;
    }) c.writeln.ensures.bytes
