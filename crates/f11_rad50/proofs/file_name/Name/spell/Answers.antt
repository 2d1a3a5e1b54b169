use Rattle.std.proofs.Common.{◌++◌, ◌∷◌, [], length, drop, arith, ap, ◌∙◌, sym, get_or, zero-add}
use Rattle.f11_rad50.specs.Buffer.{IsPut}
use Rattle.f11_rad50.specs.Name.{IsName, name_text}
use Rattle.f11_rad50.proofs.Texts.{length-octal-le, name_text-eq, Spells-name_text, length-name_text}
use Rattle.f11_rad50.proofs.Places.{IsPut-append}
use Rattle.f11_rad50.proofs.file_name.Name.spell.Goals as goal

pub put_octal-requires : goal.put_octal-requires
put_octal-requires c =
    let name = ap length (c.unpadded.ensures ∙ c.name_characters-characters.ensures) in
    let type = ap length (c.unpadded-2.ensures ∙ c.type_characters-kind.ensures) in
    let fits = c.self.invariant.proper in
    omega (
      arith,
      name,
      type,
      c.put-dot.ensures.next_is,
      c.put-kind_at.ensures.next_is,
      c.put-semicolon.ensures.next_is,
      c.put-version_at.ensures.next_is,
      length-octal-le (get_or c.self.inside.words 4 0) fits.version_to,
      fits.name_length,
      fits.type_length,
    )

-- the whole text, put from the front on
whole : (c : goal.After-put_octal) → IsPut c.args.into.now c.put_octal.new.into (name_text c.args.self.now) 0 c.put_octal.result
whole c =
    let old = c.args.into.now in
    let name = c.unpadded.result.now in
    let type = c.unpadded-2.result.now in
    let dotted = IsPut-append old c.put-dot.new.into c.put-kind_at.new.into name (46 ∷ []) 0 _ _ (omega arith) c.put-dot.ensures
    c.put-kind_at.ensures in
    let typed = IsPut-append old c.put-kind_at.new.into c.put-semicolon.new.into (name ++ (46 ∷ [])) type 0 _ _ (omega arith) dotted
    c.put-semicolon.ensures in
    let marked = IsPut-append old c.put-semicolon.new.into c.put-version_at.new.into ((name ++ (46 ∷ [])) ++ type) (59 ∷ []) 0 _ _
    (omega arith) typed c.put-version_at.ensures in
    let all = IsPut-append old c.put-version_at.new.into c.put_octal.new.into (((name ++ (46 ∷ [])) ++ type) ++ (59 ∷ [])) _ 0 _ _
    (omega arith) marked c.put_octal.ensures in
    rw (
      name_text-eq c.self.inside.words name type (c.unpadded.ensures ∙ c.name_characters-characters.ensures)
          (c.unpadded-2.ensures ∙ c.type_characters-kind.ensures),
      c.self.view_is,
    ) at all

pub returns : goal.returns
returns c =
    let words = c.args.self.now in
    let name : IsName words = rw c.self.view_is at c.self.invariant in
    let put = whole c in
    record {
      length = put.next_is ∙ zero-add (length (name_text words));
      text = put.written ∙ ap (λ end. name_text words ++ drop end c.args.into.now) (sym put.next_is);
      fits = omega (arith, put.next_is, length-name_text words name);
      reads_back = Spells-name_text words name;
    }
