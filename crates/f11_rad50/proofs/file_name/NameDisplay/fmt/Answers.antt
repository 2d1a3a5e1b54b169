use Rattle.std.proofs.Common.{◌≡◌, take}
use Rattle.std.proofs.Math.Seq.{take-append_seam}
use Rattle.f11_rad50.specs.Name.{name_text}
use Rattle.f11_rad50.proofs.Words.{IsName-from_parts}
use Rattle.f11_rad50.proofs.Texts.{ok_at_name_text}
use Rattle.f11_rad50.proofs.file_name.NameDisplay.fmt.Goals as goal

pub unwrap-requires : goal.unwrap-requires
unwrap-requires g c =
    let words = c.args.self.now in
    let s = c.spell-length.ensures.reads_back in
    let front : take c.spell-length.result c.spell-length.new.into ≡ name_text words =
    rw (c.spell-length.ensures.text, c.spell-length.ensures.length) (take-append_seam (name_text words) _) in
    ok_at_name_text c.from_utf8.result _ _ _ words c.from_utf8.ensures.cases (IsName-from_parts words s.name s.type _ s.proper s.same_words)
    front
