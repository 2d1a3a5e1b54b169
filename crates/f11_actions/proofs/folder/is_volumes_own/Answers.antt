use Rattle.std.proofs.Common.{◌≡◌, ◌∙◌, ◌||◌, ◌++◌, Bool, ℕ, List, false, ap, drop, length, sym, take}
use Rattle.std.proofs.Math.Seq.{take-append_seam}
use Rattle.f11_making.specs.Plans.{is_directory_name}
use Rattle.f11_rad50.specs.Name.{name_text}
use Rattle.f11_actions.specs.Folder.{is_own_text}
use Rattle.f11_actions.proofs.folder.is_volumes_own.Goals as goal

pub returns-else-is_directory_name : goal.returns-else-is_directory_name
returns-else-is_directory_name c =
    let name = c.args.name.now in
    let spelled = c.spell-length.ensures in
    let whole : take c.spell-length.result c.spell-length.new.into ≡ name_text name =
    ap (λ (n : ℕ). take n c.spell-length.new.into) spelled.length ∙ ap (λ (xs : List ℕ). take (length (name_text name)) xs) spelled.text
    ∙ take-append_seam (name_text name) _ in
    let other : is_directory_name name ≡ false = sym c.is_directory_name.ensures ∙ c.if-is_directory_name.false in
    c.is_own_text.ensures ∙ ap (λ (text : List ℕ). is_own_text text) whole
    ∙ sym (ap (λ (b : Bool). b || is_own_text (name_text name)) other)
