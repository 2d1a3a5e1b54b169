use Rattle.std.proofs.Common.{◌≡◌, ◌==◌, ℕ, ◌++◌, ◌∙◌, ap, List, sym}
use Rattle.rt11_text.specs.Text.{without_crs}
use Rattle.rt11_text.proofs.TextLemmas.{before, held, itself, one-byte}
use Rattle.rt11_text.proofs.to_host.ToHost.put_byte.Goals as goal

pub returns-clause-puts : goal.returns-clause-puts
returns-clause-puts c text =
    let out = c.args.into.now.items in
    let cr = c.args.self.now.cr in
    let byte = c.args.byte in
    let first : c.put_if.new.into.items ≡ out ++ before cr byte = rw (c.is_of_line.ensures) at c.put_if.ensures in
    let second : c.put_if-2.new.into.items ≡ (out ++ before cr byte) ++ itself byte =
    c.put_if-2.ensures ∙ ap (λ (l : List ℕ). l ++ itself byte) first in
    one-byte cr byte out text ∙ ap (λ (l : List ℕ). l ++ without_crs (held (byte == 13) ++ text)) (sym second)
