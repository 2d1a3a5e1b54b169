-- What a command's writer takes (profile).
use Rattle.std.specs.Prelude.{List, ℕ, Option}
use Rattle.std.specs.Io.KnownBytes.{Appends}

-- the writer took this text
abbrev pub WriterTakes : {W : Type 0} → (W → Option (List ℕ)) → W → W → List ℕ → Type 0
WriterTakes contents old new text = Appends (contents old) (contents new) text

-- the writer took a text of which P holds
pub record TakesText {W : Type 0} (contents : W → Option (List ℕ)) (P : List ℕ → Type 0) (old new : W) : Type 0 where
  pub text : List ℕ
  pub is : P text
  pub takes : WriterTakes contents old new text
