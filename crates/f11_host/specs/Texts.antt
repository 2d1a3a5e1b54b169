-- A text of the host as one of an RT-11 volume (RSX-11M Utilities manual, FLX; the ends of its lines: profile).
use Rattle.std.specs.Prelude.{ℕ, List, [], ◌∷◌, Option}
use Rattle.f11_flx.specs.Conversion.{Copy, copied_from_rt}
use Rattle.f11_flx.specs.Passes.{IsCopied}
use Rattle.f11_flx.specs.declared.mode.CopyMode.TheVariants.{Text}
use Rattle.rt11_text.specs.Crs.{with_crs}

-- the copy of a text, its lines ended by LF or by CR LF; none where one is too long
abbrev pub copied_text : List ℕ → Option Copy
copied_text text = copied_from_rt Text (with_crs text ∷ [])

-- these blocks are the copy of it, and these its attributes
abbrev pub IsCopiedText : List ℕ → List (List ℕ) → List ℕ → Type 0
IsCopiedText text blocks attr = IsCopied Text (with_crs text ∷ []) blocks attr
