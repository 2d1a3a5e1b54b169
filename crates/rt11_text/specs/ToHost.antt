-- How far a text of an RT-11 volume was gone over.
use Rattle.std.specs.Prelude.{ℕ, false, if◌then◌else◌, List, [], ◌∷◌, ◌++◌}
use Rattle.rt11_text.specs.Text.{meant, without_crs}
use Rattle.rt11_text.specs.declared.to_host.ToHost.{ToHost}

-- before its first byte
abbrev pub begins : ToHost
begins = record { cr = false; ended = false }

-- a CR that is kept back
abbrev pub kept_back : ToHost → List ℕ
kept_back t = if t.cr then 13 ∷ [] else []

-- what the host gets where these bytes follow
abbrev pub text_behind : ToHost → List ℕ → List ℕ
text_behind t rest = without_crs (kept_back t ++ (if t.ended then [] else meant rest))
