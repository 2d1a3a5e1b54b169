-- Bytes that are cut off at the end (profile).
use Rattle.std.specs.Prelude.{ℕ, Bool, if◌then◌else◌, List, [], ◌∷◌}
use Rattle.std.specs.List.{list_all}

-- the bytes up to the last one that doesn't pass the test
abbrev pub without_trailing : (ℕ → Bool) → List ℕ → List ℕ
without_trailing test [] = []
without_trailing test (b ∷ bs) = if list_all test (b ∷ bs) then [] else b ∷ without_trailing test bs
