-- What stands against laying a file out, of what is found of it (profile).
use Rattle.std.specs.Prelude.{ℕ, ◌+◌, nat_lt, List, [], ◌∷◌}
use Rattle.f11_store.specs.Causes.{Cause, ◌⇐◌}
use Rattle.f11_store.specs.File.{run_need}
use Rattle.f11_store.specs.declared.refusals.Refusal.TheVariants.{NotEmpty, TooManySegments, DeviceFull, NoHeader}

-- the causes against n blocks in one run for a file that has so many blocks and headers, the last of them with so much room, where so many
-- blocks and headers are free
abbrev pub run_causes : ℕ → ℕ → ℕ → ℕ → ℕ → ℕ → List Cause
run_causes blocks headers room free free_headers n =
    (NotEmpty ⇐ nat_lt 0 blocks) ∷ (TooManySegments ⇐ nat_lt 256 (headers + run_need room n)) ∷ (DeviceFull ⇐ nat_lt free n) ∷
    (NoHeader ⇐ nat_lt free_headers (run_need room n)) ∷ []
