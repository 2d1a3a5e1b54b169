use Rattle.std.proofs.Common.{◌≡◌, ℕ, ◌<◌, false, length}
use Rattle.f11_index.specs.IndexFile.{bit_of_slot}
use Rattle.f11_index.proofs.index_file.IndexFile.first_past.Given as goal

-- no bit so far is 1
abbrev pub invariant-loop-n : goal.invariant-loop-n
invariant-loop-n l = (m : ℕ) → length l.self.headers.items < m → m < l.n → bit_of_slot l.self.bitmap.items m ≡ false
