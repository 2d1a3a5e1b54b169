-- Which candidates for the home block are blocks of a file (profile).
use Rattle.std.specs.Prelude.{ℕ, ◌<◌, Contains}
use Rattle.f11_chain.specs.home.Home.{candidate}
use Rattle.f11_chain.specs.map.HeaderBlock.{blocks_named}
use Rattle.f11_chain.specs.index.Table.{Table, IsHeaderOf}

-- a header of file f names this block
abbrev pub IsNamedIn : Table → ℕ → ℕ → Type 0
IsNamedIn t f lbn = (n : ℕ) × IsHeaderOf t f n × Contains (blocks_named (t.header n)) lbn

-- each candidate for the home block before this LBN is a block of file 3
abbrev pub AreNamedBefore : Table → ℕ → Type 0
AreNamedBefore t lbn = (k : ℕ) → candidate k < lbn → IsNamedIn t 3 (candidate k)
