-- Which candidates for the home block are blocks of file 3 (profile).
use Rattle.std.specs.Prelude.{◌≡◌, ◌⊎◌, ◌↔◌, ℕ, ◌<◌, Bool, true, IsTrue}
use Rattle.f11_dev.specs.Disk.{Disk}
use Rattle.f11_dev.specs.Looked.{Looked}
use Rattle.f11_home.specs.Home.{candidate}
use Rattle.f11_index.specs.IndexFile.{Index}
use Rattle.f11_index.specs.Table.{table_in}
use Rattle.f11_vfy.specs.Surveying.Bits.{has, limit_of}
use Rattle.f11_vfy.specs.declared.survey.bits.Bits.{Bits}
use Rattle.f11_volume.specs.Earlier.{IsNamedIn, AreNamedBefore}

-- The numbers of which this holds were put into a set, those of them that are below its limit.
pub record Puts (P : ℕ → Type 0) (old new : Bits) : Type 0 where
  pub limit : limit_of new ≡ limit_of old
  pub kept : (k : ℕ) → has old k ≡ true → has new k ≡ true
  pub all : (k : ℕ) → k < limit_of old → P k → has new k ≡ true
  pub only : (k : ℕ) → has new k ≡ true → (has old k ≡ true) ⊎ P k

-- The headers of file 3 were read, each once at most, and the numbers of the candidates that they name were put into a set.
pub record PutsNamed (index : Index) (before after : Bits) (old new : Disk) : Type 0 where
  pub puts : IsTrue old.honest → Puts (λ k. IsNamedIn (table_in old.image index) 3 (candidate k)) before after
  pub looked : Looked old new 256 0

-- It was judged whether each candidate before this LBN is a block of file 3.
pub record JudgesEarlier (index : Index) (lbn : ℕ) (named : Bool) (old new : Disk) : Type 0 where
  pub right : IsTrue old.honest → IsTrue named ↔ AreNamedBefore (table_in old.image index) lbn
  pub looked : Looked old new 256 0
