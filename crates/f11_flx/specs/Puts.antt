-- Bytes put into a block.
use Rattle.std.specs.Prelude.{◌≡◌, ℕ, List, take, drop}

-- those before and behind them stay
pub record PutsAt (old new : List ℕ) (from to : ℕ) : Type 0 where
  pub before : take from new ≡ take from old
  pub behind : drop to new ≡ drop to old
