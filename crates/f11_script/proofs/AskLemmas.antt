-- Requests that leave the caller's block as it is.
use Rattle.std.proofs.Common.{ℕ, List, Option, Some, None, ap}
use Rattle.f11_store.specs.declared.requests.Request.{Request}
use Rattle.f11_script.specs.Reading.{Gives}
use Rattle.f11_script.specs.Requests.{Ask, asks, with_block}

-- what is read of a request without a block is read of it with the block as it is
pub kept : (r : Option Request) (read : Option Ask) (block : List ℕ) → Gives asks r read → Gives (λ x. (x, block)) r (with_block block read)
kept None read block h = ap (with_block block) h
kept (Some x) read block h = ap (with_block block) h
