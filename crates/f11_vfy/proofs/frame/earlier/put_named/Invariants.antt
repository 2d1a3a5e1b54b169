use Rattle.std.proofs.Common.{◌≡◌, ℕ, IsTrue, List}
use Rattle.f11_index.specs.Kept.{index_kept}
use Rattle.f11_chain.specs.Calls.{table}
use Rattle.f11_chain.proofs.AlongLemmas.{Along}
use Rattle.f11_vfy.specs.Surveying.Bits.{limit_of}
use Rattle.f11_vfy.specs.Frames.Earlier.{Puts}
use Rattle.f11_vfy.proofs.Frames.Earlier.{IsNamedBefore}
use Rattle.f11_vfy.proofs.frame.earlier.put_named.Given as goal

-- the header in hand is one of the file, and what those before it name was put
abbrev pub invariant-loop : goal.invariant-loop
invariant-loop g l =
    let old = g.D.Device.disk l.fn.device in
    let now = g.D.Device.disk l.device in
    let index = index_kept l.index in
    record {
      number : ℕ;
      behind : List ℕ;
      along : Along index 3 number l.counter behind l.block old now;
      limit : limit_of l.named ≡ limit_of l.fn.named;
      puts : IsTrue old.honest → Puts (IsNamedBefore (table index old) 3 l.counter) l.fn.named l.named;
    }
