use Rattle.std.proofs.Common.{sym, ◌∙◌, arith}
use Rattle.f11_index.proofs.HeadersLemmas.{live-some}
use Rattle.f11_writes.proofs.laws.out_of_order.Goals as goal

pub returns : goal.returns
returns c = record {
  free = λ image home lbn block free changed orderly. changed (orderly.spares lbn free);
  fixed = λ image home lbn block is changed orderly. changed (orderly.fixed lbn is).0;
  comes = λ old new home n unused used none orderly. none (orderly.comes n unused used);
  leaves = λ old new home n live unused orderly.
      let none = sym live.valid.number ∙ orderly.leaves n live.in_use unused in omega (arith, none, live-some live);
  linked = λ old new home m n in_file next gone orderly. orderly.lost n m next.to gone in_file next;
  zeros = λ old new home lbn named none other orderly. other (orderly.named lbn named none).1;
  used = λ old new home lbn named used free orderly. orderly.freed lbn used free named;
}
