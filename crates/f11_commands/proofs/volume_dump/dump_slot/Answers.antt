use Rattle.std.proofs.Common.{◌⊎◌, ◌≡◌, ◌<◌, inl, inr, arith}
use Rattle.std.proofs.lemmas.Result.{on_ok_weaker}
use Rattle.f11_dev.proofs.LookedLemmas.{looked_none, looked_read, looked_within}
use Rattle.f11_index.specs.IndexFile.{slots}
use Rattle.f11_index.specs.Kept.{index_kept}
use Rattle.f11_index.proofs.InUseLemmas.{header-within}
use Rattle.f11_commands.proofs.VolumeLemmas.{no_slot-dump, slot-dump}
use Rattle.f11_commands.proofs.volume_dump.dump_slot.Goals.{then-n-eq0-via-then-n-eq0, then-n-eq0-via-else-n-eq0+then-slots-from}
use Rattle.f11_commands.proofs.volume_dump.dump_slot.Goals as goal

pub returns-then-n-eq0-clause-dumps : goal.returns-then-n-eq0-clause-dumps
returns-then-n-eq0-clause-dumps g c =
    let none : (c.args.n ≡ 0) ⊎ (slots (index_kept c.args.index.now) < c.args.n) = elim c.then-n-eq0.branch [
      | then-n-eq0-via-then-n-eq0 w ↦ inl w.if-n-eq0.true
      | then-n-eq0-via-else-n-eq0+then-slots-from w ↦ inr (omega (arith, w.slots.ensures, w.from.ensures, w.if-slots-from.true))
    ] in
    record {
      takes = record { text = _; is = λ _. no_slot-dump _ _ _ none; takes = c.in_ok-writeln.ensures.bytes };
      looked = looked_within (looked_none _) (omega arith);
    }

pub read-requires : goal.read-requires
read-requires g c = rw c.lbn_of_header.ensures
    (header-within _ _ _ c.requires.within (omega (arith, c.if-n-eq0.false))
    (omega (arith, c.slots.ensures, c.from.ensures, c.if-slots-from.false)))

pub returns-clause-dumps : goal.returns-clause-dumps
returns-clause-dumps g c = on_ok_weaker c.dump_header.result (λ takes. record {
  takes = record {
    text = takes.text;
    is =
        λ honest. slot-dump _ _ _ _ _ _ (omega (arith, c.if-n-eq0.false))
        (omega (arith, c.slots.ensures, c.from.ensures, c.if-slots-from.false))
        c.lbn_of_header.ensures (c.in_ok-read.ensures.reads.gives honest) takes.is;
    takes = takes.takes;
  };
  looked = looked_read _ _ c.in_ok-read.ensures.reads.counts;
}) c.dump_header.ensures.text
