use Rattle.std.proofs.Common.{◌<◌, [], ◌∷◌, ◌++◌, ℕ, length, ap, sym, subst, refl, arith}
use Rattle.std.specs.Prelude.{All}
use Rattle.f11_map.specs.HeaderBlock.{blocks_named}
use Rattle.f11_chain.proofs.AlongLemmas.{Along-first, Along-next}
use Rattle.f11_vfy.proofs.Frames.Parts.{nothing-kept, none-within, bad-block, reads-file, kept-more, within-more, kept-within, kept-few}
use Rattle.f11_vfy.proofs.frame.bitmap_file.read_bitmap_file.Goals as goal

pub loop-init : goal.loop-init
loop-init g c = record {
  number = 2;
  behind = [];
  along = Along-first _ _ _ _ _ c.in-Ok.ensures.reads;
  kept_are = λ honest. nothing-kept _ c.in_ok-kept.ensures.0;
  within = λ honest. none-within _ [] refl;
  on_device = none-within _ _ c.in_ok-kept.ensures.0;
  few = omega (arith, ap length c.in_ok-kept.ensures.0);
  room = c.in_ok-kept.ensures.1;
}

pub returns-then-not-keep_named-clause-reads : goal.returns-then-not-keep_named-clause-reads
returns-then-not-keep_named-clause-reads g c =
    bad-block _ _ _ _ _ _ _ c.loop.invariant.along
    (λ all. (rw c.if-not-keep_named.true at c.keep_named.ensures.keeps)
    (subst (λ (end : ℕ). All (λ l. l < end) (blocks_named c.loop.block)) (sym c.blocks-end.ensures.count) all))

pub returns-in-Ok-None-clause-reads : goal.returns-in-Ok-None-clause-reads
returns-in-Ok-None-clause-reads g c =
    let keeps = rw (c.if-not-keep_named.false, c.blocks-end.ensures.count) at c.keep_named.ensures.keeps in
    reads-file _ _ _ _ _ _ _ c.loop.invariant.along _ _ _ _ c.loop.invariant.kept_are c.loop.invariant.within c.loop.invariant.on_device
    keeps (rw c.in-Ok-None.field-0-is at c.in-Ok-None.ensures.last)

pub loop-preserved : goal.loop-preserved
loop-preserved g c =
    let keeps = rw (c.if-not-keep_named.false, c.blocks-end.ensures.count) at c.keep_named.ensures.keeps in
    record {
      number = c.in-Ok-Some.field-0-0;
      behind = c.loop.invariant.behind ++ c.loop.invariant.number ∷ [];
      along = Along-next _ _ _ _ _ _ _ _ c.loop.invariant.along _ _ _ (rw c.in-Ok-Some.field-0-is at c.in-Ok-Some.ensures.reads);
      kept_are = kept-more _ _ _ _ _ _ _ c.loop.invariant.along _ _ c.loop.invariant.kept_are keeps.1;
      within = within-more _ _ _ _ _ _ _ c.loop.invariant.along c.loop.invariant.within keeps.0;
      on_device = kept-within _ _ _ _ c.loop.invariant.on_device keeps;
      few = kept-few _ _ _ _ keeps;
      room = c.keep_named.ensures.room;
    }
