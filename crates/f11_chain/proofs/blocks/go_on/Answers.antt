use Rattle.std.proofs.Common.{◌≡◌, ◌+◌, ℕ, [], subst, ◌∷◌, ◌++◌, length, refl, arith}
use Rattle.f11_index.specs.Kept.{index_kept}
use Rattle.f11_chain.specs.FileHeaders.{blocks_by}
use Rattle.f11_chain.specs.Calls.{table}
use Rattle.f11_index.proofs.SegmentLemmas.{segment-low}
use Rattle.f11_index.specs.map.HeaderBlock.{segment_number}
use Rattle.f11_chain.proofs.AlongLemmas.{AlongFrom, Along-from, headers-before, blocks-before-are, Along-next, break-next, failed-next}
use Rattle.f11_chain.proofs.AlongLemmas.{handed-on, counted-more, seeks, finds-end}
use Rattle.f11_chain.proofs.blocks.go_on.Goals as goal

pub loop-init : goal.loop-init
loop-init g c =
    let old = g.D.Device.disk c.args.device.now in
    let index = index_kept c.args.index.now in
    let none : segment_number c.args.block.now ≡ segment_number c.args.block.now + 0 = omega arith in
    let begun = Along-from index c.args.from.now c.args.block.now old (segment-low c.args.block.now c.fits-block) c.requires.header
    (λ honest. (c.requires.is_at honest).of_file) in
    record {
      behind = headers-before index c.args.from.now c.args.block.now old;
      along = subst (λ (k : ℕ). AlongFrom 1 index c.args.from.now.file c.args.from.now.number k
          (headers-before index c.args.from.now c.args.block.now old) c.args.block.now old old) none begun;
      steps = omega arith;
      low = omega arith;
      left_is = λ honest.
          let before = blocks-before-are index c.args.from.now c.args.block.now old c.requires.header honest in
          omega (arith, before, (c.requires.is_at honest).before_is, c.requires.behind);
    }

pub returns-then-left-named-clause-seeks : goal.returns-then-left-named-clause-seeks
returns-then-left-named-clause-seeks g c =
    seeks _ _ _ _ _ _ _ _ c.loop.invariant.along _ _ _ c.loop.invariant.left_is
    (omega (arith, c.if-left-named.true, c.len_blocks-named.ensures.count)) c.segment.ensures c.loop.invariant.low

pub returns-in_err-to-clause-damaged : goal.returns-in_err-to-clause-damaged
returns-in_err-to-clause-damaged g c = λ is.
    break-next _ _ _ _ _ _ _ _ c.loop.invariant.along _ (c.in_err-to.ensures.damaged (handed-on _ _ _ c.from_residual.ensures.1 is))

pub returns-in_err-to-clause-failed : goal.returns-in_err-to-clause-failed
returns-in_err-to-clause-failed g c = λ is.
    failed-next _ _ _ _ _ _ _ _ c.loop.invariant.along _ (c.in_err-to.ensures.failed (handed-on _ _ _ c.from_residual.ensures.1 is))

pub returns-in_default-clause-end : goal.returns-in_default-clause-end
returns-in_default-clause-end g c = λ _.
    finds-end _ _ _ _ _ _ _ _ c.loop.invariant.along _ _ _ _ c.loop.invariant.left_is
    (omega (arith, c.if-left-named.false, c.len_blocks-named.ensures.count))
    (rw c.in_default.is at c.in_ok-to.ensures.last)

pub loop-preserved : goal.loop-preserved
loop-preserved g c = record {
  behind = c.loop.invariant.behind ++ c.loop.number ∷ [];
  along =
      let next : segment_number c.args.block.now + c.loop.counter + 1 ≡ segment_number c.args.block.now + (c.loop.counter + 1) =
      omega arith in
      subst (λ (k : ℕ). AlongFrom 1 (index_kept c.args.index.now) c.args.from.now.file c.in-Some.to k
      (c.loop.invariant.behind ++ c.loop.number ∷ []) c.next.new.block (g.D.Device.disk c.args.device.now)
      (g.D.Device.disk c.next.new.device)) next
      (Along-next _ _ _ _ _ _ _ _ c.loop.invariant.along _ _ _ (rw c.in-Some.is at c.in_ok-to.ensures.reads));
  steps = let read = rw c.in-Some.is at c.in_ok-to.ensures.reads in omega (arith, c.loop.invariant.steps, read.looked.transfers);
  low = omega (arith, c.loop.invariant.low);
  left_is = λ honest.
      let more = counted-more _ _ _ _ _ _ _ _ c.loop.invariant.along
      (length (blocks_by (table (index_kept c.args.index.now) (g.D.Device.disk c.args.device.now)) c.loop.invariant.behind)) _
      (λ _. refl) c.len_blocks-named.ensures.count honest in
      omega (arith, more, c.loop.invariant.left_is honest, c.if-left-named.false);
}

pub returns-clause-damaged : goal.returns-clause-damaged
returns-clause-damaged g c = λ _. let few = c.loop.invariant.along.few in absurd (omega (arith, few, c.loop-test.false))
