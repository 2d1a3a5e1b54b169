use Rattle.std.proofs.Common.{◌∙◌, ap, sym, arith, length, ◌+◌, ◌-◌, [], ◌∷◌, ◌++◌, List}
use Rattle.f11_dev.proofs.LookedLemmas.{looked_none, looked_more, looked_within}
use Rattle.f11_dev.specs.Image.{Image}
use Rattle.std.proofs.lemmas.List.{length-append}
use Rattle.rt11_volume.specs.Segment.{segment_words, segment_count}
use Rattle.rt11_volume.specs.InHand.{visit_at, link_from}
use Rattle.rt11_volume.specs.declared.directory.Visited.{Visited}
use Rattle.rt11_volume.proofs.Walking.Visit.{IsWalked-first, IsWalked-more, IsWalked-ends, IsWalked-all, link_from-within, visit_at-push}
use Rattle.rt11_volume.proofs.directory.visit_all.Goals as goal

pub loop-init : goal.loop-init
loop-init g c =
    let is = c.in_ok-push.ensures
    ∙ ap (λ (vs : List Visited). vs ++ record { number = 1; segment = c.args.first } ∷ []) c.new-visited.ensures.items in
    record {
      some = omega (arith, ap (λ (vs : List Visited). length vs) is);
      first = ap (λ (vs : List Visited). (visit_at vs 0).segment) is;
      walked = λ honest same. IsWalked-first _ c.args.first _ is same;
      looked = looked_none _;
    }

pub returns-in_default-clause-visits : goal.returns-in_default-clause-visits
returns-in_default-clause-visits g c = record {
  some = c.loop.invariant.some;
  visits_are = λ honest same.
      let link = sym (ap link_from c.deref.ensures.value) ∙ sym c.link_on.ensures ∙ c.in_default.is in
      IsWalked-ends _ _ _ (c.loop.invariant.first ∙ same) link (c.loop.invariant.walked honest same);
  looked = looked_within c.loop.invariant.looked (omega arith);
}

pub read-requires : goal.read-requires
read-requires g c =
    let link = sym (ap link_from c.deref.ensures.value) ∙ sym c.link_on.ensures ∙ c.in-Some.is in
    let within = link_from-within c.loop.visited.items c.in-Some.next link in
    let first = ap segment_count c.loop.invariant.first in
    omega (arith, within, first, c.requires.within, ap (λ (image : Image). length image) c.loop.invariant.looked.image)

pub loop-preserved : goal.loop-preserved
loop-preserved g c =
    let before = c.loop.visited.items in
    let link = sym (ap link_from c.deref.ensures.value) ∙ sym c.link_on.ensures ∙ c.in-Some.is in
    let is = c.in_ok-push-2.ensures in
    let read = c.in_ok-segment.ensures.reads in
    let old = c.loop.invariant.looked in
    record {
      some = omega (arith, simp length-append at (ap (λ (vs : List Visited). length vs) is));
      first = ap (λ (vs : List Visited). (visit_at vs 0).segment) is
          ∙ ap (λ (v : Visited). v.segment) (visit_at-push before _ c.loop.invariant.some) ∙ c.loop.invariant.first;
      walked = λ honest same.
          let words = read.words_are (old.honest ∙ honest) ∙ ap (λ (image : Image). segment_words image c.in-Some.next) old.image in
          IsWalked-more _ (31 - c.loop.counter) (31 - (c.loop.counter + 1)) before _ c.in-Some.next _ (omega arith)
          (c.loop.invariant.first ∙ same) link words is
          (c.loop.invariant.walked honest same);
      looked = looked_within (looked_more old read.looked) (omega (arith, c.loop.auto.counter));
    }

pub returns-clause-visits : goal.returns-clause-visits
returns-clause-visits g c = record {
  some = c.loop.invariant.some;
  visits_are = λ honest same. IsWalked-all _ _ _ (omega arith) (c.loop.invariant.walked honest same);
  looked = looked_within c.loop.invariant.looked (omega arith);
}
