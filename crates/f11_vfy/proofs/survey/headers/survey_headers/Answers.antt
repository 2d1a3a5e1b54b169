use Rattle.std.proofs.Common.{◌≡◌, ◌+◌, refl, sym, ap, subst, ◌∙◌, arith}
use Rattle.f11_dev.proofs.LookedLemmas.{looked_none, looked_within}
use Rattle.f11_dev.specs.Looked.{Looked}
use Rattle.f11_index.specs.IndexFile.{slots}
use Rattle.f11_index.specs.Kept.{index_kept}
use Rattle.f11_index.specs.Table.{table_in}
use Rattle.f11_vfy.specs.Surveying.Extensions.{extensions_to}
use Rattle.f11_vfy.specs.Surveying.Headers.{IsSurvey, Surveys, used_of}
use Rattle.f11_vfy.proofs.Scanning.Reading.{table-slots}
use Rattle.f11_vfy.proofs.Surveying.Extensions.{extensions-none, kept-more}
use Rattle.f11_vfy.proofs.Surveying.Table.{live-low, looked-slot, looked-slots, state-stays}
use Rattle.f11_vfy.proofs.Surveying.Headers.{survey-new, surveys-new, survey-more, surveys-more}
use Rattle.f11_vfy.proofs.survey.headers.survey_headers.Goals as goal

pub loop-k-init : goal.loop-k-init
loop-k-init g c = record {
  wanted = refl;
  keeps = λ honest keep. keep.none ∙ sym (extensions-none _);
  is_survey = survey-new c.args.size _ c.in_ok-survey.ensures;
  surveys = λ honest. surveys-new _ c.args.size _ (live-low (index_kept c.args.index.now) (g.D.Device.disk c.args.device.now))
      c.in_ok-survey.ensures;
  looked = looked_within (looked_none _) (omega arith);
}

pub returns-in_err-state-clause-failed : goal.returns-in_err-state-clause-failed
returns-in_err-state-clause-failed g c = λ _.
    let index = index_kept c.args.index.now in
    looked-slots index (c.loop-k.k + 1) (omega (arith, c.loop-k-test.true, c.slots-k-end.ensures))
    (looked-slot index c.loop-k.k c.loop-k.invariant.looked c.in_err-state.ensures.failed)

pub returns-in_err-take-clause-no_memory : goal.returns-in_err-take-clause-no_memory
returns-in_err-take-clause-no_memory g c = λ _.
    let index = index_kept c.args.index.now in
    looked-slots index (c.loop-k.k + 1) (omega (arith, c.loop-k-test.true, c.slots-k-end.ensures))
    (looked-slot index c.loop-k.k c.loop-k.invariant.looked c.in_ok-state.ensures.reads.looked)

pub returns-in_err-take-2-clause-no_memory : goal.returns-in_err-take-2-clause-no_memory
returns-in_err-take-2-clause-no_memory g c = λ _.
    let index = index_kept c.args.index.now in
    looked-slots index (c.loop-k.k + 1) (omega (arith, c.loop-k-test.true, c.slots-k-end.ensures))
    (looked-slot index c.loop-k.k c.loop-k.invariant.looked c.in_ok-state.ensures.reads.looked)

pub loop-k-preserved : goal.loop-k-preserved
loop-k-preserved g c =
    let index = index_kept c.args.index.now in
    let old = g.D.Device.disk c.args.device.now in
    let now = g.D.Device.disk c.loop-k.device in
    let new = g.D.Device.disk c.read_slot.new.device in
    record {
      wanted = c.in_ok-take-2.ensures.wanted ∙ c.loop-k.invariant.wanted;
      keeps = λ honest keep.
          let is = state-stays index old now new _ (c.loop-k.k + 1) c.in_ok-state.state c.read_slot.new.block c.loop-k.invariant.looked
          c.in_ok-state.ensures.reads honest in
          kept-more (table_in old.image index) c.loop-k.k _ _ _ _ _ c.in_ok-take-2.ensures is.0 is.1 keep c.loop-k.invariant.wanted
          (c.loop-k.invariant.keeps honest keep);
      is_survey = survey-more c.loop-k.k _ _ c.args.size _ _ c.in_ok-take.ensures c.loop-k.invariant.is_survey;
      surveys = λ honest.
          let is = state-stays index old now new _ (c.loop-k.k + 1) c.in_ok-state.state c.read_slot.new.block c.loop-k.invariant.looked
          c.in_ok-state.ensures.reads honest in
          surveys-more c.loop-k.k _ _ c.args.size _ _ c.in_ok-take.ensures _ is.0 is.1 (c.loop-k.invariant.surveys honest);
      looked = looked-slot index c.loop-k.k c.loop-k.invariant.looked c.in_ok-state.ensures.reads.looked;
    }

pub returns-clause-surveys : goal.returns-clause-surveys
returns-clause-surveys g c =
    let index = index_kept c.args.index.now in
    let all : c.loop-k.k ≡ slots index = omega (arith, c.loop-k-test.false, c.loop-k.auto.k-end, c.slots-k-end.ensures) in
    record {
      is_survey = subst (λ n. IsSurvey c.args.size n c.loop-k.survey) all c.loop-k.invariant.is_survey;
      surveys = λ honest. subst (λ n. Surveys (table_in (g.D.Device.disk c.args.device.now).image index) c.args.size n c.loop-k.survey) all
          (c.loop-k.invariant.surveys honest);
      looked = subst (λ n. Looked (g.D.Device.disk c.args.device.now) (g.D.Device.disk c.loop-k.device) (used_of index n) 0) all
          c.loop-k.invariant.looked;
    }

pub returns-clause-keeps : goal.returns-clause-keeps
returns-clause-keeps g c = λ honest keep.
    let index = index_kept c.args.index.now in
    let table = table_in (g.D.Device.disk c.args.device.now).image index in
    let all : c.loop-k.k ≡ slots index = omega (arith, c.loop-k-test.false, c.loop-k.auto.k-end, c.slots-k-end.ensures) in
    c.loop-k.invariant.keeps honest keep
    ∙ ap (extensions_to table) (all ∙ sym (table-slots (g.D.Device.disk c.args.device.now).image index))
