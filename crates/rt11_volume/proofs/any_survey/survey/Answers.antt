use Rattle.std.proofs.Common.{◌<◌, IsTrue, ap, sym, ◌∙◌, arith, length}
use Rattle.f11_dev.specs.Image.{Image}
use Rattle.f11_dev.proofs.LookedLemmas.{looked_none, looked_more, looked_within}
use Rattle.rt11_volume.specs.InHand.{visits as visits_of}
use Rattle.rt11_volume.specs.Segment.{segment_words}
use Rattle.rt11_volume.specs.Surveying.{state_by}
use Rattle.rt11_volume.proofs.Verifying.Verdict.{faults-sized, unsized-few, unsized-first, sized-first}
use Rattle.rt11_volume.proofs.any_survey.survey.Goals as goal

pub returns-then-blocks-lt8-clause-surveys : goal.returns-then-blocks-lt8-clause-surveys
returns-then-blocks-lt8-clause-surveys g c =
    let image = (g.D.Device.disk c.args.device.now).image in
    let few : length image < 8 = omega (arith, c.blocks-blocks.ensures.count) in
    c.in_ok-unreadable.ensures _ _ (λ honest. unsized-few image few) (looked_within (looked_none _) (omega arith))

pub returns-then-not-is_sized-clause-surveys : goal.returns-then-not-is_sized-clause-surveys
returns-then-not-is_sized-clause-surveys g c =
    let image = (g.D.Device.disk c.args.device.now).image in
    let read = c.in_ok-first.ensures.reads in
    c.in_ok-unreadable-2.ensures _ _
    (λ honest. unsized-first image c.in_ok-first.first c.blocks-blocks.result c.is_sized.result
    (read.words_are honest) c.blocks-blocks.ensures.count c.is_sized.ensures c.if-not-is_sized.true)
    (looked_within read.looked (omega arith))

pub returns-clause-surveys : goal.returns-clause-surveys
returns-clause-surveys g c =
    let image = (g.D.Device.disk c.args.device.now).image in
    let read = c.in_ok-first.ensures.reads in
    let visits = c.in_ok-visited.ensures.visits in
    let same = λ (honest : IsTrue (g.D.Device.disk c.args.device.now).honest).
    visits.visits_are (read.looked.honest ∙ honest) (read.words_are honest ∙ ap (λ (i : Image). segment_words i 1) (sym read.looked.image))
    ∙ ap visits_of read.looked.image in
    let sized = λ (honest : IsTrue (g.D.Device.disk c.args.device.now).honest).
    sized-first image c.in_ok-first.first c.blocks-blocks.result c.is_sized.result
    (read.words_are honest) c.blocks-blocks.ensures.count c.is_sized.ensures c.if-not-is_sized.false in
    record {
      sized = sized;
      entries_are = λ honest. c.in_ok-list.ensures image (c.deref-2.ensures.value ∙ same honest);
      faults = c.in_ok-faults.faults;
      faults_are = λ honest. faults-sized image _ (sized honest)
          (c.in_ok-faults.ensures image (c.deref.ensures.value ∙ same honest) c.blocks-blocks.ensures.count);
      state_is = c.state_by-state.ensures ∙ ap (state_by c.in_ok-faults.faults) c.deref-3.ensures.value;
      looked = looked_more read.looked visits.looked;
    }
