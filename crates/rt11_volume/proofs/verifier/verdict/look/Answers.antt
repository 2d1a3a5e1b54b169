use Rattle.std.proofs.Common.{◌<◌, IsTrue, ap, sym, ◌∙◌, arith, length}
use Rattle.f11_dev.specs.Image.{Image}
use Rattle.f11_dev.proofs.LookedLemmas.{looked_none, looked_more, looked_within}
use Rattle.rt11_volume.specs.InHand.{visits as visits_of}
use Rattle.rt11_volume.specs.Segment.{segment_words}
use Rattle.rt11_volume.proofs.Verifying.Verdict.{faults-size, notes-size, faults-sized, notes-sized, unsized-few, unsized-first}
use Rattle.rt11_volume.proofs.Verifying.Verdict.{sized-first}
use Rattle.rt11_volume.proofs.verifier.verdict.look.Goals as goal

pub returns-then-blocks-lt8-clause-found : goal.returns-then-blocks-lt8-clause-found
returns-then-blocks-lt8-clause-found g c =
    let image = (g.D.Device.disk c.args.device.now).image in
    let few : length image < 8 = omega (arith, c.blocks-blocks.ensures.count) in
    record {
      faults_are = λ honest. faults-size image _ (unsized-few image few) c.in_ok-wrong_size.ensures.0;
      notes_are = λ honest. notes-size image _ (unsized-few image few) c.in_ok-wrong_size.ensures.1;
      looked = looked_within (looked_none _) (omega arith);
    }

pub returns-then-not-is_sized-clause-found : goal.returns-then-not-is_sized-clause-found
returns-then-not-is_sized-clause-found g c =
    let image = (g.D.Device.disk c.args.device.now).image in
    let read = c.in_ok-first.ensures.reads in
    record {
      faults_are = λ honest.
          faults-size image _ (unsized-first image c.in_ok-first.first c.blocks-blocks.result c.is_sized.result
          (read.words_are honest) c.blocks-blocks.ensures.count c.is_sized.ensures c.if-not-is_sized.true)
          c.in_ok-wrong_size-2.ensures.0;
      notes_are = λ honest.
          notes-size image _ (unsized-first image c.in_ok-first.first c.blocks-blocks.result c.is_sized.result
          (read.words_are honest) c.blocks-blocks.ensures.count c.is_sized.ensures c.if-not-is_sized.true)
          c.in_ok-wrong_size-2.ensures.1;
      looked = looked_within read.looked (omega arith);
    }

pub returns-clause-found : goal.returns-clause-found
returns-clause-found g c =
    let image = (g.D.Device.disk c.args.device.now).image in
    let read = c.in_ok-first.ensures.reads in
    let visits = c.in_ok-visited.ensures.visits in
    let same = λ (honest : IsTrue (g.D.Device.disk c.args.device.now).honest).
    visits.visits_are (read.looked.honest ∙ honest) (read.words_are honest ∙ ap (λ (i : Image). segment_words i 1) (sym read.looked.image))
    ∙ ap visits_of read.looked.image in
    let sized = λ (honest : IsTrue (g.D.Device.disk c.args.device.now).honest).
    sized-first image c.in_ok-first.first c.blocks-blocks.result c.is_sized.result
    (read.words_are honest) c.blocks-blocks.ensures.count c.is_sized.ensures c.if-not-is_sized.false in
    record {
      faults_are = λ honest. faults-sized image _ (sized honest)
          (c.in_ok-faults.ensures image (c.deref.ensures.value ∙ same honest) c.blocks-blocks.ensures.count);
      notes_are = λ honest. notes-sized image _ (sized honest) (c.in_ok-notes.ensures image (c.deref-2.ensures.value ∙ same honest));
      looked = looked_more read.looked visits.looked;
    }
