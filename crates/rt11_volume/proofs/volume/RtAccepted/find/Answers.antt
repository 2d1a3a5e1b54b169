use Rattle.std.proofs.Common.{subst, IfOk, ◌∙◌}
use Rattle.rt11_volume.specs.Files.{IsFileAt}
use Rattle.rt11_volume.specs.Searching.Locating.{Locates}
use Rattle.rt11_volume.specs.Store.{rt_store_of}
use Rattle.rt11_volume.specs.declared.lookup.file.Located.{Located}
use Rattle.rt11_volume.proofs.Searching.Locating.{file-at}
use Rattle.rt11_volume.proofs.volume.RtAccepted.find.Goals as goal

pub returns-clause-found : goal.returns-clause-found
returns-clause-found g c = λ sound.
    let old = g.D.Device.disk c.args.self.now.device in
    let file = c.in_ok-file.file in
    let at = subst (λ r. IfOk r (λ (f : Located). Locates c.words.result f old)) c.in_ok-file.was c.locate-answer.ensures.found in
    subst (λ n. IsFileAt n (rt_store_of old.image) file.start file.length) (at.named ∙ c.words.ensures.value)
    (file-at file old.image (at.lies sound))
