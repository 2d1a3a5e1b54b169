use Rattle.std.proofs.Common.{◌≡◌, ◌∙◌, true, false, ap, sym, subst, length}
use Rattle.f11_dev.specs.Image.{Image}
use Rattle.f11_dev.specs.Went.{Went}
use Rattle.f11_dev.proofs.WentLemmas.{went_looked, went_more, went_weaker}
use Rattle.rt11_volume.specs.Entry.{is_file_named, has_bit}
use Rattle.rt11_volume.specs.Files.{KeepsFiles}
use Rattle.rt11_volume.specs.InHand.{KeepsOthers}
use Rattle.rt11_volume.specs.declared.refusal.RtRefusal.TheVariants.{DeviceFault}
use Rattle.rt11_volume.proofs.AnswerLemmas.{faults-handed_on}
use Rattle.rt11_volume.proofs.DeleteLemmas.{protected-found, found-ends, others-data, deleted}
use Rattle.rt11_volume.proofs.Verifying.Keep.{visited-low}
use Rattle.rt11_volume.proofs.Verifying.Sound.{sound_from}
use Rattle.rt11_volume.proofs.delete.delete_file.Goals as goal

pub returns-then-is_protected-clause-refused : goal.returns-then-is_protected-clause-refused
returns-then-is_protected-clause-refused g c = λ sound.
    let old = g.D.Device.disk c.args.device.now in
    let protected = sym (ap (λ w. has_bit w 15) c.entry.ensures.status) ∙ sym c.is_protected.ensures ∙ c.if-is_protected.true in
    protected-found c.args.name old.image c.in_ok-found.found (c.in_ok-found.ensures.found.is_first sound) protected

pub returns-then-not-has_end-clause-refused : goal.returns-then-not-has_end-clause-refused
returns-then-not-has_end-clause-refused g c = λ sound.
    let old = g.D.Device.disk c.args.device.now in
    let ends = c.has_end.ensures.1
    (found-ends (is_file_named c.args.name) old.image c.in_ok-found.found (sound_from old.image sound.accepted)
    (c.in_ok-found.ensures.found.is_first sound)) in
    let clash : true ≡ false = sym ends ∙ c.if-not-has_end.true in
    absurd (cc)

pub returns-in_err-write-clause-went : goal.returns-in_err-write-clause-went
returns-in_err-write-clause-went g c =
    let old = g.D.Device.disk c.args.device.now in
    let now = g.D.Device.disk c.find_file.new.device in
    let finds = c.in_ok-found.ensures.found in
    let k = c.in_ok-found.found.number in
    let P = KeepsFiles old in
    subst (λ n. Went P old (g.D.Device.disk c.write.new.device) 64 n)
    (sym (faults-handed_on c.from_residual-in_err-write.result DeviceFault c.from_residual-in_err-write.ensures.1))
    (went_more P (went_looked P finds.looked) (went_weaker (KeepsOthers k now.image) P (λ image kept sound.
    let is = finds.is_first sound in
    others-data k old.image image finds.on_device.some
    (visited-low old.image is.place k (sound_from old.image sound.accepted) is.visited_at)
    (subst (λ (i : Image). KeepsOthers k i image) finds.looked.image kept)) c.in_err-write.ensures.failed))

pub returns-clause-went : goal.returns-clause-went
returns-clause-went g c =
    let old = g.D.Device.disk c.args.device.now in
    let now = g.D.Device.disk c.find_file.new.device in
    let finds = c.in_ok-found.ensures.found in
    let k = c.in_ok-found.found.number in
    let P = KeepsFiles old in
    went_more P (went_looked P finds.looked) (went_weaker (KeepsOthers k now.image) P (λ image kept sound.
    let is = finds.is_first sound in
    others-data k old.image image finds.on_device.some
    (visited-low old.image is.place k (sound_from old.image sound.accepted) is.visited_at)
    (subst (λ (i : Image). KeepsOthers k i image) finds.looked.image kept)) c.in_ok-write.ensures.written.went)

pub returns-clause-deleted : goal.returns-clause-deleted
returns-clause-deleted g c = λ sound.
    let old = g.D.Device.disk c.args.device.now in
    let now = g.D.Device.disk c.find_file.new.device in
    let new = g.D.Device.disk c.write.new.device in
    let finds = c.in_ok-found.ensures.found in
    let k = c.in_ok-found.found.number in
    let wrote = c.in_ok-write.ensures.written in
    let unprotected = sym (ap (λ w. has_bit w 15) c.entry.ensures.status) ∙ sym c.is_protected.ensures ∙ c.if-is_protected.false in
    deleted c.args.name old.image new.image c.in_ok-found.found c.without_file-segment.result (sound_from old.image sound.accepted)
    (finds.is_first sound) unprotected
    (wrote.went.size ∙ ap (λ (i : Image). length i) finds.looked.image)
    (subst (λ (i : Image). KeepsOthers k i new.image) finds.looked.image wrote.kept) wrote.words_are c.without_file-segment.ensures
