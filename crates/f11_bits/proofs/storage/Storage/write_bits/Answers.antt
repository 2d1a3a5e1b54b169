use Rattle.f11_bits.specs.Changes.{Changing}
use Rattle.f11_bits.specs.Storage.{bitmap_of}
use Rattle.f11_bits.proofs.StepLemmas.{Marks-block, Changing-block, MarksOnDisk-write, image-written, went-failed}
use Rattle.f11_bits.proofs.storage.Storage.write_bits.Goals as goal

pub returns-clause-writes : goal.returns-clause-writes
returns-clause-writes g c = image-written _ _ _ _ (g.D.Device.disk c.args.device.now) _ c.write.ensures.writes c.place.ensures

pub returns-clause-marks : goal.returns-clause-marks
returns-clause-marks g c =
    let old = g.D.Device.disk c.args.device.now in
    let bitmap = bitmap_of c.args.self.now in
    let bits = c.set_bits.ensures in
    let valid = c.args.self.now.valid in
    let marks = Marks-block old.honest c.args.free bitmap c.args.lbn c.args.count _ old.image _ _ valid c.requires.within c.requires.part
    c.place.ensures c.requires.block bits.inside bits.before bits.after in
    MarksOnDisk-write c.args.free bitmap c.args.lbn c.args.count _ _ _ old _ c.write.ensures.writes marks
    (Changing-block old.honest c.args.free bitmap c.args.lbn c.args.count _ old.image _ valid c.requires.part c.place.ensures marks)

pub returns-clause-failed : goal.returns-clause-failed
returns-clause-failed g c =
    let old = g.D.Device.disk c.args.device.now in
    let bitmap = bitmap_of c.args.self.now in
    let bits = c.set_bits.ensures in
    let valid = c.args.self.now.valid in
    let marks = Marks-block old.honest c.args.free bitmap c.args.lbn c.args.count _ old.image _ _ valid c.requires.within c.requires.part
    c.place.ensures c.requires.block bits.inside bits.before bits.after in
    went-failed (Changing old.honest c.args.free bitmap c.args.lbn c.args.count old.image) _ _ _ old _ c.write.ensures.writes
    (Changing-block old.honest c.args.free bitmap c.args.lbn c.args.count _ old.image _ valid c.requires.part c.place.ensures marks)
