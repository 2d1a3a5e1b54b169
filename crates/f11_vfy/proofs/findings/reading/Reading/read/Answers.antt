use Rattle.std.proofs.Common.{sym, subst}
use Rattle.f11_index.specs.Kept.{index_kept}
use Rattle.f11_vfy.specs.Chain.{KeepsTable}
use Rattle.f11_vfy.specs.Scanning.Reading.{bitmap_at}
use Rattle.f11_vfy.proofs.Scanning.Reading.{reads-volume, keeps-blocks}
use Rattle.f11_vfy.proofs.findings.reading.Reading.read.Goals as goal

pub returns-clause-reads : goal.returns-clause-reads
returns-clause-reads g c =
    reads-volume (index_kept c.args.index.now) (bitmap_at c.args.places.now c.args.size) _ (g.D.Device.disk c.args.device.now)
    (g.D.Device.disk c.free_blocks.new.device) (g.D.Device.disk c.survey_headers.new.device)
    (g.met.D.Device.is_image c.args.device.now) c.args.index.now.valid _ c.in_ok-free.ensures.reads c.in_ok-survey.ensures.surveys
    (λ t keeps. c.in_ok-chains.ensures.shows t (subst (KeepsTable t) (sym c.deref.ensures.value) keeps))

pub returns-clause-keeps : goal.returns-clause-keeps
returns-clause-keeps g c =
    keeps-blocks (index_kept c.args.index.now) (bitmap_at c.args.places.now c.args.size) _ (g.D.Device.disk c.args.device.now)
    (g.D.Device.disk c.free_blocks.new.device) c.args.kept.now _ c.in_ok-free.ensures.reads c.in_ok-survey.ensures.keeps
