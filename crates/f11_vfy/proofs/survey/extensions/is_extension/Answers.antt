use Rattle.f11_vfy.proofs.Surveying.Extensions.{in-live, in-other}
use Rattle.f11_vfy.proofs.survey.extensions.is_extension.Goals as goal

pub returns-in-Live : goal.returns-in-Live
returns-in-Live c = in-live c.args.state c.args.block.now c.segment.result c.in-Live.is c.segment.ensures

pub returns-in_default : goal.returns-in_default
returns-in_default c = in-other c.args.state c.args.block.now c.in_default.not-Live
