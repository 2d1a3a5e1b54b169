-- What was read of a volume, part by part.
use Rattle.std.specs.Prelude.{◌<◌, length}
use Rattle.f11_vfy.specs.Surveying.Bits.{limit_of}
use Rattle.f11_vfy.specs.Chain.{IsSized}
use Rattle.f11_vfy.specs.Surveying.Headers.{IsSurvey}
use Rattle.f11_vfy.specs.declared.survey.bits.Bits.{Bits}
use Rattle.f11_vfy.specs.declared.chains.Chains.{Chains}
use Rattle.f11_vfy.specs.declared.survey.headers.Survey.{Survey}

-- the parts of a reading are of one size, whatever they say
pub record IsReading (s : Survey) (c : Chains) (free : Bits) : Type 0 where
  pub is_survey : IsSurvey (limit_of free) (length s.slots.items) s
  pub few : length s.slots.items < 65536
  pub sized : IsSized c (length s.slots.items)
