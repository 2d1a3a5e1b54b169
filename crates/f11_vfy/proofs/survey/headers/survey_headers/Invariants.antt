use Rattle.std.proofs.Common.{◌≡◌, IsTrue}
use Rattle.f11_dev.specs.Looked.{Looked}
use Rattle.f11_index.specs.Kept.{index_kept}
use Rattle.f11_index.specs.Table.{table_in}
use Rattle.f11_vfy.specs.Surveying.Extensions.{KeepsTo}
use Rattle.f11_vfy.specs.Surveying.Headers.{IsSurvey, Surveys, used_of}
use Rattle.f11_vfy.proofs.survey.headers.survey_headers.Given as goal

-- the headers so far are surveyed, and each of those in use was read once
abbrev pub invariant-loop-k : goal.invariant-loop-k
invariant-loop-k g l =
    let old = g.D.Device.disk l.fn.device in
    let now = g.D.Device.disk l.device in
    record {
      wanted : l.extensions.wanted ≡ l.fn.extensions.wanted;
      keeps : KeepsTo l.k (index_kept l.index) old l.fn.extensions l.extensions;
      is_survey : IsSurvey l.size l.k l.survey;
      surveys : IsTrue old.honest → Surveys (table_in old.image (index_kept l.index)) l.size l.k l.survey;
      looked : Looked old now (used_of (index_kept l.index) l.k) 0;
    }
