use Rattle.f11_store.proofs.WorkedLemmas.{too_long, headers_run_out, slots_run_out, refused_for_slots_alone}
use Rattle.f11_store.proofs.worked.headers.Goals as goal

pub returns : goal.returns
returns c =
    record {
      too_long = too_long;
      headers_run_out = headers_run_out;
      slots_run_out = slots_run_out;
      refused_for_slots_alone =
          refused_for_slots_alone;
    }
