use Rattle.std.proofs.Common.{◌≡◌, ◌+◌, ap, ◌∙◌, arith}
use Rattle.f11_findings.proofs.FoundLemmas.{finds-both, finds-where, each-none, each-more, each-all}
use Rattle.rt11_volume.specs.Entry.{is_one_kind}
use Rattle.rt11_volume.specs.Segment.{segment_with, area_start}
use Rattle.rt11_volume.proofs.Rewriting.Entries.{area_start-more}
use Rattle.rt11_volume.proofs.Verifying.Tests.{fails-tells, less-tells}
use Rattle.rt11_volume.proofs.verifier.faults.add_entry_faults.Goals as goal

pub loop-i-init : goal.loop-i-init
loop-i-init c = record {
  end = omega (arith, c.from-end.ensures, c.first.ensures);
  low = omega (arith, c.from-end.ensures);
  found = each-none _ _;
}

pub loop-i-preserved : goal.loop-i-preserved
loop-i-preserved c =
    let seg = segment_with c.args.number c.args.segment.now in
    let next = area_start-more seg c.loop-i.i (omega (arith, c.entry_count-i-end.ensures.count)) in
    let end : c.loop-i.end + c.from-end-in-loop-i.result ≡ area_start seg (c.loop-i.i + 1) = omega
    (arith, next, c.entry-entry.ensures.length, c.from-end-in-loop-i.ensures) in
    record {
      end = end;
      low = omega (arith, c.from-end-in-loop-i.ensures);
      found = each-more c.loop-i.i c.loop-i.invariant.found
          (finds-both
          (finds-where (fails-tells (c.is_one_kind.ensures ∙ ap is_one_kind c.entry-entry.ensures.status))
          c.finding.ensures c.in_ok-add_if.ensures.adds)
          (finds-where (less-tells c.min-most.ensures end) c.finding-in-loop-i.ensures c.in_ok-add_if-2.ensures.adds));
    }

pub returns : goal.returns
returns c = each-all (omega (arith, c.entry_count-i-end.ensures.count)) c.loop-i.invariant.found
