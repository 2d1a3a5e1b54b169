use Rattle.std.proofs.Common.{◌≡◌, ◌∙◌, ℕ, List, length, Err, ap, subst, sym}
use Rattle.rt11_copy.specs.Fitting.{need_of}
use Rattle.rt11_copy.specs.declared.fitting.RtNeed.{RtNeed}
use Rattle.rt11_volume.specs.declared.any_entries.RtEntry.{RtEntry}
use Rattle.f11_salvage.specs.RtSize.{SizedSo, TakesSegments, need_in, old_blocks, takes_blocks}
use Rattle.f11_salvage.specs.declared.rt_size.RtSize.{RtSize}
use Rattle.f11_salvage.proofs.rt_pack.RtPack.size.Goals as goal

pub returns-else-will_fit : goal.returns-else-will_fit
returns-else-will_fit g c =
    let pack = c.args.self.now in
    let tried : RtSize = record { blocks = c.blocks_to_be.result; segments = c.segments_to_be.result } in
    let is : c.need_of-need.result ≡ need_in g.D.Device.disk pack = c.need_of-need.ensures
    ∙ ap (λ (n : ℕ). need_of n c.as_slice.result.now) c.blocks-size.ensures.count
    ∙ ap (λ (es : List RtEntry). need_of (length (g.D.Device.disk pack.device).image) es) c.as_slice.ensures in
    record {
      tried = tried;
      blocks_are = c.blocks_to_be.ensures
          ∙ ap (λ (n : ℕ). takes_blocks n c.args.blocks) (c.old_blocks.ensures ∙ ap (old_blocks pack.state) c.blocks-size.ensures.count);
      segments_are = subst (λ (need : RtNeed). TakesSegments need pack.head.segments c.args.segments tried.segments) is
          c.segments_to_be.ensures;
      sized = subst (λ (need : RtNeed). SizedSo need tried (Err c.why_too_small.result)) is
          (sym c.will_fit.ensures ∙ c.if-will_fit.false, c.why_too_small.ensures);
    }
