use Rattle.std.proofs.Common.{Bool, IsTrue, subst, ap, arith, ◌∙◌}
use Rattle.f11_bits.specs.Bitmap.{Bitmap, is_free, free_blocks}
use Rattle.f11_bits.specs.Storage.{bitmap_of}
use Rattle.f11_bits.proofs.CountLemmas.{count_below-le}
use Rattle.f11_bits.proofs.BitmapLemmas.{free_blocks-given}
use Rattle.f11_bits.proofs.storage.Storage.give.Goals as goal

pub returns-clause-storage : goal.returns-clause-storage
returns-clause-storage g c =
    let old = g.D.Device.disk c.args.device.now in
    let now = g.D.Device.disk c.mark.new.device in
    let bitmap = bitmap_of c.args.self.now in
    let made = c.in_ok-mark.ensures in
    record {
      within = made.on.within;
      keeps = λ honest.
          let was_honest = subst (λ (b : Bool). IsTrue b) made.marks.went.honest honest in
          let more = free_blocks-given bitmap c.args.lbn c.args.count old.image now.image c.requires.within (made.marks.marks was_honest)
          (c.requires.used was_honest) in
          let kept = made.on.block honest in
          let same = ap (free_blocks now.image) c.mark.ensures.stands.bitmap in
          record {
            free = omega (
              arith,
              more,
              same,
              (c.requires.storage.keeps was_honest).free,
              c.mark.ensures.stands.free,
              count_below-le (is_free now.image bitmap) bitmap.size,
              c.saturating_add-self.ensures,
            );
            block = record { within = kept.within; is_block = kept.is_block };
            low = λ k below.
                ap (λ (b : Bitmap). is_free now.image b k) c.mark.ensures.stands.bitmap
                ∙ (made.marks.marks was_honest).before k (omega (arith, below, c.mark.ensures.stands.low, c.min-self.ensures))
                ∙ (c.requires.storage.keeps was_honest).low k (omega (arith, below, c.mark.ensures.stands.low, c.min-self.ensures));
          };
    }
