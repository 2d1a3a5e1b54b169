use Rattle.std.proofs.Common.{false, Bool, IsTrue, refl, subst, ap, arith, ◌∙◌}
use Rattle.f11_dev.specs.Image.{Image}
use Rattle.f11_dev.proofs.LookedLemmas.{looked_none, looked_within}
use Rattle.f11_dev.proofs.bytes.ResultLemmas.{OnErr-given}
use Rattle.f11_bits.specs.Bitmap.{Bitmap, Marks, free_blocks, is_free}
use Rattle.f11_bits.specs.Storage.{bitmap_of}
use Rattle.f11_bits.proofs.BitmapLemmas.{free_blocks-taken}
use Rattle.f11_bits.proofs.StepLemmas.{FailsToTakeRun-marking, MarksOnDisk-looked}
use Rattle.f11_bits.proofs.LowLemmas.{NoneBelow-marked}
use Rattle.f11_bits.proofs.RoomLemmas.{NoRunOf-few}
use Rattle.f11_bits.proofs.storage.Storage.take_run.Goals as goal

pub returns-in_err-mark_run-clause-failed : goal.returns-in_err-mark_run-clause-failed
returns-in_err-mark_run-clause-failed g c =
    let found = rw c.in-Some.is at c.in_ok-lbn.ensures.finds in
    OnErr-given _ (FailsToTakeRun-marking found (omega (arith, found.within, c.args.self.now.valid.covered, c.requires.some))
    c.in_err-mark_run.ensures.failed)

pub returns-clause-storage : goal.returns-clause-storage
returns-clause-storage g c =
    let old = g.D.Device.disk c.args.device.now in
    let new = g.D.Device.disk c.mark_run.new.device in
    let bitmap = bitmap_of c.args.self.now in
    let found = rw c.in-Some.is at c.in_ok-lbn.ensures.finds in
    let marked = c.in_ok-mark_run.ensures.marks in
    let lbn = c.in-Some.lbn in
    let n = c.args.n in
    record {
      within = c.in_ok-mark_run.ensures.on.within;
      keeps = λ honest.
          let now_honest = subst (λ (b : Bool). IsTrue b) marked.went.honest honest in
          let was_honest = subst (λ (b : Bool). IsTrue b) found.looked.honest now_honest in
          let marks = subst (λ (image : Image). Marks false bitmap lbn n image new.image) found.looked.image (marked.marks now_honest) in
          let taken = free_blocks-taken bitmap lbn n old.image new.image found.within marks (found.first was_honest).each in
          let kept = c.in_ok-mark_run.ensures.on.block honest in
          let same = ap (free_blocks new.image) c.mark_run.ensures.stands.bitmap in
          record {
            free = omega (
              arith,
              taken,
              same,
              (c.requires.storage.keeps was_honest).free,
              c.mark_run.ensures.stands.free,
              c.saturating_sub-self.ensures,
            );
            block = record { within = kept.within; is_block = kept.is_block };
            low = λ k below.
                ap (λ (b : Bitmap). is_free new.image b k) c.mark_run.ensures.stands.bitmap
                ∙ NoneBelow-marked _ _ lbn n _ k (omega (arith, below, c.mark_run.ensures.stands.low)) marks
                (c.requires.storage.keeps was_honest).low;
          };
    }

pub returns-then-n-self-clause-found : goal.returns-then-n-self-clause-found
returns-then-n-self-clause-found g c = record {
  none = record {
    none = λ honest. NoRunOf-few _ (bitmap_of c.args.self.now) c.args.n
        (omega (arith, (c.requires.storage.keeps honest).free, c.if-n-self.true));
    looked = looked_within (looked_none _) (omega arith);
  };
  kept = refl;
}

pub returns-clause-found : goal.returns-clause-found
returns-clause-found g c =
    let found = rw c.in-Some.is at c.in_ok-lbn.ensures.finds in
    let few = rw c.in-Some.is at c.in_ok-lbn.ensures.few in
    let above = rw c.in-Some.is at c.in_ok-lbn.ensures.above in
    let saves = rw c.in-Some.is at c.in_ok-lbn.ensures.saves in
    let marks = c.in_ok-mark_run.ensures.marks in
    record {
      takes = record {
        within = found.within;
        first = found.first;
        marked = MarksOnDisk-looked found.looked marks (omega arith);
      };
      kept = record {
        saves = λ kept. omega (arith, saves kept, marks.went.transfers);
        keeps = c.in_ok-mark_run.ensures.keeps;
      };
      low = record {
        few = omega (arith, few, above, marks.went.transfers, c.requires.some);
        low = c.mark_run.ensures.stands.low;
      };
    }
