use Rattle.std.proofs.Common.{◌≡◌, ◌+◌, ◌≤◌, false, Bool, IsTrue, subst, ap, arith, ◌∙◌, inl, inr}
use Rattle.std.proofs.lemmas.Bool.{cases_lt}
use Rattle.f11_dev.specs.Image.{Image}
use Rattle.f11_dev.proofs.bytes.ResultLemmas.{OnErr-given}
use Rattle.f11_bits.specs.Bitmap.{Bitmap, Marks, free_blocks, is_free}
use Rattle.f11_bits.specs.Storage.{bitmap_of, low_of}
use Rattle.f11_bits.proofs.BitmapLemmas.{free_blocks-taken}
use Rattle.f11_bits.proofs.LowLemmas.{NoneBelow-marked, NoneBelow-taken}
use Rattle.f11_bits.proofs.StepLemmas.{FailsToTake-marking, MarksOnDisk-looked}
use Rattle.f11_bits.proofs.storage.Storage.take.Goals as goal

pub returns-in_err-mark_used-clause-failed : goal.returns-in_err-mark_used-clause-failed
returns-in_err-mark_used-clause-failed g c =
    OnErr-given _ (FailsToTake-marking (rw c.in-Some.is at c.in_ok-run.ensures.finds) c.in_err-mark_used.ensures.failed)

pub returns-clause-storage : goal.returns-clause-storage
returns-clause-storage g c =
    let old = g.D.Device.disk c.args.device.now in
    let new = g.D.Device.disk c.mark_used.new.device in
    let bitmap = bitmap_of c.args.self.now in
    let found = rw c.in-Some.is at c.in_ok-run.ensures.finds in
    let marked = c.in_ok-mark_used.ensures.marks in
    let lbn = c.in-Some.run'.lbn in
    let count = c.in-Some.run'.here + c.in-Some.run'.beyond in
    let within : lbn + count ≤ bitmap.size = omega (arith, found.bits.beyond_is.within) in
    record {
      within = c.in_ok-mark_used.ensures.on.within;
      keeps = λ honest.
          let now_honest = subst (λ (b : Bool). IsTrue b) marked.went.honest honest in
          let was_honest = subst (λ (b : Bool). IsTrue b) found.looked.honest now_honest in
          let marks = subst (λ (image : Image). Marks false bitmap lbn count image new.image) found.looked.image (marked.marks now_honest)
          in
          let taken = free_blocks-taken bitmap lbn count old.image new.image within marks (found.first was_honest).each in
          let kept = c.in_ok-mark_used.ensures.on.block honest in
          let same = ap (free_blocks new.image) c.mark_used.ensures.stands.bitmap in
          record {
            free = omega (
              arith,
              taken,
              same,
              (c.requires.storage.keeps was_honest).free,
              c.mark_used.ensures.stands.free,
              c.saturating_sub-self.ensures,
            );
            block = record { within = kept.within; is_block = kept.is_block };
            low = λ k below.
                ap (λ (b : Bitmap). is_free new.image b k) c.mark_used.ensures.stands.bitmap
                ∙ elim (cases_lt (low_of c.args.self.now) c.args.from) [
                  | inl later ↦ NoneBelow-marked _ _ lbn count _ k
                      (omega (
                        arith,
                        below,
                        c.low_behind-self.ensures.later (omega (arith, later, c.mark_used.ensures.stands.low)),
                        c.mark_used.ensures.stands.low,
                      ))
                      marks (c.requires.storage.keeps was_honest).low
                  | inr first ↦ NoneBelow-taken _ _ c.args.from (low_of c.args.self.now) lbn count _ c.args.most k first
                      (omega (arith, below, c.low_behind-self.ensures.first (omega (arith, first, c.mark_used.ensures.stands.low))))
                      marks (found.first was_honest) (c.requires.storage.keeps was_honest).low
                ];
          };
    }

pub returns-clause-found : goal.returns-clause-found
returns-clause-found g c =
    let found = rw c.in-Some.is at c.in_ok-run.ensures.finds in
    let few = rw c.in-Some.is at c.in_ok-run.ensures.few in
    let saves = rw c.in-Some.is at c.in_ok-run.ensures.saves in
    let marks = c.in_ok-mark_used.ensures.marks in
    let stood : low_of c.mark_used.new.self ≡ low_of c.args.self.now = c.mark_used.ensures.stands.low in
    record {
      takes = record {
        within = found.within;
        first = found.first;
        marked = MarksOnDisk-looked found.looked marks (omega arith);
      };
      kept = record {
        saves = λ kept. omega (arith, saves kept, marks.went.transfers);
        keeps = omega (arith, c.in_ok-mark_used.ensures.keeps);
      };
      low = record {
        few = omega (arith, few.transfers, marks.went.transfers);
        low = λ first. c.low_behind-self.ensures.first (omega (arith, first, stood));
        later = λ behind. omega (arith, c.low_behind-self.ensures.later (omega (arith, behind, stood)), stood);
      };
    }
