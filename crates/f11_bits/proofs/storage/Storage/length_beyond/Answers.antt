use Rattle.std.proofs.Common.{◌≡◌, ◌*◌, ◌/◌, inl, inr, refl, arith}
use Rattle.std.proofs.lemmas.Bool.{cases_lt}
use Rattle.f11_dev.proofs.LookedLemmas.{looked_none, looked_within}
use Rattle.f11_bits.specs.Storage.{bitmap_of}
use Rattle.f11_bits.proofs.StepLemmas.{slice_get-read}
use Rattle.f11_bits.proofs.SearchLemmas.{bits-within, IsFreeRest-none, IsFreeRest-found}
use Rattle.f11_bits.proofs.storage.Storage.length_beyond.Goals as goal
use Rattle.f11_bits.proofs.storage.Storage.length_beyond.Goals.{then-end-ne0-via-then-end-ne0, then-end-ne0-via-else-end-ne0+then-most-eq0}
use Rattle.f11_bits.proofs.storage.Storage.length_beyond.Goals.{then-end-ne0-via-else-end-ne0+else-most-eq0+then-end-self}

pub returns-then-end-ne0-clause-finds : goal.returns-then-end-ne0-clause-finds
returns-then-end-ne0-clause-finds g c = record {
  rest = record { few = omega arith; next = λ some. absurd (omega arith); within = omega arith };
  free = λ honest. IsFreeRest-none _ (bitmap_of c.args.self.now) _ _ (λ some edge. elim c.then-end-ne0.branch [
    | then-end-ne0-via-then-end-ne0 w ↦ absurd (omega arith)
    | then-end-ne0-via-else-end-ne0+then-most-eq0 w ↦ absurd (omega arith)
    | then-end-ne0-via-else-end-ne0+else-most-eq0+then-end-self w ↦ omega arith
  ]);
  block_is = λ honest some. absurd (omega arith);
  looked = looked_within (looked_none _) (omega arith);
}

pub returns-clause-finds : goal.returns-clause-finds
returns-clause-finds g c =
    let old = g.D.Device.disk c.args.device.now in
    let run = c.run_length.ensures in
    let gives = c.in_ok-read_block.ensures.block in
    let begins : c.args.end ≡ 4096 * (c.args.end / 4096) = omega arith in
    record {
      rest = record {
        few = run.most;
        next = λ some. omega arith;
        within = elim (cases_lt 0 c.run_length.result) [
          | inl some ↦ omega (arith, bits-within _ _ _ _ some run.each, c.bits_in.ensures)
          | inr none ↦ omega arith
        ];
      };
      free = λ honest.
          let stands = slice_get-read old old _ _ _ _ (looked_none old) refl gives honest in
          IsFreeRest-found _ (bitmap_of c.args.self.now) _ _ _ _ _ _ c.bits_in.ensures c.requires.few begins run.most stands run.each
          run.ended;
      block_is = λ honest some. slice_get-read old old _ _ _ _ (looked_none old) refl gives honest;
      looked = looked_within c.in_ok-read_block.ensures.looked (omega (arith, c.args.self.now.valid.covered));
    }
