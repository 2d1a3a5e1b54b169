use Rattle.std.proofs.Common.{List, ℕ, ◌≡◌, ◌≤◌, ◌-◌, ◌*◌, ◌++◌, length, min, sym, ap, ◌∙◌, arith}
use Rattle.std.specs.List.{range_with_len}
use Rattle.std.proofs.lemmas.List.{length-append}
use Rattle.std.proofs.lemmas.List.FromFn.{length-range_with_len}
use Rattle.f11_index.proofs.PlaceLemmas.{take-append-back, take-range}
use Rattle.f11_index.proofs.index_file.IndexFile.grow.Goals as goal

pub invariant_of-self : goal.invariant_of-self
invariant_of-self c =
    let old = c.args.self.now in
    let size = ap length c.push_run.ensures.pushed in
    record {
      valid = record {
        some_bitmap = old.valid.some_bitmap;
        small_bitmap = old.valid.small_bitmap;
        first_slots = omega (
          arith,
          size,
          length-append old.headers.items (range_with_len c.args.lbn c.min-more.result),
          old.valid.first_slots,
        );
        few_slots = omega (
          arith,
          size,
          length-append old.headers.items (range_with_len c.args.lbn c.min-more.result),
          length-range_with_len c.args.lbn c.min-more.result,
          old.valid.few_slots,
          old.bitmap.ok.0,
          c.len.ensures,
        );
      };
    }

pub returns-clause-grown : goal.returns-clause-grown
returns-clause-grown c =
    let old = c.args.self.now in
    let most : ℕ = min (4096 * length old.bitmap.items) 65535 in
    let few : length old.headers.items ≤ most = old.valid.few_slots in
    let count : c.min-more.result ≡ min (most - length old.headers.items) c.args.count = omega (arith, old.bitmap.ok.0, c.len.ensures) in
    ap (λ (h : List ℕ). record { bitmap_lbn = old.bitmap_lbn; bitmap = old.bitmap.items; headers = h })
    (c.push_run.ensures.pushed ∙ ap (λ (n : ℕ). old.headers.items ++ range_with_len c.args.lbn n) count
    ∙ sym (take-append-back most old.headers.items (range_with_len c.args.lbn c.args.count) few
    ∙ ap (λ (xs : List ℕ). old.headers.items ++ xs) (take-range c.args.lbn c.args.count (most - length old.headers.items))))

pub returns-clause-room : goal.returns-clause-room
returns-clause-room c =
    let old = c.args.self.now in
    omega (
      arith,
      ap length c.push_run.ensures.pushed,
      length-append old.headers.items (range_with_len c.args.lbn c.min-more.result),
      length-range_with_len c.args.lbn c.min-more.result,
      c.push_run.ensures.capacity,
    )
