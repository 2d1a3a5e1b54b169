use Rattle.std.proofs.Common.{◌≡◌, ◌+◌, ◌-◌, ◌*◌, ◌/◌, ◌<◌, ◌≤◌, ℕ, min, get_or, inl, inr, refl, ap, arith}
use Rattle.std.proofs.lemmas.Bool.{cases_lt}
use Rattle.f11_dev.proofs.LookedLemmas.{looked_more, looked_within}
use Rattle.f11_bits.specs.Storage.{bitmap_of, kept_at}
use Rattle.f11_bits.proofs.StepLemmas.{slice_get-read}
use Rattle.f11_bits.proofs.RoomLemmas.{first_room-more, IsFirstRunOf-found, NoRunOf-found}
use Rattle.f11_bits.proofs.storage.Storage.find_room.Goals as goal

pub returns-then-n-self-clause-none : goal.returns-then-n-self-clause-none
returns-then-n-self-clause-none g c =
    let held = c.loop-index.invariant in
    record {
      none = λ honest. NoRunOf-found _ (bitmap_of c.args.self.now) c.args.n _ c.loop-index.start c.requires.some
          (omega (arith, held.within, c.if-n-self.true)) (held.room honest);
      looked = looked_within held.looked (omega (arith, c.args.self.now.valid.covered));
    }

pub returns-then-start-n-clause-finds : goal.returns-then-start-n-clause-finds
returns-then-start-n-clause-finds g c =
    let old = g.D.Device.disk c.args.device.now in
    let bitmap = bitmap_of c.args.self.now in
    let held = c.loop-index.invariant in
    let next = c.next_room-start in
    let gives = c.in_ok-read_block.ensures.block in
    let inside : 4096 * c.loop-index.index < bitmap.size = omega arith in
    let whole : next.result + c.args.n ≤ min (4096 * (c.loop-index.index + 1)) bitmap.size =
    omega (arith, c.if-start-n.true, c.bits_in-end.ensures) in
    let number : c.loop-index.index ≡ (next.result + c.args.n - 1) / 4096 = omega (arith, whole, inside, held.short, next.ensures.above) in
    record {
      within = omega (arith, whole);
      first = λ honest. IsFirstRunOf-found _ c.args.n _ next.result whole
          (first_room-more old.image bitmap c.args.n c.loop-index.index c.loop-index.start c.bits_in-end.result next.result _ inside
          c.bits_in-end.ensures
          (slice_get-read old _ _ _ _ _ held.looked refl gives honest) next.ensures.room (held.room honest));
      block_is = λ honest. slice_get-read old _ _ _ _ _ held.looked (ap (λ (i : ℕ). get_or bitmap.places i 0) number) gives honest;
      looked = looked_within (looked_more held.looked c.in_ok-read_block.ensures.looked)
          (omega (arith, number, held.short, next.ensures.above));
    }

pub returns-then-start-n-clause-saves : goal.returns-then-start-n-clause-saves
returns-then-start-n-clause-saves g c = λ kept.
    let held = c.loop-index.invariant in
    let index = c.loop-index.index in
    let read = c.in_ok-read_block.ensures in
    let next = c.next_room-start in
    let inside : 4096 * index < c.args.self.now.size = omega arith in
    let upto : index + 1 ≡ (next.result + c.args.n + 4095) / 4096 =
    omega (arith, inside, held.short, next.ensures.above, c.if-start-n.true, c.bits_in-end.ensures) in
    elim (cases_lt (kept_at c.args.self.now) index) [
      | inl early ↦ omega (arith, held.saves early, read.looked.transfers, upto)
      | inr late ↦ omega (arith, held.looked.transfers, read.saves (omega (arith, kept, late, upto)), upto)
    ]

pub loop-index-preserved : goal.loop-index-preserved
loop-index-preserved g c =
    let old = g.D.Device.disk c.args.device.now in
    let bitmap = bitmap_of c.args.self.now in
    let held = c.loop-index.invariant in
    let next = c.next_room-start in
    let read = c.in_ok-read_block.ensures in
    let inside : 4096 * c.loop-index.index < bitmap.size = omega arith in
    record {
      room =
          λ honest. first_room-more old.image bitmap c.args.n c.loop-index.index c.loop-index.start c.bits_in-end.result next.result _
          inside c.bits_in-end.ensures
          (slice_get-read old _ _ _ _ _ held.looked refl read.block honest) next.ensures.room (held.room honest);
      within = omega (arith, next.ensures.within, c.bits_in-end.ensures, inside);
      short = omega (arith, c.if-start-n.false, c.bits_in-end.ensures, inside);
      saves = λ kept. elim (cases_lt (kept_at c.args.self.now) c.loop-index.index) [
        | inl early ↦ omega (arith, held.saves early, read.looked.transfers)
        | inr late ↦ omega (arith, held.looked.transfers, read.saves (omega (arith, kept, late)))
      ];
      above = omega (arith, held.above, next.ensures.above);
      looked = looked_within (looked_more held.looked read.looked) (omega arith);
    }

pub returns-clause-none : goal.returns-clause-none
returns-clause-none g c =
    let held = c.loop-index.invariant in
    record {
      none = λ honest. NoRunOf-found _ (bitmap_of c.args.self.now) c.args.n _ c.loop-index.start c.requires.some (omega (arith, held.short))
          (held.room honest);
      looked = looked_within held.looked (omega (arith, c.args.self.now.valid.covered));
    }
