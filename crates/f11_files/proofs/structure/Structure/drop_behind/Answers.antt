use Rattle.std.proofs.Common.{◌≡◌, ◌⊎◌, ◌<◌, ◌≤◌, ◌∙◌, ℕ, [], Err, inl, inr, refl, ap, arith}
use Rattle.f11_chain.specs.Calls.{FindsLast, ReadsNext}
use Rattle.f11_index.specs.Table.{table_of}
use Rattle.f11_store.specs.Changes.{is_in}
use Rattle.f11_image_store.specs.Confines.{only_header}
use Rattle.f11_files.specs.Removing.Drops.{headers_behind}
use Rattle.f11_files.specs.Structure.{home_of, index_in}
use Rattle.f11_files.proofs.AnswerLemmas.{handed}
use Rattle.f11_files.proofs.Removing.Freeing.{broken-stays, handed-stays}
use Rattle.f11_files.proofs.Removing.Dropping.{dropping-none, dropped-all, dropped-stays, no-next, read-for, may-next, next-breaks}
use Rattle.f11_files.proofs.Removing.Dropping.{next-listed, dropping-next}
use Rattle.f11_files.proofs.Confining.Parts.{next-parts, of-only, parts-behind, parts-none, parts-stay, parts-then, stands-same}
use Rattle.f11_files.proofs.Confining.Parts.{stands-then, to-parts}
use Rattle.f11_files.proofs.structure.Structure.drop_behind.Goals as goal

-- there are no more segments than headers that a file may have
never : (counter segment : ℕ) → counter ≤ segment → (counter ≡ 0) ⊎ (segment < 256) → 256 ≤ counter → ⊥
never counter segment passed (inl none) all = omega (arith, none, all)
never counter segment passed (inr few) all = omega (arith, passed, few, all)

pub loop-init : goal.loop-init
loop-init g c =
    record {
      dropping = dropping-none c.args.self.now c.args.block.now _ c.requires.is_for c.requires.header c.requires.hangs;
      confined = λ _. parts-none c.args.self.now _ _;
      places = stands-same c.args.self.now;
      passed = omega arith;
      early = inl refl;
    }

pub next-requires-clause-header : goal.next-requires-clause-header
next-requires-clause-header g c = c.loop.invariant.dropping.holds

pub next-requires-clause-within : goal.next-requires-clause-within
next-requires-clause-within g c = c.loop.invariant.dropping.is_for.lies.index

pub returns-in-Ok-None-clause-dropped : goal.returns-in-Ok-None-clause-dropped
returns-in-Ok-None-clause-dropped g c =
    dropped-all _ c.loop.self _ _ _ _ c.loop.invariant.dropping _ _ (rw c.in-Ok-None.field-0-is at c.in-Ok-None.ensures.last)

pub returns-in-Ok-None-clause-stays : goal.returns-in-Ok-None-clause-stays
returns-in-Ok-None-clause-stays g c =
    dropped-stays _ c.loop.self _ _ _ _ c.loop.invariant.dropping _ _ (rw c.in-Ok-None.field-0-is at c.in-Ok-None.ensures.last)

pub returns-in-Err-clause-refused : goal.returns-in-Err-clause-refused
returns-in-Err-clause-refused g c =
    let next = c.in-Err.ensures in
    rw c.refusal_for.ensures
    (no-next _ c.loop.self _ _ _ _ c.loop.invariant.dropping c.in-Err.fault _ (λ is. next.no_end (ap Err is))
    (λ is. next.damaged (ap Err is)) (λ is. next.failed (ap Err is)))

pub returns-in-Err-clause-stays : goal.returns-in-Err-clause-stays
returns-in-Err-clause-stays g c =
    let next = c.in-Err.ensures in
    let breaks = no-next _ c.loop.self _ _ _ _ c.loop.invariant.dropping c.in-Err.fault _ (λ is. next.no_end (ap Err is))
    (λ is. next.damaged (ap Err is)) (λ is. next.failed (ap Err is)) in
    rw (c.refusal_for.ensures, breaks.fatal)
    (broken-stays c.args.self.now c.loop.self _ _ _ c.loop.invariant.dropping.home c.requires.is_for breaks)

pub drop_header-requires-clause-is_for : goal.drop_header-requires-clause-is_for
drop_header-requires-clause-is_for g c =
    read-for _ c.loop.self _ _ _ _ c.loop.invariant.dropping _ _ _ (rw c.in-Ok-Some.field-0-is at c.in-Ok-Some.ensures.reads)

pub drop_header-requires-clause-may : goal.drop_header-requires-clause-may
drop_header-requires-clause-may g c =
    may-next _ c.loop.self _ _ _ _ c.loop.invariant.dropping _ _ _ (rw c.in-Ok-Some.field-0-is at c.in-Ok-Some.ensures.reads)

pub returns-in_err-drop_header-clause-refused : goal.returns-in_err-drop_header-clause-refused
returns-in_err-drop_header-clause-refused g c =
    handed _ c.from_residual.result _ c.from_residual.ensures.1
    (next-breaks _ c.loop.self _ _ _ _ c.loop.invariant.dropping _ _ _ (rw c.in-Ok-Some.field-0-is at c.in-Ok-Some.ensures.reads) _ _
    c.in_err-drop_header.ensures.refused)

pub returns-in_err-drop_header-clause-stays : goal.returns-in_err-drop_header-clause-stays
returns-in_err-drop_header-clause-stays g c =
    let breaks = c.in_err-drop_header.ensures.refused in
    handed-stays c.from_residual.result _ _ _ _ c.from_residual.ensures.1 breaks.fatal
    (broken-stays c.args.self.now _ _ _ _ (c.in_err-drop_header.ensures.stays.home ∙ c.loop.invariant.dropping.home) c.requires.is_for
    (next-breaks _ c.loop.self _ _ _ _ c.loop.invariant.dropping _ _ _ (rw c.in-Ok-Some.field-0-is at c.in-Ok-Some.ensures.reads) _ _
    breaks))

pub loop-preserved : goal.loop-preserved
loop-preserved g c =
    let reads : ReadsNext (index_in c.loop.self) c.in-Ok-Some.n c.loop.block c.next.new.block (g.D.Device.disk c.loop.device)
    (g.D.Device.disk c.next.new.device) = rw c.in-Ok-Some.field-0-is at c.in-Ok-Some.ensures.reads in
    record {
      dropping = dropping-next _ c.loop.self _ _ _ _ c.loop.invariant.dropping _ _ _ reads _ _ c.in_ok-drop_header.ensures.dropped
          (rw c.in_ok-drop_header.was at c.drop_header.ensures.stays) (g.met.D.Device.is_image c.drop_header.new.device);
      confined = λ honest.
          let all = is_in (headers_behind (table_of (g.D.Device.disk c.args.device.now).image (home_of c.args.self.now)) c.args.block.now)
          in
          let listed = next-listed _ c.loop.self _ _ _ _ c.loop.invariant.dropping _ _ _ reads honest in
          parts-then c.args.self.now c.loop.self all c.loop.invariant.places (c.loop.invariant.confined honest)
          (parts-behind c.loop.self all reads.looked
          (to-parts c.loop.self all (only_header c.in-Ok-Some.n) [] (of-only all c.in-Ok-Some.n listed)
          c.drop_header.ensures.confined));
      places = stands-then c.args.self.now c.loop.self c.drop_header.new.self c.loop.invariant.places c.in_ok-drop_header.ensures.places;
      passed = let before = c.loop.invariant.passed in omega (arith, reads.segment, before);
      early = inr (omega (arith, reads.segment, reads.not_last));
    }

pub returns-clause-refused : goal.returns-clause-refused
returns-clause-refused g c =
    absurd (never c.loop.counter _ c.loop.invariant.passed c.loop.invariant.early (omega (arith, c.loop-test.false)))

pub returns-clause-stays : goal.returns-clause-stays
returns-clause-stays g c = absurd (never c.loop.counter _ c.loop.invariant.passed c.loop.invariant.early (omega (arith, c.loop-test.false)))

pub returns-in-Ok-None-clause-confined : goal.returns-in-Ok-None-clause-confined
returns-in-Ok-None-clause-confined g c = λ honest.
    let last : FindsLast c.loop.block c.next.new.block (g.D.Device.disk c.loop.device) (g.D.Device.disk c.next.new.device) =
    rw c.in-Ok-None.field-0-is at c.in-Ok-None.ensures.last in
    let all = is_in (headers_behind (table_of (g.D.Device.disk c.args.device.now).image (home_of c.args.self.now)) c.args.block.now) in
    parts-then c.args.self.now c.loop.self all c.loop.invariant.places (c.loop.invariant.confined honest)
    (parts-stay c.loop.self all last.disk_stays)

pub returns-in-Ok-None-clause-places : goal.returns-in-Ok-None-clause-places
returns-in-Ok-None-clause-places g c = c.loop.invariant.places

pub returns-in_err-drop_header-clause-confined : goal.returns-in_err-drop_header-clause-confined
returns-in_err-drop_header-clause-confined g c = λ honest.
    let reads : ReadsNext (index_in c.loop.self) c.in-Ok-Some.n c.loop.block c.next.new.block (g.D.Device.disk c.loop.device)
    (g.D.Device.disk c.next.new.device) = rw c.in-Ok-Some.field-0-is at c.in-Ok-Some.ensures.reads in
    let all = is_in (headers_behind (table_of (g.D.Device.disk c.args.device.now).image (home_of c.args.self.now)) c.args.block.now) in
    let listed = next-listed _ c.loop.self _ _ _ _ c.loop.invariant.dropping _ _ _ reads honest in
    parts-then c.args.self.now c.loop.self all c.loop.invariant.places (c.loop.invariant.confined honest)
    (parts-behind c.loop.self all reads.looked
    (to-parts c.loop.self all (only_header c.in-Ok-Some.n) [] (of-only all c.in-Ok-Some.n listed) c.drop_header.ensures.confined))

pub returns-in-Err-clause-confined : goal.returns-in-Err-clause-confined
returns-in-Err-clause-confined g c = λ honest.
    let next = c.in-Err.ensures in
    let all = is_in (headers_behind (table_of (g.D.Device.disk c.args.device.now).image (home_of c.args.self.now)) c.args.block.now) in
    parts-then c.args.self.now c.loop.self all c.loop.invariant.places (c.loop.invariant.confined honest)
    (next-parts c.loop.self all _ _ _ c.in-Err.fault (λ is. next.no_end (ap Err is)) (λ is. next.damaged (ap Err is))
    (λ is. next.failed (ap Err is)))

pub returns-clause-confined : goal.returns-clause-confined
returns-clause-confined g c =
    absurd (never c.loop.counter _ c.loop.invariant.passed c.loop.invariant.early (omega (arith, c.loop-test.false)))
