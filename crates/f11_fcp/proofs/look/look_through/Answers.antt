use Rattle.std.proofs.Common.{◌≡◌, IsTrue, ◌*◌, ◌+◌, ◌<◌, ◌||◌, false, ap, [], refl, sym, ◌∙◌, arith, subst}
use Rattle.f11_files.specs.Answers.{FailsToRead}
use Rattle.f11_files.specs.Open.{disk_in, home_in, store_in}
use Rattle.f11_entries.specs.Costs.{reading_cost}
use Rattle.f11_home.specs.Home.{HomeFields}
use Rattle.f11_store.specs.Causes.{is_missing}
use Rattle.f11_store.specs.Store.{file_named}
use Rattle.f11_files.specs.image_store.StoreOf.{store_of}
use Rattle.f11_store.specs.declared.refusals.Refusal.{Refusal}
use Rattle.f11_files.proofs.writes.LostLemmas.{lost-none, lost-then}
use Rattle.f11_fcp.proofs.LookLemmas.{through-begins, through-fails, through-finds, through-goes-on, through-ends, read-at-home}
use Rattle.f11_fcp.proofs.LookLemmas.{still-there}
use Rattle.f11_fcp.proofs.LookLemmas.{fails-at-home}
use Rattle.f11_fcp.proofs.WindowLemmas.{empty-kept}
use Rattle.f11_fcp.proofs.look.look_through.Goals as goal

pub read_by-requires-clause-held : goal.read_by-requires-clause-held
read_by-requires-clause-held g c =
    let more : 32 * c.loop-number.number < c.args.count = omega (arith, c.loop-number-test.true, c.div_ceil-number-end.ensures) in
    record {
      alive = c.loop-number.invariant.alive;
      there = subst (λ (h : HomeFields). IsTrue (disk_in c.loop-number.files).honest
          → is_missing (store_of (disk_in c.loop-number.files).image h) c.args.directory ≡ false) (sym c.loop-number.invariant.home)
          (still-there c.requires.there more c.loop-number.invariant.through);
      keeps = c.loop-number.invariant.keeps;
    }

pub returns-in-Err-clause-refused : goal.returns-in-Err-clause-refused
returns-in-Err-clause-refused g c =
    let more : 32 * c.loop-number.number < c.args.count = omega (arith, c.loop-number-test.true, c.div_ceil-number-end.ensures) in
    subst (λ (e : Refusal). FailsToRead _ [] (reading_cost (file_named (store_in c.args.files.now) c.args.directory) c.args.count) e
    (disk_in c.args.files.now) (disk_in c.read_by.new.files)) (sym c.of_known.ensures)
    (through-fails c.requires.there more c.loop-number.invariant.through c.in-Err.refusal c.loop-number.invariant.alive
    (fails-at-home c.args.directory (c.loop-number.number + 1) c.loop-number.invariant.home c.in-Err.ensures.refused))

pub returns-in-Some-clause-looked : goal.returns-in-Some-clause-looked
returns-in-Some-clause-looked g c =
    let more : 32 * c.loop-number.number < c.args.count = omega (arith, c.loop-number-test.true, c.div_ceil-number-end.ensures) in
    through-finds c.requires.there more c.loop-number.invariant.through c.min-upto.ensures
    (read-at-home c.loop-number.invariant.home c.in-Ok.ensures.read) refl refl c.in-Some.ensures.first c.in-Some.ensures.id

pub loop-number-preserved : goal.loop-number-preserved
loop-number-preserved g c =
    let more : 32 * c.loop-number.number < c.args.count = omega (arith, c.loop-number-test.true, c.div_ceil-number-end.ensures) in
    record {
      through =
          through-goes-on c.requires.there more c.loop-number.invariant.through c.min-upto.ensures
          (read-at-home c.loop-number.invariant.home c.in-Ok.ensures.read)
          c.in_default.ensures.first c.or_first_empty-empty.ensures.place c.or_first_empty-empty.ensures.spot;
      home = c.in-Ok.ensures.answers.home ∙ c.loop-number.invariant.home;
      alive = c.in-Ok.ensures.answers.next ∙ ap (λ b. b || false) c.loop-number.invariant.alive;
      told = c.in-Ok.ensures.told ∙ c.loop-number.invariant.told;
      keeps = c.in-Ok.ensures.next.keeps;
      few = omega (arith, c.loop-number-test.true);
      lost = lost-then _ _ _ _ _ _ c.loop-number.invariant.lost c.read_by.ensures.lost;
    }

pub returns-clause-looked : goal.returns-clause-looked
returns-clause-looked g c =
    through-ends c.requires.there (omega (arith, c.loop-number-test.false, c.div_ceil-number-end.ensures))
    (omega (arith, c.loop-number.invariant.few, c.div_ceil-number-end.ensures)) c.loop-number.invariant.through

pub loop-number-init : goal.loop-number-init
loop-number-init g c = record {
  through = through-begins (home_in c.args.files.now) c.args.directory c.args.name.now c.args.block.now (disk_in c.args.files.now);
  home = refl;
  alive = c.requires.alive;
  told = refl;
  keeps = empty-kept _ _ c.empty-window.ensures.value;
  few = omega arith;
  lost = lost-none _ _;
}

pub returns-in-Some-clause-lost : goal.returns-in-Some-clause-lost
returns-in-Some-clause-lost g c = lost-then _ _ _ _ _ _ c.loop-number.invariant.lost c.read_by.ensures.lost

pub returns-in-Err-clause-lost : goal.returns-in-Err-clause-lost
returns-in-Err-clause-lost g c = lost-then _ _ _ _ _ _ c.loop-number.invariant.lost c.read_by.ensures.lost

pub returns-clause-lost : goal.returns-clause-lost
returns-clause-lost g c = c.loop-number.invariant.lost
