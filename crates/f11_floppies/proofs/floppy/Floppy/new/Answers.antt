use Rattle.std.proofs.Common.{◌≡◌, ◌≤◌, ℕ, List, length, ap, ◌∙◌, sym, subst, refl, true}
use Rattle.f11_dev.specs.Disk.{fresh}
use Rattle.f11_floppies.specs.Arrange.{IsSameOutside, logical_image}
use Rattle.f11_floppies.specs.Order.{image_size}
use Rattle.f11_floppies.proofs.BlockLemmas.{length-logical_image, same-outside}
use Rattle.f11_floppies.proofs.FloppyLemmas.{logical_image-is_image, padded-image, padded-whole}
use Rattle.f11_floppies.proofs.floppy.Floppy.new.Goals as goal

pub invariant_of-result : goal.invariant_of-result
invariant_of-result c =
    let made : c.of-made.result.value.items ≡ c.in_ok-bytes.bytes.items = ap (λ v. v.items) c.of-made.ensures in
    record {
      whole = subst (λ (b : List ℕ). image_size c.args.order ≤ length b) (sym c.in_ok-bytes.ensures.padded)
          (padded-whole c.args.order c.args.bytes.items);
      is_image = logical_image-is_image c.args.order c.in_ok-bytes.bytes.items c.in_ok-bytes.ensures.bytes.fits;
      outside = subst (λ (b : List ℕ). IsSameOutside c.args.order b c.in_ok-bytes.bytes.items) (sym made)
          (same-outside c.args.order c.in_ok-bytes.bytes.items);
    }

pub returns-clause-made : goal.returns-clause-made
returns-clause-made c = record {
  order = refl;
  made = ap (λ v. v.items) c.of-made.ensures ∙ c.in_ok-bytes.ensures.padded;
  disk = ap (fresh true) (ap (logical_image c.args.order) c.in_ok-bytes.ensures.padded ∙ padded-image c.args.order c.args.bytes.items);
  blocks = length-logical_image c.args.order c.in_ok-bytes.bytes.items;
}
