use Rattle.std.proofs.Common.{◌≡◌, ◌≤◌, ℕ, List, length, ◌∙◌, sym, subst, arith}
use Rattle.std.specs.Vec.{with_items}
use Rattle.std.proofs.lemmas.List.{with_items_is}
use Rattle.f11_dev.specs.Image.{IsImage}
use Rattle.f11_floppies.specs.Arrange.{IsSameOutside, PutsBlock, logical_image}
use Rattle.f11_floppies.specs.Order.{image_size}
use Rattle.f11_floppies.proofs.BlockLemmas.{outside-then, put-outside}
use Rattle.f11_floppies.proofs.FloppyLemmas.{below, floppy-writes, logical_image-is_image}
use Rattle.f11_floppies.proofs.floppy.FloppyDevice.write.Goals as goal

pub put_block-requires-clause-block : goal.put_block-requires-clause-block
put_block-requires-clause-block c = below c.args.self.now.order c.args.self.now.bytes.items c.args.lbn c.requires

pub invariant_of-self : goal.invariant_of-self
invariant_of-self c =
    let f = c.args.self.now in
    let puts : PutsBlock f.order c.args.lbn c.args.from.now f.bytes.items c.put_block.new.image =
    subst (λ (b : List ℕ). PutsBlock f.order c.args.lbn c.args.from.now b c.put_block.new.image) c.deref_mut.ensures.value
    c.put_block.ensures.puts
    in
    let is : (with_items f.bytes c.put_block.new.image).items ≡ c.put_block.new.image =
    with_items_is f.bytes c.put_block.new.image (puts.size ∙ sym f.bytes.ok.0) in
    record {
      whole = subst (λ (b : List ℕ). image_size f.order ≤ length b) (sym is) (omega (arith, puts.size, f.whole));
      is_image = subst (λ (b : List ℕ). IsImage (logical_image f.order b)) (sym is)
          (logical_image-is_image f.order c.put_block.new.image c.put_block.ensures.bytes.fits);
      outside = subst (λ (b : List ℕ). IsSameOutside f.order f.made.value.items b) (sym is)
          (outside-then f.order f.made.value.items f.bytes.items c.put_block.new.image f.outside
          (put-outside f.order c.args.lbn c.args.from.now f.bytes.items c.put_block.new.image
          (below f.order f.bytes.items c.args.lbn c.requires) puts));
    }

pub returns-clause-writes : goal.returns-clause-writes
returns-clause-writes c =
    let f = c.args.self.now in
    let puts : PutsBlock f.order c.args.lbn c.args.from.now f.bytes.items c.put_block.new.image =
    subst (λ (b : List ℕ). PutsBlock f.order c.args.lbn c.args.from.now b c.put_block.new.image) c.deref_mut.ensures.value
    c.put_block.ensures.puts
    in
    let is : (with_items f.bytes c.put_block.new.image).items ≡ c.put_block.new.image =
    with_items_is f.bytes c.put_block.new.image (puts.size ∙ sym f.bytes.ok.0) in
    floppy-writes f.order f.bytes.items (with_items f.bytes c.put_block.new.image).items _ _ _ _ _ _ c.requires c.told-from
    (subst (PutsBlock f.order c.args.lbn c.args.from.now f.bytes.items) (sym is) puts)
    c.add-2.ensures
    record { transfers = c.add.ensures.transfers; failures = c.add.ensures.failures; calm = c.add.ensures.calm }
