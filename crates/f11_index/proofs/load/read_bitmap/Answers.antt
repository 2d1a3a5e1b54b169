use Rattle.std.proofs.Common.{◌≡◌, ◌+◌, ◌++◌, ◌∷◌, [], List, ℕ, length, map, sym, ap, ◌∙◌, arith}
use Rattle.std.proofs.lemmas.List.{length-append}
use Rattle.std.proofs.lemmas.List.FromFn.{map-range_with_len_more}
use Rattle.std.specs.List.{range_with_len}
use Rattle.f11_dev.specs.Image.{Image, image_block}
use Rattle.f11_dev.proofs.ImageLemmas.{image_block-read}
use Rattle.f11_dev.proofs.LookedLemmas.{looked_read, looked_more, looked_within}
use Rattle.f11_index.specs.IndexFile.{index_of}
use Rattle.f11_index.proofs.FollowLemmas.{home_facts}
use Rattle.f11_index.proofs.load.read_bitmap.Goals as goal

pub overflow_add-index_lbn : goal.overflow_add-index_lbn
overflow_add-index_lbn g c =
    let old = g.D.Device.disk c.args.device.now in
    let facts = home_facts c.args.home.now (length old.image) c.requires.home in
    let image = g.met.D.Device.is_image c.args.device.now in
    omega (arith, facts.within, image.size)

pub loop-i-preserved : goal.loop-i-preserved
loop-i-preserved g c =
    let old = g.D.Device.disk c.args.device.now in
    let now = g.D.Device.disk c.loop-i.device in
    let loop = c.loop-i.invariant in
    let reads = c.in_ok-read.ensures.reads in
    let lbn : c.index_lbn.result + c.loop-i.i ≡ c.args.home.now.index_lbn + c.loop-i.i = ap (λ (n : ℕ). n + c.loop-i.i) c.index_lbn.ensures
    in
    record {
      size = omega (arith, ap length c.push_reserved.ensures.items, length-append c.loop-i.bitmap.items (c.read.new.into ∷ []), loop.size);
      room = omega (arith, c.push_reserved.ensures.capacity, loop.room);
      blocks = λ honest.
          let here : image_block old.image (c.index_lbn.result + c.loop-i.i) ≡ c.read.new.into =
          ap (λ (image : Image). image_block image (c.index_lbn.result + c.loop-i.i)) (sym loop.looked.image)
          ∙ image_block-read now.image (c.index_lbn.result + c.loop-i.i) c.read.new.into (reads.gives (loop.looked.honest ∙ honest)) in
          c.push_reserved.ensures.items ∙ ap (λ (xs : List (List ℕ)). xs ++ c.read.new.into ∷ []) (loop.blocks honest)
          ∙ ap (λ (b : List ℕ). map (image_block old.image) (range_with_len c.args.home.now.index_lbn c.loop-i.i) ++ b ∷ []) (sym here)
          ∙ sym (map-range_with_len_more (image_block old.image) c.args.home.now.index_lbn c.loop-i.i (c.index_lbn.result + c.loop-i.i)
          (sym lbn));
      looked = looked_more loop.looked (looked_read _ _ reads.counts);
    }

pub returns-clause-reads : goal.returns-clause-reads
unfolding index_of
returns-clause-reads g c =
    let old = g.D.Device.disk c.args.device.now in
    let loop = c.loop-i.invariant in
    let all : c.loop-i.i ≡ c.args.home.now.index_blocks = omega (arith, c.loop-i-test.false) in
    record {
      size = loop.size ∙ all;
      blocks = λ honest. loop.blocks honest ∙ ap (λ (n : ℕ). map (image_block old.image) (range_with_len c.args.home.now.index_lbn n)) all;
      looked = looked_within loop.looked (omega arith);
    }
