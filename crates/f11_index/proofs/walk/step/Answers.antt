use Rattle.std.proofs.Common.{◌≡◌, ◌<◌, ◌≤◌, ℕ, List, length, refl, Option, Some, None, sym, ap, subst, ◌∙◌, arith}
use Rattle.std.specs.Prelude.{IfErr}
use Rattle.std.proofs.lemmas.Result.{IfOk-weaker}
use Rattle.f11_dev.specs.Disk.{Disk}
use Rattle.f11_dev.proofs.ImageLemmas.{image_block-read}
use Rattle.f11_dev.proofs.LookedLemmas.{looked_read}
use Rattle.f11_map.specs.HeaderBlock.{link_of, blocks_named}
use Rattle.f11_index.specs.Walk.{AddsIf, FitFrom, IsNextDue, headers_with}
use Rattle.f11_index.specs.declared.fault.IndexFault.TheVariants.{Misplaced}
use Rattle.f11_index.specs.declared.walk.Due.{Due}
use Rattle.f11_index.proofs.walk.step.Goals as goal
use Rattle.f11_map.specs.MapArea.{link}
use Rattle.f11_map.specs.store.declared.files.FileId.{FileId}

linked-next : (headers : List ℕ) (to : FileId) (next : Option Due) → IsNextDue headers to next → to.number ≤ length headers
linked-next headers to None is = omega arith
linked-next headers to (Some due) is = is.1.0

pub returns-then-not-branch-clause-misfits : goal.returns-then-not-branch-clause-misfits
returns-then-not-branch-clause-misfits g c = λ _.
    let old = g.D.Device.disk c.args.device.now in
    let reads = c.in_ok-read.ensures.reads in
    let end : c.blocks-2.result ≡ length old.image = c.blocks-2.ensures.count ∙ ap (λ (d : Disk). length d.image) reads.counts in
    let bad : ¬ FitFrom c.args.home.now c.blocks-2.result c.args.blocks.now.places (blocks_named c.read.new.into) =
    subst (λ b. AddsIf b c.args.home.now c.blocks-2.result (blocks_named c.read.new.into) c.args.blocks.now c.add.new.self)
    c.if-not-branch.true c.in_ok-add.ensures.adds in
    record {
      misfits = λ honest may.
          let here = image_block-read old.image c.args.due.lbn c.read.new.into (reads.gives honest) in
          bad (subst (λ (n : ℕ). FitFrom c.args.home.now n c.args.blocks.now.places (blocks_named c.read.new.into)) (sym end)
          (subst (λ (b : List ℕ). FitFrom c.args.home.now (length old.image) c.args.blocks.now.places (blocks_named b)) here may.fit));
      looked = looked_read _ _ reads.counts;
    }

pub returns-clause-steps : goal.returns-clause-steps
unfolding link_of
returns-clause-steps g c =
    let old = g.D.Device.disk c.args.device.now in
    let reads = c.in_ok-read.ensures.reads in
    let end : c.blocks-2.result ≡ length old.image = c.blocks-2.ensures.count ∙ ap (λ (d : Disk). length d.image) reads.counts in
    let added = subst (λ b. AddsIf b c.args.home.now c.blocks-2.result (blocks_named c.read.new.into) c.args.blocks.now c.add.new.self)
    c.if-not-branch.false c.in_ok-add.ensures.adds in
    let link_is : c.link.result ≡ link_of c.read.new.into = c.link.ensures ∙ ap link c.map.ensures in
    IfOk-weaker c.next_due.result (λ next. IsNextDue c.deref.result.now c.link.result next) _ (λ next is.
    let next_is : IsNextDue c.add.new.self.headers.items (link_of c.read.new.into) next =
    subst (λ (h : List ℕ). IsNextDue h (link_of c.read.new.into) next) c.deref.ensures.value
    (subst (λ (i : FileId). IsNextDue c.deref.result.now i next) link_is is) in
    record {
      header = c.read.new.into;
      read = λ honest. image_block-read old.image c.args.due.lbn c.read.new.into (reads.gives honest);
      may = record {
        is_due = c.if-not-is_header_due.ensures.0 refl;
        fit = subst (λ (n : ℕ). FitFrom c.args.home.now n c.args.blocks.now.places (blocks_named c.read.new.into)) end added.1;
        linked = omega (
          arith,
          linked-next c.add.new.self.headers.items (link_of c.read.new.into) next next_is,
          ap length added.0.headers_are,
        );
      };
      adds = added.0;
      few = c.in_ok-add.ensures.few;
      next_is = next_is;
      looked = looked_read _ _ reads.counts;
    }) c.next_due.ensures.next

pub returns-clause-misfits : goal.returns-clause-misfits
unfolding link_of
returns-clause-misfits g c = λ is.
    let old = g.D.Device.disk c.args.device.now in
    let reads = c.in_ok-read.ensures.reads in
    let added = subst (λ b. AddsIf b c.args.home.now c.blocks-2.result (blocks_named c.read.new.into) c.args.blocks.now c.add.new.self)
    c.if-not-branch.false c.in_ok-add.ensures.adds in
    let link_is : c.link.result ≡ link_of c.read.new.into = c.link.ensures ∙ ap link c.map.ensures in
    let past = (subst (λ r. IfErr r (λ fault. (fault ≡ Misplaced) × (length c.deref.result.now < c.link.result.number))) is
    c.next_due.ensures.misplaced).1 in
    record {
      misfits = λ honest may.
          let here = image_block-read old.image c.args.due.lbn c.read.new.into (reads.gives honest) in
          let linked : (link_of c.read.new.into).number ≤ length
          (headers_with c.args.home.now (blocks_named c.read.new.into) c.args.blocks.now.places c.args.blocks.now.headers.items) =
          subst (λ (b : List ℕ). (link_of b).number ≤ length
          (headers_with c.args.home.now (blocks_named b) c.args.blocks.now.places c.args.blocks.now.headers.items)) here may.linked in
          absurd (omega (
            arith,
            linked,
            past,
            ap (λ (i : FileId). i.number) link_is,
            ap length c.deref.ensures.value,
            ap length added.0.headers_are,
          ));
      looked = looked_read _ _ reads.counts;
    }
