use Rattle.std.proofs.Common.{ℕ, subst, sym, arith}
use Rattle.f11_index.specs.Calls.{ReadsIndex}
use Rattle.f11_index.proofs.LoadLemmas.{finds_few, reads_all}
use Rattle.f11_index.proofs.index_file.IndexFile.read.Goals as goal

pub returns-then-blocks-from-clause-misplaced : goal.returns-then-blocks-from-clause-misplaced
returns-then-blocks-from-clause-misplaced g c =
    λ _. finds_few _ _ _ c.args.home.now _ _ c.requires c.in_ok-read_bitmap.ensures.reads c.in_ok-follow.ensures.follows (omega arith)

pub returns-clause-reads : goal.returns-clause-reads
returns-clause-reads g c =
    let old = g.D.Device.disk c.args.device.now in
    let new = g.D.Device.disk c.follow.new.device in
    subst (λ (n : ℕ). ReadsIndex c.args.home.now
    (record { bitmap_lbn = n; bitmap = c.read_bitmap.new.bitmap.items; headers = c.follow.new.blocks.headers.items }) old new)
    (sym c.index_lbn.ensures)
    (reads_all _ _ _ c.args.home.now c.read_bitmap.new.bitmap.items c.follow.new.blocks c.requires c.in_ok-read_bitmap.ensures.reads
    c.in_ok-follow.ensures.follows (omega arith))
