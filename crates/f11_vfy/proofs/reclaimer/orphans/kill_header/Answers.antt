use Rattle.std.proofs.Common.{arith}
use Rattle.f11_bytes.proofs.ResultLemmas.{OnErr-given}
use Rattle.f11_index.proofs.InUseLemmas.{header-within}
use Rattle.f11_index.specs.Kept.{index_kept}
use Rattle.f11_vfy.proofs.Reclaiming.Kill.{kill-none, kill-done, kill-unwritten}
use Rattle.f11_vfy.proofs.reclaimer.orphans.kill_header.Goals as goal

pub returns-in-Err-clause-killed : goal.returns-in-Err-clause-killed
returns-in-Err-clause-killed g c =
    kill-none (index_kept c.args.index.now) c.args.n c.args.header.now _ _ (λ valid. let no = c.in-Err.ensures.valid.1 valid in cc)

pub write-requires : goal.write-requires
write-requires g c =
    let within = header-within (index_kept c.args.index.now) c.args.n _ c.requires.within c.requires.slot.0 c.requires.slot.1 in
    omega (arith, within, c.lbn_of_header.ensures)

pub returns-in_err-write-clause-failed : goal.returns-in_err-write-clause-failed
returns-in_err-write-clause-failed g c =
    OnErr-given _
    (kill-unwritten (index_kept c.args.index.now) c.args.n c.args.header.now _ _ c.lbn_of_header.ensures _ c.kill.ensures.block
    c.kill.ensures.dead _ c.in_err-write.ensures.writes.err)

pub returns-clause-killed : goal.returns-clause-killed
returns-clause-killed g c =
    kill-done (index_kept c.args.index.now) c.args.n c.args.header.now _ _ c.lbn_of_header.ensures _ c.kill.ensures.block
    c.kill.ensures.dead _ _ _ c.put_blocks.ensures.puts c.in_ok-write.ensures.writes.ok
