use Rattle.std.proofs.Common.{◌∙◌, ◌≢◌, length, refl, arith}
use Rattle.std.proofs.lemmas.List.{get_or_default}
use Rattle.f11_dev.proofs.LookedLemmas.{looked_none}
use Rattle.f11_vfy.proofs.Frames.Read.{bad-earlier, own-fault, bitmap-fault, empty-fault, control-fault, past-fault, behind-read}
use Rattle.f11_vfy.proofs.frame.read.read_files.Goals as goal

pub returns-then-not-branch-clause-frames : goal.returns-then-not-branch-clause-frames
returns-then-not-branch-clause-frames g c =
    rw c.faulty.ensures (bad-earlier _ _ _ c.requires.sound _ 0 (looked_none _) _ refl
    (rw (c.lbn.ensures, c.if-not-branch.true) at c.in_ok-are_earlier_named.ensures.judges))

pub returns-in-Some-clause-frames : goal.returns-in-Some-clause-frames
returns-in-Some-clause-frames g c =
    let e = rw (c.lbn.ensures, c.if-not-branch.false) at c.in_ok-are_earlier_named.ensures.judges in
    rw c.faulty-in-Some.ensures (rw c.from.ensures (own-fault _ _ _ _ c.requires.sound e _ _ (rw c.in-Some.is at c.in_ok-n.ensures.judges)))

pub returns-in_default-2-clause-frames : goal.returns-in_default-2-clause-frames
returns-in_default-2-clause-frames g c =
    let e = rw (c.lbn.ensures, c.if-not-branch.false) at c.in_ok-are_earlier_named.ensures.judges in
    let o = rw c.in_default.is at c.in_ok-n.ensures.judges in
    rw c.faulty-in_default-2.ensures (bitmap-fault _ _ _ _ c.requires.sound e _ o _ (rw c.in_default-2.is at c.in_ok-blocks.ensures.reads))

pub returns-then-len-eq0-clause-frames : goal.returns-then-len-eq0-clause-frames
returns-then-len-eq0-clause-frames g c =
    let e = rw (c.lbn.ensures, c.if-not-branch.false) at c.in_ok-are_earlier_named.ensures.judges in
    let o = rw c.in_default.is at c.in_ok-n.ensures.judges in
    let b = rw c.in-Some-2.is at c.in_ok-blocks.ensures.reads in
    rw c.faulty-then-len-eq0.ensures
    (empty-fault _ _ _ _ c.requires.sound e _ o _ _ b (omega (arith, c.if-len-eq0.true, c.len.ensures, c.in-Some-2.blocks.ok.0)))

pub returns-in_default-judge_control-clause-frames :
    goal.returns-in_default-judge_control-clause-frames
returns-in_default-judge_control-clause-frames g c =
    let e = rw (c.lbn.ensures, c.if-not-branch.false) at c.in_ok-are_earlier_named.ensures.judges in
    let o = rw c.in_default.is at c.in_ok-n.ensures.judges in
    let b = rw c.in-Some-2.is at c.in_ok-blocks.ensures.reads in
    let some : length c.in-Some-2.blocks.items ≢ 0 = λ none.
    c.if-len-eq0.false (omega (arith, none, c.len.ensures, c.in-Some-2.blocks.ok.0)) in
    let at = c.index.ensures ∙ get_or_default c.in-Some-2.blocks.items 0 c.index.result.now 0 (omega (arith, some)) in
    rw c.faulty-in_default-judge_control.ensures
    (control-fault _ _ _ _ c.requires.sound e _ o _ _ b some c.index.result.now c.read.new.into _ at c.in_ok-read.ensures.reads.counts
    c.in_ok-read.ensures.reads.gives
    c.len-2.result c.blocks-2.result (omega (arith, c.len-2.ensures, c.in-Some-2.blocks.ok.0)) c.blocks-2.ensures.count
    c.in_default-judge_control.ensures)

pub returns-in-Some-first_past-clause-frames : goal.returns-in-Some-first_past-clause-frames
returns-in-Some-first_past-clause-frames g c =
    let e = rw (c.lbn.ensures, c.if-not-branch.false) at c.in_ok-are_earlier_named.ensures.judges in
    let o = rw c.in_default.is at c.in_ok-n.ensures.judges in
    let b = rw c.in-Some-2.is at c.in_ok-blocks.ensures.reads in
    let some : length c.in-Some-2.blocks.items ≢ 0 = λ none.
    c.if-len-eq0.false (omega (arith, none, c.len.ensures, c.in-Some-2.blocks.ok.0)) in
    let at = c.index.ensures ∙ get_or_default c.in-Some-2.blocks.items 0 c.index.result.now 0 (omega (arith, some)) in
    rw c.faulty-in-Some-first_past.ensures
    (past-fault _ _ _ _ c.requires.sound e _ o _ _ b some c.index.result.now c.read.new.into _ at c.in_ok-read.ensures.reads.counts
    c.in_ok-read.ensures.reads.gives
    c.len-2.result c.blocks-2.result (omega (arith, c.len-2.ensures, c.in-Some-2.blocks.ok.0)) c.blocks-2.ensures.count
    c.in-Some-judge_control.ensures.0 _ c.in-Some-first_past.ensures)

pub returns-clause-frames : goal.returns-clause-frames
returns-clause-frames g c =
    let e = rw (c.lbn.ensures, c.if-not-branch.false) at c.in_ok-are_earlier_named.ensures.judges in
    let o = rw c.in_default.is at c.in_ok-n.ensures.judges in
    let b = rw c.in-Some-2.is at c.in_ok-blocks.ensures.reads in
    let some : length c.in-Some-2.blocks.items ≢ 0 = λ none.
    c.if-len-eq0.false (omega (arith, none, c.len.ensures, c.in-Some-2.blocks.ok.0)) in
    let at = c.index.ensures ∙ get_or_default c.in-Some-2.blocks.items 0 c.index.result.now 0 (omega (arith, some)) in
    let control = c.in-Some-judge_control.ensures in
    behind-read _ _ _ _ c.requires.sound e _ o _ _ b some c.index.result.now c.read.new.into _ at c.in_ok-read.ensures.reads.counts
    c.in_ok-read.ensures.reads.gives
    c.len-2.result c.blocks-2.result (omega (arith, c.len-2.ensures, c.in-Some-2.blocks.ok.0)) c.blocks-2.ensures.count control.0 _ _
    control.1 control.2 c.requires.within c.in_default-first_past.ensures
