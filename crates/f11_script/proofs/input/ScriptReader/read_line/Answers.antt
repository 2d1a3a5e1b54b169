use Rattle.std.proofs.Common.{rules, ◌≡◌, length, arith}
use Rattle.f11_script.specs.Input.{left_of, number_read}
use Rattle.f11_script.proofs.InputLemmas.{Collected, collected_bytes, collected_none_left, collected_line, collected_last, collected_more}
use Rattle.f11_script.proofs.input.ScriptReader.read_line.Goals as goal

pub returns-in-None : goal.returns-in-None
returns-in-None g c =
    let end = rw c.in-None.is at c.in_ok-next.ensures.next in
    collected_last _ _ _ _ _ _ _ (collected_bytes _ _ _ _ _ _ _ _ c.loop-line.invariant c.take_bytes.ensures) end.0 end.2 end.1
    c.next.new.self.limited (omega (arith, c.len.ensures.value, c.if-len-eq0.false))

pub returns-then-byte-eq10 : goal.returns-then-byte-eq10
returns-then-byte-eq10 g c =
    let next = rw (c.in-Some.is, c.if-byte-eq10.true) at c.in_ok-next.ensures.next in
    collected_line _ _ _ _ _ _ _ _ (collected_bytes _ _ _ _ _ _ _ _ c.loop-line.invariant c.take_bytes.ensures) next.0 next.1
    c.next.new.self.limited c.drop_return.ensures

pub loop-line-preserved : goal.loop-line-preserved
loop-line-preserved g c =
    let next = rw c.in-Some.is at c.in_ok-next.ensures.next in
    collected_more _ _ _ _ _ _ _ _ _ (collected_bytes _ _ _ _ _ _ _ _ c.loop-line.invariant c.take_bytes.ensures) next.0
    c.if-byte-eq10.false next.1 c.keep.ensures

pub returns-then-len-eq0 : goal.returns-then-len-eq0
returns-then-len-eq0 g c =
    let end = rw c.in-None.is at c.in_ok-next.ensures.next in
    let none : length c.take_bytes.new.line.items ≡ 0 = omega (arith, c.len.ensures.value, c.if-len-eq0.true) in
    collected_none_left _ _ _ _ _ _ _ (collected_bytes _ _ _ _ _ _ _ _ c.loop-line.invariant c.take_bytes.ensures) end.0 end.2 end.1 none

pub returns-in_err-next : goal.returns-in_err-next
returns-in_err-next g c =
    let old = c.args.self.now in
    let new = c.take_bytes.new.self in
    let R = g.R.Read.remaining in
    let read : Collected (left_of R old) (left_of R new) (number_read old) (number_read new) c.take_bytes.new.line.items =
    collected_bytes _ _ _ _ _ _ _ _ c.loop-line.invariant c.take_bytes.ensures in
    search rules
