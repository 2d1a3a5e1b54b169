use Rattle.std.proofs.Common.{◌≡◌, ◌||◌, ◌&&◌, ◌==◌, Bool, true, false, ap, sym, inl, inr, ◌∙◌}
use Rattle.f11_bytes.proofs.ResultLemmas.{OnErr-given}
use Rattle.f11_catalog.specs.Steps.{is_met}
use Rattle.f11_catalog.proofs.FollowingLemmas.{leads-all, leads-first, leads-more, leads-none}
use Rattle.f11_catalog.proofs.ListingLemmas.{reads-then}
use Rattle.f11_catalog.proofs.walk.following.find_led.Goals as goal

pub loop-led-init : goal.loop-led-init
loop-led-init g c =
    leads-first _ _ _ c.in-Some.led _ c.in-Ok.content _ _ c.in-Some.ensures c.in-Ok.ensures.holds
    (λ n. c.meet.ensures.adds n
    ∙ ap (λ (b : Bool). is_met c.in-Some.led n || (b && (c.args.master.number == n))) c.is_unused_directory.ensures)
    c.meet.ensures.next

pub returns-in-Err-clause-finds : goal.returns-in-Err-clause-finds
returns-in-Err-clause-finds g c = leads-none _ _ _ _ _ _ c.in-Some.ensures c.in-Err.ensures.failed

pub loop-led-preserved : goal.loop-led-preserved
loop-led-preserved g c =
    leads-more _ _ _ _ _ _ _ _ _ c.loop-led.invariant c.in_ok-seen.ensures.follows _ c.meet_all-leads_on.ensures.adds
    c.meet_all-leads_on.ensures.next c.if-failed.false

pub returns-then-failed-clause-finds : goal.returns-then-failed-clause-finds
returns-then-failed-clause-finds g c =
    leads-all _ _ _ _ _ _ _ _ _ c.loop-led.invariant c.in_ok-seen.ensures.follows _ c.meet_all-leads_on.ensures.adds
    c.meet_all-leads_on.ensures.next (λ well n. elim c.then-failed.either [
      | inl failed ↦ let no : false ≡ true = sym well ∙ failed in absurd cc
      | inr ended ↦ c.meet_all-leads_on.ensures.same ended.1 n
    ])

pub returns-in_err-seen-clause-failed : goal.returns-in_err-seen-clause-failed
returns-in_err-seen-clause-failed g c = OnErr-given _ (reads-then c.loop-led.invariant.reads c.in_err-seen.ensures.failed)
