use Rattle.std.proofs.Common.{◌≡◌, ◌++◌, ◌∙◌, [], ap, append-nil, sym}
use Rattle.std.specs.List.{cons_option}
use Rattle.f11_actions.specs.RtNamed.{file_name}
use Rattle.f11_actions.proofs.RtNamedLemmas.{names-more}
use Rattle.f11_actions.proofs.rt_named.names_in.Goals.{in-None, in-Some+in_ok-push-in-Some}
use Rattle.f11_actions.proofs.rt_named.names_in.Goals as goal

pub loop-entry-preserved : goal.loop-entry-preserved
loop-entry-preserved c =
    let l = c.loop-entry in
    names-more file_name c.args.entries.now l.entry-index _ l.names.items c.match-file_name.names.items c.file_name.result
    c.loop-entry-test.true (c.file_name.ensures ∙ ap file_name c.entry-item.is)
    (elim c.match-file_name.branch as (λ _. c.match-file_name.names.items ≡ l.names.items ++ cons_option c.file_name.result []) [
      | in-Some+in_ok-push-in-Some w ↦ rw (w.names-is, w.in-Some.is) w.in_ok-push-in-Some.ensures.items
      | in-None w ↦ rw (w.names-is, w.in-None.is) (sym (append-nil l.names.items))
    ])
    l.invariant
