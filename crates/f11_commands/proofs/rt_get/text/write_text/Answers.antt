use Rattle.std.proofs.Common.{◌≡◌, ℕ, ◌+◌, ◌++◌, ◌∷◌, List, [], ◌∙◌, ap, arith, length, refl, subst, sym}
use Rattle.std.proofs.KnownBytes.{Appends-nil, Appends-trans}
use Rattle.std.proofs.lemmas.List.{length-append}
use Rattle.std.specs.Io.KnownBytes.{Appends}
use Rattle.f11_dev.proofs.LookedLemmas.{looked_more, looked_within}
use Rattle.rt11_text.specs.ToHost.{text_behind}
use Rattle.rt11_text.specs.declared.to_host.ToHost.{ToHost}
use Rattle.f11_commands.proofs.HandedLemmas.{error-is}
use Rattle.f11_commands.proofs.RtTakingLemmas.{ReadsFirst, reads-more, reads-none, reads-within}
use Rattle.f11_commands.proofs.RtTextLemmas.{gives-all, gives-more, stops-at, takes-text}
use Rattle.f11_commands.proofs.rt_get.text.write_text.Goals as goal

pub loop-place-init : goal.loop-place-init
loop-place-init g c = record {
  read = [];
  given = [];
  reads = reads-none c.args.first _;
  gives = record { gives = λ more. ap (λ (t : ToHost). text_behind t more) (sym c.begin-text.ensures) };
  takes = Appends-nil _;
  size = refl;
  few = omega arith;
}

pub loop-place-preserved : goal.loop-place-preserved
loop-place-preserved g c =
    let l = c.loop-place in
    record {
      read = l.invariant.read ++ c.read_at.new.into ∷ [];
      given = l.invariant.given ++ c.convert.new.into.items;
      reads = reads-more c.args.first _ _ _ _ l.invariant.reads _ c.read_at.new.into _ (omega arith) (search) c.in-Ok.ensures.reads;
      gives = gives-more l.invariant.read l.invariant.given c.convert.new.into.items c.read_at.new.into l.text _ l.invariant.gives
          c.convert.ensures.gives;
      takes = Appends-trans _ _ _ _ _ l.invariant.takes (subst (Appends _ _) c.deref.ensures.0 c.in_ok-write_all.ensures.bytes);
      size =
          (λ t. l.invariant.size t + c.len.ensures.value t) ∙ sym (length-append l.invariant.given c.convert.new.into.items);
      few = omega (arith, l.invariant.few, c.len.ensures.fits);
    }

pub returns-in-Err-clause-failed : goal.returns-in-Err-clause-failed
returns-in-Err-clause-failed g c =
    let l = c.loop-place in
    stops-at c.args.first l.place l.invariant.read _ _ l.invariant.reads l.invariant.given l.text l.invariant.gives c.args.blocks _ _ _
    l.invariant.takes _ c.loop-place-test.true c.in-Err.ensures.failed

pub returns-in_err-write_all-clause-failed : goal.returns-in_err-write_all-clause-failed
returns-in_err-write_all-clause-failed g c =
    let l = c.loop-place in
    error-is _ _ _ c.from_residual.ensures.1
    (reads-within c.args.first _ _ _ _ l.invariant.reads _ c.args.blocks _ _ c.loop-place-test.true c.in-Ok.ensures.reads)
