use Rattle.std.proofs.Common.{List, inr, subst, sym}
use Rattle.std.specs.Prelude.{IfErr, IfOk}
use Rattle.rt11_squeeze.specs.Kept.{volume_disk}
use Rattle.rt11_squeeze.specs.Squeezing.{AreTold, EndsEarly, OnSound, Preserves, SqueezesEach, squeeze_transfers}
use Rattle.rt11_squeeze.specs.declared.moving.FileToMove.{FileToMove}
use Rattle.f11_commands.specs.RtSqueeze.{EndsSqueezed, SqueezesFiles}
use Rattle.f11_commands.proofs.RtSqueezeLemmas.{squeezes-files, told-still}
use Rattle.f11_commands.proofs.rt_squeeze.print_rt_squeeze.Goals as goal

pub returns : goal.returns
returns g c =
    let disk = g.D.Device.disk in
    let files = c.in-Ok.files.items in
    let volume = c.in-Ok-accept_rt.volume in
    let accepted = c.in-Ok-accept_rt.ensures.accepted in
    let squeezed = c.squeeze-squeezed.result in
    let after = c.squeeze-squeezed.new.volume in
    let squeezes : SqueezesFiles files squeezed (volume_disk disk volume) (volume_disk disk after) =
    squeezes-files disk files squeezed volume after
    (told-still files (disk c.args.device) _ (volume_disk disk volume) c.in-Ok.ensures.tells accepted.0)
    (subst (λ (fs : List FileToMove). Preserves fs disk (squeeze_transfers fs) squeezed volume after)
    c.deref.ensures.value c.squeeze-squeezed.ensures.preserves)
    (subst (λ (fs : List FileToMove). IfOk squeezed (λ outcomes. OnSound (AreTold fs) (volume_disk disk volume) (SqueezesEach fs
    outcomes.items (volume_disk disk volume) (volume_disk disk after)))) c.deref.ensures.value c.squeeze-squeezed.ensures.squeezes)
    (subst (λ (fs : List FileToMove). IfErr squeezed (λ e. OnSound (AreTold fs) (volume_disk disk volume) (EndsEarly e)))
    c.deref.ensures.value c.squeeze-squeezed.ensures.refused)
    in
    record {
      ends = inr (inr (record {
        files = files;
        squeezed = squeezed;
        looked = _;
        read = volume_disk disk volume;
        done = disk c.device.result;
        tells = c.in-Ok.ensures.tells;
        verified = accepted.0;
        squeezes = subst (λ d. SqueezesFiles files squeezed (volume_disk disk volume) (disk d)) (sym c.device.ensures) squeezes;
        ends = subst (λ w. EndsSqueezed files squeezed c.end_squeezing.result.1 (disk c.device.result) (disk c.end_squeezing.result.0)
            g.W.Write.contents w c.end_squeezing.new.writer) accepted.1
            (subst (λ (fs : List FileToMove). EndsSqueezed fs squeezed c.end_squeezing.result.1 (disk c.device.result)
            (disk c.end_squeezing.result.0) g.W.Write.contents c.accept_rt.new.writer c.end_squeezing.new.writer)
            c.deref-2.ensures.value c.end_squeezing.ensures.ends);
      }));
    }
