use Rattle.std.proofs.Common.{◌∷◌, [], ◌≡◌, ◌+◌, inl, inr, Option, Result, Ok, Err, refl, sym, ◌∙◌, ap, subst, arith}
use Rattle.rt11_volume.specs.Files.{is_device_fault}
use Rattle.rt11_volume.specs.declared.refusal.RtRefusal.{RtRefusal}
use Rattle.rt11_squeeze.specs.Moving.{move_transfers}
use Rattle.rt11_squeeze.specs.Kept.{volume_disk, volume_store}
use Rattle.rt11_squeeze.specs.Squeezing.{TriesBy, file_transfers}
use Rattle.rt11_squeeze.specs.Rooms.{areas_listed}
use Rattle.rt11_squeeze.specs.declared.way.Way.TheVariants as way
use Rattle.rt11_squeeze.proofs.OutcomeLemmas.{early-behind, moves-past, moving-way, squeezes-moved, stays-without, told-looked}
use Rattle.rt11_squeeze.specs.declared.outcome.Squeezed.{Squeezed}
use Rattle.rt11_squeeze.specs.declared.outcome.Squeezed.TheVariants.{InPlace, Refused}
use Rattle.rt11_squeeze.proofs.SqueezeLemmas.{preserves-as, preserves-looked, preserves-more, told-alone}
use Rattle.rt11_squeeze.proofs.squeezing.squeeze_file.Goals as goal

pub returns-in-Stay-clause-preserves : goal.returns-in-Stay-clause-preserves
returns-in-Stay-clause-preserves g c =
    let disk = g.D.Device.disk in
    let told = c.args.file.now in
    preserves-as disk {T = Squeezed} {U = Squeezed} (told ∷ []) 124 (file_transfers told) (Ok InPlace) (Ok InPlace)
    c.args.volume.now c.look.new.volume refl (omega arith)
    (preserves-looked disk {T = Squeezed} (told ∷ []) 124 (Ok InPlace) c.args.volume.now c.look.new.volume c.in-Ok.ensures.looked
    c.in-Ok.ensures.next)

pub returns-in-Barred-clause-preserves : goal.returns-in-Barred-clause-preserves
returns-in-Barred-clause-preserves g c =
    let disk = g.D.Device.disk in
    let told = c.args.file.now in
    preserves-as disk {T = Squeezed} {U = Squeezed} (told ∷ []) 124 (file_transfers told) (Ok InPlace) (Ok _)
    c.args.volume.now c.look.new.volume refl (omega arith)
    (preserves-looked disk {T = Squeezed} (told ∷ []) 124 (Ok InPlace) c.args.volume.now c.look.new.volume c.in-Ok.ensures.looked
    c.in-Ok.ensures.next)

pub returns-in-Ok-None-clause-preserves : goal.returns-in-Ok-None-clause-preserves
returns-in-Ok-None-clause-preserves g c =
    let disk = g.D.Device.disk in
    let told = c.args.file.now in
    let n = move_transfers told.blocks in
    preserves-as disk {T = Squeezed} {U = Squeezed} (told ∷ []) (124 + (n + n) + 62) (file_transfers told) c.judge.result c.judge.result
    c.args.volume.now c.judge.new.volume refl (omega arith)
    (preserves-more disk {T = Option RtRefusal} {U = Squeezed} (told ∷ []) (124 + (n + n)) 62 c.try_way.result c.judge.result
    c.args.volume.now c.try_way.new.volume c.judge.new.volume (ap is_device_fault c.in-Ok-None.is)
    (preserves-more disk {T = Squeezed} {U = Option RtRefusal} (told ∷ []) 124 (n + n) (Ok InPlace) c.try_way.result
    c.args.volume.now c.look.new.volume c.try_way.new.volume refl
    (preserves-looked disk {T = Squeezed} (told ∷ []) 124 (Ok InPlace) c.args.volume.now c.look.new.volume c.in-Ok.ensures.looked
    c.in-Ok.ensures.next) c.try_way.ensures.preserves)
    (preserves-looked disk {T = Squeezed} (told ∷ []) 62 c.judge.result c.try_way.new.volume c.judge.new.volume c.judge.ensures.looked
    c.judge.ensures.next))

pub returns-in-Ok-Some-clause-preserves : goal.returns-in-Ok-Some-clause-preserves
returns-in-Ok-Some-clause-preserves g c =
    let disk = g.D.Device.disk in
    let told = c.args.file.now in
    let n = move_transfers told.blocks in
    preserves-as disk {T = Option RtRefusal} {U = Squeezed} (told ∷ []) (124 + (n + n)) (file_transfers told) c.try_way.result
    (Ok (Refused c.in-Ok-Some.refusal)) c.args.volume.now c.try_way.new.volume (ap is_device_fault c.in-Ok-Some.is) (omega arith)
    (preserves-more disk {T = Squeezed} {U = Option RtRefusal} (told ∷ []) 124 (n + n) (Ok InPlace) c.try_way.result
    c.args.volume.now c.look.new.volume c.try_way.new.volume refl
    (preserves-looked disk {T = Squeezed} (told ∷ []) 124 (Ok InPlace) c.args.volume.now c.look.new.volume c.in-Ok.ensures.looked
    c.in-Ok.ensures.next) c.try_way.ensures.preserves)

pub returns-in-Err-try_way-clause-preserves : goal.returns-in-Err-try_way-clause-preserves
returns-in-Err-try_way-clause-preserves g c =
    let disk = g.D.Device.disk in
    let told = c.args.file.now in
    let n = move_transfers told.blocks in
    preserves-as disk {T = Option RtRefusal} {U = Squeezed} (told ∷ []) (124 + (n + n)) (file_transfers told)
    (Err c.in-Err-try_way.refusal) (Err c.in-Err-try_way.refusal) c.args.volume.now c.try_way.new.volume refl (omega arith)
    (preserves-more disk {T = Squeezed} {U = Option RtRefusal} (told ∷ []) 124 (n + n) (Ok InPlace) (Err c.in-Err-try_way.refusal)
    c.args.volume.now c.look.new.volume c.try_way.new.volume refl
    (preserves-looked disk {T = Squeezed} (told ∷ []) 124 (Ok InPlace) c.args.volume.now c.look.new.volume c.in-Ok.ensures.looked
    c.in-Ok.ensures.next) c.in-Err-try_way.ensures.preserves)

pub returns-in-Stay-clause-squeezes : goal.returns-in-Stay-clause-squeezes
returns-in-Stay-clause-squeezes g c = λ s is.
    let at = c.in-Ok.ensures in
    record {
      from = c.in-Ok.found.0;
      begins = at.begins s;
      became = (
        stays-without (areas_listed (volume_store g.D.Device.disk c.args.volume.now)) c.in-Ok.found.0 c.args.file.now.blocks
            (sym (at.way s) ∙ c.in-Stay.is),
        at.looked.image,
      );
      kept = (returns-in-Stay-clause-preserves g c).kept refl s (told-alone c.args.file.now _ is);
    }

pub returns-in-Barred-clause-squeezes : goal.returns-in-Barred-clause-squeezes
returns-in-Barred-clause-squeezes g c = λ s is.
    let at = c.in-Ok.ensures in
    record {
      from = c.in-Ok.found.0;
      begins = at.begins s;
      became = record {
        gap = moves-past (areas_listed (volume_store g.D.Device.disk c.args.volume.now)) c.in-Ok.found.0 c.args.file.now.blocks
            (λ stays. let clash : way.Barred ≡ way.Stay = sym c.in-Barred.is ∙ at.way s ∙ stays in absurd (cc));
        why = inl (record { e_is = refl; barred = sym (at.way s) ∙ c.in-Barred.is; same = at.looked.image });
      };
      kept = (returns-in-Barred-clause-preserves g c).kept refl s (told-alone c.args.file.now _ is);
    }

pub returns-in-Ok-Some-clause-squeezes : goal.returns-in-Ok-Some-clause-squeezes
returns-in-Ok-Some-clause-squeezes g c = λ s is.
    let disk = g.D.Device.disk in
    let told = c.args.file.now in
    let at = c.in-Ok.ensures in
    let t = told-looked told at.looked s is in
    record {
      from = c.in-Ok.found.0;
      begins = at.begins s;
      became = record {
        gap = moves-past (areas_listed (volume_store disk c.args.volume.now)) c.in-Ok.found.0 told.blocks
            (λ stays. moving-way c.in-Ok.found.1 c.in-Once.is (at.way s ∙ stays));
        why =
            inr (inl (subst (λ (r : Result (Option RtRefusal) RtRefusal).
            TriesBy c.in-Ok.found.1 told r (volume_disk disk c.look.new.volume)
            (volume_disk disk c.try_way.new.volume)) (c.in-Ok-Some.is ∙ (λ i. Ok (c.in-Ok-Some.field-0-is i)))
            (c.try_way.ensures.tries t.0 t.1)));
      };
      kept = (returns-in-Ok-Some-clause-preserves g c).kept refl s (told-alone c.args.file.now _ is);
    }

pub returns-in-Ok-None-clause-squeezes : goal.returns-in-Ok-None-clause-squeezes
returns-in-Ok-None-clause-squeezes g c =
    let disk = g.D.Device.disk in
    let told = c.args.file.now in
    let n = move_transfers told.blocks in
    let at = c.in-Ok.ensures in
    squeezes-moved disk told (file_transfers told) (124 + (n + n)) c.in-Ok.found.0 c.in-Ok.found.1 c.try_way.result c.judge.result
    c.args.volume.now
    c.look.new.volume c.try_way.new.volume c.judge.new.volume at.begins
    (λ s. moves-past (areas_listed (volume_store disk c.args.volume.now)) c.in-Ok.found.0 told.blocks
    (λ stays. moving-way c.in-Ok.found.1 c.in-Once.is (at.way s ∙ stays)))
    c.in-Once.is at.way at.looked (c.in-Ok-None.is ∙ (λ i. Ok (c.in-Ok-None.field-0-is i))) c.try_way.ensures.tries
    (preserves-more disk {T = Squeezed} {U = Option RtRefusal} (told ∷ []) 124 (n + n) (Ok InPlace) c.try_way.result
    c.args.volume.now c.look.new.volume c.try_way.new.volume refl
    (preserves-looked disk {T = Squeezed} (told ∷ []) 124 (Ok InPlace) c.args.volume.now c.look.new.volume at.looked at.next)
    c.try_way.ensures.preserves)
    c.judge.ensures.looked c.judge.ensures.tells (returns-in-Ok-None-clause-preserves g c)

pub returns-in-Ok-None-clause-refused : goal.returns-in-Ok-None-clause-refused
returns-in-Ok-None-clause-refused g c =
    let disk = g.D.Device.disk in
    let told = c.args.file.now in
    let n = move_transfers told.blocks in
    let at = c.in-Ok.ensures in
    early-behind disk told (124 + (n + n)) c.try_way.result c.judge.result c.args.volume.now c.try_way.new.volume
    (ap is_device_fault c.in-Ok-None.is)
    (preserves-more disk {T = Squeezed} {U = Option RtRefusal} (told ∷ []) 124 (n + n) (Ok InPlace) c.try_way.result
    c.args.volume.now c.look.new.volume c.try_way.new.volume refl
    (preserves-looked disk {T = Squeezed} (told ∷ []) 124 (Ok InPlace) c.args.volume.now c.look.new.volume at.looked at.next)
    c.try_way.ensures.preserves)
    c.judge.ensures.refused

pub returns-in-Err-try_way-clause-refused : goal.returns-in-Err-try_way-clause-refused
returns-in-Err-try_way-clause-refused g c = λ s is.
    let t = told-looked c.args.file.now c.in-Ok.ensures.looked s is in c.in-Err-try_way.ensures.tries t.0 t.1
