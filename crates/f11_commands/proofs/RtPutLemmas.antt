-- A file of an RT-11 volume that is made, filled, and undone.
use Rattle.std.proofs.Common.{◌≡◌, inl, inr, ℕ, ◌<◌, ◌||◌, Bool, true, false, List, Option, Err}
use Rattle.std.proofs.Common.{[], if◌then◌else◌, refl, sym, ap, ◌∙◌, subst, arith}
use Rattle.f11_dev.specs.Disk.{Disk}
use Rattle.f11_dev.specs.declared.device.Device.{Ghosts}
use Rattle.f11_flx.specs.CopyToRt.{HasCopy}
use Rattle.f11_flx.specs.Target.{DeletesRtFile, FailsDeleting, Makes, MakesTransfers, SparesFront, create_transfers, rt_disk, rt_store}
use Rattle.f11_flx.proofs.RtFiles.FrontLemmas.{front-then}
use Rattle.f11_flx.proofs.RtFiles.RtCopyLemmas.{has-copy, has-gone, has-written, still-lies}
use Rattle.f11_flx.proofs.SmallLemmas.{or-false}
use Rattle.rt11_volume.specs.Calls.{has_failed}
use Rattle.rt11_volume.specs.Files.{faults_in, is_fault}
use Rattle.rt11_volume.specs.Verifying.Verdict.{IsSoundDisk}
use Rattle.rt11_volume.specs.declared.refusal.RtRefusal.{RtRefusal}
use Rattle.rt11_volume.specs.declared.volume.RtAccepted.{RtAccepted}
use Rattle.f11_commands.specs.RtDelete.{delete_transfers}
use Rattle.f11_commands.specs.RtFilling.{FillsNamed, LacksBytes, StopsFilling, UndoesStoring, stop_of}
use Rattle.f11_host.specs.Pieces.{blocks_for}
use Rattle.f11_commands.specs.RtPut.{IsNotStored, IsStored, IsUnstored, PutsFile}
use Rattle.f11_commands.specs.RtPut.{is_fault_of, put_transfers}
use Rattle.f11_commands.specs.declared.rt_file.Stop.{Stop}
use Rattle.f11_commands.specs.declared.rt_file.Stop.TheVariants.{Volume, Host}
use Rattle.f11_flx.proofs.RtFiles.TargetLemmas.{transfers-within}
use Rattle.f11_commands.proofs.RtFillLemmas.{transfers-more}

never : true ≡ false → ⊥
never h = absurd (cc)

module _ {E : Type 0} {met : Ghosts E} (disk : E → Disk) (name : List ℕ) (bytes : ℕ) (unread : Option (List ℕ)) (old : RtAccepted E met)
  where
    module _ (made : RtAccepted E met) (makes : Makes disk name (blocks_for bytes) 0 old made)
        (went : MakesTransfers (rt_disk disk old) (rt_disk disk made) create_transfers 0) where
      made-fresh : has_failed made ≡ false
      made-fresh = makes.fares.next ∙ or-false (has_failed old) ∙ makes.alive

      -- blocks 0 to 5 of what was made, and then went on so
      front-on : (new : Disk) → (IsSoundDisk (rt_disk disk made) → SparesFront (rt_disk disk made) new) → IsSoundDisk (rt_disk disk old)
          → SparesFront (rt_disk disk old) new
      front-on new more s = front-then (rt_disk disk old) (rt_disk disk made) new (makes.fares.front s) (more (makes.sound s))

      pub stored : (blocks : ℕ) (unread' : Option (List ℕ)) (new : RtAccepted E met) → blocks ≡ blocks_for bytes
          → FillsNamed disk name bytes blocks unread unread' made new
          → IsStored name bytes blocks unread unread' (rt_disk disk old) (rt_disk disk new)
      stored blocks unread' new count fills = record {
        taken = fills.taken;
        size = fills.size;
        takes = fills.takes;
        count = count;
        sound = λ s. fills.puts.sound (makes.sound s);
        stored = λ s.
            let makes' : Makes disk name blocks 0 old made = subst (λ n. Makes disk name n 0 old made) (sym count) makes in
            subst (λ (c : List ℕ). HasCopy name c blocks 0 (rt_store disk old) (rt_store disk new)) fills.content
            (has-copy name blocks 0 fills.pieces (rt_store disk old) (rt_store disk made) (rt_store disk new) (makes'.made s)
            (fills.puts.replaced (makes.sound s)) (makes'.lies s) (fills.puts.directory (makes.sound s)) fills.count);
        front = λ s. front-on (rt_disk disk new) (λ made-sound. fills.puts.fares.front made-sound) s;
        went = transfers-within (transfers-more went fills.went) (omega arith);
      }

      -- no call on it has answered `DeviceFault` behind the last block
      pub next-stored : (blocks : ℕ) (unread' : Option (List ℕ)) (new : RtAccepted E met)
          → FillsNamed disk name bytes blocks unread unread' made new → has_failed new ≡ false
      next-stored blocks unread' new fills = fills.puts.fares.next ∙ or-false (has_failed made) ∙ made-fresh

      -- nor one that wasn't a fault
      pub next-stopped : (e : RtRefusal) (new : RtAccepted E met) → StopsFilling disk (blocks_for bytes) e made new
          → has_failed new ≡ is_fault e
      next-stopped e new stops = stops.next ∙ ap (λ (b : Bool). b || is_fault e) made-fresh

      pub stopped : (e : RtRefusal) (new : RtAccepted E met) → StopsFilling disk (blocks_for bytes) e made new
          → IsNotStored name bytes e (rt_disk disk old) (rt_disk disk new)
      stopped e new stops = record {
        fresh = stops.fresh;
        why = λ none s. absurd (never (sym (stops.fault (makes.sound s)) ∙ none));
        stays = λ none s. absurd (never (sym (stops.fault (makes.sound s)) ∙ none));
        front = λ s. front-on (rt_disk disk new) (λ made-sound. stops.front made-sound) s;
        went = transfers-within (transfers-more went stops.went) (omega arith);
      }

      module _ (left new : RtAccepted E met) (lacks : LacksBytes disk name (blocks_for bytes) made left) where
        all : {faults : ℕ} → MakesTransfers (rt_disk disk left) (rt_disk disk new) delete_transfers faults
            → MakesTransfers (rt_disk disk old) (rt_disk disk new) (put_transfers (blocks_for bytes)) faults
        all last = transfers-within (transfers-more (transfers-more went lacks.went) last) (omega arith)

        -- behind the blocks that were written
        front-all : (IsSoundDisk (rt_disk disk left) → SparesFront (rt_disk disk left) (rt_disk disk new)) → IsSoundDisk (rt_disk disk old)
            → SparesFront (rt_disk disk old) (rt_disk disk new)
        front-all last =
            front-on (rt_disk disk new) (λ s. front-then (rt_disk disk made) (rt_disk disk left) (rt_disk disk new)
            (lacks.puts.fares.front s) (last (lacks.puts.sound s)))

        more-than-none : 0 < bytes
        more-than-none = omega (arith, lacks.some)

        pub gone : DeletesRtFile disk name left new → MakesTransfers (rt_disk disk left) (rt_disk disk new) delete_transfers 0
            → IsUnstored name bytes (rt_disk disk old) (rt_disk disk new)
        gone deleted last = record {
          some = more-than-none;
          sound = λ s. deleted.sound (lacks.puts.sound (makes.sound s));
          same = λ s.
              let g = has-gone name (blocks_for bytes) 0 lacks.pieces (rt_store disk old) (rt_store disk made) (rt_store disk left)
              (makes.made s) (lacks.puts.replaced (makes.sound s)) (rt_store disk new)
              (deleted.gone (lacks.puts.sound (makes.sound s))) in
              record { named = g.0; others = g.1 };
          front = front-all (λ s. deleted.fares.front s);
          undone = λ s. record {
            none = (makes.made s).none;
            made = rt_store disk left;
            lies = still-lies name (blocks_for bytes) 0 (rt_store disk old) (rt_store disk made) (rt_store disk left) (makes.lies s)
                (lacks.puts.directory (makes.sound s));
            emptied = deleted.emptied (lacks.puts.sound (makes.sound s));
          };
          went = all last;
        }

        left-fresh : has_failed left ≡ false
        left-fresh = lacks.puts.fares.next ∙ or-false (has_failed made) ∙ made-fresh

        -- on a sound disk it is deleted
        kept-never : (e : RtRefusal) → FailsDeleting disk name e left new → is_fault e ≡ false → IsSoundDisk (rt_disk disk old) → ⊥
        kept-never e refused none s =
            let m = makes.made s in
            let w = has-written name 0 lacks.pieces m.file [] (rt_store disk made) (rt_store disk left) m.one
            (lacks.puts.replaced (makes.sound s)) in
            never (sym (refused.protected (lacks.puts.sound (makes.sound s)) left-fresh none (record m.file { contents = w.contents }) []
            w.is)
            ∙ m.unprotected)

        -- nor behind the deletion
        pub next-undone : (stop : Stop) → UndoesStoring disk name stop left new → has_failed new ≡ is_fault_of (Err stop)
        next-undone stop (inl g) =
            g.deleted.fares.next ∙ or-false (has_failed left) ∙ left-fresh ∙ ap (λ (x : Stop). is_fault_of (Err x)) (sym g.stop_is)
        next-undone stop (inr g) =
            g.refused.refused.fares.next ∙ ap (λ (b : Bool). b || is_fault g.e) left-fresh ∙ by (is_fault g.e) refl
            ∙ ap (λ (x : Stop). is_fault_of (Err x)) (sym g.stop_is)
          where
            by : (b : Bool) → is_fault g.e ≡ b → b ≡ is_fault_of (Err (if b then Volume g.e else Host))
            by true is = sym is
            by false is = refl

        pub undone : (unread' : Option (List ℕ)) (stop : Stop) → UndoesStoring disk name stop left new
            → PutsFile name bytes (Err stop) unread unread' (rt_disk disk old) (rt_disk disk new)
        undone unread' stop (inl g) =
            subst (λ (x : Stop). PutsFile name bytes (Err x) unread unread' (rt_disk disk old) (rt_disk disk new)) (sym g.stop_is)
            (gone g.deleted g.went)
        undone unread' stop (inr g) =
            subst (λ (x : Stop). PutsFile name bytes (Err x) unread unread' (rt_disk disk old) (rt_disk disk new)) (sym g.stop_is)
            (by (is_fault g.e) refl)
          where
            by : (b : Bool) → is_fault g.e ≡ b
                → PutsFile name bytes (Err (stop_of g.e)) unread unread' (rt_disk disk old) (rt_disk disk new)
            by true is =
                subst (λ (b : Bool). PutsFile name bytes (Err (if b then Volume g.e else Host)) unread unread' (rt_disk disk old)
                (rt_disk disk new)) (sym is) (record {
                  fresh = g.refused.refused.alive
                      (left-fresh);
                  why = λ none s. absurd (never (sym is ∙ none));
                  stays = λ none s. absurd (never (sym is ∙ none));
                  front = front-all (λ s. g.refused.refused.fares.front s);
                  went = all g.went;
                })
            by false is =
                let no-faults : faults_in {T = Unit} (Err g.e) ≡ 0 = ap (λ (b : Bool). if b then 1 else 0) is in
                subst (λ (b : Bool). PutsFile name bytes (Err (if b then Volume g.e else Host)) unread unread' (rt_disk disk old)
                (rt_disk disk new)) (sym is) (record {
                  some = more-than-none;
                  sound = λ s. absurd (kept-never g.e g.refused is s);
                  same = λ s. absurd (kept-never g.e g.refused is s);
                  front = λ s. absurd (kept-never g.e g.refused is s);
                  undone = λ s. absurd (kept-never g.e g.refused is s);
                  went = all (subst (λ n. MakesTransfers (rt_disk disk left) (rt_disk disk new) delete_transfers n) no-faults g.went);
                })
