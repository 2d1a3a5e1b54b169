-- A file of an RT-11 volume that is filled block by block with bytes that are read.
use Rattle.std.proofs.Common.{◌≡◌, ℕ, ◌+◌, ◌||◌, ◌-◌, ◌*◌, ◌<◌, ◌≤◌, Bool, true, false, List, [], ◌∷◌, ◌++◌}
use Rattle.std.proofs.Common.{min, Option, Err, refl, ap, ◌∙◌, subst, arith}
use Rattle.std.specs.Prelude.{⊤}
use Rattle.f11_dev.specs.Disk.{Disk}
use Rattle.f11_dev.specs.Image.{Image}
use Rattle.f11_dev.specs.Looked.{Looked}
use Rattle.f11_dev.specs.Went.{Went}
use Rattle.f11_dev.specs.declared.device.Device.{Ghosts}
use Rattle.f11_dev.proofs.LookedLemmas.{looked_none}
use Rattle.f11_dev.proofs.WentLemmas.{went_more}
use Rattle.f11_flx.specs.Filling.{Took}
use Rattle.f11_flx.specs.Target.{FailsPutting, HasRtBlocks, MakesTransfers, Puts, rt_disk, rt_store}
use Rattle.f11_flx.specs.ToRt.{rt_takes}
use Rattle.f11_flx.proofs.RtFiles.FrontLemmas.{front-then}
use Rattle.f11_flx.proofs.Texts.PourLemmas.{took-one}
use Rattle.f11_flx.proofs.RtFiles.RtCopyLemmas.{has-written, took-puts}
use Rattle.f11_flx.proofs.SmallLemmas.{or-false}
use Rattle.f11_flx.proofs.RtFiles.TargetLemmas.{transfers-looked, transfers-within}
use Rattle.rt11_volume.specs.Calls.{has_failed}
use Rattle.rt11_volume.specs.Files.{faults_in, is_fault}
use Rattle.rt11_volume.specs.Verifying.Verdict.{IsSoundDisk}
use Rattle.rt11_volume.specs.declared.refusal.RtRefusal.{RtRefusal}
use Rattle.rt11_volume.specs.declared.volume.RtAccepted.{RtAccepted}
use Rattle.f11_commands.specs.RtFile.{block_transfers}
use Rattle.f11_host.specs.Pieces.{ReadsPiece, blocks_for, filled_up}
use Rattle.f11_host.proofs.PieceLemmas.{TakesBlocks, takes-all, takes-more, takes-none}
use Rattle.f11_commands.specs.RtFilling.{FillsNamed, LacksBytes, StopsFilling}

pub transfers-more : {a b c : Disk} {m n faults : ℕ} → MakesTransfers a b m 0 → MakesTransfers b c n faults
    → MakesTransfers a c (m + n) faults
transfers-more first then = went_more (λ image. ⊤) first then

-- So many blocks were written, with the bytes that were read.
pub record Filled {E : Type 0} {met : Ghosts E} (disk : E → Disk) (name : List ℕ) (bytes place left : ℕ) (taken : List ℕ)
    (pieces : List (List ℕ)) (unread unread' : Option (List ℕ)) (old now : RtAccepted E met) : Type 0 where
  pub read : TakesBlocks bytes place left taken pieces unread unread'
  pub took : Took (rt_takes disk) name 0 pieces old now
  pub went : MakesTransfers (rt_disk disk old) (rt_disk disk now) (block_transfers * place) 0

module _ {E : Type 0} {met : Ghosts E} (disk : E → Disk) (name : List ℕ) (bytes : ℕ) (unread : Option (List ℕ)) (old : RtAccepted E met)
  where
    pub filled-none : Filled disk name bytes 0 bytes [] [] unread unread old old
    filled-none = record {
      read = takes-none bytes unread;
      took = refl;
      went = transfers-within (transfers-looked (looked_none (rt_disk disk old))) (omega arith);
    }

    module _ (place left : ℕ) (taken : List ℕ) (pieces : List (List ℕ)) (now' : Option (List ℕ)) (now : RtAccepted E met)
        (filled : Filled disk name bytes place left taken pieces unread now' old now) where
      puts-so-far : Puts disk name 0 pieces old now
      puts-so-far = took-puts disk name 0 pieces old now filled.took

      pub still-fresh : has_failed old ≡ false → has_failed now ≡ false
      still-fresh fresh = puts-so-far.fares.next ∙ or-false (has_failed old) ∙ fresh

      -- one block more
      pub filled-more : (count : ℕ) (block : List ℕ) (new' : Option (List ℕ)) (new : RtAccepted E met) → place < blocks_for bytes
          → count ≡ min left 512 → (r : ReadsPiece count now' new' block) → Puts disk name place (block ∷ []) now new
          → MakesTransfers (rt_disk disk now) (rt_disk disk new) 63 0
          → Filled disk name bytes (place + 1) (left - count) (taken ++ r.piece) (pieces ++ block ∷ []) unread new' old new
      filled-more count block new' new inside is r put went = record {
        read = takes-more bytes place left taken pieces unread now' filled.read count block new' inside is r;
        took = took-one (rt_takes disk) name 0 pieces block old now new filled.took
            (subst (λ n. Puts disk name n (block ∷ []) now new) (omega (arith, filled.read.count)) put);
        went = transfers-within (transfers-more filled.went went) (omega arith);
      }

      -- the host's file gives no more
      pub lacks-bytes : (blocks : ℕ) → place < blocks → LacksBytes disk name blocks old now
      lacks-bytes blocks inside = record {
        some = omega (arith, inside);
        pieces = pieces;
        puts = puts-so-far;
        went = transfers-within filled.went (omega (arith, inside));
      }

      -- a block was refused
      pub stops-filling : (blocks : ℕ) (e : RtRefusal) (new : RtAccepted E met) → has_failed old ≡ false
          → (IsSoundDisk (rt_disk disk old) → HasRtBlocks name blocks (rt_store disk old)) → place < blocks
          → FailsPutting disk name place e now new → MakesTransfers (rt_disk disk now) (rt_disk disk new) 63 (faults_in {T = Unit} (Err e))
          → StopsFilling disk blocks e old new
      stops-filling blocks e new fresh file inside fails went = record {
        fresh = fails.refused.alive (still-fresh fresh);
        next = fails.refused.fares.next
            ∙ ap (λ (b : Bool). b || is_fault e) (puts-so-far.fares.next ∙ or-false (has_failed old));
        fault = λ s. by s (is_fault e) refl;
        front = λ s.
            front-then (rt_disk disk old) (rt_disk disk now) (rt_disk disk new) (puts-so-far.fares.front s)
            (fails.refused.fares.front (puts-so-far.sound s));
        went = transfers-within (transfers-more filled.went went) (omega (arith, inside));
      }
        where
          there : IsSoundDisk (rt_disk disk old) → HasRtBlocks name blocks (rt_store disk now)
          there s =
              let has = file s in
              let w = has-written name 0 pieces has.file has.more (rt_store disk old) (rt_store disk now) has.named
              (puts-so-far.replaced s) in
              record {
                file = record has.file { contents = w.contents };
                more = has.more;
                named = w.is;
                blocks_are = w.size ∙ has.blocks_are;
              }

          by : IsSoundDisk (rt_disk disk old) → (b : Bool) → is_fault e ≡ b → is_fault e ≡ true
          by s true is = is
          by s false is =
              let past = fails.past (puts-so-far.sound s) (still-fresh fresh) is blocks (there s) in absurd (omega (arith, past, inside))

      -- all blocks were written
      pub fills : (blocks : ℕ) → place ≡ blocks → blocks ≡ blocks_for bytes → FillsNamed disk name bytes blocks unread now' old now
      fills blocks all count = record {
        pieces = pieces;
        taken = taken;
        count = filled.read.count ∙ all;
        size = (takes-all bytes place left taken pieces unread now' filled.read (all ∙ count)).0;
        content = filled.read.content ∙ ap (filled_up taken) all;
        takes = filled.read.takes;
        puts = puts-so-far;
        went = subst (λ n. MakesTransfers (rt_disk disk old) (rt_disk disk now) (block_transfers * n) 0) all filled.went;
      }
