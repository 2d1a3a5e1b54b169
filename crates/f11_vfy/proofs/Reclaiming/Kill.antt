-- A header that is killed.
use Rattle.std.proofs.Common.{◌≡◌, ◌⊎◌, ℕ, true, false, List, set, sym, ap, subst, ◌∙◌, arith}
use Rattle.std.specs.Prelude.{Contains}
use Rattle.f11_dev.specs.Disk.{Disk, with_transfer, with_block_at}
use Rattle.f11_dev.specs.Image.{Image}
use Rattle.f11_dev.proofs.LookedLemmas.{looked_none}
use Rattle.f11_dev.proofs.WentLemmas.{went_looked, went_write, went_failed_write, went_within}
use Rattle.f11_header.specs.Header.{IsDead, IsHeader}
use Rattle.f11_header.specs.Writing.{dead_header}
use Rattle.f11_map.specs.HeaderBlock.{blocks_named}
use Rattle.f11_index.specs.IndexFile.{Index, header_lbn}
use Rattle.f11_vfy.specs.Frames.Earlier.{Puts}
use Rattle.f11_vfy.specs.Reclaiming.Steps.{HasDead, KillsHeader, FailsToKill}
use Rattle.f11_vfy.specs.declared.survey.bits.Bits.{Bits}

module _ (index : Index) (n : ℕ) (block : List ℕ) (old : Disk) where
  abbrev P : Image → Type 0
  P = HasDead index n block old.image

  -- it isn't valid
  pub kill-none : (unreferenced : Bits) → ¬ IsHeader block n → KillsHeader index n block unreferenced unreferenced old old
  kill-none unreferenced bad = record {
    killed = λ valid. absurd (bad valid);
    puts = λ valid. absurd (bad valid);
    went = went_within P (went_looked P (looked_none old)) (omega arith);
  }

  module _ (lbn : ℕ) (at : lbn ≡ header_lbn index n) (dead : List ℕ) (is_dead : dead ≡ dead_header block) (killed : IsDead dead)
      (new : Disk)
    where
      is-killed : HasDead index n block old.image (set old.image lbn dead)
      is-killed = record {
        dead = subst IsDead is_dead killed;
        image_is = ap (λ (l : ℕ). set old.image l dead) at ∙ ap (set old.image (header_lbn index n)) is_dead;
      }

      -- it was written
      pub kill-done : (before after : Bits) → Puts (Contains (blocks_named block)) before after
          → new ≡ with_transfer true (with_block_at lbn dead old) → KillsHeader index n block before after old new
      kill-done before after puts wrote = record {
        killed = λ valid. subst (HasDead index n block old.image) (ap (λ (d : Disk). d.image) (sym wrote)) is-killed;
        puts = λ valid. puts;
        went = went_write P old new lbn dead wrote is-killed;
      }

      -- or wasn't
      pub kill-unwritten : (new ≡ with_transfer false old) ⊎ (new ≡ with_transfer false (with_block_at lbn dead old))
          → FailsToKill index n block old new
      kill-unwritten is = went_failed_write P old new lbn dead is is-killed
