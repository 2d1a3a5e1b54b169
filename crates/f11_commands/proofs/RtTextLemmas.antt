-- The text that the blocks of a file of an RT-11 volume hold, written as they are read.
use Rattle.std.proofs.Common.{◌≡◌, ℕ, ◌+◌, ◌*◌, ◌<◌, ◌≤◌, IsTrue, List, [], ◌∷◌, ◌++◌, Option, length, refl, sym, ap, ◌∙◌, subst, arith}
use Rattle.std.proofs.Common.{append_assoc}
use Rattle.std.specs.List.{concat}
use Rattle.std.specs.Io.KnownBytes.{Appends}
use Rattle.std.proofs.KnownBytes.{Appends-nil, Appends-trans}
use Rattle.std.proofs.lemmas.List.{append-nil, length-append}
use Rattle.std.proofs.lemmas.List.Folds.{concat-append}
use Rattle.f11_dev.specs.Disk.{Disk}
use Rattle.f11_dev.specs.Looked.{Looked}
use Rattle.f11_dev.proofs.LookedLemmas.{looked_more, looked_within}
use Rattle.rt11_text.specs.Text.{host_text}
use Rattle.rt11_text.specs.ToHost.{text_behind}
use Rattle.rt11_text.specs.declared.to_host.ToHost.{ToHost}
use Rattle.rt11_volume.specs.AnyDirectory.{blocks_from}
use Rattle.f11_commands.specs.RtText.{StopsTakingText, TakesText}
use Rattle.f11_commands.proofs.RtTakingLemmas.{ReadsFirst}

-- The blocks that were read gave these bytes, and what follows them gives the rest of the text.
pub record Gives (read : List (List ℕ)) (given : List ℕ) (text : ToHost) : Type 0 where
  pub gives : (more : List ℕ) → host_text (concat read ++ more) ≡ given ++ text_behind text more

pub gives-more : (read : List (List ℕ)) (given piece block : List ℕ) (text text' : ToHost) → Gives read given text
    → ((more : List ℕ) → text_behind text (block ++ more) ≡ piece ++ text_behind text' more)
    → Gives (read ++ block ∷ []) (given ++ piece) text'
gives-more read given piece block text text' h step = record {
  gives = λ more.
      let all : concat (read ++ block ∷ []) ++ more ≡ concat read ++ (block ++ more) =
      ap (λ (l : List ℕ). l ++ more) (concat-append read (block ∷ []) ∙ ap (λ (l : List ℕ). concat read ++ l) (append-nil block))
      ∙ append_assoc (concat read) block more in
      ap host_text all ∙ h.gives (block ++ more) ∙ ap (λ (l : List ℕ). given ++ l) (step more)
      ∙ sym (append_assoc given piece (text_behind text' more));
}

-- the whole text
pub gives-all : (read : List (List ℕ)) (given last : List ℕ) (text : ToHost) → Gives read given text → last ≡ text_behind text []
    → host_text (concat read) ≡ given ++ last
gives-all read given last text h end =
    ap host_text (sym (append-nil (concat read))) ∙ h.gives [] ∙ ap (λ (l : List ℕ). given ++ l) (sym end)

module _ {H : Type 0} (first place : ℕ) (read : List (List ℕ)) (old now : Disk) (reads : ReadsFirst first place read old now)
    (given : List ℕ) (text : ToHost) (h : Gives read given text) (blocks : ℕ) (contents : H → Option (List ℕ)) (before after : H)
    (takes : Appends (contents before) (contents after) given) where
  -- a transfer failed
  pub stops-at : (new : Disk) → place < blocks → Looked now new 1 1 → StopsTakingText first blocks place old new contents before after
  stops-at new inside looked = record {
    few = inside;
    read = read;
    count = reads.count;
    whole = reads.whole;
    are = reads.are;
    given = given;
    front = λ more. (text_behind text more, h.gives more);
    takes = takes;
    looked = looked_within (looked_more reads.looked looked) (omega (arith, inside));
  }

-- all were read, and the end was written
pub takes-text : {H : Type 0} (first blocks bytes : ℕ) (read : List (List ℕ)) (old now : Disk) → ReadsFirst first blocks read old now
    → (given last : List ℕ) (text : ToHost) → Gives read given text → last ≡ text_behind text [] → bytes ≡ length given + length last
    → (contents : H → Option (List ℕ)) (before after : H) → Appends (contents before) (contents after) (given ++ last)
    → TakesText first blocks bytes old now contents before after
takes-text first blocks bytes read old now reads given last text h end size contents before after takes =
    let all = gives-all read given last text h end in
    record {
      read = read;
      count = reads.count;
      whole = reads.whole;
      are = reads.are;
      takes = subst (Appends (contents before) (contents after)) (sym all) takes;
      size = size ∙ sym (length-append given last) ∙ ap (λ (l : List ℕ). length l) (sym all);
      looked = reads.looked;
    }
