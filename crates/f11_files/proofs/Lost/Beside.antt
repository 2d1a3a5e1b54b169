-- Calls write beside lost blocks: by which blocks they may write, and which are lost still.
use Rattle.std.proofs.Common.{◌≡◌, ◌⊎◌, ℕ, zero, suc, Bool, true, false, IsTrue, List, [], get_or, inl, inr, refl, sym, subst}
use Rattle.std.proofs.lemmas.Bool.{false≢true}
use Rattle.f11_dev.specs.Disk.{Disk}
use Rattle.f11_dev.specs.Image.{Image}
use Rattle.f11_dev.specs.Looked.{Looked}
use Rattle.f11_home.specs.Home.{HomeFields}
use Rattle.f11_index.specs.IndexFile.{index_of}
use Rattle.f11_store.specs.Changes.{is_in}
use Rattle.f11_store.specs.Headroom.{slots_first}
use Rattle.f11_store.specs.Pieces.{file_numbered}
use Rattle.f11_volume.specs.Sound.{HasSoundVolume}
use Rattle.f11_volume.specs.Space.{storage_bitmap}
use Rattle.f11_volume.specs.Volume.{volume_of}
use Rattle.f11_writes.specs.Lost.{IsUsedInNoFile, KeepsLost, KeepsLostThroughout, StayLost, SparesLost}
use Rattle.f11_writes.proofs.InOrderLemmas.{at-home}
use Rattle.f11_writes.proofs.LostLemmas.{lost-looked, lost-then, sound-behind, stay-same}
use Rattle.f11_image_store.specs.Allocation.{free_list}
use Rattle.f11_image_store.specs.Confines.{either, new_header, no_header, Spares}
use Rattle.f11_image_store.specs.StoreOf.{store_of}
use Rattle.f11_image_store.proofs.SparedLemmas.{fileless-spared}
use Rattle.f11_files.specs.Answers.{WritesOnly}
use Rattle.f11_files.specs.GrowingIndex.Headroom.{ConfinesSlots, HasReadied, WritesAfterSlots}
use Rattle.f11_files.proofs.Confining.Confines.{in-order-if}
use Rattle.f11_files.proofs.Lost.Stay.{not-listed, slots-stay}

-- none of these blocks is lost
abbrev pub NoneLost : HomeFields → Image → List ℕ → Type 0
NoneLost home image others = (lbn : ℕ) → IsUsedInNoFile (volume_of image home) lbn → is_in others lbn ≡ false

pub free-none-lost : (home : HomeFields) (image : Image) → NoneLost home image (free_list (volume_of image home))
free-none-lost home image lbn lost = not-listed (volume_of image home) lbn lost.used

-- a lost block is none of a call's own
spared-lost : (home : HomeFields) (headers : ℕ → Bool) (others : List ℕ) (old image : Image) → HasSoundVolume old home
    → NoneLost home old others → Spares headers (index_of old home) (storage_bitmap old home) others old image → KeepsLost home old image
spared-lost home headers others old image sound out spares lbn lost =
    spares lbn (fileless-spared old home sound lbn lost headers) (out lbn lost)

pub looked-stay : (home : HomeFields) (old new : Disk) {most faults : ℕ} → Looked old new most faults → StayLost home old.image new.image
looked-stay home old new looked = stay-same home old.image new.image looked.image

-- blocks were read
pub reads-beside : (fails : Bool) {old new : Disk} {most faults : ℕ} → Looked old new most faults → SparesLost false fails old new
reads-beside fails {old = old} {new = new} {most = most} {faults = faults} looked =
    lost-looked false fails old new most faults (λ is. absurd (false≢true is)) looked

-- where the disk is honest
beside-if : (fails : Bool) (old new : Disk) → (IsTrue old.honest → SparesLost false fails old new)
    → SparesLost false fails old new
beside-if fails old new one = record {
  ordered = record { ordered = λ honest. (one honest).ordered.ordered honest };
  kept = λ honest. (one honest).kept honest;
  stay = λ alive honest. (one honest).stay alive honest;
  spent = λ is. absurd (false≢true is);
}

module _ (home : HomeFields) (fails : Bool) (old new : Disk) (sound : IsTrue old.honest → HasSoundVolume old.image home)
    (stay : fails ≡ false → IsTrue old.honest → HasSoundVolume new.image home → StayLost home old.image new.image) where
  -- what stays is told of the call as a whole
  with-stay : SparesLost false true old new → SparesLost false fails old new
  with-stay one = record {
    ordered = one.ordered;
    kept = one.kept;
    stay = λ alive honest other there.
        subst (λ (h : HomeFields). StayLost h old.image new.image) (at-home home other old.image (sound honest) there)
        (stay alive honest (sound-behind old new home honest one.ordered (sound honest)).1);
    spent = λ is. absurd (false≢true is);
  }

  -- a call writes its own blocks, and these
  pub confined-beside : (headers : ℕ → Bool) (others : List ℕ) → (IsTrue old.honest → NoneLost home old.image others)
      → WritesOnly headers others home old new → SparesLost false fails old new
  confined-beside headers others out confined = with-stay (record {
    ordered = in-order-if confined;
    kept = λ honest other there.
        let one = confined honest in
        subst (λ (h : HomeFields). KeepsLostThroughout h old new) (at-home home other old.image (sound honest) there) (record {
          since = one.since;
          history = one.history;
          image = one.image;
          each = λ k d within.
              spared-lost home headers others old.image (get_or one.since k d) (sound honest) (out honest) (one.each k d within);
        });
    stay = λ is. absurd (false≢true (sym is));
    spent = λ is. absurd (false≢true is);
  })

-- slots that come first
slots-beside : (n : ℕ) (home : HomeFields) (fails : Bool) (old ready : Disk) → (IsTrue old.honest → HasSoundVolume old.image home)
    → (fails ≡ false → IsTrue old.honest → HasSoundVolume ready.image home → StayLost home old.image ready.image)
    → (IsTrue old.honest → ConfinesSlots n home old ready) → SparesLost false fails old ready
slots-beside zero home fails old ready sound stay slots =
    confined-beside home fails old ready sound stay no_header [] (λ honest lbn lost. refl) (λ honest. slots honest honest)
slots-beside (suc n) home fails old ready sound stay slots =
    confined-beside home fails old ready sound stay
    (either (is_in (file_numbered (store_of old.image home) 1).held) (new_header (index_of old.image home)))
    (free_list (volume_of old.image home)) (λ honest. free-none-lost home old.image) (λ honest. slots honest honest)

-- and then the rest
module _ (home : HomeFields) (headers : ℕ) (Rest : Disk → Disk → Type 0) (fails : Bool) (old new : Disk)
    (sound : IsTrue old.honest → HasSoundVolume old.image home)
    (stay : fails ≡ false → IsTrue old.honest → HasSoundVolume new.image home → StayLost home old.image new.image)
    (rest : (ready : Disk) → HasSoundVolume ready.image home → Rest ready new → SparesLost false true ready new)
    (after : WritesAfterSlots headers Rest home old new) where
  slots : (fails : Bool)
      → (fails ≡ false → IsTrue old.honest → HasSoundVolume after.ready.image home → StayLost home old.image after.ready.image)
      → SparesLost false fails old after.ready
  slots fails stay = slots-beside (slots_first (store_of old.image home) headers) home fails old after.ready sound stay after.slots

  either-way : IsTrue old.honest → (new ≡ after.ready) ⊎ HasReadied headers home old after.ready → SparesLost false true old new
  either-way honest (inl same) = subst (SparesLost false true old) (sym same) (slots true (λ is. absurd (false≢true (sym is))))
  either-way honest (inr readied) =
      let first = slots false (λ alive sure there. slots-stay _ home old.image after.ready.image (sound sure) there (readied sure)) in
      lost-then false false true old after.ready new first
      (rest after.ready (sound-behind old after.ready home honest first.ordered (sound honest)).1 after.rest)

  pub after-beside : SparesLost false fails old new
  after-beside = with-stay home fails old new sound stay (beside-if true old new (λ honest. either-way honest after.readied))
