-- What carries `SparesLost` from call to call.
use Rattle.std.proofs.Common.{◌≡◌, ℕ, ◌++◌, Bool, true, false, IsTrue, List, [], ◌∷◌, All, refl, sym, ap, subst, ◌∙◌, append_assoc, arith}
use Rattle.std.proofs.lemmas.Bool.{false≢true}
use Rattle.std.proofs.lemmas.List.Elements.{All-append, All-nil}
use Rattle.f11_dev.specs.Disk.{Disk}
use Rattle.f11_dev.specs.Image.{Image}
use Rattle.f11_dev.specs.Looked.{Looked}
use Rattle.f11_dev.specs.Went.{newest}
use Rattle.f11_volume.specs.home.Home.{HomeFields}
use Rattle.f11_volume.specs.Sound.{HasSoundVolume}
use Rattle.f11_volume.proofs.MemberLemmas.{at-place}
use Rattle.f11_volume.specs.chain.FileHeaders.{file_blocks}
use Rattle.f11_writes.specs.Lost.{KeepsLost, KeepsLostThroughout, NotedAreUsedInNoFile, OrphansAreUsedInNoFile, SparesLost, StayLost}
use Rattle.f11_index.specs.Table.{IsHeaderOf}
use Rattle.f11_index.proofs.ChainLemmas.{live_of-header}
use Rattle.f11_volume.specs.Volume.{IsCell}
use Rattle.f11_volume.specs.map.HeaderBlock.{blocks_named}
use Rattle.f11_writes.proofs.OwnerLemmas.{named-in, named-of}
use Rattle.f11_writes.specs.Order.{WritesInOrder}
use Rattle.f11_writes.proofs.InOrderLemmas.{each-sound, newest-append, order-looked, order-none, order-then}

-- a block that no header names is in no file
pub noted-lost : NotedAreUsedInNoFile
noted-lost v lbn sound lost = record {
  inside = lost.inside;
  used = lost.used;
  of_none = λ f file has.
      lost.unnamed (named-of v.table f lbn (named-in v sound f has.0 lbn file (at-place (file_blocks v.table f) lbn has)));
}

-- nor is one that a header of no file names
pub orphan-lost : OrphansAreUsedInNoFile
orphan-lost v n place lbn sound cell of_none = record {
  inside = sound.inside n place lbn cell;
  used = sound.taken n place lbn cell;
  of_none = λ f file has.
      let named = named-in v sound f has.0 lbn file (at-place (file_blocks v.table f) lbn has) in
      let other : IsCell v.table named.0 named.2.0 lbn =
      record { live = live_of-header named.1; names = at-place (blocks_named (v.table.header named.0)) lbn named.2 } in
      let same = (sound.apart n place named.0 named.2.0 lbn cell other).0 in
      of_none (record { file = f; of = subst (IsHeaderOf v.table f) (sym same) named.1 });
}

-- the last image keeps what each does
keeps-newest : (home : HomeFields) (old : Image) (since : List Image) → All (KeepsLost home old) since
    → KeepsLost home old (newest since old)
keeps-newest home old [] each = λ lbn lost. refl
keeps-newest home old (image ∷ earlier) each = each 0 image (omega arith)

pub made-last : (home : HomeFields) (old new : Disk) → KeepsLostThroughout home old new → KeepsLost home old.image new.image
made-last home old new made =
    subst (KeepsLost home old.image) (sym made.image) (keeps-newest home old.image made.since made.each)

-- blocks are lost still where the image is the same
stay-none : (home : HomeFields) (image : Image) → StayLost home image image
stay-none home image = record { in_no_file = λ lbn lost. lost; unnamed = λ lbn lost. lost }

pub stay-same : (home : HomeFields) (old new : Image) → new ≡ old → StayLost home old new
stay-same home old new same = subst (StayLost home old) (sym same) (stay-none home old)

-- and where they were twice
pub stay-then : (home : HomeFields) (a b c : Image) → StayLost home a b → StayLost home b c → StayLost home a c
stay-then home a b c one two = record {
  in_no_file = λ lbn lost. two.in_no_file lbn (one.in_no_file lbn lost);
  unnamed = λ lbn lost. two.unnamed lbn (one.unnamed lbn lost);
}

-- nothing was written
pub lost-looked : (failed fails : Bool) (old new : Disk) (most faults : ℕ) → (failed ≡ true → fails ≡ true) → Looked old new most faults
    → SparesLost failed fails old new
lost-looked failed fails old new most faults lasts looked = record {
  ordered = order-looked old new most faults looked;
  kept = λ honest home sound.
      record { since = []; history = looked.history; image = looked.image; each = All-nil (KeepsLost home old.image) };
  stay = λ alive honest home sound. stay-same home old.image new.image looked.image;
  spent = λ is. (lasts is, looked.image, looked.history);
}

pub lost-none : (failed : Bool) (disk : Disk) → SparesLost failed failed disk disk
lost-none failed disk = record {
  ordered = order-none disk;
  kept = λ honest home sound. record { since = []; history = refl; image = refl; each = All-nil (KeepsLost home disk.image) };
  stay = λ alive honest home sound. stay-none home disk.image;
  spent = λ is. (is, refl, refl);
}

-- the same is known of what stands for less
pub lost-as : (failed fails was is : Bool) (old new : Disk) → was ≡ false → (is ≡ false → fails ≡ false)
    → SparesLost failed fails old new → SparesLost was is old new
lost-as failed fails was is old new alive less one = record {
  ordered = one.ordered;
  kept = one.kept;
  stay = λ unfailed. one.stay (less unfailed);
  spent = λ spent. absurd (false≢true (sym alive ∙ spent));
}

-- what was sound before is sound behind
pub sound-behind : (a b : Disk) (home : HomeFields) → IsTrue a.honest → WritesInOrder a b → HasSoundVolume a.image home
    → IsTrue b.honest × HasSoundVolume b.image home
sound-behind a b home honest one sound =
    let made = one.ordered honest in (
      subst IsTrue (sym made.honest) honest,
      subst (λ (i : Image). HasSoundVolume i home) (sym made.image) (each-sound home a.image made.since sound (made.each home)),
    )

-- one call after another
pub lost-then : (failed between fails : Bool) (a b c : Disk) → SparesLost failed between a b → SparesLost between fails b c
    → SparesLost failed fails a c
lost-then failed true fails a b c one two =
    let idle = two.spent refl in
    record {
      ordered = order-then a b c one.ordered two.ordered;
      kept = λ honest home sound.
          let made = one.kept honest home sound in
          record { since = made.since; history = idle.2 ∙ made.history; image = idle.1 ∙ made.image; each = made.each };
      stay = λ alive honest home sound. absurd (false≢true (sym alive ∙ idle.0));
      spent = λ is. let was = one.spent is in (idle.0, idle.1 ∙ was.1, idle.2 ∙ was.2);
    }
lost-then failed false fails a b c one two = record {
  ordered = order-then a b c one.ordered two.ordered;
  kept = λ honest home sound.
      let then = sound-behind a b home honest one.ordered sound in
      let first = one.kept honest home sound in
      let second = two.kept then.0 home then.1 in
      record {
        since = second.since ++ first.since;
        history = second.history ∙ ap (λ (h : List Image). second.since ++ h) first.history
            ∙ sym (append_assoc second.since first.since a.history);
        image = second.image ∙ ap (newest second.since) first.image ∙ sym (newest-append second.since first.since a.image);
        each = All-append (KeepsLost home a.image) second.since first.since
            (λ k d within lbn lost. second.each k d within lbn ((one.stay refl honest home sound).in_no_file lbn lost)
            ∙ made-last home a b first lbn lost) first.each;
      };
  stay = λ alive honest home sound.
      let then = sound-behind a b home honest one.ordered sound in
      stay-then home a.image b.image c.image (one.stay refl honest home sound) (two.stay alive then.0 home then.1);
  spent = λ is. absurd (false≢true (one.spent is).0);
}
