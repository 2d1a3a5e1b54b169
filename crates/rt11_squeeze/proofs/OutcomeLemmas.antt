-- What became of a file that was to be brought to a lower block.
use Rattle.std.proofs.Common.{◌∷◌, [], ◌<◌, arith, slice_index_or, ltb-true, ◌≡◌, ◌≢◌, ◌⊎◌, inl, inr, ℕ, Bool, true, false, not}
use Rattle.std.proofs.Common.{if◌then◌else◌, nat_lt, List, Option, Some, None}
use Rattle.std.proofs.Common.{Result, Ok, Err, refl, sym, ◌∙◌, ap, subst}
use Rattle.std.specs.Prelude.{IfErr, IfOk}
use Rattle.std.specs.List.{list_any}
use Rattle.f11_dev.specs.Disk.{Disk}
use Rattle.f11_dev.specs.Image.{Image}
use Rattle.f11_dev.specs.Looked.{Looked}
use Rattle.f11_dev.specs.declared.device.Device.{Ghosts}
use Rattle.f11_dev.proofs.WentLemmas.{went_looked}
use Rattle.rt11_volume.specs.Files.{faults_in, is_device_fault}
use Rattle.rt11_volume.proofs.Named.Laws.{file-first}
use Rattle.rt11_volume.specs.Store.{Area, RtStore, rt_store_of}
use Rattle.rt11_volume.specs.Verifying.Verdict.{IsSoundDisk}
use Rattle.rt11_volume.specs.declared.area.RtArea.{RtArea}
use Rattle.rt11_volume.specs.declared.refusal.RtRefusal.{RtRefusal}
use Rattle.rt11_volume.specs.declared.volume.RtAccepted.{RtAccepted}
use Rattle.rt11_volume.specs.Named.{files_named}
use Rattle.rt11_squeeze.specs.Kept.{HasSameFiles, volume_disk, volume_store}
use Rattle.rt11_squeeze.specs.Squeezing.{BeginsAt, BeginsBelow, BeginsNoLower, EndsEarly, IsMovedBy, IsMovedNoLower, IsMovedThere}
use Rattle.rt11_squeeze.specs.Squeezing.{IsMovedTwice, IsNoneOf, IsTold, KeepsAllFiles}
use Rattle.rt11_squeeze.specs.Squeezing.{OnSound, Preserves, SqueezesOne, TellsPlace, TriesBy, way_by, way_through}
use Rattle.rt11_squeeze.specs.Rooms.{areas_listed, is_gap_at, is_gap_before, room_in}
use Rattle.rt11_squeeze.specs.declared.moving.FileToMove.{FileToMove}
use Rattle.rt11_squeeze.specs.declared.outcome.Squeezed.{Squeezed}
use Rattle.rt11_squeeze.specs.declared.outcome.Squeezed.TheVariants.{InPlace, Moved, Refused}
use Rattle.rt11_squeeze.specs.declared.way.Way.{Way}
use Rattle.rt11_squeeze.specs.declared.way.Way.TheVariants as way
use Rattle.rt11_squeeze.proofs.BlockLemmas.{sound-looked}
use Rattle.rt11_squeeze.proofs.MoveLemmas.{copied-behind, copied-then}
use Rattle.rt11_squeeze.proofs.SqueezeLemmas.{told-alone, told-still}

-- a way through is none by which a file stays
through-moves : (room : Option ℕ) (adjoins : Bool) (start : ℕ) → way_through room adjoins start ≢ way.Stay
through-moves None adjoins start is = absurd (cc)
through-moves (Some room) adjoins start is = by (nat_lt room start) adjoins is
  where
    by : (b c : Bool) → (if b then way.Once else if c then way.Twice else way.Barred) ≡ way.Stay → ⊥
    by true c is = absurd (cc)
    by false true is = absurd (cc)
    by false false is = absurd (cc)

-- where a file stays no empty area lies before it, and else one does
module _ (areas : List RtArea) (start blocks : ℕ) where
  abbrev through : Way
  through = way_through (room_in areas blocks) (list_any (is_gap_at start) areas) start

  pub stays-without : way_by areas start blocks ≡ way.Stay → list_any (is_gap_before start) areas ≡ false
  stays-without = by (list_any (is_gap_before start) areas)
    where
      by : (b : Bool) → (if not b then way.Stay else through) ≡ way.Stay → b ≡ false
      by true is = absurd (through-moves (room_in areas blocks)
          (list_any (is_gap_at start) areas) start is)
      by false is = refl

  pub moves-past : way_by areas start blocks ≢ way.Stay → list_any (is_gap_before start) areas ≡ true
  moves-past = by (list_any (is_gap_before start) areas)
    where
      by : (b : Bool) → (if not b then way.Stay else through) ≢ way.Stay → b ≡ true
      by true moves = refl
      by false moves = absurd (moves refl)

-- one that moves is another
pub moving-way : (w : Way) → (w ≡ way.Once) ⊎ (w ≡ way.Twice) → w ≢ way.Stay
moving-way w (inl is) stays = let clash : way.Once ≡ way.Stay = sym is ∙ stays in absurd (cc)
moving-way w (inr is) stays = let clash : way.Twice ≡ way.Stay = sym is ∙ stays in absurd (cc)

-- a disk that was looked at is sound, and the file as it was told
pub told-looked : {a b : Disk} {most faults : ℕ} (told : FileToMove) → Looked a b most faults
    → OnSound (IsTold told) a (IsSoundDisk b × IsTold told (rt_store_of b.image))
told-looked told looked s is = (sound-looked looked s, subst (λ (i : Image). IsTold told (rt_store_of i)) (sym looked.image) is)

-- what was kept since a disk that was looked at
kept-behind : {a b c : Disk} {most faults : ℕ} (files : List FileToMove) → Looked a b most faults → KeepsAllFiles files b c
    → KeepsAllFiles files a c
kept-behind {c = c} files looked k = record {
  sound = k.sound;
  same = subst (λ (i : Image). HasSameFiles (rt_store_of i) (rt_store_of c.image)) looked.image k.same;
  places = subst (λ (i : Image). (name : List ℕ) → IsNoneOf files name
      → files_named name (rt_store_of c.image) ≡ files_named name (rt_store_of i)) looked.image k.places;
}

-- a file that was moved between looks
there-between : {a b c d : Disk} {m n f g : ℕ} (told : FileToMove) → Looked a b m f → IsMovedThere told b c → Looked c d n g
    → IsMovedThere told a d
there-between told before t behind = record {
  copied =
      copied-then (λ image. Unit) told.name told.scratch (copied-behind told.name told.scratch before t.copied)
      (went_looked (λ image. Unit) behind);
  file = t.file;
  is = ap (λ (i : Image). files_named told.name (rt_store_of i)) behind.image ∙ t.is;
  place = ap (λ (i : Image). room_in (areas_listed (rt_store_of i)) told.blocks) (sym before.image) ∙ t.place;
}

-- one that was moved twice
twice-between : {a b c d : Disk} {m n f g : ℕ} (told : FileToMove) → Looked a b m f → IsMovedTwice told b c → Looked c d n g
    → IsMovedTwice told a d
twice-between told before t behind = record {
  middle = t.middle;
  before = t.before;
  stood = t.stood;
  first = record {
    copied = copied-behind told.name told.scratch before t.first.copied;
    file = t.first.file;
    is = t.first.is;
    place = ap (λ (i : Image). room_in (areas_listed (rt_store_of i)) told.blocks) (sym before.image) ∙ t.first.place;
  };
  kept = kept-behind (told ∷ []) before t.kept;
  second = record {
    copied = copied-then (λ image. Unit) told.name told.scratch t.second.copied (went_looked (λ image. Unit) behind);
    file = t.second.file;
    is = ap (λ (i : Image). files_named told.name (rt_store_of i)) behind.image ∙ t.second.is;
    place = t.second.place;
  };
}

-- one that was moved in either way
way-between : {a b c d : Disk} {m n f g : ℕ} (told : FileToMove) → Looked a b m f → (w : Way) → (w ≡ way.Once) ⊎ (w ≡ way.Twice)
    → IsMovedBy w told b c → Looked c d n g → IsMovedBy w told a d
way-between {a = a} {b = b} {c = c} {d = d} told before w (inl once) moved behind =
    subst (λ (v : Way). IsMovedBy v told a d) (sym once)
    (there-between told before (subst (λ (v : Way). IsMovedBy v told b c) once moved) behind)
way-between {a = a} {b = b} {c = c} {d = d} told before w (inr twice) moved behind =
    subst (λ (v : Way). IsMovedBy v told a d) (sym twice)
    (twice-between told before (subst (λ (v : Way). IsMovedBy v told b c) twice moved) behind)

-- where one move is the way, the first room lies before the file
room-before : (areas : List RtArea) (start blocks room : ℕ) → way_by areas start blocks ≡ way.Once → room_in areas blocks ≡ Some room
    → room < start
room-before areas start blocks room once first = by (list_any (is_gap_before start) areas) once
  where
    lower : (c adjoins : Bool) → nat_lt room start ≡ c → (if c then way.Once else if adjoins then way.Twice else way.Barred) ≡ way.Once
        → room < start
    lower true adjoins is way_is = ltb-true room start is
    lower false true is way_is = absurd (cc)
    lower false false is way_is = absurd (cc)

    by : (b : Bool)
        → (if not b then way.Stay else way_through (room_in areas blocks) (list_any (is_gap_at start) areas) start) ≡ way.Once
        → room < start
    by true is =
        lower (nat_lt room start) (list_any (is_gap_at start) areas) refl
        (ap (λ (o : Option ℕ). way_through o (list_any (is_gap_at start) areas) start) (sym first) ∙ is)
    by false is = absurd (cc)

-- a file that is the only one of its name begins where that says
begins-there : (name : List ℕ) (store : RtStore) (file : Area) (from : ℕ) → files_named name store ≡ file ∷ []
    → (at : BeginsNoLower name from store) → at.to ≡ file.start
begins-there name store file from one at =
    let first = file-first name store at.begins.is.file in
    at.begins.is.start_is ∙ ap (λ (l : List Area). (slice_index_or l 0 file).start) (sym first.named ∙ one)

-- so one that was moved once lies lower
once-lower : {a b c : Disk} {m f : ℕ} (told : FileToMove) (from : ℕ) → Looked a b m f → IsMovedThere told b c
    → way_by (areas_listed (rt_store_of a.image)) from told.blocks ≡ way.Once → BeginsNoLower told.name from (rt_store_of c.image) → ⊥
once-lower {a = a} {c = c} told from look there once at =
    let room : room_in (areas_listed (rt_store_of a.image)) told.blocks ≡ Some there.file.start =
    ap (λ (i : Image). room_in (areas_listed (rt_store_of i)) told.blocks) (sym look.image) ∙ there.place in
    let lower = room-before (areas_listed (rt_store_of a.image)) from told.blocks there.file.start once room in
    let to = begins-there told.name (rt_store_of c.image) there.file from there.is at in
    omega (arith, lower, to, at.no_lower)

module _ {D : Type 0} {met : Ghosts D} (disk : D → Disk) (told : FileToMove) where
  -- a volume is sound behind calls that preserve it, and the file as it was told
  pub told-behind : {T : Type 0} (most : ℕ) (result : Result T RtRefusal) (old new : RtAccepted D met) → is_device_fault result ≡ false
      → Preserves (told ∷ []) disk most result old new
      → OnSound (IsTold told) (volume_disk disk old) (IsSoundDisk (volume_disk disk new) × IsTold told (volume_store disk new))
  told-behind most result old new none p s is =
      let k = p.kept none s (told-alone told (volume_store disk old) is) in
      (k.sound, told-still told (volume_store disk old) (volume_store disk new) is k.same)

  -- what ends early behind them
  pub early-behind : {T U : Type 0} (most : ℕ) (first : Result T RtRefusal) (result : Result U RtRefusal) (old middle : RtAccepted D met)
      → is_device_fault first ≡ false → Preserves (told ∷ []) disk most first old middle
      → IfErr result (λ e. OnSound (IsTold told) (volume_disk disk middle) (EndsEarly e))
      → IfErr result (λ e. OnSound (IsTold told) (volume_disk disk old) (EndsEarly e))
  early-behind most first (Ok x) old middle none p early = tt
  early-behind most first (Err e) old middle none p early = λ s is.
      let t = told-behind most first old middle none p s is in early t.0 t.1

  -- what is told of a file that was moved
  pub squeezes-moved : (most n : ℕ) (from : ℕ) (w : Way) (first : Result (Option RtRefusal) RtRefusal) (result : Result Squeezed RtRefusal)
      (old looked moved new : RtAccepted D met)
      → (IsSoundDisk (volume_disk disk old) → BeginsAt told.name from (volume_store disk old))
      → (IsSoundDisk (volume_disk disk old) → list_any (is_gap_before from) (areas_listed (volume_store disk old)) ≡ true)
      → (w ≡ way.Once) ⊎ (w ≡ way.Twice)
      → (IsSoundDisk (volume_disk disk old) → w ≡ way_by (areas_listed (volume_store disk old)) from told.blocks)
      → Looked (volume_disk disk old) (volume_disk disk looked) 124 0 → first ≡ Ok None
      → OnSound (IsTold told) (volume_disk disk looked) (TriesBy w told first (volume_disk disk looked) (volume_disk disk moved))
      → Preserves (told ∷ []) disk n first old moved
      → Looked (volume_disk disk moved) (volume_disk disk new) 62 (faults_in result)
      → IfOk result (λ outcome. TellsPlace outcome told.name from (volume_disk disk moved))
      → Preserves (told ∷ []) disk most result old new
      → IfOk result (λ outcome. OnSound (IsTold told) (volume_disk disk old)
      (SqueezesOne told outcome (volume_disk disk old) (volume_disk disk new)))
  squeezes-moved most n from w first (Err e) old looked moved new begins gap moving way_is look moves tries one judged tells p = tt
  squeezes-moved most n from w first (Ok InPlace) old looked moved new begins gap moving way_is look moves tries one judged tells p =
      absurd tells
  squeezes-moved most n from w first (Ok Moved) old looked moved new begins gap moving way_is look moves tries one judged tells p = λ s is.
      let t = told-looked told look s is in
      let so : IsMovedBy w told (volume_disk disk looked) (volume_disk disk moved) =
      subst (λ (r : Result (Option RtRefusal) RtRefusal). TriesBy w told r (volume_disk disk looked) (volume_disk disk moved)) moves
      (tries t.0 t.1) in
      record {
        from = from;
        begins = begins s;
        became = (
          subst (λ (i : Image). BeginsBelow told.name from (rt_store_of i)) (sym judged.image)
              (tells (told-behind n first old moved (ap is_device_fault moves) one s is).0),
          subst (λ (v : Way). IsMovedBy v told (volume_disk disk old) (volume_disk disk new)) (way_is s)
              (way-between told look w moving so judged),
        );
        kept = p.kept refl s (told-alone told (volume_store disk old) is);
      }
  squeezes-moved most n from w first (Ok (Refused e)) old looked moved new begins gap moving way_is look moves tries one judged tells p =
      λ s is.
      let t = told-looked told look s is in
      let at = tells.1 (told-behind n first old moved (ap is_device_fault moves) one s is).0 in
      let so : IsMovedBy w told (volume_disk disk looked) (volume_disk disk moved) =
      subst (λ (r : Result (Option RtRefusal) RtRefusal). TriesBy w told r (volume_disk disk looked) (volume_disk disk moved)) moves
      (tries t.0 t.1) in
      record {
        from = from;
        begins = begins s;
        became = record { gap = gap s; why = inr (inr (by moving so (way_is s) at)) };
        kept = p.kept refl s (told-alone told (volume_store disk old) is);
      }
    where
      by : (w ≡ way.Once) ⊎ (w ≡ way.Twice) → IsMovedBy w told (volume_disk disk looked) (volume_disk disk moved)
          → w ≡ way_by (areas_listed (volume_store disk old)) from told.blocks
          → BeginsNoLower told.name from (volume_store disk moved)
          → IsMovedNoLower told from e (volume_disk disk old) (volume_disk disk new)
      by (inl once) so is at =
          absurd (once-lower told from look
          (subst (λ (v : Way). IsMovedBy v told (volume_disk disk looked) (volume_disk disk moved)) once so) (sym is ∙ once) at)
      by (inr twice) so is at = record {
        e_is = tells.0;
        twice = sym is ∙ twice;
        moved = twice-between told look
            (subst (λ (v : Way). IsMovedBy v told (volume_disk disk looked) (volume_disk disk moved)) twice so) judged;
        place = subst (λ (i : Image). BeginsNoLower told.name from (rt_store_of i)) (sym judged.image) at;
      }
