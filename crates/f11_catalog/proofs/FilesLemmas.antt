-- All files, one after another, and that none is left out.
use Rattle.std.proofs.Common.{◌≡◌, ◌++◌, ◌+◌, ◌-◌, ◌||◌, ◌&&◌, ◌==◌, ℕ, Bool, true, false, IsTrue, List, ◌∷◌, Some}
use Rattle.std.proofs.Common.{None}
use Rattle.std.proofs.Common.{refl, sym, ap, subst, ◌∙◌, inl, inr, arith, Option, IfSome}
use Rattle.std.proofs.Math.Bool.{or-true}
use Rattle.std.proofs.lemmas.Bool.{cases_Bool, eq-eqb}
use Rattle.std.proofs.lemmas.List.Folds.{list_any-append}
use Rattle.std.specs.Cmp.Derive.{both_true}
use Rattle.std.specs.List.{flat_map}
use Rattle.std.specs.Prelude.{Result, Ok, Err, IfOk, IfNone, OnErr}
use Rattle.f11_chain.specs.Calls.{table}
use Rattle.f11_dev.specs.Disk.{Disk}
use Rattle.f11_dev.specs.Image.{Image}
use Rattle.f11_dev.specs.declared.device.DeviceFault.{DeviceFault}
use Rattle.f11_image_store.specs.StoreOf.{is_first}
use Rattle.f11_index.specs.IndexFile.{Index}
use Rattle.f11_index.specs.Table.{Table, table_in}
use Rattle.f11_store.specs.declared.files.FileId.{FileId}
use Rattle.f11_volume.specs.Notes.{IsIdOf}
use Rattle.f11_catalog.specs.AllFiles.{HasAllLed, HasOnlyLed, all_files, entered_files, id_of, is_among, lost_files, place_lost, places_in}
use Rattle.f11_catalog.specs.Contents.{Holds, is_file}
use Rattle.f11_catalog.specs.GoingOver.{OpensMaster, directories_to_come}
use Rattle.f11_catalog.specs.Records.{Reads, is_id_of_file}
use Rattle.f11_catalog.specs.Steps.{IsNew, is_met}
use Rattle.f11_catalog.specs.Walking.{BeginsEntered, BeginsWalk, EntersFile, EntersNoMore, FindsAllLed, FindsNoOther, FindsOther, GivesFile}
use Rattle.f11_catalog.specs.Walking.{HasNoFile, HoldsAt}
use Rattle.f11_catalog.specs.Walking.{entered_to_come, files_left, files_to_come, hand_to_come, is_known, one_if, others_to_come}
use Rattle.f11_catalog.specs.declared.walk.content.Content.{Content}
use Rattle.f11_catalog.specs.declared.walk.content.Content.TheVariants.{File, Missing, OutOfUse}
use Rattle.f11_catalog.specs.declared.walk.place.FileAt.{FileAt}
use Rattle.f11_catalog.specs.declared.walk.place.Place.{Place}
use Rattle.f11_catalog.specs.declared.walk.state.AllFiles.{AllFiles}
use Rattle.f11_catalog.specs.declared.walk.state.Numbers.{Numbers}
use Rattle.f11_catalog.specs.declared.walk.state.EnteredFiles.{EnteredFiles}
use Rattle.f11_catalog.specs.declared.walk.state.OpenDirectory.{OpenDirectory}
use Rattle.f11_catalog.proofs.ComingLemmas.{id-passes}
use Rattle.f11_catalog.proofs.EnteredLemmas.{entered-later, hand-on, master-on}
use Rattle.f11_catalog.proofs.GoingLemmas.{all-to-come}
use Rattle.f11_catalog.proofs.ListingLemmas.{reads-then}
use Rattle.f11_catalog.proofs.LostLemmas.{lost-if}
use Rattle.f11_catalog.proofs.ScanLemmas.{among-numbers}
use Rattle.f11_catalog.proofs.SlotLemmas.{own-id, slot-of}
use Rattle.f11_catalog.proofs.TurnLemmas.{turn-begin, turn-behind, turn-first}
use Rattle.f11_catalog.proofs.WalkLemmas.{at-reads, holds-behind, id-fails, opens-holds}

-- file n stands in a place
abbrev stands_in : Table → Place → ℕ → Bool
stands_in t place n = is_id_of_file t (id_of place) && ((id_of place).number == n)

-- what was found under an identification is a file where the identification is one of a file
file-is : (index wide : Index) (id : FileId) (content : Content) (old new : Disk) → Holds index wide id content old new
    → IsTrue old.honest → is_file content ≡ is_id_of_file (table index old) id
file-is index wide id (File file) old new holds honest =
    let t : Table = table index old in
    let same : table index holds.mid ≡ t = ap (λ (i : Image). table_in i index) holds.before.1.image in
    let is : IsIdOf (table index holds.mid) id file.number = holds.opens.is_id (holds.before.1.honest ∙ honest) in
    sym (id-passes t id file.number (subst (λ (t : Table). IsIdOf t id file.number) same is))
file-is index wide id (OutOfUse file) old new holds honest = sym (id-fails (table index old) id (holds.none honest))
file-is index wide id (Missing absence) old new holds honest = sym (id-fails (table index old) id (holds.none honest))

at-is : (index wide : Index) (found : FileAt) (old new : Disk) → HoldsAt index wide found old new → IsTrue old.honest
    → is_file found.content ≡ is_id_of_file (table index old) (id_of found.place)
at-is index wide found old new holds honest =
    file-is index wide (id_of found.place) found.content holds.mid new holds.holds (holds.before.1.honest ∙ honest)
    ∙ ap (λ (i : Image). is_id_of_file (table_in i index) (id_of found.place)) holds.before.1.image

-- The next one is in a directory.
module _ (index wide : Index) (files later : AllFiles) (found : FileAt) (old new : Disk) where
  pub gives-entered : EntersFile index wide files.entered later.entered found old new
      → ((n : ℕ) → is_met later.others n
      ≡ (is_met files.others n || (is_file found.content && ((id_of found.place).number == n))))
      → later.others.next ≡ files.others.next → GivesFile index wide files later found old new
  unfolding files_to_come files_left
  gives-entered enters met next = record {
    next = λ honest.
        let t : Table = table index old in
        turn-first (stands_in t) (λ f. others_to_come t f files.others) (is_met files.others) (is_met later.others) found.place
        (entered_to_come index wide old files.entered) (entered_to_come index wide old later.entered) (enters.next honest)
        (λ n. met n ∙ ap (λ (b : Bool). is_met files.others n || (b && ((id_of found.place).number == n)))
        (at-is index wide found old new enters.holds honest))
        ∙ ap (λ (k : ℕ). found.place ∷ (entered_to_come index wide old later.entered
        ++ lost_files t (is_known index wide old later) k (t.slots + 1 - k))) (sym next);
    fewer = omega (arith, enters.fewer, next);
    holds = enters.holds;
  }

-- No more are.
module _ (index wide : Index) (files : AllFiles) (left : EnteredFiles) (old mid new : Disk)
    (ended : EntersNoMore index wide files.entered left old mid) where
  first-others : IsTrue old.honest
      → files_to_come index wide old files ≡ others_to_come (table index old) (is_met files.others) files.others
  unfolding files_to_come
  first-others honest =
      turn-behind (stands_in (table index old)) (λ f. others_to_come (table index old) f files.others) (is_met files.others)
      (entered_to_come index wide old files.entered) (ended.none honest)

  later-others : (others : Numbers) → IsTrue old.honest → files_to_come index wide old (record { entered = left; others = others })
      ≡ others_to_come (table index old) (is_met others) others
  unfolding files_to_come
  later-others others honest =
      turn-behind (stands_in (table index old)) (λ f. others_to_come (table index old) f others) (is_met others)
      (entered_to_come index wide old left) (ended.ended honest)

  same : table index mid ≡ table index old
  same = ap (λ (i : Image). table_in i index) ended.reads.1.image

  -- the next file is another
  pub gives-other : (others : Numbers) (found : FileAt)
      → FindsOther (is_met files.others) index files.others others found mid new → is_met others ≡ is_met files.others
      → GivesFile index wide files (record { entered = left; others = others }) found old new
  unfolding files_left
  gives-other others found finds met = record {
    next = λ honest.
        let known : ℕ → Bool = is_met files.others in
        first-others honest
        ∙ ap (λ t. others_to_come t known files.others) (sym same)
        ∙ finds.next (ended.reads.1.honest ∙ honest)
        ∙ ap (λ t. found.place ∷ others_to_come t known others) same
        ∙ ap (λ f. found.place ∷ others_to_come (table index old) f others) (sym met)
        ∙ ap (λ ps. found.place ∷ ps) (sym (later-others others honest));
    fewer = omega (arith, ended.no_more, finds.forward, others.few);
    holds = holds-behind index wide found old mid new ended.reads (opens-holds index wide found mid new finds.opens);
  }

  -- or none is left
  pub no-file : (others : Numbers) → FindsNoOther (is_met files.others) index files.others others mid new
      → is_met others ≡ is_met files.others → HasNoFile index wide files (record { entered = left; others = others }) old new
  no-file others none met = record {
    none = λ honest.
        first-others honest
        ∙ ap (λ t. others_to_come t (is_met files.others) files.others) (sym same)
        ∙ none.none (ended.reads.1.honest ∙ honest);
    ended = λ honest.
        later-others others honest
        ∙ ap (λ f. others_to_come (table index old) f others) met
        ∙ ap (λ t. others_to_come t (is_met files.others) others) (sym same)
        ∙ none.ended (ended.reads.1.honest ∙ honest);
    reads = reads-then ended.reads none.reads;
  }

-- the same files are to come where the image is the same
pub files-later : (index wide : Index) (files : AllFiles) (old now : Disk) → now.image ≡ old.image
    → files_to_come index wide now files ≡ files_to_come index wide old files
unfolding files_to_come
files-later index wide files old now image =
    ap (λ ps. ps ++ others_to_come (table index now) (λ n. is_met files.others n || is_among (table index now) ps n) files.others)
    (entered-later index wide old now image files.entered)
    ∙ ap (λ (i : Image). entered_to_come index wide old files.entered ++ others_to_come (table_in i index)
    (λ n. is_met files.others n || is_among (table_in i index) (entered_to_come index wide old files.entered) n) files.others)
    image

-- what was read for the next file, found or not
pub next-reads : (index wide : Index) (files later : AllFiles) (old new : Disk) (result : Result (Option FileAt) DeviceFault)
    → IfOk result (λ answer. IfSome answer (λ found. GivesFile index wide files later found old new))
    → IfOk result (λ answer. IfNone answer (HasNoFile index wide files later old new)) → OnErr result (Reads old new 1)
    → (faults : ℕ) × Reads old new faults
next-reads index wide files later old new (Ok (Some found)) gives none fails = (0, at-reads index wide found old new gives.holds)
next-reads index wide files later old new (Ok None) gives none fails = (0, none.reads)
next-reads index wide files later old new (Err fault) gives none fails = (1, fails)

-- it was begun with what directories name
pub begins-entered : (index wide : Index) (id : FileId) (files : EnteredFiles) (old new : Disk)
    → OpensMaster index wide id files.directories.master old new → files.hand ≡ None → IsNew files.directories.others
    → files.directories.led.next ≡ 1 → BeginsEntered index wide id (is_met files.directories.led) files old new
begins-entered index wide id files old new opens empty others first = record {
  walking = (rw empty tt, opens.reading);
  all = λ honest.
      let t : Table = table index old in
      ap (λ (h : Option OpenDirectory). hand_to_come index wide old h
      ++ flat_map (places_in wide old.image t) (directories_to_come index wide old files.directories)) empty
      ∙ ap (flat_map (places_in wide old.image t)) (all-to-come index wide id files.directories old new opens others first honest);
  reads = (_, opens.looked);
}

-- a walk begins
pub begins-walk : (index wide : Index) (id : FileId) (files : AllFiles) (failed : Bool) (old mid new : Disk)
    → BeginsEntered index wide id (is_met files.entered.directories.led) files.entered old mid
    → FindsAllLed index wide id files.entered.directories.led failed mid new → IsNew files.others
    → BeginsWalk index wide id files failed old new
unfolding files_to_come
begins-walk index wide id files failed old mid new begins finds others = record {
  walking = (
    hand-on index wide files.entered.hand mid new (one_if failed) finds.reads begins.walking.0,
    master-on index wide files.entered.directories.master mid new (one_if failed) finds.reads begins.walking.1,
  );
  led = led;
  only = λ honest.
      subst (λ (i : Image). HasOnlyLed wide i (table_in i index) id led) begins.reads.1.image
      (finds.only (begins.reads.1.honest ∙ honest));
  whole = λ well honest.
      subst (λ (i : Image). HasAllLed wide i (table_in i index) id led) begins.reads.1.image
      (finds.whole well (begins.reads.1.honest ∙ honest));
  all = λ honest.
      let t : Table = table index old in
      let all : List Place = entered_files wide old.image t id led in
      let entered : entered_to_come index wide old files.entered ≡ all = begins.all honest in
      let count : t.slots + 1 - 1 ≡ t.slots = omega arith in
      turn-begin (stands_in t) (λ f. others_to_come t f files.others) (is_met files.others) (entered_to_come index wide old files.entered)
      all
      entered others.none
      ∙ ap (λ (k : ℕ). all ++ lost_files t (is_among t all) k (t.slots + 1 - k)) others.first
      ∙ ap (λ (c : ℕ). all ++ lost_files t (is_among t all) 1 c) count;
  reads = reads-then begins.reads finds.reads;
}
  where
    led : ℕ → Bool
    led = is_met files.entered.directories.led

-- no file is left out
pub none-left-out : (wide : Index) (image : Image) (index : Index) (master : FileId) (led : ℕ → Bool) (n : ℕ)
    → is_first (table_in image index) n ≡ true
    → is_among (table_in image index) (all_files wide image (table_in image index) master led) n ≡ true
none-left-out wide image index master led n is =
    let t : Table = table_in image index in
    let entered : List Place = entered_files wide image t master led in
    list_any-append (λ p. is_id_of_file t (id_of p) && ((id_of p).number == n)) entered (lost_files t (is_among t entered) 1 t.slots)
    ∙ elim (cases_Bool (is_among t entered n)) [
      | inl met ↦ ap (λ b. b || is_among t (lost_files t (is_among t entered) 1 t.slots) n) met
      | inr unmet ↦
          let slot = slot-of image index n is in
          ap (λ b. is_among t entered n || b)
          (among-numbers (λ p. stands_in t p n) (place_lost t (is_among t entered)) n
          (ap (λ ps. is_among t ps n) (lost-if t (is_among t entered) n true false is unmet)
          ∙ ap (λ b. b || false) (both_true (own-id t n is) (eq-eqb n n refl))) t.slots 1 slot.0 slot.1)
          ∙ or-true (is_among t entered n)
    ]
