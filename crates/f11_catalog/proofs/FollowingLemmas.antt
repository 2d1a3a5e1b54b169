-- To which directories others lead whose slots aren't in use.
use Rattle.std.proofs.Common.{◌≡◌, ◌||◌, ◌&&◌, ◌==◌, not, ℕ, Bool, true, false, IsTrue, List, [], ◌∷◌}
use Rattle.std.proofs.Common.{cond, refl, sym, ap, subst, ◌∙◌, inl, inr}
use Rattle.std.proofs.Math.Bool.{or-false, or-true, or_assoc}
use Rattle.std.proofs.lemmas.Bool.{cases_Bool}
use Rattle.std.proofs.lemmas.List.Concat.{flat_map-cons}
use Rattle.std.proofs.lemmas.List.Folds.{list_any-append}
use Rattle.std.specs.List.{flat_map, list_any, range_with_len}
use Rattle.f11_chain.specs.Calls.{table}
use Rattle.f11_dev.specs.Disk.{Disk}
use Rattle.f11_dev.specs.Image.{Image}
use Rattle.f11_index.specs.IndexFile.{Index}
use Rattle.f11_index.specs.Table.{Table, table_in}
use Rattle.f11_store.specs.declared.files.FileId.{FileId}
use Rattle.f11_volume.specs.Notes.{IsIdOf}
use Rattle.f11_catalog.specs.AllDirectories.{DirectoryAt, all_directories, led_directories, led_directory, named_directories}
use Rattle.f11_catalog.specs.AllDirectories.{other_directories}
use Rattle.f11_catalog.specs.AllDirectories.{is_named, own_directories, unused_directory}
use Rattle.f11_catalog.specs.AllFiles.{HasOnlyLed, entered_files, id_of, is_led, is_led_by, is_unused, leads_to, places_in}
use Rattle.f11_catalog.specs.Contents.{Holds, is_unused_directory}
use Rattle.f11_catalog.specs.Facts.{is_directory_header}
use Rattle.f11_catalog.specs.Lines.{names_directory}
use Rattle.f11_catalog.specs.Records.{Reads, file_unused}
use Rattle.f11_catalog.specs.Steps.{IsNew, is_met}
use Rattle.f11_catalog.specs.Walking.{BeginsEntered, EntersFile, EntersNoMore, FindsAllLed, FollowsAll, FollowsEntered, FollowsPart}
use Rattle.f11_catalog.specs.Walking.{FailsToBegin, HoldsAt, IsWalkingDirectories, entered_to_come, one_if}
use Rattle.f11_catalog.specs.declared.fault.WalkFault.TheVariants.{DeviceFault}
use Rattle.f11_catalog.specs.declared.walk.content.Content.{Content}
use Rattle.f11_catalog.specs.declared.walk.content.Content.TheVariants.{File, Missing, OutOfUse}
use Rattle.f11_catalog.specs.declared.walk.place.FileAt.{FileAt}
use Rattle.f11_catalog.specs.declared.walk.place.Place.{Place}
use Rattle.f11_catalog.specs.declared.walk.state.EnteredFiles.{EnteredFiles}
use Rattle.f11_catalog.specs.declared.walk.state.Numbers.{Numbers}
use Rattle.f11_catalog.proofs.ComingLemmas.{id-passes, named-none, named-some}
use Rattle.f11_catalog.proofs.EnteredLemmas.{entered-later}
use Rattle.f11_catalog.proofs.LedLemmas.{unused-is, unused-none}
use Rattle.f11_catalog.proofs.ListingLemmas.{reads-none, reads-then, said-later}
use Rattle.f11_catalog.proofs.OpenLemmas.{header-is-directory}
use Rattle.f11_catalog.proofs.WalkLemmas.{at-reads, holds-reads, id-fails}

-- what was found under an identification is a directory whose slot isn't in use where the identification is one of such
unused-found : (index wide : Index) (id : FileId) (content : Content) (old new : Disk) → Holds index wide id content old new
    → IsTrue old.honest → is_unused_directory content ≡ names_directory (file_unused wide old.image (table index old) id)
unused-found index wide id (File file) old new holds honest =
    let t : Table = table index old in
    let is : IsIdOf t id file.number =
    subst (λ (i : Image). IsIdOf (table_in i index) id file.number) holds.before.1.image
    (holds.opens.is_id (holds.before.1.honest ∙ honest)) in
    sym (ap names_directory (unused-none wide old.image t id (id-passes t id file.number is)))
unused-found index wide id (OutOfUse file) old new holds honest =
    let opens = holds.opens.opens in
    let mid : Disk = holds.opens.mid in
    let image : mid.image ≡ old.image = holds.opens.before.1.image in
    let honest' : IsTrue mid.honest = holds.opens.before.1.honest ∙ honest in
    let u : Table = table wide old in
    let is : IsIdOf u id file.number = subst (λ (i : Image). IsIdOf (table_in i wide) id file.number) image (opens.is_id honest') in
    sym (ap names_directory (unused-is wide old.image (table index old) id (id-fails (table index old) id (holds.none honest))
    ∙ named-some old.image u id file.number is)
    ∙ header-is-directory old.image u file.number
    ∙ sym (ap is_directory_header (opens.header_is honest' ∙ ap (λ (i : Image). (table_in i wide).header file.number) image)))
unused-found index wide id (Missing absence) old new holds honest =
    sym (ap names_directory (unused-is wide old.image (table index old) id (id-fails (table index old) id (holds.none honest))
    ∙ named-none old.image (table wide old) id (holds.none_else honest)))

-- so a place leads to the number that it has
pub leads-found : (index wide : Index) (found : FileAt) (old new : Disk) → HoldsAt index wide found old new → IsTrue old.honest → (n : ℕ)
    → (is_unused_directory found.content && ((id_of found.place).number == n)) ≡ leads_to wide old.image (table index old) n found.place
leads-found index wide found old new holds honest n =
    ap (λ (b : Bool). b && ((id_of found.place).number == n))
    (unused-found index wide (id_of found.place) found.content holds.mid new holds.holds (holds.before.1.honest ∙ honest)
    ∙ ap (λ (i : Image). names_directory (file_unused wide i (table_in i index) (id_of found.place))) holds.before.1.image)

-- Some places were gone over: the numbers are met to which they lead.
pub record Followed (index wide : Index) (first here : EnteredFiles) (seen now-seen : Numbers) (old now : Disk) : Type 0 where
  pub walking : IsWalkingDirectories index wide here now
  pub met : IsTrue old.honest → (n : ℕ) → (is_met now-seen n
      || list_any (leads_to wide old.image (table index old) n) (entered_to_come index wide old here))
      ≡ (is_met seen n || list_any (leads_to wide old.image (table index old) n) (entered_to_come index wide old first))
  pub reads : Reads old now 0

module _ (index wide : Index) where
  pub followed-none : (first : EnteredFiles) (seen : Numbers) (disk : Disk) → IsWalkingDirectories index wide first disk
      → Followed index wide first first seen seen disk disk
  followed-none first seen disk walking = record { walking = walking; met = λ honest n. refl; reads = reads-none disk }

  module _ (first here : EnteredFiles) (seen now-seen : Numbers) (old now : Disk)
      (followed : Followed index wide first here seen now-seen old now) where
    -- one more is
    pub followed-on : (later : EnteredFiles) (found : FileAt) (new : Disk) → EntersFile index wide here later found now new
        → IsWalkingDirectories index wide later new → (later-seen : Numbers)
        → ((n : ℕ) → is_met later-seen n
        ≡ (is_met now-seen n || (is_unused_directory found.content && ((id_of found.place).number == n))))
        → Followed index wide first later seen later-seen old new
    followed-on later found new enters walking later-seen meets = record {
      walking = walking;
      met = λ honest n.
          let image : now.image ≡ old.image = followed.reads.1.image in
          let honest' : IsTrue now.honest = followed.reads.1.honest ∙ honest in
          let leads : Place → Bool = leads_to wide old.image (table index old) n in
          let rest : List Place = entered_to_come index wide old later in
          let here-come : entered_to_come index wide old here ≡ found.place ∷ rest =
          sym (entered-later index wide old now image here) ∙ enters.next honest'
          ∙ ap (λ ps. found.place ∷ ps) (entered-later index wide old now image later) in
          let leads-here : (is_unused_directory found.content && ((id_of found.place).number == n)) ≡ leads found.place =
          leads-found index wide found now new enters.holds honest' n
          ∙ ap (λ (i : Image). leads_to wide i (table_in i index) n found.place) image in
          ap (λ (b : Bool). b || list_any leads rest) (meets n ∙ ap (λ (b : Bool). is_met now-seen n || b) leads-here)
          ∙ or_assoc (is_met now-seen n) (leads found.place) (list_any leads rest)
          ∙ ap (λ ps. is_met now-seen n || list_any leads ps) (sym here-come)
          ∙ followed.met honest n;
      reads = reads-then followed.reads (at-reads index wide found now new enters.holds);
    }

    -- or a transfer fails
    pub followed-part : (new : Disk) → Reads now new 1 → FollowsPart index wide first seen now-seen old new
    followed-part new fails = record {
      met = λ honest n met.
          sym (followed.met honest n)
          ∙ ap (λ (b : Bool). b || list_any (leads_to wide old.image (table index old) n) (entered_to_come index wide old here)) met;
      reads = reads-then followed.reads fails;
    }

    -- or none is left
    pub followed-all : (later : EnteredFiles) (new : Disk) → EntersNoMore index wide here later now new
        → FollowsAll index wide first seen now-seen old new
    followed-all later new none = record {
      met = λ honest n.
          let image : now.image ≡ old.image = followed.reads.1.image in
          let ended : entered_to_come index wide old here ≡ [] =
          sym (entered-later index wide old now image here) ∙ none.none (followed.reads.1.honest ∙ honest) in
          sym (or-false (is_met now-seen n))
          ∙ ap (λ ps. is_met now-seen n || list_any (leads_to wide old.image (table index old) n) ps) (sym ended)
          ∙ followed.met honest n;
      reads = reads-then followed.reads none.reads;
    }

-- What directories name is gone over, with copies of the numbers that were found.
module _ (index wide : Index) (master : FileId) (led copy new-numbers seen : Numbers) (files : EnteredFiles) (old mid : Disk)
    (is-new : IsNew new-numbers) (copies : (n : ℕ) → is_met copy n ≡ (is_met new-numbers n || is_met led n)) (none : IsNew seen)
    (begins : BeginsEntered index wide master (is_met copy) files old mid) where
  there : IsTrue old.honest → IsTrue mid.honest
  there honest = begins.reads.1.honest ∙ honest

  led-by : IsTrue old.honest → (n : ℕ)
      → (is_met seen n || list_any (leads_to wide mid.image (table index mid) n) (entered_to_come index wide mid files))
      ≡ is_led_by wide old.image (table index old) master (is_met led) n
  led-by honest n =
      let same : is_met copy ≡ is_met led =
      λ i. λ m. (copies m ∙ ap (λ (b : Bool). b || is_met led m) (is-new.none m)) i in
      ap (λ (b : Bool). b || list_any (leads_to wide mid.image (table index mid) n) (entered_to_come index wide mid files)) (none.none n)
      ∙ said-later (λ image t. list_any (leads_to wide image t n) (entered_to_come index wide mid files)) index begins.reads.1
      ∙ ap (list_any (leads_to wide old.image (table index old) n))
      (entered-later index wide old mid begins.reads.1.image files ∙ begins.all honest
      ∙ ap (entered_files wide old.image (table index old) master) same)

  -- to its end
  pub follows-entered : (later : Numbers) (new : Disk) → FollowsAll index wide files seen later mid new
      → FollowsEntered index wide master (is_met led) later false old new
  follows-entered later new follows = record {
    only = λ honest n met. sym (led-by honest n) ∙ sym (follows.met (there honest) n) ∙ met;
    whole = λ _ honest n led. follows.met (there honest) n ∙ led-by honest n ∙ led;
    reads = reads-then begins.reads follows.reads;
  }

  -- or until a transfer failed
  pub follows-part : (later : Numbers) (new : Disk) → FollowsPart index wide files seen later mid new
      → FollowsEntered index wide master (is_met led) later true old new
  follows-part later new follows = record {
    only = λ honest n met. sym (led-by honest n) ∙ follows.met (there honest) n met;
    whole = λ no. absurd cc;
    reads = reads-then begins.reads follows.reads;
  }

-- or none of it is, since it couldn't be begun with
pub follows-none : (index wide : Index) (master : FileId) (led : ℕ → Bool) (seen : Numbers) (old new : Disk) → IsNew seen
    → FailsToBegin DeviceFault old new → FollowsEntered index wide master led seen true old new
follows-none index wide master led seen old new none fails = record {
  only = λ honest n met. let no : false ≡ true = sym (none.none n) ∙ met in absurd cc;
  whole = λ no. absurd cc;
  reads = (_, fails);
}

-- a test that elements of a list pass, by what they give
any-given : {X Y : Type 0} (f : Y → Bool) (given : X → List Y) (xs : List X)
    → list_any f (flat_map given xs) ≡ list_any (λ x. list_any f (given x)) xs
any-given f given [] = refl
any-given f given (x ∷ xs) =
    ap (list_any f) (flat_map-cons given x xs)
    ∙ list_any-append f (given x) (flat_map given xs)
    ∙ ap (λ (b : Bool). list_any f (given x) || b) (any-given f given xs)

-- where one of these holds, one of those does
either : (a b b' : Bool) → (b ≡ true → b' ≡ true) → (a || b) ≡ true → (a || b') ≡ true
either true b b' more is = refl
either false b b' more is = more is

both-ways : (a a' b b' : Bool) → (a ≡ true → a' ≡ true) → (b ≡ true → b' ≡ true) → (a || b) ≡ true → (a' || b') ≡ true
both-ways true a' b b' more-a more-b is = ap (λ (c : Bool). c || b') (more-a refl)
both-ways false a' b b' more-a more-b is = ap (λ (c : Bool). a' || c) (more-b is) ∙ or-true a'

any-more : {X : Type 0} (f g : X → Bool) → ((x : X) → f x ≡ true → g x ≡ true) → (xs : List X) → list_any f xs ≡ true
    → list_any g xs ≡ true
any-more f g more [] is = is
any-more f g more (x ∷ xs) is = both-ways (f x) (g x) (list_any f xs) (list_any g xs) (more x) (any-more f g more xs) is

-- Where others lead to more numbers there are more places.
module _ (wide : Index) (image : Image) (t : Table) (master : FileId) (few more : ℕ → Bool)
    (all : (n : ℕ) → few n ≡ true → more n ≡ true) (meets : Place → Bool) where
  abbrev known : ℕ → Bool
  known = is_named (named_directories wide image t master)

  abbrev in_it : DirectoryAt → Bool
  in_it d = list_any meets (places_in wide image t d)

  abbrev in_led : (ℕ → Bool) → ℕ → Bool
  in_led led n = list_any in_it (led_directory wide image t led known n)

  abbrev of_led : Bool → ℕ → Bool
  of_led b n = list_any in_it (cond (b && not (known n)) (unused_directory wide image t n) [])

  in-more : (n : ℕ) → in_led few n ≡ true → in_led more n ≡ true
  in-more n is = elim (cases_Bool (few n)) [
    | inl so ↦ ap (λ (b : Bool). of_led b n) (all n so ∙ sym so) ∙ is
    | inr not-so ↦ let no : false ≡ true = sym (ap (λ (b : Bool). of_led b n) not-so) ∙ is in absurd cc
  ]

  abbrev numbers : List ℕ
  numbers = range_with_len 1 (table_in image wide).slots

  parts : (led : ℕ → Bool) → list_any meets (entered_files wide image t master led)
      ≡ (list_any in_it (named_directories wide image t master)
      || (list_any in_it (own_directories image t known 1 t.slots) || list_any (in_led led) numbers))
  parts led =
      any-given meets (places_in wide image t) (all_directories wide image t master led)
      ∙ list_any-append in_it (named_directories wide image t master) (other_directories wide image t led known)
      ∙ ap (λ (b : Bool). list_any in_it (named_directories wide image t master) || b)
      (list_any-append in_it (own_directories image t known 1 t.slots)
      (led_directories wide image t led known 1 (table_in image wide).slots)
      ∙ ap (λ (b : Bool). list_any in_it (own_directories image t known 1 t.slots) || b)
      (any-given in_it (led_directory wide image t led known) numbers))

  pub more-entered : list_any meets (entered_files wide image t master few) ≡ true
      → list_any meets (entered_files wide image t master more) ≡ true
  more-entered is =
      parts more
      ∙ either (list_any in_it (named_directories wide image t master)) _ _
      (either (list_any in_it (own_directories image t known 1 t.slots)) _ _ (any-more (in_led few) (in_led more) in-more numbers))
      (sym (parts few) ∙ is)

-- So many numbers were found to which directories lead: no others are among them, and that of the master file directory is if it leads.
pub record LeadsOn (index wide : Index) (master : FileId) (led : Numbers) (old now : Disk) : Type 0 where
  pub only : IsTrue old.honest → HasOnlyLed wide old.image (table index old) master (is_met led)
  pub master_is : IsTrue old.honest → (n : ℕ) → is_unused wide old.image (table index old) n master ≡ true → is_met led n ≡ true
  pub first : led.next ≡ 1
  pub reads : Reads old now 0

module _ (index wide : Index) (master : FileId) where
  -- at first the latter alone is
  pub leads-first : (new-numbers led : Numbers) (content : Content) (old new : Disk) → IsNew new-numbers
      → Holds index wide master content old new
      → ((n : ℕ) → is_met led n ≡ (is_met new-numbers n || (is_unused_directory content && (master.number == n))))
      → led.next ≡ new-numbers.next → LeadsOn index wide master led old new
  leads-first new-numbers led content old new is-new holds meets next = record {
    only = λ honest other has n met.
        has n (ap (λ (b : Bool). b || list_any (leads_to wide old.image (table index old) n)
        (entered_files wide old.image (table index old) master other)) (sym (met-is honest n) ∙ met));
    master_is = λ honest n is. met-is honest n ∙ is;
    first = next ∙ is-new.first;
    reads = holds-reads index wide master content old new holds;
  }
    where
      met-is : IsTrue old.honest → (n : ℕ) → is_met led n ≡ is_unused wide old.image (table index old) n master
      met-is honest n =
          meets n
          ∙ ap (λ (b : Bool). b || (is_unused_directory content && (master.number == n))) (is-new.none n)
          ∙ ap (λ (b : Bool). b && (master.number == n)) (unused-found index wide master content old new holds honest)

  -- a transfer failed before any other was found
  pub leads-none : (led : Numbers) (old new : Disk) → IsNew led → Reads old new 1 → FindsAllLed index wide master led true old new
  leads-none led old new is-new fails = record {
    only = λ honest other has n met. let no : false ≡ true = sym (is-new.none n) ∙ met in absurd cc;
    whole = λ no. absurd cc;
    first = is-new.first;
    reads = fails;
  }

  module _ (led seen : Numbers) (failed : Bool) (old now new : Disk) (leads : LeadsOn index wide master led old now)
      (follows : FollowsEntered index wide master (is_met led) seen failed now new) (later : Numbers)
      (meets : (n : ℕ) → is_met later n ≡ (is_met led n || is_met seen n)) (next : later.next ≡ led.next) where
    abbrev t : Table
    t = table index old

    abbrev by : ℕ → Bool
    by = is_led_by wide old.image t master (is_met led)

    same-by : (n : ℕ) → is_led_by wide now.image (table index now) master (is_met led) n ≡ by n
    same-by n =
        said-later (λ image t. list_any (leads_to wide image t n) (entered_files wide image t master (is_met led))) index leads.reads.1

    only-more : IsTrue old.honest → HasOnlyLed wide old.image t master (is_met later)
    only-more honest other has n met = elim (cases_Bool (is_met led n)) [
      | inl before ↦ leads.only honest other has n before
      | inr not-before ↦
          let seen-so : is_met seen n ≡ true = sym (ap (λ (b : Bool). b || is_met seen n) not-before) ∙ sym (meets n) ∙ met in
          let led-so : by n ≡ true = sym (same-by n) ∙ follows.only (leads.reads.1.honest ∙ honest) n seen-so in
          has n (ap (λ (b : Bool). is_unused wide old.image t n master || b)
          (more-entered wide old.image t master (is_met led) other (leads.only honest other has) (leads_to wide old.image t n) led-so)
          ∙ or-true (is_unused wide old.image t n master))
    ]

    -- then those to which directories lead that are gone over
    pub leads-more : failed ≡ false → LeadsOn index wide master later old new
    leads-more well = record {
      only = only-more;
      master_is = λ honest n is. meets n ∙ ap (λ (b : Bool). b || is_met seen n) (leads.master_is honest n is);
      first = next ∙ leads.first;
      reads = reads-then leads.reads (subst (λ (b : Bool). Reads now new (one_if b)) well follows.reads);
    }

    -- until these are no more, or a transfer failed
    pub leads-all : (failed ≡ false → (n : ℕ) → is_met later n ≡ is_met led n) → FindsAllLed index wide master later failed old new
    leads-all same = record {
      only = only-more;
      whole = λ well honest n is.
          let same-met : is_met later ≡ is_met led = λ i. λ m. same well m i in
          same well n
          ∙ all-in well honest n (sym (ap (λ (f : ℕ → Bool). is_led wide old.image t master f n) same-met) ∙ is);
      first = next ∙ leads.first;
      reads = reads-then leads.reads follows.reads;
    }
      where
        all-in : failed ≡ false → IsTrue old.honest → (n : ℕ) → is_led wide old.image t master (is_met led) n ≡ true
            → is_met led n ≡ true
        all-in well honest n is = elim (cases_Bool (is_unused wide old.image t n master)) [
          | inl first ↦ leads.master_is honest n first
          | inr other ↦
              let led-so : by n ≡ true = sym (ap (λ (b : Bool). b || by n) other) ∙ is in
              let so : is_met seen n ≡ true = follows.whole well (leads.reads.1.honest ∙ honest) n (same-by n ∙ led-so) in
              sym (same well n) ∙ meets n ∙ ap (λ (b : Bool). is_met led n || b) so ∙ or-true (is_met led n)
        ]
