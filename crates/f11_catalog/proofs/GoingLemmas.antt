-- The directories that the master file directory names, one after another, and behind them those that it doesn't name.
use Rattle.std.proofs.Common.{◌≡◌, ◌≢◌, ◌⊎◌, ◌++◌, ◌+◌, ◌-◌, ◌<◌, ◌≤◌, ◌||◌, ◌==◌, ℕ, Bool, false, true, IsTrue, List, [], ◌∷◌}
use Rattle.std.proofs.Common.{Option, Some, None, SomeIff, cond, refl, sym, ap, subst, ◌∙◌, inl, inr, arith}
use Rattle.std.proofs.lemmas.Bool.{cases_Bool}
use Rattle.f11_chain.specs.Calls.{FindsNoFile, table}
use Rattle.f11_dev.specs.Disk.{Disk}
use Rattle.f11_dev.specs.Image.{Image}
use Rattle.f11_dir.specs.Records.{record_of_bytes}
use Rattle.f11_dir.specs.declared.record.Record.{Record}
use Rattle.f11_header.specs.Fields.{file_sequence, ident_area}
use Rattle.f11_index.specs.IndexFile.{Index, slots}
use Rattle.f11_index.specs.Table.{IsFile, Table, table_in}
use Rattle.f11_rad50.specs.Name.{IsName}
use Rattle.f11_reader.specs.Reading.{OpensSlot, header_in_hand, id_in_hand}
use Rattle.f11_reader.specs.declared.file.FileReader.{FileReader}
use Rattle.f11_store.specs.File.{File}
use Rattle.f11_store.specs.declared.files.FileId.{FileId}
use Rattle.f11_store.specs.declared.refusals.Refusal.TheVariants.{NotDirectory}
use Rattle.f11_catalog.specs.AllDirectories.{DirectoryAt, all_directories, directories_under, directory_by, directory_in, directory_under}
use Rattle.f11_catalog.specs.AllDirectories.{id_at, is_named, led_directories, name_in, named_directories, own_directories, own_directory}
use Rattle.f11_catalog.specs.DirectoryNames.{directory_called}
use Rattle.f11_catalog.specs.Facts.{is_directory_header}
use Rattle.f11_catalog.specs.GoingOver.{ComesToDirectory, FindsLed, FindsNamed, FindsNoLed, FindsNoNamed, FindsNoUnnamed}
use Rattle.f11_catalog.specs.GoingOver.{FindsUnnamed, GivesDirectory}
use Rattle.f11_catalog.specs.GoingOver.{HasNoDirectory, IsUnderItsName, OpensMaster, OpensNamed, TakesInHand, at_hand, directories_left}
use Rattle.f11_catalog.specs.GoingOver.{directories_to_come, is_masters, led_to_come, named_to_come, rest_to_come, unnamed_to_come}
use Rattle.f11_catalog.specs.Lines.{names_directory}
use Rattle.f11_catalog.specs.Records.{FindsDirectory, Reads, ReadsRecord, file_found, file_named, found_to_come, index_by, records_found}
use Rattle.f11_catalog.specs.Steps.{EntersNone, IsNew, is_met}
use Rattle.f11_catalog.specs.declared.directory.DirectoryReader.{DirectoryReader}
use Rattle.f11_catalog.specs.declared.found.FoundDirectory.{FoundDirectory}
use Rattle.f11_catalog.specs.declared.directory_name.DirectoryName.{DirectoryName}
use Rattle.f11_catalog.specs.declared.walk.state.Directories.{Directories}
use Rattle.f11_catalog.specs.declared.walk.state.OpenDirectory.{OpenDirectory}
use Rattle.f11_catalog.specs.declared.walk.state.Numbers.{Numbers}
use Rattle.f11_catalog.proofs.ComingLemmas.{named-none as no-file-named}
use Rattle.f11_catalog.proofs.DirectoryLemmas.{by-name, readable-names, refused-none}
use Rattle.f11_catalog.proofs.ListingLemmas.{coming-later, reads-none, reads-then}
use Rattle.f11_catalog.proofs.OpenLemmas.{OpensDirectory, begins, finds-in-use, is-refused}
use Rattle.f11_catalog.proofs.ScanLemmas.{SeesNone, none-first, none-here, sees-front}
use Rattle.f11_catalog.proofs.TurnLemmas.{turn-begin, turn-behind, turn-first}
use Rattle.f11_catalog.proofs.WalkLemmas.{Passed, before-mid, passed-on, passed-to}

-- the directory that is called so and has this identification
abbrev pub called : DirectoryName → FileId → DirectoryAt
called name id = record { name = name; id = id }

-- a directory's number
abbrev has_number : DirectoryAt → ℕ → Bool
has_number directory n = directory.id.number == n

-- The same directories are to come where the image is the same.
module _ (index wide : Index) (old now : Disk) where
  pub named-later : now.image ≡ old.image → (master : Option FoundDirectory)
      → named_to_come index wide now master ≡ named_to_come index wide old master
  named-later image None = refl
  named-later image (Some master) =
      ap (λ (i : Image). directories_under wide i (table_in i index) (found_to_come index wide now master)) image
      ∙ ap (directories_under wide old.image (table index old))
      (coming-later (index_by master.in_use index wide) old now master.directory image)

  pub directories-later : now.image ≡ old.image → (directories : Directories)
      → directories_to_come index wide now directories ≡ directories_to_come index wide old directories
  unfolding directories_to_come
  directories-later image directories =
      ap (λ (ds : List DirectoryAt). ds
      ++ rest_to_come wide now.image (table index now) (λ n. is_met directories.others n || is_named ds n) directories)
      (named-later image directories.master)
      ∙ ap (λ (i : Image). named_to_come index wide old directories.master
      ++ rest_to_come wide i (table_in i index) (is_masters index wide old directories) directories) image

  -- behind what was read a directory is taken in hand
  pub takes-behind : Reads old now 0 → (hand : OpenDirectory) (new : Disk) → TakesInHand index wide hand now new
      → TakesInHand index wide hand old new
  takes-behind reads hand new takes = record {
    reading = takes.reading;
    records = λ honest.
        sym (coming-later (index_by hand.found.in_use index wide) old now hand.found.directory reads.1.image)
        ∙ takes.records (reads.1.honest ∙ honest)
        ∙ ap (λ (i : Image). records_found wide i (table_in i index) hand.id) reads.1.image;
    reads = reads-then reads takes.reads;
  }

-- A record of the master file directory that has a name.
module _ (bytes : List ℕ) (r : Record) (is : r ≡ record_of_bytes bytes) (index wide : Index) (name : List ℕ)
    (named : SomeIff (Some name) ((r.id.number ≢ 0) × IsName r.words) r.words) (old new : Disk) where
  gives : (image : Image) (t : Table)
      → directory_under wide image t bytes ≡ directory_in (file_found wide image t r.id) r.id (directory_called name)
  gives image t = by-name bytes r is [] (λ id. directory_by (file_found wide image t id) id) name named

  -- it names no directory
  pub named-none : EntersNone (λ image t. directory_in (file_found wide image t r.id) r.id (directory_called name)) index old new
      → EntersNone (λ image t. directory_under wide image t bytes) index old new
  named-none none = record { none = λ honest. gives old.image (table index old) ∙ none.none honest; reads = none.reads }

  -- or one
  pub named-opens : (hand : OpenDirectory)
      → OpensNamed (λ image t. directory_in (file_found wide image t r.id) r.id (directory_called name)) index wide hand old new
      → OpensNamed (λ image t. directory_under wide image t bytes) index wide hand old new
  named-opens hand opens =
      record { one = λ honest. gives old.image (table index old) ∙ opens.one honest; takes = opens.takes }

-- The next directory was opened behind records that name none.
module _ (by index wide : Index) (first here : DirectoryReader) (old now : Disk)
    (passed : Passed (λ image _. directory_under wide image (table_in image index)) by first here old now) (later : DirectoryReader)
    (r : Record)
    (mid : Disk) (read : ReadsRecord by here later r now mid) where
  abbrev under : Image → Table → List ℕ → List DirectoryAt
  under image t = directory_under wide image (table_in image index)

  pub directory-comes : (next : Disk) (hand : OpenDirectory)
      → OpensNamed (λ image t. directory_under wide image t read.bytes) index wide hand mid next
      → ComesToDirectory by index wide first later hand old next
  directory-comes next hand opens = record {
    comes = passed-to under by first here old now passed later r mid read next (at_hand hand ∷ []) opens.one opens.takes.reads;
    takes = takes-behind index wide old mid (before-mid under by first here old now passed later r mid read) hand next opens.takes;
  }

  -- or behind more of them
  pub directory-passed : (next : Disk) → EntersNone (λ image t. directory_under wide image t read.bytes) index mid next
      → Passed under by first later old next
  directory-passed next none =
      passed-on under by first here old now passed later r mid read next (record { none = none.none; reads = none.reads })

-- The master file directory names no more.
pub no-master : (index wide : Index) (master : Option FoundDirectory) (disk : Disk) → master ≡ None
    → FindsNoNamed index wide master master disk disk
no-master index wide master disk is = record {
  none = λ _. ap (named_to_come index wide disk) is;
  ended = λ _. ap (named_to_come index wide disk) is;
  no_more = omega arith;
  reads = reads-none disk;
}

-- A slot was looked at.
module _ (index : Index) (n : ℕ) (old new : Disk) where
  -- by an identification that names no directory there is none
  pub by-other : (found : Option File) (id : FileId) → names_directory found ≡ false → (name : Option (List ℕ))
      → directory_by found id name ≡ []
  by-other found id is None = refl
  by-other found id is (Some words) = ap (λ (b : Bool). cond b (called (directory_called words) id ∷ []) []) is

  -- the directory that the file has there, known or not
  abbrev own : List DirectoryAt
  own = directory_by (file_named old.image (table index old) (id_at (table index old) n)) (id_at (table index old) n)
      (name_in (ident_area ((table index old).header n)))

  none-anyway : (known : ℕ → Bool) → own ≡ [] → own_directory old.image (table index old) known n ≡ []
  none-anyway known none = elim (cases_Bool (known n)) [
    | inl met ↦ ap (λ (b : Bool). cond b [] own) met
    | inr unmet ↦ ap (λ (b : Bool). cond b [] own) unmet ∙ none
  ]

  -- no file's first header is in it
  pub slot-none : (known : ℕ → Bool) → FindsNoFile index n old new → EntersNone (λ image t. own_directory image t known n) index old new
  slot-none known none = record {
    none = λ honest.
        let t : Table = table index old in
        none-anyway known (by-other (file_named old.image t (id_at t n)) (id_at t n)
        (ap names_directory (no-file-named old.image t (id_at t n)
        (λ m is. none.no_file honest (subst (λ (k : ℕ). IsFile t k) (sym is.number) is.file))))
        (name_in (ident_area (t.header n))));
    reads = (_, none.looked);
  }

  -- or a file's is
  module _ (file : FileReader) (opens : OpensSlot index n file old new) where
    own-is : IsTrue old.honest
        → own ≡ directory_by (file_named old.image (table index old) (id_in_hand file)) (id_in_hand file)
        (name_in (ident_area (header_in_hand file)))
    own-is honest =
        let t : Table = table index old in
        let header : t.header n ≡ header_in_hand file = ap t.header (sym opens.number) ∙ sym (opens.opens.header_is honest) in
        let id : id_at t n ≡ id_in_hand file =
        ap (id_at t) (sym opens.number)
        ∙ ap (λ (h : List ℕ). record { number = file.number; sequence = file_sequence h; volume = 0 })
        (sym (opens.opens.header_is honest)) in
        ap (λ (i : FileId). directory_by (file_named old.image t i) i (name_in (ident_area (t.header n)))) id
        ∙ ap (λ (h : List ℕ). directory_by (file_named old.image t (id_in_hand file)) (id_in_hand file) (name_in (ident_area h))) header

    -- which has no name, or is no directory
    pub own-none : (known : ℕ → Bool)
        → (name_in (ident_area (header_in_hand file)) ≡ None) ⊎ (is_directory_header (header_in_hand file) ≡ false)
        → EntersNone (λ image t. own_directory image t known n) index old new
    own-none known other = record {
      none = λ honest.
          let t : Table = table index old in
          none-anyway known (own-is honest ∙ elim other [
            | inl nameless ↦ ap (directory_by (file_named old.image t (id_in_hand file)) (id_in_hand file)) nameless
            | inr fails ↦
                by-other (file_named old.image t (id_in_hand file)) (id_in_hand file)
                (refused-none (file_named old.image t (id_in_hand file)) NotDirectory
                (is-refused index (id_in_hand file) file old new opens.opens fails honest))
                (name_in (ident_area (header_in_hand file)))
          ]);
      reads = (_, opens.opens.looked);
    }

    -- or is one under its own name
    pub own-opens : (known : ℕ → Bool) → known n ≡ false → (hand : OpenDirectory) → IsUnderItsName file true hand → (wide : Index)
        → OpensNamed (λ image t. own_directory image t known n) index wide hand old new
    own-opens known unmet hand under wide = record {
      one = λ honest.
          let t : Table = table index old in
          ap (λ (b : Bool). cond b [] own) unmet
          ∙ own-is honest
          ∙ ap (directory_by (file_named old.image t (id_in_hand file)) (id_in_hand file)) under.named
          ∙ ap (λ (b : Bool). cond b (called (directory_called under.words) (id_in_hand file) ∷ []) [])
          (readable-names (file_named old.image t (id_in_hand file)) (all.readable honest))
          ∙ ap (λ (name : DirectoryName). called name (id_in_hand file) ∷ []) (sym under.name)
          ∙ ap (λ (id : FileId). called hand.name id ∷ []) (sym under.id);
      takes = record {
        reading = found.reading;
        records = λ honest. found.records honest ∙ ap (records_found wide old.image (table index old)) (sym under.id);
        reads = (_, found.looked);
      };
    }
      where
        all : OpensDirectory index (id_in_hand file) hand.found.directory old new
        all = begins index (id_in_hand file) file old new opens.opens hand.found.directory under.begins

        found : FindsDirectory index wide (id_in_hand file) hand.found old new
        found = finds-in-use index wide (id_in_hand file) file old new opens.opens hand.found (under.in_use, under.begins)

-- So many slots were looked at, and none gives a directory.
module _ (known : ℕ → Bool) (index : Index) (first here : Numbers) (old now : Disk)
    (seen : SeesNone (λ image t. own_directory image t known) index first here old now) where
  -- nor do others
  pub finds-no-unnamed : slots index < here.next → FindsNoUnnamed known index first here old now
  finds-no-unnamed past = record {
    none = λ honest. none-first (λ known image t. own_directory image t known) known index first here old now seen past honest;
    ended = λ _. none-here (λ known image t. own_directory image t known) known index first here old now seen past;
    forward = seen.forward;
    reads = seen.reads;
  }

  -- or the next one does
  pub finds-unnamed : (later : Numbers) → here.next ≤ slots index → later.next ≡ here.next + 1 → (met : ℕ → Bool) (n : ℕ) → met ≡ known
      → n ≡ here.next → (hand : OpenDirectory) (new : Disk) (wide : Index)
      → OpensNamed (λ image t. own_directory image t met n) index wide hand now new
      → FindsUnnamed known index wide first later hand old new
  finds-unnamed later inside on met n same-met same-n hand new wide opens = record {
    next = λ honest.
        sees-front (λ known image t. own_directory image t known) known index first here old now seen later inside on met n same-met same-n
        (at_hand hand ∷ []) opens.one honest;
    forward = omega (arith, seen.forward, on);
    takes = takes-behind index wide old now seen.reads hand new opens.takes;
  }

-- The next directory is one that the master file directory names.
module _ (index wide : Index) (directories later : Directories) (hand : OpenDirectory) (old new : Disk) where
  pub gives-named : FindsNamed index wide directories.master later.master hand old new
      → ((n : ℕ) → is_met later.others n ≡ (is_met directories.others n || (hand.id.number == n)))
      → later.others.next ≡ directories.others.next → later.led ≡ directories.led → GivesDirectory index wide directories later hand old new
  unfolding directories_to_come directories_left
  gives-named finds met next led = record {
    next = λ honest.
        let t : Table = table index old in
        let over : ℕ → Bool = is_masters index wide old later in
        turn-first has_number (λ f. rest_to_come wide old.image t f directories) (is_met directories.others) (is_met later.others)
        (at_hand hand) (named_to_come index wide old directories.master) (named_to_come index wide old later.master) (finds.next honest) met
        ∙ ap (λ (k : ℕ). at_hand hand ∷ (named_to_come index wide old later.master
        ++ (own_directories old.image t over k (t.slots + 1 - k) ++ led_to_come wide old.image t over directories.led))) (sym next)
        ∙ ap (λ (l : Numbers). at_hand hand ∷ (named_to_come index wide old later.master
        ++ (unnamed_to_come old.image t over later.others ++ led_to_come wide old.image t over l))) (sym led);
    fewer = let same = ap (λ (l : Numbers). l.next) led in omega (arith, finds.fewer, next, same);
    takes = finds.takes;
  }

-- It names no more.
module _ (index wide : Index) (directories : Directories) (left : Option FoundDirectory) (old mid : Disk)
    (ended : FindsNoNamed index wide directories.master left old mid) where
  abbrev known : ℕ → Bool
  known = is_met directories.others

  abbrev behind : Numbers → Numbers → Directories
  behind others led = record { master = left; others = others; led = led }

  others-later : (f : ℕ → Bool) (others : Numbers)
      → unnamed_to_come mid.image (table index mid) f others ≡ unnamed_to_come old.image (table index old) f others
  others-later f others = ap (λ (i : Image). unnamed_to_come i (table_in i index) f others) ended.reads.1.image

  first-others : IsTrue old.honest → directories_to_come index wide old directories
      ≡ rest_to_come wide old.image (table index old) known directories
  unfolding directories_to_come
  first-others honest =
      turn-behind has_number (λ f. rest_to_come wide old.image (table index old) f directories) known
      (named_to_come index wide old directories.master) (ended.none honest)

  later-others : (others led : Numbers) → is_met others ≡ known → IsTrue old.honest
      → directories_to_come index wide old (behind others led) ≡ rest_to_come wide old.image (table index old) known (behind others led)
  unfolding directories_to_come
  later-others others led met honest =
      turn-behind has_number (λ f. rest_to_come wide old.image (table index old) f (behind others led)) (is_met others)
      (named_to_come index wide old left) (ended.ended honest)
      ∙ ap (λ (f : ℕ → Bool). rest_to_come wide old.image (table index old) f (behind others led)) met

  -- the next directory is one that it doesn't name
  pub gives-unnamed : (others led : Numbers) → led ≡ directories.led → (hand : OpenDirectory) (new : Disk)
      → FindsUnnamed known index wide directories.others others hand mid new → is_met others ≡ known
      → GivesDirectory index wide directories (behind others led) hand old new
  unfolding directories_left
  gives-unnamed others led' same hand new finds met =
      subst (λ (l : Numbers). GivesDirectory index wide directories (behind others l) hand old new) (sym same) (record {
        next = λ honest.
            let led : List DirectoryAt = led_to_come wide old.image (table index old) known directories.led in
            first-others honest
            ∙ ap (λ ds. ds ++ led) (sym (others-later known directories.others) ∙ finds.next (ended.reads.1.honest ∙ honest)
            ∙ ap (λ ds. at_hand hand ∷ ds) (others-later known others))
            ∙ ap (λ ds. at_hand hand ∷ ds) (sym (later-others others directories.led met honest));
        fewer = omega (arith, ended.no_more, finds.forward, others.few);
        takes = takes-behind index wide old mid ended.reads hand new finds.takes;
      })

  -- none is
  module _ (others : Numbers) (met : is_met others ≡ known) (next : Disk)
      (none : FindsNoUnnamed known index directories.others others mid next) where
    there : Reads old next 0
    there = reads-then ended.reads none.reads

    led-later : (led : Numbers)
        → led_to_come wide next.image (table index next) known led ≡ led_to_come wide old.image (table index old) known led
    led-later led = ap (λ (i : Image). led_to_come wide i (table_in i index) known led) there.1.image

    first-led : IsTrue old.honest
        → directories_to_come index wide old directories ≡ led_to_come wide old.image (table index old) known directories.led
    first-led honest =
        first-others honest
        ∙ ap (λ ds. ds ++ led_to_come wide old.image (table index old) known directories.led)
        (sym (others-later known directories.others) ∙ none.none (ended.reads.1.honest ∙ honest))

    later-led : (led : Numbers) → IsTrue old.honest
        → directories_to_come index wide old (behind others led) ≡ led_to_come wide old.image (table index old) known led
    later-led led honest =
        later-others others led met honest
        ∙ ap (λ ds. ds ++ led_to_come wide old.image (table index old) known led)
        (sym (others-later known others) ∙ none.ended (ended.reads.1.honest ∙ honest))

    -- the next is one to which others lead
    pub gives-led : (led : Numbers) (hand : OpenDirectory) (new : Disk) (by : ℕ → Bool) → by ≡ known
        → FindsLed by index wide directories.led led hand next new
        → GivesDirectory index wide directories (behind others led) hand old new
    unfolding directories_left
    gives-led led hand new by is finds = record {
      next = λ honest.
          let so : FindsLed known index wide directories.led led hand next new =
          subst (λ (f : ℕ → Bool). FindsLed f index wide directories.led led hand next new) is finds in
          first-led honest
          ∙ sym (led-later directories.led)
          ∙ so.next (there.1.honest ∙ honest)
          ∙ ap (λ ds. at_hand hand ∷ ds) (led-later led ∙ sym (later-led led honest));
      fewer = omega (arith, ended.no_more, none.forward, finds.forward, others.few, led.few);
      takes = takes-behind index wide old next there hand new finds.takes;
    }

    -- or none is left
    pub no-directory-left : (led : Numbers) (new : Disk) (by : ℕ → Bool) → by ≡ known
        → FindsNoLed by index wide directories.led led next new
        → HasNoDirectory index wide directories (behind others led) old new
    unfolding directories_left
    no-directory-left led new by is finds = record {
      none = λ honest. first-led honest ∙ sym (led-later directories.led) ∙ so.none (there.1.honest ∙ honest);
      ended = λ honest. later-led led honest ∙ sym (led-later led) ∙ so.ended (there.1.honest ∙ honest);
      no_more = omega (arith, ended.no_more, none.forward, finds.forward);
      reads = reads-then there finds.reads;
    }
      where
        so : FindsNoLed known index wide directories.led led next new
        so = subst (λ (f : ℕ → Bool). FindsNoLed f index wide directories.led led next new) is finds

-- At first all directories are to come.
pub all-to-come : (index wide : Index) (id : FileId) (directories : Directories) (old new : Disk)
    → OpensMaster index wide id directories.master old new → IsNew directories.others → directories.led.next ≡ 1 → IsTrue old.honest
    → directories_to_come index wide old directories ≡ all_directories wide old.image (table index old) id (is_met directories.led)
unfolding directories_to_come
all-to-come index wide id directories old new opens begins first honest =
    let t : Table = table index old in
    let u : Table = table wide old in
    let led : ℕ → Bool = is_met directories.led in
    let named : List DirectoryAt = named_directories wide old.image t id in
    let known : ℕ → Bool = is_named named in
    let count : t.slots + 1 - 1 ≡ t.slots = omega arith in
    let wide_count : u.slots + 1 - 1 ≡ u.slots = omega arith in
    turn-begin has_number (λ f. rest_to_come wide old.image t f directories) (is_met directories.others)
    (named_to_come index wide old directories.master) named (opens.come honest) begins.none
    ∙ ap (λ (k : ℕ). named ++ (own_directories old.image t known k (t.slots + 1 - k)
    ++ led_to_come wide old.image t known directories.led)) begins.first
    ∙ ap (λ (c : ℕ). named ++ (own_directories old.image t known 1 c ++ led_to_come wide old.image t known directories.led)) count
    ∙ ap (λ (k : ℕ). named ++ (own_directories old.image t known 1 t.slots
    ++ led_directories wide old.image t led known k (u.slots + 1 - k))) first
    ∙ ap (λ (c : ℕ). named ++ (own_directories old.image t known 1 t.slots ++ led_directories wide old.image t led known 1 c)) wide_count
